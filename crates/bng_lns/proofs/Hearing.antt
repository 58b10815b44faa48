-- What a tunnel that was found does with a message, and one that is made.
use Rattle.std.proofs.Common.{◌≡◌, ℕ, ◌<◌, ◌≤◌, Bool, true, false, ◌&&◌, cond, nat_lt, Option, None, Some, List, [], ◌∷◌, length, slice_get, set, refl, sym, ap, subst, ◌∙◌, arith}
use Rattle.std.specs.Prelude.{IsSome, find, position}
use Rattle.std.specs.List.{AllByRecursion}
use Rattle.std.proofs.lemmas.Bool.{ltb-true, and_left, both_ways, eq-eqb}
use Rattle.bng_base.specs.declared.settings.Lac.{Lac}
use Rattle.bng_l2tp_wire.specs.Messages.{ControlMessage}
use Rattle.bng_l2tp_wire.specs.declared.message.TheConstants.{SCCRQ}
use Rattle.bng_l2tp_tunnel.specs.declared.phase.TunnelPhase.{TunnelPhase}
use Rattle.bng_l2tp_tunnel.specs.declared.phase.TunnelPhase.TheVariants.{Idle, Replied, Established, Cleared}
use Rattle.bng_l2tp_tunnel.specs.Messages.{is_of_call}
use Rattle.bng_l2tp_wire.specs.Judge.{is_type}
use Rattle.bng_l2tp_tunnel.specs.Sound.{IsTunnel, IsSentTo, IsSpelled, is_delivered, is_for_call}
use Rattle.bng_l2tp_tunnel.specs.Steps.{Step, stands, is_established, message_step, heard_by as heard_by_channel}
use Rattle.bng_l2tp_tunnel.specs.TunnelState.{TunnelState, Lasting, lasting_of}
use Rattle.bng_l2tp_wire.specs.Values.{message_type, assigned_tunnel}
use Rattle.bng_l2tp_wire.specs.View.{Said}
use Rattle.bng_lns.specs.declared.place.TunnelPlace.{TunnelPlace}
use Rattle.bng_lns.specs.declared.outcome.Came.{Came}
use Rattle.bng_lns.specs.Places.{number_at, is_again, is_named, place_of, put_at, IsPlace, ArePlaces}
use Rattle.bng_lns.specs.Tunnels.{TunnelsState, tunnel_at, free_place, vacant, lac_of, secret_of, requested, requested_by, Answer, NoTunnel, NoRequest, Steps, outs_of, hands_over, number_of, IsTaken, Outcome, outcome, heard_by, made_by, hear}
use Rattle.bng_lns.proofs.Finding.{some_there, found_at, found_within, none_found}
use Rattle.bng_lns.proofs.Numbered.{numbered_self, set_stepped, stands_there}

-- datagrams to a peer's tunnel are control messages
pub sent_spelled : (tunnel nr : ℕ) (outs : List (List ℕ)) → AllByRecursion (IsSentTo tunnel nr) outs → AllByRecursion IsSpelled outs
sent_spelled tunnel nr [] h = tt
sent_spelled tunnel nr (o ∷ outs) h = ((h.0.message, h.0.text), sent_spelled tunnel nr outs h.1)

pub no_tunnel_taken : (t : TunnelsState) → IsTaken NoTunnel t
no_tunnel_taken t = record { spelled = tt; few = omega arith; room = λ no. absurd cc; stands = λ no. absurd cc }

pub no_request_taken : (t : TunnelsState) → IsTaken NoRequest t
no_request_taken t = record { spelled = tt; few = omega arith; room = λ no. absurd cc; stands = λ no. absurd cc }

-- A tunnel that was found ------------------------------------------------------------------------------------------------------------------

module _ (t : TunnelsState) (came : Came) (m : ControlMessage) (k : ℕ) (p : TunnelPlace) (there : slice_get t.places k ≡ Some p) where
  pub heard_answer : (a : Answer) → a ≡ Steps p.tunnel.number (message_step p.tunnel m came.random came.moment).said → a ≡ (heard_by t came m (slice_get t.places k)).answer
  heard_answer a e = e ∙ ap (λ (o : Option TunnelPlace). (heard_by t came m o).answer) (sym there)

  pub heard_after : (first : ℕ) (q : TunnelPlace) → ArePlaces first t.places → stands p.tunnel.phase ≡ true → q ≡ place_of came.moment (message_step p.tunnel m came.random came.moment).after
      → record t { places = set t.places k q } ≡ (heard_by t came m (slice_get t.places k)).after
  heard_after first q are e f =
      let after = (message_step p.tunnel m came.random came.moment).after in
      ap (λ (x : TunnelPlace). let s : TunnelsState = record t { places = set t.places k x } in s) f
      ∙ ap (λ (ps : List TunnelPlace). let s : TunnelsState = record t { places = ps } in s) (set_stepped came.moment p.tunnel.number after first t.places k p are there (numbered_self p e))
      ∙ ap (λ (o : Option TunnelPlace). (heard_by t came m o).after) (sym there)

  pub heard_taken : (a : Answer) (q : TunnelPlace) → AllByRecursion IsSpelled (outs_of a) → length (outs_of a) ≤ 9 → (hands_over a ≡ true → length (outs_of a) ≤ 8) → (hands_over a ≡ true → stands q.tunnel.phase ≡ true)
      → number_of a ≡ q.tunnel.number → IsTaken a (record t { places = set t.places k q })
  heard_taken a q spelled few room stands_after e = record {
    spelled = spelled;
    few = few;
    room = room;
    stands = λ yes. subst (λ (n : ℕ). IsSome (tunnel_at (record t { places = set t.places k q }) n)) (sym e) (stands_there t.shard t.places k p q there (stands_after yes));
  }

-- An SCCRQ ---------------------------------------------------------------------------------------------------------------------------------

module _ (name : List ℕ) (lac : Option Lac) (t : TunnelsState) (came : Came) (m : ControlMessage) where
  abbrev test : TunnelPlace → Bool
  test = is_again came.from (assigned_tunnel (secret_of lac) m.avps)

  -- it came again: the tunnel at the place takes it
  pub requested_again : (k : ℕ) → position test t.places ≡ Some k → heard_by t came m (slice_get t.places k) ≡ requested name lac t came m
  requested_again k at =
      let there = some_there t.places k (found_within test t.places k at) in
      ap (heard_by t came m) there.1 ∙ ap (requested_by name lac t came m) (sym there.1) ∙ ap (requested_by name lac t came m) (sym (found_at test t.places k at))

  -- it asks for a tunnel
  pub requested_new : position test t.places ≡ None → requested_by name lac t came m None ≡ requested name lac t came m
  requested_new none = ap (requested_by name lac t came m) (sym (none_found test t.places none))

-- a message with Tunnel ID 0 that is an SCCRQ asks for a tunnel, or came again
pub heard_request : (name : List ℕ) (lacs : List Lac) (t : TunnelsState) (came : Came) (m : ControlMessage) → m.tunnel ≡ 0 → is_type (message_type m.avps) SCCRQ ≡ true
    → hear name lacs t came m ≡ requested name (lac_of lacs came.from.ip) t came m
unfolding hear
heard_request name lacs t came m zero asks =
    let named = heard_by t came m (find (is_named came.from m.tunnel) t.places) in
    let asked = requested name (lac_of lacs came.from.ip) t came m in
    ap (λ (b : Bool). cond b (cond (is_type (message_type m.avps) SCCRQ) asked (outcome NoRequest t)) named) (eq-eqb m.tunnel 0 zero)
    ∙ ap (λ (b : Bool). cond b asked (outcome NoRequest t)) asks

-- A tunnel that is made --------------------------------------------------------------------------------------------------------------------

module _ (t : TunnelsState) (now : ℕ) (step : Step) where
  made_if : stands step.after.phase ≡ true
      → made_by t now step ≡ outcome (Steps step.after.number step.said) (record t { places = put_at (free_place now t) (place_of now step.after) t.places })
  made_if e =
      let places = put_at (free_place now t) (place_of now step.after) t.places in
      ap (λ (b : Bool). cond b (outcome (Steps step.after.number step.said) (record t { places = places })) (outcome (Steps 0 step.said) t)) e

  unmade_if : stands step.after.phase ≡ false → made_by t now step ≡ outcome (Steps 0 step.said) t
  unmade_if e =
      let places = put_at (free_place now t) (place_of now step.after) t.places in
      ap (λ (b : Bool). cond b (outcome (Steps step.after.number step.said) (record t { places = places })) (outcome (Steps 0 step.said) t)) e

  module _ (after : TunnelState) (is : after ≡ step.after) where
    phase_is : (b : Bool) → stands after.phase ≡ b → stands step.after.phase ≡ b
    phase_is b e = ap (λ (s : TunnelState). stands s.phase) (sym is) ∙ e

    pub made_answer : (number : ℕ) (said : Said) → stands after.phase ≡ true → number ≡ after.number → said ≡ step.said → Steps number said ≡ (made_by t now step).answer
    made_answer number said stood e f =
        ap (λ (n : ℕ). Steps n said) (e ∙ ap (λ (s : TunnelState). s.number) is) ∙ ap (Steps step.after.number) f
        ∙ ap (λ (o : Outcome). o.answer) (sym (made_if (phase_is true stood)))

    pub made_after : (k : ℕ) (new : TunnelsState) → stands after.phase ≡ true → k ≡ free_place now t → new ≡ record t { places = put_at k (place_of now after) t.places } → new ≡ (made_by t now step).after
    made_after k new stood e f =
        f ∙ ap (λ (n : ℕ). let s : TunnelsState = record t { places = put_at n (place_of now after) t.places } in s) e
        ∙ ap (λ (x : TunnelState). let s : TunnelsState = record t { places = put_at (free_place now t) (place_of now x) t.places } in s) is
        ∙ ap (λ (o : Outcome). o.after) (sym (made_if (phase_is true stood)))

    pub unmade_answer : (said : Said) → stands after.phase ≡ false → said ≡ step.said → Steps 0 said ≡ (made_by t now step).answer
    unmade_answer said gone f = ap (Steps 0) f ∙ ap (λ (o : Outcome). o.answer) (sym (unmade_if (phase_is false gone)))

    pub unmade_after : stands after.phase ≡ false → t ≡ (made_by t now step).after
    unmade_after gone = ap (λ (o : Outcome). o.after) (sym (unmade_if (phase_is false gone)))

not_established : (p : TunnelPhase) → stands p ≡ false → is_established p ≡ false
not_established Idle e = refl
not_established Replied e = absurd cc
not_established Established e = absurd cc
not_established Cleared e = refl

-- a tunnel that does not stand hands no message over
pub nothing_handed : (s : TunnelState) (m : ControlMessage) → stands s.phase ≡ false → is_for_call s m ≡ false
nothing_handed s m e =
    and_left (is_established s.phase) (is_delivered (heard_by_channel s m) && is_of_call (message_type m.avps)) (not_established s.phase e)

pub made_taken : (t : TunnelsState) (number : ℕ) (said : Said) → AllByRecursion IsSpelled said.outs → length said.outs ≤ 9 → said.call ≡ false → IsTaken (Steps number said) t
made_taken t number said spelled few none = record {
  spelled = spelled;
  few = few;
  room = λ yes. absurd (both_ways said.call none yes);
  stands = λ yes. absurd (both_ways said.call none yes);
}

-- a number that is given is that of one of the first 16 places
pub given_number : (shard k number : ℕ) → number ≡ cond (nat_lt k 16) (number_at shard k) 0 → (number ≡ 0 → ⊥) → (k < 16) × (number ≡ number_at shard k)
given_number shard k number e some =
    by (nat_lt k 16) refl e
  where
    by : (b : Bool) → nat_lt k 16 ≡ b → number ≡ cond b (number_at shard k) 0 → (k < 16) × (number ≡ number_at shard k)
    by true q e = (ltb-true k 16 q, e)
    by false q e = absurd (some e)

-- a tunnel that was made with the lowest number that may be given has one of the first 16 places
pub made_place : (t : TunnelsState) (now : ℕ) (tunnel after : TunnelState) → lasting_of after ≡ lasting_of tunnel → tunnel.number ≡ vacant now t → IsTunnel after → stands after.phase ≡ true
    → (free_place now t < 16) × IsPlace (number_at t.shard (free_place now t)) (place_of now after)
made_place t now tunnel after lasting given sound stood =
    let number = given_number t.shard (free_place now t) after.number (ap (λ (l : Lasting). l.number) lasting ∙ given) (sound.numbered stood) in
    (number.0, record { number_is = number.1; sound = sound })
