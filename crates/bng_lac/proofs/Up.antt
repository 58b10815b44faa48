-- What a call that is up says of its tunnel, and where the server's tunnel is read.
use Rattle.std.proofs.Common.{◌≡◌, ℕ, Bool, true, false, ◌&&◌, cond, Option, None, Some, IsSome, unwrap_or, List, [], ◌∷◌, All, option_map, option_and_then, refl, sym, ap, subst, ◌∙◌}
use Rattle.std.proofs.lemmas.Bool.{false≢true}
use Rattle.std.proofs.lemmas.Option.{none-some, same_Some, some_pair_parts}
use Rattle.std.proofs.lemmas.List.Elements.{All-head, All-tail}
use Rattle.bng_l2tp_reliable.specs.declared.answers.Heard.{Heard}
use Rattle.bng_l2tp_reliable.specs.declared.answers.Heard.TheVariants.{Deliver, Repeat, Ahead, Acked}
use Rattle.bng_l2tp_wire.specs.Avps.{L2tpAvp}
use Rattle.bng_l2tp_wire.specs.Messages.{ControlMessage}
use Rattle.bng_l2tp_tunnel.specs.declared.acknowledging.Acknowledging.TheVariants.{ByZlb}
use Rattle.bng_l2tp_tunnel.specs.declared.refusal.TunnelRefusal.{TunnelRefusal}
use Rattle.bng_l2tp_wire.specs.Values.{message_type, assigned_tunnel}
use Rattle.bng_l2tp_wire.specs.Judge.{is_type}
use Rattle.bng_l2tp_tunnel.specs.Sound.{is_delivered}
use Rattle.bng_lac.specs.declared.call.LacCall.{LacCall}
use Rattle.bng_lac.specs.declared.phase.LacPhase.{LacPhase}
use Rattle.bng_lac.specs.declared.phase.LacPhase.TheVariants.{Idle, WaitReply, Established}
use Rattle.bng_l2tp_wire.specs.declared.message.TheConstants.{SCCRP, STOP_CCN}
use Rattle.bng_lac.specs.LacState.{LacState, is_used, is_waiting, is_established}
use Rattle.bng_lac.specs.Messages.{is_of_call}
use Rattle.bng_lac.specs.Refusals.{refusal_of}
use Rattle.bng_lac.specs.Calls.{is_call, call_of}
use Rattle.bng_lac.specs.CallSteps.{call_step}
use Rattle.bng_lac.specs.Steps.{to_peer, flushed, established, ended, judged, learned, calls_after, replied, heard_by_call, delivered, heard, heard_by, having_heard, lac_step, up_of}
use Rattle.bng_lac.specs.Sound.{IsDown, IsLac, IsUp, peer_number_after}

-- A call that is up ----------------------------------------------------------------------------------------------------------------------

all_found : (P : LacCall → Type 0) (n : ℕ) (cs : List LacCall) (c : LacCall) → All P cs → call_of n cs ≡ Some c → P c
all_found P n [] c all e = absurd (none-some c e)
all_found P n (d ∷ ds) c all e =
    by (is_call n d) e (all_found P n ds c (All-tail P d ds all))
  where
    by : (b : Bool) → cond b (Some d) (call_of n ds) ≡ Some c → (call_of n ds ≡ Some c → P c) → P c
    by true e rest = subst P (same_Some d c e) (All-head P d ds all)
    by false e rest = rest e

known : (o : Option ℕ) (n : ℕ) → IsSome o → unwrap_or o 0 ≡ n → o ≡ Some n
known None n some e = absurd (false≢true some)
known (Some m) n some e = ap (λ (k : ℕ). Some k) e

module _ (s : LacState) (session : ℕ) (t : IsLac s) where
  established_if : (c : LacCall) (peer : ℕ) → call_of session s.calls ≡ Some c → c.peer ≡ Some peer → is_established s.phase ≡ true
  established_if c peer q f =
      by s.phase refl
    where
      by : (p : LacPhase) → s.phase ≡ p → is_established p ≡ true
      by Idle e = absurd (none-some c (sym (ap (call_of session) (t.idle (ap is_used e))) ∙ q))
      by WaitReply e = absurd (none-some peer (sym (all_found IsDown session s.calls c (t.down (ap is_waiting e)) q) ∙ f))
      by Established e = refl

  pub up_is : (tunnel peer : ℕ) → up_of s session ≡ Some (tunnel, peer) → IsUp s session tunnel peer
  up_is tunnel peer e =
      by (call_of session s.calls) refl e
    where
      by_peer : (c : LacCall) → call_of session s.calls ≡ Some c → (p : Option ℕ) → c.peer ≡ p → option_map {U = ℕ × ℕ} (λ (n : ℕ). (to_peer s, n)) p ≡ Some (tunnel, peer) → IsUp s session tunnel peer
      by_peer c q None f e = absurd (none-some {A = ℕ × ℕ} (tunnel, peer) e)
      by_peer c q (Some p) f e =
          let parts = some_pair_parts (to_peer s) tunnel p peer e in
          let is = established_if c p q f in
          record {
            established = is;
            tunnel_is = known s.peer_number tunnel (t.addressed is) parts.0;
            peer_is = ap (λ (o : Option LacCall). option_and_then (λ (d : LacCall). d.peer) o) q ∙ f ∙ ap (λ (n : ℕ). Some n) parts.1;
          }

      by : (found : Option LacCall) → call_of session s.calls ≡ found → option_and_then (λ (c : LacCall). option_map {U = ℕ × ℕ} (λ (n : ℕ). (to_peer s, n)) c.peer) found ≡ Some (tunnel, peer) → IsUp s session tunnel peer
      by None q e = absurd (none-some {A = ℕ × ℕ} (tunnel, peer) e)
      by (Some c) q e = by_peer c q c.peer refl e

-- The server's tunnel --------------------------------------------------------------------------------------------------------------------

learned_number : (s : LacState) (avps : List L2tpAvp) → (learned s avps).peer_number ≡ cond (is_waiting s.phase && true) (assigned_tunnel s.secret avps) s.peer_number
learned_number s avps =
    by (is_waiting s.phase)
  where
    by : (b : Bool) → (cond b (record s { peer_number = assigned_tunnel s.secret avps }) s).peer_number ≡ cond (b && true) (assigned_tunnel s.secret avps) s.peer_number
    by true = refl
    by false = refl

not_now : (b : Bool) (x y : Option ℕ) → y ≡ cond (b && false) x y
not_now true x y = refl
not_now false x y = refl

not_waiting : (p : LacPhase) (x y : Option ℕ) → is_established p ≡ true → y ≡ cond (is_waiting p && true) x y
not_waiting Idle x y e = refl
not_waiting WaitReply x y e = absurd (false≢true e)
not_waiting Established x y e = refl

judged_number : (s : LacState) (avps : List L2tpAvp) (now : ℕ) (refusal : Option TunnelRefusal) → (judged s avps now refusal).after.peer_number ≡ s.peer_number
judged_number s avps now None =
    by (is_type (message_type avps) SCCRP) (is_type (message_type avps) STOP_CCN)
  where
    by : (a b : Bool) → (cond a (established s avps now) (cond b (ended s) (flushed ByZlb s))).after.peer_number ≡ s.peer_number
    by true b = refl
    by false true = refl
    by false false = refl
judged_number s avps now (Some refusal) = refl

replied_number : (s : LacState) (now : ℕ) (answer : Option (List ℕ)) → (replied s now answer).after.peer_number ≡ s.peer_number
replied_number s now None = refl
replied_number s now (Some text) = refl

by_call_number : (s : LacState) (avps : List L2tpAvp) (now : ℕ) (found : Option LacCall) → (heard_by_call s avps now found).after.peer_number ≡ s.peer_number
by_call_number s avps now None = refl
by_call_number s avps now (Some c) =
    let call = call_step s.secret c avps in replied_number (record s { calls = calls_after c call.after s.calls }) now call.answer

delivered_number : (s : LacState) (m : ControlMessage) (now : ℕ) → (delivered s m now).after.peer_number ≡ cond (is_waiting s.phase && true) (assigned_tunnel s.secret m.avps) s.peer_number
delivered_number s m now =
    by (is_established s.phase) (is_of_call (message_type m.avps)) refl
  where
    judged_it : (judged (learned s m.avps) m.avps now (refusal_of s m.avps)).after.peer_number ≡ cond (is_waiting s.phase && true) (assigned_tunnel s.secret m.avps) s.peer_number
    judged_it = judged_number (learned s m.avps) m.avps now (refusal_of s m.avps) ∙ learned_number s m.avps

    by : (a b : Bool) → is_established s.phase ≡ a
        → (cond (a && b) (heard_by_call s m.avps now (call_of m.session s.calls)) (judged (learned s m.avps) m.avps now (refusal_of s m.avps))).after.peer_number
        ≡ cond (is_waiting s.phase && true) (assigned_tunnel s.secret m.avps) s.peer_number
    by true true q = by_call_number s m.avps now (call_of m.session s.calls) ∙ not_waiting s.phase (assigned_tunnel s.secret m.avps) s.peer_number q
    by true false q = judged_it
    by false b q = judged_it

pub lac_number : (s : LacState) (m : ControlMessage) (random : List ℕ) (now : ℕ) → (lac_step s m random now).after.peer_number ≡ peer_number_after s m
unfolding lac_step
lac_number s m random now =
    by (heard_by s m)
  where
    by : (answer : Heard) → (heard (having_heard s m now) m now answer).after.peer_number ≡ cond (is_waiting s.phase && is_delivered answer) (assigned_tunnel s.secret m.avps) s.peer_number
    by Deliver = delivered_number (having_heard s m now) m now
    by Repeat = not_now (is_waiting s.phase) (assigned_tunnel s.secret m.avps) s.peer_number
    by Ahead = not_now (is_waiting s.phase) (assigned_tunnel s.secret m.avps) s.peer_number
    by Acked = not_now (is_waiting s.phase) (assigned_tunnel s.secret m.avps) s.peer_number
