-- A place that was reminded at a moment is due at it for a HELLO at most, and reminded once more it is not due.
use Rattle.std.proofs.Common.{◌≡◌, ℕ, zero, suc, ◌+◌, ◌<◌, Bool, true, false, ◌&&◌, not, cond, nat_lt, nat_le, min, unwrap_or, Option, None, Some, List, [], ◌∷◌, ◌++◌, length, map, option_map, slice_get, refl, sym, ap, ◌∙◌, arith}
use Rattle.std.proofs.lemmas.Bool.{and_parts, and_right, leb-false, lt-leb, both_ways}
use Rattle.std.proofs.lemmas.Option.{slice_get-map}
use Rattle.bng_l2tp_reliable.specs.declared.answers.Due.{Due}
use Rattle.bng_l2tp_reliable.specs.declared.answers.Due.TheVariants.{Nothing, Resend, Hello, GiveUp}
use Rattle.bng_l2tp_reliable.specs.declared.outgoing.Outgoing.{Outgoing}
use Rattle.bng_l2tp_reliable.specs.declared.sent.Sent.{Sent}
use Rattle.bng_l2tp_reliable.specs.ChannelState.{ChannelState}
use Rattle.bng_l2tp_reliable.specs.Calls.{queued, next_out, after_next}
use Rattle.bng_l2tp_reliable.specs.Flight.{waits, wait, is_over, flight_due, flight_deadline, sent_first, sent_again}
use Rattle.bng_l2tp_reliable.specs.Timers.{silence, silence_due, or_else, due_of, after_due, never, silence_deadline, deadline_of}
use Rattle.bng_l2tp_wire.specs.Messages.{control_text}
use Rattle.bng_l2tp_tunnel.specs.Outs.{after_out, flight_most}
use Rattle.bng_l2tp_tunnel.specs.Spelling.{hello}
use Rattle.bng_l2tp_tunnel.specs.Steps.{nothing, stands, reminded as reminded_by, due_step}
use Rattle.bng_l2tp_tunnel.specs.TunnelState.{TunnelState}
use Rattle.bng_lns.specs.declared.place.TunnelPlace.{TunnelPlace}
use Rattle.bng_lns.specs.Places.{is_numbered, place_of, is_due}
use Rattle.bng_lns.specs.Tunnels.{TunnelsState}
use Rattle.bng_lns.specs.Timed.{untold, told_by, reminded_in, reminded}
use Rattle.bng_lns.proofs.Numbered.{numbered_self}

-- A channel of which nothing is due ------------------------------------------------------------------------------------------------------

or_nothing : (a b : Due) → or_else a b ≡ Nothing → (a ≡ Nothing) × (b ≡ Nothing)
or_nothing Nothing b e = (refl, e)
or_nothing Resend b e = absurd cc
or_nothing Hello b e = absurd cc
or_nothing GiveUp b e = absurd cc

-- what is due is a HELLO only where the messages in flight ask for nothing
hello_alone : (over few : Bool) (other : Due) → or_else (cond over (cond few Resend GiveUp) Nothing) other ≡ Hello → cond over (cond few Resend GiveUp) Nothing ≡ Nothing
hello_alone true true other e = absurd cc
hello_alone true false other e = absurd cc
hello_alone false few other e = refl

flight_silent : (sends : List Sent) (now : ℕ) (other : Due) → or_else (flight_due sends now) other ≡ Hello → flight_due sends now ≡ Nothing
flight_silent [] now other e = refl
flight_silent (oldest ∷ others) now other e = hello_alone (is_over oldest now) (nat_lt oldest.resends (length waits)) other e

-- what is not over is over later
later : (at now : ℕ) (few : Bool) → cond (nat_le at now) (cond few Resend GiveUp) Nothing ≡ Nothing → now < at
later at now few e =
    by (nat_le at now) few refl e
  where
    by : (b few : Bool) → nat_le at now ≡ b → cond b (cond few Resend GiveUp) Nothing ≡ Nothing → now < at
    by true true q e = absurd cc
    by true false q e = absurd cc
    by false few q e = leb-false at now q

flight_later : (sends : List Sent) (now most : ℕ) → now < most → flight_due sends now ≡ Nothing → now < unwrap_or (flight_deadline sends) most
flight_later [] now most few e = few
flight_later (oldest ∷ others) now most few e = later (oldest.moment + wait oldest.resends) now (nat_lt oldest.resends (length waits)) e

silence_later : (greeted : Bool) (at now most : ℕ) → now < most → cond (not greeted && nat_le at now) Hello Nothing ≡ Nothing → now < unwrap_or (cond greeted None (Some at)) most
silence_later true at now most few e = few
silence_later false at now most few e =
    by (nat_le at now) refl e
  where
    by : (b : Bool) → nat_le at now ≡ b → cond b Hello Nothing ≡ Nothing → now < at
    by true q e = absurd cc
    by false q e = leb-false at now q

least_later : (a b most now : ℕ) → now < a → now < b → now < most → nat_le (min (min a b) most) now ≡ false
least_later a b most now f g h = lt-leb (min (min a b) most) now (omega (arith, f, g, h))

-- a channel of which nothing is due has its deadline later
pub not_yet : (c : ChannelState) (now : ℕ) → now < never → due_of c now ≡ Nothing → nat_le (deadline_of c) now ≡ false
not_yet c now few e =
    let both = or_nothing (flight_due c.sends now) (silence_due c now) e in
    let flight = flight_later c.sends now never few both.0 in
    let silent = silence_later c.greeted (c.heard + silence) now never few both.1 in
    least_later (unwrap_or (flight_deadline c.sends) never) (unwrap_or (silence_deadline c) never) never now flight silent few

-- Messages that go out at a moment ---------------------------------------------------------------------------------------------------------

wait_some : (resends : ℕ) → 0 < wait resends
wait_some zero = omega arith
wait_some (suc zero) = omega arith
wait_some (suc (suc zero)) = omega arith
wait_some (suc (suc (suc zero))) = omega arith
wait_some (suc (suc (suc (suc zero)))) = omega arith
wait_some (suc (suc (suc (suc (suc n))))) = omega arith

-- one that goes out at a moment is not over at it
not_over : (s : Sent) (now : ℕ) → s.moment ≡ now → is_over s now ≡ false
not_over s now e = lt-leb (s.moment + wait s.resends) now (omega (arith, e, wait_some s.resends))

flight_again : (sends : List Sent) (now : ℕ) → flight_due (map (sent_again now) sends) now ≡ Nothing
flight_again [] now = refl
flight_again (oldest ∷ others) now =
    let again = sent_again now oldest in
    ap (λ (b : Bool). cond b (cond (nat_lt again.resends (length waits)) Resend GiveUp) Nothing) (not_over again now refl)

flight_more : (sends : List Sent) (now moment : ℕ) → moment ≡ now → flight_due sends now ≡ Nothing → flight_due (sends ++ sent_first moment ∷ []) now ≡ Nothing
flight_more [] now moment same e =
    ap (λ (b : Bool). cond b (cond (nat_lt 0 (length waits)) Resend GiveUp) Nothing) (not_over (sent_first moment) now same)
flight_more (oldest ∷ others) now moment same e = e

-- A HELLO was asked for, and none of the messages in flight asks for anything at this moment, the last that the channel was given.
record IsCalm (now : ℕ) (c : ChannelState) : Type 0 where
  given : c.moment ≡ now
  greeted : c.greeted ≡ true
  flight : flight_due c.sends now ≡ Nothing

next_calm : (now : ℕ) (c : ChannelState) (out : Option Outgoing) → IsCalm now c → IsCalm now (after_next c out)
next_calm now c None calm = calm
next_calm now c (Some out) calm = record { given = calm.given; greeted = calm.greeted; flight = flight_more c.sends now c.moment calm.given calm.flight }

out_calm : (n now : ℕ) (c : ChannelState) → IsCalm now c → IsCalm now (after_out n c)
unfolding after_out
out_calm zero now c calm = calm
out_calm (suc n) now c calm = next_calm now (after_out n c) (next_out (after_out n c)) (out_calm n now c calm)

calm_done : (now : ℕ) (c : ChannelState) → IsCalm now c → due_of c now ≡ Nothing
calm_done now c calm =
    ap (λ (d : Due). or_else d (silence_due c now)) calm.flight
    ∙ ap (λ (b : Bool). cond (not b && nat_le (c.heard + silence) now) Hello Nothing) calm.greeted

-- A tunnel that is reminded ----------------------------------------------------------------------------------------------------------------

abbrev by_due : TunnelState → ℕ → Due → TunnelState
by_due s now d = (reminded_by (record s { channel = after_due s.channel now d }) now d).after

abbrev is_left : ℕ → TunnelState → Bool
is_left now s = stands s.phase && nat_le (deadline_of s.channel) now

by_its_due : (s : TunnelState) (now : ℕ) → stands s.phase ≡ true → (due_step s now).after ≡ by_due s now (due_of s.channel now)
unfolding due_step
by_its_due s now e =
    ap (λ (b : Bool). (cond b (reminded_by (record s { channel = after_due s.channel now (due_of s.channel now) }) now (due_of s.channel now)) (nothing s)).after) e

module _ (s : TunnelState) (now : ℕ) (few : now < never) where
  none_left : due_of s.channel now ≡ Nothing → is_left now s ≡ false
  none_left e = and_right (stands s.phase) (nat_le (deadline_of s.channel) now) (not_yet s.channel now few e)

  -- after a HELLO nothing is due
  greeted_done : due_of s.channel now ≡ Hello → is_left now (by_due s now Hello) ≡ false
  greeted_done e =
      let asked = record s.channel { greeted = true; moment = now } in
      let calm : IsCalm now (queued asked (record { items = control_text hello }) now) =
      record { given = refl; greeted = refl; flight = flight_silent s.channel.sends now (silence_due s.channel now) e } in
      let after = by_due s now Hello in
      and_right (stands after.phase) (nat_le (deadline_of after.channel) now) (not_yet after.channel now few (calm_done now after.channel (out_calm flight_most now (queued asked (record { items = control_text hello }) now) calm)))

again_due : (c : ChannelState) (now : ℕ) → due_of (after_due c now Resend) now ≡ silence_due c now
again_due c now = ap (λ (d : Due). or_else d (silence_due c now)) (flight_again c.sends now)

-- after the messages in flight went out again only a HELLO may be due
again_left : (s : TunnelState) (now : ℕ) → now < never → is_left now (by_due s now Resend) ≡ true → due_of (by_due s now Resend).channel now ≡ Hello
again_left s now few left =
    by (not s.channel.greeted && nat_le (s.channel.heard + silence) now) refl
  where
    by : (b : Bool) → (not s.channel.greeted && nat_le (s.channel.heard + silence) now) ≡ b → due_of (by_due s now Resend).channel now ≡ Hello
    by true q = again_due s.channel now ∙ ap (λ (b : Bool). cond b Hello Nothing) q
    by false q =
        let none : due_of (by_due s now Resend).channel now ≡ Nothing = again_due s.channel now ∙ ap (λ (b : Bool). cond b Hello Nothing) q in
        absurd (both_ways (is_left now (by_due s now Resend)) (none_left (by_due s now Resend) now few none) left)

once_due : (s : TunnelState) (now : ℕ) (d : Due) → now < never → is_left now s ≡ true → due_of s.channel now ≡ d → is_left now (by_due s now d) ≡ true → due_of (by_due s now d).channel now ≡ Hello
once_due s now Nothing few due e left = absurd (both_ways (is_left now s) (none_left s now few e) due)
once_due s now Resend few due e left = again_left s now few left
once_due s now Hello few due e left = absurd (both_ways (is_left now (by_due s now Hello)) (greeted_done s now few e) left)
once_due s now GiveUp few due e left = absurd cc

-- Places -----------------------------------------------------------------------------------------------------------------------------------

module _ (now : ℕ) (t : TunnelsState) (k : ℕ) where
  -- the place of a tunnel that was due
  reminded_there : (p : TunnelPlace) → slice_get t.places k ≡ Some p → is_due now p ≡ true
      → slice_get (told_by now t p.tunnel (due_step p.tunnel now)).after.places k ≡ Some (place_of now (by_due p.tunnel now (due_of p.tunnel.channel now)))
  reminded_there p e due =
      let step = due_step p.tunnel now in
      let stood = (and_parts (stands p.tunnel.phase) (nat_le (deadline_of p.tunnel.channel) now) due).0 in
      let write : TunnelPlace → TunnelPlace = λ q. cond (is_numbered p.tunnel.number q) (place_of now step.after) q in
      slice_get-map write t.places k ∙ ap (option_map write) e ∙ ap (λ (b : Bool). Some (cond b (place_of now step.after) p)) (numbered_self p stood)
      ∙ ap (λ (s : TunnelState). Some (place_of now s)) (by_its_due p.tunnel now stood)

  once_at : (o : Option TunnelPlace) (q : TunnelPlace) → now < never → slice_get t.places k ≡ o → slice_get (reminded_in now t o).after.places k ≡ Some q → is_due now q ≡ true
      → due_of q.tunnel.channel now ≡ Hello
  once_at None q few e f left = absurd (let no = sym e ∙ f in cc)
  once_at (Some p) q few e f left =
      by (is_due now p) refl f
    where
      by : (b : Bool) → is_due now p ≡ b → slice_get (cond b (told_by now t p.tunnel (due_step p.tunnel now)) (untold t)).after.places k ≡ Some q → due_of q.tunnel.channel now ≡ Hello
      by true due f =
          let same : place_of now (by_due p.tunnel now (due_of p.tunnel.channel now)) ≡ q = let there = sym (reminded_there p e due) ∙ f in cc in
          ap (λ (x : TunnelPlace). due_of x.tunnel.channel now) (sym same)
          ∙ once_due p.tunnel now (due_of p.tunnel.channel now) few due refl (ap (is_due now) same ∙ left)
      by false due f =
          let same : p ≡ q = let there = sym e ∙ f in cc in
          absurd (both_ways (is_due now p) due (ap (is_due now) same ∙ left))

  pub reminded_once : (q : TunnelPlace) → now < never → slice_get (reminded now t k).after.places k ≡ Some q → is_due now q ≡ true → due_of q.tunnel.channel now ≡ Hello
  reminded_once q few f left = once_at (slice_get t.places k) q few refl f left

  -- reminded while a HELLO alone may be due
  last_at : (o : Option TunnelPlace) (q : TunnelPlace) → now < never → slice_get t.places k ≡ o → ((p : TunnelPlace) → slice_get t.places k ≡ Some p → is_due now p ≡ true → due_of p.tunnel.channel now ≡ Hello)
      → slice_get (reminded_in now t o).after.places k ≡ Some q → is_due now q ≡ false
  last_at None q few e greets f = absurd (let no = sym e ∙ f in cc)
  last_at (Some p) q few e greets f =
      by (is_due now p) refl f
    where
      by : (b : Bool) → is_due now p ≡ b → slice_get (cond b (told_by now t p.tunnel (due_step p.tunnel now)) (untold t)).after.places k ≡ Some q → is_due now q ≡ false
      by true due f =
          let hello_due = greets p e due in
          let same : place_of now (by_due p.tunnel now (due_of p.tunnel.channel now)) ≡ q = let there = sym (reminded_there p e due) ∙ f in cc in
          ap (is_due now) (sym same) ∙ ap (λ (d : Due). is_left now (by_due p.tunnel now d)) hello_due ∙ greeted_done p.tunnel now few hello_due
      by false due f =
          let same : p ≡ q = let there = sym e ∙ f in cc in
          ap (is_due now) (sym same) ∙ due

pub reminded_twice : (now : ℕ) (t : TunnelsState) (k : ℕ) (q : TunnelPlace) → now < never → slice_get (reminded now (reminded now t k).after k).after.places k ≡ Some q → is_due now q ≡ false
reminded_twice now t k q few f =
    let once = (reminded now t k).after in
    last_at now once k (slice_get once.places k) q few refl (λ p e due. reminded_once now t k p few e due) f
