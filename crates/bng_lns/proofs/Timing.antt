-- What the tunnel at a place does by itself.
use Rattle.std.proofs.Common.{◌≡◌, ℕ, ◌≤◌, Bool, true, cond, nat_le, Some, List, length, slice_get, set, ap, ◌∙◌}
use Rattle.std.proofs.lemmas.Bool.{and_parts}
use Rattle.std.proofs.lemmas.Option.{slice_get_past}
use Rattle.bng_l2tp_reliable.specs.Timers.{deadline_of}
use Rattle.bng_l2tp_tunnel.specs.TunnelState.{TunnelState}
use Rattle.bng_l2tp_tunnel.specs.Steps.{stands, due_step, stop_step}
use Rattle.bng_lns.specs.declared.place.TunnelPlace.{TunnelPlace}
use Rattle.bng_lns.specs.Places.{place_of, is_due, ArePlaces}
use Rattle.bng_lns.specs.Tunnels.{TunnelsState, with_step}
use Rattle.bng_lns.specs.Timed.{untold, told_by, reminded_in, reminded, stopped_in, stopped}
use Rattle.bng_lns.proofs.Numbered.{numbered_self, set_stepped}

module _ (t : TunnelsState) (now k : ℕ) where
  pub reminded_past : length t.places ≤ k → reminded now t k ≡ untold t
  reminded_past past = ap (reminded_in now t) (slice_get_past t.places k past)

  pub stopped_past : length t.places ≤ k → stopped now t k ≡ untold t
  stopped_past past = ap (stopped_in now t) (slice_get_past t.places k past)

module _ (t : TunnelsState) (now k : ℕ) (p : TunnelPlace) (there : slice_get t.places k ≡ Some p) where
  pub reminded_if : (b : Bool) → is_due now p ≡ b → reminded now t k ≡ cond b (told_by now t p.tunnel (due_step p.tunnel now)) (untold t)
  reminded_if b e =
      ap (reminded_in now t) there ∙ ap (λ (x : Bool). cond x (told_by now t p.tunnel (due_step p.tunnel now)) (untold t)) e

  pub stopped_if : (b : Bool) → stands p.tunnel.phase ≡ b → stopped now t k ≡ cond b (told_by now t p.tunnel (stop_step p.tunnel now)) (untold t)
  stopped_if b e =
      ap (stopped_in now t) there ∙ ap (λ (x : Bool). cond x (told_by now t p.tunnel (stop_step p.tunnel now)) (untold t)) e

  -- the place is written as its tunnel takes a step
  pub stepped_there : (first : ℕ) (q : TunnelPlace) (after : TunnelState) → ArePlaces first t.places → stands p.tunnel.phase ≡ true → q ≡ place_of now after
      → record t { places = set t.places k q } ≡ with_step now t p.tunnel.number after
  stepped_there first q after are stood e =
      ap (λ (x : TunnelPlace). let s : TunnelsState = record t { places = set t.places k x } in s) e
      ∙ ap (λ (ps : List TunnelPlace). let s : TunnelsState = record t { places = ps } in s) (set_stepped now p.tunnel.number after first t.places k p are there (numbered_self p stood))

pub due_stands : (now : ℕ) (p : TunnelPlace) → is_due now p ≡ true → stands p.tunnel.phase ≡ true
due_stands now p due = (and_parts (stands p.tunnel.phase) (nat_le (deadline_of p.tunnel.channel) now) due).0
