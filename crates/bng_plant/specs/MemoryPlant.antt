-- What the plant in memory tells and holds.
use Rattle.std.specs.Prelude.{ℕ, ◌+◌, ◌-◌, ◌^◌, List, [], Some, map, take, min, if◌then◌else◌, vec_len, vec_capacity}
use Rattle.bng_base.specs.Told.{PlantTold, told_unless}
use Rattle.bng_base.specs.declared.outside.Received.{Received}
use Rattle.bng_plant.specs.declared.answers.Bound.{Bound}
use Rattle.bng_plant.specs.declared.answers.Bound.TheVariants.{Ok as BoundOk, Failed as BoundFailed}
use Rattle.bng_plant.specs.declared.answers.Sending.{Sending}
use Rattle.bng_plant.specs.declared.answers.Sending.TheVariants.{Sent, Failed as SendingFailed}
use Rattle.bng_plant.specs.declared.arrival.Arrival.{Arrival}
use Rattle.bng_plant.specs.declared.memory_plant.MemoryPlant.{MemoryPlant}
use Rattle.bng_plant.specs.Failing.{Calls, calls_of, one_more, fresh}
use Rattle.bng_plant.specs.Arrival.{datagram_of, is_got}

abbrev pub told_by : MemoryPlant → PlantTold
told_by p = record {
  bound = Some p.bound.items;
  heard = told_unless p.silent p.heard.items;
  taken = Some (map datagram_of (take p.next p.script.items));
  sent = Some p.sent.items;
  faults = p.failing.faults;
}

abbrev pub nothing_yet : PlantTold
nothing_yet = record { bound = Some []; heard = Some []; taken = Some []; sent = Some []; faults = 0 }

-- Its calls, the script, the place of the next arrival in it, how many waits came since the last one, and how many
-- binds, receives and waits, and sends more it has room for.
pub record PlantHeld : Type 0 where
  pub calls : Calls
  pub script : List Arrival
  pub next : ℕ
  pub waited : ℕ
  pub binds : ℕ
  pub hears : ℕ
  pub sends : ℕ

abbrev pub held_by : MemoryPlant → PlantHeld
held_by p = record {
  calls = calls_of p.failing;
  script = p.script.items;
  next = p.next;
  waited = p.waited;
  binds = vec_capacity p.bound - vec_len p.bound;
  hears = vec_capacity p.heard - vec_len p.heard;
  sends = vec_capacity p.sent - vec_len p.sent;
}

-- a plant that was just made
abbrev pub made : List Arrival → List ℕ → ℕ → PlantHeld
made script fail_at room = record { calls = fresh fail_at; script = script; next = 0; waited = 0; binds = room; hears = room; sends = room }

-- after a bind, a receive, a send with these answers, and after a wait
abbrev pub after_bind : Bound → PlantHeld → PlantHeld
after_bind BoundOk h = record h { calls = one_more h.calls; binds = h.binds - 1 }
after_bind BoundFailed h = record h { calls = one_more h.calls }

abbrev pub after_receive : Received → PlantHeld → PlantHeld
after_receive answer h = record h {
  calls = one_more h.calls;
  next = if is_got answer then h.next + 1 else h.next;
  waited = if is_got answer then 0 else h.waited;
  hears = h.hears - 1;
}

abbrev pub after_send : Sending → PlantHeld → PlantHeld
after_send Sent h = record h { calls = one_more h.calls; sends = h.sends - 1 }
after_send SendingFailed h = record h { calls = one_more h.calls }

abbrev pub after_wait : PlantHeld → PlantHeld
after_wait h = record h { waited = min (h.waited + 1) (2 ^ 32 - 1); hears = h.hears - 1 }
