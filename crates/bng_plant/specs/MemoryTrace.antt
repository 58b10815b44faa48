-- What the trace in memory tells and holds.
use Rattle.std.specs.Prelude.{ℕ, ◌-◌, ◌&&◌, List, Some, Bool, length, sum_by, nat_lt, nat_le, vec_len, vec_capacity}
use Rattle.bng_base.specs.Told.{TraceTold}
use Rattle.bng_base.specs.declared.round.RoundRecord.{RoundRecord}
use Rattle.bng_plant.specs.Failing.{Calls, calls_of, one_more}
use Rattle.bng_plant.specs.Parts.{cut, parts_of, room_of}
use Rattle.bng_plant.specs.Rounds.{rounds_of}
use Rattle.bng_plant.specs.declared.answers.Noted.{Noted}
use Rattle.bng_plant.specs.declared.answers.Noted.TheVariants.{Ok, Failed}
use Rattle.bng_plant.specs.declared.head.Head.{Head}
use Rattle.bng_plant.specs.declared.rounds.Rounds.{Rounds}
use Rattle.bng_plant.specs.declared.memory_trace.MemoryTrace.{MemoryTrace}

-- how many rounds more, and how much more of each kind, there is room for
pub record RoundsRoom : Type 0 where
  pub rounds : ℕ
  pub allowances : ℕ
  pub journals : ℕ
  pub entries : ℕ
  pub loose : ℕ
  pub outs : ℕ
  pub refused : ℕ

abbrev pub rounds_in : Rounds → List RoundRecord
rounds_in r = rounds_of r.heads.items (parts_of r.allowances) (cut r.counts.items (parts_of r.journals)) (parts_of r.loose) (parts_of r.outs) (parts_of r.refused)

abbrev pub rounds_room : Rounds → RoundsRoom
rounds_room r = record {
  rounds = vec_capacity r.heads - vec_len r.heads;
  allowances = (room_of r.allowances).items;
  journals = (room_of r.journals).parts;
  entries = (room_of r.journals).items;
  loose = (room_of r.loose).items;
  outs = (room_of r.outs).items;
  refused = (room_of r.refused).items;
}

-- the same room for each kind
abbrev pub room_for : ℕ → ℕ → RoundsRoom
room_for rounds room = record { rounds = rounds; allowances = room; journals = room; entries = room; loose = room; outs = room; refused = room }

-- the room suffices for this round
abbrev pub fits : RoundRecord → RoundsRoom → Bool
fits r room =
    nat_lt 0 room.rounds && (nat_le (length r.allowances) room.allowances && (nat_le (length r.journals) room.journals && (nat_le (sum_by length r.journals) room.entries && (nat_le (length r.loose) room.loose && (nat_le (length r.outs) room.outs && nat_le (length r.refused) room.refused)))))

-- the room that is left after this round
abbrev pub room_after : RoundRecord → RoundsRoom → RoundsRoom
room_after r room = record {
  rounds = room.rounds - 1;
  allowances = room.allowances - length r.allowances;
  journals = room.journals - length r.journals;
  entries = room.entries - sum_by length r.journals;
  loose = room.loose - length r.loose;
  outs = room.outs - length r.outs;
  refused = room.refused - length r.refused;
}

abbrev pub told_by : MemoryTrace → TraceTold
told_by t = record { rounds = Some (rounds_in t.rounds); faults = t.failing.faults }

-- its calls and its room
pub record TraceHeld : Type 0 where
  pub calls : Calls
  pub room : RoundsRoom

abbrev pub held_by : MemoryTrace → TraceHeld
held_by t = record { calls = calls_of t.failing; room = rounds_room t.rounds }

-- after a note of this round with this answer
abbrev pub after_note : RoundRecord → Noted → TraceHeld → TraceHeld
after_note r Ok t = record { calls = one_more t.calls; room = room_after r t.room }
after_note r Failed t = record { calls = one_more t.calls; room = t.room }

-- after a start
abbrev pub after_start : TraceHeld → TraceHeld
after_start t = record { calls = one_more t.calls; room = t.room }

-- a round's number and moments
abbrev pub head_of : RoundRecord → Head
head_of r = record { number = r.number; moment = r.moment; wall = r.wall }
