use Rattle.std.proofs.Common.{◌≡◌, ◌-◌, ◌++◌, length, take, sum_by}
use Rattle.bng_plant.specs.Parts.{parts_of, room_of}
use Rattle.bng_plant.proofs.parts.Parts.push_all.Given as goal

abbrev pub invariant-loop-part : goal.invariant-loop-part
invariant-loop-part g l = record {
  parts : parts_of l.self ≡ parts_of l.fn.self ++ take l.part-index l.parts;
  part_room : (room_of l.self).parts ≡ (room_of l.fn.self).parts - l.part-index;
  item_room : (room_of l.self).items ≡ (room_of l.fn.self).items - sum_by length (take l.part-index l.parts);
}
