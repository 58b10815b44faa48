use Rattle.std.proofs.Common.{◌≡◌, ◌≤◌, ◌*◌, length, take}
use Rattle.bng_radius_wire.specs.Attributes.{fields}
use Rattle.bng_radius_wire.specs.Grammar.{attributes_text}
use Rattle.bng_radius_wire.proofs.writing.size_of.Given as goal

abbrev pub invariant-loop-attribute : goal.invariant-loop-attribute
invariant-loop-attribute l = record {
  size : l.size ≡ length (attributes_text (fields (take l.attribute-index l.attributes)));
  small : l.size ≤ 255 * l.attribute-index;
}
