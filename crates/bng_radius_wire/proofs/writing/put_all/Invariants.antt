use Rattle.std.proofs.Common.{◌≡◌, ◌++◌, take}
use Rattle.bng_radius_wire.specs.Attributes.{fields}
use Rattle.bng_radius_wire.specs.Grammar.{attributes_text}
use Rattle.bng_radius_wire.proofs.writing.put_all.Given as goal

abbrev pub invariant-loop-attribute : goal.invariant-loop-attribute
invariant-loop-attribute l = record {
  payload : l.into.payload ≡ l.initial.into.payload ++ attributes_text (fields (take l.attribute-index l.attributes));
  headroom : l.into.headroom ≡ 64;
}
