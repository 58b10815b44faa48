use Rattle.std.proofs.Common.{◌≡◌, ◌≤◌, length, take}
use Rattle.bng_radius_wire.specs.Attributes.{fields}
use Rattle.bng_radius_wire.specs.Grammar.{attributes_text}
use Rattle.bng_grant.specs.Classes.{classes}
use Rattle.bng_grant.proofs.class.kept_classes.Given as goal

abbrev pub invariant-loop-attribute : goal.invariant-loop-attribute
invariant-loop-attribute l = record {
  kept : l.class.items ≡ attributes_text (classes (fields (take l.attribute-index l.attributes)));
  counted : l.count ≡ length (classes (fields (take l.attribute-index l.attributes)));
  few : l.count ≤ 32;
  short : length l.class.items ≤ 512;
}
