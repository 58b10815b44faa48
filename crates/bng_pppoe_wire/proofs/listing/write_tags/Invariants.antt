use Rattle.std.proofs.Common.{◌≡◌, ◌≤◌, length, take}
use Rattle.bng_base.specs.PppoeGrammar.{tags_text}
use Rattle.bng_pppoe_wire.specs.View.{tags_of}
use Rattle.bng_pppoe_wire.proofs.listing.write_tags.Given as goal

abbrev pub invariant-loop-tag : goal.invariant-loop-tag
invariant-loop-tag l = record {
  size : l.size ≡ length (tags_text (tags_of (take l.tag-index l.tags)));
  small : l.size ≤ 4096;
}

abbrev pub invariant-loop-tag-2 : goal.invariant-loop-tag-2
invariant-loop-tag-2 l = record {
  payload : l.into.payload ≡ tags_text (tags_of (take l.tag-index l.tags));
  headroom : l.into.headroom ≡ 64;
}
