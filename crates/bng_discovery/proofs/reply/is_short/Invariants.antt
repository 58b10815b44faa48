use Rattle.std.proofs.Common.{◌≡◌, ◌+◌, ◌≤◌, length, take}
use Rattle.bng_base.specs.PppoeGrammar.{tags_text}
use Rattle.bng_pppoe_wire.specs.View.{tags_of}
use Rattle.bng_discovery.proofs.reply.is_short.Given as goal

abbrev pub invariant-loop-tag : goal.invariant-loop-tag
invariant-loop-tag l = record {
  size : l.size ≡ 20 + length (tags_text (tags_of (take l.tag-index l.list)));
  small : l.size ≤ 4096;
}
