use Rattle.std.proofs.Common.{◌≡◌, ◌+◌, ◌≤◌, ◌++◌, length, take}
use Rattle.std.specs.List.{AllByRecursion}
use Rattle.bng_base.specs.PppoeGrammar.{TagFits}
use Rattle.bng_pppoe_wire.specs.View.{tags_of}
use Rattle.bng_discovery.specs.Reply.{others}
use Rattle.bng_discovery.proofs.listing.push_others.Given as goal

abbrev pub invariant-loop-name : goal.invariant-loop-name
invariant-loop-name l = record {
  are : tags_of l.list.items ≡ tags_of l.fn.list.items ++ others l.service (take l.name-index l.name-items);
  room : length l.list.items ≤ length l.fn.list.items + l.name-index;
  fit : AllByRecursion TagFits (others l.service (take l.name-index l.name-items));
}
