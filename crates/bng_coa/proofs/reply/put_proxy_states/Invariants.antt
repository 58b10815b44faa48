use Rattle.std.proofs.Common.{◌≡◌, ◌≤◌, ◌+◌, ◌++◌, length, filter, take}
use Rattle.bng_radius_wire.specs.Attributes.{fields}
use Rattle.bng_coa.specs.Kinds.{has_kind}
use Rattle.bng_coa.proofs.reply.put_proxy_states.Given as goal

abbrev pub invariant-loop-attribute : goal.invariant-loop-attribute
invariant-loop-attribute l = record {
  put : fields l.into.items ≡ fields l.initial.into.items ++ filter (has_kind 33) (fields (take l.attribute-index l.from));
  room : length l.into.items ≤ length l.initial.into.items + l.attribute-index;
}
