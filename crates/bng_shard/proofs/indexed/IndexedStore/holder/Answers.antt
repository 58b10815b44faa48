use Rattle.std.proofs.Common.{sym, refl, ◌∙◌}
use Rattle.bng_steps.proofs.Scanning.{holder_is, holder_none}
use Rattle.bng_shard.proofs.indexed.IndexedStore.holder.Goals as goal

pub returns-in_err-number : goal.returns-in_err-number
returns-in_err-number c = rw (c.from_residual.ensures) (sym (holder_none c.args.self.now.slots c.args.address (c.in_err-number.ensures.none.0 refl)))

pub returns : goal.returns
returns c = c.get.ensures ∙ sym (holder_is c.args.self.now.slots c.args.address c.in_ok-number.number c.in_ok-number.ensures.found)
