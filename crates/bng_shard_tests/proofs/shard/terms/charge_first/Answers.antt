use Rattle.std.proofs.Common.{◌^◌, true, [], sym, subst}
use Rattle.bng_base.specs.declared.item.Entry.{Entry}
use Rattle.bng_engine.specs.Protocol.{IsOwned}
use Rattle.bng_engine.specs.Views.{ShardView, row_keys}
use Rattle.bng_steps.specs.Protocol.{ShardState}
use Rattle.bng_steps.specs.Sums.{RowsAreLow}
use Rattle.bng_shard_tests.proofs.OneCircuit.{row_low, row_owned}
use Rattle.bng_shard_tests.proofs.shard.terms.charge_first.Goals as goal

pub charge-requires-clause-low : goal.charge-requires-clause-low
charge-requires-clause-low c =
    subst (λ (v : ShardView ShardState Entry). RowsAreLow (2 ^ 63) v.rows) (sym c.requires.opened.1)
    (row_low c.args.circuit.now c.requires.opened.0 1 0 (2 ^ 63) c.requires.number)

pub charge-requires-clause-own : goal.charge-requires-clause-own
charge-requires-clause-own c =
    subst (λ (v : ShardView ShardState Entry). IsOwned (row_keys v.rows) c.args.out.now) (sym c.requires.opened.1)
    (row_owned c.args.circuit.now c.requires.opened.0 1 0 c.requires.number c.args.out.now true c.requires.charged.0 c.requires.charged.1)

pub returns-clause-number : goal.returns-clause-number
returns-clause-number c = (c.charge.ensures.after.charges [] [] []).number

pub returns-clause-state : goal.returns-clause-state
returns-clause-state c = (c.charge.ensures.after.charges [] [] []).state
