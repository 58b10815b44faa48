use Rattle.bng_shard.specs.declared.body.Body.{Body}
use Rattle.bng_shard.proofs.KeyLaws.{keys_of_rows}
use Rattle.bng_shard.proofs.shard.Shard.prepare.Goals as goal

pub returns-then-not-reserve_amply-clause-fit : goal.returns-then-not-reserve_amply-clause-fit
returns-then-not-reserve_amply-clause-fit c =
    let a : Body = c.deref_mut-body.result.now in
    keys_of_rows a.terms.rows

pub returns-then-not-reserve-clause-fit : goal.returns-then-not-reserve-clause-fit
returns-then-not-reserve-clause-fit c = keys_of_rows c.reserve.new.self.rows

pub returns-then-is_err-clause-fit : goal.returns-then-is_err-clause-fit
returns-then-is_err-clause-fit c = keys_of_rows c.reserve.new.self.rows

pub returns-clause-fit : goal.returns-clause-fit
returns-clause-fit c = keys_of_rows c.reserve.new.self.rows
