use Rattle.std.proofs.Common.{[], arith}
use Rattle.bng_desk.proofs.Begun.{all_owe_none, begins_all, billed_then, here_settling, here_tenures, them_more, them_none}
use Rattle.bng_desk.proofs.starts.begin_all.Goals as goal

pub loop-shard-init : goal.loop-shard-init
loop-shard-init c = them_none c.args.moment c.args.wall c.args.shards.now c.args.accounts.now c.requires.settling

pub begin-requires : goal.begin-requires
begin-requires c =
    let shards = c.loop-shard.shards in
    let i = c.loop-shard.shard-index in
    let d = c.shard-item.result in
    record {
      terms = here_tenures c.args.moment c.args.wall c.args.shards.now shards i d c.args.accounts.now c.loop-shard.accounts c.loop-shard-test.true c.loop-shard.invariant c.requires.terms;
      settling = ([], here_settling c.args.moment c.args.wall c.args.shards.now shards i d c.args.accounts.now c.loop-shard.accounts c.loop-shard-test.true c.loop-shard.invariant);
    }

pub loop-shard-preserved : goal.loop-shard-preserved
loop-shard-preserved c =
    them_more c.args.moment c.args.wall c.args.shards.now c.loop-shard.shards c.loop-shard.shard-index c.shard-item.result c.args.accounts.now c.loop-shard.accounts c.loop-shard-test.true c.loop-shard.invariant
    c.begin.new.shard c.begin.new.accounts c.loop-shard.auto.shards c.begin.ensures.begins c.begin.ensures.settling

pub returns-clause-begins : goal.returns-clause-begins
returns-clause-begins c = begins_all c.args.moment c.args.wall c.args.shards.now c.loop-shard.shards c.loop-shard.shard-index c.args.accounts.now c.loop-shard.accounts (omega arith) c.loop-shard.auto.shards c.loop-shard.invariant

pub returns-clause-owes_none : goal.returns-clause-owes_none
returns-clause-owes_none c = all_owe_none c.args.moment c.args.wall c.args.shards.now c.loop-shard.shards c.loop-shard.shard-index c.args.accounts.now c.loop-shard.accounts (omega arith) c.loop-shard.auto.shards c.loop-shard.invariant

pub returns-clause-billed : goal.returns-clause-billed
returns-clause-billed c = billed_then c.args.moment c.args.wall c.args.shards.now c.loop-shard.shards c.loop-shard.shard-index c.args.accounts.now c.loop-shard.accounts (omega arith) c.loop-shard.auto.shards c.loop-shard.invariant
