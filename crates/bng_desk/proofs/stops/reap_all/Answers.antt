use Rattle.std.proofs.Common.{◌+◌, ◌<◌, length, map, drop, take, arith}
use Rattle.bng_steps.specs.Protocol.{key_in}
use Rattle.bng_desk.specs.Model.{keys_in}
use Rattle.bng_desk.specs.Round.{news_in}
use Rattle.bng_desk.specs.Taking.{far, states_of}
use Rattle.bng_desk.proofs.InAll.{within_one as one_in_all, within_same}
use Rattle.bng_desk.proofs.Lines.{within_one}
use Rattle.bng_desk.proofs.Reaping.{reaps_more, reaps_none, reaps_them, settles_them, settling_at}
use Rattle.bng_desk.proofs.stops.reap_all.Goals as goal

pub loop-shard-init : goal.loop-shard-init
loop-shard-init c = reaps_none c.args.moment c.args.wall c.args.shards.now c.args.pool.now c.args.accounts.now c.requires.numbers c.requires.held c.requires.terms c.requires.settling

pub reap-requires : goal.reap-requires
reap-requires c =
    let shards = c.loop-shard.shards in
    let i = c.loop-shard.shard-index in
    let d = c.shard-item.result in
    let began = map key_in (news_in (states_of c.args.shards.now)) in
    let lt : i < length shards = omega (arith, c.loop-shard-test.true, c.loop-shard.auto.shards) in
    record {
      low = within_one far shards i d c.loop-shard.accounts.lines lt (c.loop-shard.invariant.within far c.requires.low);
      low_in_all = one_in_all shards i d c.loop-shard.accounts.stopped lt (within_same c.args.shards.now shards c.args.accounts.now.stopped c.loop-shard.accounts.stopped c.requires.low_in_all c.loop-shard.invariant.same);
      terms = c.loop-shard.invariant.tenures i d lt;
      settling = (keys_in (take i shards), keys_in (drop (i + 1) shards), began, settling_at shards i d began c.loop-shard.accounts.billing lt c.loop-shard.invariant.settling);
      held = c.loop-shard.invariant.held i d lt;
    }

pub loop-shard-preserved : goal.loop-shard-preserved
loop-shard-preserved c =
    reaps_more c.args.moment c.args.wall c.args.shards.now c.loop-shard.shards c.loop-shard.shard-index c.shard-item.result c.reap.new.shard c.args.pool.now c.loop-shard.pool c.reap.new.pool c.args.accounts.now c.loop-shard.accounts c.reap.new.accounts
    c.loop-shard-test.true c.loop-shard.auto.shards c.loop-shard.invariant c.reap.ensures.reaps c.reap.ensures.settling c.reap.ensures.terms c.reap.ensures.held c.reap.ensures.others

pub returns-clause-reaps : goal.returns-clause-reaps
returns-clause-reaps c =
    reaps_them c.args.moment c.args.wall c.args.shards.now c.loop-shard.shards c.loop-shard.shard-index c.args.pool.now c.loop-shard.pool c.args.accounts.now c.loop-shard.accounts (omega arith) c.loop-shard.auto.shards c.loop-shard.invariant

pub returns-clause-within : goal.returns-clause-within
returns-clause-within c most within = c.loop-shard.invariant.within most within

pub returns-clause-same : goal.returns-clause-same
returns-clause-same c = c.loop-shard.invariant.same

pub returns-clause-settling : goal.returns-clause-settling
returns-clause-settling c =
    settles_them c.args.moment c.args.wall c.args.shards.now c.loop-shard.shards c.loop-shard.shard-index c.args.pool.now c.loop-shard.pool c.args.accounts.now c.loop-shard.accounts (omega arith) c.loop-shard.auto.shards c.loop-shard.invariant

pub returns-clause-terms : goal.returns-clause-terms
returns-clause-terms c = c.loop-shard.invariant.tenures

pub returns-clause-held : goal.returns-clause-held
returns-clause-held c = c.loop-shard.invariant.held
