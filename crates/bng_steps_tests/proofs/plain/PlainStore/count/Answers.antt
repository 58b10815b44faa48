use Rattle.std.proofs.Common.{◌∙◌, sym, arith}
use Rattle.bng_steps_tests.proofs.PlainLaws.{few, used_seen}
use Rattle.bng_steps_tests.proofs.plain.PlainStore.count.Goals as goal

pub overflow_cast-result : goal.overflow_cast-result
overflow_cast-result c =
    let least = few c.self.inside.shard c.self.inside.sessions.items c.self.invariant.sorted c.self.invariant.of_shard in
    let len = c.len.ensures in
    omega (arith, least, len)

pub returns-clause-used : goal.returns-clause-used
returns-clause-used c =
    let len = c.len.ensures in
    let used = used_seen c.self.inside.shard c.self.inside.sessions.items c.self.invariant.sorted in
    rw (← c.self.view_is) (omega (arith, len, used))

pub returns-clause-few : goal.returns-clause-few
returns-clause-few c =
    let least = few c.self.inside.shard c.self.inside.sessions.items c.self.invariant.sorted c.self.invariant.of_shard in
    let len = c.len.ensures in
    omega (arith, least, len)
