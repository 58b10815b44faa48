use Rattle.std.proofs.Common.{◌+◌, arith}
use Rattle.bng_pppoe_wire.proofs.TagSteps.{blank, part_le}
use Rattle.bng_discovery.proofs.Fitting.{longer}
use Rattle.bng_discovery.proofs.reply.is_short.Goals as goal

pub overflow_add-size-in-loop-tag : goal.overflow_add-size-in-loop-tag
overflow_add-size-in-loop-tag c = omega (arith, c.loop-tag.invariant.small, c.requires c.loop-tag.tag-index blank c.loop-tag-test.true)

pub returns-then-size-gt-LONGEST-clause-cases : goal.returns-then-size-gt-LONGEST-clause-cases
returns-then-size-gt-LONGEST-clause-cases c =
    omega (arith, c.if-size-gt-LONGEST.true, c.loop-tag.invariant.size, longer c.args.list.now c.loop-tag.tag-index c.loop-tag-test.true, part_le c.args.list.now (c.loop-tag.tag-index + 1))
