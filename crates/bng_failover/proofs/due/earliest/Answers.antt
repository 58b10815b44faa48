use Rattle.std.proofs.Common.{◌≡◌, ◌+◌, ◌<◌, ℕ, Some, length, get_or, sym, subst, arith}
use Rattle.std.specs.Prelude.{slice_get}
use Rattle.std.proofs.lemmas.Option.{slice_get-get_or}
use Rattle.bng_failover.specs.declared.server.Server.{Server}
use Rattle.bng_failover.specs.Due.{IsEarliest}
use Rattle.bng_failover.proofs.Earliest.{earlier_more}
use Rattle.bng_failover.proofs.due.earliest.Goals as goal

pub loop-at-preserved : goal.loop-at-preserved
loop-at-preserved c =
    let s : Server = get_or c.args.servers.now c.loop-at.at c.index-servers-at.result in
    let below : c.loop-at.at < length c.args.servers.now = omega (arith, c.loop-at-test.true) in
    let is : slice_get c.args.servers.now c.loop-at.at ≡ Some s = slice_get-get_or c.args.servers.now c.loop-at.at c.index-servers-at.result below in
    subst (IsEarliest c.args.servers.now (c.loop-at.at + 1)) (sym c.earlier-best.ensures)
    (earlier_more c.args.servers.now c.loop-at.at s is c.loop-at.best c.oldest.result c.loop-at.invariant c.oldest.ensures)

pub returns : goal.returns
returns c =
    let all : c.loop-at.at ≡ length c.args.servers.now = omega (arith, c.loop-at-test.false, c.loop-at.auto.at-end) in
    subst (λ (n : ℕ). IsEarliest c.args.servers.now n c.loop-at.best) all c.loop-at.invariant
