use Rattle.std.proofs.Common.{◌≡◌, ◌+◌, ◌*◌, ◌∙◌, refl, subst, sym, arith}
use Rattle.bng_steps.specs.Cutting.{Clears}
use Rattle.bng_steps.specs.TermRows.{whole}
use Rattle.bng_steps.proofs.Clearing.{cut_off_clears}
use Rattle.bng_steps.proofs.CutLaws.{cuts_begin, cuts_done, cuts_more}
use Rattle.bng_steps.proofs.SumsKept.{keeps_same, keeps_then}
use Rattle.bng_steps.proofs.cutting.cut_off.Goals as goal

pub loop-n-init : goal.loop-n-init
loop-n-init g c =
    let s = whole c.args.served.now c.args.terms.now in
    let first = c.shard.result * 1024 + 1 in
    record { cut = cuts_begin c.args.tunnel.0 first first s s refl refl; sums = keeps_same c.args.terms.now; shard = refl; placed = λ r all. all }

pub loop-n-preserved : goal.loop-n-preserved
loop-n-preserved g c =
    let first = c.shard.result * 1024 + 1 in
    record {
      cut = cuts_more c.args.tunnel.0 first c.loop-n.n (whole c.args.served.now c.args.terms.now) (whole c.loop-n.served c.loop-n.terms) (whole c.cut_one.new.served c.cut_one.new.terms) c.loop-n.auto.n c.loop-n.invariant.cut c.cut_one.ensures.cut;
      sums = keeps_then c.args.terms.now c.loop-n.terms c.cut_one.new.terms c.loop-n.invariant.sums c.cut_one.ensures.sums;
      shard = c.cut_one.ensures.shard ∙ c.loop-n.invariant.shard;
      placed = λ r all. c.cut_one.ensures.placed r (c.loop-n.invariant.placed r all);
    }

pub returns-clause-cut : goal.returns-clause-cut
returns-clause-cut g c =
    let first = c.shard.result * 1024 + 1 in
    let from = c.shard.ensures.number in
    let start : first ≡ c.args.served.now.sessions.shard * 1024 + 1 = omega arith in
    let all : c.loop-n.n ≡ first + 1022 = omega (arith, c.loop-n-test.false, c.loop-n.auto.n-end) in
    cuts_done c.args.tunnel.0 first c.loop-n.n (whole c.args.served.now c.args.terms.now) (whole c.loop-n.served c.loop-n.terms) start all c.loop-n.invariant.cut

pub returns-clause-clears : goal.returns-clause-clears
returns-clause-clears g c =
    let s = whole c.args.served.now c.args.terms.now in
    subst (Clears c.args.tunnel.0 s) (sym (returns-clause-cut g c)) (cut_off_clears c.args.tunnel.0 s c.shard.ensures.own)
