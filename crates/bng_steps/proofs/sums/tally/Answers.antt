use Rattle.std.proofs.Common.{◌+◌, ◌*◌, ◌^◌, ◌++◌, ◌∷◌, [], arith, sym, subst, take, List}
use Rattle.std.proofs.lemmas.List.{take_more, take_all}
use Rattle.bng_base.specs.declared.item.OutRecord.{OutRecord}
use Rattle.bng_steps.specs.Sums.{Rises}
use Rattle.bng_steps.proofs.Tallying.{rises_begin, rises_more}
use Rattle.bng_steps.proofs.sums.tally.Goals as goal

pub loop-out-init : goal.loop-out-init
loop-out-init c = record { so_far = rises_begin c.args.tally.now; low = λ q input. omega (arith, c.requires.low q input) }

pub tally_one-requires : goal.tally_one-requires
tally_one-requires c = record { low = λ q input. omega (arith, c.loop-out.invariant.low q input, c.loop-out-test.true, c.requires.few) }

pub loop-out-preserved : goal.loop-out-preserved
loop-out-preserved c =
    let i = c.loop-out.out-index in
    let o = c.out-item.result in
    record {
      so_far = subst (λ (os : List OutRecord). Rises c.args.tally.now os c.tally_one.new.tally) (sym (take_more c.args.outs.now i o c.loop-out-test.true))
          (subst (λ (x : OutRecord). Rises c.args.tally.now (take i c.args.outs.now ++ x ∷ []) c.tally_one.new.tally) c.out-item.is
          (rises_more c.args.tally.now c.loop-out.tally c.tally_one.new.tally (take i c.args.outs.now) o c.loop-out.invariant.so_far c.tally_one.ensures.rises));
      low = λ q input. omega (arith, c.tally_one.ensures.few (2 ^ 63 + 2 ^ 16 * i) c.loop-out.invariant.low q input);
    }

pub returns : goal.returns
returns c = subst (λ (os : List OutRecord). Rises c.args.tally.now os c.loop-out.tally) (take_all c.loop-out.out-index c.args.outs.now (omega (arith, c.loop-out-test.false))) c.loop-out.invariant.so_far
