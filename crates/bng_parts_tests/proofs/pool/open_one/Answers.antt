use Rattle.std.proofs.Common.{◌+◌, ◌-◌, length, refl, sym, ap, subst, arith}
use Rattle.std.proofs.lemmas.Result.{IfOk-weaker}
use Rattle.bng_base.specs.declared.book.Range.{Range}
use Rattle.bng_pool.specs.Ranges.{HasAddress}
use Rattle.bng_parts_tests.proofs.pool.open_one.Goals as goal

pub returns-clause-range : goal.returns-clause-range
returns-clause-range c = let r : Range = record { first = record { 0 = 167772160 }; last = record { 0 = 167772160 + c.args.size - 1 } } in
    IfOk-weaker c.open.result _ _ (λ t is. (ap length is.0, λ a lo hi. subst (λ z. HasAddress z a) (sym is.0) (0, r, refl, (lo, let some = c.requires.0 in omega arith)))) c.open.ensures.pool
