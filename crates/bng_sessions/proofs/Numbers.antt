-- Numbers in their order: equal ones tie, and no others.
use Rattle.std.proofs.Common.{◌≡◌, ◌≢◌, ℕ, true, false, arith}
use Rattle.std.specs.Ordering.{nat_cmp, eq_by_cmp}
use Rattle.std.proofs.lemmas.Bool.Decides.{nat_tests}

pub same_number : (q k : ℕ) → q ≡ k → eq_by_cmp nat_cmp q k ≡ true
same_number q k e = grind (arith, nat_tests)

pub other_number : (q k : ℕ) → q ≢ k → eq_by_cmp nat_cmp q k ≡ false
other_number q k e = grind (arith, nat_tests)
