-- A test of a length.
use Rattle.std.proofs.Common.{◌≡◌, ℕ, ◌≤◌, ◌<◌, Bool, true, false, sym}
use Rattle.std.specs.Prelude.{nat_le, MatchBool}
use Rattle.std.proofs.lemmas.Bool.{le-leb, lt-leb}

pub short_is : (r : Bool) (n : ℕ) → MatchBool r (n ≤ 4096) (4096 < n) → r ≡ nat_le n 4096
short_is true n h = sym (le-leb n 4096 h)
short_is false n h = sym (lt-leb n 4096 h)
