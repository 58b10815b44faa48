-- Lists of the numbers of those sessions of a shard that pass a test.
use Rattle.std.specs.Prelude.{◌≡◌, ◌≤◌, ◌==◌, not, ℕ, Bool, true, false, List, [], ◌∷◌, ◌++◌, Option, Some, None, filter, sum_by, count_by, cond}
use Rattle.std.specs.List.{All}
use Rattle.bng_base.specs.declared.address.SessionNo.{SessionNo}
use Rattle.bng_sessions.specs.Sessions.{Sessions, value_at}
use Rattle.bng_sessions.specs.Listed.{values}
use Rattle.bng_steps.specs.declared.session.Session.{Session}

-- there is a session, and it passes
abbrev pub does_pass : (Session → Bool) → Option Session → Bool
does_pass test None = false
does_pass test (Some x) = test x

-- how many pass
abbrev pub passing_in : (Session → Bool) → Sessions Session → ℕ
passing_in test sessions = sum_by (λ x. cond (test x) 1 0) (values sessions)

-- each session that passes is listed once, by its number, and no other is
abbrev pub AreListed : (Session → Bool) → Sessions Session → List SessionNo → Type 0
AreListed test sessions numbers = (n : ℕ) → count_by (λ (m : SessionNo). m.0 == n) numbers ≡ cond (does_pass test (value_at sessions n)) 1 0

-- the list once a session has come, and once it is gone
abbrev pub with_listed : (Session → Bool) → Session → List SessionNo → List SessionNo
with_listed test x numbers = cond (test x) (numbers ++ x.number ∷ []) numbers

abbrev pub without_listed : (Session → Bool) → Session → List SessionNo → List SessionNo
without_listed test x numbers = cond (test x) (filter (λ (m : SessionNo). not (m.0 == x.number.0)) numbers) numbers

-- the lowest of these numbers whose session passes, if one does
abbrev pub IsLowestPassing : (Session → Bool) → Sessions Session → List SessionNo → Option SessionNo → Type 0
IsLowestPassing test sessions numbers None = All (λ (m : SessionNo). does_pass test (value_at sessions m.0) ≡ false) numbers
IsLowestPassing test sessions numbers (Some n) = (does_pass test (value_at sessions n.0) ≡ true) × All (λ (m : SessionNo). does_pass test (value_at sessions m.0) ≡ true → n.0 ≤ m.0) numbers
