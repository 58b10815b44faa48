-- Which calls of a form in memory fail.
use Rattle.std.specs.Prelude.{ℕ, ◌+◌, ◌-◌, ◌^◌, ◌==◌, List, Bool, ◌&&◌, not, min}
use Rattle.std.specs.List.{list_any}
use Rattle.bng_plant.specs.declared.failing.Failing.{Failing}

-- the numbers of the calls that are to fail, the first being 1, and how many began
pub record Calls : Type 0 where
  pub fail_at : List ℕ
  pub begun : ℕ

abbrev pub calls_of : Failing → Calls
calls_of f = record { fail_at = f.fail_at.items; begun = f.begun }

-- a count of one more, which stands still at the end of its type
abbrev pub counted_on : ℕ → ℕ
counted_on n = min (n + 1) (2 ^ 64 - 1)

-- the call that begins next is one of those that are to fail
abbrev pub is_due : Calls → Bool
is_due c = list_any (λ n. n == counted_on c.begun) c.fail_at

-- the call that begins next goes on: it is not one of those, and there is room for it
abbrev pub goes_on : Calls → Bool → Bool
goes_on c has_room = not (is_due c) && has_room

-- one call more began
abbrev pub one_more : Calls → Calls
one_more c = record { fail_at = c.fail_at; begun = counted_on c.begun }

-- no call has begun
abbrev pub fresh : List ℕ → Calls
fresh fail_at = record { fail_at = fail_at; begun = 0 }
