-- Each shard has a lowest number that is not used, or uses all.
use Rattle.std.proofs.Common.{◌≡◌, ℕ, zero, suc, ◌+◌, ◌*◌, ◌<◌, ◌≤◌, ◌⊎◌, Option, Some, None, inl, inr, is_some, refl, sym, ap, subst, arith}
use Rattle.std.specs.Prelude.{IsSome}
use Rattle.std.proofs.lemmas.Bool.{cases_eq}
use Rattle.bng_sessions.specs.Sessions.{Sessions, value_at}
use Rattle.bng_steps.specs.declared.session.Session.{Session}
use Rattle.bng_steps.specs.State.{State}
use Rattle.bng_steps.specs.Discovery.{IsVacancy}

-- the lowest of so many numbers from a on that is not used
record Lowest (ss : Sessions Session) (a k n : ℕ) : Type 0 where
  from : a ≤ n
  below : n < a + k
  vacant : value_at ss n ≡ None
  lower : (m : ℕ) → a ≤ m → m < n → IsSome (value_at ss m)

abbrev Scan : Sessions Session → ℕ → ℕ → Type 0
Scan ss a k = ((n : ℕ) × Lowest ss a k n) ⊎ ((m : ℕ) → a ≤ m → m < a + k → IsSome (value_at ss m))

is_used : (ss : Sessions Session) (a : ℕ) (x : Session) → value_at ss a ≡ Some x → IsSome (value_at ss a)
is_used ss a x is = ap (λ (o : Option Session). is_some o) is

from_first : (ss : Sessions Session) (a k : ℕ) (o : Option Session) → value_at ss a ≡ o → Scan ss (a + 1) k → Scan ss a (suc k)
from_first ss a k None is rest = inl (a, record { from = omega arith; below = omega arith; vacant = is; lower = λ m low high. absurd (omega (arith, low, high)) })
from_first ss a k (Some x) is (inl (n, h)) =
    inl (
      n,
      record {
        from = omega (arith, h.from);
        below = omega (arith, h.below);
        vacant = h.vacant;
        lower = λ m low high. elim (cases_eq m a) [
          | inl e ↦ subst (λ (k : ℕ). IsSome (value_at ss k)) (sym e) (is_used ss a x is)
          | inr d ↦ h.lower m (omega (arith, low, d)) high
        ];
      },
    )
from_first ss a k (Some x) is (inr all) =
    inr (λ m low high. elim (cases_eq m a) [
      | inl e ↦ subst (λ (k : ℕ). IsSome (value_at ss k)) (sym e) (is_used ss a x is)
      | inr d ↦ all m (omega (arith, low, d)) (omega (arith, high))
    ])

scan : (ss : Sessions Session) (a k : ℕ) → Scan ss a k
scan ss a zero = inr (λ m low high. absurd (omega (arith, low, high)))
scan ss a (suc k) = from_first ss a k (value_at ss a) refl (scan ss (a + 1) k)

of_scan : (s : State) → Scan s.sessions (s.sessions.shard * 1024 + 1) 1022 → (v : Option ℕ) × IsVacancy s v
of_scan s (inl (n, h)) = (
  Some n,
  record {
    of_shard = (h.from, omega (arith, h.below));
    vacant = h.vacant;
    lower_used = λ m is lt. h.lower m is.0 lt;
  },
)
of_scan s (inr all) = (None, λ n is. all n is.0 (omega (arith, is.1)))

pub vacancy_of : (s : State) → (v : Option ℕ) × IsVacancy s v
vacancy_of s = of_scan s (scan s.sessions (s.sessions.shard * 1024 + 1) 1022)
