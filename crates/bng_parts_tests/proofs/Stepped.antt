-- A loop that changes each seat of a list alike.
use Rattle.std.proofs.Common.{◌≡◌, ℕ, ◌+◌, ◌<◌, ◌≤◌, List, set, slice_get, Some, sym, refl, ap, ◌∙◌, arith}
use mathlib.Core.Logic.{dite}
use native.Mathlib.Decide.{ℕ_discrete}
use Rattle.bng_pool.specs.Seats.{SeatView}
use Rattle.bng_pool.proofs.Places.{some_same, set_same, set_other}

-- so many of the seats are changed
pub record Stepped (f : SeatView → SeatView) (before : List SeatView) (n : ℕ) (now : List SeatView) : Type 0 where
  pub done : (j : ℕ) (q : SeatView) → j < n → slice_get before j ≡ Some q → slice_get now j ≡ Some (f q)
  pub ahead : (j : ℕ) → n ≤ j → slice_get now j ≡ slice_get before j

pub stepped_none : (f : SeatView → SeatView) (before : List SeatView) → Stepped f before 0 before
stepped_none f before = record { done = λ j q low e. absurd (omega arith); ahead = λ j h. refl }

pub stepped_more : (f : SeatView → SeatView) (before : List SeatView) (n : ℕ) (now : List SeatView) (x x' : SeatView) → Stepped f before n now → slice_get now n ≡ Some x → x' ≡ f x → Stepped f before (n + 1) (set now n x')
stepped_more f before n now x x' s at is = record {
  done = λ j q low e. dite (ℕ_discrete j n)
      (λ here. let same : x ≡ q = some_same x q (sym at ∙ (s.ahead n (omega arith) ∙ (ap (slice_get before) (sym here) ∙ e))) in ap (slice_get (set now n x')) here ∙ (set_same now n x x' at ∙ ap (λ z. Some z) (is ∙ ap f same)))
      (λ there. set_other now n j x' there ∙ s.done j q (omega arith) e);
  ahead = λ j h. set_other now n j x' (λ e. absurd (omega arith)) ∙ s.ahead j (omega arith);
}
