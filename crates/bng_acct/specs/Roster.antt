-- The terms that a spool holds.
use Rattle.std.specs.Prelude.{◌≡◌, ◌==◌, ℕ, ◌+◌, nat_lt, Bool, true, ◌&&◌, ◌||◌, if◌then◌else◌, List, [], ◌∷◌, find, sum_by, Option, Some, None}
use Rattle.std.specs.List.{AllByRecursion}
use Rattle.bng_base.specs.declared.circuit.TermId.{TermId}
use Rattle.bng_acct.specs.declared.held.Held.{Held}

-- by session, and of one session by number
abbrev pub before : TermId → TermId → Bool
before s t = nat_lt s.session.0 t.session.0 || ((s.session.0 == t.session.0) && nat_lt s.serial t.serial)

abbrev pub same : TermId → TermId → Bool
same s t = (s.session.0 == t.session.0) && (s.serial == t.serial)

-- what is held of a term
abbrev pub of_term : TermId → List Held → Option Held
of_term t held = find (λ h. same h.term t) held

-- each comes before those after it
abbrev pub Rises : List Held → Type 0
Rises [] = Unit {0}
Rises (h ∷ hs) = AllByRecursion (λ x. before h.term x.term ≡ true) hs × Rises hs

-- terms in their order, for so many of which there is room
pub record Terms : Type 0 where
  pub held : List Held
  pub room : ℕ

-- what f tells of one that may be there
abbrev pub weight : (Held → ℕ) → Option Held → ℕ
weight f None = 0
weight f (Some h) = f h

-- this is held of its term, and of each other what was
pub record Puts (old new : List Held) (h : Held) : Type 0 where
  pub rises : Rises new
  pub finds : (u : TermId) → of_term u new ≡ (if same h.term u then Some h else of_term u old)
  pub sums : (f : Held → ℕ) → sum_by f new + weight f (of_term h.term old) ≡ sum_by f old + f h

-- nothing is held of the term, and of each other what was
pub record Removes (old new : List Held) (t : TermId) : Type 0 where
  pub rises : Rises new
  pub finds : (u : TermId) → of_term u new ≡ (if same t u then None else of_term u old)
  pub sums : (f : Held → ℕ) → sum_by f new + weight f (of_term t old) ≡ sum_by f old
