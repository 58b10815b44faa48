-- What a tree of terms is seen as.
use Rattle.std.specs.Prelude.{◌≡◌, ℕ, ◌+◌, ◌*◌, ◌^◌, ◌≤◌, max, true, List, [], ◌∷◌, ◌++◌, length}
use Rattle.std.specs.List.{AllByRecursion}
use Rattle.bng_base.specs.declared.circuit.TermId.{TermId}
use Rattle.bng_acct.specs.declared.held.Held.{Held}
use Rattle.bng_acct.specs.Roster.{before, Rises}

-- the terms in their order, and how many levels the tree has
pub record Branch : Type 0 where
  pub held : List Held
  pub height : ℕ

abbrev pub empty : Branch
empty = record { held = []; height = 0 }

-- neither height is more than this above the other
abbrev pub DifferByAtMost : ℕ → ℕ → ℕ → Type 0
DifferByAtMost by l r = (l ≤ r + by) × (r ≤ l + by)

-- the levels are few: so many terms have at most 2 log2 (n + 1) of them
abbrev pub IsFlat : List Held → ℕ → Type 0
IsFlat held height = 2 ^ height ≤ (length held + 1) * (length held + 1)

-- the height h of what two sides, of which one may be two levels higher, settle to
pub record Settles (l r h : ℕ) : Type 0 where
  pub at_least : max l r ≤ h
  pub at_most : h ≤ max l r + 1
  pub level : DifferByAtMost 1 l r → h ≡ max l r + 1

-- nothing, or one that is of this term
abbrev pub AreOf : TermId → List Held → Type 0
AreOf t [] = Unit {0}
AreOf t (h ∷ []) = h.term ≡ t
AreOf t (h ∷ g ∷ hs) = ⊥

-- in the place of what was held of a term, if anything was, this is held
pub record Edits (old new : List Held) (t : TermId) (here : List Held) : Type 0 where
  pub front : List Held
  pub was : List Held
  pub behind : List Held
  pub old_is : old ≡ front ++ (was ++ behind)
  pub new_is : new ≡ front ++ (here ++ behind)
  pub was_all : AreOf t was
  pub front_all : AllByRecursion (λ h. before h.term t ≡ true) front
  pub behind_all : AllByRecursion (λ h. before t h.term ≡ true) behind

-- boxes that no tree uses, and for how many there is room
pub record Stock : Type 0 where
  pub left : ℕ
  pub room : ℕ

-- the terms rise, and each box is in the tree, two for a term, or left
pub record IsRoster (tree : Branch) (spares : Stock) (room : ℕ) : Type 0 where
  pub rises : Rises tree.held
  pub left : spares.left + 2 * length tree.held ≡ 2 * room
  pub boxes : spares.room ≡ 2 * room
  pub few : room ≤ 262144
