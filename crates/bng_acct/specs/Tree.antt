-- What a node of a tree of terms is seen as, and what holds of it.
use Rattle.std.specs.Prelude.{◌≡◌, ◌+◌, max, List, ◌∷◌, ◌++◌, sum_by}
use Rattle.bng_acct.specs.declared.held.Held.{Held}
use Rattle.bng_acct.specs.declared.tree.Note.{Note}
use Rattle.bng_acct.specs.declared.tree.Node.{Node}
use Rattle.bng_acct.specs.declared.tree.Node.TheVariants.{Leaf, Fork}
use Rattle.bng_acct.specs.Branch.{Branch, empty, DifferByAtMost, IsFlat}
use Rattle.bng_acct.specs.Spool.{stop_count}

abbrev pub branch : Node → Branch
branch Leaf = empty
branch (Fork l h n r) = record { held = l.value.held ++ h ∷ r.value.held; height = n.height }

-- the sides differ by a level at most, and what is noted is right
pub record IsNoted (l r : Branch) (held : List Held) (n : Note) : Type 0 where
  pub even : DifferByAtMost 1 l.height r.height
  pub height : n.height ≡ max l.height r.height + 1
  pub stops : n.stops ≡ sum_by stop_count held
  pub flat : IsFlat held n.height

abbrev pub IsTree : Node → Type 0
IsTree Leaf = Unit {0}
IsTree (Fork l h n r) = IsNoted l.value r.value (l.value.held ++ h ∷ r.value.held) n
