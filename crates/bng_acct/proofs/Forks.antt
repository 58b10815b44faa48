-- What is known of a tree once its node is a fork.
use Rattle.std.proofs.Common.{◌≡◌, ◌∷◌, ◌++◌, Box, sym, ap, ◌∙◌, subst}
use Rattle.std.specs.declared.alloc.Global.{Global}
use Rattle.bng_acct.specs.declared.held.Held.{Held}
use Rattle.bng_acct.specs.declared.tree.Tree.{Tree}
use Rattle.bng_acct.specs.declared.tree.Note.{Note}
use Rattle.bng_acct.specs.declared.tree.Node.{Node}
use Rattle.bng_acct.specs.declared.tree.Node.TheVariants.{Leaf, Fork}
use Rattle.bng_acct.specs.Branch.{Branch, empty}
use Rattle.bng_acct.specs.Tree.{branch, IsTree, IsNoted}

pub at_leaf : {n : Node} {d : Branch} → branch n ≡ d → n ≡ Leaf → d ≡ empty
at_leaf v is = sym v ∙ ap branch is

pub record AtFork (d : Branch) (l : Branch) (h : Held) (r : Branch) (k : Note) : Type 0 where
  pub held : d.held ≡ l.held ++ h ∷ r.held
  pub height : d.height ≡ k.height
  pub noted : IsNoted l r (l.held ++ h ∷ r.held) k

pub at_fork : {n : Node} {d : Branch} {l r : Box Tree Global} {h : Held} {k : Note} → branch n ≡ d → IsTree n → n ≡ Fork l h k r → AtFork d l.value h r.value k
at_fork {n} {d} {l} {r} {h} {k} v good is = record {
  held = ap (λ (b : Branch). b.held) (sym v ∙ ap branch is);
  height = ap (λ (b : Branch). b.height) (sym v ∙ ap branch is);
  noted = subst IsTree is good;
}
