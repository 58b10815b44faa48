use Rattle.bng_acct.proofs.tree.Tree.+get.Given as goal

abbrev pub decreases-get : goal.decreases-get
decreases-get l = goal.size-get l
