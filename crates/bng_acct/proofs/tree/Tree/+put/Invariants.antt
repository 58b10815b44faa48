use Rattle.bng_acct.proofs.tree.Tree.+put.Given as goal

abbrev pub decreases-put : goal.decreases-put
decreases-put l = goal.size-put l
