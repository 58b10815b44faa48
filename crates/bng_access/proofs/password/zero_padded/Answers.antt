use Rattle.std.proofs.Common.{ℕ, List, ◌++◌, ◌∙◌, ap, length}
use Rattle.std.proofs.lemmas.List.{drop-replicate}
use Rattle.bng_access.proofs.password.zero_padded.Goals as goal

pub returns : goal.returns
returns c = c.copy_to_front.ensures ∙ ap (λ (zeros : List ℕ). c.args.password.now ++ zeros) (drop-replicate (length c.args.password.now) 128 0)
