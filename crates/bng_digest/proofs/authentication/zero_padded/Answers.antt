use Rattle.std.proofs.Common.{ℕ, List, ◌++◌, ◌∙◌, ap, length}
use Rattle.std.proofs.lemmas.List.{drop-replicate}
use Rattle.bng_digest.proofs.authentication.zero_padded.Goals as goal

pub returns : goal.returns
returns c =
    c.copy_to_front.ensures ∙ ap (λ (zeros : List ℕ). c.args.key.now ++ zeros) (drop-replicate (length c.args.key.now) 64 0)
