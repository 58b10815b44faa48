use Rattle.std.proofs.Common.{ℕ, List, ◌++◌, ap, ◌∙◌}
use Rattle.std.proofs.lemmas.List.{append-nil}
use Rattle.md5.specs.Md5.{md5}
use Rattle.bng_digest.specs.Mixing.{hidden}
use Rattle.bng_digest.proofs.Chunks.{hidden_is}
use Rattle.bng_digest.proofs.hiding.hide_password.Goals as goal

pub returns-clause-value : goal.returns-clause-value
returns-clause-value c =
    hidden_is c.args.secret.now c.md5_of-first.result c.args.block.now c.hide.new.value c.hide.ensures
    ∙ ap (λ (first : List ℕ). hidden c.args.secret.now first c.args.block.now) (c.md5_of-first.ensures ∙ ap (λ (t : List ℕ). md5 (c.args.secret.now ++ t)) (append-nil c.args.authenticator.now))
