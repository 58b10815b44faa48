use Rattle.std.proofs.Common.{ℕ, List, ◌++◌, map, ap, ◌∙◌}
use Rattle.std.specs.List.{concat}
use Rattle.std.proofs.lemmas.List.{append-nil}
use Rattle.md5.specs.Md5.{md5}
use Rattle.bng_digest.specs.Authentication.{keyed_block, hmac_md5}
use Rattle.bng_digest.proofs.authentication.hmac_md5_of.Goals as goal

pub returns : goal.returns
unfolding hmac_md5
returns c =
    c.md5_behind.ensures
    ∙ ap (λ (t : List ℕ). md5 (c.keyed_block-2.result ++ t)) (append-nil c.md5_behind-inner.result ∙ c.md5_behind-inner.ensures)
    ∙ ap (λ (outer : List ℕ). md5 (outer ++ md5 (c.keyed_block.result ++ concat (map (λ text. text.now) c.args.texts.now)))) c.keyed_block-2.ensures
    ∙ ap (λ (inner : List ℕ). md5 (keyed_block c.args.key.now 0x5c ++ md5 (inner ++ concat (map (λ text. text.now) c.args.texts.now)))) c.keyed_block.ensures
