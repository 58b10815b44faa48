use Rattle.std.proofs.Common.{ℕ, List, [], ◌≡◌, length, ◌++◌, ap, ◌∙◌}
use Rattle.std.proofs.lemmas.List.{append-nil}
use Rattle.byteorder.specs.Endian.{big_bytes}
use Rattle.md5.specs.Md5.{md5}
use Rattle.md5.proofs.StandardFacts.{length-md5}
use Rattle.bng_digest.specs.Mixing.{revealed}
use Rattle.bng_digest.proofs.Chunks.{revealed_is}
use Rattle.bng_digest.proofs.hiding.unhide_avp.Goals as goal

pub returns-clause-value : goal.returns-clause-value
returns-clause-value c =
    let size : length c.md5_of-first.result ≡ 16 = ap length c.md5_of-first.ensures ∙ length-md5 _ in
    revealed_is c.args.secret.now c.md5_of-first.result c.reveal.new.value c.args.value.now size c.reveal.ensures
    ∙ ap (λ (first : List ℕ). revealed c.args.secret.now first c.args.value.now)
    (c.md5_of-first.ensures ∙ ap (λ (t : List ℕ). md5 (t ++ (c.args.secret.now ++ (c.args.vector.now ++ [])))) c.to_be_bytes.ensures
    ∙ ap (λ (t : List ℕ). md5 (big_bytes 2 c.args.kind ++ (c.args.secret.now ++ t))) (append-nil c.args.vector.now))
