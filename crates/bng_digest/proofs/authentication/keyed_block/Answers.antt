use Rattle.std.proofs.Common.{ℕ, ◌≡◌, ◌∙◌, ap, map, length, arith, length-append}
use Rattle.std.specs.Prelude.{bit_xor}
use Rattle.std.proofs.lemmas.List.{length-replicate, length-map, length-take, length-drop, get_or_default}
use Rattle.std.proofs.lemmas.List.Edits.{map_over_more}
use Rattle.bng_digest.specs.Authentication.{keyed_block}
use Rattle.bng_digest.proofs.Chunks.{mapped_over}
use Rattle.bng_digest.proofs.authentication.keyed_block.Goals as goal

pub loop-i-preserved : goal.loop-i-preserved
loop-i-preserved c =
    let size : length c.zero_padded-block.result ≡ 64 = omega (arith, c.requires, ap length c.zero_padded-block.ensures, length-append {A = ℕ}, length-replicate {A = ℕ}) in
    map_over_more (λ octet. bit_xor octet c.args.pad) c.zero_padded-block.result c.loop-i.block c.loop-i.i _ (omega arith) c.loop-i.invariant (get_or_default c.loop-i.block c.loop-i.i 0 _ (omega (arith, ap length c.loop-i.invariant, length-append {A = ℕ}, length-map {A = ℕ} {B = ℕ}, length-take {A = ℕ}, length-drop {A = ℕ})))

pub returns : goal.returns
unfolding keyed_block
returns c =
    let size : length c.zero_padded-block.result ≡ 64 = omega (arith, c.requires, ap length c.zero_padded-block.ensures, length-append {A = ℕ}, length-replicate {A = ℕ}) in
    mapped_over (λ octet. bit_xor octet c.args.pad) c.zero_padded-block.result c.loop-i.block c.loop-i.i (omega arith) c.loop-i.invariant ∙ ap (map (λ octet. bit_xor octet c.args.pad)) c.zero_padded-block.ensures
