use Rattle.std.proofs.Common.{◌≡◌, sym, ◌∙◌, rules}
use Rattle.std.proofs.lemmas.Bool.Decides.{Decides-eqb}
use Rattle.std.proofs.lemmas.Slice.Eq.{slice_eq-Decides}
use Rattle.hex.specs.Hex.{encode_lower}
use Rattle.bng_spell.proofs.octets.is_made.Goals as goal

pub returns : goal.returns
returns c =
    let same : c.encode_to_slice.new.output ≡ encode_lower c.args.octets.now = search (rules, c.encode_to_slice.ensures.fits, c.encode_to_slice.ensures.written) in
    let decides = slice_eq-Decides Decides-eqb c.args.field.now c.encode_to_slice.new.output c.eq.result c.eq.ensures in
    (λ t. decides.0 t ∙ same, λ e. decides.1 (e ∙ sym same))
