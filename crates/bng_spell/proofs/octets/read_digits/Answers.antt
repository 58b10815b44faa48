use Rattle.std.proofs.Common.{List, ℕ, length, ap, sym, ◌∙◌, refl}
use Rattle.hex.specs.Hex.{encode_lower, decode_sized}
use Rattle.bng_spell.proofs.Digits.{decoded, decoded_octets}
use Rattle.bng_spell.proofs.octets.read_digits.Goals as goal

pub returns-then-is_ok-clause-found : goal.returns-then-is_ok-clause-found
returns-then-is_ok-clause-found c = λ t. (
  decoded_octets c.args.field.now c.decode_to_slice.new.out (length c.args.octets.now) c.decode_to_slice.result (decode_sized c.args.field.now (length c.args.octets.now)) refl c.decode_to_slice.ensures.value
      (sym c.is_ok.ensures.value ∙ c.if-is_ok.true),
  c.are_digits.ensures.0 t,
)

pub returns-then-is_ok-clause-all : goal.returns-then-is_ok-clause-all
returns-then-is_ok-clause-all c = λ bytes p len e.
    let got = rw (decoded c.args.field.now bytes (length c.args.octets.now) p len e) at c.decode_to_slice.ensures.value in
    c.are_digits.ensures.1 (e ∙ ap (λ (t : List ℕ). encode_lower t) (sym got.1))

pub returns-else-is_ok-clause-all : goal.returns-else-is_ok-clause-all
returns-else-is_ok-clause-all c = λ bytes p len e.
    let got = rw (decoded c.args.field.now bytes (length c.args.octets.now) p len e) at c.decode_to_slice.ensures.value in
    rw got.0 at c.is_ok.ensures.value
