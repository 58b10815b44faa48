use Rattle.std.proofs.Common.{◌+◌, ◌∷◌, [], ◌++◌, List, ℕ, length, take, drop, ap, ◌∙◌, arith, length-append}
use Rattle.byteorder.specs.Endian.{big_bytes}
use Rattle.bng_radius_wire.specs.Attributes.{Field}
use Rattle.bng_radius_wire.specs.Grammar.{IsSpelled}
use Rattle.bng_radius_wire.proofs.Spelled.{length_of}
use Rattle.bng_coa.specs.Replies.{with_more}
use Rattle.bng_coa.proofs.Appending.{more_spelled, size-more}
use Rattle.bng_coa.proofs.reply.put_attribute.Goals as goal

pub overwrite-requires : goal.overwrite-requires
overwrite-requires c =
    omega (
      arith,
      ap length c.to_be_bytes.ensures,
      ap length c.put_back-2.ensures.payload,
      length-append c.put_back.new.self.payload c.args.value.now,
      ap length c.put_back.ensures.payload,
      length-append c.args.into.now.payload (c.args.kind ∷ (2 + length c.args.value.now) ∷ []),
      length_of c.requires.spelled.0 c.args.into.now.payload c.requires.spelled.1,
    )

pub returns-clause-spelled : goal.returns-clause-spelled
returns-clause-spelled c = λ p h.
    let w = c.put_back-2.new.self.payload in
    let f : Field = record { kind = c.args.kind; value = c.args.value.now } in
    more_spelled p f c.args.into.now.payload w c.overwrite.new.self.payload h (omega (arith, c.requires.short))
    (c.put_back-2.ensures.payload ∙ ap (λ (o : List ℕ). o ++ c.args.value.now) c.put_back.ensures.payload)
    (c.overwrite.ensures.payload
    ∙ ap (λ (b : List ℕ). (take 2 w ++ b) ++ drop (2 + length b) w) c.to_be_bytes.ensures
    ∙ ap (λ (o : List ℕ). (take 2 w ++ big_bytes 2 (length o)) ++ drop 4 w) c.payload.ensures.octets)

pub returns-clause-size : goal.returns-clause-size
returns-clause-size c =
    let p = c.requires.spelled.0 in
    let f : Field = record { kind = c.args.kind; value = c.args.value.now } in
    let new : IsSpelled (with_more p (f ∷ [])) c.overwrite.new.self.payload = returns-clause-spelled c p c.requires.spelled.1 in
    omega (arith, length_of (with_more p (f ∷ [])) c.overwrite.new.self.payload new, length_of p c.args.into.now.payload c.requires.spelled.1, size-more p (f ∷ []), length-append (c.args.kind ∷ (2 + length c.args.value.now) ∷ c.args.value.now) [])
