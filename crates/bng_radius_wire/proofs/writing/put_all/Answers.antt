use Rattle.std.proofs.Common.{ℕ, ◌+◌, List, [], ◌∷◌, ◌++◌, sym, ap, ◌∙◌, arith, length, take, get_or, length-append, append_assoc}
use Rattle.bng_radius_wire.specs.Attributes.{text, field, fields}
use Rattle.bng_radius_wire.specs.Grammar.{attributes_text}
use Rattle.bng_radius_wire.proofs.Steps.{blank, fits_at, text_more, room_for}
use Rattle.bng_radius_wire.proofs.writing.put_all.Goals as goal

pub overflow_cast-attribute : goal.overflow_cast-attribute
overflow_cast-attribute c = omega (arith, fits_at c.args.attributes.now c.loop-attribute.attribute-index blank c.loop-attribute-test.true c.requires.fit)

pub put_back-requires : goal.put_back-requires
put_back-requires c =
    let all = c.args.attributes.now in
    let i = c.loop-attribute.attribute-index in
    omega (arith, c.requires.room, room_for all i blank c.loop-attribute-test.true, ap length c.loop-attribute.invariant.payload, c.loop-attribute.invariant.headroom, length-append c.args.into.now.payload (attributes_text (fields (take i all))))

pub put_back-requires-in-loop-attribute : goal.put_back-requires-in-loop-attribute
put_back-requires-in-loop-attribute c =
    let all = c.args.attributes.now in
    let i = c.loop-attribute.attribute-index in
    omega (arith, c.requires.room, room_for all i blank c.loop-attribute-test.true, ap length c.loop-attribute.invariant.payload, c.loop-attribute.invariant.headroom, ap length c.put_back.ensures.payload, c.put_back.ensures.headroom, length-append {A = ℕ})

pub loop-attribute-preserved : goal.loop-attribute-preserved
loop-attribute-preserved c =
    let all = c.args.attributes.now in
    let i = c.loop-attribute.attribute-index in
    let here = get_or all i blank in
    let old = c.args.into.now.payload in
    let so_far = attributes_text (fields (take i all)) in
    record {
      payload = c.put_back-in-loop-attribute.ensures.payload
          ∙ ap (λ (p : List ℕ). p ++ here.value.now) (c.put_back.ensures.payload ∙ ap (λ (p : List ℕ). p ++ here.kind ∷ (2 + length here.value.now) ∷ []) c.loop-attribute.invariant.payload)
          ∙ append_assoc (old ++ so_far) (here.kind ∷ (2 + length here.value.now) ∷ []) here.value.now
          ∙ append_assoc old so_far (text (field here))
          ∙ ap (λ (t : List ℕ). old ++ t) (sym (text_more all i blank c.loop-attribute-test.true));
      headroom = c.put_back-in-loop-attribute.ensures.headroom ∙ c.put_back.ensures.headroom ∙ c.loop-attribute.invariant.headroom;
    }
