use Rattle.std.proofs.Common.{ℕ, ◌≡◌, ◌<◌, ◌≤◌, ◌+◌, List, length, take, get_or, refl, sym, ap, ◌∙◌, [], arith, length-append, rules}
use Rattle.std.proofs.lemmas.List.{take_all, append-nil}
use Rattle.bng_pppoe_wire.specs.declared.view.Tag.{Tag}
use Rattle.bng_base.specs.PppoeGrammar.{tag_text, tags_text}
use Rattle.bng_pppoe_wire.specs.View.{tag_of, tags_of}
use Rattle.bng_pppoe_wire.proofs.TagSteps.{blank, fit_all, text_more, part_le, room_for}
use Rattle.bng_pppoe_wire.proofs.listing.write_tags.Goals as goal

-- one more tag makes the text longer by its own
longer : (os : List Tag) (i : ℕ) → i < length os → length (tags_text (tags_of (take (i + 1) os))) ≡ length (tags_text (tags_of (take i os))) + (4 + length (get_or os i blank).value.now)
longer os i lt = omega (arith, ap length (text_more os i blank lt), length-append (tags_text (tags_of (take i os))) (tag_text (tag_of (get_or os i blank))))

pub overflow_add-size-in-loop-tag : goal.overflow_add-size-in-loop-tag
overflow_add-size-in-loop-tag c = omega (arith, c.loop-tag.invariant.small, c.requires c.loop-tag.tag-index blank c.loop-tag-test.true)

pub returns-then-size-gt-LONGEST-clause-full : goal.returns-then-size-gt-LONGEST-clause-full
returns-then-size-gt-LONGEST-clause-full c =
    let os = c.args.tags.now in
    let i = c.loop-tag.tag-index in
    let above : 4096 < length (tags_text (tags_of os)) =
    omega (arith, c.if-size-gt-LONGEST.true, c.loop-tag.invariant.size, longer os i c.loop-tag-test.true, part_le os (i + 1)) in
    (λ _. above, λ _. refl)

pub loop-tag-preserved : goal.loop-tag-preserved
loop-tag-preserved c =
    record {
      size = omega (arith, c.loop-tag.invariant.size, longer c.args.tags.now c.loop-tag.tag-index c.loop-tag-test.true);
      small = search rules;
    }

pub overflow_cast-tag : goal.overflow_cast-tag
overflow_cast-tag c = omega (arith, c.requires c.loop-tag-2.tag-index blank c.loop-tag-2-test.true)

pub put_back-requires : goal.put_back-requires
put_back-requires c =
    let os = c.args.tags.now in
    let i = c.loop-tag-2.tag-index in
    let whole = c.loop-tag.invariant.size ∙ ap (λ (t : List Tag). length (tags_text (tags_of t))) (take_all c.loop-tag.tag-index os c.loop-tag-test.false) in
    omega (arith, whole, c.loop-tag.invariant.small, room_for os i blank c.loop-tag-2-test.true, ap length c.loop-tag-2.invariant.payload, c.loop-tag-2.invariant.headroom)

pub put_back-requires-in-loop-tag-2 : goal.put_back-requires-in-loop-tag-2
put_back-requires-in-loop-tag-2 c =
    let os = c.args.tags.now in
    let i = c.loop-tag-2.tag-index in
    let whole = c.loop-tag.invariant.size ∙ ap (λ (t : List Tag). length (tags_text (tags_of t))) (take_all c.loop-tag.tag-index os c.loop-tag-test.false) in
    omega (arith, whole, c.loop-tag.invariant.small, room_for os i blank c.loop-tag-2-test.true, ap length c.loop-tag-2.invariant.payload, c.loop-tag-2.invariant.headroom, ap length c.put_back.ensures.payload, c.put_back.ensures.headroom, length-append {A = ℕ})

pub put_back-requires-in-loop-tag-2-2 : goal.put_back-requires-in-loop-tag-2-2
put_back-requires-in-loop-tag-2-2 c =
    let os = c.args.tags.now in
    let i = c.loop-tag-2.tag-index in
    let whole = c.loop-tag.invariant.size ∙ ap (λ (t : List Tag). length (tags_text (tags_of t))) (take_all c.loop-tag.tag-index os c.loop-tag-test.false) in
    omega (arith, whole, c.loop-tag.invariant.small, room_for os i blank c.loop-tag-2-test.true, ap length c.loop-tag-2.invariant.payload, c.loop-tag-2.invariant.headroom, ap length c.put_back.ensures.payload, c.put_back.ensures.headroom, ap length c.put_back-in-loop-tag-2.ensures.payload, c.put_back-in-loop-tag-2.ensures.headroom, ap length c.to_be_bytes.ensures, ap length c.to_be_bytes-in-loop-tag-2.ensures, length-append {A = ℕ})

pub returns-clause-full : goal.returns-clause-full
returns-clause-full c =
    let os = c.args.tags.now in
    let whole = c.loop-tag.invariant.size ∙ ap (λ (t : List Tag). length (tags_text (tags_of t))) (take_all c.loop-tag.tag-index os c.loop-tag-test.false) in
    let within : length (tags_text (tags_of os)) ≤ 4096 = omega (arith, whole, c.loop-tag.invariant.small) in
    (λ e. absurd cc, λ above. absurd (omega (arith, within, above)))

pub returns-clause-again : goal.returns-clause-again
returns-clause-again c = λ _.
    let os = c.args.tags.now in
    let spelled = c.loop-tag-2.invariant.payload ∙ ap (λ (t : List Tag). tags_text (tags_of t)) (take_all c.loop-tag-2.tag-index os c.loop-tag-2-test.false) in
    record { rest = []; fit = fit_all os c.requires; spelled = spelled ∙ sym (append-nil (tags_text (tags_of os))); end = λ some. absurd (omega (arith, some)) }
