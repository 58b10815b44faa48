use Rattle.std.proofs.Common.{ℕ, ◌≡◌, ◌<◌, ◌≤◌, ◌+◌, List, length, take, get_or, refl, ap, ◌∙◌, arith, length-append, rules}
use Rattle.std.proofs.lemmas.List.{take_all}
use Rattle.bng_ppp_wire.specs.declared.view.Opt.{Opt}
use Rattle.bng_base.specs.PppGrammar.{option_text, options_text}
use Rattle.bng_ppp_wire.specs.View.{option_of, options_of}
use Rattle.bng_ppp_wire.proofs.OptionSteps.{blank, fit_all, text_more, part_le, room_for}
use Rattle.bng_ppp_wire.proofs.listing.write_options.Goals as goal

-- one more option makes the text longer by its own
longer : (os : List Opt) (i : ℕ) → i < length os → length (options_text (options_of (take (i + 1) os))) ≡ length (options_text (options_of (take i os))) + (2 + length (get_or os i blank).value.now)
longer os i lt = omega (arith, ap length (text_more os i blank lt), length-append (options_text (options_of (take i os))) (option_text (option_of (get_or os i blank))))

pub overflow_add-size-in-loop-option : goal.overflow_add-size-in-loop-option
overflow_add-size-in-loop-option c = omega (arith, c.loop-option.invariant.small, c.requires c.loop-option.option-index blank c.loop-option-test.true)

pub returns-then-size-gt-LONGEST-clause-full : goal.returns-then-size-gt-LONGEST-clause-full
returns-then-size-gt-LONGEST-clause-full c =
    let os = c.args.options.now in
    let i = c.loop-option.option-index in
    let above : 4096 < length (options_text (options_of os)) =
    omega (arith, c.if-size-gt-LONGEST.true, c.loop-option.invariant.size, longer os i c.loop-option-test.true, part_le os (i + 1)) in
    (λ _. above, λ _. refl)

pub loop-option-preserved : goal.loop-option-preserved
loop-option-preserved c =
    record {
      size = omega (arith, c.loop-option.invariant.size, longer c.args.options.now c.loop-option.option-index c.loop-option-test.true);
      small = search rules;
    }

pub overflow_cast-option : goal.overflow_cast-option
overflow_cast-option c = omega (arith, c.requires c.loop-option-2.option-index blank c.loop-option-2-test.true)

pub put_back-requires : goal.put_back-requires
put_back-requires c =
    let os = c.args.options.now in
    let i = c.loop-option-2.option-index in
    let whole = c.loop-option.invariant.size ∙ ap (λ (t : List Opt). length (options_text (options_of t))) (take_all c.loop-option.option-index os c.loop-option-test.false) in
    omega (arith, whole, c.loop-option.invariant.small, room_for os i blank c.loop-option-2-test.true, ap length c.loop-option-2.invariant.payload, c.loop-option-2.invariant.headroom)

pub put_back-requires-in-loop-option-2 : goal.put_back-requires-in-loop-option-2
put_back-requires-in-loop-option-2 c =
    let os = c.args.options.now in
    let i = c.loop-option-2.option-index in
    let whole = c.loop-option.invariant.size ∙ ap (λ (t : List Opt). length (options_text (options_of t))) (take_all c.loop-option.option-index os c.loop-option-test.false) in
    omega (arith, whole, c.loop-option.invariant.small, room_for os i blank c.loop-option-2-test.true, ap length c.loop-option-2.invariant.payload, c.loop-option-2.invariant.headroom, ap length c.put_back.ensures.payload, c.put_back.ensures.headroom, length-append {A = ℕ})

pub returns-clause-full : goal.returns-clause-full
returns-clause-full c =
    let os = c.args.options.now in
    let whole = c.loop-option.invariant.size ∙ ap (λ (t : List Opt). length (options_text (options_of t))) (take_all c.loop-option.option-index os c.loop-option-test.false) in
    let within : length (options_text (options_of os)) ≤ 4096 = omega (arith, whole, c.loop-option.invariant.small) in
    (λ e. absurd cc, λ above. absurd (omega (arith, within, above)))

pub returns-clause-again : goal.returns-clause-again
returns-clause-again c = λ _.
    let os = c.args.options.now in
    let spelled = c.loop-option-2.invariant.payload ∙ ap (λ (t : List Opt). options_text (options_of t)) (take_all c.loop-option-2.option-index os c.loop-option-2-test.false) in
    record { fit = fit_all os c.requires; spelled = spelled }
