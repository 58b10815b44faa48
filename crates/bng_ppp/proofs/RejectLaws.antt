-- A Configure-Reject lists options of the request, so it is no longer than the request, and each of its options can be written.
use Rattle.std.proofs.Common.{◌≡◌, ◌≤◌, ℕ, zero, suc, Bool, true, false, List, [], ◌∷◌, length, cond, filter, sym, ap, subst, arith, length-append}
use Rattle.std.specs.List.{All, AllByRecursion}
use Rattle.bng_base.specs.PppGrammar.{PppOption, OptionFits, AreOptions, option_text, options_text}
use Rattle.bng_ppp_wire.specs.declared.view.Opt.{Opt}
use Rattle.bng_ppp_wire.specs.View.{option_of, options_of}
use Rattle.bng_ppp_wire.specs.declared.option_table.OptionRow.{OptionRow}
use Rattle.bng_ppp_wire.specs.declared.judgement.Judged.{Judged}
use Rattle.bng_ppp_wire.specs.declared.judgement.Judged.TheVariants as judged
use Rattle.bng_ppp_wire.specs.Judgement.{IsJudgement, rejected, is_reject, class_of}
use Rattle.bng_ppp.specs.Judgement.{IsSpellable}

pub kept_fit : (p : PppOption → Bool) (xs : List PppOption) → AllByRecursion OptionFits xs → AllByRecursion OptionFits (filter p xs)
kept_fit p [] h = tt
kept_fit p (x ∷ xs) h = by_test (p x) (kept_fit p xs h.1)
  where
    by_test : (b : Bool) → AllByRecursion OptionFits (filter p xs) → AllByRecursion OptionFits (cond b (x ∷ filter p xs) (filter p xs))
    by_test true rest = (h.0, rest)
    by_test false rest = rest

pub kept_short : (p : PppOption → Bool) (xs : List PppOption) → length (options_text (filter p xs)) ≤ length (options_text xs)
kept_short p [] = omega arith
kept_short p (x ∷ xs) = by_test (p x) (kept_short p xs)
  where
    by_test : (b : Bool) → length (options_text (filter p xs)) ≤ length (options_text xs) → length (options_text (cond b (x ∷ filter p xs) (filter p xs))) ≤ length (options_text (x ∷ xs))
    by_test true rest = omega (arith, rest, length-append (option_text x) (options_text (filter p xs)), length-append (option_text x) (options_text xs))
    by_test false rest = omega (arith, rest, length-append (option_text x) (options_text xs))

pub each_fits : (os : List Opt) → AllByRecursion OptionFits (options_of os) → All (λ (o : Opt). OptionFits (option_of o)) os
each_fits [] h = λ k d lt. absurd (omega (arith, lt))
each_fits (o ∷ os) h = at_place (each_fits os h.1)
  where
    at_place : All (λ (q : Opt). OptionFits (option_of q)) os → All (λ (q : Opt). OptionFits (option_of q)) (o ∷ os)
    at_place rest zero d lt = h.0
    at_place rest (suc k) d lt = rest k d (omega (arith, lt))

pub spellable : (rows : List OptionRow) (no_more_naks : Bool) (request : List PppOption) (body : List ℕ) (j : Judged) → AreOptions request body → length body ≤ 4090 → IsJudgement rows no_more_naks request j → IsSpellable j
spellable rows no_more_naks request body judged.Ack lists long is = tt
spellable rows no_more_naks request body (judged.Nak made) lists long is = tt
spellable rows no_more_naks request body (judged.Reject options) lists long is =
    let rejects : PppOption → Bool = λ o. is_reject (class_of rows no_more_naks o) in
    let fit : AllByRecursion OptionFits (options_of options.items) = subst (AllByRecursion OptionFits) (sym is.0) (kept_fit rejects request lists.fit) in
    let same : length (options_text (options_of options.items)) ≡ length (options_text (rejected rows no_more_naks request)) = ap (λ (os : List PppOption). length (options_text os)) is.0 in
    (each_fits options.items fit, omega (arith, same, kept_short rejects request, ap length lists.spelled, long))
