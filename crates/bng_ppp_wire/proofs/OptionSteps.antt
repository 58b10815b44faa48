-- Writing options one after the other.
use Rattle.std.proofs.Common.{◌≡◌, ℕ, suc, ◌+◌, ◌<◌, ◌≤◌, List, [], ◌∷◌, ◌++◌, length, get_or, take, drop, sym, ap, ◌∙◌, arith, length-append}
use Rattle.std.specs.List.{flat_map, All, AllByRecursion}
use Rattle.std.proofs.lemmas.List.{take_more, take-append-drop, flat_map_more, map-append}
use Rattle.std.proofs.lemmas.List.Concat.{flat_map-append}
use Rattle.bng_ppp_wire.specs.declared.view.Opt.{Opt}
use Rattle.bng_base.specs.PppGrammar.{option_text, OptionFits}
use Rattle.bng_ppp_wire.specs.View.{option_of, options_of}
use Rattle.bng_ppp_wire.proofs.OptionLaws.{options_of-push}

-- what a read past the end is said to give
abbrev pub blank : Opt
blank = record { kind = 0; value = record { ref_ptr = (0, 0); now = [] } }

-- options that fit one by one are options that fit
pub fit_all : (os : List Opt) → All (λ o. OptionFits (option_of o)) os → AllByRecursion OptionFits (options_of os)
fit_all [] h = tt
fit_all (o ∷ os) h = (h 0 o (omega arith), fit_all os (λ k d lt. h (suc k) d (omega arith)))

pub text_more : (os : List Opt) (i : ℕ) (d : Opt) → i < length os → flat_map option_text (options_of (take (i + 1) os)) ≡ flat_map option_text (options_of (take i os)) ++ option_text (option_of (get_or os i d))
text_more os i d h =
    ap (λ (t : List Opt). flat_map option_text (options_of t)) (take_more os i d h)
    ∙ ap (flat_map option_text) (options_of-push (take i os) (get_or os i d))
    ∙ sym (flat_map_more option_text [] (options_of (take i os)) (option_of (get_or os i d)))

pub part_le : (os : List Opt) (n : ℕ) → length (flat_map option_text (options_of (take n os))) ≤ length (flat_map option_text (options_of os))
part_le os n =
    let whole : flat_map option_text (options_of os) ≡ flat_map option_text (options_of (take n os)) ++ flat_map option_text (options_of (drop n os)) =
    ap (λ (t : List Opt). flat_map option_text (options_of t)) (sym (take-append-drop n os))
    ∙ ap (flat_map option_text) (map-append option_of (take n os) (drop n os))
    ∙ flat_map-append option_text (options_of (take n os)) (options_of (drop n os)) in
    omega (arith, ap length whole, length-append (flat_map option_text (options_of (take n os))) (flat_map option_text (options_of (drop n os))))

-- what is still to be written fits with what was
pub room_for : (os : List Opt) (i : ℕ) (d : Opt) → i < length os → length (flat_map option_text (options_of (take i os))) + (2 + length (get_or os i d).value.now) ≤ length (flat_map option_text (options_of os))
room_for os i d h =
    omega (arith, part_le os (i + 1), ap length (text_more os i d h), length-append (flat_map option_text (options_of (take i os))) (option_text (option_of (get_or os i d))))
