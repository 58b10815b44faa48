-- Writing tags one after the other.
use Rattle.std.proofs.Common.{◌≡◌, ℕ, suc, ◌+◌, ◌<◌, ◌≤◌, List, [], ◌∷◌, ◌++◌, length, get_or, take, drop, refl, sym, ap, ◌∙◌, arith, length-append}
use Rattle.std.specs.List.{flat_map, All, AllByRecursion}
use Rattle.std.proofs.lemmas.List.{take_more, take-append-drop, flat_map_more, map-append}
use Rattle.std.proofs.lemmas.List.Concat.{flat_map-append}
use Rattle.bng_pppoe_wire.specs.declared.view.Tag.{Tag}
use Rattle.bng_base.specs.PppoeGrammar.{PppoeTag, tag_text, TagFits}
use Rattle.bng_pppoe_wire.specs.View.{tag_of, tags_of}

-- what a read past the end is said to give
abbrev pub blank : Tag
blank = record { kind = 0; value = record { ref_ptr = (0, 0); now = [] } }

tags_of-push : (ts : List Tag) (t : Tag) → tags_of (ts ++ t ∷ []) ≡ tags_of ts ++ tag_of t ∷ []
tags_of-push [] t = refl
tags_of-push (x ∷ ts) t = ap (λ (r : List PppoeTag). tag_of x ∷ r) (tags_of-push ts t)

-- tags that fit one by one are tags that fit
pub fit_all : (os : List Tag) → All (λ o. TagFits (tag_of o)) os → AllByRecursion TagFits (tags_of os)
fit_all [] h = tt
fit_all (o ∷ os) h = (h 0 o (omega arith), fit_all os (λ k d lt. h (suc k) d (omega arith)))

pub text_more : (os : List Tag) (i : ℕ) (d : Tag) → i < length os → flat_map tag_text (tags_of (take (i + 1) os)) ≡ flat_map tag_text (tags_of (take i os)) ++ tag_text (tag_of (get_or os i d))
text_more os i d h =
    ap (λ (t : List Tag). flat_map tag_text (tags_of t)) (take_more os i d h)
    ∙ ap (flat_map tag_text) (tags_of-push (take i os) (get_or os i d))
    ∙ sym (flat_map_more tag_text [] (tags_of (take i os)) (tag_of (get_or os i d)))

pub part_le : (os : List Tag) (n : ℕ) → length (flat_map tag_text (tags_of (take n os))) ≤ length (flat_map tag_text (tags_of os))
part_le os n =
    let whole : flat_map tag_text (tags_of os) ≡ flat_map tag_text (tags_of (take n os)) ++ flat_map tag_text (tags_of (drop n os)) =
    ap (λ (t : List Tag). flat_map tag_text (tags_of t)) (sym (take-append-drop n os))
    ∙ ap (flat_map tag_text) (map-append tag_of (take n os) (drop n os))
    ∙ flat_map-append tag_text (tags_of (take n os)) (tags_of (drop n os)) in
    omega (arith, ap length whole, length-append (flat_map tag_text (tags_of (take n os))) (flat_map tag_text (tags_of (drop n os))))

-- what is still to be written fits with what was
pub room_for : (os : List Tag) (i : ℕ) (d : Tag) → i < length os → length (flat_map tag_text (tags_of (take i os))) + (4 + length (get_or os i d).value.now) ≤ length (flat_map tag_text (tags_of os))
room_for os i d h =
    omega (arith, part_le os (i + 1), ap length (text_more os i d h), length-append (flat_map tag_text (tags_of (take i os))) (tag_text (tag_of (get_or os i d))))

pub length-tags_of : (ts : List Tag) → length (tags_of ts) ≡ length ts
length-tags_of [] = refl
length-tags_of (x ∷ ts) = ap suc (length-tags_of ts)
