-- Writing attributes one after the other.
use Rattle.std.proofs.Common.{◌≡◌, ℕ, zero, suc, ◌+◌, ◌<◌, ◌≤◌, List, [], ◌∷◌, ◌++◌, length, get_or, take, drop, sym, ap, ◌∙◌, arith, length-append}
use Rattle.std.specs.List.{flat_map, AllByRecursion}
use Rattle.std.proofs.lemmas.List.{take_more, take-append-drop, flat_map_more, map-append}
use Rattle.std.proofs.lemmas.List.Concat.{flat_map-append}
use Rattle.bng_radius_wire.specs.declared.views.Attribute.{Attribute}
use Rattle.bng_radius_wire.specs.Attributes.{field, fields, text, Fits}
use Rattle.bng_radius_wire.proofs.Progress.{fields-push}

-- what a read past the end is said to give
abbrev pub blank : Attribute
blank = record { kind = 0; value = record { ref_ptr = (0, 0); now = [] } }

pub fits_at : (os : List Attribute) (i : ℕ) (d : Attribute) → i < length os → AllByRecursion Fits (fields os) → Fits (field (get_or os i d))
fits_at [] i d h all = absurd (omega arith)
fits_at (o ∷ os) zero d h all = all.0
fits_at (o ∷ os) (suc i) d h all = fits_at os i d (omega arith) all.1

pub text_more : (os : List Attribute) (i : ℕ) (d : Attribute) → i < length os → flat_map text (fields (take (i + 1) os)) ≡ flat_map text (fields (take i os)) ++ text (field (get_or os i d))
text_more os i d h =
    ap (λ (t : List Attribute). flat_map text (fields t)) (take_more os i d h)
    ∙ ap (flat_map text) (fields-push (take i os) (get_or os i d))
    ∙ sym (flat_map_more text [] (fields (take i os)) (field (get_or os i d)))

pub part_le : (os : List Attribute) (n : ℕ) → length (flat_map text (fields (take n os))) ≤ length (flat_map text (fields os))
part_le os n =
    let whole : flat_map text (fields os) ≡ flat_map text (fields (take n os)) ++ flat_map text (fields (drop n os)) =
    ap (λ (t : List Attribute). flat_map text (fields t)) (sym (take-append-drop n os))
    ∙ ap (flat_map text) (map-append field (take n os) (drop n os))
    ∙ flat_map-append text (fields (take n os)) (fields (drop n os)) in
    omega (arith, ap length whole, length-append (flat_map text (fields (take n os))) (flat_map text (fields (drop n os))))

-- what is still to be written fits with what was
pub room_for : (os : List Attribute) (i : ℕ) (d : Attribute) → i < length os → length (flat_map text (fields (take i os))) + (2 + length (get_or os i d).value.now) ≤ length (flat_map text (fields os))
room_for os i d h =
    omega (arith, part_le os (i + 1), ap length (text_more os i d h), length-append (flat_map text (fields (take i os))) (text (field (get_or os i d))))
