-- Writing AVPs one after the other.
use Rattle.std.proofs.Common.{◌≡◌, ℕ, zero, suc, ◌+◌, ◌<◌, ◌≤◌, List, [], ◌∷◌, ◌++◌, length, get_or, take, drop, false, sym, ap, ◌∙◌, arith, length-append}
use Rattle.std.specs.List.{flat_map, AllByRecursion}
use Rattle.std.proofs.lemmas.List.{take_more, take-append-drop, flat_map_more, map-append}
use Rattle.std.proofs.lemmas.List.Concat.{flat_map-append}
use Rattle.bng_l2tp_wire.specs.declared.view.Avp.{Avp}
use Rattle.bng_l2tp_wire.specs.Avps.{avp_text, AvpFits}
use Rattle.bng_l2tp_wire.specs.View.{avp_of, avps_of}
use Rattle.bng_l2tp_wire.proofs.AvpLaws.{avps_of-push}

-- what a read past the end is said to give
abbrev pub blank : Avp
blank = record { mandatory = false; hidden = false; reserved = 0; vendor = 0; kind = 0; value = record { ref_ptr = (0, 0); now = [] } }

pub fits_at : (vs : List Avp) (i : ℕ) (d : Avp) → i < length vs → AllByRecursion AvpFits (avps_of vs) → AvpFits (avp_of (get_or vs i d))
fits_at [] i d h all = absurd (omega arith)
fits_at (a ∷ vs) zero d h all = all.0
fits_at (a ∷ vs) (suc i) d h all = fits_at vs i d (omega arith) all.1

pub text_more : (vs : List Avp) (i : ℕ) (d : Avp) → i < length vs → flat_map avp_text (avps_of (take (i + 1) vs)) ≡ flat_map avp_text (avps_of (take i vs)) ++ avp_text (avp_of (get_or vs i d))
text_more vs i d h =
    ap (λ (t : List Avp). flat_map avp_text (avps_of t)) (take_more vs i d h)
    ∙ ap (flat_map avp_text) (avps_of-push (take i vs) (get_or vs i d))
    ∙ sym (flat_map_more avp_text [] (avps_of (take i vs)) (avp_of (get_or vs i d)))

pub part_le : (vs : List Avp) (n : ℕ) → length (flat_map avp_text (avps_of (take n vs))) ≤ length (flat_map avp_text (avps_of vs))
part_le vs n =
    let whole : flat_map avp_text (avps_of vs) ≡ flat_map avp_text (avps_of (take n vs)) ++ flat_map avp_text (avps_of (drop n vs)) =
    ap (λ (t : List Avp). flat_map avp_text (avps_of t)) (sym (take-append-drop n vs))
    ∙ ap (flat_map avp_text) (map-append avp_of (take n vs) (drop n vs))
    ∙ flat_map-append avp_text (avps_of (take n vs)) (avps_of (drop n vs)) in
    omega (arith, ap length whole, length-append (flat_map avp_text (avps_of (take n vs))) (flat_map avp_text (avps_of (drop n vs))))

-- what is still to be written fits with what was
pub room_for : (vs : List Avp) (i : ℕ) (d : Avp) → i < length vs → length (flat_map avp_text (avps_of (take i vs))) + (6 + length (get_or vs i d).value.now) ≤ length (flat_map avp_text (avps_of vs))
room_for vs i d h =
    omega (arith, part_le vs (i + 1), ap length (text_more vs i d h), length-append (flat_map avp_text (avps_of (take i vs))) (avp_text (avp_of (get_or vs i d))))
