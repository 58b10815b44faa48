-- An AVP is read with the last Random Vector before it.
use Rattle.std.proofs.Common.{◌≡◌, Bool, true, false, cond, Option, None, Some, List, [], ◌∷◌, ◌++◌, length, take, find, reverse, slice_get, refl, sym, ap, subst, ◌∙◌, append_assoc}
use Rattle.std.proofs.lemmas.List.{reverse-append}
use Rattle.bng_l2tp_wire.specs.Avps.{L2tpAvp}
use Rattle.bng_l2tp_wire.specs.Values.{PlacedAvp, IsPlaced, is_vector, placed_after, placed}

slice_get-middle : (seen rest : List L2tpAvp) (a : L2tpAvp) → slice_get (seen ++ a ∷ rest) (length seen) ≡ Some a
slice_get-middle [] rest a = refl
slice_get-middle (s ∷ seen) rest a = slice_get-middle seen rest a

take-front : (seen rest : List L2tpAvp) → take (length seen) (seen ++ rest) ≡ seen
take-front [] rest = refl
take-front (s ∷ seen) rest = ap (λ (xs : List L2tpAvp). s ∷ xs) (take-front seen rest)

-- the last Random Vector, with one AVP more
last_vector : (seen : List L2tpAvp) (a : L2tpAvp) → find is_vector (reverse (seen ++ a ∷ [])) ≡ cond (is_vector a) (Some a) (find is_vector (reverse seen))
last_vector seen a = ap (find is_vector) (reverse-append seen (a ∷ []))

module _ (test : PlacedAvp → Bool) where
  found_after : (seen rest : List L2tpAvp) (v : Option L2tpAvp) (p : PlacedAvp) → v ≡ find is_vector (reverse seen) → find test (placed_after v rest) ≡ Some p → IsPlaced (seen ++ rest) p
  found_after seen [] v p e q = absurd cc
  found_after seen (a ∷ rest) v p e q =
      by (test (record { avp = a; vector = v })) (
      λ then.
      subst (λ (xs : List L2tpAvp). IsPlaced xs p) (append_assoc seen (a ∷ []) rest)
      (found_after (seen ++ a ∷ []) rest (cond (is_vector a) (Some a) v) p (ap (λ (o : Option L2tpAvp). cond (is_vector a) (Some a) o) e ∙ sym (last_vector seen a)) then)
      ) q
    where
      here : record { avp = a; vector = v } ≡ p → IsPlaced (seen ++ a ∷ rest) p
      here same = record {
        place = length seen;
        is = slice_get-middle seen rest a ∙ ap (λ (x : PlacedAvp). Some x.avp) same;
        vector = sym (ap (λ (x : PlacedAvp). x.vector) same) ∙ e ∙ ap (λ (xs : List L2tpAvp). find is_vector (reverse xs)) (sym (take-front seen (a ∷ rest)));
      }

      by : (b : Bool) → (find test (placed_after (cond (is_vector a) (Some a) v) rest) ≡ Some p → IsPlaced (seen ++ a ∷ rest) p)
          → cond b (Some (record { avp = a; vector = v })) (find test (placed_after (cond (is_vector a) (Some a) v) rest)) ≡ Some p → IsPlaced (seen ++ a ∷ rest) p
      by true later same = here (cc)
      by false later then = later then

pub found_placed : (test : PlacedAvp → Bool) (avps : List L2tpAvp) (p : PlacedAvp) → find test (placed avps) ≡ Some p → IsPlaced avps p
found_placed test avps p q = found_after test [] avps None p refl q
