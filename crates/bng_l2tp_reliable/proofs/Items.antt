-- The item at a place of a list.
use Rattle.std.proofs.Common.{◌≡◌, ℕ, ◌+◌, ◌<◌, List, [], ◌∷◌, ◌++◌, length, get_or, take, drop, Some, sym, ◌∙◌, arith, length-append, length-drop, get_or-drop, get_or-take}
use Rattle.std.specs.List.{slice_get}
use Rattle.std.proofs.lemmas.List.{get_or_append_left, length-take, take_more}
use Rattle.std.proofs.lemmas.Option.{slice_get_within, get_or_from_slice_get}

-- x stands at place i
pub record IsAt {A : Type 0} (xs : List A) (i : ℕ) (x : A) : Type 0 where
  pub within : i < length xs
  pub item : get_or xs i x ≡ x

module _ {A : Type 0} where
  pub at_place : (xs : List A) (i : ℕ) (x : A) → slice_get xs i ≡ Some x → IsAt xs i x
  at_place xs i x found = record { within = slice_get_within xs i x found; item = get_or_from_slice_get xs i x x found }

  -- it stays there where more is appended
  pub at_front : (xs ys : List A) (i : ℕ) (x : A) → IsAt xs i x → IsAt (xs ++ ys) i x
  at_front xs ys i x here = record {
    within = omega (arith, length-append xs ys, here.within);
    item = get_or_append_left xs ys x i here.within ∙ here.item;
  }

  pub at_dropped : (n : ℕ) (xs : List A) (i : ℕ) (x : A) → IsAt (drop n xs) i x → IsAt xs (n + i) x
  at_dropped n xs i x here = record {
    within = omega (arith, length-drop n xs, here.within);
    item = sym (get_or-drop n xs i x) ∙ here.item;
  }

  pub at_taken : (n : ℕ) (xs : List A) (i : ℕ) (x : A) → IsAt (take n xs) i x → (i < n) × IsAt xs i x
  at_taken n xs i x here =
      let in_both = length-take n xs in
      let below : i < n = omega (arith, here.within) in
      (below, record { within = omega (arith, here.within); item = sym (get_or-take n xs i x below) ∙ here.item })

  -- with it the list goes on
  pub taken_on : (xs : List A) (i : ℕ) (x : A) → IsAt xs i x → take (i + 1) xs ≡ take i xs ++ x ∷ []
  taken_on xs i x here = take_more xs i x here.within ∙ (λ k. take i xs ++ here.item k ∷ [])
