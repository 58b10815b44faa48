-- The part of a ring of places that holds a queue, item by item.
use Rattle.std.proofs.Common.{◌≡◌, ℕ, ◌+◌, ◌-◌, ◌%◌, ◌<◌, ◌≤◌, ◌⊎◌, List, [], ◌∷◌, ◌++◌, length, get_or, drop, set, ap, ◌∙◌, inl, inr, mod-eq_of_lt, arith, length-append, length-drop, length-set, length-take-le, get_or-drop, get_or-take}
use native.Mathlib.Nat.{mod-eq-sub-mod, mod-add-mod}
use Rattle.std.proofs.lemmas.List.{same_lists, get_or_append_left, get_or-append_right}
use Rattle.std.proofs.lemmas.Bool.{cases_lt}
use Rattle.std.proofs.lemmas.Grind.{common_steps}
use Rattle.bng_l2tp_reliable.specs.ChannelState.{Message}
use Rattle.bng_l2tp_reliable.specs.Ring.{window}

-- an index below 2 N wraps once at most
mod_wraps_once : (N j : ℕ) → j < N + N → ((j < N) × (j % N ≡ j)) ⊎ ((N ≤ j) × (j % N ≡ j - N))
mod_wraps_once N j below = elim (cases_lt j N) [
  | inl low ↦ inl (low, mod-eq_of_lt low)
  | inr high ↦ inr (high, mod-eq-sub-mod high ∙ mod-eq_of_lt (omega arith))
]

module _ (N k n : ℕ) (xs : List Message) (start_in_range : k < N) (len_fits : n ≤ N) (length_xs : length xs ≡ N) where
  -- the window has n items
  pub length-window : length (window k n xs) ≡ n
  length-window = length-take-le n _ (simp (length-append, length-drop) (omega (arith, length-take-le k xs (omega arith))))

  -- item i of the window is place (k + i) % N, which is before the end of the ring or past it
  pub get_or-window : (i : ℕ) (d : Message) → i < n → get_or (window k n xs) i d ≡ get_or xs ((k + i) % N) d
  get_or-window i d in_range =
      let length_tail = length-drop k xs in
      get_or-take n _ i d in_range ∙ elim (mod_wraps_once N (k + i) (omega arith)) [
        | inl unwrapped ↦ get_or_append_left _ _ d i (omega arith) ∙ get_or-drop k xs i d ∙ ap (λ j. get_or xs j d) (omega arith)
        | inr wrapped ↦ get_or-append_right _ _ (N - k) i d (omega arith) (omega arith) ∙ get_or-take k xs _ d (omega arith) ∙ ap (λ j. get_or xs j d) (omega arith)
      ]

-- A second block, since these use the lemmas above at other windows.
module _ (N k n : ℕ) (xs : List Message) (start_in_range : k < N) (len_fits : n ≤ N) (length_xs : length xs ≡ N) where
  -- a write behind the last item adds it at the end
  pub window_after_push : (x : Message) → n < N → window k (n + 1) (set xs ((k + n) % N) x) ≡ window k n xs ++ x ∷ []
  window_after_push x has_room =
      let ys = set xs ((k + n) % N) x in
      let length_ys = length-set xs ((k + n) % N) x ∙ length_xs in
      let length_old = length-window N k n xs start_in_range len_fits length_xs in
      let length_new = length-window N k (n + 1) ys start_in_range (omega arith) length_ys in
      let written_place = mod_wraps_once N (k + n) (omega arith) in
      same_lists _ _ (grind (arith, common_steps)) (λ i d in_range. grind (
        arith,
        common_steps,
        mod_wraps_once N (k + i) (omega arith),
        get_or-window N k n xs start_in_range len_fits length_xs i d,
        get_or-window N k (n + 1) ys start_in_range (omega arith) length_ys i d,
      ))

  -- the window without its first items begins so many places on
  pub window_after_forget : (c : ℕ) → c ≤ n → window ((k + c) % N) (n - c) xs ≡ drop c (window k n xs)
  window_after_forget c in_window =
      let place = mod_wraps_once N (k + c) (omega arith) in
      let next_in_range : (k + c) % N < N = grind (arith, place) in
      let length_old = length-window N k n xs start_in_range len_fits length_xs in
      let length_new = length-window N ((k + c) % N) (n - c) xs next_in_range (omega arith) length_xs in
      let old_item = get_or-window N k n xs start_in_range len_fits length_xs in
      same_lists _ _ (simp length-drop (omega arith)) (λ i d in_range. grind (
        arith,
        get_or-drop c (window k n xs) i d,
        mod-add-mod (k + c) N i,
        old_item (c + i) d,
        get_or-window N _ (n - c) xs next_in_range (omega arith) length_xs i d,
      ))
