-- A queue in a ring of places, as frames are put behind it and its oldest is taken.
use Rattle.std.proofs.Common.{◌≡◌, ℕ, ◌+◌, ◌-◌, ◌%◌, zero, suc, ◌<◌, ◌≤◌, ◌⊎◌, List, [], ◌∷◌, ◌++◌, length, get_or, take, drop, set, map, refl, sym, ap, ◌∙◌, ap₂, inl, inr, mod-eq_of_lt, arith, length-append, length-drop, length-set, length-take-le, get_or-drop, get_or-take}
use native.Mathlib.Nat.{mod-eq-sub-mod, mod-add-mod}
use Rattle.std.proofs.lemmas.List.{same_lists, drop_more, get_or_append_left, get_or-append_right, get_or-set_same, get_or-set_other, map-append, map-set, length-map}
use Rattle.std.proofs.lemmas.Bool.{cases_lt, cases_eq}
use Rattle.std.proofs.lemmas.Grind.{common_steps}
use Rattle.bng_base.specs.Packet.{Packet}
use Rattle.bng_vlan.specs.Ring.{window, payloads, HaveHeadroom}

-- an index below 2 N wraps once at most
mod_wraps_once : (N j : ℕ) → j < N + N → ((j < N) × (j % N ≡ j)) ⊎ ((N ≤ j) × (j % N ≡ j - N))
mod_wraps_once N j below = elim (cases_lt j N) [
  | inl low ↦ inl (low, mod-eq_of_lt low)
  | inr high ↦ inr (high, mod-eq-sub-mod high ∙ mod-eq_of_lt (omega arith))
]

module _ {X : Type 0} (N k n : ℕ) (xs : List X) (start_in_range : k < N) (len_fits : n ≤ N) (length_xs : length xs ≡ N) where
  pub length-window : length (window k n xs) ≡ n
  length-window = length-take-le n _ (simp (length-append, length-drop) (omega (arith, length-take-le k xs (omega arith))))

  -- item i of the window is place (k + i) % N, which is before the end or past it
  get_or-window : (i : ℕ) (d : X) → i < n → get_or (window k n xs) i d ≡ get_or xs ((k + i) % N) d
  get_or-window i d in_range =
      let length_tail = length-drop k xs in
      get_or-take n _ i d in_range ∙ elim (mod_wraps_once N (k + i) (omega arith)) [
        | inl unwrapped ↦ get_or_append_left _ _ d i (omega arith) ∙ get_or-drop k xs i d ∙ ap (λ j. get_or xs j d) (omega arith)
        | inr wrapped ↦ get_or-append_right _ _ (N - k) i d (omega arith) (omega arith) ∙ get_or-take k xs _ d (omega arith) ∙ ap (λ j. get_or xs j d) (omega arith)
      ]

module _ {X : Type 0} (N k n : ℕ) (xs : List X) (start_in_range : k < N) (len_fits : n ≤ N) (length_xs : length xs ≡ N) where
  -- a write behind the last item adds it at the end
  pub window_after_push : (x : X) → n < N → window k (n + 1) (set xs ((k + n) % N) x) ≡ window k n xs ++ x ∷ []
  window_after_push x has_room =
      let ys = set xs ((k + n) % N) x in
      let length_ys = length-set xs ((k + n) % N) x ∙ length_xs in
      let length_old = length-window N k n xs start_in_range len_fits length_xs in
      let length_new = length-window N k (n + 1) ys start_in_range (omega arith) length_ys in
      let written_slot = mod_wraps_once N (k + n) (omega arith) in
      same_lists _ _ (grind (arith, common_steps)) (λ i d in_range. grind (
        arith,
        common_steps,
        mod_wraps_once N (k + i) (omega arith),
        get_or-window N k n xs start_in_range len_fits length_xs i d,
        get_or-window N k (n + 1) ys start_in_range (omega arith) length_ys i d,
      ))

  -- the window is the place k, then the window from the next place
  pub window_before_pop : (e : X) → 0 < n → window k n xs ≡ get_or xs k e ∷ window ((k + 1) % N) (n - 1) xs
  window_before_pop e nonempty =
      let next_in_range : (k + 1) % N < N = grind (arith, mod_wraps_once N (k + 1) (omega arith)) in
      let length_old = length-window N k n xs start_in_range len_fits length_xs in
      let length_new = length-window N ((k + 1) % N) (n - 1) xs next_in_range (omega arith) length_xs in
      let old_item = get_or-window N k n xs start_in_range len_fits length_xs in
      drop_more _ 0 e (omega arith) ∙ ap₂ ◌∷◌ (grind (arith, old_item 0 e, mod_wraps_once N k)) (same_lists _ _ (simp length-drop (omega arith)) (λ i d in_range. grind (
        arith,
        length-drop 1 (window k n xs),
        get_or-drop 1 (window k n xs) i d,
        mod-add-mod (k + 1) N i,
        old_item (1 + i) d,
        get_or-window N _ (n - 1) xs next_in_range (omega arith) length_xs i d,
      )))

-- each place has a frame with its whole headroom
pub headroom_at : (frames : List Packet) (i : ℕ) (d : Packet) → HaveHeadroom frames → i < length frames → (get_or frames i d).headroom ≡ 64
headroom_at [] i d have below = absurd (omega arith)
headroom_at (f ∷ frames) zero d have below = heads have
  where
    heads : {a b : ℕ} {x y : List ℕ} → a ∷ x ≡ b ∷ y → a ≡ b
    heads e = cc
headroom_at (f ∷ frames) (suc i) d have below = headroom_at frames i d (tails have) (omega arith)
  where
    tails : {a b : ℕ} {x y : List ℕ} → a ∷ x ≡ b ∷ y → x ≡ y
    tails e = cc

pub headroom_set : (frames : List Packet) (i : ℕ) (f : Packet) → HaveHeadroom frames → f.headroom ≡ 64 → HaveHeadroom (set frames i f)
headroom_set frames i f have whole =
    map-set (λ (p : Packet). p.headroom) frames i f
    ∙ ap (λ xs. set xs i f.headroom) have
    ∙ ap (λ n. set (map (λ (p : Packet). 64) frames) i n) whole
    ∙ sym (map-set (λ (p : Packet). 64) frames i f)

pub headroom_push : (frames : List Packet) (f : Packet) → HaveHeadroom frames → f.headroom ≡ 64 → HaveHeadroom (frames ++ f ∷ [])
headroom_push frames f have whole =
    map-append (λ (p : Packet). p.headroom) frames (f ∷ [])
    ∙ ap (λ xs. xs ++ f.headroom ∷ []) have
    ∙ ap (λ n. map (λ (p : Packet). 64) frames ++ n ∷ []) whole
    ∙ sym (map-append (λ (p : Packet). 64) frames (f ∷ []))

pub length-payloads : (N k n : ℕ) (xs : List Packet) → k < N → n ≤ N → length xs ≡ N → length (payloads (window k n xs)) ≡ n
length-payloads N k n xs inside fits size = length-map (window k n xs) (λ (f : Packet). f.payload) ∙ length-window N k n xs inside fits size
