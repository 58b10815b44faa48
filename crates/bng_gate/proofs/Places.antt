-- Chains and lists by the places of their links.
use Rattle.std.proofs.Common.{option_map, ◌∙◌, ◌≡◌, ◌⊎◌, inl, inr, ℕ, zero, suc, ◌+◌, List, [], ◌∷◌, ◌++◌, Some, map, length, slice_get, refl, sym, ap, subst, arith}
use Rattle.std.proofs.lemmas.Option.{same_Some, none-some, slice_get-map}
use Rattle.bng_base.specs.Chain.{Chain}

module _ {S T : Type 0} (step : S → T → S → Type 0) (P : ℕ → S → Type 0) where
  -- the link at a place, with what holds before it
  pub record Link (k : ℕ) (t : T) : Type 0 where
    pub before : S
    pub after : S
    pub holds : P k before
    pub is : step before t after

  module _ (all : List T) (keeps : (n : ℕ) (s s' : S) (t : T) → slice_get all n ≡ Some t → step s t s' → P n s → P (n + 1) s') where
    -- from this place on the list is that one
    abbrev IsRest : ℕ → List T → Type 0
    IsRest n ts = (j : ℕ) (t : T) → slice_get ts j ≡ Some t → slice_get all (n + j) ≡ Some t

    first_of : (n : ℕ) (t : T) (ts : List T) → IsRest n (t ∷ ts) → slice_get all n ≡ Some t
    first_of n t ts rest = let e : n + 0 ≡ n = omega arith in subst (λ i. slice_get all i ≡ Some t) e (rest 0 t refl)

    next_of : (n : ℕ) (t : T) (ts : List T) → IsRest n (t ∷ ts) → IsRest (n + 1) ts
    next_of n t ts rest j u here = let e : n + suc j ≡ n + 1 + j = omega arith in subst (λ i. slice_get all i ≡ Some u) e (rest (suc j) u here)

    links : (n : ℕ) (s s' : S) (ts : List T) → IsRest n ts → Chain step s ts s' → P n s → (j : ℕ) (t : T) → slice_get ts j ≡ Some t → Link (n + j) t
    links n s s' [] rest run p j t here = absurd (none-some t here)
    links n s s' (u ∷ ts) rest run p zero t here =
        let e : n ≡ n + 0 = omega arith in
        subst (λ i. Link i t) e (record { before = s; after = run.0; holds = p; is = subst (λ (x : T). step s x run.0) (same_Some u t here) run.1 })
    links n s s' (u ∷ ts) rest run p (suc j) t here =
        let e : n + 1 + j ≡ n + suc j = omega arith in
        subst (λ i. Link i t) e (links (n + 1) run.0 s' ts (next_of n u ts rest) run.2 (keeps n s run.0 u (first_of n u ts rest) run.1 p) j t here)

    ends : (n : ℕ) (s s' : S) (ts : List T) → IsRest n ts → Chain step s ts s' → P n s → P (n + length ts) s'
    ends n s s' [] rest run p = let e : n ≡ n + 0 = omega arith in subst (λ i. P i s') e (subst (P n) (sym run) p)
    ends n s s' (u ∷ ts) rest run p =
        let e : n + 1 + length ts ≡ n + length (u ∷ ts) = omega arith in
        subst (λ i. P i s') e (ends (n + 1) run.0 s' ts (next_of n u ts rest) run.2 (keeps n s run.0 u (first_of n u ts rest) run.1 p))

    whole : IsRest 0 all
    whole j t here = let e : j ≡ 0 + j = omega arith in subst (λ i. slice_get all i ≡ Some t) e here

    pub link_at : (s s' : S) → Chain step s all s' → P 0 s → (k : ℕ) (t : T) → slice_get all k ≡ Some t → Link k t
    link_at s s' run p k t here = let e : 0 + k ≡ k = omega arith in subst (λ i. Link i t) e (links 0 s s' all whole run p k t here)

    pub chain_end : (s s' : S) → Chain step s all s' → P 0 s → P (length all) s'
    chain_end s s' run p = let e : 0 + length all ≡ length all = omega arith in subst (λ i. P i s') e (ends 0 s s' all whole run p)

-- the next link begins where this one ends
pub record Meet {S T : Type 0} (step : S → T → S → Type 0) (t u : T) : Type 0 where
  pub before : S
  pub mid : S
  pub after : S
  pub here : step before t mid
  pub there : step mid u after

next_link : {S T : Type 0} (step : S → T → S → Type 0) (s s' : S) (ts : List T) → Chain step s ts s' → (u : T) → slice_get ts 0 ≡ Some u → (after : S) × step s u after
next_link step s s' [] run u there = absurd (none-some u there)
next_link {S} {T} step s s' (y ∷ ts) run u there = (run.0, subst (λ (z : T). step s z run.0) (same_Some y u there) run.1)

pub meet_at : {S T : Type 0} (step : S → T → S → Type 0) (s s' : S) (ts : List T) → Chain step s ts s' → (k : ℕ) (t u : T) → slice_get ts k ≡ Some t → slice_get ts (suc k) ≡ Some u → Meet step t u
meet_at step s s' [] run k t u here there = absurd (none-some t here)
meet_at {S} {T} step s s' (x ∷ ts) run zero t u here there =
    let next = next_link step run.0 s' ts run.2 u there in
    record { before = s; mid = run.0; after = next.0; here = subst (λ (z : T). step s z run.0) (same_Some x t here) run.1; there = next.1 }
meet_at step s s' (x ∷ ts) run (suc k) t u here there = meet_at step run.0 s' ts run.2 k t u here there

-- an element of two lists, one after the other
pub record InFirst {X Z : Type 0} (f : X → Z) (xs : List X) (k : ℕ) (z : Z) : Type 0 where
  pub it : X
  pub at : slice_get xs k ≡ Some it
  pub is : f it ≡ z

pub record InSecond {X Y Z : Type 0} (g : Y → Z) (xs : List X) (ys : List Y) (k : ℕ) (z : Z) : Type 0 where
  pub place : ℕ
  pub it : Y
  pub at : slice_get ys place ≡ Some it
  pub is : g it ≡ z
  pub past : k ≡ length xs + place

module _ {X Y Z : Type 0} (f : X → Z) (g : Y → Z) where
  second : (ys : List Y) (k : ℕ) (z : Z) → slice_get (map g ys) k ≡ Some z → InSecond {X = X} g [] ys k z
  second [] k z e = absurd (none-some z e)
  second (y ∷ ys) zero z e = record { place = zero; it = y; at = refl; is = same_Some (g y) z e; past = refl }
  second (y ∷ ys) (suc k) z e =
      let rest = second ys k z e in
      let past : suc k ≡ 0 + suc rest.place = omega (arith, rest.past) in
      record { place = suc rest.place; it = rest.it; at = rest.at; is = rest.is; past = past }

  pub in_both : (xs : List X) (ys : List Y) (k : ℕ) (z : Z) → slice_get (map f xs ++ map g ys) k ≡ Some z → InFirst f xs k z ⊎ InSecond g xs ys k z
  in_both [] ys k z e = inr (second ys k z e)
  in_both (x ∷ xs) ys zero z e = inl (record { it = x; at = refl; is = same_Some (f x) z e })
  in_both (x ∷ xs) ys (suc k) z e = elim (in_both xs ys k z e) [
    | inl h ↦ inl (record { it = h.it; at = h.at; is = h.is })
    | inr h ↦ let past : suc k ≡ length (x ∷ xs) + h.place = omega (arith, h.past) in inr (record { place = h.place; it = h.it; at = h.at; is = h.is; past = past })
  ]

  pub of_first : (xs : List X) (ys : List Y) (k : ℕ) (x : X) → slice_get xs k ≡ Some x → slice_get (map f xs ++ map g ys) k ≡ Some (f x)
  of_first [] ys k x e = absurd (none-some x e)
  of_first (y ∷ xs) ys zero x e = ap (λ (o : X). Some (f o)) (same_Some y x e)
  of_first (y ∷ xs) ys (suc k) x e = of_first xs ys k x e

pub mapped_at : {X Y : Type 0} (f : X → Y) (xs : List X) (k : ℕ) (x : X) → slice_get xs k ≡ Some x → slice_get (map f xs) k ≡ Some (f x)
mapped_at f xs k x e = slice_get-map f xs k ∙ ap (option_map f) e
