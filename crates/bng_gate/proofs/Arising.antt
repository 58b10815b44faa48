-- Lists of which each element of the one comes of another element of the other, in their order.
use Rattle.std.proofs.Common.{◌≡◌, inl, inr, Bool, true, false, cond, List, [], ◌∷◌, ◌++◌, filter, refl, sym, subst}
use Rattle.bng_gate.specs.Unchanged.{Arises}

module _ {X Y : Type 0} where
  -- nothing comes of whatever there is
  pub arises_none : (R : X → Y → Type 0) (xs : List X) → Arises R xs []
  arises_none R [] = refl
  arises_none R (x ∷ xs) = tt

  -- what comes of a list comes of one with more before it
  pub arises_later : (R : X → Y → Type 0) (ws xs : List X) (ys : List Y) → Arises R xs ys → Arises R (ws ++ xs) ys
  arises_later R [] xs ys h = h
  arises_later R (w ∷ ws) xs [] h = tt
  arises_later R (w ∷ ws) xs (y ∷ ys) h = inl (arises_later R ws xs (y ∷ ys) h)

  -- and of one with more behind it
  pub arises_sooner : (R : X → Y → Type 0) (xs ws : List X) (ys : List Y) → Arises R xs ys → Arises R (xs ++ ws) ys
  arises_sooner R [] ws ys h = subst (Arises R ws) (sym h) (arises_none R ws)
  arises_sooner R (x ∷ xs) ws [] h = tt
  arises_sooner R (x ∷ xs) ws (y ∷ ys) (inl h) = inl (arises_sooner R xs ws (y ∷ ys) h)
  arises_sooner R (x ∷ xs) ws (y ∷ ys) (inr h) = inr (h.0, arises_sooner R xs ws ys h.1)

  -- one list after another
  pub arises_append : (R : X → Y → Type 0) (xs ws : List X) (ys zs : List Y) → Arises R xs ys → Arises R ws zs → Arises R (xs ++ ws) (ys ++ zs)
  arises_append R [] ws ys zs h i = subst (λ (us : List Y). Arises R ws (us ++ zs)) (sym h) i
  arises_append R (x ∷ xs) ws [] zs h i = arises_later R (x ∷ xs) ws zs i
  arises_append R (x ∷ xs) ws (y ∷ ys) zs (inl h) i = inl (arises_append R xs ws (y ∷ ys) zs h i)
  arises_append R (x ∷ xs) ws (y ∷ ys) zs (inr h) i = inr (h.0, arises_append R xs ws ys zs h.1 i)

  -- where what comes of the end comes of another end as well
  pub arises_under : (R : X → Y → Type 0) (xs ws us : List X) → ((ys : List Y) → Arises R ws ys → Arises R us ys) → (ys : List Y) → Arises R (xs ++ ws) ys → Arises R (xs ++ us) ys
  arises_under R [] ws us f ys h = f ys h
  arises_under R (x ∷ xs) ws us f [] h = tt
  arises_under R (x ∷ xs) ws us f (y ∷ ys) (inl h) = inl (arises_under R xs ws us f (y ∷ ys) h)
  arises_under R (x ∷ xs) ws us f (y ∷ ys) (inr h) = inr (h.0, arises_under R xs ws us f ys h.1)

  -- what comes of some of them comes of them all
  whole : (R : X → Y → Type 0) (x : X) (xs us : List X) → ((ys : List Y) → Arises R us ys → Arises R xs ys) → (ys : List Y) → Arises R (x ∷ us) ys → Arises R (x ∷ xs) ys
  whole R x xs us f ys h = arises_under R (x ∷ []) us xs f ys h

  pub arises_unfiltered : (R : X → Y → Type 0) (test : X → Bool) (xs : List X) (ys : List Y) → Arises R (filter test xs) ys → Arises R xs ys
  arises_unfiltered R test [] ys h = h
  arises_unfiltered R test (x ∷ xs) ys h = by (test x) (λ zs i. arises_unfiltered R test xs zs i) h
    where
      by : (b : Bool) → ((zs : List Y) → Arises R (filter test xs) zs → Arises R xs zs) → Arises R (cond b (x ∷ filter test xs) (filter test xs)) ys → Arises R (x ∷ xs) ys
      by true f h = whole R x xs (filter test xs) f ys h
      by false f h = arises_later R (x ∷ []) xs ys (f ys h)

  -- and some of what comes of a list comes of it
  pub arises_filtered : (R : X → Y → Type 0) (test : Y → Bool) (xs : List X) (ys : List Y) → Arises R xs ys → Arises R xs (filter test ys)
  arises_filtered R test [] ys h = subst (λ (zs : List Y). Arises R [] (filter test zs)) (sym h) refl
  arises_filtered R test (x ∷ xs) [] h = tt
  arises_filtered R test (x ∷ xs) (y ∷ ys) (inl h) = arises_later R (x ∷ []) xs (filter test (y ∷ ys)) (arises_filtered R test xs (y ∷ ys) h)
  arises_filtered R test (x ∷ xs) (y ∷ ys) (inr h) = by (test y) (arises_filtered R test xs ys h.1)
    where
      by : (b : Bool) → Arises R xs (filter test ys) → Arises R (x ∷ xs) (cond b (y ∷ filter test ys) (filter test ys))
      by true i = inr (h.0, i)
      by false i = arises_later R (x ∷ []) xs (filter test ys) i

  -- by a relation that says less
  pub arises_weaker : (R S : X → Y → Type 0) → ((x : X) (y : Y) → R x y → S x y) → (xs : List X) (ys : List Y) → Arises R xs ys → Arises S xs ys
  arises_weaker R S f [] ys h = h
  arises_weaker R S f (x ∷ xs) [] h = tt
  arises_weaker R S f (x ∷ xs) (y ∷ ys) (inl h) = inl (arises_weaker R S f xs (y ∷ ys) h)
  arises_weaker R S f (x ∷ xs) (y ∷ ys) (inr h) = inr (f x y h.0, arises_weaker R S f xs ys h.1)

  -- some of what comes of a list, in their order, comes of it
  pub arises_fewer : (R : X → Y → Type 0) (xs : List X) (ys zs : List Y) → Arises R xs ys → Arises (λ (y z : Y). y ≡ z) ys zs → Arises R xs zs
  arises_fewer R [] ys zs h i = subst (λ (us : List Y). Arises (λ (y z : Y). y ≡ z) us zs) h i
  arises_fewer R (x ∷ xs) [] zs h i = subst (Arises R (x ∷ xs)) (sym i) tt
  arises_fewer R (x ∷ xs) (y ∷ ys) [] h i = tt
  arises_fewer R (x ∷ xs) (y ∷ ys) (z ∷ zs) (inl h) i = inl (arises_fewer R xs (y ∷ ys) (z ∷ zs) h i)
  arises_fewer R (x ∷ xs) (y ∷ ys) (z ∷ zs) (inr h) (inl i) = inl (arises_fewer R xs ys (z ∷ zs) h.1 i)
  arises_fewer R (x ∷ xs) (y ∷ ys) (z ∷ zs) (inr h) (inr i) = inr (subst (R x) i.0 h.0, arises_fewer R xs ys zs h.1 i.1)
