-- Lists whose elements differ.
use Rattle.std.proofs.Common.{zero, suc, ◌<◌, List, [], ◌∷◌, ◌++◌, length, map, subst, arith}
use Rattle.std.specs.List.{All, AllPairs}
use Rattle.std.proofs.lemmas.List.{length-map, get_or-map}
use Rattle.std.proofs.lemmas.List.Elements.{All-append}

pub all_one : {X : Type 0} (P : X → Type 0) (x : X) → P x → All P (x ∷ [])
all_one P x here zero d less = here
all_one P x here (suc i) d less = absurd (omega arith)

pub all_two : {X : Type 0} (P : X → Type 0) (x y : X) → P x → P y → All P (x ∷ y ∷ [])
all_two P x y here there zero d less = here
all_two P x y here there (suc zero) d less = there
all_two P x y here there (suc (suc i)) d less = absurd (omega arith)

module _ {X : Type 0} (R : X → X → Type 0) where
  pub pairs_one : (x : X) → AllPairs R (x ∷ [])
  pairs_one x i j d less long = absurd (omega arith)

  -- an element and later ones, before a list
  pub pairs_cons : (x : X) (xs : List X) → All (R x) xs → AllPairs R xs → AllPairs R (x ∷ xs)
  pairs_cons x xs first rest i zero d less long = absurd (omega arith)
  pairs_cons x xs first rest zero (suc j) d less long = first j d (omega arith)
  pairs_cons x xs first rest (suc i) (suc j) d less long = rest i j d (omega arith) (omega arith)

  pairs_head : (x : X) (xs : List X) → AllPairs R (x ∷ xs) → All (R x) xs
  pairs_head x xs h k d less = h 0 (suc k) d (omega arith) (omega arith)

  pairs_tail : (x : X) (xs : List X) → AllPairs R (x ∷ xs) → AllPairs R xs
  pairs_tail x xs h i j d less long = h (suc i) (suc j) d (omega arith) (omega arith)

  pub pairs_append : (xs ys : List X) → AllPairs R xs → AllPairs R ys → All (λ x. All (R x) ys) xs → AllPairs R (xs ++ ys)
  pairs_append [] ys a b cross = b
  pairs_append (x ∷ xs) ys a b cross =
      pairs_cons x (xs ++ ys) (All-append (R x) xs ys (pairs_head x xs a) (cross 0 x (omega arith)))
      (pairs_append xs ys (pairs_tail x xs a) b (λ i d less. cross (suc i) d (omega arith)))

-- as pairs of what the elements have
pub pairs_map : {X Y : Type 0} (f : X → Y) (R : Y → Y → Type 0) (xs : List X) → AllPairs (λ a b. R (f a) (f b)) xs → AllPairs R (map f xs)
pairs_map f R [] h i j d less long = absurd (omega arith)
pairs_map f R (x ∷ xs) h i j d less long =
    let high : j < length (x ∷ xs) = subst (λ n. j < n) (length-map (x ∷ xs) f) long in
    rw (get_or-map f (x ∷ xs) i x d (omega arith), get_or-map f (x ∷ xs) j x d high) (h i j x less high)

-- what holds of what each element has
pub all_map : {X Y : Type 0} (f : X → Y) (P : Y → Type 0) (xs : List X) → All (λ x. P (f x)) xs → All P (map f xs)
all_map f P [] h i d less = absurd (omega arith)
all_map f P (x ∷ xs) h i d less =
    let high : i < length (x ∷ xs) = subst (λ n. i < n) (length-map (x ∷ xs) f) less in
    rw (get_or-map f (x ∷ xs) i x d high) (h i x high)
