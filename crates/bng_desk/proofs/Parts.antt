-- Parts of lists, and what holds of them.
use Rattle.std.proofs.Common.{◌≡◌, ℕ, zero, suc, ◌+◌, ◌<◌, ◌≤◌, List, [], ◌∷◌, ◌++◌, None, Some, length, take, drop, slice_get, get_or, sym, ap, subst, ◌∙◌, arith}
use Rattle.std.specs.List.{All, AllPairs, AllZip}
use Rattle.std.proofs.lemmas.List.{drop_more, take-append-drop, take_more}
use Rattle.std.proofs.lemmas.List.Elements.{All-nil, All-append, All-cons, All-head, All-tail}
use Rattle.std.proofs.lemmas.List.Kept.{AllPairs-cons}

-- Lists that are zipped ---------------------------------------------------------------------------------------------------

pub zip_append : {X Y : Type 0} (R : X → Y → Type 0) (xs us : List X) (ys vs : List Y) → AllZip R xs ys → AllZip R us vs → AllZip R (xs ++ us) (ys ++ vs)
zip_append R [] us [] vs g h = h
zip_append R [] us (y ∷ ys) vs g h = absurd g
zip_append R (x ∷ xs) us [] vs g h = absurd g
zip_append R (x ∷ xs) us (y ∷ ys) vs g h = (g.0, zip_append R xs us ys vs g.1 h)

pub zip_weaker : {X Y : Type 0} (R Q : X → Y → Type 0) → ((x : X) (y : Y) → R x y → Q x y) → (xs : List X) (ys : List Y) → AllZip R xs ys → AllZip Q xs ys
zip_weaker R Q weaker [] [] g = tt
zip_weaker R Q weaker [] (y ∷ ys) g = absurd g
zip_weaker R Q weaker (x ∷ xs) [] g = absurd g
zip_weaker R Q weaker (x ∷ xs) (y ∷ ys) g = (weaker x y g.0, zip_weaker R Q weaker xs ys g.1)

-- One list behind the other ---------------------------------------------------------------------------------------------

pub pairs_head : {X : Type 0} (R : X → X → Type 0) (x : X) (xs : List X) → AllPairs R (x ∷ xs) → All (R x) xs
pairs_head R x xs pairs k d lt = pairs zero (suc k) d (omega arith) (omega (arith, lt))

pub pairs_tail : {X : Type 0} (R : X → X → Type 0) (x : X) (xs : List X) → AllPairs R (x ∷ xs) → AllPairs R xs
pairs_tail R x xs pairs i j d lt within = pairs (suc i) (suc j) d (omega (arith, lt)) (omega (arith, within))

pub all_left : {X : Type 0} (P : X → Type 0) (xs ys : List X) → All P (xs ++ ys) → All P xs
all_left P [] ys all = All-nil P
all_left P (x ∷ xs) ys all = All-cons P x xs (All-head P x (xs ++ ys) all) (all_left P xs ys (All-tail P x (xs ++ ys) all))

pub all_right : {X : Type 0} (P : X → Type 0) (xs ys : List X) → All P (xs ++ ys) → All P ys
all_right P [] ys all = all
all_right P (x ∷ xs) ys all = all_right P xs ys (All-tail P x (xs ++ ys) all)

pairs_none : {X : Type 0} (R : X → X → Type 0) → AllPairs R []
pairs_none R i j d lt within = absurd (omega (arith, within))

pub pairs_left : {X : Type 0} (R : X → X → Type 0) (xs ys : List X) → AllPairs R (xs ++ ys) → AllPairs R xs
pairs_left R [] ys pairs = pairs_none R
pairs_left R (x ∷ xs) ys pairs = AllPairs-cons R x xs (all_left (R x) xs ys (pairs_head R x (xs ++ ys) pairs)) (pairs_left R xs ys (pairs_tail R x (xs ++ ys) pairs))

pub pairs_right : {X : Type 0} (R : X → X → Type 0) (xs ys : List X) → AllPairs R (xs ++ ys) → AllPairs R ys
pairs_right R [] ys pairs = pairs
pairs_right R (x ∷ xs) ys pairs = pairs_right R xs ys (pairs_tail R x (xs ++ ys) pairs)

pub pairs_append : {X : Type 0} (R : X → X → Type 0) (xs ys : List X) → AllPairs R xs → AllPairs R ys → All (λ x. All (R x) ys) xs → AllPairs R (xs ++ ys)
pairs_append R [] ys here there across = there
pairs_append R (x ∷ xs) ys here there across =
    AllPairs-cons R x (xs ++ ys) (All-append (R x) xs ys (pairs_head R x xs here) (All-head (λ y. All (R y) ys) x xs across)) (pairs_append R xs ys (pairs_tail R x xs here) there (All-tail (λ y. All (R y) ys) x xs across))

pub pairs_across : {X : Type 0} (R : X → X → Type 0) (xs ys : List X) → AllPairs R (xs ++ ys) → All (λ y. All (λ x. R x y) xs) ys
pairs_across R [] ys pairs i d lt = All-nil (λ x. R x (get_or ys i d))
pairs_across R (x ∷ xs) ys pairs i d lt =
    All-cons (λ z. R z (get_or ys i d)) x xs (all_right (R x) xs ys (pairs_head R x (xs ++ ys) pairs) i d lt) (pairs_across R xs ys (pairs_tail R x (xs ++ ys) pairs) i d lt)

-- Lists of which one leaves -----------------------------------------------------------------------------------------------

pub all_without : {X : Type 0} (P : X → Type 0) (front back : List X) (x : X) → All P (front ++ x ∷ back) → All P (front ++ back)
all_without P [] back x all = All-tail P x back all
all_without P (y ∷ front) back x all = All-cons P y (front ++ back) (All-head P y (front ++ x ∷ back) all) (all_without P front back x (All-tail P y (front ++ x ∷ back) all))

pub pairs_without : {X : Type 0} (R : X → X → Type 0) (front back : List X) (x : X) → AllPairs R (front ++ x ∷ back) → AllPairs R (front ++ back)
pairs_without R [] back x pairs = pairs_tail R x back pairs
pairs_without R (y ∷ front) back x pairs =
    AllPairs-cons R y (front ++ back) (all_without (R y) front back x (pairs_head R y (front ++ x ∷ back) pairs)) (pairs_without R front back x (pairs_tail R y (front ++ x ∷ back) pairs))

-- An element in its place --------------------------------------------------------------------------------------------------

pub record StandsAt {X : Type 0} (xs : List X) (i : ℕ) (x : X) : Type 0 where
  pub within : i < length xs
  pub whole : xs ≡ take i xs ++ x ∷ drop (i + 1) xs
  pub next : take (i + 1) xs ≡ take i xs ++ x ∷ []

pub stands_at : {X : Type 0} (xs : List X) (i : ℕ) (d : X) → i < length xs → StandsAt xs i (get_or xs i d)
stands_at {X} xs i d lt = record {
  within = lt;
  whole = sym (take-append-drop i xs) ∙ ap (λ (ys : List X). take i xs ++ ys) (drop_more xs i d lt);
  next = take_more xs i d lt;
}

found_there : {X : Type 0} (xs : List X) (i : ℕ) (x : X) → slice_get xs i ≡ Some x → (i < length xs) × (get_or xs i x ≡ x)
found_there [] i x e = absurd cc
found_there (y ∷ xs) zero x e = let same : y ≡ x = cc in (omega arith, same)
found_there (y ∷ xs) (suc i) x e = let more = found_there xs i x e in (omega (arith, more.0), more.1)

pub found_at : {X : Type 0} (xs : List X) (i : ℕ) (x : X) → slice_get xs i ≡ Some x → StandsAt xs i x
found_at {X} xs i x e = let there = found_there xs i x e in subst (λ (y : X). StandsAt xs i y) there.1 (stands_at xs i x there.0)

-- none is past the last
pub found_none : {X : Type 0} (xs : List X) (i : ℕ) → slice_get xs i ≡ None → length xs ≤ i
found_none [] i e = omega arith
found_none (y ∷ xs) zero e = absurd cc
found_none (y ∷ xs) (suc i) e = omega (arith, found_none xs i e)
