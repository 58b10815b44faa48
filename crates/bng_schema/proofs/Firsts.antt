-- The first of a list of which something holds, part by part.
use Rattle.std.proofs.Common.{◌≡◌, ℕ, zero, suc, ◌+◌, ◌<◌, ◌≤◌, List, [], ◌∷◌, ◌++◌, map, length, get_or, take, refl, sym, ap, subst, ◌∙◌, append_assoc, arith, inl, inr, ◌⊎◌, Option, Some, None, IfNone}
use Rattle.std.specs.List.{flat_map}
use Rattle.std.proofs.Math.Nat.{le-suc_iff}
use Rattle.std.proofs.lemmas.List.{take_more}
use Rattle.std.proofs.lemmas.List.Concat.{flat_map-append}
use Rattle.bng_schema.specs.First.{NoneOf, IsFirstOf}
use Rattle.bng_schema.specs.Keys.{of_entries}

module _ {X : Type 0} (P : X → Type 0) where
  pub none_append : (xs ys : List X) → NoneOf P xs → NoneOf P ys → NoneOf P (xs ++ ys)
  none_append [] ys a b = b
  none_append (x ∷ xs) ys a b = (a.0, none_append xs ys a.1 b)

  pub none_front : (xs ys : List X) → NoneOf P (xs ++ ys) → NoneOf P xs
  none_front [] ys a = tt
  none_front (x ∷ xs) ys a = (a.0, none_front xs ys a.1)

  pub none_back : (xs ys : List X) → NoneOf P (xs ++ ys) → NoneOf P ys
  none_back [] ys a = a
  none_back (x ∷ xs) ys a = none_back xs ys a.1

  pub first_here : (x : X) (xs : List X) → P x → IsFirstOf P (x ∷ xs) x
  first_here x xs h = record { before = []; after = xs; place = refl; kept = tt; broken = h }

  pub first_front : (xs ys : List X) (x : X) → IsFirstOf P xs x → IsFirstOf P (xs ++ ys) x
  first_front xs ys x h = record {
    before = h.before;
    after = h.after ++ ys;
    place = ap (λ zs. zs ++ ys) h.place ∙ append_assoc h.before (x ∷ h.after) ys;
    kept = h.kept;
    broken = h.broken;
  }

  pub first_back : (xs ys : List X) (x : X) → NoneOf P xs → IsFirstOf P ys x → IsFirstOf P (xs ++ ys) x
  first_back xs ys x none h = record {
    before = xs ++ h.before;
    after = h.after;
    place = ap (λ zs. xs ++ zs) h.place ∙ sym (append_assoc xs h.before (x ∷ h.after));
    kept = none_append xs h.before none h.kept;
    broken = h.broken;
  }

  -- the first is one, and where there is one it holds of some
  cut_once : (xs ys rest more : List X) (x y : X) → xs ++ x ∷ rest ≡ ys ++ y ∷ more → NoneOf P xs → NoneOf P ys → P x → P y → x ≡ y
  cut_once [] [] rest more x y e a b p q = cc
  cut_once [] (z ∷ ys) rest more x y e a b p q = let same : x ≡ z = cc in absurd (b.0 (subst P same p))
  cut_once (z ∷ xs) [] rest more x y e a b p q = let same : y ≡ z = cc in absurd (a.0 (subst P same q))
  cut_once (z ∷ xs) (w ∷ ys) rest more x y e a b p q =
      let tails : xs ++ x ∷ rest ≡ ys ++ y ∷ more = cc in
      cut_once xs ys rest more x y tails a.1 b.1 p q

  pub first_once : (xs : List X) (x y : X) → IsFirstOf P xs x → IsFirstOf P xs y → x ≡ y
  first_once xs x y h g = cut_once h.before g.before h.after g.after x y (sym h.place ∙ g.place) h.kept g.kept h.broken g.broken

  pub first_not_none : (xs : List X) (x : X) → IsFirstOf P xs x → NoneOf P xs → ⊥
  first_not_none xs x h none = (none_back h.before (x ∷ h.after) (subst (NoneOf P) h.place none)).0 h.broken

-- of what a function gives of the elements of a list
module _ {X Y : Type 0} (P : Y → Type 0) (g : X → Y) where
  pub none_map : (xs : List X) → NoneOf (λ x. P (g x)) xs → NoneOf P (map g xs)
  none_map [] h = tt
  none_map (x ∷ xs) h = (h.0, none_map xs h.1)

  map_place : (before after : List X) (x : X) → map g (before ++ x ∷ after) ≡ map g before ++ g x ∷ map g after
  map_place [] after x = refl
  map_place (y ∷ before) after x = ap (λ ys. g y ∷ ys) (map_place before after x)

  pub first_map : (xs : List X) (x : X) → IsFirstOf (λ x. P (g x)) xs x → IsFirstOf P (map g xs) (g x)
  first_map xs x h = record {
    before = map g h.before;
    after = map g h.after;
    place = ap (map g) h.place ∙ map_place h.before h.after x;
    kept = none_map h.before h.kept;
    broken = h.broken;
  }

  none_map_push : (x : X) (xs : List X) → NoneOf P (map g xs) → ¬ P (g x) → NoneOf P (map g (xs ++ x ∷ []))
  none_map_push x [] h here = (here, tt)
  none_map_push x (y ∷ ys) h here = (h.0, none_map_push x ys h.1 here)

  -- element by element
  pub none_map_next : (xs : List X) (i : ℕ) (d : X) → i < length xs → NoneOf P (map g (take i xs)) → ¬ P (g (get_or xs i d)) → NoneOf P (map g (take (i + 1) xs))
  none_map_next xs i d less before here =
      subst (λ zs. NoneOf P (map g zs)) (sym (take_more xs i d less)) (none_map_push (get_or xs i d) (take i xs) before here)

  pub first_map_at : (xs : List X) (i : ℕ) (d : X) → i < length xs → NoneOf P (map g (take i xs)) → P (g (get_or xs i d)) → IsFirstOf P (map g xs) (g (get_or xs i d))
  first_map_at [] i d less before here = absurd (omega arith)
  first_map_at (x ∷ xs) zero d less before here = first_here P (g x) (map g xs) here
  first_map_at (x ∷ xs) (suc i) d less before here =
      first_back P (g x ∷ []) (map g xs) (g (get_or xs i d)) (before.0, tt) (first_map_at xs i d (omega arith) before.1 here)

-- of the lists that a function gives of the elements of a list
module _ {X Y : Type 0} (P : Y → Type 0) (f : X → List Y) where
  pub none_next : (xs : List X) (i : ℕ) (d : X) → i < length xs → NoneOf P (flat_map f (take i xs)) → NoneOf P (f (get_or xs i d)) → NoneOf P (flat_map f (take (i + 1) xs))
  none_next xs i d less before here =
      subst (λ zs. NoneOf P (flat_map f zs)) (sym (take_more xs i d less))
      (subst (NoneOf P) (sym (flat_map-append f (take i xs) (get_or xs i d ∷ [])))
      (none_append P (flat_map f (take i xs)) (f (get_or xs i d) ++ []) before (none_append P (f (get_or xs i d)) [] here tt)))

  pub first_at : (xs : List X) (i : ℕ) (d : X) (y : Y) → i < length xs → NoneOf P (flat_map f (take i xs)) → IsFirstOf P (f (get_or xs i d)) y → IsFirstOf P (flat_map f xs) y
  first_at [] i d y less before here = absurd (omega arith)
  first_at (x ∷ xs) zero d y less before here = first_front P (f x) (flat_map f xs) y here
  first_at (x ∷ xs) (suc i) d y less before here =
      first_back P (f x) (flat_map f xs) y (none_front P (f x) (flat_map f (take i xs)) before)
      (first_at xs i d y (omega arith) (none_back P (f x) (flat_map f (take i xs)) before) here)

  -- none of an element's, where there is none of any
  pub none_at : (xs : List X) (i : ℕ) (d : X) → i < length xs → NoneOf P (flat_map f xs) → NoneOf P (f (get_or xs i d))
  none_at [] i d less none = absurd (omega arith)
  none_at (x ∷ xs) zero d less none = none_front P (f x) (flat_map f xs) none
  none_at (x ∷ xs) (suc i) d less none = none_at xs i d (omega arith) (none_back P (f x) (flat_map f xs) none)

-- of the entries of a table
module _ {X : Type 0} (P : X → Type 0) (at_place : ℕ → List X) where
  pub none_entries_next : (n : ℕ) → NoneOf P (of_entries at_place n) → NoneOf P (at_place n) → NoneOf P (of_entries at_place (n + 1))
  none_entries_next n before here =
      let next : suc n ≡ n + 1 = omega arith in
      subst (λ m. NoneOf P (of_entries at_place m)) next (none_append P (of_entries at_place n) (at_place n) before here)

  first_of_next : (i n : ℕ) (x : X) → (i ≤ n) ⊎ (i ≡ suc n) → (i ≤ n → IsFirstOf P (of_entries at_place n) x)
      → IsFirstOf P (of_entries at_place i) x → IsFirstOf P (of_entries at_place (suc n)) x
  first_of_next i n x (inl fewer) more h = first_front P (of_entries at_place n) (at_place n) x (more fewer)
  first_of_next i n x (inr same) more h = subst (λ m. IsFirstOf P (of_entries at_place m) x) same h

  first_of_more : (i n : ℕ) (x : X) → i ≤ n → IsFirstOf P (of_entries at_place i) x → IsFirstOf P (of_entries at_place n) x
  first_of_more i zero x few h =
      let none : i ≡ 0 = omega arith in
      subst (λ m. IsFirstOf P (of_entries at_place m) x) none h
  first_of_more i (suc n) x few h = first_of_next i n x (le-suc_iff.0 few) (λ fewer. first_of_more i n x fewer h) h

  pub first_entry : (i n : ℕ) (x : X) → i < n → NoneOf P (of_entries at_place i) → IsFirstOf P (at_place i) x → IsFirstOf P (of_entries at_place n) x
  first_entry i n x less before here = first_of_more (suc i) n x less (first_back P (of_entries at_place i) (at_place i) x before here)

  none_of_next : (i n : ℕ) → (suc i ≤ n) ⊎ (suc i ≡ suc n) → (suc i ≤ n → NoneOf P (at_place i)) → NoneOf P (at_place n) → NoneOf P (at_place i)
  none_of_next i n (inl fewer) more h = more fewer
  none_of_next i n (inr same) more h =
      let last : i ≡ n = omega arith in
      subst (λ m. NoneOf P (at_place m)) (sym last) h

  pub none_entry : (i n : ℕ) → i < n → NoneOf P (of_entries at_place n) → NoneOf P (at_place i)
  none_entry i zero less h = absurd (omega arith)
  none_entry i (suc n) less h =
      none_of_next i n (le-suc_iff.0 less) (λ fewer. none_entry i n fewer (none_front P (of_entries at_place n) (at_place n) h)) (none_back P (of_entries at_place n) (at_place n) h)

-- what is told of an answer
pub if_none : {X : Type 0} (o : Option X) (A B : Type 0) → (A → B) → IfNone o A → IfNone o B
if_none None A B more h = more h
if_none (Some x) A B more h = h
