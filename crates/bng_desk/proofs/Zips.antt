-- Lists side by side.
use Rattle.std.proofs.Common.{◌≡◌, ℕ, zero, suc, ◌<◌, List, [], ◌∷◌, ◌++◌, length, get_or, set, refl, ap, arith}
use Rattle.std.specs.List.{AllZip}
use Rattle.bng_engine.specs.Lists.{Zip3}

-- one more of each
pub zip_push : {A B : Type 0} (R : A → B → Type 0) (xs : List A) (ys : List B) (x : A) (y : B) → AllZip R xs ys → R x y → AllZip R (xs ++ x ∷ []) (ys ++ y ∷ [])
zip_push R [] [] x y h here = (here, tt)
zip_push R [] (b ∷ ys) x y h here = absurd h
zip_push R (a ∷ xs) [] x y h here = absurd h
zip_push R (a ∷ xs) (b ∷ ys) x y h here = (h.0, zip_push R xs ys x y h.1 here)

pub zip_length : {A B : Type 0} (R : A → B → Type 0) (xs : List A) (ys : List B) → AllZip R xs ys → length xs ≡ length ys
zip_length R [] [] h = refl
zip_length R [] (b ∷ ys) h = absurd h
zip_length R (a ∷ xs) [] h = absurd h
zip_length R (a ∷ xs) (b ∷ ys) h = ap suc (zip_length R xs ys h.1)

-- at one place
pub zip_at : {A B : Type 0} (R : A → B → Type 0) (xs : List A) (ys : List B) (k : ℕ) (d : A) (e : B) → AllZip R xs ys → k < length xs → R (get_or xs k d) (get_or ys k e)
zip_at R [] ys k d e h lt = absurd (omega (arith, lt))
zip_at R (a ∷ xs) [] k d e h lt = absurd h
zip_at R (a ∷ xs) (b ∷ ys) zero d e h lt = h.0
zip_at R (a ∷ xs) (b ∷ ys) (suc k) d e h lt = zip_at R xs ys k d e h.1 (omega (arith, lt))

-- both change at one place
pub zip_set_both : {A B : Type 0} (R : A → B → Type 0) (xs : List A) (ys : List B) (k : ℕ) (x : A) (y : B) → AllZip R xs ys → R x y → AllZip R (set xs k x) (set ys k y)
zip_set_both R [] [] k x y h here = tt
zip_set_both R [] (b ∷ ys) k x y h here = absurd h
zip_set_both R (a ∷ xs) [] k x y h here = absurd h
zip_set_both R (a ∷ xs) (b ∷ ys) zero x y h here = (here, h.1)
zip_set_both R (a ∷ xs) (b ∷ ys) (suc k) x y h here = (h.0, zip_set_both R xs ys k x y h.1 here)

pub zip_onward : {A B : Type 0} (R Q : A → B → Type 0) → ((x : A) (y : B) → R x y → Q x y) → (xs : List A) (ys : List B) → AllZip R xs ys → AllZip Q xs ys
zip_onward R Q f [] [] h = tt
zip_onward R Q f [] (b ∷ ys) h = absurd h
zip_onward R Q f (a ∷ xs) [] h = absurd h
zip_onward R Q f (a ∷ xs) (b ∷ ys) h = (f a b h.0, zip_onward R Q f xs ys h.1)

-- three of them: one more of each
pub zip3_push : {A B C : Type 0} (R : A → B → C → Type 0) (xs : List A) (ys : List B) (zs : List C) (x : A) (y : B) (z : C) → Zip3 R xs ys zs → R x y z → Zip3 R (xs ++ x ∷ []) (ys ++ y ∷ []) (zs ++ z ∷ [])
zip3_push R [] [] [] x y z h here = (here, tt)
zip3_push R (a ∷ xs) (b ∷ ys) (c ∷ zs) x y z h here = (h.0, zip3_push R xs ys zs x y z h.1 here)
zip3_push R xs ys zs x y z h here = absurd h

pub zip3_length : {A B C : Type 0} (R : A → B → C → Type 0) (xs : List A) (ys : List B) (zs : List C) → Zip3 R xs ys zs → length xs ≡ length ys
zip3_length R [] [] [] h = refl
zip3_length R (a ∷ xs) (b ∷ ys) (c ∷ zs) h = ap suc (zip3_length R xs ys zs h.1)
zip3_length R xs ys zs h = absurd h

pub zip3_at : {A B C : Type 0} (R : A → B → C → Type 0) (xs : List A) (ys : List B) (zs : List C) (k : ℕ) (d : A) (e : B) (f : C) → Zip3 R xs ys zs → k < length xs → R (get_or xs k d) (get_or ys k e) (get_or zs k f)
zip3_at R [] [] [] k d e f h lt = absurd (omega (arith, lt))
zip3_at R (a ∷ xs) (b ∷ ys) (c ∷ zs) zero d e f h lt = h.0
zip3_at R (a ∷ xs) (b ∷ ys) (c ∷ zs) (suc k) d e f h lt = zip3_at R xs ys zs k d e f h.1 (omega (arith, lt))
zip3_at R xs ys zs k d e f h lt = absurd h
