-- Lists that are cut into parts.
use Rattle.std.proofs.Common.{◌≡◌, ℕ, ◌≤◌, List, [], ◌∷◌, ◌++◌, length, take, drop, sum, refl, sym, ap, ◌∙◌, arith}
use Rattle.std.specs.List.{flat_map}
use Rattle.std.proofs.lemmas.List.{take-append-le, drop-append-le, length-drop, take-append-drop}
use Rattle.std.proofs.lemmas.List.Sums.{sum_by-cons}
use Rattle.std.proofs.Math.Seq.{take-length}
use Rattle.bng_plant.specs.Parts.{cut}

none_left : {X : Type 0} (xs : List X) → 0 ≡ length xs → xs ≡ []
none_left [] e = refl
none_left (x ∷ xs) e = absurd (omega arith)

take_all_new : {X : Type 0} (n : ℕ) (xs ys : List X) → 0 ≡ length xs → n ≡ length ys → take n (xs ++ ys) ≡ ys
take_all_new n xs ys none same = ap (λ l. take n (l ++ ys)) (none_left xs none) ∙ ap (λ k. take k ys) same ∙ take-length ys

-- one part more at the end
pub cut_more : {X : Type 0} (ns : List ℕ) (n : ℕ) (xs ys : List X) → sum ns ≡ length xs → n ≡ length ys → cut (ns ++ n ∷ []) (xs ++ ys) ≡ cut ns xs ++ ys ∷ []
cut_more [] n xs ys e h = ap (λ l. l ∷ []) (take_all_new n xs ys e h)
cut_more (m ∷ ns) n xs ys e h =
    let le : m ≤ length xs = omega (arith, e, sum_by-cons (λ (k : ℕ). k) m ns) in
    let rest = cut_more ns n (drop m xs) ys (omega (arith, e, sum_by-cons (λ (k : ℕ). k) m ns, length-drop m xs)) h in
    let t = take-append-le m xs ys le in
    let d = drop-append-le m xs ys le in
    cc

-- the parts joined are the list
pub join_cut : {X : Type 0} (ns : List ℕ) (xs : List X) → sum ns ≡ length xs → flat_map (λ x. x) (cut ns xs) ≡ xs
join_cut [] xs e = sym (none_left xs e)
join_cut (m ∷ ns) xs e =
    ap (λ l. take m xs ++ l) (join_cut ns (drop m xs) (omega (arith, e, sum_by-cons (λ (k : ℕ). k) m ns, length-drop m xs))) ∙ take-append-drop m xs

-- as many parts as lengths
pub length_cut : {X : Type 0} (ns : List ℕ) (xs : List X) → length (cut ns xs) ≡ length ns
length_cut [] xs = refl
length_cut (n ∷ ns) xs = omega (arith, length_cut ns (drop n xs))
