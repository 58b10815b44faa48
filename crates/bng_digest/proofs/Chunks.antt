-- Texts xored octet by octet, and their chunks.
use Rattle.std.proofs.Common.{◌≡◌, ℕ, zero, suc, ◌+◌, ◌*◌, ◌-◌, ◌<◌, ◌≤◌, List, [], ◌∷◌, ◌++◌, length, get_or, take, drop, map, refl, sym, ap, subst, ⊎_elim, ◌∙◌, arith}
use Rattle.std.specs.Prelude.{bit_xor, min}
use Rattle.std.specs.List.{zip, flat_map, range_with_len}
use Rattle.std.proofs.lemmas.List.{ext_get_or, length-map, length-take, length-drop, drop-take, take-take, drop-drop, take_all, take_at, take_min, drop_all, drop_at, append-nil}
use Rattle.std.proofs.lemmas.Slice.Zip.{length-zip}
use Rattle.std.proofs.lemmas.Slice.{drop-put_mid}
use Rattle.std.proofs.lemmas.Bool.{cases_lt}
use Rattle.std.proofs.Math.Seq.{take-add}
use Rattle.std.specs.Int.Bits.{xor_assoc, xor_self, xor_zero_r}
use Rattle.md5.specs.Md5.{md5}
use Rattle.md5.proofs.StandardFacts.{length-md5}
use borrow.Rule.Slice.PartMut.{put_mid}
use Rattle.bng_digest.specs.Mixing.{xored, chunk, chunk_count, mask, IsHidden, cipher_chunk, hidden, plain_chunk, revealed}

pub length-xored : (xs ys : List ℕ) → length (xored xs ys) ≡ min (length xs) (length ys)
unfolding xored
length-xored xs ys = length-map (zip xs ys) (λ p. bit_xor p.0 p.1) ∙ length-zip xs ys

pub get_or-xored : (xs ys : List ℕ) (k : ℕ) → k < length xs → k < length ys → get_or (xored xs ys) k 0 ≡ bit_xor (get_or xs k 0) (get_or ys k 0)
unfolding xored
get_or-xored [] ys k h g = absurd (omega arith)
get_or-xored (x ∷ xs) [] k h g = absurd (omega arith)
get_or-xored (x ∷ xs) (y ∷ ys) zero h g = refl
get_or-xored (x ∷ xs) (y ∷ ys) (suc k) h g = get_or-xored xs ys k (omega arith) (omega arith)

-- a text whose octets are those of two texts xored
pub xored_by_octets : (xs ys zs : List ℕ) → length zs ≡ length xs → length xs ≤ length ys → ((k : ℕ) → k < length xs → get_or zs k 0 ≡ bit_xor (get_or xs k 0) (get_or ys k 0)) → zs ≡ xored xs ys
xored_by_octets xs ys zs size short each =
    ext_get_or 0 zs (xored xs ys) (omega (arith, length-xored xs ys)) (λ k h. each k (omega arith) ∙ sym (get_or-xored xs ys k (omega arith) (omega arith)))

-- a text of n octets, each of which was changed by f
pub mapped_over : (f : ℕ → ℕ) (xs ys : List ℕ) (n : ℕ) → length xs ≤ n → ys ≡ map f (take n xs) ++ drop n xs → ys ≡ map f xs
mapped_over f xs ys n all e = e ∙ ap (λ (r : List ℕ). map f r ++ drop n xs) (take_all n xs all) ∙ ap (λ (r : List ℕ). map f xs ++ r) (drop_all n xs all) ∙ append-nil (map f xs)

-- a chunk that was xored where it stands, between 16 * i and an end
module _ (xs part digest : List ℕ) (i end : ℕ) (inside : 16 * i < length xs) (to : end ≡ min (length xs) (16 * i + 16)) (long : length digest ≡ 16)
    (xored_part : part ≡ xored (take (end - 16 * i) (drop (16 * i) xs)) digest) where
  part_size : length part ≡ end - 16 * i
  part_size = omega (arith, ap length xored_part, length-xored (take (end - 16 * i) (drop (16 * i) xs)) digest, length-take (end - 16 * i) (drop (16 * i) xs), length-drop (16 * i) xs)

  same_part : take (end - 16 * i) (drop (16 * i) xs) ≡ take 16 (drop (16 * i) xs)
  same_part = ap (λ (n : ℕ). take n (drop (16 * i) xs)) (let e : end - 16 * i ≡ min 16 (length (drop (16 * i) xs)) = omega (arith, length-drop (16 * i) xs) in e) ∙ take_min 16 (drop (16 * i) xs)

  here : drop (16 * i) (put_mid (16 * i) (end - 16 * i) xs part) ≡ part ++ drop (end - 16 * i) (drop (16 * i) xs)
  here = drop_at (take (16 * i) xs) (part ++ drop (end - 16 * i) (drop (16 * i) xs)) (16 * i) (omega (arith, length-take (16 * i) xs))

  -- a whole part is the chunk, and behind a shorter one nothing follows
  first_part : (rest : List ℕ) → rest ≡ drop (end - 16 * i) (drop (16 * i) xs) → take 16 (part ++ rest) ≡ part
  first_part [] e = ap (take 16) (append-nil part) ∙ take_all 16 part (omega (arith, part_size))
  first_part (r ∷ rest) e = take_at part (r ∷ rest) 16 (omega (arith, part_size, ap length e, length-drop (end - 16 * i) (drop (16 * i) xs), length-drop (16 * i) xs))

  pub written_chunk : chunk (put_mid (16 * i) (end - 16 * i) xs part) i ≡ xored (chunk xs i) digest
  unfolding chunk
  written_chunk = ap (take 16) here ∙ first_part (drop (end - 16 * i) (drop (16 * i) xs)) refl ∙ xored_part ∙ ap (λ (p : List ℕ). xored p digest) same_part

  pub behind_chunk : drop (16 * (i + 1)) (put_mid (16 * i) (end - 16 * i) xs part) ≡ drop (16 * (i + 1)) xs
  behind_chunk = drop-put_mid (16 * i) (end - 16 * i) xs part (16 * (i + 1)) (omega arith) (omega arith) part_size

-- ---- texts that agree in part

pub same_below : (v w : List ℕ) (i k : ℕ) → take (16 * i) w ≡ take (16 * i) v → k < i → chunk w k ≡ chunk v k
unfolding chunk
same_below v w i k same below = sym (front w) ∙ ap (λ (r : List ℕ). take 16 (drop (16 * k) r)) same ∙ front v
  where
    front : (xs : List ℕ) → take 16 (drop (16 * k) (take (16 * i) xs)) ≡ take 16 (drop (16 * k) xs)
    front xs =
        ap (λ (n : ℕ). take 16 (drop (16 * k) (take n xs))) (let e : 16 * i ≡ 16 * k + (16 * i - 16 * k) = omega arith in e)
        ∙ ap (take 16) (drop-take (16 * k) (16 * i - 16 * k) xs)
        ∙ take-take 16 (16 * i - 16 * k) (drop (16 * k) xs) (omega arith)

pub same_from : (v w : List ℕ) (i k : ℕ) → drop (16 * i) w ≡ drop (16 * i) v → i ≤ k → chunk w k ≡ chunk v k
unfolding chunk
same_from v w i k same from = sym (back w) ∙ ap (λ (r : List ℕ). take 16 (drop (16 * k - 16 * i) r)) same ∙ back v
  where
    back : (xs : List ℕ) → take 16 (drop (16 * k - 16 * i) (drop (16 * i) xs)) ≡ take 16 (drop (16 * k) xs)
    back xs = ap (take 16) (drop-drop (16 * k - 16 * i) (16 * i) xs ∙ ap (λ (n : ℕ). drop n xs) (let e : 16 * i + (16 * k - 16 * i) ≡ 16 * k = omega arith in e))

pub chunk_past : (xs : List ℕ) (k : ℕ) → length xs ≤ 16 * k → chunk xs k ≡ []
unfolding chunk
chunk_past xs k past = ap (take 16) (drop_all (16 * k) xs past)

pub length-chunk-le : (xs : List ℕ) (k : ℕ) → length (chunk xs k) ≤ 16
unfolding chunk
length-chunk-le xs k = omega (arith, length-take 16 (drop (16 * k) xs))

pub mask_same : (secret first v w : List ℕ) (k : ℕ) → ((j : ℕ) → j < k → chunk w j ≡ chunk v j) → mask secret first w k ≡ mask secret first v k
mask_same secret first v w zero same = refl
mask_same secret first v w (suc k) same = ap (λ (c : List ℕ). md5 (secret ++ c)) (same k (omega arith))

-- the digest as it is taken: of the secret and the chunk before
pub mask_at : (secret first v : List ℕ) (i : ℕ) → 0 < i → md5 (secret ++ (take (16 * i - 16 * (i - 1)) (drop (16 * (i - 1)) v) ++ [])) ≡ mask secret first v i
unfolding chunk
mask_at secret first v zero some = absurd (omega arith)
mask_at secret first v (suc i) some =
    ap (λ (r : List ℕ). md5 (secret ++ r))
    (append-nil (take (16 * suc i - 16 * (suc i - 1)) (drop (16 * (suc i - 1)) v))
    ∙ ap (λ (n : ℕ). take n (drop (16 * (suc i - 1)) v)) (let e : 16 * suc i - 16 * (suc i - 1) ≡ 16 = omega arith in e)
    ∙ ap (λ (n : ℕ). take 16 (drop (16 * n) v)) (let e : suc i - 1 ≡ i = omega arith in e))

pub length-mask : (secret first v : List ℕ) (i : ℕ) → length first ≡ 16 → length (mask secret first v i) ≡ 16
length-mask secret first v zero long = long
length-mask secret first v (suc i) long = length-md5 (secret ++ chunk v i)

-- ---- hiding, from the first chunk to the last

pub hide_more : (secret first x v w digest : List ℕ) (i : ℕ)
    → ((k : ℕ) → k < i → chunk v k ≡ xored (chunk x k) (mask secret first v k)) → drop (16 * i) v ≡ drop (16 * i) x
    → take (16 * i) w ≡ take (16 * i) v → chunk w i ≡ xored (chunk v i) digest → digest ≡ mask secret first v i
    → (k : ℕ) → k < i + 1 → chunk w k ≡ xored (chunk x k) (mask secret first w k)
hide_more secret first x v w digest i done left before here is_mask k below =
    ⊎_elim earlier now (cases_lt k i)
  where
    masks : (k : ℕ) → k ≤ i → mask secret first w k ≡ mask secret first v k
    masks k le = mask_same secret first v w k (λ j lt. same_below v w i j before (omega arith))

    earlier : k < i → chunk w k ≡ xored (chunk x k) (mask secret first w k)
    earlier lt = same_below v w i k before lt ∙ done k lt ∙ ap (xored (chunk x k)) (sym (masks k (omega arith)))

    at_i : chunk w i ≡ xored (chunk x i) (mask secret first w i)
    at_i = here ∙ ap (xored (chunk v i)) (is_mask ∙ sym (masks i (omega arith))) ∙ ap (λ (c : List ℕ). xored c (mask secret first w i)) (same_from x v i i left (omega arith))

    now : i ≤ k → chunk w k ≡ xored (chunk x k) (mask secret first w k)
    now le = let e : k ≡ i = omega arith in subst (λ (n : ℕ). chunk w n ≡ xored (chunk x n) (mask secret first w n)) (sym e) at_i

xored_nil : (ys : List ℕ) → xored [] ys ≡ []
unfolding xored
xored_nil ys = refl

pub hide_all : (secret first x w : List ℕ) (i : ℕ) → length x ≤ 16 * i → length w ≡ length x
    → ((k : ℕ) → k < i → chunk w k ≡ xored (chunk x k) (mask secret first w k)) → IsHidden secret first x w
hide_all secret first x w i all size done = record { size = size; each = λ k. ⊎_elim (done k) (past k) (cases_lt k i) }
  where
    past : (k : ℕ) → i ≤ k → chunk w k ≡ xored (chunk x k) (mask secret first w k)
    past k le =
        chunk_past w k (omega arith) ∙ sym (xored_nil (mask secret first w k))
        ∙ ap (λ (c : List ℕ). xored c (mask secret first w k)) (sym (chunk_past x k (omega arith)))

-- ---- revealing, from the last chunk to the first

pub reveal_more : (secret first x v w digest : List ℕ) (i : ℕ)
    → ((k : ℕ) → i + 1 ≤ k → chunk v k ≡ plain_chunk secret first x k) → take (16 * (i + 1)) v ≡ take (16 * (i + 1)) x
    → drop (16 * (i + 1)) w ≡ drop (16 * (i + 1)) v → chunk w i ≡ xored (chunk v i) digest → digest ≡ mask secret first v i
    → (k : ℕ) → i ≤ k → chunk w k ≡ plain_chunk secret first x k
reveal_more secret first x v w digest i done left behind here is_mask k from =
    ⊎_elim later now (cases_lt i k)
  where
    later : i < k → chunk w k ≡ plain_chunk secret first x k
    later lt = same_from v w (i + 1) k behind (omega arith) ∙ done k (omega arith)

    masks : mask secret first v i ≡ mask secret first x i
    masks = mask_same secret first x v i (λ j lt. same_below x v (i + 1) j left (omega arith))

    at_i : chunk w i ≡ plain_chunk secret first x i
    at_i = here ∙ ap (xored (chunk v i)) (is_mask ∙ masks) ∙ ap (λ (c : List ℕ). xored c (mask secret first x i)) (same_below x v (i + 1) i left (omega arith))

    now : k ≤ i → chunk w k ≡ plain_chunk secret first x k
    now le = let e : k ≡ i = omega arith in subst (λ (n : ℕ). chunk w n ≡ plain_chunk secret first x n) (sym e) at_i

pub reveal_none : (secret first x : List ℕ) (k : ℕ) → length x ≤ 16 * k → chunk x k ≡ plain_chunk secret first x k
reveal_none secret first x k past =
    chunk_past x k past ∙ sym (xored_nil (mask secret first x k)) ∙ ap (λ (c : List ℕ). xored c (mask secret first x k)) (sym (chunk_past x k past))

xor_twice : (a b : ℕ) → bit_xor (bit_xor a b) b ≡ a
xor_twice a b = xor_assoc a b b ∙ ap (bit_xor a) (xor_self b) ∙ xor_zero_r a

pub xored-xored : (xs ys : List ℕ) → length xs ≤ length ys → xored (xored xs ys) ys ≡ xs
unfolding xored
xored-xored [] ys short = refl
xored-xored (x ∷ xs) [] short = absurd (omega arith)
xored-xored (x ∷ xs) (y ∷ ys) short =
    ap (λ (z : ℕ). z ∷ xored (xored xs ys) ys) (xor_twice x y) ∙ ap (λ (r : List ℕ). x ∷ r) (xored-xored xs ys (omega arith))

pub reveal_all : (secret first x w : List ℕ) → length first ≡ 16 → length w ≡ length x
    → ((k : ℕ) → chunk w k ≡ plain_chunk secret first x k) → IsHidden secret first w x
reveal_all secret first x w long size done = record { size = sym size; each = back }
  where
    back : (k : ℕ) → chunk x k ≡ xored (chunk w k) (mask secret first x k)
    back k = let short : length (chunk x k) ≤ length (mask secret first x k) = omega (arith, length-chunk-le x k, length-mask secret first x k long) in
        sym (xored-xored (chunk x k) (mask secret first x k) short) ∙ ap (λ (c : List ℕ). xored c (mask secret first x k)) (sym (done k))

-- ---- a text from its chunks

chunks_from : (xs : List ℕ) (a n : ℕ) → flat_map (chunk xs) (range_with_len a n) ≡ take (16 * n) (drop (16 * a) xs)
unfolding chunk
chunks_from xs a zero = refl
chunks_from xs a (suc n) =
    ap (λ (r : List ℕ). take 16 (drop (16 * a) xs) ++ r) (chunks_from xs (a + 1) n)
    ∙ ap (λ (r : List ℕ). take 16 (drop (16 * a) xs) ++ take (16 * n) r)
    (ap (λ (k : ℕ). drop k xs) (let e : 16 * (a + 1) ≡ 16 * a + 16 = omega arith in e) ∙ sym (drop-drop 16 (16 * a) xs))
    ∙ sym (take-add 16 (16 * n) (drop (16 * a) xs))
    ∙ ap (λ (k : ℕ). take k (drop (16 * a) xs)) (let e : 16 + 16 * n ≡ 16 * suc n = omega arith in e)

flat_map_same : (f g : ℕ → List ℕ) (ks : List ℕ) → ((k : ℕ) → f k ≡ g k) → flat_map f ks ≡ flat_map g ks
flat_map_same f g [] same = refl
flat_map_same f g (k ∷ ks) same = ap (λ (x : List ℕ). x ++ flat_map f ks) (same k) ∙ ap (λ (x : List ℕ). g k ++ x) (flat_map_same f g ks same)

text_of_chunks : (f : ℕ → List ℕ) (xs ys : List ℕ) → length xs ≡ length ys → ((k : ℕ) → chunk ys k ≡ f k) → ys ≡ flat_map f (range_with_len 0 (chunk_count xs))
text_of_chunks f xs ys size each =
    sym (take_all (16 * chunk_count xs) ys (omega arith)) ∙ sym (chunks_from ys 0 (chunk_count xs)) ∙ flat_map_same (chunk ys) f (range_with_len 0 (chunk_count xs)) each

pub hidden_is : (secret first plain cipher : List ℕ) → IsHidden secret first plain cipher → cipher ≡ hidden secret first plain
unfolding hidden
hidden_is secret first plain cipher h = text_of_chunks (cipher_chunk secret first plain) plain cipher (sym h.size) each
  where
    each : (k : ℕ) → chunk cipher k ≡ cipher_chunk secret first plain k
    each zero = h.each zero
    each (suc k) = h.each (suc k) ∙ ap (λ (c : List ℕ). xored (chunk plain (suc k)) (md5 (secret ++ c))) (each k)

pub revealed_is : (secret first plain cipher : List ℕ) → length first ≡ 16 → IsHidden secret first plain cipher → plain ≡ revealed secret first cipher
unfolding revealed
revealed_is secret first plain cipher long h = text_of_chunks (plain_chunk secret first cipher) cipher plain h.size each
  where
    each : (k : ℕ) → chunk plain k ≡ plain_chunk secret first cipher k
    each k = let short : length (chunk plain k) ≤ length (mask secret first cipher k) = omega (arith, length-chunk-le plain k, length-mask secret first cipher k long) in
        sym (xored-xored (chunk plain k) (mask secret first cipher k) short) ∙ ap (λ (c : List ℕ). xored c (mask secret first cipher k)) (sym (h.each k))

pub left_more : (x v : List ℕ) (i : ℕ) → drop (16 * i) v ≡ drop (16 * i) x → drop (16 * (i + 1)) v ≡ drop (16 * (i + 1)) x
left_more x v i left = sym (next v) ∙ ap (drop 16) left ∙ next x
  where
    next : (xs : List ℕ) → drop 16 (drop (16 * i) xs) ≡ drop (16 * (i + 1)) xs
    next xs = drop-drop 16 (16 * i) xs ∙ ap (λ (n : ℕ). drop n xs) (let e : 16 * i + 16 ≡ 16 * (i + 1) = omega arith in e)

pub left_less : (x v : List ℕ) (i j : ℕ) → i ≤ j → take (16 * j) v ≡ take (16 * j) x → take (16 * i) v ≡ take (16 * i) x
left_less x v i j le left = sym (take-take (16 * i) (16 * j) v (omega arith)) ∙ ap (take (16 * i)) left ∙ take-take (16 * i) (16 * j) x (omega arith)
