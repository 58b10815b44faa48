-- Lowering the TTL of a packet whose first twelve octets are known.
use Rattle.std.proofs.Common.{◌≡◌, ℕ, ◌+◌, ◌*◌, ◌-◌, ◌/◌, ◌%◌, ◌≤◌, List, [], ◌∷◌, ◌++◌, length, get_or, take, drop, refl, sym, ap, ◌∙◌, arith}
use Rattle.std.specs.Prelude.{fold}
use Rattle.bng_base.specs.declared.ipv4.Ipv4.{Ipv4}
use Rattle.bng_base.specs.Checksum.{end_around, words, ones_sum}
use Rattle.bng_base.specs.Ipv4Grammar.{IsIpv4}
use Rattle.bng_base.specs.Lowering.{lowered}
use Rattle.bng_ipv4.proofs.Sums.{IsBytes, IsBytes-nil, IsBytes-cons, IsBytes-drop, IsBytes-take, take-past, word-of, fold-le, fold-complement, end_around-zero}

-- what holds of each list that shows twelve octets holds of each that has them
twelve : (P : List ℕ → Type 0) → ((p0 p1 p2 p3 p4 p5 p6 p7 p8 p9 p10 p11 : ℕ) (rest : List ℕ) → P (p0 ∷ p1 ∷ p2 ∷ p3 ∷ p4 ∷ p5 ∷ p6 ∷ p7 ∷ p8 ∷ p9 ∷ p10 ∷ p11 ∷ rest)) → (packet : List ℕ) → 12 ≤ length packet → P packet
twelve P shown (p0 ∷ p1 ∷ p2 ∷ p3 ∷ p4 ∷ p5 ∷ p6 ∷ p7 ∷ p8 ∷ p9 ∷ p10 ∷ p11 ∷ rest) long = shown p0 p1 p2 p3 p4 p5 p6 p7 p8 p9 p10 p11 rest
twelve P shown ([]) long = absurd (omega arith)
twelve P shown (p0 ∷ []) long = absurd (omega arith)
twelve P shown (p0 ∷ p1 ∷ []) long = absurd (omega arith)
twelve P shown (p0 ∷ p1 ∷ p2 ∷ []) long = absurd (omega arith)
twelve P shown (p0 ∷ p1 ∷ p2 ∷ p3 ∷ []) long = absurd (omega arith)
twelve P shown (p0 ∷ p1 ∷ p2 ∷ p3 ∷ p4 ∷ []) long = absurd (omega arith)
twelve P shown (p0 ∷ p1 ∷ p2 ∷ p3 ∷ p4 ∷ p5 ∷ []) long = absurd (omega arith)
twelve P shown (p0 ∷ p1 ∷ p2 ∷ p3 ∷ p4 ∷ p5 ∷ p6 ∷ []) long = absurd (omega arith)
twelve P shown (p0 ∷ p1 ∷ p2 ∷ p3 ∷ p4 ∷ p5 ∷ p6 ∷ p7 ∷ []) long = absurd (omega arith)
twelve P shown (p0 ∷ p1 ∷ p2 ∷ p3 ∷ p4 ∷ p5 ∷ p6 ∷ p7 ∷ p8 ∷ []) long = absurd (omega arith)
twelve P shown (p0 ∷ p1 ∷ p2 ∷ p3 ∷ p4 ∷ p5 ∷ p6 ∷ p7 ∷ p8 ∷ p9 ∷ []) long = absurd (omega arith)
twelve P shown (p0 ∷ p1 ∷ p2 ∷ p3 ∷ p4 ∷ p5 ∷ p6 ∷ p7 ∷ p8 ∷ p9 ∷ p10 ∷ []) long = absurd (omega arith)

-- the sum over what stands before the checksum and what stands after it
abbrev pub sum_around : List ℕ → ℕ
sum_around packet =
    fold end_around (fold end_around (fold end_around 0 (words (take 8 packet))) (words ((get_or packet 8 0 - 1) ∷ get_or packet 9 0 ∷ [])))
    (words (take (4 * (get_or packet 0 0 % 16) - 12) (drop 12 packet)))

-- the four octets from the TTL on, with this checksum
abbrev pub four_of : List ℕ → ℕ → List ℕ
four_of packet sum = (get_or packet 8 0 - 1) ∷ get_or packet 9 0 ∷ (sum / 256 % 256) ∷ (sum % 256) ∷ []

abbrev Lowers : List ℕ → Type 0
Lowers packet = IsBytes packet → 12 ≤ 4 * (get_or packet 0 0 % 16) → take 8 packet ++ four_of packet (65535 - sum_around packet) ++ drop 12 packet ≡ lowered packet

lowers-shown : (p0 p1 p2 p3 p4 p5 p6 p7 p8 p9 p10 p11 : ℕ) (rest : List ℕ) → Lowers (p0 ∷ p1 ∷ p2 ∷ p3 ∷ p4 ∷ p5 ∷ p6 ∷ p7 ∷ p8 ∷ p9 ∷ p10 ∷ p11 ∷ rest)
unfolding lowered
lowers-shown p0 p1 p2 p3 p4 p5 p6 p7 p8 p9 p10 p11 rest fits whole =
    let size = 4 * (p0 % 16) in
    let ten : List ℕ = p0 ∷ p1 ∷ p2 ∷ p3 ∷ p4 ∷ p5 ∷ p6 ∷ p7 ∷ (p8 - 1) ∷ p9 ∷ [] in
    let ten_fits : IsBytes ten = IsBytes-cons p0 (p1 ∷ p2 ∷ p3 ∷ p4 ∷ p5 ∷ p6 ∷ p7 ∷ (p8 - 1) ∷ p9 ∷ []) (fits 0) (IsBytes-cons p1 (p2 ∷ p3 ∷ p4 ∷ p5 ∷ p6 ∷ p7 ∷ (p8 - 1) ∷ p9 ∷ []) (fits 1) (IsBytes-cons p2 (p3 ∷ p4 ∷ p5 ∷ p6 ∷ p7 ∷ (p8 - 1) ∷ p9 ∷ []) (fits 2) (IsBytes-cons p3 (p4 ∷ p5 ∷ p6 ∷ p7 ∷ (p8 - 1) ∷ p9 ∷ []) (fits 3) (IsBytes-cons p4 (p5 ∷ p6 ∷ p7 ∷ (p8 - 1) ∷ p9 ∷ []) (fits 4) (IsBytes-cons p5 (p6 ∷ p7 ∷ (p8 - 1) ∷ p9 ∷ []) (fits 5) (IsBytes-cons p6 (p7 ∷ (p8 - 1) ∷ p9 ∷ []) (fits 6) (IsBytes-cons p7 ((p8 - 1) ∷ p9 ∷ []) (fits 7) (IsBytes-cons (p8 - 1) (p9 ∷ []) (omega (arith, fits 8)) (IsBytes-cons p9 ([]) (fits 9) (IsBytes-nil)))))))))) in
    let start = fold end_around 0 (words ten) in
    let front : List ℕ = p0 ∷ p1 ∷ p2 ∷ p3 ∷ p4 ∷ p5 ∷ p6 ∷ p7 ∷ (p8 - 1) ∷ p9 ∷ 0 ∷ 0 ∷ [] in
    let cut : take size (front ++ rest) ≡ front ++ take (size - 12) rest = take-past front rest size whole in
    let none : start ≡ end_around start 0 = sym (end_around-zero start (fold-le ten 0 ten_fits (omega arith))) in
    let same : sum_around (p0 ∷ p1 ∷ p2 ∷ p3 ∷ p4 ∷ p5 ∷ p6 ∷ p7 ∷ p8 ∷ p9 ∷ p10 ∷ p11 ∷ rest) ≡ ones_sum (take size (front ++ rest)) = ap (λ (s : ℕ). fold end_around s (words (take (size - 12) rest))) none ∙ ap ones_sum (sym cut) in
    ap (λ (n : ℕ). p0 ∷ p1 ∷ p2 ∷ p3 ∷ p4 ∷ p5 ∷ p6 ∷ p7 ∷ (p8 - 1) ∷ p9 ∷ ((65535 - n) / 256 % 256) ∷ ((65535 - n) % 256) ∷ rest) same

pub lowers : (packet : List ℕ) → 12 ≤ length packet → Lowers packet
lowers packet long = twelve Lowers lowers-shown packet long

abbrev Again : Ipv4 → List ℕ → Type 0
Again v packet = IsBytes packet → IsIpv4 v packet → IsIpv4 (record v { ttl = v.ttl - 1 }) (lowered packet)

again-shown : (v : Ipv4) (p0 p1 p2 p3 p4 p5 p6 p7 p8 p9 p10 p11 : ℕ) (rest : List ℕ) → Again v (p0 ∷ p1 ∷ p2 ∷ p3 ∷ p4 ∷ p5 ∷ p6 ∷ p7 ∷ p8 ∷ p9 ∷ p10 ∷ p11 ∷ rest)
unfolding lowered
again-shown v p0 p1 p2 p3 p4 p5 p6 p7 p8 p9 p10 p11 rest fits h =
    let size = 4 * (p0 % 16) in
    let tail = take (size - 12) rest in
    let tail_fits : IsBytes tail = IsBytes-take (size - 12) rest (IsBytes-drop 12 (p0 ∷ p1 ∷ p2 ∷ p3 ∷ p4 ∷ p5 ∷ p6 ∷ p7 ∷ p8 ∷ p9 ∷ p10 ∷ p11 ∷ rest) fits) in
    let ten : List ℕ = p0 ∷ p1 ∷ p2 ∷ p3 ∷ p4 ∷ p5 ∷ p6 ∷ p7 ∷ (p8 - 1) ∷ p9 ∷ [] in
    let ten_fits : IsBytes ten = IsBytes-cons p0 (p1 ∷ p2 ∷ p3 ∷ p4 ∷ p5 ∷ p6 ∷ p7 ∷ (p8 - 1) ∷ p9 ∷ []) (fits 0) (IsBytes-cons p1 (p2 ∷ p3 ∷ p4 ∷ p5 ∷ p6 ∷ p7 ∷ (p8 - 1) ∷ p9 ∷ []) (fits 1) (IsBytes-cons p2 (p3 ∷ p4 ∷ p5 ∷ p6 ∷ p7 ∷ (p8 - 1) ∷ p9 ∷ []) (fits 2) (IsBytes-cons p3 (p4 ∷ p5 ∷ p6 ∷ p7 ∷ (p8 - 1) ∷ p9 ∷ []) (fits 3) (IsBytes-cons p4 (p5 ∷ p6 ∷ p7 ∷ (p8 - 1) ∷ p9 ∷ []) (fits 4) (IsBytes-cons p5 (p6 ∷ p7 ∷ (p8 - 1) ∷ p9 ∷ []) (fits 5) (IsBytes-cons p6 (p7 ∷ (p8 - 1) ∷ p9 ∷ []) (fits 6) (IsBytes-cons p7 ((p8 - 1) ∷ p9 ∷ []) (fits 7) (IsBytes-cons (p8 - 1) (p9 ∷ []) (omega (arith, fits 8)) (IsBytes-cons p9 ([]) (fits 9) (IsBytes-nil)))))))))) in
    let start = fold end_around 0 (words ten) in
    let start_le : start ≤ 65535 = fold-le ten 0 ten_fits (omega arith) in
    let whole : 12 ≤ size = omega (arith, h.header, h.whole_header) in
    let zero_front : List ℕ = p0 ∷ p1 ∷ p2 ∷ p3 ∷ p4 ∷ p5 ∷ p6 ∷ p7 ∷ (p8 - 1) ∷ p9 ∷ 0 ∷ 0 ∷ [] in
    let sum = 65535 - ones_sum (take size (zero_front ++ rest)) in
    let new_front : List ℕ = p0 ∷ p1 ∷ p2 ∷ p3 ∷ p4 ∷ p5 ∷ p6 ∷ p7 ∷ (p8 - 1) ∷ p9 ∷ (sum / 256 % 256) ∷ (sum % 256) ∷ [] in
    let cut : take size (new_front ++ rest) ≡ new_front ++ tail = take-past new_front rest size whole in
    let zero_cut : take size (zero_front ++ rest) ≡ zero_front ++ tail = take-past zero_front rest size whole in
    let made : fold end_around (end_around start ((sum / 256 % 256) * 256 + sum % 256)) (words tail) ≡ 65535 =
    ap (λ (n : ℕ). fold end_around (end_around start n) (words tail)) (word-of sum (omega arith))
    ∙ ap (λ (front : List ℕ). fold end_around (end_around start (65535 - ones_sum front)) (words tail)) zero_cut
    ∙ fold-complement tail start tail_fits start_le in
    record {
      long = h.long;
      version = h.version;
      header = h.header;
      whole_header = h.whole_header;
      total = h.total;
      holds_header = h.holds_header;
      is_there = h.is_there;
      ttl = ap (λ (t : ℕ). t - 1) h.ttl;
      src = h.src;
      dst = h.dst;
      sum = ap (λ (n : ℕ). ones_sum (take n (new_front ++ rest))) h.header ∙ ap ones_sum cut ∙ made;
    }

-- the lowered packet is in the grammar again
pub lowered-IsIpv4 : (packet : List ℕ) (v : Ipv4) → IsBytes packet → IsIpv4 v packet → IsIpv4 (record v { ttl = v.ttl - 1 }) (lowered packet)
lowered-IsIpv4 packet v fits h = twelve (Again v) (again-shown v) packet (omega (arith, h.long)) fits h

length-shown : (p0 p1 p2 p3 p4 p5 p6 p7 p8 p9 p10 p11 : ℕ) (rest : List ℕ) → length (lowered (p0 ∷ p1 ∷ p2 ∷ p3 ∷ p4 ∷ p5 ∷ p6 ∷ p7 ∷ p8 ∷ p9 ∷ p10 ∷ p11 ∷ rest)) ≡ length (p0 ∷ p1 ∷ p2 ∷ p3 ∷ p4 ∷ p5 ∷ p6 ∷ p7 ∷ p8 ∷ p9 ∷ p10 ∷ p11 ∷ rest)
unfolding lowered
length-shown p0 p1 p2 p3 p4 p5 p6 p7 p8 p9 p10 p11 rest = refl

-- lowering keeps the length
pub length-lowered : (packet : List ℕ) → 12 ≤ length packet → length (lowered packet) ≡ length packet
length-lowered packet long = twelve (λ p. length (lowered p) ≡ length p) length-shown packet long

drop-shown : (p0 p1 p2 p3 p4 p5 p6 p7 p8 p9 p10 p11 : ℕ) (rest : List ℕ) → drop 12 (lowered (p0 ∷ p1 ∷ p2 ∷ p3 ∷ p4 ∷ p5 ∷ p6 ∷ p7 ∷ p8 ∷ p9 ∷ p10 ∷ p11 ∷ rest)) ≡ drop 12 (p0 ∷ p1 ∷ p2 ∷ p3 ∷ p4 ∷ p5 ∷ p6 ∷ p7 ∷ p8 ∷ p9 ∷ p10 ∷ p11 ∷ rest)
unfolding lowered
drop-shown p0 p1 p2 p3 p4 p5 p6 p7 p8 p9 p10 p11 rest = refl

-- and all octets past the checksum
pub drop-lowered : (packet : List ℕ) → 12 ≤ length packet → drop 12 (lowered packet) ≡ drop 12 packet
drop-lowered packet long = twelve (λ p. drop 12 (lowered p) ≡ drop 12 p) drop-shown packet long
