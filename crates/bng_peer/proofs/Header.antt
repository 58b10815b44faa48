-- A header of twenty octets can be written: there are octets that say it. It says the same whatever stands behind it.
use Rattle.std.proofs.Common.{◌≡◌, ℕ, zero, suc, ◌+◌, ◌*◌, ◌-◌, ◌/◌, ◌%◌, ◌^◌, ◌<◌, ◌≤◌, List, [], ◌∷◌, ◌++◌, length, get_or, take, drop, refl, sym, ap, subst, ◌∙◌, append_assoc, arith}
use Rattle.std.specs.Prelude.{fold, replicate}
use Rattle.std.proofs.lemmas.List.{take_at, length-append, length-replicate, length-take-le, length-drop, get_or-take}
use Rattle.byteorder.specs.Endian.{big_bytes, big_from}
use Rattle.byteorder.specs.Numbers.{big_from-take}
use Rattle.bng_base.specs.declared.ipv4.Ipv4.{Ipv4}
use Rattle.bng_base.specs.Checksum.{end_around, words, ones_sum}
use Rattle.bng_base.specs.Ipv4Grammar.{IsIpv4}
use Rattle.bng_ipv4.specs.Spelling.{header, spelling}
use Rattle.bng_ipv4.proofs.Sums.{IsBytes, IsBytes-nil, IsBytes-cons, cells_fit, word-of, fold-le, fold-complement}

IsBytes-zeros : (n : ℕ) → IsBytes (replicate n 0)
IsBytes-zeros zero = IsBytes-nil
IsBytes-zeros (suc n) = IsBytes-cons 0 (replicate n 0) (omega arith) (IsBytes-zeros n)

IsBytes-append : (xs ys : List ℕ) → IsBytes xs → IsBytes ys → IsBytes (xs ++ ys)
IsBytes-append [] ys p q = q
IsBytes-append (x ∷ xs) ys p q = IsBytes-cons x (xs ++ ys) (p 0) (IsBytes-append xs ys (λ i. p (suc i)) q)

IsBytes-number : (n : ℕ) → IsBytes (big_bytes 4 n)
IsBytes-number n =
    let b3 : n / 256 ^ 3 % 256 < 256 = omega arith in
    let b2 : n / 256 ^ 2 % 256 < 256 = omega arith in
    let b1 : n / 256 % 256 < 256 = omega arith in
    let b0 : n % 256 < 256 = omega arith in
    cells_fit (big_bytes 4 n) (b3, (b2, (b1, (b0, tt))))

-- the spelling of such a header, whose checksum makes its sum 65,535
is_spelled : (v : Ipv4) → v.header ≡ 20 → 20 ≤ v.total → v.ttl < 256 → v.total < 2 ^ 16 → v.src.0 < 2 ^ 32 → v.dst.0 < 2 ^ 32 → IsIpv4 v (spelling v)
unfolding spelling
is_spelled v bare some ttl total src dst =
    let sum = 65535 - ones_sum (header v 0) in
    let ten : List ℕ = (64 + v.header / 4) ∷ 0 ∷ (v.total / 256 % 256) ∷ (v.total % 256) ∷ 0 ∷ 0 ∷ 0 ∷ 0 ∷ v.ttl ∷ 0 ∷ [] in
    let first : 64 + v.header / 4 < 256 = omega arith in
    let high : v.total / 256 % 256 < 256 = omega arith in
    let last : v.total % 256 < 256 = omega arith in
    let none : 0 < 256 = omega arith in
    let ten_fits : IsBytes ten = cells_fit ten (first, (none, (high, (last, (none, (none, (none, (none, (ttl, (none, tt)))))))))) in
    let start = fold end_around 0 (words ten) in
    let tail = big_bytes 4 v.src.0 ++ big_bytes 4 v.dst.0 ++ replicate (v.header - 20) 0 in
    let tail_fits : IsBytes tail = IsBytes-append (big_bytes 4 v.src.0 ++ big_bytes 4 v.dst.0) (replicate (v.header - 20) 0) (IsBytes-append (big_bytes 4 v.src.0) (big_bytes 4 v.dst.0) (IsBytes-number v.src.0) (IsBytes-number v.dst.0)) (IsBytes-zeros (v.header - 20)) in
    let made : fold end_around (end_around start ((sum / 256 % 256) * 256 + sum % 256)) (words tail) ≡ 65535 =
    ap (λ (n : ℕ). fold end_around (end_around start n) (words tail)) (word-of sum (omega arith))
    ∙ fold-complement tail start tail_fits (fold-le ten 0 ten_fits (omega arith)) in
    let options : length (replicate {A = ℕ} (v.header - 20) 0) ≡ v.header - 20 = length-replicate (v.header - 20) 0 in
    let size : length (header v sum) ≡ v.header = omega (arith, options, bare) in
    record {
      long = omega arith;
      version = omega (arith, bare);
      header = omega (arith, bare);
      whole_header = omega (arith, bare);
      total = omega arith;
      holds_header = omega (arith, bare);
      is_there = omega (arith, length-append (header v sum) (replicate (v.total - v.header) 0), length-replicate {A = ℕ} (v.total - v.header) 0, bare);
      ttl = refl;
      src = omega arith;
      dst = omega arith;
      sum = ap ones_sum (take_at (header v sum) (replicate (v.total - v.header) 0) v.header size) ∙ made;
    }

pub can_be_written : (v : Ipv4) → v.header ≡ 20 → 20 ≤ v.total → v.ttl < 256 → v.total < 2 ^ 16 → v.src.0 < 2 ^ 32 → v.dst.0 < 2 ^ 32 → (bytes : List ℕ) × IsIpv4 v bytes
can_be_written v bare some ttl total src dst = (spelling v, is_spelled v bare some ttl total src dst)

-- octets that begin with the same twenty, and are as many, say the same
same_front : (v : Ipv4) (a b : List ℕ) → take 20 a ≡ take 20 b → length a ≡ length b → v.header ≡ 20 → IsIpv4 v a → IsIpv4 v b
same_front v a b front size bare is =
    let at : (i : ℕ) → i < 20 → get_or b i 0 ≡ get_or a i 0 =
    λ i below. sym (get_or-take 20 b i 0 below) ∙ ap (λ (xs : List ℕ). get_or xs i 0) (sym front) ∙ get_or-take 20 a i 0 below in
    let number : (i n : ℕ) → i + n ≤ 20 → big_from i n a ≡ big_from i n b =
    λ i n below. sym (big_from-take i n 20 a below) ∙ ap (λ (xs : List ℕ). big_from i n xs) front ∙ big_from-take i n 20 b below in
    record {
      long = omega (arith, is.long, size);
      version = ap (λ (n : ℕ). n / 16) (at 0 (omega arith)) ∙ is.version;
      header = is.header ∙ ap (λ (n : ℕ). 4 * (n % 16)) (sym (at 0 (omega arith)));
      whole_header = is.whole_header;
      total = is.total ∙ number 2 2 (omega arith);
      holds_header = is.holds_header;
      is_there = omega (arith, is.is_there, size);
      ttl = is.ttl ∙ sym (at 8 (omega arith));
      src = is.src ∙ number 12 4 (omega arith);
      dst = is.dst ∙ number 16 4 (omega arith);
      sum = ap (λ (n : ℕ). ones_sum (take n b)) bare ∙ ap ones_sum (sym front) ∙ ap (λ (n : ℕ). ones_sum (take n a)) (sym bare) ∙ is.sum;
    }

-- an octet behind the header says nothing of it
pub numbered : (v : Ipv4) (n : ℕ) (bytes : List ℕ) → 21 ≤ length bytes → v.header ≡ 20 → IsIpv4 v bytes → IsIpv4 v ((take 20 bytes ++ (n ∷ [])) ++ drop 21 bytes)
numbered v n bytes long bare is =
    let back : List ℕ = n ∷ drop 21 bytes in
    let twenty : length (take 20 bytes) ≡ 20 = length-take-le 20 bytes (omega arith) in
    let front : take 20 (take 20 bytes ++ back) ≡ take 20 bytes = take_at (take 20 bytes) back 20 twenty in
    let size : length (take 20 bytes ++ back) ≡ length bytes = omega (arith, twenty, length-append (take 20 bytes) back, length-drop 21 bytes) in
    subst (IsIpv4 v) (sym (append_assoc (take 20 bytes) (n ∷ []) (drop 21 bytes))) (same_front v bytes (take 20 bytes ++ back) (sym front) (sym size) bare is)

-- a packet has as many octets as its header says
pub spelled_size : (v : Ipv4) → v.header ≡ 20 → 20 ≤ v.total → length (spelling v) ≡ v.total
unfolding spelling
spelled_size v bare some =
    let sum = 65535 - ones_sum (header v 0) in
    let options : length (replicate {A = ℕ} (v.header - 20) 0) ≡ v.header - 20 = length-replicate (v.header - 20) 0 in
    let size : length (header v sum) ≡ v.header = omega (arith, options, bare) in
    omega (arith, size, bare, length-append (header v sum) (replicate (v.total - v.header) 0), length-replicate {A = ℕ} (v.total - v.header) 0)
