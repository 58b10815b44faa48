-- The header that is written is the one spelling's.
use Rattle.std.proofs.Common.{◌≡◌, Bool, true, false, ◌*◌, ℕ, ◌+◌, ◌/◌, ◌%◌, ◌<◌, List, [], ◌∷◌, ◌++◌, length, get_or, refl, sym, ap, ◌∙◌, arith, length-append}
use Rattle.std.proofs.lemmas.List.{take_all}
use Rattle.byteorder.specs.Endian.{big_bytes}
use Rattle.bng_base.specs.PppoeGrammar.{PppoeFrame, ether_type, pppoe_header, pppoe_text, IsLaidOut}

-- what holds of six octets that are shown holds of each list of six
pub six : (P : List ℕ → Type 0) → ((a b c d e f : ℕ) → P (a ∷ b ∷ c ∷ d ∷ e ∷ f ∷ [])) → (xs : List ℕ) → length xs ≡ 6 → P xs
six P shown (a ∷ b ∷ c ∷ d ∷ e ∷ f ∷ []) len = shown a b c d e f
six P shown [] len = absurd (omega arith)
six P shown (a ∷ []) len = absurd (omega arith)
six P shown (a ∷ b ∷ []) len = absurd (omega arith)
six P shown (a ∷ b ∷ c ∷ []) len = absurd (omega arith)
six P shown (a ∷ b ∷ c ∷ d ∷ []) len = absurd (omega arith)
six P shown (a ∷ b ∷ c ∷ d ∷ e ∷ []) len = absurd (omega arith)
six P shown (a ∷ b ∷ c ∷ d ∷ e ∷ f ∷ g ∷ xs) len = absurd (omega arith)

-- two addresses in a row, octet by octet
pub two_macs : (d s rest : List ℕ) → length d ≡ 6 → length s ≡ 6
    → get_or d 0 0 ∷ get_or d 1 0 ∷ get_or d 2 0 ∷ get_or d 3 0 ∷ get_or d 4 0 ∷ get_or d 5 0 ∷ get_or s 0 0 ∷ get_or s 1 0 ∷ get_or s 2 0 ∷ get_or s 3 0 ∷ get_or s 4 0 ∷ get_or s 5 0 ∷ rest ≡ (d ++ s) ++ rest
two_macs d s rest ld ls =
    six (λ (x : List ℕ). get_or x 0 0 ∷ get_or x 1 0 ∷ get_or x 2 0 ∷ get_or x 3 0 ∷ get_or x 4 0 ∷ get_or x 5 0 ∷ get_or s 0 0 ∷ get_or s 1 0 ∷ get_or s 2 0 ∷ get_or s 3 0 ∷ get_or s 4 0 ∷ get_or s 5 0 ∷ rest ≡ (x ++ s) ++ rest)
    (λ a b c e f g. six (λ (y : List ℕ). a ∷ b ∷ c ∷ e ∷ f ∷ g ∷ get_or y 0 0 ∷ get_or y 1 0 ∷ get_or y 2 0 ∷ get_or y 3 0 ∷ get_or y 4 0 ∷ get_or y 5 0 ∷ rest ≡ ((a ∷ b ∷ c ∷ e ∷ f ∷ g ∷ []) ++ y) ++ rest) (λ h i j k l m. refl) s ls) d ld

-- and the header after them
pub whole_header : (d s : List ℕ) (e code id n : ℕ) → length d ≡ 6 → length s ≡ 6
    → (d ++ s) ++ ((e / 256 % 256) ∷ (e % 256) ∷ 17 ∷ code ∷ (id / 256 % 256) ∷ (id % 256) ∷ (n / 256 % 256) ∷ (n % 256) ∷ [])
    ≡ d ++ s ++ big_bytes 2 e ++ (17 ∷ code ∷ []) ++ big_bytes 2 id ++ big_bytes 2 n
whole_header d s e code id n ld ls =
    six (λ (x : List ℕ). (x ++ s) ++ ((e / 256 % 256) ∷ (e % 256) ∷ 17 ∷ code ∷ (id / 256 % 256) ∷ (id % 256) ∷ (n / 256 % 256) ∷ (n % 256) ∷ []) ≡ x ++ s ++ big_bytes 2 e ++ (17 ∷ code ∷ []) ++ big_bytes 2 id ++ big_bytes 2 n)
    (λ a b c f g h. six (λ (y : List ℕ). ((a ∷ b ∷ c ∷ f ∷ g ∷ h ∷ []) ++ y) ++ ((e / 256 % 256) ∷ (e % 256) ∷ 17 ∷ code ∷ (id / 256 % 256) ∷ (id % 256) ∷ (n / 256 % 256) ∷ (n % 256) ∷ []) ≡ (a ∷ b ∷ c ∷ f ∷ g ∷ h ∷ []) ++ y ++ big_bytes 2 e ++ (17 ∷ code ∷ []) ++ big_bytes 2 id ++ big_bytes 2 n) (λ i j k l m o. refl) s ls) d ld

abbrev made : List ℕ → List ℕ → Bool → ℕ → ℕ → List ℕ → PppoeFrame
made d s v c i l = record { dst = record { 0 = d }; src = record { 0 = s }; discovery = v; code = c; session = i; payload = l }

length-shown : (v : Bool) (c i : ℕ) (l d s : List ℕ) → length d ≡ 6 → length s ≡ 6 → length (pppoe_header (made d s v c i l)) ≡ 20
length-shown v c i l d s ld ls =
    six (λ (x : List ℕ). length (pppoe_header (made x s v c i l)) ≡ 20)
    (λ a b e f g h. six (λ (y : List ℕ). length (pppoe_header (made (a ∷ b ∷ e ∷ f ∷ g ∷ h ∷ []) y v c i l)) ≡ 20) (λ j k m n o p. refl) s ls) d ld

pub length-pppoe_text : (p : PppoeFrame) → length p.dst.0 ≡ 6 → length p.src.0 ≡ 6 → length (pppoe_text p) ≡ 20 + length p.payload
length-pppoe_text p ld ls =
    length-append (pppoe_header p) p.payload ∙ ap (λ (n : ℕ). n + length p.payload) (length-shown p.discovery p.code p.session p.payload p.dst.0 p.src.0 ld ls)

stage_word : (v : Bool) → (ether_type v / 256 % 256) * 256 + ether_type v % 256 ≡ ether_type v
stage_word true = refl
stage_word false = refl

laid-shown : (v : Bool) (c i : ℕ) (l : List ℕ) → i < 65536 → length l < 65536 → (a b e f g h j k m n o q : ℕ)
    → let p = made (a ∷ b ∷ e ∷ f ∷ g ∷ h ∷ []) (j ∷ k ∷ m ∷ n ∷ o ∷ q ∷ []) v c i l in IsLaidOut p (pppoe_text p)
laid-shown v c i l small short a b e f g h j k m n o q =
    let size : (length l / 256 % 256) * 256 + length l % 256 ≡ length l = omega arith in
    record {
      dst = refl;
      src = refl;
      ether_type = omega (arith, stage_word v);
      version_and_type = refl;
      code = refl;
      session = omega arith;
      is_there = omega (arith, size);
      payload = sym (take_all _ l (omega (arith, size)));
    }

-- the spelling is laid out as the frame
pub laid_text : (p : PppoeFrame) → length p.dst.0 ≡ 6 → length p.src.0 ≡ 6 → p.session < 65536 → length p.payload < 65536 → IsLaidOut p (pppoe_text p)
laid_text p ld ls small short =
    let shown = laid-shown p.discovery p.code p.session p.payload small short in
    let frame : List ℕ → List ℕ → PppoeFrame = λ d s. made d s p.discovery p.code p.session p.payload in
    six (λ (x : List ℕ). IsLaidOut (frame x p.src.0) (pppoe_text (frame x p.src.0)))
    (λ a b e f g h. six (λ (y : List ℕ). IsLaidOut (frame (a ∷ b ∷ e ∷ f ∷ g ∷ h ∷ []) y) (pppoe_text (frame (a ∷ b ∷ e ∷ f ∷ g ∷ h ∷ []) y))) (λ j k m n o q. shown a b e f g h j k m n o q) p.src.0 ls) p.dst.0 ld
