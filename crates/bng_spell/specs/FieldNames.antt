-- The names of fields tell what they name, and no separator stands in them.
use Rattle.std.proofs.Common.{◌≡◌, ℕ, zero, suc, ◌+◌, ◌/◌, ◌%◌, ◌^◌, ◌<◌, ◌==◌, List, [], ◌∷◌, ◌++◌, Bool, true, false, cond, length, get_or, slice_index, refl, sym, ap, ◌∙◌, arith}
use Rattle.std.specs.Prelude.{Result, Ok, Err}
use Rattle.std.specs.Fmt.{decimal}
use Rattle.std.proofs.lemmas.Bool.{agree_below_at, and_from}
use Rattle.std.proofs.lemmas.Fmt.{decimal_by_steps, decimal_injective}
use Rattle.std.proofs.lemmas.List.{append_cancel_left}
use Rattle.hex.specs.Hex.{encode_lower, encode_with, lower_digits, decode_of, IsBytes}
use Rattle.hex.specs.declared.error.FromHexError.{FromHexError}
use Rattle.hex.proofs.HexLemmas.{decode_of-encode_lower, length-encode_with}
use Rattle.bng_base.specs.Packet.{Packet}
use Rattle.bng_base.specs.declared.outside.Role.{Role}
use Rattle.bng_base.specs.declared.outside.Role.TheVariants.{Access, Core, Tunnel, Auth, Acct, Coa, Control}
use Rattle.bng_base.specs.declared.item.ItemKind.{ItemKind}
use Rattle.bng_base.specs.declared.item.ItemKind.TheVariants.{Access as OfAccess, Core as OfCore, Tunnel as OfTunnel, Verdict, Change, Tick, End}
use Rattle.bng_base.specs.declared.fate.Fate.{Fate}
use Rattle.bng_base.specs.declared.fate.Fate.TheVariants.{Forwarded, Consumed, Dropped}
use Rattle.bng_base.specs.declared.fate.DropCause.{DropCause}
use Rattle.bng_base.specs.declared.fate.DropCause.TheVariants.{Malformed, NoSession, NotOpen, Expired, Spoofed, TooBig, Exceeded, LinkFailed, WantOfMemory}
use Rattle.bng_spell.specs.Fields.{flag_text, kind_text, role_text, cause_text, fate_text, octets_text}
use Rattle.bng_spell.specs.Kept.{IsKind, IsRole, AreOctets, IsSet}
use Rattle.bng_spell.specs.Plain.{is_plain, ArePlain}
use Rattle.bng_spell.specs.Codes.{plain_append}

-- a decimal digit
plain_digit : (n : ℕ) → n < 10 → is_plain (48 + n) ≡ true
plain_digit n h = agree_below_at (λ (k : ℕ). is_plain (48 + k)) (λ (k : ℕ). true) 10 n refl h

one_plain : (n : ℕ) → n < 10 → ArePlain ((48 + n) ∷ [])
one_plain n h = and_from (is_plain (48 + n)) true (plain_digit n h) refl

pub decimal_plain : (n : ℕ) → n < 2 ^ 64 → ArePlain (decimal n)
decimal_plain n h =
    decimal_by_steps (λ (k : ℕ) (ds : List ℕ). ArePlain ds) one_plain
    (λ k ds few p. plain_append ds ((48 + k % 10) ∷ []) p (one_plain (k % 10) (omega arith))) n h

-- a hexadecimal digit
plain_hex : (d : ℕ) → d < 16 → is_plain (slice_index lower_digits d) ≡ true
plain_hex d h = agree_below_at (λ (k : ℕ). is_plain (slice_index lower_digits k)) (λ (k : ℕ). true) 16 d refl h

pub encoded_plain : (bytes : List ℕ) → AreOctets bytes → ArePlain (encode_lower bytes)
unfolding encode_with
encoded_plain [] p = refl
encoded_plain (b ∷ bytes) p =
    let fits = p.0 in
    and_from (is_plain (slice_index lower_digits (b / 16))) _ (plain_hex (b / 16) (omega arith))
    (and_from (is_plain (slice_index lower_digits (b % 16))) _ (plain_hex (b % 16) (omega arith)) (encoded_plain bytes p.1))

pub octets_plain : (bytes : List ℕ) → AreOctets bytes → ArePlain (octets_text bytes)
octets_plain [] p = refl
octets_plain (b ∷ bytes) p = encoded_plain (b ∷ bytes) p

pub are_bytes : (bytes : List ℕ) → AreOctets bytes → IsBytes bytes
are_bytes [] p i = omega arith
are_bytes (b ∷ bytes) p zero = p.0
are_bytes (b ∷ bytes) p (suc i) = are_bytes bytes p.1 i

ok_value : Result (List ℕ) FromHexError → List ℕ
ok_value (Ok xs) = xs
ok_value (Err e) = []

pub encoded_same : (xs ys : List ℕ) → AreOctets xs → AreOctets ys → encode_lower xs ≡ encode_lower ys → xs ≡ ys
unfolding ok_value
encoded_same xs ys p q e =
    ap ok_value (sym (decode_of-encode_lower xs (are_bytes xs p)) ∙ ap decode_of e ∙ decode_of-encode_lower ys (are_bytes ys q))

pub octets_same : (xs ys : List ℕ) → AreOctets xs → AreOctets ys → octets_text xs ≡ octets_text ys → xs ≡ ys
octets_same [] [] p q e = refl
octets_same [] (y ∷ ys) p q e = absurd (omega (arith, ap length e, length-encode_with lower_digits (y ∷ ys)))
octets_same (x ∷ xs) [] p q e = absurd (omega (arith, ap length e, length-encode_with lower_digits (x ∷ xs)))
octets_same (x ∷ xs) (y ∷ ys) p q e = encoded_same (x ∷ xs) (y ∷ ys) p q e

pub frame_same : (f g : Packet) → IsSet f → IsSet g → octets_text f.payload ≡ octets_text g.payload → f ≡ g
frame_same f g p q e =
    let same = octets_same f.payload g.payload p.octets q.octets e in
    let room : f.headroom ≡ g.headroom = p.headroom ∙ sym q.headroom in
    λ i. record { payload = same i; headroom = room i }

pub flag_plain : (b : Bool) → ArePlain (flag_text b)
flag_plain true = refl
flag_plain false = refl

flag_back : (b : Bool) → (get_or (flag_text b) 0 0 == 49) ≡ b
flag_back true = refl
flag_back false = refl

pub flag_same : (b c : Bool) → flag_text b ≡ flag_text c → b ≡ c
flag_same b c e = sym (flag_back b) ∙ ap (λ (t : List ℕ). get_or t 0 0 == 49) e ∙ flag_back c

pub kind_plain : (k : ItemKind) → IsKind k → ArePlain (kind_text k)
kind_plain (OfAccess n) f = decimal_plain n (omega (arith, f))
kind_plain OfCore f = refl
kind_plain OfTunnel f = refl
kind_plain Verdict f = refl
kind_plain Change f = refl
kind_plain Tick f = refl
kind_plain End f = refl

-- the kind whose name has this second octet
kind_of : ℕ → ℕ → ItemKind
kind_of c n =
    cond (c == 99) (OfAccess n) (cond (c == 111) OfCore (cond (c == 117) OfTunnel (cond (c == 101) Verdict (cond (c == 104) Change (cond (c == 105) Tick End)))))

kind_number : ItemKind → ℕ
kind_number (OfAccess n) = n
kind_number OfCore = 0
kind_number OfTunnel = 0
kind_number Verdict = 0
kind_number Change = 0
kind_number Tick = 0
kind_number End = 0

kind_back : (k : ItemKind) → kind_of (get_or (kind_text k) 1 0) (kind_number k) ≡ k
unfolding kind_of kind_number
kind_back (OfAccess n) = refl
kind_back OfCore = refl
kind_back OfTunnel = refl
kind_back Verdict = refl
kind_back Change = refl
kind_back Tick = refl
kind_back End = refl

second_same : (s t : List ℕ) → s ≡ t → get_or s 1 0 ≡ get_or t 1 0
second_same s t e = ap (λ (x : List ℕ). get_or x 1 0) e

number_behind : (m n : ℕ) (front : List ℕ) → m < 256 → n < 256 → front ++ decimal m ≡ front ++ decimal n → m ≡ n
number_behind m n front f g e = decimal_injective m n (omega (arith, f)) (omega (arith, g)) (append_cancel_left front (decimal m) (decimal n) e)

kind_number_same : (k l : ItemKind) → IsKind k → IsKind l → kind_text k ≡ kind_text l → kind_number k ≡ kind_number l
unfolding kind_number
kind_number_same (OfAccess m) (OfAccess n) f g e = number_behind m n (97 ∷ 99 ∷ 99 ∷ 101 ∷ 115 ∷ 115 ∷ []) f g e
kind_number_same (OfAccess m) OfCore f g e = absurd (omega (arith, second_same _ _ e))
kind_number_same (OfAccess m) OfTunnel f g e = absurd (omega (arith, second_same _ _ e))
kind_number_same (OfAccess m) Verdict f g e = absurd (omega (arith, second_same _ _ e))
kind_number_same (OfAccess m) Change f g e = absurd (omega (arith, second_same _ _ e))
kind_number_same (OfAccess m) Tick f g e = absurd (omega (arith, second_same _ _ e))
kind_number_same (OfAccess m) End f g e = absurd (omega (arith, second_same _ _ e))
kind_number_same OfCore (OfAccess n) f g e = absurd (omega (arith, second_same _ _ e))
kind_number_same OfTunnel (OfAccess n) f g e = absurd (omega (arith, second_same _ _ e))
kind_number_same Verdict (OfAccess n) f g e = absurd (omega (arith, second_same _ _ e))
kind_number_same Change (OfAccess n) f g e = absurd (omega (arith, second_same _ _ e))
kind_number_same Tick (OfAccess n) f g e = absurd (omega (arith, second_same _ _ e))
kind_number_same End (OfAccess n) f g e = absurd (omega (arith, second_same _ _ e))
kind_number_same OfCore _ f g e = refl
kind_number_same OfTunnel _ f g e = refl
kind_number_same Verdict _ f g e = refl
kind_number_same Change _ f g e = refl
kind_number_same Tick _ f g e = refl
kind_number_same End _ f g e = refl

pub kind_same : (k l : ItemKind) → IsKind k → IsKind l → kind_text k ≡ kind_text l → k ≡ l
kind_same k l f g e =
    sym (kind_back k) ∙ ap (λ (c : ℕ). kind_of c (kind_number k)) (second_same (kind_text k) (kind_text l) e)
    ∙ ap (λ (n : ℕ). kind_of (get_or (kind_text l) 1 0) n) (kind_number_same k l f g e) ∙ kind_back l

pub role_plain : (r : Role) → IsRole r → ArePlain (role_text r)
role_plain (Access n) f = decimal_plain n (omega (arith, f))
role_plain Core f = refl
role_plain Tunnel f = refl
role_plain Auth f = refl
role_plain Acct f = refl
role_plain Coa f = refl
role_plain Control f = refl

-- the role whose name has this second octet and this fourth one
role_of : ℕ → ℕ → ℕ → Role
role_of c d n =
    cond (c == 99) (cond (d == 101) (Access n) Acct) (cond (c == 111) (cond (d == 101) Core (cond (d == 0) Coa Control)) (cond (d == 110) Tunnel Auth))

role_number : Role → ℕ
role_number (Access n) = n
role_number Core = 0
role_number Tunnel = 0
role_number Auth = 0
role_number Acct = 0
role_number Coa = 0
role_number Control = 0

role_back : (r : Role) → role_of (get_or (role_text r) 1 0) (get_or (role_text r) 3 0) (role_number r) ≡ r
unfolding role_of role_number
role_back (Access n) = refl
role_back Core = refl
role_back Tunnel = refl
role_back Auth = refl
role_back Acct = refl
role_back Coa = refl
role_back Control = refl

fourth_same : (s t : List ℕ) → s ≡ t → get_or s 3 0 ≡ get_or t 3 0
fourth_same s t e = ap (λ (x : List ℕ). get_or x 3 0) e

role_number_same : (r s : Role) → IsRole r → IsRole s → role_text r ≡ role_text s → role_number r ≡ role_number s
unfolding role_number
role_number_same (Access m) (Access n) f g e = number_behind m n (97 ∷ 99 ∷ 99 ∷ 101 ∷ 115 ∷ 115 ∷ []) f g e
role_number_same (Access m) Core f g e = absurd (omega (arith, second_same _ _ e))
role_number_same (Access m) Tunnel f g e = absurd (omega (arith, second_same _ _ e))
role_number_same (Access m) Auth f g e = absurd (omega (arith, second_same _ _ e))
role_number_same (Access m) Acct f g e = absurd (omega (arith, fourth_same _ _ e))
role_number_same (Access m) Coa f g e = absurd (omega (arith, second_same _ _ e))
role_number_same (Access m) Control f g e = absurd (omega (arith, second_same _ _ e))
role_number_same Core (Access n) f g e = absurd (omega (arith, second_same _ _ e))
role_number_same Tunnel (Access n) f g e = absurd (omega (arith, second_same _ _ e))
role_number_same Auth (Access n) f g e = absurd (omega (arith, second_same _ _ e))
role_number_same Acct (Access n) f g e = absurd (omega (arith, fourth_same _ _ e))
role_number_same Coa (Access n) f g e = absurd (omega (arith, second_same _ _ e))
role_number_same Control (Access n) f g e = absurd (omega (arith, second_same _ _ e))
role_number_same Core _ f g e = refl
role_number_same Tunnel _ f g e = refl
role_number_same Auth _ f g e = refl
role_number_same Acct _ f g e = refl
role_number_same Coa _ f g e = refl
role_number_same Control _ f g e = refl

pub role_same : (r s : Role) → IsRole r → IsRole s → role_text r ≡ role_text s → r ≡ s
role_same r s f g e =
    sym (role_back r) ∙ ap (λ (c : ℕ). role_of c (get_or (role_text r) 3 0) (role_number r)) (second_same (role_text r) (role_text s) e)
    ∙ ap (λ (d : ℕ). role_of (get_or (role_text s) 1 0) d (role_number r)) (fourth_same (role_text r) (role_text s) e)
    ∙ ap (λ (n : ℕ). role_of (get_or (role_text s) 1 0) (get_or (role_text s) 3 0) n) (role_number_same r s f g e) ∙ role_back s

cause_plain : (c : DropCause) → ArePlain (cause_text c)
cause_plain Malformed = refl
cause_plain NoSession = refl
cause_plain NotOpen = refl
cause_plain Expired = refl
cause_plain Spoofed = refl
cause_plain TooBig = refl
cause_plain Exceeded = refl
cause_plain LinkFailed = refl
cause_plain WantOfMemory = refl

pub fate_plain : (f : Fate) → ArePlain (fate_text f)
fate_plain Forwarded = refl
fate_plain Consumed = refl
fate_plain (Dropped cause) = cause_plain cause

-- the fate whose name has this first octet and this third one
fate_of : ℕ → ℕ → Fate
fate_of c d =
    cond (c == 102) Forwarded
    (cond (c == 99) Consumed
    (cond (c == 109) (Dropped Malformed)
    (cond (c == 110) (cond (d == 115) (Dropped NoSession) (Dropped NotOpen))
    (cond (c == 101) (cond (d == 112) (Dropped Expired) (Dropped Exceeded))
    (cond (c == 115) (Dropped Spoofed) (cond (c == 116) (Dropped TooBig) (cond (c == 108) (Dropped LinkFailed) (Dropped WantOfMemory))))))))

fate_back : (f : Fate) → fate_of (get_or (fate_text f) 0 0) (get_or (fate_text f) 2 0) ≡ f
unfolding fate_of
fate_back Forwarded = refl
fate_back Consumed = refl
fate_back (Dropped Malformed) = refl
fate_back (Dropped NoSession) = refl
fate_back (Dropped NotOpen) = refl
fate_back (Dropped Expired) = refl
fate_back (Dropped Spoofed) = refl
fate_back (Dropped TooBig) = refl
fate_back (Dropped Exceeded) = refl
fate_back (Dropped LinkFailed) = refl
fate_back (Dropped WantOfMemory) = refl

pub fate_same : (f g : Fate) → fate_text f ≡ fate_text g → f ≡ g
fate_same f g e = sym (fate_back f) ∙ ap (λ (t : List ℕ). fate_of (get_or t 0 0) (get_or t 2 0)) e ∙ fate_back g
