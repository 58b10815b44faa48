-- What stands at a key is one value of its form.
use Rattle.std.proofs.Common.{◌≡◌, ℕ, suc, ◌<◌, ◌/◌, ◌%◌, ◌^◌, false, List, [], ◌∷◌, ◌++◌, length, map, refl, sym, ap, subst, ◌∙◌, arith, inl, inr}
use Rattle.std.specs.Fmt.{decimal, digit_glyph}
use Rattle.std.proofs.lemmas.Bool.Decides.{nat_tests}
use Rattle.std.proofs.lemmas.Fmt.{decimal_injective}
use Rattle.std.proofs.lemmas.Option.{same_Some}
use Rattle.std.specs.List.{All}
use Rattle.arrayvec.specs.ArrayVec.{ArrayVec}
use Rattle.toml.specs.Data.{Data, string}
use Rattle.toml.specs.View.{items_of}
use Rattle.bng_base.specs.declared.address.Ip4.{Ip4}
use Rattle.bng_base.specs.declared.address.Mac.{Mac}
use Rattle.bng_base.specs.declared.address.Peer.{Peer}
use Rattle.bng_base.specs.declared.address.SessionNo.{SessionNo}
use Rattle.bng_schema.specs.declared.keys.Key.{Key}
use Rattle.bng_schema.specs.Address.{address_text, peer_text, mac_text, octet_text, dot, colon}
use Rattle.bng_schema.specs.Forms.{StandsAt, StandsOr, EachPlace, IsPeer, IsAddress, AreAddresses, IsMac, IsSession}
use Rattle.bng_schema.proofs.Decimals.{decimal_without}
use Rattle.bng_schema.proofs.AddressTexts.{cut_once, address_parts, address_without, peer_parts, second_text, third_text, fourth_text}
use Rattle.bng_schema.proofs.Octets.{six_of, mac_parts, second_text as second_octets, third_text as third_octets, fourth_text as fourth_octets, fifth_text as fifth_octets, sixth_text as sixth_octets}
use Rattle.bng_schema.proofs.Spellings.{same_items, string_once, items_once}

number_once : (m n : ℕ) (x y : List ℕ) → m < 256 → n < 256 → decimal m ++ dot ∷ x ≡ decimal n ++ dot ∷ y → (m ≡ n) × (x ≡ y)
number_once m n x y fit_m fit_n e =
    let cut = cut_once dot (decimal m) (decimal n) x y (decimal_without m dot (omega arith) (omega arith)) (decimal_without n dot (omega arith) (omega arith)) e in
    (decimal_injective m n (omega arith) (omega arith) cut.0, cut.1)

pub address_once : (a b : Ip4) → a.0 < 2 ^ 32 → b.0 < 2 ^ 32 → address_text a ≡ address_text b → a ≡ b
address_once a b fit_a fit_b e =
    let first = number_once (a.0 / 2 ^ 24) (b.0 / 2 ^ 24) (second_text a) (second_text b) (omega arith) (omega arith) (sym (address_parts a) ∙ e ∙ address_parts b) in
    let second = number_once (a.0 / 2 ^ 16 % 256) (b.0 / 2 ^ 16 % 256) (third_text a) (third_text b) (omega arith) (omega arith) first.1 in
    let third = number_once (a.0 / 2 ^ 8 % 256) (b.0 / 2 ^ 8 % 256) (fourth_text a) (fourth_text b) (omega arith) (omega arith) second.1 in
    let fourth = decimal_injective (a.0 % 256) (b.0 % 256) (omega arith) (omega arith) third.1 in
    let same : a.0 ≡ b.0 = omega (arith, first.0, second.0, third.0, fourth) in
    let make : ℕ → Ip4 = λ n. record { 0 = n } in
    ap make same

pub address_at_once : (d : Data) (a b : Ip4) → IsAddress d a → IsAddress d b → a ≡ b
address_at_once d a b p q =
    let strings = sym p.text ∙ q.text in
    let texts : address_text a ≡ address_text b = cc in
    address_once a b p.address q.address texts

pub peer_once : (d : Data) (p q : Peer) → IsPeer d p → IsPeer d q → p ≡ q
peer_once d p q a b =
    let strings = sym a.text ∙ b.text in
    let texts : peer_text p ≡ peer_text q = cc in
    let cut = cut_once colon (address_text p.ip) (address_text q.ip) (decimal p.port) (decimal q.port) (address_without p.ip a.address) (address_without q.ip b.address) (sym (peer_parts p) ∙ texts ∙ peer_parts q) in
    let ips : p.ip ≡ q.ip = address_once p.ip q.ip a.address b.address cut.0 in
    let high_p = a.high in
    let high_q = b.high in
    let ports : p.port ≡ q.port = decimal_injective p.port q.port (omega arith) (omega arith) cut.1 in
    λ i. record { ip = ips i; port = ports i }

glyph_once : (m n : ℕ) → m < 16 → n < 16 → digit_glyph false m ≡ digit_glyph false n → m ≡ n
glyph_once m n fit_m fit_n e = grind (arith, nat_tests)

last_once : (m n : ℕ) → m < 256 → n < 256 → octet_text m ≡ octet_text n → m ≡ n
last_once m n fit_m fit_n e =
    let high : digit_glyph false (m / 16) ≡ digit_glyph false (n / 16) = cc in
    let low : digit_glyph false (m % 16) ≡ digit_glyph false (n % 16) = cc in
    let highs = glyph_once (m / 16) (n / 16) (omega arith) (omega arith) high in
    let lows = glyph_once (m % 16) (n % 16) (omega arith) (omega arith) low in
    omega (arith, highs, lows)

octet_once : (m n : ℕ) (x y : List ℕ) → m < 256 → n < 256 → octet_text m ++ colon ∷ x ≡ octet_text n ++ colon ∷ y → (m ≡ n) × (x ≡ y)
octet_once m n x y fit_m fit_n e =
    let front : octet_text m ≡ octet_text n = cc in
    let rest : x ≡ y = cc in
    (last_once m n fit_m fit_n front, rest)

pub mac_once : (d : Data) (m n : Mac) → IsMac d m → IsMac d n → m ≡ n
mac_once d m n p q =
    let s = six_of m.0 p.six p.octets in
    let t = six_of n.0 q.six q.octets in
    let strings = sym p.text ∙ q.text in
    let texts : mac_text m ≡ mac_text n = cc in
    let first = octet_once s.a t.a (second_octets s) (second_octets t) s.fit_a t.fit_a (sym (mac_parts m s) ∙ texts ∙ mac_parts n t) in
    let second = octet_once s.b t.b (third_octets s) (third_octets t) s.fit_b t.fit_b first.1 in
    let third = octet_once s.c t.c (fourth_octets s) (fourth_octets t) s.fit_c t.fit_c second.1 in
    let fourth = octet_once s.d t.d (fifth_octets s) (fifth_octets t) s.fit_d t.fit_d third.1 in
    let fifth = octet_once s.e t.e (sixth_octets s) (sixth_octets t) s.fit_e t.fit_e fourth.1 in
    let sixth = last_once s.f t.f s.fit_f t.fit_f fifth.1 in
    let are = s.are in
    let too = t.are in
    let lists : m.0 ≡ n.0 = cc (first.0, second.0, third.0, fourth.0, fifth.0, sixth) in
    let make : List ℕ → Mac = λ xs. record { 0 = xs } in
    ap make lists

pub session_once : (shards : ℕ) (d : Data) (m n : SessionNo) → IsSession shards d m → IsSession shards d n → m ≡ n
session_once shards d m n p q =
    let numbers = sym p.number ∙ q.number in
    let same : m.0 ≡ n.0 = cc in
    let make : ℕ → SessionNo = λ n. record { 0 = n } in
    ap make same

addresses_agree : (xs ys : List Ip4) → All (λ a. a.0 < 2 ^ 32) xs → All (λ a. a.0 < 2 ^ 32) ys → map (λ a. string (address_text a)) xs ≡ map (λ a. string (address_text a)) ys → xs ≡ ys
addresses_agree [] [] p q e = refl
addresses_agree [] (y ∷ ys) p q e = cc
addresses_agree (x ∷ xs) [] p q e = cc
addresses_agree (x ∷ xs) (y ∷ ys) p q e =
    let strings : string (address_text x) ≡ string (address_text y) = cc in
    let heads : x ≡ y = address_once x y (p 0 x (omega arith)) (q 0 y (omega arith)) (string_once _ _ strings) in
    let rest : map (λ a. string (address_text a)) xs ≡ map (λ a. string (address_text a)) ys = cc in
    let tails : xs ≡ ys = addresses_agree xs ys (λ i d h. p (suc i) d (omega arith)) (λ i d h. q (suc i) d (omega arith)) rest in
    cc

pub addresses_once : (least most : ℕ) (d : Data) (a b : ArrayVec Ip4) → AreAddresses least most d a → AreAddresses least most d b → a ≡ b
addresses_once least most d a b p q =
    let lists = sym p.list ∙ q.list in
    let items : items_of (map (λ x. string (address_text x)) a.items) ≡ items_of (map (λ x. string (address_text x)) b.items) = cc in
    same_items a b (addresses_agree a.items b.items p.are q.are (items_once _ _ items))

-- what stands at a key is one value
pub same_value : {document : Data} {key : Key} {P Q : Data → Type 0} (a : StandsAt document key P) (b : StandsAt document key Q) → a.value ≡ b.value
same_value a b = same_Some _ _ (sym a.found ∙ b.found)

-- and one value of its form
pub one_at : {X : Type 0} {document : Data} {key : Key} (Form : Data → X → Type 0) → ((d : Data) (x y : X) → Form d x → Form d y → x ≡ y)
    → (x y : X) → StandsAt document key (λ d. Form d x) → StandsAt document key (λ d. Form d y) → x ≡ y
one_at Form once x y a b = once b.value x y (subst (λ d. Form d x) (same_value a b) a.is) b.is

-- what stands at a key, or its default, is one value
pub one_or : {X : Type 0} {document : Data} {key : Key} (Form : Data → X → Type 0) (Default : X → Type 0) → ((d : Data) (x y : X) → Form d x → Form d y → x ≡ y)
    → ((x y : X) → Default x → Default y → x ≡ y) → (x y : X) → StandsOr document key (λ d. Form d x) (Default x) → StandsOr document key (λ d. Form d y) (Default y) → x ≡ y
one_or Form Default once default x y (inl a) (inl b) = default x y a.1 b.1
one_or Form Default once default x y (inl a) (inr b) = let both = sym a.0 ∙ b.found in cc
one_or Form Default once default x y (inr a) (inl b) = let both = sym b.0 ∙ a.found in cc
one_or Form Default once default x y (inr a) (inr b) = one_at Form once x y a b

-- lists of one length that agree at each place are one
pub one_list : {X : Type 0} (P : ℕ → X → Type 0) → ((i : ℕ) (x y : X) → P i x → P i y → x ≡ y) → (xs ys : List X) → length xs ≡ length ys
    → EachPlace P xs → EachPlace P ys → xs ≡ ys
one_list P once [] [] long p q = refl
one_list P once [] (y ∷ ys) long p q = absurd (omega arith)
one_list P once (x ∷ xs) [] long p q = absurd (omega arith)
one_list P once (x ∷ xs) (y ∷ ys) long p q =
    let heads : x ≡ y = once 0 x y (p 0 x (omega arith)) (q 0 y (omega arith)) in
    let tails : xs ≡ ys = one_list (λ i. P (suc i)) (λ i. once (suc i)) xs ys (omega arith) (λ i d h. p (suc i) d (omega arith)) (λ i d h. q (suc i) d (omega arith)) in
    cc
