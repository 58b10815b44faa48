-- Addresses, peers and claims are read in one way.
use Rattle.std.proofs.Common.{◌≡◌, ℕ, ◌/◌, ◌%◌, ◌^◌, ◌<◌, List, [], ◌∷◌, ◌++◌, refl, sym, ap, ◌∙◌, append_assoc, arith, get_or}
use Rattle.std.specs.Prelude.{IsTrue}
use Rattle.std.specs.Fmt.{decimal}
use Rattle.std.proofs.lemmas.Fmt.{decimal_injective}
use Rattle.std.proofs.lemmas.List.{append_cancel_left}
use Rattle.bng_base.specs.declared.address.Ip4.{Ip4}
use Rattle.bng_base.specs.declared.address.Peer.{Peer}
use Rattle.bng_base.specs.declared.item.Claim.{Claim}
use Rattle.bng_base.specs.declared.item.Claim.TheVariants.{NoClaim, Claimed, Held, Exhausted}
use Rattle.bng_spell.specs.Fields.{address_text, peer_text, claim_text}
use Rattle.bng_spell.specs.Kept.{IsAddress, IsPeer, IsClaim}
use Rattle.bng_spell.specs.Plain.{is_separator}
use Rattle.bng_spell.specs.Codes.{until_once}
use Rattle.bng_spell.specs.FieldNames.{decimal_plain}

-- a number up to its separator
number_once : (stop m n : ℕ) (x y : List ℕ) → IsTrue (is_separator stop) → m < 2 ^ 64 → n < 2 ^ 64 → (decimal m ++ stop ∷ []) ++ x ≡ (decimal n ++ stop ∷ []) ++ y → (m ≡ n) × (x ≡ y)
number_once stop m n x y s f g e =
    let r = until_once stop (decimal m) (decimal n) x y s (decimal_plain m f) (decimal_plain n g) e in (decimal_injective m n f g r.0, r.1)

-- an address and its separator, number by number
unfoldable pub address_parts : ℕ → Ip4 → List ℕ
address_parts stop a =
    (decimal (a.0 / 2 ^ 24) ++ 46 ∷ [])
    ++ ((decimal (a.0 / 2 ^ 16 % 256) ++ 46 ∷ []) ++ ((decimal (a.0 / 2 ^ 8 % 256) ++ 46 ∷ []) ++ (decimal (a.0 % 256) ++ stop ∷ [])))

regroup : (d e f g s : List ℕ) → ((((((d ++ 46 ∷ []) ++ e) ++ 46 ∷ []) ++ f) ++ 46 ∷ []) ++ g) ++ s ≡ (d ++ 46 ∷ []) ++ ((e ++ 46 ∷ []) ++ ((f ++ 46 ∷ []) ++ (g ++ s)))
regroup d e f g s = simp append_assoc

pub address_is : (stop : ℕ) (a : Ip4) → address_text a ++ stop ∷ [] ≡ address_parts stop a
unfolding address_parts
address_is stop a = regroup (decimal (a.0 / 2 ^ 24)) (decimal (a.0 / 2 ^ 16 % 256)) (decimal (a.0 / 2 ^ 8 % 256)) (decimal (a.0 % 256)) (stop ∷ [])

regroup_rest : (d e f g x : List ℕ) → (d ++ (e ++ (f ++ g))) ++ x ≡ d ++ (e ++ (f ++ (g ++ x)))
regroup_rest d e f g x = simp append_assoc

same_number : (a b : ℕ) → a < 2 ^ 32 → b < 2 ^ 32 → a / 2 ^ 24 ≡ b / 2 ^ 24 → a / 2 ^ 16 % 256 ≡ b / 2 ^ 16 % 256 → a / 2 ^ 8 % 256 ≡ b / 2 ^ 8 % 256 → a % 256 ≡ b % 256 → a ≡ b
same_number a b f g p q r s = omega arith

pub address_once : (stop : ℕ) (a b : Ip4) (x y : List ℕ) → IsTrue (is_separator stop) → IsAddress a → IsAddress b → (address_text a ++ stop ∷ []) ++ x ≡ (address_text b ++ stop ∷ []) ++ y → (a ≡ b) × (x ≡ y)
unfolding address_parts
address_once stop a b x y s f g e =
    let parts = λ (c : Ip4) (z : List ℕ).
    ap (λ (t : List ℕ). t ++ z) (address_is stop c)
    ∙ regroup_rest (decimal (c.0 / 2 ^ 24) ++ 46 ∷ []) (decimal (c.0 / 2 ^ 16 % 256) ++ 46 ∷ []) (decimal (c.0 / 2 ^ 8 % 256) ++ 46 ∷ []) (decimal (c.0 % 256) ++ stop ∷ []) z in
    let one = number_once 46 (a.0 / 2 ^ 24) (b.0 / 2 ^ 24) _ _ refl (omega (arith, f)) (omega (arith, g)) (sym (parts a x) ∙ e ∙ parts b y) in
    let two = number_once 46 (a.0 / 2 ^ 16 % 256) (b.0 / 2 ^ 16 % 256) _ _ refl (omega arith) (omega arith) one.1 in
    let three = number_once 46 (a.0 / 2 ^ 8 % 256) (b.0 / 2 ^ 8 % 256) _ _ refl (omega arith) (omega arith) two.1 in
    let four = number_once stop (a.0 % 256) (b.0 % 256) x y s (omega arith) (omega arith) three.1 in
    let same = same_number a.0 b.0 f g one.0 two.0 three.0 four.0 in
    (λ i. record { 0 = same i }, four.1)

pub peer_is : (p : Peer) → peer_text p ++ 32 ∷ [] ≡ (address_text p.ip ++ 58 ∷ []) ++ (decimal p.port ++ 32 ∷ [])
peer_is p = append_assoc (address_text p.ip ++ 58 ∷ []) (decimal p.port) (32 ∷ [])

pub peer_once : (p q : Peer) (x y : List ℕ) → IsPeer p → IsPeer q → (peer_text p ++ 32 ∷ []) ++ x ≡ (peer_text q ++ 32 ∷ []) ++ y → (p ≡ q) × (x ≡ y)
peer_once p q x y f g e =
    let parts = λ (r : Peer) (z : List ℕ).
    ap (λ (t : List ℕ). t ++ z) (peer_is r) ∙ append_assoc (address_text r.ip ++ 58 ∷ []) (decimal r.port ++ 32 ∷ []) z in
    let one = address_once 58 p.ip q.ip _ _ refl f.ip g.ip (sym (parts p x) ∙ e ∙ parts q y) in
    let fp = f.port in
    let gp = g.port in
    let two = number_once 32 p.port q.port x y refl (omega arith) (omega arith) one.1 in
    (λ i. record { ip = one.0 i; port = two.0 i }, two.1)

pub first_same : (s t : List ℕ) → s ≡ t → get_or s 0 0 ≡ get_or t 0 0
first_same s t e = ap (λ (x : List ℕ). get_or x 0 0) e

pub claim_once : (c d : Claim) (x y : List ℕ) → IsClaim c → IsClaim d → (claim_text c ++ 10 ∷ []) ++ x ≡ (claim_text d ++ 10 ∷ []) ++ y → (c ≡ d) × (x ≡ y)
claim_once NoClaim NoClaim x y f g e = (refl, append_cancel_left (45 ∷ 10 ∷ []) x y e)
claim_once NoClaim (Claimed b) x y f g e = absurd (omega (arith, first_same _ _ e))
claim_once NoClaim (Held b) x y f g e = absurd (omega (arith, first_same _ _ e))
claim_once NoClaim (Exhausted m) x y f g e = absurd (omega (arith, first_same _ _ e))
claim_once (Claimed a) NoClaim x y f g e = absurd (omega (arith, first_same _ _ e))
claim_once (Claimed a) (Claimed b) x y f g e =
    let r = address_once 10 a b x y refl f g (append_cancel_left (99 ∷ 108 ∷ 97 ∷ 105 ∷ 109 ∷ 101 ∷ 100 ∷ 58 ∷ []) ((address_text a ++ 10 ∷ []) ++ x) ((address_text b ++ 10 ∷ []) ++ y) e) in
    (ap Claimed r.0, r.1)
claim_once (Claimed a) (Held b) x y f g e = absurd (omega (arith, first_same _ _ e))
claim_once (Claimed a) (Exhausted m) x y f g e = absurd (omega (arith, first_same _ _ e))
claim_once (Held a) NoClaim x y f g e = absurd (omega (arith, first_same _ _ e))
claim_once (Held a) (Claimed b) x y f g e = absurd (omega (arith, first_same _ _ e))
claim_once (Held a) (Held b) x y f g e =
    let r = address_once 10 a b x y refl f g (append_cancel_left (104 ∷ 101 ∷ 108 ∷ 100 ∷ 58 ∷ []) ((address_text a ++ 10 ∷ []) ++ x) ((address_text b ++ 10 ∷ []) ++ y) e) in
    (ap Held r.0, r.1)
claim_once (Held a) (Exhausted m) x y f g e = absurd (omega (arith, first_same _ _ e))
claim_once (Exhausted n) NoClaim x y f g e = absurd (omega (arith, first_same _ _ e))
claim_once (Exhausted n) (Claimed b) x y f g e = absurd (omega (arith, first_same _ _ e))
claim_once (Exhausted n) (Held b) x y f g e = absurd (omega (arith, first_same _ _ e))
claim_once (Exhausted n) (Exhausted m) x y f g e =
    let r = number_once 10 n m x y refl (omega (arith, f)) (omega (arith, g)) (append_cancel_left (101 ∷ 120 ∷ 104 ∷ 97 ∷ 117 ∷ 115 ∷ 116 ∷ 101 ∷ 100 ∷ 58 ∷ []) ((decimal n ++ 10 ∷ []) ++ x) ((decimal m ++ 10 ∷ []) ++ y) e) in
    (ap Exhausted r.0, r.1)
