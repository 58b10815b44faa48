-- Addresses, peers, claims and lines, as they are read.
use Rattle.std.proofs.Common.{◌≡◌, ◌≢◌, ℕ, ◌/◌, ◌%◌, ◌^◌, ◌<◌, ◌≤◌, List, [], ◌∷◌, ◌++◌, drop, refl, sym, ap, ◌∙◌, append_assoc, arith}
use Rattle.std.specs.Prelude.{codes}
use Rattle.std.specs.Fmt.{decimal}
use Rattle.std.proofs.lemmas.List.{append_cancel_left}
use Rattle.std.proofs.lemmas.Fmt.{decimal_injective}
use Rattle.bng_base.specs.declared.address.Ip4.{Ip4}
use Rattle.bng_base.specs.declared.address.Peer.{Peer}
use Rattle.bng_base.specs.declared.item.Claim.{Claim}
use Rattle.bng_base.specs.declared.item.Claim.TheVariants.{NoClaim, Claimed, Held, Exhausted}
use Rattle.bng_spell.specs.Fields.{address_text, peer_text, claim_text}
use Rattle.bng_spell.specs.Kept.{IsAddress, IsClaim}
use Rattle.bng_spell.specs.Standing.{Stands, Lacks}
use Rattle.bng_spell.specs.Codes.{until_once}
use Rattle.bng_spell.specs.FieldNames.{decimal_plain}
use Rattle.bng_spell.specs.Addresses.{address_parts, address_is, peer_is, first_same}
use Rattle.bng_spell.proofs.Reading.{stands_as}

-- an address and its separator as four numbers
abbrev pub four_numbers : ℕ → ℕ → ℕ → ℕ → ℕ → List ℕ
four_numbers stop p q r s = (decimal p ++ 46 ∷ []) ++ ((decimal q ++ 46 ∷ []) ++ ((decimal r ++ 46 ∷ []) ++ (decimal s ++ stop ∷ [])))

pub address_numbers : (stop : ℕ) (a : Ip4) → address_text a ++ stop ∷ [] ≡ four_numbers stop (a.0 / 2 ^ 24) (a.0 / 2 ^ 16 % 256) (a.0 / 2 ^ 8 % 256) (a.0 % 256)
unfolding address_parts
address_numbers stop a = address_is stop a

-- an address stands where its numbers do
pub address_stands : (stop : ℕ) (a : Ip4) (p q r s : ℕ) (whole : List ℕ) (at next : ℕ) → a.0 / 2 ^ 24 ≡ p → a.0 / 2 ^ 16 % 256 ≡ q → a.0 / 2 ^ 8 % 256 ≡ r → a.0 % 256 ≡ s
    → Stands whole at (four_numbers stop p q r s) next → Stands whole at (address_text a ++ stop ∷ []) next
address_stands stop a p q r s whole at next e f g h stands =
    let same = ap (λ (k : ℕ). four_numbers stop k q r s) (sym e) ∙ ap (λ (k : ℕ). four_numbers stop (a.0 / 2 ^ 24) k r s) (sym f)
    ∙ ap (λ (k : ℕ). four_numbers stop (a.0 / 2 ^ 24) (a.0 / 2 ^ 16 % 256) k s) (sym g) ∙ ap (λ (k : ℕ). four_numbers stop (a.0 / 2 ^ 24) (a.0 / 2 ^ 16 % 256) (a.0 / 2 ^ 8 % 256) k) (sym h) in
    stands_as whole at next (four_numbers stop p q r s) (address_text a ++ stop ∷ []) (same ∙ sym (address_numbers stop a)) stands

-- where no four numbers stand, no address does
pub no_address : (stop : ℕ) (whole : List ℕ) (at : ℕ)
    → ((p q r s : ℕ) (rest : List ℕ) → p < 256 → q < 256 → r < 256 → s < 256 → drop at whole ≢ four_numbers stop p q r s ++ rest)
    → (a : Ip4) (rest : List ℕ) → IsAddress a → drop at whole ≢ (address_text a ++ stop ∷ []) ++ rest
no_address stop whole at never a rest f e =
    never (a.0 / 2 ^ 24) (a.0 / 2 ^ 16 % 256) (a.0 / 2 ^ 8 % 256) (a.0 % 256) rest (omega (arith, f)) (omega arith) (omega arith) (omega arith)
    (e ∙ ap (λ (t : List ℕ). t ++ rest) (address_numbers stop a))

pub peer_stands : (p : Peer) (whole : List ℕ) (at next : ℕ) → Stands whole at ((address_text p.ip ++ 58 ∷ []) ++ (decimal p.port ++ 32 ∷ [])) next → Stands whole at (peer_text p ++ 32 ∷ []) next
peer_stands p whole at next s = stands_as whole at next _ _ (sym (peer_is p)) s

pub peer_parted : (p : Peer) (whole rest : List ℕ) (at : ℕ) → drop at whole ≡ (peer_text p ++ 32 ∷ []) ++ rest → drop at whole ≡ ((address_text p.ip ++ 58 ∷ []) ++ (decimal p.port ++ 32 ∷ [])) ++ rest
peer_parted p whole rest at e = e ∙ ap (λ (t : List ℕ). t ++ rest) (peer_is p)

-- what stands behind a word that stands there
pub behind : (whole text rest : List ℕ) (at next : ℕ) → Stands whole at text next → drop at whole ≡ text ++ rest → drop next whole ≡ rest
behind whole text rest at next s e = append_cancel_left text (drop next whole) rest (sym s.is ∙ e)

-- no answer of a claim stands where none of their words does
pub no_claim : (whole : List ℕ) (at : ℕ) → ((rest : List ℕ) → drop at whole ≢ codes "-\n" ++ rest) → ((rest : List ℕ) → drop at whole ≢ codes "claimed:" ++ rest)
    → ((rest : List ℕ) → drop at whole ≢ codes "held:" ++ rest) → ((rest : List ℕ) → drop at whole ≢ codes "exhausted:" ++ rest) → Lacks IsClaim (λ (c : Claim). claim_text c ++ 10 ∷ []) whole at
no_claim whole at dash claimed held exhausted NoClaim rest f e = dash rest e
no_claim whole at dash claimed held exhausted (Claimed a) rest f e = claimed _ e
no_claim whole at dash claimed held exhausted (Held a) rest f e = held _ e
no_claim whole at dash claimed held exhausted (Exhausted n) rest f e = exhausted _ e

-- behind the word of a claim stands no address
pub no_claimed : (whole : List ℕ) (at mid : ℕ) → Stands whole at (codes "claimed:") mid → ((a : Ip4) (rest : List ℕ) → IsAddress a → drop mid whole ≢ (address_text a ++ 10 ∷ []) ++ rest)
    → Lacks IsClaim (λ (c : Claim). claim_text c ++ 10 ∷ []) whole at
no_claimed whole at mid s never NoClaim rest f e = absurd (omega (arith, first_same _ _ (sym s.is ∙ e)))
no_claimed whole at mid s never (Claimed a) rest f e = never a rest f (behind whole (codes "claimed:") ((address_text a ++ 10 ∷ []) ++ rest) at mid s e)
no_claimed whole at mid s never (Held a) rest f e = absurd (omega (arith, first_same _ _ (sym s.is ∙ e)))
no_claimed whole at mid s never (Exhausted n) rest f e = absurd (omega (arith, first_same _ _ (sym s.is ∙ e)))

pub no_held : (whole : List ℕ) (at mid : ℕ) → Stands whole at (codes "held:") mid → ((a : Ip4) (rest : List ℕ) → IsAddress a → drop mid whole ≢ (address_text a ++ 10 ∷ []) ++ rest)
    → Lacks IsClaim (λ (c : Claim). claim_text c ++ 10 ∷ []) whole at
no_held whole at mid s never NoClaim rest f e = absurd (omega (arith, first_same _ _ (sym s.is ∙ e)))
no_held whole at mid s never (Claimed a) rest f e = absurd (omega (arith, first_same _ _ (sym s.is ∙ e)))
no_held whole at mid s never (Held a) rest f e = never a rest f (behind whole (codes "held:") ((address_text a ++ 10 ∷ []) ++ rest) at mid s e)
no_held whole at mid s never (Exhausted n) rest f e = absurd (omega (arith, first_same _ _ (sym s.is ∙ e)))

pub no_exhausted : (whole : List ℕ) (at mid : ℕ) → Stands whole at (codes "exhausted:") mid → ((n : ℕ) (rest : List ℕ) → n < 256 → drop mid whole ≢ (decimal n ++ 10 ∷ []) ++ rest)
    → Lacks IsClaim (λ (c : Claim). claim_text c ++ 10 ∷ []) whole at
no_exhausted whole at mid s never NoClaim rest f e = absurd (omega (arith, first_same _ _ (sym s.is ∙ e)))
no_exhausted whole at mid s never (Claimed a) rest f e = absurd (omega (arith, first_same _ _ (sym s.is ∙ e)))
no_exhausted whole at mid s never (Held a) rest f e = absurd (omega (arith, first_same _ _ (sym s.is ∙ e)))
no_exhausted whole at mid s never (Exhausted n) rest f e = never n rest f (behind whole (codes "exhausted:") ((decimal n ++ 10 ∷ []) ++ rest) at mid s e)

-- a line that is a word and the fields behind it stands where these do
pub line_stands : (whole word fields line : List ℕ) (at mid next : ℕ) → ((x : List ℕ) → line ++ x ≡ word ++ (fields ++ x)) → Stands whole at word mid → Stands whole mid fields next → Stands whole at line next
line_stands whole word fields line at mid next parted p q = record {
  is = p.is ∙ ap (λ (t : List ℕ). word ++ t) q.is ∙ sym (parted (drop next whole));
  within = q.within;
}

-- a number of 16 bits is one of those that are read
pub short_fits : (n : ℕ) → n < 2 ^ 16 → (n ≤ 65535) × (n < 2 ^ 64)
short_fits n h = (omega arith, omega arith)

pub long_fits : (n : ℕ) → n < 2 ^ 64 → (n ≤ 18446744073709551615) × (n < 2 ^ 64)
long_fits n h = (omega arith, h)

pub below_short : (n : ℕ) → n ≤ 65535 → n < 2 ^ 16
below_short n h = omega arith

-- texts that begin alike with a number begin with the same one
pub first_number : (m n : ℕ) (d s t x y : List ℕ) → m < 2 ^ 64 → n < 2 ^ 64 → d ≡ ((decimal m ++ 32 ∷ []) ++ s) ++ x → d ≡ ((decimal n ++ 32 ∷ []) ++ t) ++ y → m ≡ n
first_number m n d s t x y f g e h =
    let r = until_once 32 (decimal m) (decimal n) (s ++ x) (t ++ y) refl (decimal_plain m f) (decimal_plain n g)
    (sym (append_assoc (decimal m ++ 32 ∷ []) s x) ∙ sym e ∙ h ∙ append_assoc (decimal n ++ 32 ∷ []) t y) in
    decimal_injective m n f g r.0
