-- An index: its entries by rising key, each a key with the session that it leads to, and for how many there is room.
use Rattle.std.specs.Prelude.{ℕ, List, refl}
use Rattle.std.specs.Coded.{Coded, code_by, coded×, coded_ℕ, coded_list}
use Rattle.bng_base.specs.declared.address.SessionNo.{SessionNo}

pub record Listing (K : Type 0) : Type 0 where
  pub entries : List (K × SessionNo)
  pub room : ℕ

abbrev pub session_code : Coded SessionNo
session_code = code_by ℕ coded_ℕ (λ n. n.0) (λ n. record { 0 = n }) (λ _. refl)

abbrev pub listing_code : {K : Type 0} → Coded K → Coded (Listing K)
listing_code {K} code =
    code_by
    (List (K × SessionNo) × ℕ)
    (coded× (coded_list (coded× code session_code)) coded_ℕ)
    (λ s. (s.entries, s.room))
    (λ p. record { entries = p.0; room = p.1 })
    (λ _. refl)
