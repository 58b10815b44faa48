-- The digits of an Acct-Session-Id, as they were read.
use Rattle.std.proofs.Common.{◌≡◌, ℕ, List, Result, Ok, Err, refl, sym, ap, ◌∙◌}
use Rattle.std.specs.Prelude.{MatchResult}
use Rattle.byteorder.specs.Endian.{big_from}
use Rattle.hex.specs.declared.error.FromHexError.{FromHexError}
use Rattle.bng_coa.specs.Leads.{session_from}

ok_err : {A : Type 0} (a : A) (e : FromHexError) → ◌≡◌ {A = Result A FromHexError} (Ok a) (Err e) → ⊥
ok_err a e same = cc

module _ (answer : Result (Unit {0}) FromHexError) (octets : List ℕ) where
  abbrev Reads : Result (List ℕ) FromHexError → Type 0
  Reads r = MatchResult r (λ bytes. (answer ≡ Ok tt) × (octets ≡ bytes)) (λ e. answer ≡ Err e)

  -- what was read stands in the octets
  pub read_digits : (r : Result (List ℕ) FromHexError) → Reads r → answer ≡ Ok tt → big_from 4 2 octets ≡ session_from r
  read_digits (Ok bytes) h is = ap (big_from 4 2) h.1
  read_digits (Err e) h is = absurd (ok_err tt e (sym is ∙ h))

  -- and nothing was read where the digits are wrong
  pub no_digits : (r : Result (List ℕ) FromHexError) (e : FromHexError) → Reads r → answer ≡ Err e → 0 ≡ session_from r
  no_digits (Ok bytes) e h is = absurd (ok_err tt e (sym h.0 ∙ is))
  no_digits (Err f) e h is = refl
