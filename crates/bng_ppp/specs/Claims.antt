-- What a peer claims to be, without where it lies in memory.
use Rattle.std.specs.Prelude.{ℕ, List}
use Rattle.bng_auth.specs.declared.credentials.Credentials.{Credentials}
use Rattle.bng_auth.specs.declared.credentials.Proof.{Proof}
use Rattle.bng_auth.specs.declared.credentials.Proof.TheVariants as proof

-- a password (RFC 1334 section 2.2.1), or a Response's Identifier, the Challenge's Value and the Response's Value (RFC 1994
-- section 4.1)
pub data Shown : Type 0 where
  password : List ℕ → Shown
  response : ℕ → List ℕ → List ℕ → Shown

pub record Claim : Type 0 where
  pub name : List ℕ
  pub shown : Shown

abbrev pub shown_of : Proof → Shown
shown_of (proof.Pap octets) = password octets.items
shown_of (proof.Chap id challenge value) = response id challenge value

abbrev pub claim_of : Credentials → Claim
claim_of c = record { name = c.name.items; shown = shown_of c.proof }
