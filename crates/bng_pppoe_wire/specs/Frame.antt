-- Why octets are read or not, by RFC 2516 sections 4 to 6.
use Rattle.std.specs.Prelude.{◌≡◌, ℕ, ◌<◌, ◌≤◌, List, length, IsTrue, IfSome, true, false}
use Rattle.bng_base.specs.declared.codec.ReadError.{ReadError}
use Rattle.bng_base.specs.declared.codec.ReadError.TheVariants.{Outside, TooMany}
use Rattle.bng_base.specs.PppoeGrammar.{PppoeFrame, PppoeTag, AreTags, IsDiscovery, IsSession, IsPppoe, HasFewTags, HasManyTags, is_request, is_before_session}
use Rattle.bng_pppoe_wire.specs.declared.scan.Scan.{Scan}

-- one Service-Name, and a first Host-Uniq, if there is one, of at most 64 octets
pub record AsksOf (scan : Scan) : Type 0 where
  pub service : scan.services ≡ 1
  pub host : IfSome scan.host (λ n. n ≤ 64)

-- what a discovery frame of this code needs
pub record IsRight (code id : ℕ) (scan : Scan) : Type 0 where
  pub session : IsTrue (is_before_session code) → id ≡ 0
  pub asks : IsTrue (is_request code) → AsksOf scan

pub record HasTags (p : PppoeFrame) (few : ℕ → Type 0) : Type 0 where
  pub discovery : IsDiscovery p
  pub tags : List PppoeTag
  pub listed : AreTags tags p.payload
  pub number : few (length tags)

abbrev pub DiscoveryFault : ReadError → PppoeFrame → Type 0
DiscoveryFault Outside p = ¬ (IsDiscovery p)
DiscoveryFault TooMany p = HasTags p (λ n. 64 < n)

abbrev pub IsKeptDiscovery : PppoeFrame → Type 0
IsKeptDiscovery p = HasTags p (λ n. n ≤ 64)

-- what the grammar asks of a frame that is laid out right
pub record HasContent (p : PppoeFrame) : Type 0 where
  pub discovers : p.discovery ≡ true → IsDiscovery p
  pub carries : p.discovery ≡ false → IsSession p

pub record HasTooMany (p : PppoeFrame) : Type 0 where
  pub content : HasContent p
  pub many : HasManyTags p

pub record IsKept (p : PppoeFrame) : Type 0 where
  pub content : HasContent p
  pub few : HasFewTags p

abbrev pub Fault : ReadError → PppoeFrame → Type 0
Fault Outside p = ¬ (HasContent p)
Fault TooMany p = HasTooMany p

-- what each error says of octets
abbrev pub WhyNot : ReadError → List ℕ → Type 0
WhyNot Outside bytes = (p : PppoeFrame) → ¬ (IsPppoe p bytes)
WhyNot TooMany bytes = (p : PppoeFrame) × IsPppoe p bytes × HasManyTags p
