-- The names and the other texts of a few octets, and the numbers of sessions.
use Rattle.std.specs.Prelude.{◌≡◌, ℕ, ◌/◌, ◌%◌, ◌<◌, ◌≤◌, ◌⊎◌, List, All, length}

-- a printable octet of ASCII that is no space
pub record IsPrintable (octet : ℕ) : Type 0 where
  pub low : 33 ≤ octet
  pub high : octet ≤ 126

-- the name of a gateway: 1 to 64 printable octets without space
pub record IsGatewayName (name : List ℕ) : Type 0 where
  pub some : 1 ≤ length name
  pub short : length name ≤ 64
  pub printable : All IsPrintable name

-- `a` to `z`, `0` to `9`, `-` or `_`
abbrev pub IsLabelOctet : ℕ → Type 0
IsLabelOctet octet = ((97 ≤ octet) × (octet ≤ 122)) ⊎ ((48 ≤ octet) × (octet ≤ 57)) ⊎ (octet ≡ 45) ⊎ (octet ≡ 95)

-- the name of a pool or of a profile: 1 to 32 of these octets
pub record IsLabelName (name : List ℕ) : Type 0 where
  pub some : 1 ≤ length name
  pub short : length name ≤ 32
  pub octets : All IsLabelOctet name

-- a text of 1 to this many octets: the name of a service and a secret have at most 64, a User-Name (RFC 2865 section 5.1)
-- has at most 128
pub record IsShortText (most : ℕ) (text : List ℕ) : Type 0 where
  pub some : 1 ≤ length text
  pub short : length text ≤ most

-- a number of a session of one of this many shards: the shard, from 0, times 1,024, and an index of 1 to 1,022
pub record IsSessionOf (shards number : ℕ) : Type 0 where
  pub shard : number / 1024 < shards
  pub low : 1 ≤ number % 1024
  pub high : number % 1024 ≤ 1022
