-- What the provisioned circuits must not share, and what they must name.
use Rattle.std.specs.Prelude.{◌≡◌, ◌<◌, ◌⊎◌, ℕ, ℤ, List, Some, option_and_then, codes}
use Rattle.toml.specs.Data.{Data, integer, as_integer}
use Rattle.bng_base.specs.declared.address.Ip4.{Ip4}
use Rattle.bng_base.specs.declared.book.Range.{Range}
use Rattle.bng_schema.specs.declared.keys.Field.{Field}
use Rattle.bng_schema.specs.declared.keys.Field.TheVariants.{GatewayTerms, ProfileName, StaticSession, StaticAddress, StaticProfile}
use Rattle.bng_schema.specs.declared.keys.Key.{Key}
use Rattle.bng_schema.specs.declared.keys.Key.TheVariants.{Whole, Of}
use Rattle.bng_schema.specs.declared.keys.Table.TheVariants.{Pool, Profile, Static}
use Rattle.bng_schema.specs.Keys.{path_of, value_at, entries}
use Rattle.bng_schema.specs.Forms.{StandsAt, IsAddress, natural_or}
use Rattle.bng_schema.specs.Repeats.{HasText, StandsBelow}
use Rattle.bng_base.specs.Ranges.{InRange}
use Rattle.bng_schema.specs.Ranges.{IsRangeAt}

-- for how many terms there is room: 8,192 where the document does not say
abbrev pub terms_of : Data → ℕ
terms_of document = natural_or 8192 (option_and_then as_integer (value_at (path_of (Of GatewayTerms 0)) document))

-- the number at the field
abbrev pub HasNumber : Data → Field → ℕ → ℤ → Type 0
HasNumber document field place n = value_at (path_of (Of field place)) document ≡ Some (integer n)

-- one of the first circuits, this many, has the session
abbrev pub HasSessionBelow : Data → ℕ → ℤ → Type 0
HasSessionBelow document many n = (i : ℕ) × (i < many) × HasNumber document StaticSession i n

-- an earlier circuit has the session of this one
abbrev pub SharesSession : Data → ℕ → Type 0
SharesSession document place = (n : ℤ) × HasNumber document StaticSession place n × HasSessionBelow document place n

-- an earlier circuit has the address of this one
abbrev pub SharesAddress : Data → ℕ → Type 0
SharesAddress document place = (text : List ℕ) × HasText document (Of StaticAddress place) text × StandsBelow document StaticAddress place text

-- one of the first pools, this many, has the address
abbrev pub IsPooledBelow : Data → ℕ → Ip4 → Type 0
IsPooledBelow document many a = (i : ℕ) × (i < many) × (r : Range) × IsRangeAt document i r × InRange r a.0

-- no pool has the address of the circuit
abbrev pub IsOutside : Data → ℕ → Type 0
IsOutside document place = (a : Ip4) × StandsAt document (Of StaticAddress place) (λ d. IsAddress d a) × ¬ IsPooledBelow document (entries document Pool) a

-- a profile has this name; without a list of profiles, or with an empty one, there is the one that is called `default`
abbrev pub IsProfileName : Data → List ℕ → Type 0
IsProfileName document name = StandsBelow document ProfileName (entries document Profile) name ⊎ ((entries document Profile ≡ 0) × (name ≡ codes "default"))

-- no profile has the name that the circuit says
abbrev pub NamesNoProfile : Data → ℕ → Type 0
NamesNoProfile document place = (name : List ℕ) × HasText document (Of StaticProfile place) name × ¬ IsProfileName document name

-- there are more circuits than terms; or the circuit has the session or the address of an earlier one, an address of no pool, or a
-- profile that there is not
abbrev pub IsBadCircuit : Data → Key → Type 0
IsBadCircuit document (Whole Static) = terms_of document < entries document Static
IsBadCircuit document (Whole t) = ⊥
IsBadCircuit document (Of StaticSession place) = SharesSession document place
IsBadCircuit document (Of StaticAddress place) = SharesAddress document place ⊎ IsOutside document place
IsBadCircuit document (Of StaticProfile place) = NamesNoProfile document place
IsBadCircuit document (Of field place) = ⊥
