-- What may stand at a key: the forms of its values, and the value that each is read as.
use Rattle.std.specs.Prelude.{⊤, ◌≡◌, ◌≢◌, ℕ, ℤ, ◌<◌, ◌≤◌, ◌^◌, pos, negsuc, List, length, map, All, Option, None, Some, option_and_then, codes, ◌⊎◌}
use Rattle.std.specs.List.{AllByRecursion, AllPairs, slice_index_or}
use Rattle.arrayvec.specs.ArrayVec.{ArrayVec}
use Rattle.toml.specs.Data.{Data, Items, string, integer, array, at, as_integer}
use Rattle.toml.specs.View.{items_of}
use Rattle.bng_base.specs.declared.address.Ip4.{Ip4}
use Rattle.bng_base.specs.declared.address.Mac.{Mac}
use Rattle.bng_base.specs.declared.address.Peer.{Peer}
use Rattle.bng_base.specs.declared.address.SessionNo.{SessionNo}
use Rattle.bng_base.specs.declared.settings.AuthKind.{AuthKind}
use Rattle.bng_base.specs.declared.settings.AuthKind.TheVariants.{Chap, Pap}
use Rattle.bng_schema.specs.declared.keys.Table.TheVariants.{Access}
use Rattle.bng_schema.specs.declared.keys.Field.TheVariants.{GatewayShards, GatewayTerms}
use Rattle.bng_schema.specs.declared.keys.Key.{Key}
use Rattle.bng_schema.specs.declared.keys.Key.TheVariants.{Of}
use Rattle.bng_schema.specs.declared.keys.Form.{Form}
use Rattle.bng_schema.specs.declared.keys.Form.TheVariants.{OneTable, TableList, PrintableText, LabelText, OctetText, AnyText, AddressText, PeerText, MacText, Number, PortNumber, SessionNumber, ServiceList, KindList, AddressList}
use Rattle.bng_schema.specs.Address.{address_text, peer_text, mac_text}
use Rattle.bng_schema.specs.Names.{IsGatewayName, IsLabelName, IsShortText, IsSessionOf}
use Rattle.bng_schema.specs.Keys.{value_at, path_of, entries}

-- what stands at the key is such a value
pub record StandsAt (document : Data) (key : Key) (P : Data → Type 0) : Type 0 where
  pub value : Data
  pub found : value_at (path_of key) document ≡ Some value
  pub is : P value

-- what stands at the key is such a value, or nothing stands there and the default counts
abbrev pub StandsOr : Data → Key → (Data → Type 0) → Type 0 → Type 0
StandsOr document key P default = ((value_at (path_of key) document ≡ None) × default) ⊎ StandsAt document key P

-- what is said of a place holds of each item at its place
abbrev pub EachPlace : {X : Type 0} → (ℕ → X → Type 0) → List X → Type 0
EachPlace {X} P xs = (i : ℕ) (d : X) → i < length xs → P i (slice_index_or xs i d)

-- a text, a whole number, and a list
pub record IsText (d : Data) : Type 0 where
  pub text : List ℕ
  pub is : d ≡ string text

pub record IsInteger (d : Data) : Type 0 where
  pub number : ℤ
  pub is : d ≡ integer number

pub record IsArray (d : Data) : Type 0 where
  pub items : Items
  pub is : d ≡ array items

-- a list of such items
pub record IsListOf (P : Data → Type 0) (d : Data) : Type 0 where
  pub items : Items
  pub is : d ≡ array items
  pub each : (place : ℕ) (e : Data) → at place d ≡ Some e → P e

-- a text that names the gateway
pub record IsName (d : Data) (name : ArrayVec ℕ) : Type 0 where
  pub text : d ≡ string name.items
  pub is : IsGatewayName name.items

-- a text that names a pool or a profile
pub record IsLabel (d : Data) (name : ArrayVec ℕ) : Type 0 where
  pub text : d ≡ string name.items
  pub is : IsLabelName name.items

-- a text of 1 to this many octets
pub record IsOctets (most : ℕ) (d : Data) (octets : ArrayVec ℕ) : Type 0 where
  pub text : d ≡ string octets.items
  pub is : IsShortText most octets.items

-- a number of this range
pub record IsNumber (least most : ℕ) (d : Data) (n : ℕ) : Type 0 where
  pub number : d ≡ integer (pos n)
  pub low : least ≤ n
  pub high : n ≤ most

-- a list of these texts
abbrev pub list_of : {X : Type 0} → (X → List ℕ) → List X → Data
list_of text xs = array (items_of (map (λ x. string (text x)) xs))

-- a list of at most eight texts that name services
pub record AreServices (d : Data) (services : ArrayVec (ArrayVec ℕ)) : Type 0 where
  pub list : d ≡ list_of (λ s. s.items) services.items
  pub few : length services.items ≤ 8
  pub are : All (λ s. IsShortText 64 s.items) services.items

abbrev pub kind_text : AuthKind → List ℕ
kind_text Chap = codes "chap"
kind_text Pap = codes "pap"

-- a list of one or two ways to authenticate, none twice
pub record AreKinds (d : Data) (kinds : ArrayVec AuthKind) : Type 0 where
  pub list : d ≡ list_of kind_text kinds.items
  pub some : 1 ≤ length kinds.items
  pub few : length kinds.items ≤ 2
  pub different : AllPairs (λ a b. a ≢ b) kinds.items

-- a text of an address and a port, which is not 0
pub record IsPeer (d : Data) (p : Peer) : Type 0 where
  pub text : d ≡ string (peer_text p)
  pub address : p.ip.0 < 2 ^ 32
  pub low : 1 ≤ p.port
  pub high : p.port < 2 ^ 16

-- a text of an address
pub record IsAddress (d : Data) (a : Ip4) : Type 0 where
  pub text : d ≡ string (address_text a)
  pub address : a.0 < 2 ^ 32

-- a text of some address
pub record IsAddressText (d : Data) : Type 0 where
  pub address : Ip4
  pub is : IsAddress d address

-- a list of so many texts of addresses
pub record AreAddresses (least most : ℕ) (d : Data) (addresses : ArrayVec Ip4) : Type 0 where
  pub list : d ≡ list_of address_text addresses.items
  pub some : least ≤ length addresses.items
  pub few : length addresses.items ≤ most
  pub are : All (λ a. a.0 < 2 ^ 32) addresses.items

-- a text of six octets
pub record IsMac (d : Data) (m : Mac) : Type 0 where
  pub text : d ≡ string (mac_text m)
  pub six : length m.0 ≡ 6
  pub octets : AllByRecursion (λ o. o < 256) m.0

-- a number of a session of one of this many shards
pub record IsSession (shards : ℕ) (d : Data) (s : SessionNo) : Type 0 where
  pub number : d ≡ integer (pos s.0)
  pub is : IsSessionOf shards s.0

-- the number, or the other one where there is none
abbrev pub natural_or : ℕ → Option ℤ → ℕ
natural_or n None = n
natural_or n (Some (pos m)) = m
natural_or n (Some (negsuc m)) = n

-- how many shards there are: 4 where the document does not say
abbrev pub shards_of : Data → ℕ
shards_of document = natural_or 4 (option_and_then as_integer (value_at (path_of (Of GatewayShards 0)) document))

-- for how many terms there is room: 8,192 where the document does not say
abbrev pub terms_of : Data → ℕ
terms_of document = natural_or 8192 (option_and_then as_integer (value_at (path_of (Of GatewayTerms 0)) document))

-- the value is of the type of the form, and a text or an item that is to be an address, a peer or a MAC is one
abbrev pub HasType : Form → Data → Type 0
HasType OneTable d = ⊤
HasType (TableList least most) d = IsArray d
HasType PrintableText d = IsText d
HasType LabelText d = IsText d
HasType (OctetText most) d = IsText d
HasType AnyText d = IsText d
HasType AddressText d = IsAddressText d
HasType PeerText d = (p : Peer) × IsPeer d p
HasType MacText d = (m : Mac) × IsMac d m
HasType (Number least most) d = IsInteger d
HasType PortNumber d = IsInteger d
HasType SessionNumber d = IsInteger d
HasType ServiceList d = IsListOf IsText d
HasType KindList d = IsListOf IsText d
HasType (AddressList least most) d = IsListOf IsAddressText d

-- a natural number of this range
pub record IsWithin (least most : ℕ) (number : ℤ) : Type 0 where
  pub natural : ℕ
  pub is : number ≡ pos natural
  pub low : least ≤ natural
  pub high : natural ≤ most

-- the number of a session of one of this many shards
pub record IsOfShards (shards : ℕ) (number : ℤ) : Type 0 where
  pub natural : ℕ
  pub is : number ≡ pos natural
  pub session : IsSessionOf shards natural

-- the number is in the range of the form: an access port counts from 1 on
abbrev pub IsInRange : Data → Form → ℤ → Type 0
IsInRange document (Number least most) number = IsWithin least most number
IsInRange document PortNumber number = IsWithin 1 (entries document Access) number
IsInRange document SessionNumber number = IsOfShards (shards_of document) number
IsInRange document form number = ⊤

-- a number that is not in its range
pub record HasNumberOutside (document : Data) (form : Form) (d : Data) : Type 0 where
  pub number : ℤ
  pub is : d ≡ integer number
  pub outside : ¬ IsInRange document form number

-- a text of which this does not hold, and a list with such an item
pub record HasWrongText (P : List ℕ → Type 0) (d : Data) : Type 0 where
  pub text : List ℕ
  pub is : d ≡ string text
  pub wrong : ¬ P text

pub record HasWrongItem (P : List ℕ → Type 0) (d : Data) : Type 0 where
  pub place : ℕ
  pub item : Data
  pub there : at place d ≡ Some item
  pub wrong : HasWrongText P item

-- a text of a wrong length, or with an octet outside its set
abbrev pub HasBadText : Form → Data → Type 0
HasBadText PrintableText d = HasWrongText IsGatewayName d
HasBadText LabelText d = HasWrongText IsLabelName d
HasBadText (OctetText most) d = HasWrongText (IsShortText most) d
HasBadText ServiceList d = HasWrongItem (IsShortText 64) d
HasBadText form d = ⊥
