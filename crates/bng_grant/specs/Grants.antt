-- What an Access-Accept gives its peer, by RFC 2865 sections 5.8, 5.11, 5.25, 5.27 and 5.28 and by RFC 2869 sections 5.16
-- and 5.18.
use Rattle.std.specs.Prelude.{◌≡◌, ◌==◌, ℕ, ◌≤◌, Bool, ◌&&◌, ◌||◌, not, if◌then◌else◌, max, List, length, find, Option, Some, None, unwrap_or}
use Rattle.std.specs.Option.{option_map, option_and_then}
use Rattle.byteorder.specs.Endian.{big_number}
use Rattle.bng_radius_wire.specs.AttributeTypes as types
use Rattle.bng_radius_wire.specs.Attributes.{Field}
use Rattle.bng_radius_wire.specs.Grammar.{Packet, IsRadius}
use Rattle.bng_grant.specs.declared.grant.Grant.{Grant}
use Rattle.bng_grant.specs.Classes.{AreKept}

-- what is given, without where it lies in memory
pub record Gift : Type 0 where
  pub profile : Option (List ℕ)
  pub pool : Option (List ℕ)
  pub address : Option ℕ
  pub session_timeout : ℕ
  pub idle_timeout : ℕ
  pub interim : Option ℕ
  pub class : List ℕ

abbrev pub gift : Grant → Gift
gift g = record {
  profile = option_map (λ v. v.now) g.profile;
  pool = option_map (λ v. v.now) g.pool;
  address = option_map (λ a. a.0) g.address;
  session_timeout = g.session_timeout;
  idle_timeout = g.idle_timeout;
  interim = g.interim;
  class = g.class.items;
}

-- an attribute of this type whose value has four octets
abbrev pub is_number : ℕ → Field → Bool
is_number kind f = (f.kind == kind) && (length f.value == 4)

-- the number of the first of these, its first octet the highest (RFC 2865 section 5)
abbrev pub number_of : ℕ → List Field → Option ℕ
number_of kind fs = option_map (λ f. big_number 4 f.value) (find (is_number kind) fs)

-- an attribute of this type whose value has an octet at least
abbrev pub is_text : ℕ → Field → Bool
is_text kind f = (f.kind == kind) && not (length f.value == 0)

-- the value of the first of these
abbrev pub text_of : ℕ → List Field → Option (List ℕ)
text_of kind fs = option_map (λ f. f.value) (find (is_text kind) fs)

-- By 255.255.255.255 the peer is to choose the address, by 255.255.255.254 the gateway; any other is the peer's (RFC 2865
-- section 5.8).
abbrev pub chosen : ℕ → Option ℕ
chosen address = if (address == 0xffff_fffe) || (address == 0xffff_ffff) then None else Some address

abbrev pub address_of : List Field → Option ℕ
address_of fs = option_and_then chosen (number_of types.framed_ip_address fs)

-- a timeout in seconds; 0, as where there is none, sets no limit
abbrev pub timeout_of : ℕ → List Field → ℕ
timeout_of kind fs = unwrap_or (number_of kind fs) 0

-- in seconds; one below 60 is taken as 60 (RFC 2869 section 5.16)
abbrev pub interim_of : List Field → Option ℕ
interim_of fs = option_map (λ n. max n 60) (number_of types.acct_interim_interval fs)

-- what a packet with these attributes gives
pub record Gives (fs : List Field) (g : Gift) : Type 0 where
  pub profile : g.profile ≡ text_of types.filter_id fs
  pub pool : g.pool ≡ text_of types.framed_pool fs
  pub address : g.address ≡ address_of fs
  pub session_timeout : g.session_timeout ≡ timeout_of types.session_timeout fs
  pub idle_timeout : g.idle_timeout ≡ timeout_of types.idle_timeout fs
  pub interim : g.interim ≡ interim_of fs
  pub class : AreKept fs g.class

-- the octets begin with a packet of at most 64 attributes
pub record IsReply (p : Packet) (octets : List ℕ) : Type 0 where
  pub packet : IsRadius p octets
  pub few : length p.attributes ≤ 64

-- What octets give: what the packet gives with which they begin, and nothing where they begin with none.
pub data IsGrant (octets : List ℕ) (given : Option Gift) : Type 0 where
  Replied : (p : Packet) → IsReply p octets → (g : Gift) → Gives p.attributes g → given ≡ Some g → IsGrant octets given
  NoReply : ((p : Packet) → ¬ (IsReply p octets)) → given ≡ None → IsGrant octets given
