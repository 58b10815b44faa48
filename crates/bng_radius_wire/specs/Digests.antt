-- The authenticators of a packet, by RFC 2865 section 3, RFC 2866 section 3, RFC 2869 section 5.14 and RFC 5176.
use Rattle.std.specs.Prelude.{◌≡◌, ◌==◌, ℕ, ◌≤◌, Bool, ◌||◌, if◌then◌else◌, List, ◌++◌, length, replicate, slice_get, slice_set, count_by, Option, Some, None}
use Rattle.std.specs.List.{position_from, AllByRecursion}
use Rattle.md5.specs.Md5.{md5}
use Rattle.bng_digest.specs.Authentication.{hmac_md5}
use Rattle.bng_radius_wire.specs.Codes.{accounting_request, disconnect_request, coa_request}
use Rattle.bng_radius_wire.specs.AttributeTypes as types
use Rattle.bng_radius_wire.specs.Attributes.{Field}
use Rattle.bng_radius_wire.specs.Grammar.{Packet, spelling}

-- sixteen octets of zero
abbrev pub zeros : List ℕ
zeros = replicate 16 0

-- ResponseAuth = MD5(Code+ID+Length+RequestAuth+Attributes+Secret): the packet with the Request Authenticator in the
-- place of its own, followed by the secret
abbrev pub response_authenticator : Packet → (request secret : List ℕ) → List ℕ
response_authenticator p request secret = md5 (spelling (record p { authenticator = request }) ++ secret)

abbrev pub is_message_authenticator : Field → Bool
is_message_authenticator f = f.kind == types.message_authenticator

-- the packet with this value of the Message-Authenticator that stands at place i
abbrev pub with_message_authenticator : Packet → ℕ → List ℕ → Packet
with_message_authenticator p i value = record p { attributes = slice_set p.attributes i (record { kind = types.message_authenticator; value = value }) }

-- what the Message-Authenticator at place i is to be: HMAC-MD5 under the secret over the packet with this authenticator,
-- and with zeros as that value
abbrev pub message_authenticator : Packet → ℕ → (authenticator secret : List ℕ) → List ℕ
message_authenticator p i authenticator secret =
    hmac_md5 secret (spelling (with_message_authenticator (record p { authenticator = authenticator }) i zeros))

-- a Message-Authenticator at place i, if there is one, is right
abbrev pub IsRightAt : Packet → ℕ → (authenticator secret : List ℕ) → Type 0
IsRightAt p i authenticator secret =
    (f : Field) → slice_get p.attributes i ≡ Some f → f.kind ≡ types.message_authenticator → f.value ≡ message_authenticator p i authenticator secret

-- a reply to the request with this authenticator that has the right digests
pub record IsSigned (p : Packet) (request secret : List ℕ) : Type 0 where
  pub response : p.authenticator ≡ response_authenticator p request secret
  pub messages : (i : ℕ) → IsRightAt p i request secret

-- the packet with its Message-Authenticator filled, where it has one
abbrev pub filled_at : Option ℕ → Packet → (authenticator secret : List ℕ) → Packet
filled_at None p authenticator secret = p
filled_at (Some i) p authenticator secret = with_message_authenticator p i (message_authenticator p i authenticator secret)

abbrev pub filled : Packet → (authenticator secret : List ℕ) → Packet
filled p authenticator secret = filled_at (position_from is_message_authenticator 0 p.attributes) p authenticator secret

-- a reply to the request with this authenticator, signed: its Message-Authenticator, and then the Response Authenticator
abbrev pub signed_reply : Packet → (request secret : List ℕ) → Packet
signed_reply p request secret =
    let q = filled p request secret in record q { authenticator = response_authenticator q request secret }

-- the codes whose Request Authenticator is a digest over zeros in its own place
abbrev pub has_digest : ℕ → Bool
has_digest code = (code == accounting_request) || (code == disconnect_request) || (code == coa_request)

-- a request, signed: a digest for those codes, and for any other the authenticator that it has
abbrev pub signed_request : Packet → (secret : List ℕ) → Packet
signed_request p secret = if has_digest p.code then signed_reply p zeros secret else filled p p.authenticator secret

-- a Message-Authenticator has room for a digest
abbrev pub HasRoom : Field → Type 0
HasRoom f = f.kind ≡ types.message_authenticator → length f.value ≡ 16

-- at most one Message-Authenticator, whose value has 16 octets
pub record CanBeSigned (p : Packet) : Type 0 where
  pub one : count_by is_message_authenticator p.attributes ≤ 1
  pub sized : AllByRecursion HasRoom p.attributes
