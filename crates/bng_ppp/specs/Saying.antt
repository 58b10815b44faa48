-- What a peer says that it is, as it stands in a frame.
use Rattle.std.specs.Prelude.{◌≡◌, ℕ, List}
use Rattle.bng_auth.specs.Requests.{IsPapRequest, IsResponse}
use Rattle.bng_base.specs.PppGrammar.{PppFrame, ControlPacket, IsPpp, IsControlPacket}
use Rattle.bng_ppp_wire.specs.Protocols as protocol
use Rattle.bng_ppp.specs.Claims.{Claim, password, response}
use Rattle.bng_ppp.specs.declared.authentication.Authentication.{Authentication}
use Rattle.bng_ppp.specs.declared.authentication.Authentication.TheVariants as auth

-- The octets are a PPP frame with an Authenticate-Request of PAP whose Peer-ID and Password are those of the claim (RFC 1334
-- section 2.2.1).
pub record IsRequestOf (octets : List ℕ) (c : Claim) : Type 0 where
  pub frame : PppFrame
  pub is : IsPpp frame octets
  pub number : frame.protocol ≡ protocol.pap
  pub packet : ControlPacket
  pub packet_is : IsControlPacket packet frame.info
  pub secret : List ℕ
  pub request : IsPapRequest packet c.name secret
  pub shown : c.shown ≡ password secret

-- The octets are a PPP frame with a Response of CHAP to the Challenge with this Identifier and Value; the Response's Value and Name
-- are those of the claim (RFC 1994 section 4.1).
pub record IsResponseOf (id : ℕ) (challenge : List ℕ) (octets : List ℕ) (c : Claim) : Type 0 where
  pub frame : PppFrame
  pub is : IsPpp frame octets
  pub number : frame.protocol ≡ protocol.chap
  pub packet : ControlPacket
  pub packet_is : IsControlPacket packet frame.info
  pub value : List ℕ
  pub answers : IsResponse id packet value c.name
  pub shown : c.shown ≡ response id challenge value

-- by the protocol that LCP agreed: PAP, or CHAP and the Challenge that was sent
abbrev pub Says : Authentication → List ℕ → Claim → Type 0
Says auth.Idle octets c = ⊥
Says (auth.Pap q) octets c = IsRequestOf octets c
Says (auth.Chap q sent) octets c = IsResponseOf q.id q.challenge octets c
