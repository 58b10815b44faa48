-- The reply to a request (RFC 5176 sections 2.3, 3.1, 3.3, 3.4 and 3.5).
use Rattle.std.specs.Prelude.{◌≡◌, ◌==◌, ℕ, Bool, ◌&&◌, nat_le, if◌then◌else◌, List, ◌++◌, ◌∷◌, [], length, Option, Some, None, filter, find, option_to_list}
use Rattle.byteorder.specs.Endian.{big_bytes}
use Rattle.bng_base.specs.Packet.{Packet as Bytes}
use Rattle.bng_radius_wire.specs.Attributes.{Field}
use Rattle.bng_radius_wire.specs.Grammar.{Packet, IsRadius, spelling}
use Rattle.bng_radius_wire.specs.Digests.{zeros, signed_reply}
use Rattle.bng_coa.specs.declared.request.ChangeRequest.{ChangeRequest}
use Rattle.bng_coa.specs.declared.request.RequestStage.TheVariants.{InHand}
use Rattle.bng_coa.specs.declared.rules.ChangeVerdict.{ChangeVerdict}
use Rattle.bng_coa.specs.declared.rules.ChangeVerdict.TheVariants.{Applied, Refused}
use Rattle.bng_coa.specs.Kinds.{has_kind, has_some}
use Rattle.bng_coa.specs.Runs.{IsSettled}
use Rattle.bng_coa.specs.State.{State}

-- the first State of a CoA-Request
abbrev pub state_of : Packet → List Field
state_of p = if p.code == 43 then option_to_list (find (has_kind 24) p.attributes) else []

-- what a reply repeats, unmodified: each Proxy-State in order, and that State
abbrev pub repeated : Packet → List Field
repeated p = filter (has_kind 33) p.attributes ++ state_of p

-- a Message-Authenticator, not filled yet, where there is to be one
abbrev pub signature : Bool → List Field
signature signed = if signed then record { kind = 80; value = zeros } ∷ [] else []

-- the packet with more attributes at its end
abbrev pub with_more : Packet → List Field → Packet
with_more p more = record p { attributes = p.attributes ++ more }

-- the reply of this code with what it repeats
abbrev pub bare_reply : Packet → ℕ → Packet
bare_reply p code = record { code = code; id = p.id; authenticator = zeros; attributes = repeated p }

-- the reply of this code, not signed yet: what it repeats, these attributes, and a Message-Authenticator where the request
-- has one
abbrev pub reply_with : Packet → ℕ → List Field → Packet
reply_with p code more = with_more (with_more (bare_reply p code) more) (signature (has_some 80 p.attributes))

-- at most 64 attributes and 4,096 octets
abbrev pub fits : Packet → Bool
fits p = nat_le (length p.attributes) 64 && nat_le (length (spelling p)) 4096

-- Error-Cause, where there is one
abbrev pub more_of : Option (List ℕ) → List Field
more_of None = []
more_of (Some value) = record { kind = 101; value = value } ∷ []

-- a number of four octets
abbrev pub error_cause : ℕ → List Field
error_cause cause = more_of (Some (big_bytes 4 cause))

-- CoA-ACK or Disconnect-ACK
abbrev pub ack_of : ℕ → ℕ
ack_of code = if code == 43 then 44 else 41

-- CoA-NAK or Disconnect-NAK
abbrev pub nak_of : ℕ → ℕ
nak_of code = if code == 43 then 45 else 42

-- the reply with this verdict, not signed yet: Error-Cause stands in a NAK, where there is room for it
abbrev pub reply_to : Packet → ChangeVerdict → Packet
reply_to p Applied = reply_with p (ack_of p.code) []
reply_to p (Refused cause) =
    if fits (reply_with p (nak_of p.code) (error_cause cause)) then reply_with p (nak_of p.code) (error_cause cause) else reply_with p (nak_of p.code) []

-- the octets of the reply, signed under the secret
abbrev pub reply_octets : Packet → ChangeVerdict → (secret : List ℕ) → List ℕ
reply_octets p verdict secret = spelling (signed_reply (reply_to p verdict) p.authenticator secret)

-- the frame holds a reply that is not signed yet
pub record IsDrafted (reply : Packet) (frame : Bytes) : Type 0 where
  pub payload : frame.payload ≡ spelling reply
  pub reads : IsRadius reply frame.payload
  pub headroom : frame.headroom ≡ 64

-- the frame has the reply to a request in hand
pub record IsReplied (request : ChangeRequest) (verdict : ChangeVerdict) (secret : List ℕ) (frame : Bytes) : Type 0 where
  pub number : ℕ
  pub octets : List ℕ
  pub packet : Packet
  pub in_hand : request.stage ≡ InHand number octets
  pub reads : IsRadius packet octets
  pub payload : frame.payload ≡ reply_octets packet verdict secret
  pub headroom : frame.headroom ≡ 64

-- the request that was in hand under the number is answered, and the frame has its reply
pub record IsAnswered (old new : State) (number : ℕ) (verdict : ChangeVerdict) (frame : Bytes) : Type 0 where
  pub settled : IsSettled old.requests new.requests number frame.payload
  pub replied : IsReplied settled.request verdict old.secret frame
  pub peers : new.peers ≡ old.peers
  pub secret : new.secret ≡ old.secret
