-- What tells a peer that it is accepted, what may, by RFC 1334 section 2.2 and RFC 1994 section 4, and what begins its term.
use Rattle.std.specs.Prelude.{◌≡◌, ◌⊎◌, ◌&&◌, ℕ, Bool, true, false, List, is_some}
use Rattle.bng_base.specs.PppGrammar.{PppFrame, ControlPacket, IsPpp, IsControlPacket}
use Rattle.bng_ppp_wire.specs.Codes as code
use Rattle.bng_ppp_wire.specs.Protocols as protocol
use Rattle.bng_ppp.specs.LinkState.{is_open, is_accepted}
use Rattle.bng_ppp.specs.declared.authentication.Authentication.{Authentication}
use Rattle.bng_ppp.specs.declared.input.Input.{Input}
use Rattle.bng_ppp.specs.declared.input.Input.TheVariants as told

-- Success of CHAP (RFC 1994 section 4.2), or Authenticate-Ack of PAP (RFC 1334 section 2.2.2)
abbrev pub IsYesCode : ℕ → ℕ → Type 0
IsYesCode number c = ((number ≡ protocol.chap) × (c ≡ code.success)) ⊎ ((number ≡ protocol.pap) × (c ≡ code.authenticate_ack))

-- what is read of the octets tells a peer that it is accepted
pub record IsYes (octets : List ℕ) : Type 0 where
  pub frame : PppFrame
  pub packet : ControlPacket
  pub is : IsPpp frame octets
  pub packet_is : IsControlPacket packet frame.info
  pub yes : IsYesCode frame.protocol packet.code

-- a verdict by which a peer is accepted
abbrev pub is_yes_verdict : Input → Bool
is_yes_verdict told.Start = false
is_yes_verdict (told.Frame octets) = false
is_yes_verdict told.Timer = false
is_yes_verdict (told.Verdict found lease text) = found
is_yes_verdict told.Close = false
is_yes_verdict told.Lost = false

-- a frame of the peer
abbrev pub is_frame : Input → Bool
is_frame told.Start = false
is_frame (told.Frame octets) = true
is_frame told.Timer = false
is_frame (told.Verdict found lease text) = false
is_frame told.Close = false
is_frame told.Lost = false

-- a verdict by which a peer is accepted and is given an address
abbrev pub gives_address : Input → Bool
gives_address told.Start = false
gives_address (told.Frame octets) = false
gives_address told.Timer = false
gives_address (told.Verdict found lease text) = found && is_some lease
gives_address told.Close = false
gives_address told.Lost = false

-- what comes of the link and its peer alone: they begin, a frame, the time. The rest is what the gateway decides, or learns of the
-- layer below.
abbrev pub goes_by_itself : Input → Bool
goes_by_itself told.Start = true
goes_by_itself (told.Frame octets) = true
goes_by_itself told.Timer = true
goes_by_itself (told.Verdict found lease text) = false
goes_by_itself told.Close = false
goes_by_itself told.Lost = false

-- the peer was accepted before, or this is the verdict yes on the question that is open
abbrev pub MayAccept : Input → Authentication → Type 0
MayAccept what old = (is_accepted old ≡ true) ⊎ ((is_yes_verdict what ≡ true) × (is_open old ≡ true))
