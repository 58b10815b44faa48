-- A reply to a Configure-Request that was sent, by RFC 1661 sections 5.2 to 5.4.
use Rattle.std.specs.Prelude.{◌≡◌, ℕ, ◌≤◌, List, length, Option, Some, filter}
use Rattle.bng_base.specs.PppGrammar.{ControlPacket, PppOption, AreOptions}
use Rattle.bng_ppp_wire.specs.Codes.{configure_ack, configure_nak, configure_reject}
use Rattle.bng_ppp_wire.specs.View.{options_of}
use Rattle.bng_ppp_wire.specs.Listing.{names}
use Rattle.bng_ppp_wire.specs.declared.configure_reply.ConfigureReply.{ConfigureReply}
use Rattle.bng_ppp_wire.specs.declared.configure_reply.ConfigureReply.TheVariants as reply

-- a Configure-Request that was sent: its Identifier and its options
pub record Request : Type 0 where
  pub id : ℕ
  pub options : List PppOption

-- The packet is a reply of this code to the request, and lists these options.
pub record IsReply (request : Request) (packet : ControlPacket) (code : ℕ) (options : List PppOption) : Type 0 where
  pub kind : packet.code ≡ code
  pub id : packet.id ≡ request.id
  pub lists : AreOptions options packet.body
  pub few : length options ≤ 64

-- those of the request's options whose types these name, in its order and as they are
abbrev pub named_of : List PppOption → List PppOption → List PppOption
named_of asked options = filter (λ o. names options o.kind) asked

-- A Configure-Ack has the options of the request.
abbrev pub IsAck : Request → ControlPacket → Type 0
IsAck request packet = IsReply request packet configure_ack request.options

abbrev pub IsNak : Request → ControlPacket → List PppOption → Type 0
IsNak request packet options = IsReply request packet configure_nak options

-- A Configure-Reject has those options of the request whose types it names.
abbrev pub IsReject : Request → ControlPacket → List PppOption → Type 0
IsReject request packet options = IsReply request packet configure_reject options × (options ≡ named_of request.options options)

-- What a packet is to a request. It is no reply exactly where it is none of the three.
abbrev pub IsRead : Request → ControlPacket → ConfigureReply → Type 0
IsRead request packet reply.Ack = IsAck request packet
IsRead request packet (reply.Nak options) = IsNak request packet (options_of options.items)
IsRead request packet (reply.Reject options) = IsReject request packet (options_of options.items)
IsRead request packet reply.Other =
    (¬ (IsAck request packet)) × ((options : List PppOption) → ¬ (IsNak request packet options))
    × ((options : List PppOption) → ¬ (IsReject request packet options))

-- The same of the last request that was sent, where one was.
pub record Acks (sent : Option Request) (packet : ControlPacket) : Type 0 where
  pub request : Request
  pub last : sent ≡ Some request
  pub reply_is : IsAck request packet

pub record Naks (sent : Option Request) (packet : ControlPacket) (options : List PppOption) : Type 0 where
  pub request : Request
  pub last : sent ≡ Some request
  pub reply_is : IsNak request packet options

pub record Rejects (sent : Option Request) (packet : ControlPacket) (options : List PppOption) : Type 0 where
  pub request : Request
  pub last : sent ≡ Some request
  pub reply_is : IsReply request packet configure_reject options
  pub part : options ≡ named_of request.options options
