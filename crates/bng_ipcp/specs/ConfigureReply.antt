-- A reply to the gateway's Configure-Request, by RFC 1661 sections 5.2 to 5.4.
use Rattle.std.specs.Prelude.{◌≡◌, ◌⊎◌, List, Option, None, option_map, if◌then◌else◌}
use Rattle.bng_base.specs.PppGrammar.{ControlPacket, PppOption}
use Rattle.bng_ppp_wire.specs.Listing.{names}
use Rattle.bng_ppp_wire.specs.ConfigureReply as reply
use Rattle.bng_ppp_wire.specs.ConfigureReply.{Request}
use Rattle.bng_ipcp.specs.Options.{ip_address}
use Rattle.bng_ipcp.specs.declared.configure_request.IpcpOptions.{IpcpOptions}
use Rattle.bng_ipcp.specs.declared.configure_request.SentIpcpRequest.{SentIpcpRequest}
use Rattle.bng_ipcp.specs.declared.configure_reply.Taken.{Taken}
use Rattle.bng_ipcp.specs.declared.configure_reply.Taken.TheVariants.{Accepted, Changed, Ignored}
use Rattle.bng_ipcp.specs.ConfigureRequest.{asked}
use Rattle.bng_ipcp.specs.Ask.{Ask}

-- the last Configure-Request that was sent, with its options as it lists them
abbrev pub request_of : SentIpcpRequest → Request
request_of s = record { id = s.id; options = asked s.options }

abbrev pub last_of : Ask → Option Request
last_of ask = option_map request_of ask.sent

abbrev pub Acks : Ask → ControlPacket → Type 0
Acks ask packet = reply.Acks (last_of ask) packet

abbrev pub Naks : Ask → ControlPacket → List PppOption → Type 0
Naks ask packet options = reply.Naks (last_of ask) packet options

abbrev pub Rejects : Ask → ControlPacket → List PppOption → Type 0
Rejects ask packet options = reply.Rejects (last_of ask) packet options

-- what is left of the wanted options where these are asked for no longer
abbrev pub left_out : IpcpOptions → List PppOption → IpcpOptions
left_out wanted options = record { address = if names options ip_address then None else wanted.address }

-- What becomes of a reply. A Configure-Nak changes nothing. A reply is ignored exactly where it is none of the three.
abbrev pub Takes : Taken → Ask → ControlPacket → Ask → Type 0
Takes Accepted old packet new = Acks old packet × (new ≡ old)
Takes Changed old packet new =
    ((options : List PppOption) × Naks old packet options × (new ≡ old))
    ⊎ ((options : List PppOption) × Rejects old packet options × (new ≡ record old { wanted = left_out old.wanted options }))
Takes Ignored old packet new =
    (¬ (Acks old packet)) × ((options : List PppOption) → ¬ (Naks old packet options)) × ((options : List PppOption) → ¬ (Rejects old packet options)) × (new ≡ old)
