-- A reply to the gateway's Configure-Request, by RFC 1661 sections 5.2 to 5.4.
use Rattle.std.specs.Prelude.{◌≡◌, ◌⊎◌, ℕ, Bool, true, false, ◌&&◌, ◌==◌, List, length, Option, Some, None, is_some, option_map, fold, slice_index, IsTrue, IsFalse, if◌then◌else◌}
use Rattle.std.specs.List.{list_any}
use Rattle.byteorder.specs.Endian.{big_number}
use Rattle.bng_base.specs.PppGrammar.{ControlPacket, PppOption}
use Rattle.bng_base.specs.declared.settings.AuthKind.{AuthKind}
use Rattle.bng_base.specs.declared.settings.AuthKind.TheVariants.{Chap, Pap}
use Rattle.bng_ppp_wire.specs.Protocols as protocol
use Rattle.bng_ppp_wire.specs.Listing.{names}
use Rattle.bng_ppp_wire.specs.ConfigureReply as reply
use Rattle.bng_ppp_wire.specs.ConfigureReply.{Request}
use Rattle.bng_lcp.specs.Options.{maximum_receive_unit, authentication_protocol, magic_number, chap_with_md5}
use Rattle.bng_lcp.specs.declared.configure_request.LcpOptions.{LcpOptions}
use Rattle.bng_lcp.specs.declared.configure_request.SentLcpRequest.{SentLcpRequest}
use Rattle.bng_lcp.specs.declared.configure_reply.Taken.{Taken}
use Rattle.bng_lcp.specs.declared.configure_reply.Taken.TheVariants.{Accepted, Changed, Ignored, Unwilling}
use Rattle.bng_lcp.specs.Judgement.{is_mru, is_magic, is_mru_within, magic_from}
use Rattle.bng_lcp.specs.ConfigureRequest.{asked}
use Rattle.bng_lcp.specs.Ask.{Ask}

-- the last Configure-Request that was sent, with its options as it lists them
abbrev pub request_of : SentLcpRequest → Request
request_of s = record { id = s.id; options = asked s.options }

abbrev pub last_of : Ask → Option Request
last_of ask = option_map request_of ask.sent

abbrev pub Acks : Ask → ControlPacket → Type 0
Acks ask packet = reply.Acks (last_of ask) packet

abbrev pub Naks : Ask → ControlPacket → List PppOption → Type 0
Naks ask packet options = reply.Naks (last_of ask) packet options

abbrev pub Rejects : Ask → ControlPacket → List PppOption → Type 0
Rejects ask packet options = reply.Rejects (last_of ask) packet options

-- whether the data of an Authentication-Protocol are these of a protocol
abbrev pub is_auth : AuthKind → List ℕ → Bool
is_auth Chap value = length value == 3 && big_number 2 value == protocol.chap && slice_index value 2 == chap_with_md5
is_auth Pap value = length value == 2 && big_number 2 value == protocol.pap

abbrev pub same_auth : AuthKind → AuthKind → Bool
same_auth Chap Chap = true
same_auth Chap Pap = false
same_auth Pap Chap = false
same_auth Pap Pap = true

-- the protocol that an Authentication-Protocol suggests, where it is an allowed one, else the one that was asked for
abbrev pub auth_after : List AuthKind → List ℕ → AuthKind → AuthKind
auth_after allowed value auth =
    if is_auth Chap value && list_any (same_auth Chap) allowed then Chap
    else (if is_auth Pap value && list_any (same_auth Pap) allowed then Pap else auth)

-- What one option of a Configure-Nak changes of what is asked for. An option that is not asked for stays out.
abbrev pub changed_by : Ask → ℕ → LcpOptions → PppOption → LcpOptions
changed_by ask magic w o =
    if is_mru o then (if is_some w.mru && is_mru_within ask.limit (big_number 2 o.value) then record w { mru = Some (big_number 2 o.value) } else w)
    else (if is_magic o then (if is_some w.magic then record w { magic = Some magic } else w)
    else (if o.kind == authentication_protocol then record w { auth = auth_after ask.allowed o.value w.auth } else w))

-- what is asked for after a Configure-Nak, with the first four of the random octets as a new magic number
abbrev pub after_nak : Ask → List ℕ → List PppOption → LcpOptions
after_nak ask random options = fold (changed_by ask (magic_from (big_number 4 random))) ask.wanted options

-- what is left of the wanted options where these are asked for no longer
abbrev pub left_out : LcpOptions → List PppOption → LcpOptions
left_out wanted options = record {
  mru = if names options maximum_receive_unit then None else wanted.mru;
  auth = wanted.auth;
  magic = if names options magic_number then None else wanted.magic;
}

-- What becomes of a reply. It is ignored exactly where it is none of the three.
abbrev pub Takes : Taken → Ask → ControlPacket → List ℕ → Ask → Type 0
Takes Accepted old packet random new = Acks old packet × (new ≡ old)
Takes Changed old packet random new =
    ((options : List PppOption) × Naks old packet options × (new ≡ record old { wanted = after_nak old random options }))
    ⊎ ((options : List PppOption) × Rejects old packet options × IsFalse (names options authentication_protocol) × (new ≡ record old { wanted = left_out old.wanted options }))
Takes Unwilling old packet random new =
    ((options : List PppOption) × Rejects old packet options × IsTrue (names options authentication_protocol)) × (new ≡ old)
Takes Ignored old packet random new =
    (¬ (Acks old packet)) × ((options : List PppOption) → ¬ (Naks old packet options)) × ((options : List PppOption) → ¬ (Rejects old packet options)) × (new ≡ old)
