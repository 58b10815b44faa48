-- What a packet of LCP is, by RFC 1661 section 5.
use Rattle.std.specs.Prelude.{ℕ, Bool, ◌&&◌, nat_lt, nat_le, List, length, slice_index, ◌==◌, if◌then◌else◌, ◌||◌}
use Rattle.byteorder.specs.Endian.{big_number}
use Rattle.bng_automaton.specs.declared.event.Event.TheVariants.{RxjPlus, RxjMinus, Rtr, Rta, Rxr}
use Rattle.bng_base.specs.PppGrammar.{ControlPacket}
use Rattle.bng_ppp_wire.specs.declared.code.TheConstants.{CONFIGURE_REQUEST, CODE_REJECT, CONFIGURE_ACK, CONFIGURE_NAK, CONFIGURE_REJECT, TERMINATE_REQUEST, TERMINATE_ACK, PROTOCOL_REJECT, ECHO_REQUEST, ECHO_REPLY, DISCARD_REQUEST}
use Rattle.bng_ppp_wire.specs.declared.protocol.TheConstants as protocol
use Rattle.bng_ppp.specs.declared.codes.Kind.{Kind}
use Rattle.bng_ppp.specs.declared.codes.Kind.TheVariants.{Plain, Request, Reply, Echo, Mute, EchoReply, Unknown}

-- a Code-Reject of a packet of the codes 1 to 7, without which no link is
abbrev pub rejects_code : List ℕ → Bool
rejects_code body = nat_lt 0 (length body) && nat_le CONFIGURE_REQUEST (slice_index body 0) && nat_le (slice_index body 0) CODE_REJECT

-- a Protocol-Reject of LCP itself
abbrev pub rejects_lcp : List ℕ → Bool
rejects_lcp body = nat_le 2 (length body) && big_number 2 body == protocol.LCP

abbrev pub reject : Bool → Kind
reject catastrophic = Plain (if catastrophic then RxjMinus else RxjPlus)

-- what a packet is, by its code
abbrev pub kind_of : ControlPacket → Kind
kind_of p =
    if p.code == CONFIGURE_REQUEST then Request
    else (if p.code == CONFIGURE_ACK || p.code == CONFIGURE_NAK || p.code == CONFIGURE_REJECT then Reply
    else (if p.code == TERMINATE_REQUEST then Plain Rtr
    else (if p.code == TERMINATE_ACK then Plain Rta
    else (if p.code == CODE_REJECT then reject (rejects_code p.body)
    else (if p.code == PROTOCOL_REJECT then reject (rejects_lcp p.body)
    else (if p.code == ECHO_REQUEST then (if nat_lt (length p.body) 4 then Mute else Echo)
    else (if p.code == ECHO_REPLY then EchoReply
    else (if p.code == DISCARD_REQUEST then Plain Rxr
    else Unknown))))))))
