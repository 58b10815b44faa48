-- What a packet of IPCP is, by RFC 1332 section 2: LCP's first seven codes.
use Rattle.std.specs.Prelude.{◌==◌, ◌||◌, if◌then◌else◌}
use Rattle.bng_automaton.specs.declared.event.Event.TheVariants.{Rtr, Rta, RxjPlus, RxjMinus}
use Rattle.bng_base.specs.PppGrammar.{ControlPacket}
use Rattle.bng_ppp_wire.specs.declared.code.TheConstants.{CONFIGURE_REQUEST, CONFIGURE_ACK, CONFIGURE_NAK, CONFIGURE_REJECT, TERMINATE_REQUEST, TERMINATE_ACK, CODE_REJECT}
use Rattle.bng_ppp.specs.Codes.{rejects_code}
use Rattle.bng_ppp.specs.declared.ipcp_codes.IpcpKind.{IpcpKind}
use Rattle.bng_ppp.specs.declared.ipcp_codes.IpcpKind.TheVariants.{Request, Reply, Plain, Unknown}

-- What a packet of IPCP is, by its code. LCP's codes above 7 are unknown here.
abbrev pub ipcp_kind_of : ControlPacket → IpcpKind
ipcp_kind_of p =
    if p.code == CONFIGURE_REQUEST then Request
    else (if p.code == CONFIGURE_ACK || p.code == CONFIGURE_NAK || p.code == CONFIGURE_REJECT then Reply
    else (if p.code == TERMINATE_REQUEST then Plain Rtr
    else (if p.code == TERMINATE_ACK then Plain Rta
    else (if p.code == CODE_REJECT then Plain (if rejects_code p.body then RxjMinus else RxjPlus)
    else Unknown))))
