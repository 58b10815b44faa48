-- The events of the automaton and its actions for IPCP, by RFC 1661 sections 4.4 and 5 and RFC 1332 section 2.
use Rattle.std.specs.Prelude.{ℕ, Bool, Option, option_map, false, None, Some, true, List, [], fold, ◌≡◌}
use Rattle.bng_automaton.specs.Machine.{Machine}
use Rattle.bng_automaton.specs.Steps.{Steps}
use Rattle.bng_automaton.specs.declared.action.Action.{Action}
use Rattle.bng_automaton.specs.declared.action.Action.TheVariants.{Tlu, Tld, Tls, Tlf, Irc, Zrc, Scr, Sca, Scn, Str, Sta, Scj, Ser}
use Rattle.bng_automaton.specs.declared.event.Event.{Event}
use Rattle.bng_base.specs.PppGrammar.{ControlPacket, options_text}
use Rattle.bng_ppp_wire.specs.View.{packet_of}
use Rattle.bng_ppp_wire.specs.declared.code.TheConstants.{CONFIGURE_REQUEST, TERMINATE_REQUEST, TERMINATE_ACK}
use Rattle.bng_ppp_wire.specs.declared.protocol.TheConstants as protocol
use Rattle.bng_ipcp.specs.ConfigureRequest.{asked}
use Rattle.bng_ppp.specs.Encapsulation.{sent, sent_some}
use Rattle.bng_ppp.specs.Identifiers.{requested, ending, next_of}
use Rattle.bng_ppp.specs.IpcpState.{IpcpState}
use Rattle.bng_ppp.specs.Said.{Said}
use Rattle.bng_ppp.specs.declared.ipcp_automaton.IpcpCause.{IpcpCause}
use Rattle.bng_ppp.specs.declared.ipcp_counters.IpcpKept.{IpcpKept}

-- What the actions of an event send and keep.
pub record IpcpWhy : Type 0 where
  -- the restart timer is the cause
  pub timed : Bool
  -- the identifier of a Terminate-Ack
  pub id : ℕ
  -- a Configure-Ack, -Nak or -Reject, or a Code-Reject
  pub answer : Option ControlPacket
  -- the Naks without an Ack between, once the peer's Configure-Request is answered
  pub naks : ℕ

abbrev pub ipcp_why : IpcpCause → IpcpWhy
ipcp_why c = record { timed = c.timed; id = c.id; answer = option_map packet_of c.answer; naks = c.naks }

-- no packet is answered but by a Terminate-Ack with this identifier
abbrev pub ipcp_plain : IpcpKept → ℕ → IpcpWhy
ipcp_plain kept id = record { timed = false; id = id; answer = None; naks = kept.naks }

-- a packet is answered by this one, but for a Configure-Request
abbrev pub ipcp_answering : IpcpKept → ℕ → ControlPacket → IpcpWhy
ipcp_answering kept id p = record (ipcp_plain kept id) { answer = Some p }

-- the restart timer ran out
abbrev pub ipcp_by_timer : IpcpKept → IpcpWhy
ipcp_by_timer kept = record (ipcp_plain kept 0) { timed = true }

-- IPCP, and what went out and was told so far: opened says that it came to Opened, finished that it finished
pub record IpcpDoing : Type 0 where
  pub ipcp : IpcpState
  pub said : Said

-- Send-Configure-Request
abbrev pub ipcp_configured : IpcpWhy → IpcpDoing → IpcpDoing
ipcp_configured c d =
    let ids = requested c.timed d.ipcp.kept.ids in
    record {
      ipcp = record d.ipcp { ask = record d.ipcp.ask { sent = Some (record { id = ids.request; options = d.ipcp.ask.wanted }) }; kept = record d.ipcp.kept { ids = ids } };
      said = record d.said { outs = sent protocol.IPCP (record { code = CONFIGURE_REQUEST; id = ids.request; body = options_text (asked d.ipcp.ask.wanted) }) d.said.outs };
    }

-- Send-Terminate-Request, without Data
abbrev pub ipcp_terminated : IpcpWhy → IpcpDoing → IpcpDoing
ipcp_terminated c d =
    let ids = ending c.timed d.ipcp.kept.ids in
    record {
      ipcp = record d.ipcp { kept = record d.ipcp.kept { ids = ids } };
      said = record d.said { outs = sent protocol.IPCP (record { code = TERMINATE_REQUEST; id = ids.terminate; body = [] }) d.said.outs };
    }

-- Send-Terminate-Ack, without Data
abbrev pub ipcp_acknowledged : IpcpWhy → IpcpDoing → IpcpDoing
ipcp_acknowledged c d = record d { said = record d.said { outs = sent protocol.IPCP (record { code = TERMINATE_ACK; id = c.id; body = [] }) d.said.outs } }

-- the packet that answers goes out
abbrev pub ipcp_answered : IpcpWhy → IpcpDoing → IpcpDoing
ipcp_answered c d = record d { said = record d.said { outs = sent_some protocol.IPCP c.answer d.said.outs } }

-- one action
abbrev pub ipcp_acted : IpcpWhy → IpcpDoing → Action → IpcpDoing
ipcp_acted c d Tlu = record d { said = record d.said { opened = true } }
ipcp_acted c d Tld = d
ipcp_acted c d Tls = d
ipcp_acted c d Tlf = record d { said = record d.said { finished = true } }
ipcp_acted c d Irc = d
ipcp_acted c d Zrc = d
ipcp_acted c d Scr = ipcp_configured c d
ipcp_acted c d Sca = ipcp_answered c (record d { ipcp = record d.ipcp { kept = record d.ipcp.kept { naks = c.naks } } })
ipcp_acted c d Scn = ipcp_answered c (record d { ipcp = record d.ipcp { kept = record d.ipcp.kept { naks = c.naks } } })
ipcp_acted c d Str = ipcp_terminated c d
ipcp_acted c d Sta = ipcp_acknowledged c d
ipcp_acted c d Scj = ipcp_answered c (record d { ipcp = record d.ipcp { kept = record d.ipcp.kept { ids = record d.ipcp.kept.ids { next = next_of d.ipcp.kept.ids.next } } } })
ipcp_acted c d Ser = ipcp_answered c d

-- the actions of a cell, one after the other
abbrev pub all_ipcp_acted : IpcpWhy → IpcpDoing → List Action → IpcpDoing
all_ipcp_acted c d actions = fold (ipcp_acted c) d actions

-- The automaton goes over the row of its table, and the row's actions are done in order.
pub record IpcpFollows (event : Event) (cause : IpcpWhy) (now : ℕ) (before : IpcpDoing) (after : IpcpDoing) : Type 0 where
  pub actions : List Action
  pub machine : Machine
  pub steps : Steps before.ipcp.machine event now actions machine
  pub done : after ≡ all_ipcp_acted cause (record before { ipcp = record before.ipcp { machine = machine } }) actions
