-- The events of the automaton and its actions, by RFC 1661 sections 4.3, 4.4 and 5.
use Rattle.std.specs.Prelude.{ℕ, Bool, Option, option_map, false, None, Some, true, ◌≤◌, length, [], List, fold, ◌≡◌}
use Rattle.bng_automaton.specs.Machine.{Machine}
use Rattle.bng_automaton.specs.Steps.{Steps}
use Rattle.bng_automaton.specs.declared.action.Action.{Action}
use Rattle.bng_automaton.specs.declared.action.Action.TheVariants.{Tlu, Tld, Tls, Tlf, Irc, Zrc, Scr, Sca, Scn, Str, Sta, Scj, Ser}
use Rattle.bng_automaton.specs.declared.event.Event.{Event}
use Rattle.bng_base.specs.PppGrammar.{ControlPacket, options_text}
use Rattle.bng_ppp_wire.specs.View.{packet_of}
use Rattle.bng_ppp_wire.specs.declared.code.TheConstants.{CONFIGURE_REQUEST, TERMINATE_REQUEST, TERMINATE_ACK}
use Rattle.bng_ppp_wire.specs.declared.protocol.TheConstants as protocol
use Rattle.bng_ppp_wire.specs.declared.view.Packet.{Packet}
use Rattle.bng_lcp.specs.ConfigureRequest.{asked}
use Rattle.bng_ppp.specs.Counters.{echo_after}
use Rattle.bng_ppp.specs.Encapsulation.{sent, sent_some}
use Rattle.bng_ppp.specs.Identifiers.{requested, ending, next_of}
use Rattle.bng_ppp.specs.LcpState.{LcpState}
use Rattle.bng_ppp.specs.Said.{Said, quiet}
use Rattle.bng_ppp.specs.declared.automaton.Cause.{Cause}
use Rattle.bng_ppp.specs.declared.counters.Kept.{Kept}

pub record Why : Type 0 where
  -- the restart timer is the cause
  pub timed : Bool
  -- the identifier of a Terminate-Ack
  pub id : ℕ
  -- a Configure-Ack, -Nak or -Reject, a Code-Reject or an Echo-Reply
  pub answer : Option ControlPacket
  -- the peer's MRU, and the Naks without an Ack between, once its Configure-Request is answered
  pub mru : ℕ
  pub naks : ℕ

abbrev pub why : Cause → Why
why c = record { timed = c.timed; id = c.id; answer = option_map packet_of c.answer; mru = c.mru; naks = c.naks }

-- no packet is answered but by a Terminate-Ack with this identifier
abbrev pub plain : Kept → ℕ → Why
plain kept id = record { timed = false; id = id; answer = None; mru = kept.mru; naks = kept.naks }

-- a packet is answered by this one, but for a Configure-Request
abbrev pub answering : Kept → ℕ → ControlPacket → Why
answering kept id p = record (plain kept id) { answer = Some p }

-- the restart timer ran out
abbrev pub by_timer : Kept → Why
by_timer kept = record (plain kept 0) { timed = true }

-- an answer with its header and its protocol fits 4,096 octets
abbrev pub AnswerFits : Option Packet → Type 0
AnswerFits None = Unit {0}
AnswerFits (Some p) = length p.body.now ≤ 4090

pub record Doing : Type 0 where
  pub link : LcpState
  pub said : Said

-- This-Layer-Up: LCP is Opened, and the Echo-Requests begin
abbrev pub kept_up : ℕ → ℕ → Kept → Kept
kept_up echo now k = record k { was_opened = true; unanswered = 0; next_echo = echo_after echo now }

-- Send-Configure-Request
abbrev pub configured : Why → Doing → Doing
configured c d =
    let ids = requested c.timed d.link.kept.ids in
    record {
      link = record d.link { ask = record d.link.ask { sent = Some (record { id = ids.request; options = d.link.ask.wanted }) }; kept = record d.link.kept { ids = ids } };
      said = record d.said { outs = sent protocol.LCP (record { code = CONFIGURE_REQUEST; id = ids.request; body = options_text (asked d.link.ask.wanted) }) d.said.outs };
    }

-- Send-Terminate-Request, without Data
abbrev pub terminated : Why → Doing → Doing
terminated c d =
    let ids = ending c.timed d.link.kept.ids in
    record {
      link = record d.link { kept = record d.link.kept { ids = ids } };
      said = record d.said { outs = sent protocol.LCP (record { code = TERMINATE_REQUEST; id = ids.terminate; body = [] }) d.said.outs };
    }

-- Send-Terminate-Ack, without Data
abbrev pub acknowledged : Why → Doing → Doing
acknowledged c d = record d { said = record d.said { outs = sent protocol.LCP (record { code = TERMINATE_ACK; id = c.id; body = [] }) d.said.outs } }

-- the packet that answers goes out
abbrev pub answered : Why → Doing → Doing
answered c d = record d { said = record d.said { outs = sent_some protocol.LCP c.answer d.said.outs } }

-- one action
abbrev pub acted : Why → ℕ → ℕ → Doing → Action → Doing
acted c echo now d Tlu = record {
  link = record d.link { kept = kept_up echo now d.link.kept };
  said = record d.said { opened = true };
}
acted c echo now d Tld = record d { link = record d.link { kept = record d.link.kept { next_echo = None } } }
acted c echo now d Tls = d
acted c echo now d Tlf = record d { said = record d.said { finished = true } }
acted c echo now d Irc = d
acted c echo now d Zrc = d
acted c echo now d Scr = configured c d
acted c echo now d Sca = answered c (record d { link = record d.link { kept = record d.link.kept { mru = c.mru; naks = c.naks } } })
acted c echo now d Scn = answered c (record d { link = record d.link { kept = record d.link.kept { mru = c.mru; naks = c.naks } } })
acted c echo now d Str = terminated c d
acted c echo now d Sta = acknowledged c d
acted c echo now d Scj = answered c (record d { link = record d.link { kept = record d.link.kept { ids = record d.link.kept.ids { next = next_of d.link.kept.ids.next } } } })
acted c echo now d Ser = answered c d

-- the actions of a cell, one after the other
abbrev pub all_acted : Why → ℕ → ℕ → Doing → List Action → Doing
all_acted c echo now d actions = fold (acted c echo now) d actions

-- The automaton goes over the row of its table, and the row's actions are done in order.
pub record Follows (event : Event) (cause : Why) (echo now : ℕ) (before : Doing) (after : Doing) : Type 0 where
  pub actions : List Action
  pub machine : Machine
  pub steps : Steps before.link.lcp event now actions machine
  pub done : after ≡ all_acted cause echo now (record before { link = record before.link { lcp = machine } }) actions

-- a step that is this event alone
abbrev pub Moves : Event → Why → ℕ → ℕ → LcpState → Said → LcpState → Type 0
Moves event cause echo now old says new = Follows event cause echo now (record { link = old; said = quiet }) (record { link = new; said = says })

-- nothing happens
abbrev pub Rests : LcpState → Said → LcpState → Type 0
Rests old says new = (says ≡ quiet) × (new ≡ old)
