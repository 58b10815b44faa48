-- What a packet of IPCP does, by RFC 1332 section 2 and RFC 1661 section 5.
use Rattle.std.specs.Prelude.{true, ◌≡◌, ℕ, ◌-◌, take, List, Option}
use Rattle.bng_automaton.specs.declared.event.Event.TheVariants.{Rca, Rcn, Ruc}
use Rattle.bng_base.specs.PppGrammar.{ControlPacket, packet_text}
use Rattle.bng_base.specs.declared.address.Ip4.{Ip4}
use Rattle.bng_ppp_wire.specs.declared.code.TheConstants.{CODE_REJECT}
use Rattle.bng_ipcp.specs.Ask.{Ask}
use Rattle.bng_ipcp.specs.ConfigureReply.{Takes}
use Rattle.bng_ipcp.specs.declared.configure_reply.Taken.{Taken}
use Rattle.bng_ipcp.specs.declared.configure_reply.Taken.TheVariants.{Accepted, Changed, Ignored}
use Rattle.bng_ppp.specs.IpcpAutomaton.{IpcpDoing, IpcpFollows, ipcp_plain, ipcp_answering}
use Rattle.bng_ppp.specs.IpcpConfigureRequest.{IpcpJudges}
use Rattle.bng_ppp.specs.declared.ipcp_codes.IpcpKind.{IpcpKind}
use Rattle.bng_ppp.specs.declared.ipcp_codes.IpcpKind.TheVariants.{Request, Reply, Plain, Unknown}
use Rattle.bng_ppp.specs.declared.ipcp_counters.IpcpKept.{IpcpKept}

-- a reply that is not ignored was taken
abbrev pub ipcp_taken : IpcpDoing → Ask → IpcpDoing
ipcp_taken d ask = record d { ipcp = record d.ipcp { ask = ask; kept = record d.ipcp.kept { ids = record d.ipcp.kept.ids { answered = true } } } }

abbrev pub IpcpAfterReply : Taken → ControlPacket → ℕ → IpcpDoing → Ask → IpcpDoing → Type 0
IpcpAfterReply Accepted p now d ask after = IpcpFollows Rca (ipcp_plain d.ipcp.kept p.id) now (ipcp_taken d ask) after
IpcpAfterReply Changed p now d ask after = IpcpFollows Rcn (ipcp_plain d.ipcp.kept p.id) now (ipcp_taken d ask) after
IpcpAfterReply Ignored p now d ask after = after ≡ d

-- a Configure-Ack, -Nak or -Reject
pub record IpcpReplies (p : ControlPacket) (now : ℕ) (d : IpcpDoing) (after : IpcpDoing) : Type 0 where
  pub answer : Taken
  pub ask : Ask
  pub takes : Takes answer d.ipcp.ask p ask
  pub done : IpcpAfterReply answer p now d ask after

-- a Code-Reject has the rejected packet, cut to the peer's Maximum-Receive-Unit
abbrev pub ipcp_code_reject : IpcpKept → ℕ → ControlPacket → ControlPacket
ipcp_code_reject k mru p = record { code = CODE_REJECT; id = k.ids.next; body = take (mru - 4) (packet_text p) }

-- a packet of IPCP
abbrev pub IpcpHearsKind : IpcpKind → ControlPacket → List (Option Ip4) → ℕ → ℕ → IpcpDoing → IpcpDoing → Type 0
IpcpHearsKind Request p dns mru now d after = IpcpJudges p dns now d after
IpcpHearsKind Reply p dns mru now d after = IpcpReplies p now d after
IpcpHearsKind (Plain event) p dns mru now d after = IpcpFollows event (ipcp_plain d.ipcp.kept p.id) now d after
IpcpHearsKind Unknown p dns mru now d after = IpcpFollows Ruc (ipcp_answering d.ipcp.kept p.id (ipcp_code_reject d.ipcp.kept mru p)) now d after
