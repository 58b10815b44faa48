-- What becomes of a reply to the gateway's Configure-Request of IPCP.
use Rattle.std.proofs.Common.{ℕ, ap}
use Rattle.bng_automaton.specs.declared.event.Event.TheVariants.{Rcn}
use Rattle.bng_base.specs.PppGrammar.{ControlPacket}
use Rattle.bng_ipcp.specs.declared.configure_reply.Taken.TheVariants.{Changed, Ignored}
use Rattle.bng_ipcp.specs.Ask.{Ask}
use Rattle.bng_ipcp.specs.ConfigureReply.{Takes}
use Rattle.bng_ppp.specs.IpcpState.{IpcpState}
use Rattle.bng_ppp.specs.IpcpAutomaton.{IpcpDoing, IpcpFollows, ipcp_plain}
use Rattle.bng_ppp.specs.IpcpPacket.{IpcpReplies, ipcp_taken}
use Rattle.bng_ppp.specs.Said.{Said}

-- IPCP, after what the step did so far
abbrev pub so_far : IpcpState → Said → IpcpDoing
so_far i s = record { ipcp = i; said = s }

pub ipcp_changed : (p : ControlPacket) (now : ℕ) (old : IpcpState) (says : Said) (ask : Ask) (after : IpcpDoing) → Takes Changed old.ask p ask
    → IpcpFollows Rcn (ipcp_plain old.kept p.id) now (ipcp_taken (so_far old says) ask) after → IpcpReplies p now (so_far old says) after
ipcp_changed p now old says ask after takes follows = record { answer = Changed; ask = ask; takes = takes; done = follows }

pub ipcp_ignored : (p : ControlPacket) (now : ℕ) (old : IpcpState) (says : Said) (ask : Ask) → Takes Ignored old.ask p ask
    → IpcpReplies p now (so_far old says) (so_far (record old { ask = ask }) says)
ipcp_ignored p now old says ask takes = record { answer = Ignored; ask = ask; takes = takes; done = ap (λ (a : Ask). so_far (record old { ask = a }) says) takes.3 }
