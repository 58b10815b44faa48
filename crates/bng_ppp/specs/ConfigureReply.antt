-- A Configure-Ack, -Nak or -Reject of the peer, by RFC 1661 sections 5.2 to 5.4.
use Rattle.std.specs.Prelude.{true, ℕ, List}
use Rattle.bng_automaton.specs.declared.event.Event.TheVariants.{Close, Rca, Rcn}
use Rattle.bng_base.specs.PppGrammar.{ControlPacket}
use Rattle.bng_lcp.specs.Ask.{Ask}
use Rattle.bng_lcp.specs.ConfigureReply.{Takes}
use Rattle.bng_lcp.specs.declared.configure_reply.Taken.{Taken}
use Rattle.bng_lcp.specs.declared.configure_reply.Taken.TheVariants.{Accepted, Changed, Ignored, Unwilling}
use Rattle.bng_ppp.specs.Automaton.{plain, Moves, Rests}
use Rattle.bng_ppp.specs.LcpState.{LcpState}
use Rattle.bng_ppp.specs.Said.{Said}

-- a reply that is not ignored was taken
abbrev pub taken : LcpState → Ask → LcpState
taken old ask = record old { ask = ask; kept = record old.kept { ids = record old.kept.ids { answered = true } } }

abbrev pub AfterReply : Taken → ControlPacket → ℕ → ℕ → LcpState → Ask → Said → LcpState → Type 0
AfterReply Accepted p echo now old ask says new = Moves Rca (plain old.kept p.id) echo now (taken old ask) says new
AfterReply Changed p echo now old ask says new = Moves Rcn (plain old.kept p.id) echo now (taken old ask) says new
AfterReply Unwilling p echo now old ask says new = Moves Close (plain old.kept p.id) echo now (taken old ask) says new
AfterReply Ignored p echo now old ask says new = Rests old says new

-- a Configure-Ack, -Nak or -Reject
pub record Replies (p : ControlPacket) (echo now : ℕ) (random : List ℕ) (old : LcpState) (says : Said) (new : LcpState) : Type 0 where
  pub answer : Taken
  pub ask : Ask
  pub takes : Takes answer old.ask p random ask
  pub after : AfterReply answer p echo now old ask says new
