-- What becomes of a reply to the gateway's Configure-Request.
use Rattle.std.proofs.Common.{◌≡◌, ℕ, List, ap, ◌∙◌}
use Rattle.bng_automaton.specs.declared.event.Event.TheVariants.{Rcn}
use Rattle.bng_base.specs.PppGrammar.{ControlPacket}
use Rattle.bng_lcp.specs.declared.configure_reply.Taken.TheVariants.{Changed, Ignored}
use Rattle.bng_lcp.specs.Ask.{Ask}
use Rattle.bng_lcp.specs.ConfigureReply.{Takes}
use Rattle.bng_ppp.specs.LcpState.{LcpState}
use Rattle.bng_ppp.specs.Said.{Said, quiet}
use Rattle.bng_ppp.specs.Automaton.{plain, Moves}
use Rattle.bng_ppp.specs.ConfigureReply.{Replies, taken}

pub changed : (p : ControlPacket) (echo now : ℕ) (random : List ℕ) (old : LcpState) (ask : Ask) (says : Said) (new : LcpState) → Takes Changed old.ask p random ask → Moves Rcn (plain old.kept p.id) echo now (taken old ask) says new → Replies p echo now random old says new
changed p echo now random old ask says new takes moves = record { answer = Changed; ask = ask; takes = takes; after = moves }

pub ignored : (p : ControlPacket) (echo now : ℕ) (random : List ℕ) (old : LcpState) (ask : Ask) (says : Said) (new : LcpState) → Takes Ignored old.ask p random ask → says ≡ quiet → new ≡ record old { ask = ask } → Replies p echo now random old says new
ignored p echo now random old ask says new takes silent kept =
    record { answer = Ignored; ask = ask; takes = takes; after = (silent, kept ∙ ap (λ (a : Ask). record old { ask = a }) takes.3) }
