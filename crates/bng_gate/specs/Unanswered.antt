-- The Stops that the server of accounting did not acknowledge, and how they are written.
use Rattle.std.specs.Prelude.{◌≡◌, ℕ, ◌≤◌, List, []}
use Rattle.bng_acct.specs.declared.facts.TermFacts.{TermFacts}
use Rattle.bng_acct.specs.Spool.{unacked_stops}
use Rattle.bng_base.specs.Told.{SinkTold, Grows}
use Rattle.bng_desk.specs.Model.{Desk}
use Rattle.bng_desk.specs.Report.{stop_lines}
use Rattle.bng_gate.specs.Saying.{FailsToSay}

-- what the Stops that are not acknowledged say, by session and term number
abbrev pub unanswered_of : Desk → List TermFacts
unanswered_of d = unacked_stops d.billing.spool

-- a line for each
abbrev pub unanswered_text : Desk → List ℕ
unanswered_text d = stop_lines d.billing.spool.rules.wall (unanswered_of d)

-- some Stop is not acknowledged, and the lines of those were written
pub record NamesStops (last : Desk) (err err' : SinkTold) : Type 0 where
  pub some : ¬ (unanswered_of last ≡ [])
  pub named : Grows err.bytes err'.bytes (unanswered_text last)
  pub later : err.faults ≤ err'.faults

-- and a front of them was written, and then the sink failed
pub record FailsToName (last : Desk) (err err' : SinkTold) : Type 0 where
  pub some : ¬ (unanswered_of last ≡ [])
  pub fails : FailsToSay err err' (unanswered_text last)
