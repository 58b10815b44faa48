-- How far the script is.
use Rattle.std.specs.Prelude.{ℕ, Bool, ◌/◌, ◌≤◌}
use Rattle.bng_peer.specs.declared.operator.Operator.{Operator}

-- what the operator counts
pub record Progress : Type 0 where
  pub subscribers : ℕ
  pub resting : ℕ
  pub reported : ℕ
  pub stopped : ℕ
  pub next_to_end : ℕ
  pub has_said_stop : Bool

abbrev pub progress_of : Operator → Progress
progress_of o = record {
  subscribers = o.subscribers;
  resting = o.resting;
  reported = o.reported;
  stopped = o.stopped;
  next_to_end = o.next_to_end;
  has_said_stop = o.has_said_stop;
}

-- all packets are exchanged, and each term had an interim record acknowledged
abbrev pub AllRest : Progress → Type 0
AllRest p = (p.subscribers ≤ p.resting) × (p.subscribers ≤ p.reported)

-- the terms of the subscribers of odd number, who are the half of them, had their Stops acknowledged
abbrev pub AllStopped : Progress → Type 0
AllStopped p = p.subscribers / 2 ≤ p.stopped
