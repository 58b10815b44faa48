-- What a step says, without where it lies in memory.
use Rattle.std.specs.Prelude.{ℕ, Bool, false, List, [], map}
use Rattle.bng_base.specs.Packet.{Packet}
use Rattle.bng_ppp.specs.declared.lcp_outcome.LcpOutcome.{LcpOutcome}

abbrev pub payloads : List Packet → List (List ℕ)
payloads frames = map (λ (f : Packet). f.payload) frames

pub record Said : Type 0 where
  -- the octets of the frames that are sent, in this order
  pub outs : List (List ℕ)
  -- LCP came to Opened
  pub opened : Bool
  -- LCP finished
  pub finished : Bool

abbrev pub said : LcpOutcome → Said
said s = record { outs = payloads s.outs.items; opened = s.opened; finished = s.finished }

-- nothing happens
abbrev pub quiet : Said
quiet = record { outs = []; opened = false; finished = false }
