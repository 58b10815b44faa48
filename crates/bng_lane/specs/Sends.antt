-- What goes out of the lane, and whether the outside sent it.
use Rattle.std.specs.Prelude.{◌≡◌, ℕ, Bool, List}
use Rattle.bng_base.specs.Chain.{Chain}
use Rattle.bng_verdict.specs.declared.question.AuthAsk.{AuthAsk}
use Rattle.bng_lane.specs.State.{LaneState, noted}
use Rattle.bng_lane.specs.Due.{IsResentBy, NoneToResend}
use Rattle.bng_lane.specs.Asking.{IsAskedBy}

-- a request that the outside was given to send, and whether it did
pub record LaneSend : Type 0 where
  pub id : ℕ
  pub octets : List ℕ
  pub sent : Bool

-- a request that was given out again
abbrev pub Resends : (now : ℕ) → LaneState → LaneSend → LaneState → Type 0
Resends now old s new = (m : LaneState) × IsResentBy old now s.id s.octets m × (new ≡ noted s.id s.sent m)

-- all requests that were to be sent again, one after another, until none is
abbrev pub AllResent : (now : ℕ) → LaneState → List LaneSend → LaneState → Type 0
AllResent now old sends new = Chain (Resends now) old sends new × NoneToResend new now

-- a question, the Request Authenticator that was drawn for it, and the send of its request
pub record LaneAsk : Type 0 where
  pub ask : AuthAsk
  pub authenticator : List ℕ
  pub send : LaneSend

-- a question whose request was given out
abbrev pub Asks : (now : ℕ) → LaneState → LaneAsk → LaneState → Type 0
Asks now old a new = (m : LaneState) × IsAskedBy old now a.ask a.authenticator a.send.id a.send.octets m × (new ≡ noted a.send.id a.send.sent m)
