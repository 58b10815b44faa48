-- What one step of a session's link does to the session and to what is sent.
use Rattle.std.specs.Prelude.{◌≡◌, ◌≤◌, ℕ, List, ◌++◌, length, Option, None}
use Rattle.bng_base.specs.declared.item.OutRecord.{OutRecord}
use Rattle.bng_ppp.specs.declared.input.Input.{Input}
use Rattle.bng_ppp.specs.declared.input.Input.TheVariants.{Start, Frame, Timer, Verdict, Close, Lost}
use Rattle.bng_steps.specs.declared.rules.Rules.{Rules}
use Rattle.bng_base.specs.declared.item.At.{At}
use Rattle.bng_steps.specs.declared.session.Lease.{Lease}
use Rattle.bng_steps.specs.declared.session.Session.{Session}
use Rattle.bng_steps.specs.State.{Beside}
use Rattle.bng_steps.specs.Link.{Drives, LinkStep}

-- The session's link made this step: what goes out for it stands after what was to be sent, and the session keeps the new link. One datagram
-- at most says that the session has ended.
pub record Driven (r : Rules) (a : At) (Steps : LinkStep) (beside : Beside) (x : Session) (cause : Option ℕ) (x' : Session) (beside' : Beside) (outs outs' : List OutRecord) : Type 0 where
  pub more : List OutRecord
  pub drives : Drives r a beside x Steps more cause x' beside'
  pub outs_are : outs' ≡ outs ++ more
  pub few_last : length drives.last ≤ 1

-- A live term of a session goes on over this input until the link says its end. A verdict and Close are told where there is none.
abbrev pub LastsOver : Input → Option Lease → Type 0
LastsOver Start lease = Unit {0}
LastsOver (Frame octets) lease = Unit {0}
LastsOver Timer lease = Unit {0}
LastsOver (Verdict accepted address text) lease = lease ≡ None
LastsOver Close lease = lease ≡ None
LastsOver Lost lease = ⊥
