-- A session that is due has not ended.
use Rattle.std.proofs.Common.{◌≡◌, ℕ, Bool, true, false, not, Option, Some, None, refl, ap, ◌∙◌}
use Rattle.std.specs.Option.{option_and_then}
use Rattle.bng_sessions.specs.Sessions.{value_at}
use Rattle.bng_steps.specs.declared.session.Lease.{Lease}
use Rattle.bng_steps.specs.declared.session.Service.{Service}
use Rattle.bng_steps.specs.declared.session.Service.TheVariants.{Provisioned, Linked}
use Rattle.bng_steps.specs.declared.session.Session.{Session}
use Rattle.bng_steps.specs.State.{State, leaves_in}
use Rattle.bng_steps.specs.Timers.{deadline_in, deadline_of, deadline_unless, due_at, does_stay, stays_at}
use Rattle.bng_steps.proofs.Values.{none_some}

read_some : (o : Option Session) (d : ℕ) → option_and_then deadline_of o ≡ Some d → (x : Session) × (o ≡ Some x) × (deadline_of x ≡ Some d)
read_some None d e = absurd (none_some d e)
read_some (Some x) d e = (x, refl, e)

not_over : (b : Bool) (o : Option ℕ) (d : ℕ) → deadline_unless b o ≡ Some d → not b ≡ true
not_over true o d e = absurd (none_some d e)
not_over false o d e = refl

due_stays_in : (v : Service) (lease : Option Lease) (d : ℕ) → deadline_in v lease ≡ Some d → not (leaves_in v) ≡ true
due_stays_in (Provisioned over) lease d e = not_over over _ d e
due_stays_in (Linked m) lease d e = not_over m.ended _ d e

-- the session that has a deadline stays
pub due_stays : (s : State) (n d : ℕ) → due_at s n ≡ Some d → stays_at s n ≡ true
due_stays s n d e =
    let (x, at, is) = read_some (value_at s.sessions n) d e in
    ap does_stay at ∙ due_stays_in x.service x.lease d is
