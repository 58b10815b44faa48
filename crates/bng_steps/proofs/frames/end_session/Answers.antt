use Rattle.std.proofs.Common.{◌≡◌, ◌∙◌, Some, ap, subst, sym}
use Rattle.bng_base.specs.declared.address.SessionNo.{SessionNo}
use Rattle.bng_steps.specs.declared.session.Session.{Session}
use Rattle.bng_steps.specs.Link.{ended}
use Rattle.bng_sessions.specs.Sessions.{value_at}
use Rattle.bng_steps.specs.Serving.{KeepsLease}
use Rattle.bng_steps.specs.Indexed.{address_of}
use Rattle.bng_steps.specs.State.{with_session}
use Rattle.bng_steps.proofs.Replacing.{ended_keeps, number_back, put_back, vacant_back, whole_ended}
use Rattle.bng_steps.proofs.Serves.{live_stays, nothing_shared}
use Rattle.bng_steps.proofs.SumsKept.{closed_keeps}
use Rattle.bng_steps.proofs.Values.{same_some}
use Rattle.bng_steps.proofs.frames.end_session.Given.{Over}
use Rattle.bng_steps.proofs.frames.end_session.Goals as goal
use Rattle.bng_steps.proofs.frames.end_session.Goals.{After-end}

pub take-session-requires : goal.take-session-requires
take-session-requires g c = live_stays (value_at c.args.served.now.sessions c.args.number.0) c.requires.lives

-- it keeps its number
same_number : (g : Over) (c : After-end g) → c.end.new.self.number.0 ≡ c.args.number.0
same_number g c = ap (λ (y : Session). y.number.0) c.end.ensures ∙ ap (λ (n : SessionNo). n.0) c.take-session.ensures.number

pub put-requires-clause-number : goal.put-requires-clause-number
put-requires-clause-number g c =
    let d = (goal.at.put-requires-clause-number g c).After-end in
    number_back c.args.served.now c.take-session.new.self c.args.number.0 c.end.new.self.number.0 c.take-session.ensures.after (same_number g d) c.take-session.ensures.of_shard

pub put-requires-clause-vacant : goal.put-requires-clause-vacant
put-requires-clause-vacant g c =
    let d = (goal.at.put-requires-clause-vacant g c).After-end in
    vacant_back c.args.served.now c.take-session.new.self c.args.number.0 c.end.new.self.number.0 c.take-session.ensures.after (same_number g d)

pub put-requires-clause-apart : goal.put-requires-clause-apart
put-requires-clause-apart g c unique = nothing_shared c.take-session.new.self.sessions c.end.new.self (ap address_of c.end.ensures)

pub put-requires-clause-leased : goal.put-requires-clause-leased
put-requires-clause-leased g c = subst (λ (y : Session). KeepsLease y.service y.lease) (sym c.end.ensures) (ended_keeps c.take-session.result.service c.take-session.result.lease c.take-session.ensures.leased)

pub returns-clause-sums : goal.returns-clause-sums
returns-clause-sums g c = closed_keeps c.args.terms.now c.close.new.self c.lease.result (Some 1) c.close.ensures

pub returns-clause-ended : goal.returns-clause-ended
returns-clause-ended g c x is =
    let d = (goal.at.returns-clause-ended g c).After-end in
    let it : c.take-session.result ≡ x = same_some c.take-session.result x (c.take-session.ensures.value ∙ is) in
    let next = put_back c.args.served.now c.take-session.new.self c.args.number.0 c.end.new.self.number.0 c.take-session.ensures.after (same_number g d) c.put.new.self c.end.new.self c.put.ensures
    ∙ ap (λ (y : Session). with_session c.args.served.now c.args.number.0 y) c.end.ensures
    ∙ ap (λ (y : Session). with_session c.args.served.now c.args.number.0 (ended y)) it in
    whole_ended c.args.served.now c.put.new.self c.args.number.0 x (ended x) c.lease.result c.args.terms.now c.close.new.self (c.lease.ensures ∙ ap (λ (y : Session). y.lease) it) 1 next c.close.ensures
