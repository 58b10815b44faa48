use Rattle.std.proofs.Common.{◌≡◌, ◌∙◌, Some, ap, subst, sym}
use Rattle.bng_base.specs.declared.address.SessionNo.{SessionNo}
use Rattle.bng_steps.specs.declared.session.Session.{Session}
use Rattle.bng_steps.specs.Placed.{ArePlaced, IsPlaced}
use Rattle.bng_steps.specs.Link.{ended}
use Rattle.bng_steps.specs.Serving.{KeepsLease}
use Rattle.bng_steps.specs.Indexed.{address_of}
use Rattle.bng_steps.specs.State.{State, with_session}
use Rattle.bng_steps.proofs.Replacing.{ended_keeps, number_back, placed_with, put_back, vacant_back, whole_ended}
use Rattle.bng_steps.proofs.Serves.{nothing_shared}
use Rattle.bng_steps.proofs.SumsKept.{closed_keeps}
use Rattle.bng_steps.proofs.timers.end_once.Given.{Over}
use Rattle.bng_steps.proofs.timers.end_once.Goals as goal
use Rattle.bng_steps.proofs.timers.end_once.Goals.{After-end}

-- it keeps its number
same_number : (g : Over) (c : After-end g) → c.end.new.self.number.0 ≡ c.in-Some.number.0
same_number g c = ap (λ (y : Session). y.number.0) c.end.ensures ∙ ap (λ (n : SessionNo). n.0) c.take-session.ensures.number

pub tell_end-requires-clause-placed : goal.tell_end-requires-clause-placed
tell_end-requires-clause-placed g c = c.requires.placed c.in-Some.number.0 c.take-session.result (sym c.take-session.ensures.value)

pub put-requires-clause-number : goal.put-requires-clause-number
put-requires-clause-number g c =
    let d = (goal.at.put-requires-clause-number g c).After-end in
    number_back c.args.served.now c.take-session.new.self c.in-Some.number.0 c.end.new.self.number.0 c.take-session.ensures.after (same_number g d) c.take-session.ensures.of_shard

pub put-requires-clause-vacant : goal.put-requires-clause-vacant
put-requires-clause-vacant g c =
    let d = (goal.at.put-requires-clause-vacant g c).After-end in
    vacant_back c.args.served.now c.take-session.new.self c.in-Some.number.0 c.end.new.self.number.0 c.take-session.ensures.after (same_number g d)

pub put-requires-clause-apart : goal.put-requires-clause-apart
put-requires-clause-apart g c unique = nothing_shared c.take-session.new.self.sessions c.end.new.self (ap address_of c.end.ensures)

pub put-requires-clause-leased : goal.put-requires-clause-leased
put-requires-clause-leased g c = subst (λ (y : Session). KeepsLease y.service y.lease) (sym c.end.ensures) (ended_keeps c.take-session.result.service c.take-session.result.lease c.take-session.ensures.leased)

pub returns-clause-ended : goal.returns-clause-ended
returns-clause-ended g c =
    let d = (goal.at.returns-clause-ended g c).After-end in
    let x = c.take-session.result in
    let lowest = c.in-Some.ensures.found in
    let (padt, ends, sent) = c.tell_end.ensures.told in
    let next = put_back c.args.served.now c.take-session.new.self c.in-Some.number.0 c.end.new.self.number.0 c.take-session.ensures.after (same_number g d) c.put.new.self c.end.new.self c.put.ensures
    ∙ ap (λ (y : Session). with_session c.args.served.now c.in-Some.number.0 y) c.end.ensures in (
      c.in-Some.number.0,
      record { stays = lowest.stays; lowest = lowest.lowest },
      x,
      sym c.take-session.ensures.value,
      padt,
      ends,
      whole_ended c.args.served.now c.put.new.self c.in-Some.number.0 x (ended x) c.lease.result c.args.terms.now c.close.new.self c.lease.ensures 10 next c.close.ensures,
      sent,
    )

pub returns-clause-placed : goal.returns-clause-placed
returns-clause-placed g c =
    let d = (goal.at.returns-clause-placed g c).After-end in
    let next = put_back c.args.served.now c.take-session.new.self c.in-Some.number.0 c.end.new.self.number.0 c.take-session.ensures.after (same_number g d) c.put.new.self c.end.new.self c.put.ensures in
    subst (λ (t : State). ArePlaced c.args.rules.now t.sessions) (sym next)
    (placed_with c.args.rules.now c.args.served.now c.in-Some.number.0 c.end.new.self (subst (λ (y : Session). IsPlaced c.args.rules.now y.way) (sym c.end.ensures) (c.requires.placed c.in-Some.number.0 c.take-session.result (sym c.take-session.ensures.value))) c.requires.placed)

pub returns-clause-sums : goal.returns-clause-sums
returns-clause-sums g c = closed_keeps c.args.terms.now c.close.new.self c.lease.result (Some 10) c.close.ensures
