use Rattle.std.proofs.Common.{◌≡◌, ◌∙◌, ℕ, Some, ap, sym}
use Rattle.std.specs.Prelude.{option_map}
use Rattle.bng_base.specs.declared.address.SessionNo.{SessionNo}
use Rattle.bng_steps.specs.declared.session.Lease.{Lease}
use Rattle.bng_steps.specs.declared.session.Session.{Session}
use Rattle.bng_steps.specs.Changes.{lease_after, meters_after, with_change}
use Rattle.bng_steps.specs.TermRows.{whole}
use Rattle.bng_steps.specs.State.{State, with_session}
use Rattle.bng_steps.proofs.Obeying.{keeps_leased, whole_changed}
use Rattle.bng_steps.proofs.Replacing.{number_back, put_back, vacant_back}
use Rattle.bng_steps.proofs.Serves.{shares_as}
use Rattle.bng_steps.proofs.SumsKept.{recast_keeps}
use Rattle.bng_steps.proofs.Values.{same_some}
use Rattle.bng_steps.proofs.changes.change.Given.{Over}
use Rattle.bng_steps.proofs.changes.change.Goals as goal
use Rattle.bng_steps.proofs.changes.change.Goals.{After-take-session}

-- the session that was taken out has the lease
leased : (g : Over) (c : After-take-session g) → c.take-session.result.lease ≡ Some c.args.meant.now.lease
leased g c = c.requires.leased c.take-session.result (sym c.take-session.ensures.value)

same_number : (g : Over) (c : After-take-session g) → c.take-session.result.number.0 ≡ c.args.meant.now.term.session.0
same_number g c = ap (λ (n : SessionNo). n.0) c.take-session.ensures.number

pub put-requires-clause-number : goal.put-requires-clause-number
put-requires-clause-number g c =
    let d = (goal.at.put-requires-clause-number g c).After-take-session in
    number_back c.args.served.now c.take-session.new.self c.args.meant.now.term.session.0 c.take-session.result.number.0 c.take-session.ensures.after (same_number g d) c.take-session.ensures.of_shard

pub put-requires-clause-vacant : goal.put-requires-clause-vacant
put-requires-clause-vacant g c =
    let d = (goal.at.put-requires-clause-vacant g c).After-take-session in
    vacant_back c.args.served.now c.take-session.new.self c.args.meant.now.term.session.0 c.take-session.result.number.0 c.take-session.ensures.after (same_number g d)

pub put-requires-clause-apart : goal.put-requires-clause-apart
put-requires-clause-apart g c unique =
    let d = (goal.at.put-requires-clause-apart g c).After-take-session in
    let x = c.take-session.result in
    let y : Session = record x { lease = Some c.lease_after-lease.result } in
    shares_as c.take-session.new.self.sessions x y
    (ap (λ (l : Lease). Some l.address) c.lease_after-lease.ensures ∙ sym (ap (option_map (λ (l : Lease). l.address)) (leased g d))) (c.take-session.ensures.apart unique)

pub put-requires-clause-leased : goal.put-requires-clause-leased
put-requires-clause-leased g c =
    let d = (goal.at.put-requires-clause-leased g c).After-take-session in
    keeps_leased c.take-session.result c.args.meant.now.lease c.lease_after-lease.result (leased g d) c.take-session.ensures.leased

pub returns-clause-sums : goal.returns-clause-sums
returns-clause-sums g c = recast_keeps c.args.terms.now c.recast.new.self c.lease_after-lease.result.serial c.unwrap_or-place.result c.recast.ensures

pub returns-clause-changed : goal.returns-clause-changed
returns-clause-changed g c x at =
    let d = (goal.at.returns-clause-changed g c).After-take-session in
    let r = c.args.incoming.now.rules.now in
    let now = c.args.incoming.now.moment in
    let s = c.args.served.now in
    let t = c.args.terms.now in
    let w = c.args.wanted.now in
    let old = c.args.meant.now.profile in
    let lease = c.args.meant.now.lease in
    let n = c.args.meant.now.term.session.0 in
    let k = c.lease_after-lease.result in
    let place = c.unwrap_or-place.result in
    let it : c.take-session.result ≡ x = same_some c.take-session.result x (c.take-session.ensures.value ∙ at) in
    let put = put_back s c.take-session.new.self n c.take-session.result.number.0 c.take-session.ensures.after (same_number g d) c.put.new.self (record c.take-session.result { lease = Some k }) c.put.ensures
    ∙ ap (λ (z : Session). with_session s n (record z { lease = Some k })) it in
    let started = c.change_meters.ensures ∙ ap (λ (z : Session). let q : State = record c.put.new.self { meters = meters_after r c.put.new.self z.number now old place } in q) it in
    whole_changed r s c.put.new.self c.change_meters.new.served n x k t c.recast.new.self now old place put started c.recast.ensures (ap (λ (l : Lease). l.profile) c.lease_after-lease.ensures)
    ∙ ap (λ (l : Lease). with_change (whole s t) n x l (meters_after r (whole s t) x.number now old place)) c.lease_after-lease.ensures
    ∙ ap (λ (p : ℕ). with_change (whole s t) n x (lease_after lease w p) (meters_after r (whole s t) x.number now old p)) c.unwrap_or-place.ensures
