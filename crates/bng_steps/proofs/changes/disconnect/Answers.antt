use Rattle.std.proofs.Common.{◌≡◌, ◌∙◌, ℕ, ap, subst, sym}
use Rattle.bng_base.specs.declared.address.SessionNo.{SessionNo}
use Rattle.bng_lns.specs.Tunnels.{TunnelsState}
use Rattle.bng_sessions.specs.Sessions.{NoneShares, without}
use Rattle.bng_steps.specs.declared.session.Session.{Session}
use Rattle.bng_steps.specs.Indexed.{address_of}
use Rattle.bng_steps.specs.Link.{admin_reset}
use Rattle.bng_steps.specs.State.{State, beside_at, with_session, with_tunnels}
use Rattle.bng_steps.specs.Timed.{LostTerm}
use Rattle.bng_steps.proofs.Looking.{lost_apart, lost_sums}
use Rattle.bng_steps.proofs.Replacing.{number_back, put_back, taken_still, vacant_back}
use Rattle.bng_steps.proofs.Values.{same_some}
use Rattle.bng_steps.proofs.changes.disconnect.Given.{Over}
use Rattle.bng_steps.proofs.changes.disconnect.Goals as goal
use Rattle.bng_steps.proofs.changes.disconnect.Goals.{After-end_term-question_count}

-- the session keeps its number
same_number : (g : Over) (c : After-end_term-question_count g) → c.end_term-question_count.new.session.number.0 ≡ c.args.meant.now.term.session.0
same_number g c = ap (λ (n : SessionNo). n.0) (c.end_term-question_count.ensures.number ∙ c.take-session.ensures.number)

-- the others stay while the session is out
still : (g : Over) (c : After-end_term-question_count g) → c.end_term-question_count.new.served ≡ record (with_tunnels c.args.served.now c.end_term-question_count.new.served.tunnels) { sessions = without c.args.served.now.sessions c.args.meant.now.term.session.0 }
still g c = taken_still c.args.served.now c.take-session.new.self c.end_term-question_count.new.served c.args.meant.now.term.session.0 c.end_term-question_count.new.served.tunnels c.take-session.ensures.after c.end_term-question_count.ensures.others

pub end_term-question_count-requires-clause-placed : goal.end_term-question_count-requires-clause-placed
end_term-question_count-requires-clause-placed g c = c.requires.placed c.args.meant.now.term.session.0 c.take-session.result (sym c.take-session.ensures.value)

pub put-requires-clause-number : goal.put-requires-clause-number
put-requires-clause-number g c =
    let d = (goal.at.put-requires-clause-number g c).After-end_term-question_count in
    number_back (with_tunnels c.args.served.now c.end_term-question_count.new.served.tunnels) c.end_term-question_count.new.served c.args.meant.now.term.session.0 c.end_term-question_count.new.session.number.0 (still g d) (same_number g d) c.take-session.ensures.of_shard

pub put-requires-clause-vacant : goal.put-requires-clause-vacant
put-requires-clause-vacant g c =
    let d = (goal.at.put-requires-clause-vacant g c).After-end_term-question_count in
    vacant_back (with_tunnels c.args.served.now c.end_term-question_count.new.served.tunnels) c.end_term-question_count.new.served c.args.meant.now.term.session.0 c.end_term-question_count.new.session.number.0 (still g d) (same_number g d)

pub put-requires-clause-apart : goal.put-requires-clause-apart
put-requires-clause-apart g c unique =
    let now = c.args.incoming.now.moment in
    let x' = c.end_term-question_count.new.session in
    subst (λ (t : State). NoneShares address_of t.sessions x') (sym c.end_term-question_count.ensures.others)
    (lost_apart c.args.incoming.now.rules.now c.args.incoming.now.at now c.args.incoming.now.item.now.random (beside_at now c.question_count-question_count.result c.take-session.new.self.tunnels) c.take-session.result x' (beside_at now c.end_term-question_count.result c.end_term-question_count.new.served.tunnels) c.args.terms.now c.end_term-question_count.new.terms c.args.outs.now.items c.end_term-question_count.new.outs.items
    admin_reset c.take-session.result.service c.take-session.new.self.sessions c.end_term-question_count.ensures.lost)

pub returns-clause-sums : goal.returns-clause-sums
returns-clause-sums g c =
    let now = c.args.incoming.now.moment in
    lost_sums c.args.incoming.now.rules.now c.args.incoming.now.at now c.args.incoming.now.item.now.random (beside_at now c.question_count-question_count.result c.take-session.new.self.tunnels) c.take-session.result c.end_term-question_count.new.session (beside_at now c.end_term-question_count.result c.end_term-question_count.new.served.tunnels) c.args.terms.now c.end_term-question_count.new.terms c.args.outs.now.items c.end_term-question_count.new.outs.items
    admin_reset c.take-session.result.service c.end_term-question_count.ensures.lost

pub returns-clause-lost : goal.returns-clause-lost
returns-clause-lost g c x at =
    let d = (goal.at.returns-clause-lost g c).After-end_term-question_count in
    let r = c.args.incoming.now.rules.now in
    let a = c.args.incoming.now.at in
    let now = c.args.incoming.now.moment in
    let random = c.args.incoming.now.item.now.random in
    let s = c.args.served.now in
    let n = c.args.meant.now.term.session.0 in
    let x' = c.end_term-question_count.new.session in
    let count = c.end_term-question_count.result in
    let u = c.end_term-question_count.new.served.tunnels in
    let behind = beside_at now count u in
    let outs = c.args.outs.now.items in
    let outs' = c.end_term-question_count.new.outs.items in
    let it : c.take-session.result ≡ x = same_some c.take-session.result x (c.take-session.ensures.value ∙ at) in
    let before = c.question_count-question_count.ensures ∙ ap (λ (t : State). t.question_count) c.take-session.ensures.after in
    let spoke = ap (λ (t : State). t.tunnels) c.take-session.ensures.after in
    let next : c.count_questions.new.self ≡ record (with_tunnels (with_session s n x') u) { question_count = count } = c.count_questions.ensures
    ∙ ap (λ (t : State). let q : State = record t { question_count = count } in q) (put_back (with_tunnels s u) c.end_term-question_count.new.served n x'.number.0 (still g d) (same_number g d) c.put.new.self x' c.put.ensures) in
    let same : c.count_questions.new.self.tunnels ≡ u = ap (λ (t : State). t.tunnels) next in
    let lost = subst (λ (k : ℕ). LostTerm x.service admin_reset r a now random (beside_at now k s.tunnels) x x' behind c.args.terms.now c.end_term-question_count.new.terms outs outs') before
    (subst (λ (v : TunnelsState). LostTerm x.service admin_reset r a now random (beside_at now c.question_count-question_count.result v) x x' behind c.args.terms.now c.end_term-question_count.new.terms outs outs') spoke
    (subst (λ (z : Session). LostTerm z.service admin_reset r a now random (beside_at now c.question_count-question_count.result c.take-session.new.self.tunnels) z x' behind c.args.terms.now c.end_term-question_count.new.terms outs outs') it c.end_term-question_count.ensures.lost)) in (
      x',
      count,
      next ∙ ap (λ (v : TunnelsState). let q : State = record (with_tunnels (with_session s n x') v) { question_count = count } in q) (sym same),
      subst (λ (v : TunnelsState). LostTerm x.service admin_reset r a now random (beside_at now s.question_count s.tunnels) x x' (beside_at now count v) c.args.terms.now c.end_term-question_count.new.terms outs outs') (sym same) lost,
    )
