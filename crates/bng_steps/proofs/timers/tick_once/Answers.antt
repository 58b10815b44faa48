use Rattle.std.proofs.Common.{◌≡◌, ◌∙◌, ℕ, ap, length, refl, subst, sym}
use Rattle.bng_base.specs.declared.address.SessionNo.{SessionNo}
use Rattle.bng_lns.specs.Tunnels.{TunnelsState}
use Rattle.bng_sessions.specs.Sessions.{NoneShares, without}
use Rattle.bng_steps.specs.Placed.{ArePlaced, IsPlaced}
use Rattle.bng_steps.specs.Indexed.{address_of}
use Rattle.bng_steps.specs.Passing.{cause_at, passed_at}
use Rattle.bng_steps.specs.State.{State, beside_at, with_tunnels}
use Rattle.bng_steps.specs.Timed.{LookedOnce, RemindedOnce}
use Rattle.bng_steps.proofs.DueLaws.{due_stays}
use Rattle.bng_steps.proofs.Looking.{looked_apart, looked_few, looked_placed, looked_sums, reminded_apart, reminded_placed, reminded_sums, timed}
use Rattle.bng_steps.proofs.Replacing.{number_back, placed_with, put_back, taken_still, vacant_back}
use Rattle.bng_steps.proofs.SumsKept.{keeps_then}
use Rattle.bng_steps.proofs.timers.tick_once.Given.{Over}
use Rattle.bng_steps.proofs.timers.tick_once.Goals as goal
use Rattle.bng_steps.proofs.timers.tick_once.Goals.{After-remind_link-question_count, After-look_at-question_count}

-- the session keeps its number
same_number : (g : Over) (c : After-look_at-question_count g) → c.look_at-question_count.new.session.number.0 ≡ c.in-Some.number.0
same_number g c = ap (λ (n : SessionNo). n.0) (c.look_at-question_count.ensures.number ∙ c.remind_link-question_count.ensures.number ∙ c.take-session.ensures.number)

-- the others stay while the session is out
still : (g : Over) (c : After-look_at-question_count g) → c.look_at-question_count.new.served ≡ record (with_tunnels c.args.served.now c.look_at-question_count.new.served.tunnels) { sessions = without c.args.served.now.sessions c.in-Some.number.0 }
still g c =
    let u = c.look_at-question_count.new.served.tunnels in
    taken_still c.args.served.now c.take-session.new.self c.look_at-question_count.new.served c.in-Some.number.0 u c.take-session.ensures.after
    (c.look_at-question_count.ensures.others ∙ ap (λ (t : State). with_tunnels t u) c.remind_link-question_count.ensures.others)

-- it stays where it is
reminded_there : (g : Over) (c : After-remind_link-question_count g) → IsPlaced c.args.incoming.now.rules.now c.remind_link-question_count.new.session.way
reminded_there g c =
    let now = c.args.incoming.now.moment in
    let x = c.take-session.result in
    reminded_placed c.args.incoming.now.rules.now c.args.incoming.now.at now c.args.incoming.now.item.now.random (beside_at now c.question_count-question_count.result c.take-session.new.self.tunnels) x c.remind_link-question_count.new.session (beside_at now c.remind_link-question_count.result c.remind_link-question_count.new.served.tunnels) c.args.terms.now c.remind_link-question_count.new.terms c.args.outs.now.items c.remind_link-question_count.new.outs.items
    x.service c.remind_link-question_count.ensures.reminded (c.requires.placed c.in-Some.number.0 x (sym c.take-session.ensures.value))

pub take-session-requires : goal.take-session-requires
take-session-requires g c =
    let first = c.in-Some.ensures.found in
    due_stays c.args.served.now c.in-Some.number.0 first.deadline first.is

pub remind_link-question_count-requires-clause-placed : goal.remind_link-question_count-requires-clause-placed
remind_link-question_count-requires-clause-placed g c = c.requires.placed c.in-Some.number.0 c.take-session.result (sym c.take-session.ensures.value)

pub look_at-question_count-requires-clause-placed : goal.look_at-question_count-requires-clause-placed
look_at-question_count-requires-clause-placed g c = reminded_there g ((goal.at.look_at-question_count-requires-clause-placed g c).After-remind_link-question_count)

pub put-requires-clause-number : goal.put-requires-clause-number
put-requires-clause-number g c =
    let d = (goal.at.put-requires-clause-number g c).After-look_at-question_count in
    number_back (with_tunnels c.args.served.now c.look_at-question_count.new.served.tunnels) c.look_at-question_count.new.served c.in-Some.number.0 c.look_at-question_count.new.session.number.0 (still g d) (same_number g d) c.take-session.ensures.of_shard

pub put-requires-clause-vacant : goal.put-requires-clause-vacant
put-requires-clause-vacant g c =
    let d = (goal.at.put-requires-clause-vacant g c).After-look_at-question_count in
    vacant_back (with_tunnels c.args.served.now c.look_at-question_count.new.served.tunnels) c.look_at-question_count.new.served c.in-Some.number.0 c.look_at-question_count.new.session.number.0 (still g d) (same_number g d)

pub put-requires-clause-apart : goal.put-requires-clause-apart
put-requires-clause-apart g c unique =
    let r = c.args.incoming.now.rules.now in
    let a = c.args.incoming.now.at in
    let now = c.args.incoming.now.moment in
    let random = c.args.incoming.now.item.now.random in
    let x = c.take-session.result in
    let after = c.remind_link-question_count.new.session in
    let last = c.look_at-question_count.new.session in
    let others = c.take-session.new.self.sessions in
    let middle = beside_at now c.remind_link-question_count.result c.remind_link-question_count.new.served.tunnels in
    let u₂ = c.look_at-question_count.new.served.tunnels in
    subst (λ (t : State). NoneShares address_of t.sessions last) (sym (c.look_at-question_count.ensures.others ∙ ap (λ (t : State). with_tunnels t u₂) c.remind_link-question_count.ensures.others))
    (looked_apart r a now random c.passed_at-passed.result middle after last (beside_at now c.look_at-question_count.result u₂) c.remind_link-question_count.new.terms c.look_at-question_count.new.terms c.remind_link-question_count.new.outs.items c.look_at-question_count.new.outs.items
    (cause_at c.passed_at-passed.result after.lease now) others c.look_at-question_count.ensures.looked
    (reminded_apart r a now random (beside_at now c.question_count-question_count.result c.take-session.new.self.tunnels) x after middle c.args.terms.now c.remind_link-question_count.new.terms c.args.outs.now.items c.remind_link-question_count.new.outs.items
    x.service others c.remind_link-question_count.ensures.reminded (c.take-session.ensures.apart unique)))

pub returns-clause-sums : goal.returns-clause-sums
returns-clause-sums g c =
    let r = c.args.incoming.now.rules.now in
    let a = c.args.incoming.now.at in
    let now = c.args.incoming.now.moment in
    let random = c.args.incoming.now.item.now.random in
    let x = c.take-session.result in
    let after = c.remind_link-question_count.new.session in
    let middle = beside_at now c.remind_link-question_count.result c.remind_link-question_count.new.served.tunnels in
    keeps_then c.args.terms.now c.remind_link-question_count.new.terms c.look_at-question_count.new.terms
    (reminded_sums r a now random (beside_at now c.question_count-question_count.result c.take-session.new.self.tunnels) x after middle c.args.terms.now c.remind_link-question_count.new.terms c.args.outs.now.items c.remind_link-question_count.new.outs.items
    x.service c.remind_link-question_count.ensures.reminded)
    (looked_sums r a now random c.passed_at-passed.result middle after c.look_at-question_count.new.session (beside_at now c.look_at-question_count.result c.look_at-question_count.new.served.tunnels) c.remind_link-question_count.new.terms c.look_at-question_count.new.terms c.remind_link-question_count.new.outs.items c.look_at-question_count.new.outs.items
    (cause_at c.passed_at-passed.result after.lease now) c.look_at-question_count.ensures.looked)

pub returns-clause-ticked : goal.returns-clause-ticked
returns-clause-ticked g c =
    let d = (goal.at.returns-clause-ticked g c).After-look_at-question_count in
    let first = c.in-Some.ensures.found in
    let r = c.args.incoming.now.rules.now in
    let a = c.args.incoming.now.at in
    let now = c.args.incoming.now.moment in
    let random = c.args.incoming.now.item.now.random in
    let s = c.args.served.now in
    let n = c.in-Some.number.0 in
    let x = c.take-session.result in
    let after = c.remind_link-question_count.new.session in
    let last = c.look_at-question_count.new.session in
    let count = c.look_at-question_count.result in
    let u₁ = c.remind_link-question_count.new.served.tunnels in
    let u₂ = c.look_at-question_count.new.served.tunnels in
    let middle = beside_at now c.remind_link-question_count.result u₁ in
    let outs = c.args.outs.now.items in
    let before = c.question_count-question_count.ensures ∙ ap (λ (t : State). t.question_count) c.take-session.ensures.after in
    let spoke = ap (λ (t : State). t.tunnels) c.take-session.ensures.after in
    let timer = subst (λ (k : ℕ). RemindedOnce x.service r a now random (beside_at now k s.tunnels) x after middle c.args.terms.now c.remind_link-question_count.new.terms outs c.remind_link-question_count.new.outs.items) before
    (subst (λ (t : TunnelsState). RemindedOnce x.service r a now random (beside_at now c.question_count-question_count.result t) x after middle c.args.terms.now c.remind_link-question_count.new.terms outs c.remind_link-question_count.new.outs.items) spoke c.remind_link-question_count.ensures.reminded) in
    let passed : c.passed_at-passed.result ≡ passed_at s.passed after.number = c.passed_at-passed.ensures.moment ∙ ap (passed_at s.passed) (sym (c.remind_link-question_count.ensures.number ∙ c.take-session.ensures.number)) in
    let once = subst (λ (k : ℕ). LookedOnce (cause_at k after.lease now) r a now random k middle after last (beside_at now count u₂) c.remind_link-question_count.new.terms c.look_at-question_count.new.terms c.remind_link-question_count.new.outs.items c.look_at-question_count.new.outs.items) passed c.look_at-question_count.ensures.looked in
    let next = c.count_questions.ensures
    ∙ ap (λ (t : State). let u : State = record t { question_count = count } in u) (put_back (with_tunnels s u₂) c.look_at-question_count.new.served n last.number.0 (still g d) (same_number g d) c.put.new.self last c.put.ensures) in
    let (more, is_timed, sent) = timed r a now random s c.count_questions.new.self c.args.terms.now c.remind_link-question_count.new.terms c.look_at-question_count.new.terms n x after last c.remind_link-question_count.result count u₁ u₂ outs c.remind_link-question_count.new.outs.items c.look_at-question_count.new.outs.items next
    x.service timer once in (
      n,
      record { deadline = first.deadline; is = first.is; due = first.due; first = first.first },
      more,
      λ e moment octets at. (x, sym c.take-session.ensures.value, is_timed e moment octets at),
      sent,
    )

pub returns-clause-placed : goal.returns-clause-placed
returns-clause-placed g c =
    let at = goal.at.returns-clause-placed g c in
    let d = at.After-look_at-question_count in
    let r = c.args.incoming.now.rules.now in
    let now = c.args.incoming.now.moment in
    let s = c.args.served.now in
    let after = c.remind_link-question_count.new.session in
    let last = c.look_at-question_count.new.session in
    let u₂ = c.look_at-question_count.new.served.tunnels in
    let there = looked_placed r c.args.incoming.now.at now c.args.incoming.now.item.now.random c.passed_at-passed.result (beside_at now c.remind_link-question_count.result c.remind_link-question_count.new.served.tunnels) after last (beside_at now c.look_at-question_count.result u₂) c.remind_link-question_count.new.terms c.look_at-question_count.new.terms c.remind_link-question_count.new.outs.items c.look_at-question_count.new.outs.items
    (cause_at c.passed_at-passed.result after.lease now) c.look_at-question_count.ensures.looked (reminded_there g at.After-remind_link-question_count) in
    let next = put_back (with_tunnels s u₂) c.look_at-question_count.new.served c.in-Some.number.0 last.number.0 (still g d) (same_number g d) c.put.new.self last c.put.ensures in
    subst (λ (t : State). ArePlaced r t.sessions) (sym (c.count_questions.ensures ∙ ap (λ (t : State). let u : State = record t { question_count = c.look_at-question_count.result } in u) next))
    (placed_with r s c.in-Some.number.0 last there c.requires.placed)

pub returns-clause-few : goal.returns-clause-few
returns-clause-few g c =
    let now = c.args.incoming.now.moment in
    let after = c.remind_link-question_count.new.session in
    looked_few c.args.incoming.now.rules.now c.args.incoming.now.at now c.args.incoming.now.item.now.random c.passed_at-passed.result (beside_at now c.remind_link-question_count.result c.remind_link-question_count.new.served.tunnels) after c.look_at-question_count.new.session (beside_at now c.look_at-question_count.result c.look_at-question_count.new.served.tunnels) c.remind_link-question_count.new.terms c.look_at-question_count.new.terms c.remind_link-question_count.new.outs.items c.look_at-question_count.new.outs.items
    after.lease refl (length c.args.outs.now.items) c.look_at-question_count.ensures.looked c.remind_link-question_count.ensures.few c.remind_link-question_count.ensures.fewer c.look_at-question_count.ensures.few
