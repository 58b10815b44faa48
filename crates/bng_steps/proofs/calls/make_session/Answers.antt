use Rattle.std.proofs.Common.{◌≡◌, ◌∙◌, ℕ, Bool, Option, Some, ap, refl, subst, sym}
use Rattle.std.specs.Prelude.{option_map}
use Rattle.bng_base.specs.declared.address.SessionNo.{SessionNo}
use Rattle.bng_sessions.specs.Sessions.{IsLowestVacant, IsNumberOf, value_at}
use Rattle.bng_steps.specs.declared.session.Session.{Session}
use Rattle.bng_steps.specs.Calls.{MakesSession}
use Rattle.bng_steps.specs.Discovery.{IsVacancy}
use Rattle.bng_steps.specs.Indexed.{address_of}
use Rattle.bng_steps.specs.State.{with_session}
use Rattle.bng_steps.proofs.Serves.{nothing_shared}
use Rattle.bng_steps.proofs.calls.make_session.Given.{Over}
use Rattle.bng_steps.proofs.calls.make_session.Goals as goal
use Rattle.bng_steps.proofs.calls.make_session.Goals.{After-session_for}

-- the number is free
free : (g : Over) (c : After-session_for g) → IsLowestVacant c.args.served.now.sessions c.in-Some.session.0
free g c = subst (λ (o : Option SessionNo). IsVacancy c.args.served.now (option_map (λ (n : SessionNo). n.0) o)) c.in-Some.is c.requires

-- and the session has it
its_number : (g : Over) (c : After-session_for g) → c.session_for.result.number.0 ≡ c.in-Some.session.0
its_number g c = ap (λ (y : Session). y.number.0) c.session_for.ensures.is.2

pub returns-in-None : goal.returns-in-None
returns-in-None g c =
    subst (λ (o : Option SessionNo). MakesSession (option_map (λ (n : SessionNo). n.0) o) c.args.unmade c.args.called c.args.random.now c.args.served.now c.args.served.now) (sym c.in-None.is) refl

pub returns-then-unmade : goal.returns-then-unmade
returns-then-unmade g c =
    subst (λ (o : Option SessionNo). MakesSession (option_map (λ (n : SessionNo). n.0) o) c.args.unmade c.args.called c.args.random.now c.args.served.now c.args.served.now) (sym c.in-Some.is)
    (subst (λ (b : Bool). MakesSession (Some c.in-Some.session.0) b c.args.called c.args.random.now c.args.served.now c.args.served.now) (sym c.if-unmade.true) refl)

pub put-requires-clause-number : goal.put-requires-clause-number
put-requires-clause-number g c =
    let d = (goal.at.put-requires-clause-number g c).After-session_for in
    subst (λ (n : ℕ). IsNumberOf c.args.served.now.sessions.shard n) (sym (its_number g d)) (free g d).of_shard

pub put-requires-clause-vacant : goal.put-requires-clause-vacant
put-requires-clause-vacant g c =
    let d = (goal.at.put-requires-clause-vacant g c).After-session_for in
    ap (λ (n : ℕ). value_at c.args.served.now.sessions n) (its_number g d) ∙ (free g d).vacant

pub put-requires-clause-apart : goal.put-requires-clause-apart
put-requires-clause-apart g c unique = nothing_shared c.args.served.now.sessions c.session_for.result (ap address_of c.session_for.ensures.is.2)

pub returns-else-unmade : goal.returns-else-unmade
returns-else-unmade g c =
    let d = (goal.at.returns-else-unmade g c).After-session_for in
    let (link, new, is) = c.session_for.ensures.is in
    let n = c.in-Some.session.0 in
    let s = c.args.served.now in
    subst (λ (o : Option SessionNo). MakesSession (option_map (λ (k : SessionNo). k.0) o) c.args.unmade c.args.called c.args.random.now s c.put.new.self) (sym c.in-Some.is)
    (subst (λ (b : Bool). MakesSession (Some n) b c.args.called c.args.random.now s c.put.new.self) (sym c.if-unmade.false)
    (link, new, c.put.ensures ∙ ap (λ (k : ℕ). with_session s k c.session_for.result) (its_number g d) ∙ ap (λ (y : Session). with_session s n y) is))
