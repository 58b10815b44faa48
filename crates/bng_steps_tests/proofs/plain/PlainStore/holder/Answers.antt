use Rattle.std.proofs.Common.{◌≡◌, ◌∙◌, ℕ, List, Option, Some, None, Bor, option_map, find, sym, ap, rules, tests, of_calls}
use Rattle.std.proofs.lemmas.Iterator.{YieldsList-from_slice}
use Rattle.std.proofs.lemmas.Iterator.Search.{find_from_yields_List}
use Rattle.bng_steps.specs.declared.session.Session.{Session}
use Rattle.bng_steps.specs.State.{leases}
use Rattle.bng_steps_tests.proofs.PlainLaws.{holder_seen}
use Rattle.bng_steps_tests.proofs.plain.PlainStore.holder.Goals as goal

pub returns-in-Some : goal.returns-in-Some
returns-in-Some c =
    let test = λ (e : ℕ × Session). leases c.args.address e.1 in
    let ran = find_from_yields_List test _ _ c.find.result c.find.ensures.ran (YieldsList-from_slice c.deref.result.now cc) (λ x b q k. search (rules, tests, of_calls)) in
    let seen = holder_seen c.self.inside.shard (leases c.args.address) c.self.inside.sessions.items c.self.invariant.sorted in
    rw (← c.self.view_is) (ap (λ (o : Option (Bor (ℕ × Session))). option_map (λ (e : ℕ × Session). e.1) (option_map (λ b. b.now) o)) (sym c.in-Some.is) ∙ ap (option_map (λ (e : ℕ × Session). e.1)) ran ∙ ap (λ (es : List (ℕ × Session)). option_map (λ (e : ℕ × Session). e.1) (find test es)) c.deref.ensures.value ∙ seen)

pub returns-in-None : goal.returns-in-None
returns-in-None c =
    let test = λ (e : ℕ × Session). leases c.args.address e.1 in
    let ran = find_from_yields_List test _ _ c.find.result c.find.ensures.ran (YieldsList-from_slice c.deref.result.now cc) (λ x b q k. search (rules, tests, of_calls)) in
    let seen = holder_seen c.self.inside.shard (leases c.args.address) c.self.inside.sessions.items c.self.invariant.sorted in
    rw (← c.self.view_is) (ap (λ (o : Option (Bor (ℕ × Session))). option_map (λ (e : ℕ × Session). e.1) (option_map (λ b. b.now) o)) (sym c.in-None.is) ∙ ap (option_map (λ (e : ℕ × Session). e.1)) ran ∙ ap (λ (es : List (ℕ × Session)). option_map (λ (e : ℕ × Session). e.1) (find test es)) c.deref.ensures.value ∙ seen)
