use Rattle.std.proofs.Common.{rules, tests, ◌≡◌, sym, ◌∙◌}
use Rattle.std.specs.List.{position}
use Rattle.std.proofs.lemmas.Iterator.{YieldsList-from_slice}
use Rattle.std.proofs.lemmas.Iterator.Search.{position_from_yields_List}
use Rattle.bng_steps.specs.Wishes.{is_named}
use Rattle.bng_steps.proofs.wish.pool_for.Goals as goal

pub returns-in_err-place : goal.returns-in_err-place
returns-in_err-place c =
    let test = is_named c.in-Some.name.now in
    let first : c.position.result ≡ position test c.args.pools.now =
    position_from_yields_List test _ _ c.position.result c.position.ensures.ran (YieldsList-from_slice c.args.pools.now cc) (λ x b q k. search (rules, tests)) in
    rw c.in-Some.is (c.from_residual.ensures ∙ sym c.in_err-place.was ∙ first)

pub returns : goal.returns
returns c =
    let test = is_named c.in-Some.name.now in
    let first : c.position.result ≡ position test c.args.pools.now =
    position_from_yields_List test _ _ c.position.result c.position.ensures.ran (YieldsList-from_slice c.args.pools.now cc) (λ x b q k. search (rules, tests)) in
    rw c.in-Some.is (sym c.in_ok-place.was ∙ first)
