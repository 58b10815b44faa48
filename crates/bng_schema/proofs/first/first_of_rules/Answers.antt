use Rattle.std.proofs.Common.{get_or, arith}
use Rattle.toml.specs.View.{view}
use Rattle.bng_schema.specs.declared.rule.Rule.TheVariants.{C4}
use Rattle.bng_schema.specs.Keys.{keys}
use Rattle.bng_schema.specs.Checks.{IsBroken, rule_checks}
use Rattle.bng_schema.proofs.Firsts.{first_at, first_map, none_next, none_map}
use Rattle.bng_schema.proofs.first.first_of_rules.Goals as goal

pub returns-in-Some-clause-found : goal.returns-in-Some-clause-found
returns-in-Some-clause-found c =
    let document = view c.args.document.now in
    let rule = get_or c.args.rules.now c.loop-rule.rule-index C4 in
    first_at (IsBroken document) (rule_checks document) c.args.rules.now c.loop-rule.rule-index C4 (rule, c.in-Some.key) (omega (arith, c.loop-rule-test.true)) c.loop-rule.invariant
    (first_map (IsBroken document) (λ k. (rule, k)) (keys document) c.in-Some.key c.in-Some.ensures.found)

pub loop-rule-preserved : goal.loop-rule-preserved
loop-rule-preserved c =
    let document = view c.args.document.now in
    let rule = get_or c.args.rules.now c.loop-rule.rule-index C4 in
    none_next (IsBroken document) (rule_checks document) c.args.rules.now c.loop-rule.rule-index C4 (omega (arith, c.loop-rule-test.true)) c.loop-rule.invariant
    (none_map (IsBroken document) (λ k. (rule, k)) (keys document) c.in_default.ensures.none)
