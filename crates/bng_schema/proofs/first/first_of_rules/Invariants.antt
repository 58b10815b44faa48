use Rattle.std.proofs.Common.{take, flat_map}
use Rattle.toml.specs.View.{view}
use Rattle.bng_schema.specs.First.{NoneOf}
use Rattle.bng_schema.specs.Checks.{IsBroken, rule_checks}
use Rattle.bng_schema.proofs.first.first_of_rules.Given as goal

-- the rules so far are broken at no key
abbrev pub invariant-loop-rule : goal.invariant-loop-rule
invariant-loop-rule l = NoneOf (IsBroken (view l.document)) (flat_map (rule_checks (view l.document)) (take l.rule-index l.rules))
