use Rattle.toml.specs.View.{view}
use Rattle.bng_schema.proofs.Tests.{missing, not_missing}
use Rattle.bng_schema.proofs.rule.is_missing.Goals as goal

pub returns-in-Some : goal.returns-in-Some
returns-in-Some c = not_missing (view c.args.document.now) c.args.key c.value_of.result c.value_of.ensures c.in-Some.field-0 c.in-Some.is

pub returns-in-None : goal.returns-in-None
returns-in-None c = missing (view c.args.document.now) c.args.key c.value_of.result c.value_of.ensures c.row_of.result.needed c.in-None.is c.row_of.ensures.needed
