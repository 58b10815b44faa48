use Rattle.std.proofs.Common.{◌↔◌, IsTrue, subst}
use Rattle.toml.specs.View.{view}
use Rattle.bng_schema.specs.Keys.{row}
use Rattle.bng_schema.specs.Rules.{HasWrongCount}
use Rattle.bng_schema.proofs.Tests.{stands, stands_none}
use Rattle.bng_schema.proofs.rule.is_wrong_count.Goals as goal

pub returns-in-Some : goal.returns-in-Some
returns-in-Some c =
    stands (view c.args.document.now) c.args.key (λ d. HasWrongCount (row c.args.key).form d) c.value_of.result c.value_of.ensures c.in-Some.value c.has_wrong_count.result c.in-Some.is
    (subst (λ f. IsTrue c.has_wrong_count.result ↔ HasWrongCount f (view c.in-Some.value.now)) c.row_of.ensures.form c.has_wrong_count.ensures)

pub returns-in-None : goal.returns-in-None
returns-in-None c = stands_none (view c.args.document.now) c.args.key (λ d. HasWrongCount (row c.args.key).form d) c.value_of.result c.value_of.ensures c.in-None.is
