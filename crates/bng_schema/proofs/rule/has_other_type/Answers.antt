use Rattle.std.proofs.Common.{not, ◌↔◌, IsTrue, subst}
use Rattle.toml.specs.View.{view}
use Rattle.bng_schema.specs.Keys.{row}
use Rattle.bng_schema.specs.Forms.{HasType}
use Rattle.bng_schema.proofs.Tests.{not_so, stands, stands_none}
use Rattle.bng_schema.proofs.rule.has_other_type.Goals as goal

pub returns-in-Some : goal.returns-in-Some
returns-in-Some c =
    let d = view c.in-Some.value.now in
    stands (view c.args.document.now) c.args.key (λ d. ¬ HasType (row c.args.key).form d) c.value_of.result c.value_of.ensures c.in-Some.value (not c.has_type.result) c.in-Some.is
    (not_so c.has_type.result (HasType (row c.args.key).form d) (subst (λ f. IsTrue c.has_type.result ↔ HasType f d) c.row_of.ensures.form c.has_type.ensures))

pub returns-in-None : goal.returns-in-None
returns-in-None c = stands_none (view c.args.document.now) c.args.key (λ d. ¬ HasType (row c.args.key).form d) c.value_of.result c.value_of.ensures c.in-None.is
