use Rattle.std.proofs.Common.{◌↔◌, IsTrue, sym, subst}
use Rattle.toml.specs.View.{view}
use Rattle.bng_schema.specs.declared.keys.Form.{Form}
use Rattle.bng_schema.specs.Forms.{AreKinds}
use Rattle.bng_schema.specs.Rules.{HasWrongKinds}
use Rattle.bng_schema.proofs.Tests.{read_none, any_kinds}
use Rattle.bng_schema.proofs.kinds.has_wrong_kinds.Goals as goal

pub returns-in-KindList : goal.returns-in-KindList
returns-in-KindList c =
    subst (λ (f : Form). IsTrue c.is_none.result ↔ HasWrongKinds f (view c.args.value.now)) (sym c.in-KindList.is)
    (read_none (AreKinds (view c.args.value.now)) c.kinds_of.result c.is_none.result c.is_none.ensures c.kinds_of.ensures.found c.kinds_of.ensures.none)

pub returns-in_default : goal.returns-in_default
returns-in_default c = (λ t. cc, λ h. absurd (any_kinds c.args.form (view c.args.value.now) c.in_default.not-KindList h))
