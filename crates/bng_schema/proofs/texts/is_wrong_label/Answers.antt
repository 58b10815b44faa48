use Rattle.std.proofs.Common.{◌↔◌, IsTrue, option_copied, sym, ap, subst, ◌∙◌}
use Rattle.toml.specs.View.{view}
use Rattle.bng_schema.specs.Names.{IsLabelName}
use Rattle.bng_schema.proofs.Tests.{wrong_text, no_text}
use Rattle.bng_schema.proofs.texts.is_wrong_label.Goals as goal

pub returns-in-Some : goal.returns-in-Some
returns-in-Some c =
    wrong_text IsLabelName (view c.args.value.now) c.in-Some.text.now c.is_label.result (sym c.as_str.ensures ∙ ap option_copied c.in-Some.is)
    (subst (λ s. IsTrue c.is_label.result ↔ IsLabelName s) c.as_bytes.ensures.value c.is_label.ensures)

pub returns-in-None : goal.returns-in-None
returns-in-None c = no_text IsLabelName (view c.args.value.now) (sym c.as_str.ensures ∙ ap option_copied c.in-None.is)
