use Rattle.std.proofs.Common.{◌↔◌, IsTrue, option_copied, sym, ap, subst, ◌∙◌}
use Rattle.toml.specs.View.{view}
use Rattle.bng_schema.specs.Names.{IsGatewayName}
use Rattle.bng_schema.proofs.Tests.{wrong_text, no_text}
use Rattle.bng_schema.proofs.texts.is_wrong_name.Goals as goal

pub returns-in-Some : goal.returns-in-Some
returns-in-Some c =
    wrong_text IsGatewayName (view c.args.value.now) c.in-Some.text.now c.is_name.result (sym c.as_str.ensures ∙ ap option_copied c.in-Some.is)
    (subst (λ s. IsTrue c.is_name.result ↔ IsGatewayName s) c.as_bytes.ensures.value c.is_name.ensures)

pub returns-in-None : goal.returns-in-None
returns-in-None c = no_text IsGatewayName (view c.args.value.now) (sym c.as_str.ensures ∙ ap option_copied c.in-None.is)
