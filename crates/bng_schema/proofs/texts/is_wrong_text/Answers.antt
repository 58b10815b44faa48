use Rattle.std.proofs.Common.{◌↔◌, IsTrue, option_copied, sym, ap, subst, ◌∙◌}
use Rattle.toml.specs.View.{view}
use Rattle.bng_schema.specs.Names.{IsShortText}
use Rattle.bng_schema.proofs.Tests.{wrong_text, no_text}
use Rattle.bng_schema.proofs.texts.is_wrong_text.Goals as goal

pub returns-in-Some : goal.returns-in-Some
returns-in-Some c =
    wrong_text (IsShortText c.args.most) (view c.args.value.now) c.in-Some.text.now c.is_short.result (sym c.as_str.ensures ∙ ap option_copied c.in-Some.is)
    (subst (λ s. IsTrue c.is_short.result ↔ (IsShortText c.args.most) s) c.as_bytes.ensures.value c.is_short.ensures)

pub returns-in-None : goal.returns-in-None
returns-in-None c = no_text (IsShortText c.args.most) (view c.args.value.now) (sym c.as_str.ensures ∙ ap option_copied c.in-None.is)
