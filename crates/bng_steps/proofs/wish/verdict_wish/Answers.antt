use Rattle.std.proofs.Common.{inl, sym, subst, ◌∙◌}
use Rattle.bng_steps.specs.Wishes.{Wishes}
use Rattle.bng_steps.proofs.Telling.{same_ask}
use Rattle.bng_steps.proofs.wish.verdict_wish.Goals as goal

pub returns : goal.returns
returns g c =
    let asked = sym c.open_number.ensures ∙ same_ask c.open_number.result c.args.item.now.ask (sym c.ne.ensures ∙ c.if-ne.false) in
    inl (asked, subst (λ octets. Wishes c.args.rules.now c.args.limited octets c.octets_wish.result) c.payload.ensures.octets c.octets_wish.ensures)
