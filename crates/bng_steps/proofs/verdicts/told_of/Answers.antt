use Rattle.std.proofs.Common.{◌≡◌, ◌∙◌, List, Option, Some, None, sym, ap}
use Rattle.bng_base.specs.declared.book.Profile.{Profile}
use Rattle.bng_base.specs.declared.settings.NamedRange.{NamedRange}
use Rattle.bng_grant.specs.Grants.{gift}
use Rattle.bng_steps.specs.declared.meters.Plan.{Plan}
use Rattle.bng_steps.specs.Metered.{plan_for}
use Rattle.bng_steps.specs.Wishes.{told_if, told_in}
use Rattle.bng_steps.proofs.verdicts.told_of.Goals as goal

pub returns-in_default : goal.returns-in_default
returns-in_default c =
    let g = gift c.args.grant in
    let none : None ≡ plan_for c.args.rules.now.profiles g.profile =
    sym c.in_default.is ∙ c.plan_for.ensures ∙ ap (λ (ps : List Profile). plan_for ps g.profile) c.as_slice.ensures in
    c.refused.ensures ∙ ap (λ (o : Option Plan). told_if o c.args.rules.now.pools c.args.limited c.args.claim c.args.text.items g) none

pub returns : goal.returns
returns c =
    let g = gift c.args.grant in
    let plan : Some c.in-Some.plan ≡ plan_for c.args.rules.now.profiles g.profile =
    c.in-Some.ensures ∙ ap (λ (ps : List Profile). plan_for ps g.profile) c.as_slice.ensures in
    c.told_in.ensures
    ∙ ap (λ (ps : List NamedRange). told_in c.in-Some.plan ps c.args.limited c.args.claim c.args.text.items g) c.as_slice-2.ensures
    ∙ ap (λ (o : Option Plan). told_if o c.args.rules.now.pools c.args.limited c.args.claim c.args.text.items g) plan
