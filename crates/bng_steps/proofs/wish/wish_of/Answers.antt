use Rattle.std.proofs.Common.{◌≡◌, ◌∙◌, List, Option, Some, None, sym, ap}
use Rattle.bng_base.specs.declared.book.Profile.{Profile}
use Rattle.bng_base.specs.declared.settings.NamedRange.{NamedRange}
use Rattle.bng_grant.specs.Grants.{gift}
use Rattle.bng_steps.specs.declared.meters.Plan.{Plan}
use Rattle.bng_steps.specs.Metered.{plan_for}
use Rattle.bng_steps.specs.Wishes.{wish_among, wish_if}
use Rattle.bng_steps.proofs.wish.wish_of.Goals as goal

pub returns-in_default : goal.returns-in_default
returns-in_default c =
    let g = gift c.args.grant.now in
    let none : None ≡ plan_for c.args.rules.now.profiles g.profile =
    sym c.in_default.is ∙ c.plan_for.ensures ∙ ap (λ (ps : List Profile). plan_for ps g.profile) c.as_slice.ensures in
    ap (λ (o : Option Plan). wish_if o (wish_among c.args.rules.now.pools c.args.limited g)) none

pub returns : goal.returns
returns c =
    let g = gift c.args.grant.now in
    let plan : Some c.in-Some.field-0 ≡ plan_for c.args.rules.now.profiles g.profile =
    c.in-Some.ensures ∙ ap (λ (ps : List Profile). plan_for ps g.profile) c.as_slice.ensures in
    c.wish_among.ensures
    ∙ ap (λ (ps : List NamedRange). wish_among ps c.args.limited g) c.as_slice-2.ensures
    ∙ ap (λ (o : Option Plan). wish_if o (wish_among c.args.rules.now.pools c.args.limited g)) plan
