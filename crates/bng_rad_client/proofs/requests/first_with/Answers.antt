use Rattle.std.proofs.Common.{rules, ◌≡◌, ◌<◌, ◌∙◌, sym, ap, Some, Option, subst}
use Rattle.bng_rad_client.specs.declared.due.LastSend.{LastSend}
use Rattle.bng_rad_client.specs.declared.due.Sought.TheVariants.{Any}
use Rattle.bng_rad_client.specs.Due.{is_sought, IsOldestOrNone}
use Rattle.bng_rad_client.specs.Requests.{HasCome}
use Rattle.bng_rad_client.proofs.Places.{came_alone, came_later, came_sooner}
use Rattle.bng_rad_client.proofs.requests.first_with.Goals as goal

pub returns-in-Some-2 : goal.returns-in-Some-2
returns-in-Some-2 c =
    let small : c.args.came.id < 256 = search rules in
    let one : c.in-Some-2.due ≡ c.in-Some.due = (let both : Some c.in-Some-2.due ≡ Some c.in-Some.due = sym c.in-Some-2.is ∙ c.in-Some.is in cc) in
    let has = subst (λ (first : Option LastSend). HasCome first c.args.came c.args.places.now) c.in-Some-2.is c.requires.come in
    subst (IsOldestOrNone (is_sought Any 0) c.args.places.now 256) (sym c.in-Some-2.is)
    (came_later c.args.places.now c.args.came small c.requires.size c.in-Some-2.due (λ same. c.if-due-came.false (ap (λ (d : LastSend). d.id) (sym one) ∙ same)) (c.comes_first.ensures.yes (search rules)) has)

pub returns-in_default : goal.returns-in_default
returns-in_default c =
    let small : c.args.came.id < 256 = search rules in
    came_sooner c.args.places.now c.args.came small c.requires.size c.in-Some-2.due (c.comes_first.ensures.no c.if-comes_first.false)
    (subst (λ (first : Option LastSend). HasCome first c.args.came c.args.places.now) c.in-Some-2.is c.requires.come)

pub returns-in_default-2 : goal.returns-in_default-2
returns-in_default-2 c =
    let small : c.args.came.id < 256 = search rules in
    came_alone c.args.places.now c.args.came small c.requires.size
    (subst (λ (first : Option LastSend). HasCome first c.args.came c.args.places.now) c.in_default.is c.requires.come)
