use Rattle.std.proofs.Common.{◌≡◌, ◌+◌, List, [], ◌∷◌, ◌++◌, take, sym, ap, subst, ◌∙◌, arith}
use Rattle.std.proofs.lemmas.List.{take_all, take_more}
use Rattle.bng_base.specs.declared.item.Loose.{Loose}
use Rattle.bng_base.proofs.StretchLaws.{plant_stays}
use Rattle.bng_desk.specs.Intake.{GivesLoose}
use Rattle.bng_desk.proofs.CoaLaws.{loose_more, loose_none}
use Rattle.bng_desk.proofs.replies.answer_loose.Goals as goal

pub loop-one-init : goal.loop-one-init
loop-one-init g c = let p = g.P.Plant.told c.args.plant.now in loose_none c.args.rules.now p c.args.coa.now (plant_stays p)

pub loop-one-preserved : goal.loop-one-preserved
loop-one-preserved g c =
    let told = g.P.Plant.told in
    let i = c.loop-one.one-index in
    let ls = c.args.loose.now in
    let l = c.one-item.result in
    let r = c.args.rules.now in
    let next : take (i + 1) ls ≡ take i ls ++ l ∷ [] = take_more ls i l c.loop-one-test.true ∙ ap (λ (x : Loose). take i ls ++ x ∷ []) (sym c.one-item.is) in
    subst (λ (xs : List Loose). GivesLoose r xs (told c.args.plant.now) (told c.answer_item.new.plant) c.args.coa.now c.answer_item.new.coa) (sym next)
    (loose_more r (take i ls) l (told c.args.plant.now) (told c.loop-one.plant) (told c.answer_item.new.plant) c.args.coa.now c.loop-one.coa c.answer_item.new.coa c.loop-one.invariant c.answer_item.ensures)

pub returns : goal.returns
returns g c =
    let told = g.P.Plant.told in
    let ls = c.args.loose.now in
    subst (λ (xs : List Loose). GivesLoose c.args.rules.now xs (told c.args.plant.now) (told c.loop-one.plant) c.args.coa.now c.loop-one.coa) (take_all c.loop-one.one-index ls (omega arith)) c.loop-one.invariant
