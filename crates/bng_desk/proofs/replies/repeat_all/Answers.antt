use Rattle.std.proofs.Common.{◌≡◌, ℕ, ◌+◌, List, [], ◌∷◌, ◌++◌, take, get_or, sym, ap, subst, ◌∙◌, arith}
use Rattle.std.proofs.lemmas.List.{map-append, take_all, take_more}
use Rattle.bng_base.specs.declared.outside.Role.TheVariants.{Coa}
use Rattle.bng_base.specs.Stretch.{ExtendsPlant}
use Rattle.bng_base.proofs.StretchLaws.{plant_stays}
use Rattle.bng_desk.specs.declared.coa.Repeated.{Repeated}
use Rattle.bng_desk.specs.Coa.{CoaReply, replies_in, reply_of}
use Rattle.bng_desk.specs.Intake.{RepeatsAll}
use Rattle.bng_desk.specs.Reading.{sending}
use Rattle.bng_desk.proofs.CoaLaws.{repeats_next, repeats_none}
use Rattle.bng_desk.proofs.replies.repeat_all.Goals as goal

pub loop-repeated-init : goal.loop-repeated-init
loop-repeated-init g c = let p = g.P.Plant.told c.args.plant.now in repeats_none p (plant_stays p)

pub loop-repeated-preserved : goal.loop-repeated-preserved
loop-repeated-preserved g c =
    let told = g.P.Plant.told in
    let i = c.loop-repeated.repeated-index in
    let xs = c.args.repeats.now in
    let x = c.repeated-item.result in
    let p = told c.loop-repeated.plant in
    let p' = told c.send-sent.new.plant in
    let more : replies_in (take (i + 1) xs) ≡ replies_in (take i xs) ++ reply_of x ∷ [] =
    ap replies_in (take_more xs i x c.loop-repeated-test.true) ∙ map-append reply_of (take i xs) (get_or xs i x ∷ []) ∙ ap (λ (y : Repeated). replies_in (take i xs) ++ reply_of y ∷ []) (sym c.repeated-item.is) in
    let here = subst (λ (os : List ℕ). ExtendsPlant p p' (sending Coa x.to os c.send-sent.result)) c.payload.ensures.octets c.send-sent.ensures in
    subst (λ (rs : List CoaReply). RepeatsAll rs (told c.args.plant.now) p') (sym more) (repeats_next (told c.args.plant.now) p p' (replies_in (take i xs)) (reply_of x) c.send-sent.result c.loop-repeated.invariant here)

pub returns : goal.returns
returns g c =
    let told = g.P.Plant.told in
    let xs = c.args.repeats.now in
    subst (λ (ys : List Repeated). RepeatsAll (replies_in ys) (told c.args.plant.now) (told c.loop-repeated.plant)) (take_all c.loop-repeated.repeated-index xs (omega arith)) c.loop-repeated.invariant
