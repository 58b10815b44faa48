use Rattle.std.proofs.Common.{[], refl, ap, arith}
use Rattle.bng_base.proofs.StretchLaws.{plant_stays}
use Rattle.bng_billing.specs.Due.{due_count}
use Rattle.bng_billing.specs.State.{BillingState}
use Rattle.bng_desk.proofs.RecordLaws.{all_resent, resent_more, resent_none, resent_size}
use Rattle.bng_desk.proofs.records.resend_all.Goals as goal

pub returns-then-not-is_due : goal.returns-then-not-is_due
returns-then-not-is_due g c = record { again = []; resends = refl; none_due = c.if-not-is_due.ensures.again refl; told = plant_stays (g.P.Plant.told c.args.plant.now) }

pub loop-id-init : goal.loop-id-init
loop-id-init g c = let p = g.P.Plant.told c.args.plant.now in resent_none c.args.now p c.args.billing.now (plant_stays p)

pub send_one-sent-requires : goal.send_one-sent-requires
send_one-sent-requires g c = record { size = resent_size c.loop-id.billing c.resend.new.self c.args.now c.in-Some.id c.in-Some.request.payload c.in-Some.ensures.again }

pub loop-id-preserved : goal.loop-id-preserved
loop-id-preserved g c =
    let told = g.P.Plant.told in
    resent_more c.args.now c.in-Some.id c.in-Some.request.payload c.send_one-sent.result (told c.args.plant.now) (told c.loop-id.plant) (told c.send_one-sent.new.plant) c.args.billing.now c.loop-id.billing c.resend.new.self c.send_one-sent.new.billing
    c.loop-id.invariant c.in-Some.ensures.again c.send_one-sent.ensures.noted c.send_one-sent.ensures.told

pub loop-id-smaller : goal.loop-id-smaller
loop-id-smaller g c = omega (arith, c.in-Some.ensures.fewer, ap (λ (b : BillingState). due_count b c.args.now) c.send_one-sent.ensures.noted)

pub returns : goal.returns
returns g c =
    let told = g.P.Plant.told in
    all_resent c.args.now (told c.args.plant.now) (told c.loop-id.plant) c.args.billing.now c.loop-id.billing c.resend.new.self c.resend.result c.loop-id.invariant c.resend.ensures.none c.resend.ensures.kept c.in_default.is
