use Rattle.std.proofs.Common.{◌≡◌, ◌<◌, ℕ, List, [], ◌∷◌, ◌++◌, length, length-append, refl, subst, arith}
use Rattle.bng_base.specs.declared.outside.Role.TheVariants.{Acct}
use Rattle.bng_base.proofs.StretchLaws.{plant_stays}
use Rattle.bng_billing.specs.Replies.{Takes}
use Rattle.bng_desk.specs.declared.reading.ReadEnd.TheVariants.{Full}
use Rattle.bng_desk.specs.Accounting.{Acknowledged}
use Rattle.bng_desk.proofs.RecordLaws.{acct_read, heard_more, heard_none}
use Rattle.bng_desk.proofs.TakeLaws.{over}
use Rattle.bng_desk.proofs.acknowledgements.take_acknowledgements.Goals as goal

pub loop-taken-init : goal.loop-taken-init
loop-taken-init g c =
    let p = g.P.Plant.told c.args.plant.now in
    record { acks = []; count = refl; heard = heard_none p c.args.billing.now (plant_stays p) }

pub returns-in-Empty : goal.returns-in-Empty
returns-in-Empty g c =
    let told = g.P.Plant.told in
    let so_far = c.loop-taken.invariant in
    let below : length so_far.acks < 128 = omega (arith, so_far.count, c.loop-taken-test.true) in
    let end = over Acct (told c.loop-taken.plant) (told c.receive.new.plant) c.receive.result c.receive.new.into.payload c.receive.ensures.told c.in-Empty.is in
    acct_read (told c.args.plant.now) (told c.loop-taken.plant) (told c.receive.new.plant) c.args.billing.now c.loop-taken.billing c.loop-taken.quiet so_far.acks end.ended (end.right 128 (length so_far.acks) below) so_far.heard end.told

pub loop-taken-preserved : goal.loop-taken-preserved
loop-taken-preserved g c =
    let told = g.P.Plant.told in
    let so_far = c.loop-taken.invariant in
    let a : Acknowledged = record { arrival = record { from = c.in-Got.from; cut = c.in-Got._cut; octets = c.receive.new.into.payload }; found = c.take-found.result } in
    let takes : Takes c.loop-taken.billing c.in-Got.from c.receive.new.into.payload c.take-found.result c.take-found.new.self =
    subst (λ (os : List ℕ). Takes c.loop-taken.billing c.in-Got.from os c.take-found.result c.take-found.new.self) c.payload.ensures.octets c.take-found.ensures in
    record {
      acks = so_far.acks ++ a ∷ [];
      count = omega (arith, so_far.count, length-append so_far.acks (a ∷ []));
      heard = heard_more (told c.args.plant.now) (told c.loop-taken.plant) (told c.receive.new.plant) c.args.billing.now c.loop-taken.billing c.take-found.new.self c.loop-taken.quiet so_far.acks a so_far.heard c.in-Got.ensures.told takes;
    }

pub returns : goal.returns
returns g c =
    let told = g.P.Plant.told in
    let so_far = c.loop-taken.invariant in
    let all : length so_far.acks ≡ 128 = omega (arith, so_far.count) in
    acct_read (told c.args.plant.now) (told c.loop-taken.plant) (told c.loop-taken.plant) c.args.billing.now c.loop-taken.billing c.loop-taken.quiet so_far.acks Full all so_far.heard (plant_stays (told c.loop-taken.plant))
