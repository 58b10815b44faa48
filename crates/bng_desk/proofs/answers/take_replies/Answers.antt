use Rattle.std.proofs.Common.{◌≡◌, ◌<◌, [], ◌∷◌, ◌++◌, length, length-append, refl, ◌∙◌, arith}
use Rattle.bng_base.specs.declared.outside.Role.TheVariants.{Auth}
use Rattle.bng_base.specs.FateOf.{Arrival}
use Rattle.bng_base.proofs.StretchLaws.{plant_stays}
use Rattle.bng_desk.specs.declared.reading.ReadEnd.TheVariants.{Full}
use Rattle.bng_desk.specs.Logins.{Answered}
use Rattle.bng_desk.proofs.LoginLaws.{auth_read, heard_more, heard_none}
use Rattle.bng_desk.proofs.TakeLaws.{over}
use Rattle.bng_desk.proofs.answers.take_replies.Goals as goal

pub loop-taken-init : goal.loop-taken-init
loop-taken-init g c =
    let p = g.P.Plant.told c.args.plant.now in
    record {
      answers = [];
      count = refl;
      heard = heard_none p c.args.lane.now c.args.draws.now c.args.items.now.items (plant_stays p);
      number = omega arith;
      drawn = omega arith;
      capacity = refl;
    }

pub returns-in-Empty : goal.returns-in-Empty
returns-in-Empty g c =
    let told = g.P.Plant.told in
    let so_far = c.loop-taken.invariant in
    let below : length so_far.answers < 128 = omega (arith, so_far.count, c.loop-taken-test.true) in
    let end = over Auth (told c.loop-taken.plant) (told c.receive.new.plant) c.receive.result c.receive.new.into.payload c.receive.ensures.told c.in-Empty.is in
    record {
      takes = auth_read (told c.args.plant.now) (told c.loop-taken.plant) (told c.receive.new.plant) c.args.lane.now c.loop-taken.lane c.args.draws.now c.loop-taken.draws c.args.items.now.items c.loop-taken.items.items c.loop-taken.quiet so_far.answers
          end.ended (end.right 128 (length so_far.answers) below) so_far.heard end.told;
      capacity = so_far.capacity;
    }

pub loop-taken-preserved : goal.loop-taken-preserved
loop-taken-preserved g c =
    let told = g.P.Plant.told in
    let so_far = c.loop-taken.invariant in
    let a : Arrival = record { from = c.in-Got.from; cut = c.in-Got.cut; octets = c.receive.new.into.payload } in
    let b : Answered = record { arrival = a; found = c.add_reply.ensures.adds.found } in
    record {
      answers = so_far.answers ++ b ∷ [];
      count = omega (arith, so_far.count, length-append so_far.answers (b ∷ []));
      heard = heard_more (told c.args.plant.now) (told c.loop-taken.plant) (told c.receive.new.plant) c.args.lane.now c.loop-taken.lane c.add_reply.new.lane c.args.draws.now c.loop-taken.draws c.add_reply.new.draws
          c.args.items.now.items c.loop-taken.items.items c.add_reply.new.items.items c.loop-taken.quiet so_far.answers a so_far.heard c.in-Got.ensures.told c.add_reply.ensures.adds;
      number = omega (arith, c.add_reply.ensures.few, so_far.number);
      drawn = omega (arith, c.add_reply.ensures.few_drawn, so_far.drawn);
      capacity = c.add_reply.ensures.capacity ∙ so_far.capacity;
    }

pub returns-clause-takes : goal.returns-clause-takes
returns-clause-takes g c =
    let told = g.P.Plant.told in
    let so_far = c.loop-taken.invariant in
    let all : length so_far.answers ≡ 128 = omega (arith, so_far.count) in
    auth_read (told c.args.plant.now) (told c.loop-taken.plant) (told c.loop-taken.plant) c.args.lane.now c.loop-taken.lane c.args.draws.now c.loop-taken.draws c.args.items.now.items c.loop-taken.items.items c.loop-taken.quiet so_far.answers
    Full all so_far.heard (plant_stays (told c.loop-taken.plant))
