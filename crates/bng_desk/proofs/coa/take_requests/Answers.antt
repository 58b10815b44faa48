use Rattle.std.proofs.Common.{◌≡◌, ◌<◌, [], ◌∷◌, ◌++◌, length, length-append, refl, ap, ◌∙◌, arith}
use Rattle.bng_base.specs.declared.outside.Role.TheVariants.{Coa}
use Rattle.bng_base.specs.FateOf.{Arrival}
use Rattle.bng_base.proofs.StretchLaws.{plant_stays}
use Rattle.bng_desk.specs.declared.lists.Lists.{Lists}
use Rattle.bng_desk.specs.declared.reading.ReadEnd.TheVariants.{Full}
use Rattle.bng_desk.specs.Coa.{Requested, replies_in}
use Rattle.bng_desk.proofs.CoaLaws.{asked_more, asked_none, coa_read}
use Rattle.bng_desk.proofs.TakeLaws.{over}
use Rattle.bng_desk.proofs.coa.take_requests.Goals as goal

pub loop-taken-init : goal.loop-taken-init
loop-taken-init g c =
    let p = g.P.Plant.told c.args.plant.now in
    record {
      requested = [];
      count = refl;
      asked = asked_none c.args.named.moment c.args.named.wall p c.args.coa.now c.args.draws.now c.args.lists.now.items.items (replies_in c.args.lists.now.repeats.items) (plant_stays p);
      in_hand = omega arith;
      number = omega arith;
      repeats = omega arith;
      drawn = omega arith;
      capacity = refl;
      places = refl;
      rest = refl;
    }

pub add_request-requires-clause-in_hand : goal.add_request-requires-clause-in_hand
add_request-requires-clause-in_hand g c = omega (arith, c.loop-taken.invariant.in_hand, c.requires.in_hand, c.loop-taken-test.true)

pub add_request-requires-clause-room : goal.add_request-requires-clause-room
add_request-requires-clause-room g c = omega (arith, c.loop-taken.invariant.number, c.loop-taken.invariant.capacity, c.requires.room, c.loop-taken-test.true)

pub add_request-requires-clause-places : goal.add_request-requires-clause-places
add_request-requires-clause-places g c = omega (arith, c.loop-taken.invariant.repeats, c.loop-taken.invariant.places, c.requires.places, c.loop-taken-test.true)

pub returns-in-Empty : goal.returns-in-Empty
returns-in-Empty g c =
    let told = g.P.Plant.told in
    let so_far = c.loop-taken.invariant in
    let below : length so_far.requested < 32 = omega (arith, so_far.count, c.loop-taken-test.true) in
    let end = over Coa (told c.loop-taken.plant) (told c.receive.new.plant) c.receive.result c.receive.new.into.payload c.receive.ensures.told c.in-Empty.is in
    record {
      takes = coa_read c.args.named.moment c.args.named.wall (told c.args.plant.now) (told c.loop-taken.plant) (told c.receive.new.plant) c.args.coa.now c.loop-taken.coa c.args.draws.now c.loop-taken.draws c.args.lists.now.items.items c.loop-taken.lists.items.items
          (replies_in c.args.lists.now.repeats.items) (replies_in c.loop-taken.lists.repeats.items) c.loop-taken.quiet so_far.requested end.ended (end.right 32 (length so_far.requested) below) so_far.asked end.told;
      capacity = so_far.capacity;
      rest = so_far.rest;
    }

pub loop-taken-preserved : goal.loop-taken-preserved
loop-taken-preserved g c =
    let told = g.P.Plant.told in
    let so_far = c.loop-taken.invariant in
    let a : Arrival = record { from = c.in-Got.from; cut = c.in-Got.cut; octets = c.receive.new.into.payload } in
    let adds = c.add_request.ensures.adds in
    let q : Requested = record { arrival = a; admitted = adds.admitted; target = adds.target } in
    let with = λ (x : Lists). let y : Lists = record x { items = c.add_request.new.lists.items; repeats = c.add_request.new.lists.repeats } in y in
    record {
      requested = so_far.requested ++ q ∷ [];
      count = omega (arith, so_far.count, length-append so_far.requested (q ∷ []));
      asked = asked_more c.args.named.moment c.args.named.wall (told c.args.plant.now) (told c.loop-taken.plant) (told c.receive.new.plant) c.args.coa.now c.loop-taken.coa c.add_request.new.coa c.args.draws.now c.loop-taken.draws c.add_request.new.draws
          c.args.lists.now.items.items c.loop-taken.lists.items.items c.add_request.new.lists.items.items (replies_in c.args.lists.now.repeats.items) (replies_in c.loop-taken.lists.repeats.items) (replies_in c.add_request.new.lists.repeats.items) c.loop-taken.quiet so_far.requested a so_far.asked c.in-Got.ensures.told adds;
      in_hand = omega (arith, c.add_request.ensures.few_in_hand, so_far.in_hand);
      number = omega (arith, c.add_request.ensures.few, so_far.number);
      repeats = omega (arith, c.add_request.ensures.few_repeats, so_far.repeats);
      drawn = omega (arith, c.add_request.ensures.few_drawn, so_far.drawn);
      capacity = c.add_request.ensures.capacity ∙ so_far.capacity;
      places = c.add_request.ensures.repeats_room ∙ so_far.places;
      rest = c.add_request.ensures.rest ∙ ap with so_far.rest;
    }

pub returns-clause-takes : goal.returns-clause-takes
returns-clause-takes g c =
    let told = g.P.Plant.told in
    let so_far = c.loop-taken.invariant in
    let all : length so_far.requested ≡ 32 = omega (arith, so_far.count) in
    coa_read c.args.named.moment c.args.named.wall (told c.args.plant.now) (told c.loop-taken.plant) (told c.loop-taken.plant) c.args.coa.now c.loop-taken.coa c.args.draws.now c.loop-taken.draws c.args.lists.now.items.items c.loop-taken.lists.items.items
    (replies_in c.args.lists.now.repeats.items) (replies_in c.loop-taken.lists.repeats.items) c.loop-taken.quiet so_far.requested Full all so_far.asked (plant_stays (told c.loop-taken.plant))
