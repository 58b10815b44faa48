use Rattle.std.proofs.Common.{◌≡◌, ◌<◌, [], ◌∷◌, ◌++◌, length, length-append, ap, ◌∙◌, arith}
use Rattle.std.proofs.lemmas.List.{length_push}
use Rattle.bng_base.specs.declared.item.Item.{Item}
use Rattle.bng_base.specs.Batches.{Batch}
use Rattle.bng_base.specs.FateOf.{Arrival}
use Rattle.bng_base.proofs.StretchLaws.{plant_stays}
use Rattle.bng_desk.specs.declared.reading.ReadEnd.TheVariants.{Full}
use Rattle.bng_desk.specs.Random.{draw}
use Rattle.bng_desk.proofs.TakeLaws.{item_is, over, taken_more, role_read}
use Rattle.bng_desk.proofs.intake.take_role.Goals as goal

pub returns-in-Empty : goal.returns-in-Empty
returns-in-Empty g c =
    let told = g.P.Plant.told in
    let so_far = c.loop-taken.invariant in
    let below : length so_far.arrivals < c.args.most = omega (arith, so_far.count, c.loop-taken-test.true) in
    let end = over c.args.role (told c.loop-taken.plant) (told c.receive.new.plant) c.receive.result c.receive.new.into.payload c.receive.ensures.told c.in-Empty.is in
    record {
      takes = role_read c.args.role c.args.most (told c.args.plant.now) (told c.loop-taken.plant) (told c.receive.new.plant) c.args.draws.now c.loop-taken.draws c.args.items.now.items c.loop-taken.items.items c.loop-taken.quiet so_far.arrivals
          end.ended (end.right c.args.most (length so_far.arrivals) below) (omega (arith, below)) so_far.taken end.told;
      capacity = so_far.capacity;
    }

pub loop-taken-preserved : goal.loop-taken-preserved
loop-taken-preserved g c =
    let told = g.P.Plant.told in
    let so_far = c.loop-taken.invariant in
    let a : Arrival = record { from = c.in-Got.from; cut = c.in-Got.cut; octets = c.receive.new.into.payload } in
    let item = item_is c.args.role c.args.kind a.from a.cut c.receive.new.into c.sixteen-random.result (draw c.loop-taken.draws.seed c.loop-taken.draws.drawn) c.requires.kind c.in-Got.ensures.filled c.sixteen-random.ensures.octets in
    let arrived : Item = record { kind = c.args.kind; from = c.in-Got.from; frame = c.receive.new.into; cut = c.in-Got.cut; random = c.sixteen-random.result; target = 0; ask = 0 } in
    record {
      arrivals = so_far.arrivals ++ a ∷ [];
      count = omega (arith, so_far.count, length-append so_far.arrivals (a ∷ []));
      taken = taken_more c.args.role (told c.args.plant.now) (told c.loop-taken.plant) (told c.receive.new.plant) c.args.draws.now c.loop-taken.draws c.sixteen-random.new.self
          c.args.items.now.items c.loop-taken.items.items c.push_datagram.new.self.items c.loop-taken.quiet so_far.arrivals a so_far.taken c.in-Got.ensures.told
          (ap (λ (b : Batch Item). b.items) c.push_datagram.ensures ∙ ap (λ (i : Item). c.loop-taken.items.items ++ i ∷ []) item) c.sixteen-random.ensures.counted;
      number = omega (arith, ap (λ (b : Batch Item). length b.items) c.push_datagram.ensures, length_push c.loop-taken.items.items arrived, so_far.number);
      capacity = ap (λ (b : Batch Item). b.room) c.push_datagram.ensures ∙ so_far.capacity;
    }

pub returns-clause-takes : goal.returns-clause-takes
returns-clause-takes g c =
    let told = g.P.Plant.told in
    let so_far = c.loop-taken.invariant in
    let all : length so_far.arrivals ≡ c.args.most = omega (arith, so_far.count) in
    role_read c.args.role c.args.most (told c.args.plant.now) (told c.loop-taken.plant) (told c.loop-taken.plant) c.args.draws.now c.loop-taken.draws c.args.items.now.items c.loop-taken.items.items c.loop-taken.quiet so_far.arrivals
    Full all (omega (arith, all)) so_far.taken (plant_stays (told c.loop-taken.plant))
