use Rattle.std.proofs.Common.{ap, arith}
use Rattle.std.specs.Prelude.{is_some}
use Rattle.std.proofs.lemmas.List.Sums.{count_by-le-length}
use Rattle.bng_acct.specs.Queue.{count}
use Rattle.bng_acct.specs.Sheets.{Table}
use Rattle.bng_acct.proofs.Tables.{full_more, used_le_count}
use Rattle.bng_acct.proofs.sheets.Sheets.put.Goals as goal

pub fill-requires-clause-next : goal.fill-requires-clause-next
fill-requires-clause-next c =
    let places = c.self.inside.places.items in
    let few = used_le_count c.lowest_free-number.result places (λ m lt. c.lowest_free-number.ensures.lowest m (omega arith) lt) in
    omega (arith, few, count_by-le-length is_some places)

pub fill-requires-clause-room : goal.fill-requires-clause-room
fill-requires-clause-room c =
    let places = c.self.inside.places.items in
    let few = used_le_count c.lowest_free-number.result places (λ m lt. c.lowest_free-number.ensures.lowest m (omega arith) lt) in
    omega (arith, few, c.requires, ap (λ (t : Table). count t.places) c.self.view_is, ap (λ (t : Table). t.room) c.self.view_is, c.self.invariant.has_room)

pub overflow_cast-result : goal.overflow_cast-result
overflow_cast-result c =
    let places = c.self.inside.places.items in
    let few = used_le_count c.lowest_free-number.result places (λ m lt. c.lowest_free-number.ensures.lowest m (omega arith) lt) in
    omega (arith, few, c.requires, ap (λ (t : Table). count t.places) c.self.view_is, ap (λ (t : Table). t.room) c.self.view_is, c.self.invariant.fits)

pub invariant_of-self : goal.invariant_of-self
invariant_of-self c =
    let inv = c.self.invariant in
    let places = c.self.inside.places.items in
    let few = used_le_count c.lowest_free-number.result places (λ m lt. c.lowest_free-number.ensures.lowest m (omega arith) lt) in
    let fill = c.fill.ensures in
    record {
      marked = full_more places c.fill.new.places.items c.lowest_free-number.new.full.items c.lowest_free-number.result c.args.sheet c.lowest_free-number.ensures.marked fill.sets;
      few = omega (arith, few, fill.length, inv.few, c.requires, ap (λ (t : Table). count t.places) c.self.view_is, ap (λ (t : Table). t.room) c.self.view_is);
      fits = inv.fits;
      has_room = omega (arith, inv.has_room, fill.capacity);
      rows = omega (arith, inv.rows, c.lowest_free-number.ensures.rows);
    }

pub returns-clause-below : goal.returns-clause-below
returns-clause-below c =
    let places = c.self.inside.places.items in
    let few = used_le_count c.lowest_free-number.result places (λ m lt. c.lowest_free-number.ensures.lowest m (omega arith) lt) in
    omega (arith, few, c.requires, ap (λ (t : Table). count t.places) c.self.view_is, ap (λ (t : Table). t.room) c.self.view_is)
