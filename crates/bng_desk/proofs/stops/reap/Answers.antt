use Rattle.std.proofs.Common.{[], refl}
use Rattle.bng_desk.proofs.Booking.{books_none}
use Rattle.bng_desk.proofs.Reaping.{leaves_all, leaves_none, settled_is}
use Rattle.bng_desk.proofs.Returning.{returned_none}
use Rattle.bng_desk.proofs.stops.reap.Goals as goal

pub returns-then-is_settled-clause-reaps : goal.returns-then-is_settled-clause-reaps
returns-then-is_settled-clause-reaps c =
    let v = c.args.shard.now in
    let settled = c.if-is_settled.ensures.settled refl in
    record {
      stops = [];
      reaped = leaves_all v v v.room settled.0 (settled_is v settled.1) v [] (leaves_none v) c.if-is_settled.ensures.few;
      returned = returned_none c.args.pool.now;
      booked = books_none v.state.slots.terms c.args.moment c.args.wall c.args.accounts.now;
    }
