use Rattle.std.proofs.Common.{rules, arith}
use Rattle.bng_l2tp_wire.specs.View.{payloads}
use Rattle.bng_l2tp_tunnel.proofs.Flights.{flight_before-none, more_flight}
use Rattle.bng_l2tp_tunnel.proofs.outs.resent.Goals as goal

pub loop-place-init : goal.loop-place-init
loop-place-init c = record { are = rw flight_before-none (search rules); few = search rules }

pub loop-place-preserved : goal.loop-place-preserved
loop-place-preserved c = record {
  are = more_flight c.args.tunnel c.args.channel.now c.loop-place.place (payloads c.loop-place.outs.items) (payloads c.push_some.new.outs.items) c.flight.result c.loop-place.invariant.are c.flight.ensures.answer c.push_some.ensures.outs;
  few = omega arith;
}
