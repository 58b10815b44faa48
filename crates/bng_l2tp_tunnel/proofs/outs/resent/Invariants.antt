use Rattle.std.proofs.Common.{◌≡◌, ◌≤◌, length, map}
use Rattle.bng_l2tp_wire.specs.View.{payloads}
use Rattle.bng_l2tp_tunnel.specs.Outs.{datagram, flight_before}
use Rattle.bng_l2tp_tunnel.proofs.outs.resent.Given as goal

abbrev pub invariant-loop-place : goal.invariant-loop-place
invariant-loop-place l = record {
  are : payloads l.outs.items ≡ map (datagram l.tunnel) (flight_before l.place l.channel);
  few : length l.outs.items ≤ l.place;
}
