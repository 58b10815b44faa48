use Rattle.std.proofs.Common.{◌≡◌, ◌<◌, ◌≤◌, ◌⊎◌, None, length, map}
use Rattle.bng_l2tp_reliable.specs.ChannelState.{IsChannel}
use Rattle.bng_l2tp_reliable.specs.Calls.{next_out}
use Rattle.bng_l2tp_wire.specs.View.{payloads}
use Rattle.bng_l2tp_tunnel.specs.Outs.{datagram, after_out, let_out}
use Rattle.bng_l2tp_tunnel.proofs.outs.let_out.Given as goal

abbrev pub invariant-loop : goal.invariant-loop
invariant-loop l = record {
  are : payloads l.outs.items ≡ map (datagram l.tunnel) (let_out l.counter l.fn.channel);
  few : length l.outs.items ≤ l.counter;
  after : l.channel ≡ after_out l.counter l.fn.channel;
  sound : 0 < l.counter → IsChannel l.channel;
  until : (next_out l.channel ≡ None) ⊎ (l.counter ≤ length l.channel.sends);
}
