use Rattle.bng_l2tp_tunnel.specs.Outs.{zlb}
use Rattle.bng_l2tp_tunnel.specs.Steps.{to_peer}
use Rattle.bng_l2tp_tunnel.proofs.Flights.{payloads-push}
use Rattle.bng_lns.proofs.exchange.push_zlb.Goals as goal

pub returns : goal.returns
returns c =
    payloads-push c.args.outs.now.items c.push.new.self.items c.acknowledge.result (zlb (to_peer c.args.tunnel.now) c.args.tunnel.now.channel) c.push.ensures.items c.acknowledge.ensures
