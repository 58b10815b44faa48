use Rattle.bng_l2tp_tunnel.specs.Outs.{zlb}
use Rattle.bng_l2tp_tunnel.proofs.Flights.{payloads-push}
use Rattle.bng_l2tp_tunnel.proofs.outs.push_zlb.Goals as goal

pub returns-in-ByZlb : goal.returns-in-ByZlb
returns-in-ByZlb c =
    rw c.in-ByZlb.is (payloads-push c.args.outs.now.items c.push-in-ByZlb.new.self.items c.zlb-in-ByZlb.result (zlb c.args.tunnel c.args.channel.now) c.push-in-ByZlb.ensures.items c.zlb-in-ByZlb.ensures)
