use Rattle.std.proofs.Common.{rules, ◌≡◌, None, Option, sym, ap, ◌∙◌}
use Rattle.bng_l2tp_wire.specs.View.{avps_of}
use Rattle.bng_l2tp_tunnel.specs.declared.refusal.TunnelRefusal.{TunnelRefusal}
use Rattle.bng_lac.specs.LacState.{LacState}
use Rattle.bng_lac.specs.Refusals.{refusal_of}
use Rattle.bng_lac.specs.Steps.{judged, learned}
use Rattle.bng_lac.proofs.tunnel.LacTunnel.judge.Goals as goal

pub returns-in-None-clause-after : goal.returns-in-None-clause-after
returns-in-None-clause-after c =
    let avps = avps_of c.args.avps.now in
    let none : refusal_of c.args.self.now avps ≡ None = search rules in
    c.accept.ensures.after ∙ ap (λ (s : LacState). (judged s avps c.args.now None).after) c.learn.ensures
    ∙ ap (λ (r : Option TunnelRefusal). (judged (learned c.args.self.now avps) avps c.args.now r).after) (sym none)
