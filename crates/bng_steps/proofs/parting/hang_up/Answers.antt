use Rattle.std.proofs.Common.{◌++◌, ◌∙◌, List, [], Option, ap, append-nil, arith, length, refl, subst, sym}
use Rattle.std.specs.List.{AllByRecursion}
use Rattle.bng_base.specs.Packet.{Packet}
use Rattle.bng_l2tp_call.specs.CallState.{CallState}
use Rattle.bng_l2tp_tunnel.specs.Sound.{IsSpelled}
use Rattle.bng_l2tp_tunnel.specs.TunnelState.{TunnelState}
use Rattle.bng_l2tp_wire.specs.View.{Said, payloads}
use Rattle.bng_lns.specs.Exchange.{parted}
use Rattle.bng_lns.specs.Tunnels.{with_step}
use Rattle.bng_steps.specs.declared.way.TunnelCall.{TunnelCall}
use Rattle.bng_steps.specs.Deed.{tunnel_outs}
use Rattle.bng_steps.specs.Link.{HangsUp}
use Rattle.bng_steps.specs.State.{State}
use Rattle.bng_steps.proofs.Tunnelling.{others_kept, payloads_length, tunnel_outs_length}
use Rattle.bng_steps.proofs.parting.hang_up.Goals as goal

pub send_datagrams-requires : goal.send_datagrams-requires
send_datagrams-requires g c =
    record { room = omega (arith, c.requires.room, c.in-Some.ensures.one, payloads_length c.in-Some.step.outs.items, ap length c.as_slice.ensures.value) }

pub returns-in-Some-clause-told : goal.returns-in-Some-clause-told
returns-in-Some-clause-told g c =
    let (t, stands, told, after) = c.in-Some.ensures.told in
    let a = c.args.incoming.now.at in
    let now = c.args.incoming.now.moment in
    let s = c.args.served.now in
    let called = c.args.called.now in
    let frames = payloads c.in-Some.step.outs.items in
    let last = tunnel_outs a called.peer frames in
    let said_are = ap (λ (x : Said). x.outs) told in (
      last,
      subst (λ (o : Option TunnelState). HangsUp o called a now s.tunnels last c.hang_up.new.self.tunnels) (sym stands)
          (subst (AllByRecursion IsSpelled) said_are c.in-Some.ensures.spelled, ap (tunnel_outs a called.peer) said_are, ap (λ (u : State). u.tunnels) after),
      c.send_datagrams.ensures.items ∙ ap (λ (sent : List Packet). c.args.outs.now.items ++ tunnel_outs a called.peer (payloads sent)) c.as_slice.ensures.value,
      omega (arith, tunnel_outs_length a called.peer frames, c.in-Some.ensures.one),
    )

pub returns-in-Some-clause-called : goal.returns-in-Some-clause-called
returns-in-Some-clause-called g c = ap (λ (k : CallState). let called : TunnelCall = record c.args.called.now { call = k } in called) c.hang_up.ensures.call

pub returns-in-Some-clause-others : goal.returns-in-Some-clause-others
returns-in-Some-clause-others g c =
    let (t, stands, told, after) = c.in-Some.ensures.told in
    let now = c.args.incoming.now.moment in
    others_kept c.args.served.now c.hang_up.new.self (with_step now c.args.served.now.tunnels c.args.called.now.tunnel.0 (parted t c.args.called.now.call now).after) after

pub returns-in-Some-clause-few : goal.returns-in-Some-clause-few
returns-in-Some-clause-few g c =
    omega (arith, c.send_datagrams.ensures.few, c.in-Some.ensures.one, payloads_length c.in-Some.step.outs.items, ap length c.as_slice.ensures.value)

pub returns-in-None-clause-told : goal.returns-in-None-clause-told
returns-in-None-clause-told g c =
    let (gone, same) = c.in-None.ensures.none in (
      [],
      subst (λ (o : Option TunnelState). HangsUp o c.args.called.now c.args.incoming.now.at c.args.incoming.now.moment c.args.served.now.tunnels [] c.hang_up.new.self.tunnels) (sym gone) (refl, ap (λ (u : State). u.tunnels) same),
      sym (append-nil c.args.outs.now.items),
      omega arith,
    )

pub returns-in-None-clause-called : goal.returns-in-None-clause-called
returns-in-None-clause-called g c = ap (λ (k : CallState). let called : TunnelCall = record c.args.called.now { call = k } in called) c.hang_up.ensures.call

pub returns-in-None-clause-others : goal.returns-in-None-clause-others
returns-in-None-clause-others g c =
    let (gone, same) = c.in-None.ensures.none in
    others_kept c.args.served.now c.hang_up.new.self c.args.served.now.tunnels same
