use Rattle.std.proofs.Common.{◌++◌, List, [], Option, refl, sym, ap, subst, ◌∙◌, arith, length, append-nil}
use Rattle.bng_base.specs.Packet.{Packet}
use Rattle.bng_l2tp_wire.specs.View.{payloads}
use Rattle.bng_lns.specs.Timed.{Telling, stopped}
use Rattle.bng_steps.specs.Deed.{tunnel_outs}
use Rattle.bng_steps.specs.L2tp.{TellsIts}
use Rattle.bng_steps.specs.State.{State}
use Rattle.bng_steps.proofs.Tunnelling.{others_kept, payloads_length}
use Rattle.bng_steps.proofs.in_turn.stop_one.Goals as goal

pub send_datagrams-requires : goal.send_datagrams-requires
send_datagrams-requires g c =
    record { room = omega (arith, c.requires.room, c.in-Some.ensures.one, payloads_length c.in-Some.told.step.outs.items, ap length c.as_slice.ensures.value) }

pub returns-in-Some-clause-told : goal.returns-in-Some-clause-told
returns-in-Some-clause-told g c =
    let told = c.in-Some.told in
    let frames = payloads told.step.outs.items in
    record {
      more = tunnel_outs c.args.at told.peer frames;
      tells = record {
        tells = subst (λ (o : Option Telling). TellsIts c.args.at o (tunnel_outs c.args.at told.peer frames)) c.in-Some.ensures.told (c.in-Some.ensures.spelled, refl);
        after = ap (λ (s : State). s.tunnels) c.stop_tunnel.ensures.after;
      };
      outs_are = c.send_datagrams.ensures.items ∙ ap (λ (sent : List Packet). c.args.outs.now.items ++ tunnel_outs c.args.at told.peer (payloads sent)) c.as_slice.ensures.value;
    }

pub returns-in-Some-clause-others : goal.returns-in-Some-clause-others
returns-in-Some-clause-others g c = others_kept c.args.served.now c.stop_tunnel.new.self (stopped c.args.now c.args.served.now.tunnels c.args.place).after c.stop_tunnel.ensures.after

pub returns-in-Some-clause-few : goal.returns-in-Some-clause-few
returns-in-Some-clause-few g c =
    omega (arith, c.send_datagrams.ensures.few, c.in-Some.ensures.one, payloads_length c.in-Some.told.step.outs.items, ap length c.as_slice.ensures.value)

pub returns-in-None-clause-told : goal.returns-in-None-clause-told
returns-in-None-clause-told g c = record {
  more = [];
  tells = record {
    tells = subst (λ (o : Option Telling). TellsIts c.args.at o []) c.in-None.ensures.told refl;
    after = ap (λ (s : State). s.tunnels) c.stop_tunnel.ensures.after;
  };
  outs_are = sym (append-nil c.args.outs.now.items);
}

pub returns-in-None-clause-others : goal.returns-in-None-clause-others
returns-in-None-clause-others g c = others_kept c.args.served.now c.stop_tunnel.new.self (stopped c.args.now c.args.served.now.tunnels c.args.place).after c.stop_tunnel.ensures.after
