use Rattle.std.proofs.Common.{◌++◌, List, [], Option, refl, sym, ap, subst, ◌∙◌, arith, length, append-nil}
use Rattle.bng_base.specs.Packet.{Packet}
use Rattle.bng_l2tp_wire.specs.View.{payloads}
use Rattle.bng_lns.specs.Timed.{Telling, reminded}
use Rattle.bng_steps.specs.Cutting.{cut_if, cut_told}
use Rattle.bng_steps.specs.Deed.{tunnel_outs}
use Rattle.bng_steps.specs.Placed.{ArePlaced}
use Rattle.bng_steps.specs.L2tp.{TellsIts}
use Rattle.bng_steps.specs.TermRows.{whole}
use Rattle.bng_steps.specs.State.{State, with_tunnels}
use Rattle.bng_steps.proofs.SumsKept.{keeps_same}
use Rattle.bng_steps.proofs.Tunnelling.{others_kept, payloads_length}
use Rattle.bng_steps.proofs.in_turn.remind_one.Goals as goal

pub send_datagrams-requires : goal.send_datagrams-requires
send_datagrams-requires g c =
    record { room = omega (arith, c.requires.room, c.in-Some.ensures.few, payloads_length c.in-Some.told.step.outs.items, ap length c.as_slice.ensures.value) }

pub returns-in-Some-clause-reminded : goal.returns-in-Some-clause-reminded
returns-in-Some-clause-reminded g c =
    let told = c.in-Some.told in
    let frames = payloads told.step.outs.items in
    let s = c.args.served.now in
    let t = c.args.terms.now in
    let u = c.remind_tunnel.new.self.tunnels in
    let others = others_kept s c.remind_tunnel.new.self (reminded c.args.now s.tunnels c.args.place).after c.remind_tunnel.ensures.after in
    record {
      more = tunnel_outs c.args.at told.peer frames;
      reminds = record {
        tunnels = u;
        tells = record {
          tells = subst (λ (o : Option Telling). TellsIts c.args.at o (tunnel_outs c.args.at told.peer frames)) c.in-Some.ensures.told (c.in-Some.ensures.spelled, refl);
          after = ap (λ (q : State). q.tunnels) c.remind_tunnel.ensures.after;
        };
        after = c.cut_if.ensures.cut ∙ ap (λ (q : State). cut_if told.step.cleared told.number.0 (whole q t)) others
            ∙ ap (λ (o : Option Telling). cut_told o (with_tunnels (whole s t) u)) c.in-Some.ensures.told;
      };
      outs_are = c.send_datagrams.ensures.items ∙ ap (λ (sent : List Packet). c.args.outs.now.items ++ tunnel_outs c.args.at told.peer (payloads sent)) c.as_slice.ensures.value;
    }

pub returns-in-Some-clause-shard : goal.returns-in-Some-clause-shard
returns-in-Some-clause-shard g c = c.cut_if.ensures.shard ∙ ap (λ (q : State). q.sessions.shard) c.remind_tunnel.ensures.after

pub returns-in-Some-clause-placed : goal.returns-in-Some-clause-placed
returns-in-Some-clause-placed g c r all = c.cut_if.ensures.placed r (subst (λ (q : State). ArePlaced r q.sessions) (sym c.remind_tunnel.ensures.after) all)

pub returns-in-Some-clause-few : goal.returns-in-Some-clause-few
returns-in-Some-clause-few g c =
    omega (arith, c.send_datagrams.ensures.few, c.in-Some.ensures.few, payloads_length c.in-Some.told.step.outs.items, ap length c.as_slice.ensures.value)

pub returns-in-None-clause-reminded : goal.returns-in-None-clause-reminded
returns-in-None-clause-reminded g c =
    let s = c.args.served.now in
    let t = c.args.terms.now in
    let u = c.remind_tunnel.new.self.tunnels in
    let others = others_kept s c.remind_tunnel.new.self (reminded c.args.now s.tunnels c.args.place).after c.remind_tunnel.ensures.after in
    record {
      more = [];
      reminds = record {
        tunnels = u;
        tells = record {
          tells = subst (λ (o : Option Telling). TellsIts c.args.at o []) c.in-None.ensures.told refl;
          after = ap (λ (q : State). q.tunnels) c.remind_tunnel.ensures.after;
        };
        after = ap (λ (q : State). whole q t) others ∙ ap (λ (o : Option Telling). cut_told o (with_tunnels (whole s t) u)) c.in-None.ensures.told;
      };
      outs_are = sym (append-nil c.args.outs.now.items);
    }

pub returns-in-None-clause-sums : goal.returns-in-None-clause-sums
returns-in-None-clause-sums g c = keeps_same c.args.terms.now

pub returns-in-None-clause-shard : goal.returns-in-None-clause-shard
returns-in-None-clause-shard g c = ap (λ (q : State). q.sessions.shard) c.remind_tunnel.ensures.after

pub returns-in-None-clause-placed : goal.returns-in-None-clause-placed
returns-in-None-clause-placed g c r all = subst (λ (q : State). ArePlaced r q.sessions) (sym c.remind_tunnel.ensures.after) all
