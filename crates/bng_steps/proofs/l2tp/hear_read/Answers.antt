use Rattle.std.proofs.Common.{inl, inr, subst, arith}
use Rattle.bng_l2tp_wire.specs.View.{control_of, data_of}
use Rattle.bng_lns.specs.Datagrams.{IsReadAs}
use Rattle.bng_steps.specs.Datagrams.{HearsMessage, HearsTunnel, HearsTunnelData}
use Rattle.bng_steps.specs.TermRows.{whole}
use Rattle.bng_steps.proofs.Arriving.{does_more}
use Rattle.bng_steps.proofs.l2tp.hear_read.Goals as goal

pub hear_tunnel_data-requires-clause-came : goal.hear_tunnel_data-requires-clause-came
hear_tunnel_data-requires-clause-came g c = subst (IsReadAs c.args.incoming.now.item.now.cut c.args.incoming.now.item.now.frame.payload) c.in-Data.is c.requires.read

pub returns-in-Control-clause-does : goal.returns-in-Control-clause-does
returns-in-Control-clause-does g c =
    let r = c.args.incoming.now.rules.now in
    let s = whole c.args.served.now c.args.terms.now in
    let item = c.args.incoming.now.item.now in
    let m = control_of c.in-Control.message in
    let read = subst (IsReadAs item.cut item.frame.payload) c.in-Control.is c.requires.read in
    does_more s (whole c.hear_message.new.served c.hear_message.new.terms) c.args.outs.now.items c.hear_message.new.outs.items c.args.incoming.now.at c.args.incoming.now.moment item c.hear_message.result (λ e d. HearsMessage r s e m d) (λ e d. HearsTunnel r s e d) 10 10
    (omega arith) (λ d says. inr (inl (m, read, says))) c.hear_message.ensures.does

pub returns-in-Data-clause-does : goal.returns-in-Data-clause-does
returns-in-Data-clause-does g c =
    let r = c.args.incoming.now.rules.now in
    let s = whole c.args.served.now c.args.terms.now in
    let item = c.args.incoming.now.item.now in
    let p = data_of c.in-Data.message in
    let read = subst (IsReadAs item.cut item.frame.payload) c.in-Data.is c.requires.read in
    does_more s (whole c.hear_tunnel_data.new.served c.hear_tunnel_data.new.terms) c.args.outs.now.items c.hear_tunnel_data.new.outs.items c.args.incoming.now.at c.args.incoming.now.moment item c.hear_tunnel_data.result (λ e d. HearsTunnelData r s e p d) (λ e d. HearsTunnel r s e d) 10 10
    (omega arith) (λ d says. inr (inr (p, read, says))) c.hear_tunnel_data.ensures.does
