use Rattle.std.proofs.Common.{◌≡◌, ◌∙◌, ◌++◌, List, ap, arith, length}
use Rattle.bng_base.specs.Packet.{Packet}
use Rattle.bng_l2tp_call.specs.CallState.{CallState, fresh}
use Rattle.bng_l2tp_wire.specs.View.{payloads, said, control_of}
use Rattle.bng_lns.specs.Tunnels.{tunnel_at, with_step}
use Rattle.bng_steps.specs.declared.way.TunnelCall.{TunnelCall}
use Rattle.bng_steps.specs.Calls.{call_step}
use Rattle.bng_steps.specs.Deed.{tunnel_outs}
use Rattle.bng_steps.specs.TermRows.{whole}
use Rattle.bng_steps.specs.State.{State, with_tunnels}
use Rattle.bng_steps.proofs.Calling.{takes_none}
use Rattle.bng_steps.proofs.Tunnelling.{payloads_length, standing}
use Rattle.bng_steps.proofs.calls.take_for_none.Goals as goal

pub new_call-called-requires : goal.new_call-called-requires
new_call-called-requires g c = c.requires.taken.stands c.requires.call

pub answer_call-told-requires-clause-stands : goal.answer_call-told-requires-clause-stands
answer_call-told-requires-clause-stands g c = c.requires.taken.stands c.requires.call

pub answer_call-told-requires-clause-few : goal.answer_call-told-requires-clause-few
answer_call-told-requires-clause-few g c = c.requires.taken.room c.requires.call

pub send_datagrams-requires : goal.send_datagrams-requires
send_datagrams-requires g c = record { room = omega (arith, c.requires.room, c.answer_call-told.ensures.few, payloads_length c.answer_call-told.result.outs.items, ap length c.as_slice.ensures.value) }

pub returns-clause-does : goal.returns-clause-does
returns-clause-does g c terms =
    let (t, stands) = standing (tunnel_at c.args.served.now.tunnels c.args.number.0) (c.requires.taken.stands c.requires.call) in
    let r = c.args.incoming.now.rules.now in
    let a = c.args.incoming.now.at in
    let now = c.args.incoming.now.moment in
    let item = c.args.incoming.now.item.now in
    let s = c.args.served.now in
    let n = c.args.number.0 in
    let heard = said c.args.heard in
    let m = control_of c.args.message.now in
    let told = c.answer_call-told.result in
    let its : c.new_call-called.result.call ≡ fresh t.secret 0 = ap (λ (k : TunnelCall). k.call) (c.new_call-called.ensures t stands) in
    let said_is = c.answer_call-told.ensures.said t stands ∙ ap (λ (k : CallState). (call_step t heard k m now).said) its in
    let after = c.answer_call-told.ensures.after t stands ∙ ap (λ (k : CallState). with_tunnels s (with_step now s.tunnels n (call_step t heard k m now).after)) its in
    takes_none r (whole s terms) a item c.args.outs.now.items c.requires.here now n heard m t stands (said told) said_is (c.answer_call-told.ensures.spelled c.requires.taken.spelled) c.answer_call-told.ensures.few (whole c.answer_call-told.new.self terms)
    (ap (λ (q : State). whole q terms) after) c.send_datagrams.new.outs.items (c.send_datagrams.ensures.items ∙ ap (λ (sent : List Packet). c.args.outs.now.items ++ tunnel_outs a item.from (payloads sent)) c.as_slice.ensures.value)
