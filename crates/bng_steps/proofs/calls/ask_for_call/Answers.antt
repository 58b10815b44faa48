use Rattle.std.proofs.Common.{◌≡◌, ◌∙◌, ◌++◌, Bool, List, Some, ap, arith, length, subst}
use Rattle.std.specs.Prelude.{◌||◌, option_map}
use Rattle.bng_base.specs.Packet.{Packet}
use Rattle.bng_base.specs.declared.address.SessionNo.{SessionNo}
use Rattle.bng_l2tp_call.specs.CallState.{CallState, fresh}
use Rattle.bng_l2tp_tunnel.specs.TunnelState.{TunnelState}
use Rattle.bng_l2tp_wire.specs.View.{payloads, said, control_of}
use Rattle.bng_lns.specs.Tunnels.{tunnel_at, with_step}
use Rattle.bng_steps.specs.declared.way.TunnelCall.{TunnelCall}
use Rattle.bng_steps.specs.Calls.{MakesSession, call_after, call_step, called_over, number_for}
use Rattle.bng_steps.specs.Deed.{tunnel_outs}
use Rattle.bng_steps.specs.TermRows.{whole}
use Rattle.bng_steps.specs.State.{with_tunnels}
use Rattle.bng_steps.proofs.Calling.{asks, makes_so, vacancy_kept, vacancy_number}
use Rattle.bng_steps.proofs.Tunnelling.{payloads_length, standing}
use Rattle.bng_steps.proofs.calls.ask_for_call.Given.{Over}
use Rattle.bng_steps.proofs.calls.ask_for_call.Goals as goal
use Rattle.bng_steps.proofs.calls.ask_for_call.Goals.{After-answer_call-told}

-- the tunnel stands
its_tunnel : (g : Over) (c : After-answer_call-told g) → (t : TunnelState) × (tunnel_at c.args.served.now.tunnels c.args.number.0 ≡ Some t)
its_tunnel g c = standing (tunnel_at c.args.served.now.tunnels c.args.number.0) (c.requires.taken.stands c.requires.call)

-- the call that is asked for
its_call : (g : Over) (c : After-answer_call-told g) (t : TunnelState) → tunnel_at c.args.served.now.tunnels c.args.number.0 ≡ Some t
    → c.new_call-called.result ≡ called_over c.args.incoming.now.item.now.from c.args.number.0 t (fresh t.secret c.unwrap_or-session.result.0)
its_call g c t stands = c.new_call-called.ensures t stands

-- its number
its_number : (g : Over) (c : After-answer_call-told g) → c.unwrap_or-session.result.0 ≡ number_for (option_map (λ (n : SessionNo). n.0) c.vacant-vacant.result)
its_number g c = vacancy_number c.vacant-vacant.result c.unwrap_or-session.result c.unwrap_or-session.ensures

pub new_call-called-requires : goal.new_call-called-requires
new_call-called-requires g c = c.requires.taken.stands c.requires.call

pub answer_call-told-requires-clause-stands : goal.answer_call-told-requires-clause-stands
answer_call-told-requires-clause-stands g c = c.requires.taken.stands c.requires.call

pub answer_call-told-requires-clause-few : goal.answer_call-told-requires-clause-few
answer_call-told-requires-clause-few g c = c.requires.taken.room c.requires.call

pub send_datagrams-requires : goal.send_datagrams-requires
send_datagrams-requires g c = record { room = omega (arith, c.requires.room, c.answer_call-told.ensures.few, payloads_length c.answer_call-told.result.outs.items, ap length c.as_slice.ensures.value) }

pub make_session-requires : goal.make_session-requires
make_session-requires g c =
    let d = (goal.at.make_session-requires g c).After-answer_call-told in
    let (t, stands) = its_tunnel g d in
    let s = c.args.served.now in
    let now = c.args.incoming.now.moment in
    vacancy_kept s c.answer_call-told.new.self (with_step now s.tunnels c.args.number.0 (call_step t (said c.args.heard) c.new_call-called.result.call (control_of c.args.message.now) now).after)
    (option_map (λ (n : SessionNo). n.0) c.vacant-vacant.result) (c.answer_call-told.ensures.after t stands) c.vacant-vacant.ensures

pub returns-clause-does : goal.returns-clause-does
returns-clause-does g c terms =
    let d = (goal.at.returns-clause-does g c).After-answer_call-told in
    let (t, stands) = its_tunnel g d in
    let r = c.args.incoming.now.rules.now in
    let a = c.args.incoming.now.at in
    let now = c.args.incoming.now.moment in
    let item = c.args.incoming.now.item.now in
    let s = c.args.served.now in
    let n = c.args.number.0 in
    let heard = said c.args.heard in
    let m = control_of c.args.message.now in
    let told = c.answer_call-told.result in
    let free = option_map (λ (k : SessionNo). k.0) c.vacant-vacant.result in
    let call = fresh t.secret (number_for free) in
    let its : c.new_call-called.result.call ≡ call = ap (λ (k : TunnelCall). k.call) (its_call g d t stands) ∙ ap (fresh t.secret) (its_number g d) in
    let said_is = c.answer_call-told.ensures.said t stands ∙ ap (λ (k : CallState). (call_step t heard k m now).said) its in
    let after = c.answer_call-told.ensures.after t stands ∙ ap (λ (k : CallState). with_tunnels s (with_step now s.tunnels n (call_step t heard k m now).after)) its in
    let then = c.answer_call-told.ensures.call ∙ ap (λ (k : CallState). call_after k m) its in
    let over : (let k : TunnelCall = record c.new_call-called.result { call = c.answer_call-told.new.call } in k) ≡ called_over item.from n t (call_after call m) =
    ap (λ (k : TunnelCall). let q : TunnelCall = record k { call = c.answer_call-told.new.call } in q) (its_call g d t stands) ∙ ap (λ (k : CallState). called_over item.from n t k) then in
    let makes = makes_so free (told.ended || told.left_out) (record c.new_call-called.result { call = c.answer_call-told.new.call }) (called_over item.from n t (call_after call m)) item.random s c.answer_call-told.new.self c.make_session.new.served (with_step now s.tunnels n (call_step t heard call m now).after) terms after over
    (subst (λ (b : Bool). MakesSession free b (record c.new_call-called.result { call = c.answer_call-told.new.call }) item.random c.answer_call-told.new.self c.make_session.new.served) c.is_unmade-unmade.ensures c.make_session.ensures) in
    asks r (whole s terms) a item c.args.outs.now.items c.requires.here now n heard m t stands free c.vacant-vacant.ensures (said told) said_is (c.answer_call-told.ensures.spelled c.requires.taken.spelled) c.answer_call-told.ensures.few (whole c.make_session.new.served terms) makes
    c.send_datagrams.new.outs.items (c.send_datagrams.ensures.items ∙ ap (λ (sent : List Packet). c.args.outs.now.items ++ tunnel_outs a item.from (payloads sent)) c.as_slice.ensures.value)
