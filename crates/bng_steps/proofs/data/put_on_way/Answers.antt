use Rattle.std.proofs.Common.{ℕ, ap, refl, subst, sym, ◌∙◌}
use Rattle.bng_base.specs.declared.outside.Role.TheVariants.{Access, Tunnel}
use Rattle.bng_lns.specs.Framing.{IsCallFrameTo, call_frame}
use Rattle.bng_steps.specs.declared.way.Way.{Way}
use Rattle.bng_steps.specs.Placed.{IsPlaced}
use Rattle.bng_steps.specs.Frames.{SentDown}
use Rattle.bng_steps.proofs.Values.{none_some}
use Rattle.bng_steps.proofs.data.put_on_way.Goals as goal

pub unreachable-requires : goal.unreachable-requires
unreachable-requires c =
    let (port, is) = subst (IsPlaced c.args.rules.now) c.in-Port.is c.requires.placed in
    none_some port (sym c.in_default.is ∙ c.port_of.ensures ∙ is)

pub returns-in-Some : goal.returns-in-Some
returns-in-Some c =
    let n = c.args.session.now.number.0 in
    let packet = c.args.packet.now.payload in
    subst (λ (w : Way). SentDown w c.args.rules.now n packet (Access c.in-Port.port) c.in-Some.found.peer c.put_in_frame.new.frame.payload) (sym c.in-Port.is)
    (record {
      port = c.in-Some.found;
      its_port = sym c.in-Some.ensures;
      role_is = refl;
      to_is = refl;
      octets_are = c.put_in_frame.ensures.framed;
      again = c.put_in_frame.ensures.again;
    })

pub returns-in-Call : goal.returns-in-Call
returns-in-Call c =
    let called = c.in-Call.called in
    let packet = c.args.packet.now.payload in
    let octets = c.put_in_call.new.frame.payload in
    let far = c.far_session.ensures in
    subst (λ (w : Way). SentDown w c.args.rules.now c.args.session.now.number.0 packet Tunnel called.peer c.put_in_call.new.frame.payload) (sym c.in-Call.is)
    (record { role_is = refl; to_is = refl; octets_are = c.put_in_call.ensures.framed ∙ ap (λ (n : ℕ). call_frame called.far n packet) far; again = subst (λ (n : ℕ). IsCallFrameTo called.far n packet octets) far c.put_in_call.ensures.again })
