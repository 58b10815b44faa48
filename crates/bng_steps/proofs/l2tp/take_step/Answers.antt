use Rattle.std.proofs.Common.{◌++◌, Bool, List, refl, ap, subst, sym, ◌∙◌, arith, length}
use Rattle.bng_base.specs.Packet.{Packet}
use Rattle.bng_base.specs.declared.fate.Fate.TheVariants.{Consumed}
use Rattle.bng_base.specs.declared.item.At.{At}
use Rattle.bng_l2tp_wire.specs.View.{payloads, said, control_of}
use Rattle.bng_steps.specs.Cutting.{cut_if}
use Rattle.bng_steps.specs.Datagrams.{TakesStep}
use Rattle.bng_steps.specs.Deed.{at_of, handled, tunnel_outs}
use Rattle.bng_steps.specs.Doing.{DoesWith}
use Rattle.bng_steps.specs.Protocol.{entry_of}
use Rattle.bng_steps.specs.TermRows.{whole}
use Rattle.bng_steps.proofs.Carrying.{its_place}
use Rattle.bng_steps.proofs.Tunnelling.{payloads_length, tunnel_outs_length}
use Rattle.bng_steps.proofs.l2tp.take_step.Goals as goal

pub send_datagrams-requires : goal.send_datagrams-requires
send_datagrams-requires g c = record { room = omega (arith, c.requires.room, c.requires.taken.few, payloads_length c.args.heard.outs.items, ap length c.as_slice.ensures.value) }

pub returns-then-heard-clause-does : goal.returns-then-heard-clause-does
returns-then-heard-clause-does g c =
    let s = whole c.args.served.now c.args.terms.now in
    subst (λ (b : Bool). DoesWith (λ e d. TakesStep b c.args.number.0 (said c.args.heard) (control_of c.args.message.now) c.args.incoming.now.rules.now s e c.args.served.now.tunnels d) 10 s (whole c.hear_call.new.served c.hear_call.new.terms)
    c.args.outs.now.items c.hear_call.new.outs.items c.args.incoming.now.at c.args.incoming.now.moment c.args.incoming.now.item.now Consumed) (sym c.if-heard.true) c.hear_call.ensures.does

pub returns-else-heard-clause-does : goal.returns-else-heard-clause-does
returns-else-heard-clause-does g c =
    let r = c.args.incoming.now.rules.now in
    let s = whole c.args.served.now c.args.terms.now in
    let a = c.args.incoming.now.at in
    let item = c.args.incoming.now.item.now in
    let e = entry_of a.seat a.place c.args.incoming.now.moment item in
    let frames = payloads c.args.heard.outs.items in
    let outs = c.args.outs.now.items in
    let deed = handled s e (tunnel_outs (at_of s e) item.from frames) (cut_if c.args.heard.cleared c.args.number.0 s) in
    record {
      deed = deed;
      entry = refl;
      fate_is = refl;
      next = sym c.cut_if.ensures.cut;
      says = subst (λ (b : Bool). TakesStep b c.args.number.0 (said c.args.heard) (control_of c.args.message.now) r s e s.tunnels deed) (sym c.if-heard.false) (c.requires.taken.spelled, refl);
      outs_are = c.send_datagrams.ensures.items ∙ ap (λ (sent : List Packet). outs ++ tunnel_outs a item.from (payloads sent)) c.as_slice.ensures.value
          ∙ ap (λ (b : At). outs ++ tunnel_outs b item.from frames) (its_place s a c.args.incoming.now.moment item c.requires.here);
      few = omega (arith, c.requires.taken.few, tunnel_outs_length (at_of s e) item.from frames);
    }
