use Rattle.std.proofs.Common.{refl, subst, sym}
use Rattle.bng_ppp.specs.Said.{payloads}
use Rattle.bng_steps.specs.declared.way.Way.{Way}
use Rattle.bng_steps.specs.Placed.{IsPlaced}
use Rattle.bng_steps.specs.Link.{SaysOn, call_outs, ppp_outs}
use Rattle.bng_steps.proofs.drive.send_frames.Goals as goal

pub send_at-requires-clause-placed : goal.send_at-requires-clause-placed
send_at-requires-clause-placed c = subst (IsPlaced c.args.rules.now) c.in-Port.is c.requires.placed

pub returns-in-Port-clause-told : goal.returns-in-Port-clause-told
returns-in-Port-clause-told c =
    let (port, there) = subst (IsPlaced c.args.rules.now) c.in-Port.is c.requires.placed in
    let n = c.args.session.now.number in
    let frames = payloads c.args.frames.now in
    let first = ppp_outs c.args.at c.in-Port.port c.in-Port.mac n port frames in (
      first,
      subst (λ (w : Way). SaysOn w c.args.rules.now c.args.at n frames first) (sym c.in-Port.is) (record { port = port; port_is = there; outs_are = refl }),
      c.send_at.ensures.items port there,
    )

pub returns-in-Call-clause-told : goal.returns-in-Call-clause-told
returns-in-Call-clause-told c =
    let frames = payloads c.args.frames.now in
    let first = call_outs c.args.at c.in-Call.called frames in (
      first,
      subst (λ (w : Way). SaysOn w c.args.rules.now c.args.at c.args.session.now.number frames first) (sym c.in-Call.is) refl,
      c.send_over.ensures.items,
    )
