use Rattle.std.proofs.Common.{◌∙◌, ap, refl, subst, sym, arith, length, length-append}
use Rattle.bng_steps.specs.declared.session.Session.{Session}
use Rattle.bng_steps.specs.declared.way.Way.{Way}
use Rattle.bng_steps.specs.declared.way.Way.TheVariants.{Call}
use Rattle.bng_steps.specs.Placed.{IsPlaced}
use Rattle.bng_steps.specs.Link.{PartsOn, parted_way}
use Rattle.bng_steps.proofs.parting.part.Goals as goal

pub send_padt-requires-clause-placed : goal.send_padt-requires-clause-placed
send_padt-requires-clause-placed g c = subst (IsPlaced c.args.incoming.now.rules.now) c.in-Port.is c.requires.placed

pub returns-in-Port-clause-told : goal.returns-in-Port-clause-told
returns-in-Port-clause-told g c =
    let (padt, ends, sent) = c.send_padt.ensures.items in
    let r = c.args.incoming.now.rules.now in
    let u = c.args.served.now.tunnels in (
      padt,
      subst (λ (w : Way). PartsOn w r c.args.incoming.now.at c.args.incoming.now.moment c.args.session.now.number u padt u) (sym c.in-Port.is) (ends, refl),
      sent,
      omega (arith, c.send_padt.ensures.few, ap length sent, length-append c.args.outs.now.items padt),
    )

pub returns-in-Port-clause-session : goal.returns-in-Port-clause-session
returns-in-Port-clause-session g c =
    ap (λ (w : Way). let y : Session = record c.args.session.now { way = w } in y) (sym (ap parted_way c.in-Port.is))

pub returns-in-Call-clause-told : goal.returns-in-Call-clause-told
returns-in-Call-clause-told g c =
    let (last, hangs, sent, few) = c.hang_up.ensures.told in (
      last,
      subst (λ (w : Way). PartsOn w c.args.incoming.now.rules.now c.args.incoming.now.at c.args.incoming.now.moment c.args.session.now.number c.args.served.now.tunnels last c.hang_up.new.served.tunnels) (sym c.in-Call.is) hangs,
      sent,
      few,
    )

pub returns-in-Call-clause-session : goal.returns-in-Call-clause-session
returns-in-Call-clause-session g c =
    ap (λ (w : Way). let y : Session = record c.args.session.now { way = w } in y)
    (ap Call c.hang_up.ensures.called ∙ sym (ap parted_way c.in-Call.is))
