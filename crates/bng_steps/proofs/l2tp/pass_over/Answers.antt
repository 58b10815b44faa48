use Rattle.std.proofs.Common.{ℕ, List, Option, ap, subst}
use Rattle.bng_base.specs.Packet.{Packet}
use Rattle.bng_steps.specs.declared.session.Session.{Session}
use Rattle.bng_steps.specs.Doing.{DoesWith}
use Rattle.bng_steps.specs.Frames.{HearsData}
use Rattle.bng_steps.specs.TermRows.{whole}
use Rattle.bng_steps.specs.State.{call_of}
use Rattle.bng_steps.proofs.l2tp.pass_over.Goals as goal

pub returns-clause-does : goal.returns-clause-does
returns-clause-does g c =
    let r = c.args.incoming.now.rules.now in
    let s = whole c.args.served.now c.args.terms.now in
    let s' = whole c.pass_up.new.served c.args.terms.now in
    let a = c.args.incoming.now.at in
    let moment = c.args.incoming.now.moment in
    let item = c.args.incoming.now.item.now in
    let m = c.args.message.now in
    subst (λ (octets : List ℕ). DoesWith (λ e d. HearsData r s e (call_of s item.from m.tunnel m.session) octets d) 1 s s' c.args.outs.now.items c.pass_up.new.outs.items a moment item c.pass_up.result) (ap (λ (p : Packet). p.payload) c.set.ensures)
    (subst (λ (o : Option Session). DoesWith (λ e d. HearsData r s e o c.set.new.self.payload d) 1 s s' c.args.outs.now.items c.pass_up.new.outs.items a moment item c.pass_up.result) c.numbered_over-session.ensures c.pass_up.ensures.does)
