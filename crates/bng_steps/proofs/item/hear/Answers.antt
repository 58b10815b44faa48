use Rattle.std.proofs.Common.{arith, refl}
use Rattle.bng_base.specs.declared.item.ItemKind.TheVariants.{Access, Core, Tunnel, Verdict, Change, Tick, End}
use Rattle.bng_steps.specs.Changes.{HearsChange}
use Rattle.bng_steps.specs.Frames.{HearsCore}
use Rattle.bng_steps.specs.TermRows.{whole}
use Rattle.bng_steps.proofs.Arriving.{does_more}
use Rattle.bng_steps.proofs.ByKind.{answered_so, ended, stepped, stepped_with, ticked, unanswered, unasked}
use Rattle.bng_steps.proofs.SumsKept.{keeps_stay}
use Rattle.bng_steps.proofs.item.hear.Goals as goal

pub returns-in-Access-clause-does : goal.returns-in-Access-clause-does
returns-in-Access-clause-does g c =
    let none = unasked c.args.incoming.now.rules.now c.args.served.now c.args.incoming.now.item.now c.args.limited c.args.claim (Access c.in-Access.number) c.in-Access.is (λ w e. e) c.requires.asked in
    stepped c.args.incoming.now.rules.now (whole c.args.served.now c.args.terms.now) (whole c.hear_access.new.served c.hear_access.new.terms) c.args.outs.now.items c.hear_access.new.outs.items c.args.incoming.now.at c.args.incoming.now.moment c.args.incoming.now.item.now c.args.limited c.args.claim none c.hear_access.result (Access c.in-Access.number) c.in-Access.is refl
    c.hear_access.ensures.does

pub returns-in-Core-clause-does : goal.returns-in-Core-clause-does
returns-in-Core-clause-does g c =
    let s = whole c.args.served.now c.args.terms.now in
    let s' = whole c.hear_core.new.served c.args.terms.now in
    let none = unasked c.args.incoming.now.rules.now c.args.served.now c.args.incoming.now.item.now c.args.limited c.args.claim Core c.in-Core.is (λ w e. e) c.requires.asked in
    stepped c.args.incoming.now.rules.now s s' c.args.outs.now.items c.hear_core.new.outs.items c.args.incoming.now.at c.args.incoming.now.moment c.args.incoming.now.item.now c.args.limited c.args.claim none c.hear_core.result Core c.in-Core.is refl
    (does_more s s' c.args.outs.now.items c.hear_core.new.outs.items c.args.incoming.now.at c.args.incoming.now.moment c.args.incoming.now.item.now c.hear_core.result (λ e d. HearsCore c.args.incoming.now.rules.now s e d) (λ e d. HearsCore c.args.incoming.now.rules.now s e d) 1 10 (omega arith)
    (λ d says. says) c.hear_core.ensures.does)

pub returns-in-Tunnel-clause-does : goal.returns-in-Tunnel-clause-does
returns-in-Tunnel-clause-does g c =
    let none = unasked c.args.incoming.now.rules.now c.args.served.now c.args.incoming.now.item.now c.args.limited c.args.claim Tunnel c.in-Tunnel.is (λ w e. e) c.requires.asked in
    stepped c.args.incoming.now.rules.now (whole c.args.served.now c.args.terms.now) (whole c.hear_tunnel.new.served c.hear_tunnel.new.terms) c.args.outs.now.items c.hear_tunnel.new.outs.items c.args.incoming.now.at c.args.incoming.now.moment c.args.incoming.now.item.now c.args.limited c.args.claim none c.hear_tunnel.result Tunnel c.in-Tunnel.is refl
    c.hear_tunnel.ensures.does

pub returns-in-Verdict-clause-does : goal.returns-in-Verdict-clause-does
returns-in-Verdict-clause-does g c =
    let h = c.hear_verdict.ensures.does in
    let few = h.few in
    stepped_with c.args.incoming.now.rules.now (whole c.args.served.now c.args.terms.now) (whole c.hear_verdict.new.served c.hear_verdict.new.terms) c.args.outs.now.items c.hear_verdict.new.outs.items c.args.incoming.now.at c.args.incoming.now.moment c.args.incoming.now.item.now c.args.limited c.args.claim c.hear_verdict.result Verdict c.in-Verdict.is tt
    (record { deed = h.deed; entry = h.entry; fate_is = h.fate_is; next = h.next; says = h.says; outs_are = h.outs_are; few = omega (arith, few) })

pub returns-in-Access-clause-answered : goal.returns-in-Access-clause-answered
returns-in-Access-clause-answered g c e same = unanswered c.args.incoming.now.rules.now (whole c.args.served.now c.args.terms.now) c.args.incoming.now.item.now (Access c.in-Access.number) c.in-Access.is (λ w. refl) c.args.answers.now.items e same

pub returns-in-Core-clause-answered : goal.returns-in-Core-clause-answered
returns-in-Core-clause-answered g c e same = unanswered c.args.incoming.now.rules.now (whole c.args.served.now c.args.terms.now) c.args.incoming.now.item.now Core c.in-Core.is (λ w. refl) c.args.answers.now.items e same

pub returns-in-Tunnel-clause-answered : goal.returns-in-Tunnel-clause-answered
returns-in-Tunnel-clause-answered g c e same = unanswered c.args.incoming.now.rules.now (whole c.args.served.now c.args.terms.now) c.args.incoming.now.item.now Tunnel c.in-Tunnel.is (λ w. refl) c.args.answers.now.items e same

pub returns-in-Verdict-clause-answered : goal.returns-in-Verdict-clause-answered
returns-in-Verdict-clause-answered g c e same = unanswered c.args.incoming.now.rules.now (whole c.args.served.now c.args.terms.now) c.args.incoming.now.item.now Verdict c.in-Verdict.is (λ w. refl) c.args.answers.now.items e same

pub returns-in-Tick-clause-answered : goal.returns-in-Tick-clause-answered
returns-in-Tick-clause-answered g c e same = unanswered c.args.incoming.now.rules.now (whole c.args.served.now c.args.terms.now) c.args.incoming.now.item.now Tick c.in-Tick.is (λ w. refl) c.args.answers.now.items e same

pub returns-in-End-clause-answered : goal.returns-in-End-clause-answered
returns-in-End-clause-answered g c e same = unanswered c.args.incoming.now.rules.now (whole c.args.served.now c.args.terms.now) c.args.incoming.now.item.now End c.in-End.is (λ w. refl) c.args.answers.now.items e same

pub returns-in-Change-clause-answered : goal.returns-in-Change-clause-answered
returns-in-Change-clause-answered g c e same =
    let (answer, answers, pushed) = c.hear_change.ensures.answered e same in
    (answer, answered_so c.args.incoming.now.rules.now (whole c.args.served.now c.args.terms.now) c.args.incoming.now.item.now Change c.in-Change.is e same answer answers, pushed)

pub returns-in-Change-clause-sums : goal.returns-in-Change-clause-sums
returns-in-Change-clause-sums g c = keeps_stay c.args.terms.now c.hear_change.new.terms c.hear_change.ensures.sums

pub returns-in-Change-clause-does : goal.returns-in-Change-clause-does
returns-in-Change-clause-does g c =
    let r = c.args.incoming.now.rules.now in
    let s = whole c.args.served.now c.args.terms.now in
    let s' = whole c.hear_change.new.served c.hear_change.new.terms in
    let none = unasked r c.args.served.now c.args.incoming.now.item.now c.args.limited c.args.claim Change c.in-Change.is (λ w e. e) c.requires.asked in
    stepped r s s' c.args.outs.now.items c.hear_change.new.outs.items c.args.incoming.now.at c.args.incoming.now.moment c.args.incoming.now.item.now c.args.limited c.args.claim none c.hear_change.result Change c.in-Change.is refl
    (does_more s s' c.args.outs.now.items c.hear_change.new.outs.items c.args.incoming.now.at c.args.incoming.now.moment c.args.incoming.now.item.now c.hear_change.result (λ e d. HearsChange r s e d) (λ e d. HearsChange r s e d) 5 10 (omega arith)
    (λ d says. says) c.hear_change.ensures.does)

pub returns-in-Tick-clause-does : goal.returns-in-Tick-clause-does
returns-in-Tick-clause-does g c =
    let none = unasked c.args.incoming.now.rules.now c.args.served.now c.args.incoming.now.item.now c.args.limited c.args.claim Tick c.in-Tick.is (λ w e. e) c.requires.asked in
    ticked c.args.incoming.now.rules.now (whole c.args.served.now c.args.terms.now) (whole c.tick.new.served c.tick.new.terms) c.args.outs.now.items c.tick.new.outs.items c.args.incoming.now.at c.args.incoming.now.moment c.args.incoming.now.item.now c.args.limited c.args.claim none c.requires.place c.in-Tick.is c.tick.ensures.ticked

pub returns-in-End-clause-does : goal.returns-in-End-clause-does
returns-in-End-clause-does g c =
    let none = unasked c.args.incoming.now.rules.now c.args.served.now c.args.incoming.now.item.now c.args.limited c.args.claim End c.in-End.is (λ w e. e) c.requires.asked in
    ended c.args.incoming.now.rules.now (whole c.args.served.now c.args.terms.now) (whole c.end.new.served c.end.new.terms) c.args.outs.now.items c.end.new.outs.items c.args.incoming.now.at c.args.incoming.now.moment c.args.incoming.now.item.now c.args.limited c.args.claim none c.requires.place c.in-End.is c.end.ensures.ended
