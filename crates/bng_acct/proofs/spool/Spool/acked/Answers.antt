use Rattle.std.proofs.Common.{sym, subst, ◌∙◌, arith}
use Rattle.bng_acct.specs.Queue.{Open}
use Rattle.bng_acct.specs.Consistent.{IsConsistent}
use Rattle.bng_acct.proofs.Agreeing.{agree_less, ready_less}
use Rattle.bng_acct.proofs.Releasing.{released}
use Rattle.bng_acct.proofs.spool.Spool.acked.Goals as goal

pub invariant_of-self : goal.invariant_of-self
invariant_of-self c = subst (λ (q : Open). IsConsistent c.self.inside.rules q c.self.inside.roster c.self.inside.stops) (sym c.in_default.ensures.kept) c.self.invariant

pub overflow_sub-self : goal.overflow_sub-self
overflow_sub-self c =
    let inv = c.self.invariant in
    let r = c.in-Some.sheet.record in
    let marked = inv.agree.marked c.args.n.0 c.in-Some.sheet (sym c.in-Some.ensures.value) in
    let done = released c.self.inside.roster.held c.release.new.roster.held r.facts.term r.status c.args.n.0 inv.agree.kept inv.agree.stopped marked c.release.ensures.releases in
    omega (arith, done.stops, inv.stops_are, c.stops_in.ensures)

pub invariant_of-self-2 : goal.invariant_of-self-2
invariant_of-self-2 c =
    let inv = c.self.invariant in
    let r = c.in-Some.sheet.record in
    let here = sym c.in-Some.ensures.value in
    let marked = inv.agree.marked c.args.n.0 c.in-Some.sheet here in
    let done = released c.self.inside.roster.held c.release.new.roster.held r.facts.term r.status c.args.n.0 inv.agree.kept inv.agree.stopped marked c.release.ensures.releases in
    record {
      room = c.release.ensures.room ∙ inv.room;
      few = inv.few;
      most = c.in-Some.ensures.most ∙ inv.most;
      agree = agree_less c.self.inside.queue.sheets c.remove.new.self.sheets c.self.inside.roster.held c.release.new.roster.held c.in-Some.sheet c.args.n.0 inv.agree here c.in-Some.ensures.sets done.marks done.kept done.stopped done.rises;
      counted = omega (arith, c.in-Some.ensures.counts, inv.counted, done.counts);
      ready = ready_less c.self.inside.queue.sheets c.remove.new.self.sheets c.args.n.0 inv.ready c.in-Some.ensures.sets;
      stops_are = omega (arith, done.stops, inv.stops_are, c.stops_in.ensures);
    }

pub returns-clause-agree : goal.returns-clause-agree
returns-clause-agree c =
    let inv = c.self.invariant in
    let r = c.in-Some.sheet.record in
    let here = sym c.in-Some.ensures.value in
    let marked = inv.agree.marked c.args.n.0 c.in-Some.sheet here in
    let done = released c.self.inside.roster.held c.release.new.roster.held r.facts.term r.status c.args.n.0 inv.agree.kept inv.agree.stopped marked c.release.ensures.releases in
    agree_less c.self.inside.queue.sheets c.remove.new.self.sheets c.self.inside.roster.held c.release.new.roster.held c.in-Some.sheet c.args.n.0 inv.agree here c.in-Some.ensures.sets done.marks done.kept done.stopped done.rises
