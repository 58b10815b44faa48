use Rattle.std.proofs.Common.{sym, ◌∙◌}
use Rattle.bng_acct.specs.Spool.{IsReady}
use Rattle.bng_acct.proofs.Agreeing.{agree_same, ready_more}
use Rattle.bng_acct.proofs.spool.Spool.next.Goals as goal

pub write-requires-clause-classes : goal.write-requires-clause-classes
write-requires-clause-classes c =
    let out = c.in_ok-number.ensures.some in
    let inv = c.self.invariant in
    let ready = ready_more c.self.inside.queue.sheets c.hand_out.new.self.sheets c.in_ok-number.number _ inv.ready out.sets (inv.ready c.in_ok-number.number out.sheet out.was) in
    let here : IsReady c.in-Some.sheet.now.record = ready c.in_ok-number.number c.in-Some.sheet.now (sym c.in-Some.ensures) in
    (here.classes, here.are)

pub write-requires-clause-began : goal.write-requires-clause-began
write-requires-clause-began c =
    let out = c.in_ok-number.ensures.some in
    let inv = c.self.invariant in
    let ready = ready_more c.self.inside.queue.sheets c.hand_out.new.self.sheets c.in_ok-number.number _ inv.ready out.sets (inv.ready c.in_ok-number.number out.sheet out.was) in
    let here : IsReady c.in-Some.sheet.now.record = ready c.in_ok-number.number c.in-Some.sheet.now (sym c.in-Some.ensures) in
    here.began

pub invariant_of-self-2 : goal.invariant_of-self-2
invariant_of-self-2 c =
    let out = c.in_ok-number.ensures.some in
    let inv = c.self.invariant in
    record {
      room = inv.room;
      few = inv.few;
      most = out.same_most ∙ inv.most;
      agree = agree_same c.self.inside.queue.sheets c.hand_out.new.self.sheets c.self.inside.roster.held out.sheet c.in_ok-number.number inv.agree out.was out.sets;
      counted = out.same_count ∙ inv.counted;
      ready = ready_more c.self.inside.queue.sheets c.hand_out.new.self.sheets c.in_ok-number.number _ inv.ready out.sets (inv.ready c.in_ok-number.number out.sheet out.was);
      stops_are = inv.stops_are;
    }
