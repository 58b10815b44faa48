-- The mark is set already, or there is none.
use Rattle.std.proofs.Common.{sym, ◌∙◌, true, arith}
use Rattle.bng_peer.specs.Queue.{marks}
use Rattle.bng_peer.proofs.Marks.{as_it_was, past_end, as_many}
use Rattle.bng_peer.proofs.queue.Queue.push.Goals as goal
use Rattle.bng_peer.proofs.queue.Queue.push.Goals.{then-has-via-then-has, then-has-via-else-has+then-len-number}

pub returns-then-has : goal.returns-then-has
returns-then-has c =
    let list = marks c.args.self.now in
    elim c.then-has.branch [
      | then-has-via-then-has w ↦ sym (as_it_was list c.args.number true (sym c.has.ensures ∙ w.if-has.true))
      | then-has-via-else-has+then-len-number w ↦ sym (past_end list c.args.number true (omega (arith, w.len.ensures, w.if-len-number.true, as_many c.args.self.now.links.items)))
    ]
