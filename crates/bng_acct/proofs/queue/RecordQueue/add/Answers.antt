use Rattle.std.proofs.Common.{Some, ap, arith}
use Rattle.bng_acct.specs.Queue.{Open, count, is_waiting}
use Rattle.bng_acct.proofs.Queues.{waiting_le_count, waits_more, all_wait_more, below_more, others}
use Rattle.bng_acct.proofs.queue.RecordQueue.add.Goals as goal

pub push-requires : goal.push-requires
push-requires c =
    let inv = c.self.invariant in
    let places = c.self.inside.sheets.places in
    let put = c.put-number.ensures in
    record {
      below = omega (arith, put.below, inv.room_is);
      apart = others places c.put-number.result (ap is_waiting put.free) c.self.inside.waiting.numbers inv.wait.each;
      few = omega (arith, waiting_le_count c.self.inside.waiting.numbers places inv.wait, inv.room_is, c.requires.room, ap (λ (q : Open). count q.sheets) c.self.view_is, ap (λ (q : Open). q.most) c.self.view_is);
    }

pub invariant_of-self : goal.invariant_of-self
invariant_of-self c =
    let inv = c.self.invariant in
    let old = c.self.inside.sheets.places in
    let new = c.put-number.new.self.places in
    let waiting = c.self.inside.waiting.numbers in
    let n = c.put-number.result in
    let put = c.put-number.ensures in
    record {
      most_fits = omega (arith, inv.most_fits, put.room);
      room_is = omega (arith, inv.room_is, c.push.ensures.room, put.room);
      wait = rw c.push.ensures.numbers (waits_more old new waiting n c.args.sheet inv.wait put.free put.sets c.requires.fresh);
      all_wait = rw c.push.ensures.numbers (all_wait_more old new waiting n c.args.sheet inv.all_wait put.sets);
      below = rw put.room (below_more old new n c.self.inside.sheets.room (Some c.args.sheet) inv.below put.sets put.below);
    }
