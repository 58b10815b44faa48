use Rattle.std.proofs.Common.{◌≡◌, ◌+◌, ◌++◌, List, length}
use Rattle.std.specs.Prelude.{Some}
use Rattle.bng_base.specs.Chain.{Chain}
use Rattle.bng_lane.specs.Due.{GivesUp}
use Rattle.bng_verdict.specs.declared.question.QuestionNo.{QuestionNo}
use Rattle.bng_desk.specs.Items.{drawn_from}
use Rattle.bng_desk.specs.Logins.{timeout_items}
use Rattle.bng_desk.proofs.due.add_timeouts.Given as goal

-- the questions that were given up so far, each an item
abbrev pub invariant-loop-given_up : goal.invariant-loop-given_up
invariant-loop-given_up l = record {
  timed : List QuestionNo;
  count : length timed ≡ l._given_up;
  given_up : Chain (λ a (q : QuestionNo) b. GivesUp a l.now (Some q) b) l.fn.lane timed l.lane;
  items : l.items.items ≡ l.fn.items.items ++ drawn_from l.fn.draws.seed l.fn.draws.drawn (timeout_items timed);
  draws : l.draws ≡ record l.fn.draws { drawn = l.fn.draws.drawn + length timed };
  number : length l.items.items ≡ length l.fn.items.items + l._given_up;
  capacity : l.items.room ≡ l.fn.items.room;
}
