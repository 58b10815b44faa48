use Rattle.std.proofs.Common.{◌≡◌, ◌+◌, ◌≤◌, List, length}
use Rattle.bng_desk.specs.Logins.{Answered}
use Rattle.bng_desk.proofs.LoginLaws.{HeardSome}
use Rattle.bng_desk.proofs.answers.take_replies.Given as goal

-- what was heard so far
abbrev pub invariant-loop-taken : goal.invariant-loop-taken
invariant-loop-taken g l =
    let told = g.P.Plant.told in
    record {
      answers : List Answered;
      count : length answers ≡ l._taken;
      heard : HeardSome (told l.fn.plant) (told l.plant) l.fn.lane l.lane l.fn.draws l.draws l.fn.items.items l.items.items l.quiet answers;
      number : length l.items.items ≤ length l.fn.items.items + l._taken;
      drawn : l.draws.drawn ≤ l.fn.draws.drawn + l._taken;
      capacity : l.items.room ≡ l.fn.items.room;
    }
