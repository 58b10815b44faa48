use Rattle.std.proofs.Common.{◌≡◌, ◌+◌, ◌≤◌, List, count_by, length, vec_capacity}
use Rattle.bng_coa.specs.Requests.{is_in_hand}
use Rattle.bng_desk.specs.declared.lists.Lists.{Lists}
use Rattle.bng_desk.specs.Coa.{Requested, replies_in}
use Rattle.bng_desk.proofs.CoaLaws.{AskedSome}
use Rattle.bng_desk.proofs.coa.take_requests.Given as goal

-- what was taken so far
abbrev pub invariant-loop-taken : goal.invariant-loop-taken
invariant-loop-taken g l =
    let told = g.P.Plant.told in
    record {
      requested : List Requested;
      count : length requested ≡ l._taken;
      asked : AskedSome l.named.moment l.named.wall (told l.fn.plant) (told l.plant) l.fn.coa l.coa l.fn.draws l.draws l.fn.lists.items.items l.lists.items.items (replies_in l.fn.lists.repeats.items) (replies_in l.lists.repeats.items) l.quiet requested;
      in_hand : count_by is_in_hand l.coa.requests ≤ count_by is_in_hand l.fn.coa.requests + l._taken;
      number : length l.lists.items.items ≤ length l.fn.lists.items.items + l._taken;
      repeats : length l.lists.repeats.items ≤ length l.fn.lists.repeats.items + l._taken;
      drawn : l.draws.drawn ≤ l.fn.draws.drawn + l._taken;
      capacity : l.lists.items.room ≡ l.fn.lists.items.room;
      places : vec_capacity l.lists.repeats ≡ vec_capacity l.fn.lists.repeats;
      rest : l.lists ≡ (let x : Lists = record l.fn.lists { items = l.lists.items; repeats = l.lists.repeats } in x);
    }
