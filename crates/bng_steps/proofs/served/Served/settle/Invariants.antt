use Rattle.std.proofs.Common.{◌≡◌, ◌<◌, ◌^◌, length, vec_capacity, true}
use Rattle.std.specs.List.{All}
use Rattle.bng_steps.specs.Listing.{passing_in}
use Rattle.bng_steps.specs.Serving.{AreApart, AreLeased, AreAsking, AreOfShard, AreOwn, AreYoung, asks, is_young}
use Rattle.bng_steps.proofs.Settling.{Settles}
use Rattle.bng_steps.proofs.served.Served.settle.Given as goal

abbrev pub invariant-loop-number : goal.invariant-loop-number
invariant-loop-number g l = record {
  settles : Settles l.fn.self.sessions (g.S.Store.sessions l.self-inside.sessions) l.self-inside.leaving.items;
  own : AreOwn l.fn.self.sessions;
  of_shard : AreOfShard l.fn.self.sessions;
  apart : g.S.Store.unique ≡ true → AreApart l.fn.self.sessions;
  leased : AreLeased l.fn.self.sessions;
  begun : l.self-inside.begun ≡ l.fn.self.begun;
  asked : l.self-inside.question_count ≡ l.fn.self.question_count;
  passed : l.self-inside.passed.items ≡ l.fn.self.passed;
  moments : length l.self-inside.passed.items ≡ 1024;
  moments_low : All (λ moment. moment < 2 ^ 60) l.self-inside.passed.items;
  meters : l.self-inside.meters.items ≡ l.fn.self.meters;
  metered : length l.self-inside.meters.items ≡ 1024;
  tunnels : l.self-inside.tunnels ≡ l.fn.self.tunnels;
  room : 1022 < vec_capacity l.self-inside.leaving;
  asking : AreAsking l.fn.self.sessions l.self-inside.asking.items;
  asking_counted : passing_in asks l.fn.self.sessions ≡ length l.self-inside.asking.items;
  asking_room : 1022 < vec_capacity l.self-inside.asking;
  young : AreYoung l.fn.self.sessions l.self-inside.young.items;
  young_counted : passing_in is_young l.fn.self.sessions ≡ length l.self-inside.young.items;
  young_room : 1022 < vec_capacity l.self-inside.young;
}

abbrev pub decreases-loop-number : goal.decreases-loop-number
decreases-loop-number g l = length l.self-inside.leaving.items
