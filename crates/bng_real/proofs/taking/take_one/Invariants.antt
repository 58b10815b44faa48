use Rattle.std.proofs.Common.{◌≡◌, ◌≤◌}
use Rattle.bng_real.proofs.taking.take_one.Given as goal

-- the count has not fallen, and the socket gave nothing so far
abbrev pub invariant-loop : goal.invariant-loop
invariant-loop g l = record { later : l.initial.faults ≤ l.faults; none : g.S.Datagrams.given l.socket ≡ g.S.Datagrams.given l.fn.socket }
