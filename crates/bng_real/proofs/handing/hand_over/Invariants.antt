use Rattle.std.proofs.Common.{◌≡◌}
use Rattle.bng_real.proofs.handing.hand_over.Given as goal

-- the socket took nothing so far
abbrev pub invariant-loop : goal.invariant-loop
invariant-loop g l = g.S.Datagrams.sent l.socket ≡ g.S.Datagrams.sent l.fn.socket
