use Rattle.std.proofs.Common.{◌≡◌, take, drop, map}
use Rattle.bng_l2tp_reliable.specs.Flight.{sent_again}
use Rattle.bng_l2tp_reliable.proofs.sent.each_again.Given as goal

abbrev pub invariant-loop-sent : goal.invariant-loop-sent
invariant-loop-sent l =
    (take l.sent-index l.sends ≡ map (sent_again l.now) (take l.sent-index l.fn.sends)) × (drop l.sent-index l.sends ≡ drop l.sent-index l.fn.sends)
