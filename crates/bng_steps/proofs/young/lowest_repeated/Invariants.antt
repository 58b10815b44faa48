use Rattle.std.proofs.Common.{option_map, take}
use Rattle.bng_steps.specs.Discovery.{is_repeated}
use Rattle.bng_steps.specs.Listing.{IsLowestPassing}
use Rattle.bng_steps.proofs.young.lowest_repeated.Given as goal

abbrev pub invariant-loop-number : goal.invariant-loop-number
invariant-loop-number g l = IsLowestPassing (is_repeated l.port l.mac (option_map (λ o. o.now) l.asked)) (g.S.Store.sessions l.sessions) (take l.number-index l.young) l.lowest
