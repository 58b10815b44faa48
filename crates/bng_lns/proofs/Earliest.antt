-- No deadline is later than the last moment that there is.
use Rattle.std.proofs.Common.{◌≡◌, ◌≤◌, List, [], ◌∷◌, length, refl, arith}
use Rattle.bng_l2tp_reliable.specs.Timers.{never}
use Rattle.bng_lns.specs.declared.place.TunnelPlace.{TunnelPlace}
use Rattle.bng_lns.specs.Places.{earliest}

pub earliest_most : (places : List TunnelPlace) → earliest places ≤ never
earliest_most [] = omega arith
earliest_most (p ∷ places) = omega (arith, earliest_most places)

pub earliest_none : (places : List TunnelPlace) → length places ≤ 0 → earliest places ≡ never
earliest_none [] few = refl
earliest_none (p ∷ places) few = absurd (omega (arith, few))
