-- A journal leaves the rules of a shard what they are.
use Rattle.std.proofs.Common.{◌≡◌, List, [], ◌∷◌, refl}
use Rattle.bng_engine.specs.Journals.{after}
use Rattle.bng_steps.specs.Protocol.{ShardState, Handled, pppoe}

pub after_rules : (s : ShardState) (es : List Handled) → (after pppoe s es).rules ≡ s.rules
after_rules s [] = refl
after_rules s (h ∷ es) = after_rules (pppoe.next s h) es
