-- A frame that is none stays none.
use Rattle.std.proofs.Common.{◌≡◌, ℕ, List, sym, subst}
use Rattle.bng_base.specs.declared.settings.AccessPort.{AccessPort}
use Rattle.bng_base.specs.FateOf.{Arrival}
use Rattle.bng_base.specs.PppoeGrammar.{PppoeFrame}
use Rattle.bng_forward.specs.Fates.{IsFrame}

-- what is no frame of the one is none of the other, where they are the same
pub no_frame : (ports ports' : List AccessPort) (number : ℕ) (a a' : Arrival) → ports ≡ ports' → a ≡ a' → ((p : PppoeFrame) → ¬ (IsFrame ports number a p)) → (p : PppoeFrame) → ¬ (IsFrame ports' number a' p)
no_frame ports ports' number a a' e f none p h = none p (subst (λ (x : Arrival). IsFrame ports number x p) (sym f) (subst (λ (qs : List AccessPort). IsFrame qs number a' p) (sym e) h))
