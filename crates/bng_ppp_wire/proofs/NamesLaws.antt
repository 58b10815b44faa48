-- The types that a list of options has.
use Rattle.std.proofs.Common.{◌≡◌, ℕ, zero, suc, ◌<◌, Bool, true, false, List, [], ◌∷◌, length, get_or, eq-eqb, refl, ap, arith}
use Rattle.std.specs.Prelude.{◌||◌, ◌==◌}
use Rattle.bng_ppp_wire.specs.declared.view.Opt.{Opt}
use Rattle.bng_ppp_wire.specs.View.{options_of}
use Rattle.bng_ppp_wire.specs.Listing.{names}

or-true : (a b : Bool) → b ≡ true → (a || b) ≡ true
or-true true b e = refl
or-true false b e = e

-- a list that has an option of a type names it
pub names-at : (os : List Opt) (i kind : ℕ) (d : Opt) → i < length os → (get_or os i d).kind ≡ kind → names (options_of os) kind ≡ true
names-at [] i kind d within is = absurd (omega arith)
names-at (o ∷ os) zero kind d within is = ap (λ (b : Bool). b || names (options_of os) kind) (eq-eqb o.kind kind is)
names-at (o ∷ os) (suc i) kind d within is = or-true (o.kind == kind) (names (options_of os) kind) (names-at os i kind d (omega arith) is)
