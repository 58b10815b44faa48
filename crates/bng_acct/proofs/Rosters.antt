-- Terms in their order.
use Rattle.std.proofs.Common.{◌≡◌, ℕ, true, false, List, [], ◌∷◌, ap, ◌∙◌, arith}
use Rattle.std.specs.List.{AllByRecursion}
use Rattle.std.proofs.lemmas.Bool.Decides.{nat_tests}
use Rattle.bng_base.specs.declared.circuit.TermId.{TermId}
use Rattle.bng_acct.specs.declared.held.Held.{Held}
use Rattle.bng_acct.specs.Roster.{before, same, Rises}

pub before_trans : (a b c : TermId) → before a b ≡ true → before b c ≡ true → before a c ≡ true
before_trans a b c p q = grind (arith, nat_tests)

pub before_is_other : (a b : TermId) → before a b ≡ true → same a b ≡ false
before_is_other a b p = grind (arith, nat_tests)

pub after_is_other : (a b : TermId) → before b a ≡ true → same a b ≡ false
after_is_other a b p = grind (arith, nat_tests)

-- of two terms that differ, one comes first
pub otherwise_after : (a b : TermId) → before a b ≡ false → same a b ≡ false → before b a ≡ true
otherwise_after a b p q = grind (arith, nat_tests)

same_parts : (a b : TermId) → same a b ≡ true → (a.session.0 ≡ b.session.0) × (a.serial ≡ b.serial)
same_parts a b p = (grind (arith, nat_tests), grind (arith, nat_tests))

pub same_is : (a b : TermId) → same a b ≡ true → a ≡ b
same_is a b p =
    let parts = same_parts a b p in
    ap (λ (n : ℕ). record a { session = record { 0 = n } }) parts.0 ∙ ap (λ (n : ℕ). record b { serial = n }) parts.1

pub is_same : (a : TermId) → same a a ≡ true
is_same a = grind (arith, nat_tests)

-- what is behind a term, where it is before the first of a rising list
pub behinds : (t : TermId) (x : Held) (xs : List Held) → Rises (x ∷ xs) → before t x.term ≡ true → AllByRecursion (λ h. before t h.term ≡ true) xs
behinds t x [] r p = tt
behinds t x (y ∷ ys) r p = (before_trans t x.term y.term p r.0.0, behinds t y ys r.1 (before_trans t x.term y.term p r.0.0))
