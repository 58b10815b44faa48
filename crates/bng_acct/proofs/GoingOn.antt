-- Attributes one after the other.
use Rattle.std.proofs.Common.{ℕ, List, [], ◌∷◌, ◌++◌, sym, ap, ◌∙◌, append_assoc, append-nil}
use Rattle.std.specs.List.{AllByRecursion}
use Rattle.std.proofs.lemmas.List.Concat.{flat_map-append}
use Rattle.bng_radius_wire.specs.Attributes.{Field, text}
use Rattle.bng_radius_wire.specs.Grammar.{attributes_text}
use Rattle.bng_acct.specs.Attributes.{IsPlain, GoesOn}

pub all_both : {X : Type 0} (P : X → Type 0) (xs ys : List X) → AllByRecursion P xs → AllByRecursion P ys → AllByRecursion P (xs ++ ys)
all_both P [] ys p q = q
all_both P (x ∷ xs) ys p q = (p.0, all_both P xs ys p.1 q)

-- some attributes, and then others
pub both : {a b d : List ℕ} {fs gs : List Field} → GoesOn a b fs → GoesOn b d gs → GoesOn a d (fs ++ gs)
both {a} {b} {d} {fs} {gs} p q = record {
  text = q.text ∙ ap (λ (r : List ℕ). r ++ attributes_text gs) p.text ∙ append_assoc a (attributes_text fs) (attributes_text gs) ∙ ap (λ (r : List ℕ). a ++ r) (sym (flat_map-append text fs gs));
  plain = all_both IsPlain fs gs p.plain q.plain;
}

-- no attribute
pub none : (a : List ℕ) → GoesOn a a []
none a = record { text = sym (append-nil a); plain = tt }
