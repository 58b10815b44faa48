-- When Outside comes, from what each answer says.
use Rattle.std.proofs.Common.{◌≡◌, Result, Ok, Err, refl}
use Rattle.std.specs.Prelude.{◌↔◌, IfOk, OnErr}
use Rattle.bng_base.specs.declared.codec.ReadError.{ReadError}
use Rattle.bng_base.specs.declared.codec.ReadError.TheVariants.{Outside, TooMany}

pub exactly_outside : {A : Type 0} (Q : A → Type 0) (none : Type 0) (r : Result A ReadError) → ((v : A) → Q v → none → ⊥) → IfOk r Q → OnErr r none → (r ≡ Err TooMany → ⊥)
    → (r ≡ Err Outside) ↔ none
exactly_outside Q none (Ok v) clash found why never = (λ e. absurd cc, λ n. absurd (clash v found n))
exactly_outside Q none (Err Outside) clash found why never = (λ _. why, λ _. refl)
exactly_outside Q none (Err TooMany) clash found why never = absurd (never refl)
