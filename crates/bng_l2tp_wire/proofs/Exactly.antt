-- When Outside comes, from what each answer says.
use Rattle.std.proofs.Common.{◌≡◌, Result, Ok, Err, refl}
use Rattle.std.specs.Prelude.{◌↔◌, IfOk, IsOkAnd, OnErr}
use Rattle.bng_base.specs.declared.codec.ReadError.{ReadError}
use Rattle.bng_base.specs.declared.codec.ReadError.TheVariants.{Outside, TooMany}

pub exactly_outside : {A : Type 0} (Q : A → Type 0) (none : Type 0) (r : Result A ReadError) → ((v : A) → Q v → none → ⊥) → IfOk r Q → OnErr r none → (r ≡ Err TooMany → ⊥)
    → (r ≡ Err Outside) ↔ none
exactly_outside Q none (Ok v) clash found why never = (λ e. absurd cc, λ n. absurd (clash v found n))
exactly_outside Q none (Err Outside) clash found why never = (λ _. why, λ _. refl)
exactly_outside Q none (Err TooMany) clash found why never = absurd (never refl)

-- what the octets say is what is answered
pub only_found : {A : Type 0} (Q P : A → Type 0) (none : Type 0) (r : Result A ReadError) → ((v : A) → Q v → P v) → (none → ⊥) → IfOk r Q → OnErr r none → (r ≡ Err TooMany → ⊥) → IsOkAnd r P
only_found Q P none (Ok v) same some found why never = same v found
only_found Q P none (Err Outside) same some found why never = absurd (some why)
only_found Q P none (Err TooMany) same some found why never = absurd (never refl)
