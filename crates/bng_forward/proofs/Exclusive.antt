-- Of a table's fates one alone holds.
use Rattle.std.proofs.Common.{◌≡◌, ℕ, inl, inr, List, [], ◌∷◌, sym, ◌∙◌}
use Rattle.bng_base.specs.declared.fate.Fate.{Fate}
use Rattle.bng_base.specs.declared.fate.Fate.TheVariants.{Forwarded}
use Rattle.bng_forward.specs.Cases.{Case, FirstOf}
use Rattle.bng_forward.specs.Fates.{Found, UpFate, up_cases, Holders, DownFate, down_cases}

pub first_once : (cases : List Case) (last f g : Fate) → FirstOf cases last f → FirstOf cases last g → f ≡ g
first_once [] last f g p q = p ∙ sym q
first_once (c ∷ cs) last f g (inl p) (inl q) = p.1 ∙ sym q.1
first_once (c ∷ cs) last f g (inl p) (inr q) = absurd (q.0 p.0)
first_once (c ∷ cs) last f g (inr p) (inl q) = absurd (p.0 q.0)
first_once (c ∷ cs) last f g (inr p) (inr q) = first_once cs last f g p.1 q.1

pub up_once : (found : Found) (now : ℕ) (info : List ℕ) (f g : Fate) → UpFate found now info f → UpFate found now info g → f ≡ g
up_once found now info f g = first_once (up_cases found now info) Forwarded f g

pub down_once : (holder : Holders) (now : ℕ) (octets : List ℕ) (f g : Fate) → DownFate holder now octets f → DownFate holder now octets g → f ≡ g
down_once holder now octets f g = first_once (down_cases holder now octets) Forwarded f g
