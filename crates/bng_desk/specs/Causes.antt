-- The causes of drops.
use Rattle.std.specs.Prelude.{ℕ, List, [], ◌∷◌, codes, map, slice_index_or}
use Rattle.bng_base.specs.declared.fate.DropCause.{DropCause}
use Rattle.bng_base.specs.declared.fate.DropCause.TheVariants as cause

-- each with its name, by number: the order in which the report tells them
abbrev pub causes : List (DropCause × List ℕ)
causes =
    (cause.Malformed, codes "Malformed")
    ∷ (cause.NoSession, codes "NoSession")
    ∷ (cause.NotOpen, codes "NotOpen")
    ∷ (cause.Expired, codes "Expired")
    ∷ (cause.Spoofed, codes "Spoofed")
    ∷ (cause.TooBig, codes "TooBig")
    ∷ (cause.Exceeded, codes "Exceeded")
    ∷ (cause.LinkFailed, codes "LinkFailed")
    ∷ (cause.WantOfMemory, codes "WantOfMemory")
    ∷ []

-- the name of the cause with this number
abbrev pub name_at : ℕ → List ℕ
name_at number = slice_index_or (map (λ (c : DropCause × List ℕ). c.1) causes) number []
