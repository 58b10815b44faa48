-- Tables of fates, of which the first case that holds decides.
use Rattle.std.specs.Prelude.{◌≡◌, ◌⊎◌, List, [], ◌∷◌}
use Rattle.bng_base.specs.declared.fate.DropCause.{DropCause}
use Rattle.bng_base.specs.declared.fate.Fate.{Fate}
use Rattle.bng_base.specs.declared.fate.Fate.TheVariants.{Dropped}

-- a case of a table: when it holds, and the fate that it gives
pub record Case : Type 1 where
  pub holds : Type 0
  pub fate : Fate

abbrev pub drops : DropCause → Type 0 → Case
drops cause holds = record { holds = holds; fate = Dropped cause }

-- The fate is that of the first case that holds, or the last one where no case does.
abbrev pub FirstOf : List Case → Fate → Fate → Type 0
FirstOf [] last fate = fate ≡ last
FirstOf (c ∷ cs) last fate = (c.holds × (fate ≡ c.fate)) ⊎ ((¬ c.holds) × FirstOf cs last fate)
