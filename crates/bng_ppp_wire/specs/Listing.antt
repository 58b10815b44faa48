-- Lists of options, and what each error says of octets that were read as one.
use Rattle.std.specs.Prelude.{ℕ, ◌<◌, Bool, ◌==◌, List, length}
use Rattle.std.specs.List.{list_any}
use Rattle.bng_base.specs.declared.codec.ReadError.{ReadError}
use Rattle.bng_base.specs.declared.codec.ReadError.TheVariants.{Outside, TooMany}
use Rattle.bng_base.specs.PppGrammar.{PppOption, AreOptions}

abbrev pub WhyNoOptions : ReadError → List ℕ → Type 0
WhyNoOptions Outside bytes = (os : List PppOption) → ¬ (AreOptions os bytes)
WhyNoOptions TooMany bytes = (os : List PppOption) × AreOptions os bytes × (64 < length os)

-- whether a list has an option of this type
abbrev pub names : List PppOption → ℕ → Bool
names options kind = list_any (λ o. o.kind == kind) options
