-- How many items were dropped, by cause.
use Rattle.std.specs.Prelude.{ℕ, ◌+◌, ◌≤◌, ◌==◌, Bool, false, List, [], ◌∷◌, map, count_by, if◌then◌else◌}
use Rattle.std.specs.List.{All}
use Rattle.bng_base.specs.declared.fate.DropCause.{DropCause}
use Rattle.bng_base.specs.declared.fate.Fate.{Fate}
use Rattle.bng_base.specs.declared.fate.Fate.TheVariants.{Forwarded, Consumed, Dropped}
use Rattle.bng_base.specs.CauseNumbers.{number_of}
use Rattle.bng_desk.specs.declared.drops.Drops.{Drops}
use Rattle.bng_desk.specs.Causes.{causes}

-- of each cause so many items
abbrev pub Amounts : Type 0
Amounts = DropCause → ℕ

-- they, by the number of the cause
abbrev pub by_number : Amounts → List ℕ
by_number amounts = map (λ c. amounts c.0) causes

abbrev pub no_items : Amounts
no_items = λ cause. 0

abbrev pub no_drops : Drops
no_drops = record { counts = by_number no_items }

abbrev pub is_cause : DropCause → DropCause → Bool
is_cause a b = number_of a == number_of b

-- so many of this cause, and none of another
abbrev pub of_cause : DropCause → ℕ → Amounts
of_cause cause items = λ other. if is_cause other cause then items else 0

-- whether the fate is a drop of a cause
abbrev pub is_dropped : DropCause → Fate → Bool
is_dropped cause Forwarded = false
is_dropped cause Consumed = false
is_dropped cause (Dropped other) = is_cause cause other

-- of each cause the fates that are drops of it
abbrev pub drops_of : List Fate → Amounts
drops_of fates = λ cause. count_by (is_dropped cause) fates

-- cause by cause, both together
abbrev pub both : Amounts → Amounts → Amounts
both a b = λ cause. a cause + b cause

-- counts that stand in the order of these causes, each with what is added of its cause
abbrev pub added : List ℕ → List (DropCause × List ℕ) → Amounts → List ℕ
added [] cs amounts = []
added (n ∷ ns) [] amounts = n ∷ ns
added (n ∷ ns) (c ∷ cs) amounts = (n + amounts c.0) ∷ added ns cs amounts

-- so many items more of each cause
abbrev pub plus : Drops → Amounts → Drops
plus d amounts = record { counts = added d.counts causes amounts }

-- one item more, with this fate
abbrev pub with_fate : Drops → Fate → Drops
with_fate d Forwarded = d
with_fate d Consumed = d
with_fate d (Dropped cause) = plus d (of_cause cause 1)

-- no count is above this number
abbrev pub Within : ℕ → Drops → Type 0
Within most d = All (λ items. items ≤ most) d.counts
