-- The shard that holds an address is one of those of the pool.
use Rattle.std.proofs.Common.{◌≡◌, ℕ, ◌==◌, ◌<◌, Bool, true, false, [], ◌∷◌, arith}
use Rattle.std.specs.Prelude.{Option, Some, if◌then◌else◌}
use Rattle.std.specs.List.{All, AllByRecursion}
use Rattle.std.proofs.lemmas.List.Elements.{recursion_from_All}
use Rattle.bng_pool.specs.Tables.{Table, entry}

pick : (b : Bool) (x : ℕ × ℕ) (rest : Option ℕ) (m n : ℕ) → x.1 < m → (rest ≡ Some n → n < m) → (if b then Some x.1 else rest) ≡ Some n → n < m
pick true x rest m n lt others e = grind (arith, e, lt)
pick false x rest m n lt others e = others e

held_by : (table : Table) (a m n : ℕ) → AllByRecursion (λ (e : ℕ × ℕ). e.1 < m) table → entry table a ≡ Some n → n < m
held_by [] a m n all e = grind (arith, e)
held_by (x ∷ rest) a m n all e = pick (x.0 == a) x (entry rest a) m n all.0 (held_by rest a m n all.1) e

pub held_inside : (table : Table) (a m n : ℕ) → All (λ (e : ℕ × ℕ). e.1 < m) table → entry table a ≡ Some n → n < m
held_inside table a m n all e = held_by table a m n (recursion_from_All (λ (x : ℕ × ℕ). x.1 < m) table all) e
