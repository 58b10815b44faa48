-- The terms of a shard at its opening are of the shard, and each is of another session.
use Rattle.std.proofs.Common.{◌≡◌, ◌≢◌, ℕ, zero, suc, ◌+◌, ◌*◌, ◌/◌, ◌<◌, ◌≤◌, List, [], ◌∷◌, length, map, get_or, sym, ap, subst, arith}
use Rattle.std.specs.List.{All, AllByRecursion, AllPairs}
use Rattle.std.proofs.lemmas.List.Elements.{All-from_recursion, recursion_from_All}
use Rattle.bng_base.specs.declared.address.SessionNo.{SessionNo}
use Rattle.bng_base.specs.declared.settings.Static.{Static}
use Rattle.bng_engine.specs.Terms.{Key, keys}
use Rattle.bng_engine.specs.Views.{row_keys}
use Rattle.bng_sessions.specs.Sessions.{IsNumberOf}
use Rattle.bng_steps.specs.declared.rules.Rules.{Rules}
use Rattle.bng_steps.specs.Opening.{in_order, tenures_after}
use Rattle.bng_steps.specs.Protocol.{opened, term_in}
use Rattle.bng_steps.proofs.InOrder.{Rising, all_in_order, apart_of, number, rising_in_order}
use Rattle.bng_steps.proofs.RowLaws.{new_keys}

-- what never changes of the terms of these circuits, numbered on after n
abbrev pub keys_after : ℕ → ℕ → List Static → List Key
keys_after now n cs = keys (map term_in (tenures_after now n cs))

-- a session number of a shard names it
pub of_shard : (shard n : ℕ) → IsNumberOf shard n → n / 1024 ≡ shard
of_shard shard n own = omega (arith, own.0, own.1)

-- the keys' session numbers are those of the circuits
keys_of : (shard now n : ℕ) (cs : List Static) → AllByRecursion (λ c. IsNumberOf shard c.session.0) cs → AllByRecursion (λ k. k.term.session.0 / 1024 ≡ shard) (keys_after now n cs)
keys_of shard now n [] own = tt
keys_of shard now n (c ∷ cs) own = (of_shard shard c.session.0 own.0, keys_of shard now (n + 1) cs own.1)

keys_from : (a now n : ℕ) (cs : List Static) → Rising a cs → (j : ℕ) (d : Key) → j < length (keys_after now n cs) → a ≤ (get_or (keys_after now n cs) j d).term.session.0
keys_from a now n [] rising j d within = absurd (omega (arith, within))
keys_from a now n (c ∷ cs) rising zero d within = rising.0
keys_from a now n (c ∷ cs) rising (suc j) d within =
    let low = rising.0 in
    let rest = keys_from (number c + 1) now (n + 1) cs rising.1 j d (omega (arith, within)) in
    omega (arith, low, rest)

-- where they rise, no two are the same
keys_apart : (a now n : ℕ) (cs : List Static) → Rising a cs → AllPairs (λ (j k : Key). j.term.session ≢ k.term.session) (keys_after now n cs)
keys_apart a now n [] rising i j d lt within = absurd (omega (arith, within))
keys_apart a now n (c ∷ cs) rising i zero d lt within = absurd (omega (arith, lt))
keys_apart a now n (c ∷ cs) rising zero (suc j) d lt within = λ same.
    let later = keys_from (number c + 1) now (n + 1) cs rising.1 j d (omega (arith, within)) in
    let number : c.session.0 ≡ (get_or (keys_after now (n + 1) cs) j d).term.session.0 = ap (λ (s : SessionNo). s.0) same in
    omega (arith, later, number)
keys_apart a now n (c ∷ cs) rising (suc i) (suc j) d lt within = keys_apart (number c + 1) now (n + 1) cs rising.1 i j d (omega (arith, lt)) (omega (arith, within))

module _ (shard : ℕ) (rules : Rules) (circuits : List Static) (now : ℕ) where
  rows_are : row_keys (opened shard rules circuits now).rows ≡ keys_after now 0 (in_order shard circuits)
  rows_are = new_keys (keys_after now 0 (in_order shard circuits))

  pub rows_of_shard : All (λ c. IsNumberOf shard c.session.0) circuits → All (λ (k : Key). k.term.session.0 / 1024 ≡ shard) (row_keys (opened shard rules circuits now).rows)
  rows_of_shard own =
      let each = all_in_order (λ c. IsNumberOf shard c.session.0) shard circuits (recursion_from_All (λ c. IsNumberOf shard c.session.0) circuits own) in
      subst (All (λ (k : Key). k.term.session.0 / 1024 ≡ shard)) (sym rows_are)
      (All-from_recursion (λ (k : Key). k.term.session.0 / 1024 ≡ shard) (keys_after now 0 (in_order shard circuits)) (keys_of shard now 0 (in_order shard circuits) each))

  pub rows_apart : AllPairs (λ a b. a.session ≢ b.session) circuits → AllPairs (λ (j k : Key). j.term.session ≢ k.term.session) (row_keys (opened shard rules circuits now).rows)
  rows_apart apart =
      subst (AllPairs (λ (j k : Key). j.term.session ≢ k.term.session)) (sym rows_are)
      (keys_apart (shard * 1024 + 1) now 0 (in_order shard circuits) (rising_in_order shard circuits (apart_of circuits apart)))
