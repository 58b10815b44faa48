-- A shard with one circuit: what holds of the circuit holds of all, and its term has the one row.
use Rattle.std.proofs.Common.{◌≡◌, ℕ, zero, suc, ◌+◌, ◌*◌, ◌<◌, ◌≤◌, Bool, true, false, cond, List, [], ◌∷◌, ◌++◌, map, Option, Some, IfSome, inl, inr, refl, sym, ap, subst, ◌∙◌, arith}
use Rattle.std.specs.List.{All, AllPairs, flat_map, range_with_len}
use Rattle.std.proofs.lemmas.Bool.{cases_eq, eq-eqb, ne_eqb}
use Rattle.std.proofs.lemmas.List.Concat.{flat_map-cons}
use Rattle.bng_base.specs.declared.item.Charge.{Charge}
use Rattle.bng_base.specs.declared.item.OutRecord.{OutRecord}
use Rattle.bng_base.specs.declared.settings.Static.{Static}
use Rattle.bng_engine.specs.Lists.{AnyOf}
use Rattle.bng_engine.specs.Protocol.{HasKey, IsOwned}
use Rattle.bng_engine.specs.Quantities.{Quantity, Octets, Packets}
use Rattle.bng_engine.specs.Sums.{is_any}
use Rattle.bng_engine.specs.Terms.{Term, keys}
use Rattle.bng_engine.specs.Views.{Row, new_row, row_keys, rows_where}
use Rattle.bng_sessions.specs.Sessions.{IsNumberOf}
use Rattle.bng_steps.specs.declared.rules.Rules.{Rules}
use Rattle.bng_steps.specs.Frames.{charge_of}
use Rattle.bng_steps.specs.Opening.{circuit_at, in_order, lease_from, provisioned, tenure_from, tenures_after}
use Rattle.bng_steps.specs.Protocol.{key_in, opened, term_in}
use Rattle.bng_steps.specs.Sums.{RowsAreLow}
use Rattle.bng_steps.proofs.InOrder.{number, opened_terms}

pub only_one : {X : Type 0} (P : X → Type 0) (x : X) → P x → All P (x ∷ [])
only_one P x h zero d lt = h
only_one P x h (suc k) d lt = absurd (omega (arith, lt))

pub no_pair : {X : Type 0} (R : X → X → Type 0) (x : X) → AllPairs R (x ∷ [])
no_pair R x i j d lt within = absurd (omega (arith, lt, within))

-- Its place among the numbers of the shard -------------------------------------------------------------------------------

module _ (c : Static) where
  at_number : (n : ℕ) → number c ≡ n → circuit_at (c ∷ []) n ≡ c ∷ []
  at_number n e = ap (λ (b : Bool). cond b (c ∷ []) []) (eq-eqb (number c) n e)

  elsewhere : (n : ℕ) → (number c ≡ n → ⊥) → circuit_at (c ∷ []) n ≡ []
  elsewhere n ne = ap (λ (b : Bool). cond b (c ∷ []) []) (ne_eqb (number c) n ne)

  past : (a k : ℕ) → number c < a → flat_map (circuit_at (c ∷ [])) (range_with_len a k) ≡ []
  past a zero lt = refl
  past a (suc k) lt =
      flat_map-cons (circuit_at (c ∷ [])) a (range_with_len (a + 1) k)
      ∙ ap (λ (cs : List Static). cs ++ flat_map (circuit_at (c ∷ [])) (range_with_len (a + 1) k)) (elsewhere a (λ e. omega (arith, e, lt)))
      ∙ past (a + 1) k (omega (arith, lt))

  among : (a k : ℕ) → a ≤ number c → number c < a + k → flat_map (circuit_at (c ∷ [])) (range_with_len a k) ≡ c ∷ []
  among a zero low high = absurd (omega (arith, low, high))
  among a (suc k) low high =
      elim (cases_eq (number c) a) [
        | inl e ↦
            flat_map-cons (circuit_at (c ∷ [])) a (range_with_len (a + 1) k)
            ∙ ap (λ (cs : List Static). cs ++ flat_map (circuit_at (c ∷ [])) (range_with_len (a + 1) k)) (at_number a e)
            ∙ ap (λ (cs : List Static). c ∷ cs) (past (a + 1) k (omega (arith, e)))
        | inr ne ↦
            flat_map-cons (circuit_at (c ∷ [])) a (range_with_len (a + 1) k)
            ∙ ap (λ (cs : List Static). cs ++ flat_map (circuit_at (c ∷ [])) (range_with_len (a + 1) k)) (elsewhere a ne)
            ∙ among (a + 1) k (higher a ne low) (omega (arith, high))
      ]
    where
      higher : (a : ℕ) → (number c ≡ a → ⊥) → a ≤ number c → a + 1 ≤ number c
      higher a ne low = omega (arith, low, ne)

  one_in_order : (shard : ℕ) → IsNumberOf shard c.session.0 → in_order shard (c ∷ []) ≡ c ∷ []
  one_in_order shard of = among (shard * 1024 + 1) 1022 of.0 (omega (arith, of.1))

  -- Its row ---------------------------------------------------------------------------------------------------------------

  abbrev pub row : Row
  row = new_row (key_in (tenure_from 0 c 1))

  -- the rows that are made of one circuit
  pub only_row : (shard : ℕ) → IsNumberOf shard c.session.0 → map new_row (keys (map term_in (tenures_after 0 0 (in_order shard (c ∷ []))))) ≡ row ∷ []
  only_row shard of = ap (λ (cs : List Static). map new_row (keys (map term_in (tenures_after 0 0 cs)))) (one_in_order shard of)

  pub one_row : (r : Rules) (shard now : ℕ) → IsNumberOf shard c.session.0 → (opened shard r (c ∷ []) now).rows ≡ row ∷ []
  one_row r shard now of =
      ap (λ (ts : List Term). map new_row (keys ts)) (opened_terms r shard (c ∷ []) now)
      ∙ only_row shard of

  pub nothing_carried : (most : ℕ) (q : Quantity) (input : Bool) → rows_where q is_any input (row ∷ []) ≤ most
  nothing_carried most Octets true = omega arith
  nothing_carried most Octets false = omega arith
  nothing_carried most Packets true = omega arith
  nothing_carried most Packets false = omega arith

  -- nothing was carried
  pub row_low : (r : Rules) (shard now most : ℕ) → IsNumberOf shard c.session.0 → RowsAreLow most (opened shard r (c ∷ []) now).rows
  row_low r shard now most of = subst (RowsAreLow most) (sym (one_row r shard now of)) (nothing_carried most)

  -- a packet of its term is of that row
  pub owned_by_row : (o : OutRecord) (input : Bool) (octets : ℕ) → o.charge ≡ Some (charge_of (provisioned 0 c 1) (lease_from 0 c 1) input octets) → IsOwned (row_keys (row ∷ [])) o
  owned_by_row o input octets e = subst (λ (charge : Option Charge). IfSome charge (λ p. AnyOf (HasKey p) (row_keys (row ∷ [])))) (sym e) (inl refl)

  pub row_owned : (r : Rules) (shard now : ℕ) → IsNumberOf shard c.session.0 → (o : OutRecord) (input : Bool) (octets : ℕ) → o.charge ≡ Some (charge_of (provisioned 0 c 1) (lease_from 0 c 1) input octets)
      → IsOwned (row_keys (opened shard r (c ∷ []) now).rows) o
  row_owned r shard now of o input octets e = subst (λ (rows : List Row). IsOwned (row_keys rows) o) (sym (one_row r shard now of)) (owned_by_row o input octets e)
