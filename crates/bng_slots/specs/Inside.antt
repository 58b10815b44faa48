-- How a shard's slots are laid out. No public clause cites this module.
use Rattle.std.specs.Prelude.{◌≡◌, ℕ, ◌+◌, ◌*◌, ◌<◌, ◌≤◌, ◌↔◌, List, [], ◌∷◌, length, Option, Some, None, is_some, cond, count_by, slice_index_or}
use Rattle.std.specs.Option.{option_and_then, option_map}
use Rattle.std.specs.declared.cmp.Ordering.{Ordering}
use Rattle.std.specs.Ordering.{nat_cmp, eq_by_cmp}
use Rattle.std.specs.FinMap.{FinMap, get, find, entries, from_sorted}
use Rattle.bng_base.specs.declared.address.Ip4.{Ip4}
use Rattle.bng_base.specs.declared.address.SessionNo.{SessionNo}
use Rattle.bng_base.specs.declared.circuit.Circuit.{Circuit}
use Rattle.bng_base.specs.declared.circuit.TermId.{TermId}
use Rattle.bng_slots.specs.declared.key.Deadline.{Deadline}
use Rattle.bng_slots.specs.Orders.{circuit_order, address_order, term_order, due_order}
use Rattle.bng_slots.specs.Listing.{Listing}
use Rattle.bng_slots.specs.Bits.{free_bit}

-- what an index gives for k, once a session was noted under a key
abbrev pub noted : {K : Type 0} → (K → K → Ordering) → Option K → SessionNo → K → Option SessionNo → Option SessionNo
noted R None n k before = before
noted R (Some key) n k before = cond (eq_by_cmp R k key) (Some n) before

-- what an index gives for k, once a key was forgotten
abbrev pub forgotten : {K : Type 0} → (K → K → Ordering) → Option K → K → Option SessionNo → Option SessionNo
forgotten R None k before = before
forgotten R (Some key) k before = cond (eq_by_cmp R k key) None before

module _ {V : Type 0} where
  -- the values of the places, each with its number, where the first place has this number
  abbrev pub numbered : ℕ → List (Option V) → List (ℕ × V)
  numbered n [] = []
  numbered n (None ∷ rest) = numbered (n + 1) rest
  numbered n (Some value ∷ rest) = (n, value) ∷ numbered (n + 1) rest

  abbrev pub by_number : ℕ → List (Option V) → FinMap nat_cmp V
  by_number shard shelf = from_sorted (numbered (shard * 1024 + 1) shelf)

  -- an index has an entry for each slot that has a key, and leads to that slot
  pub record Agrees {K : Type 0} (R : K → K → Ordering) (read : SessionNo → V → Option K) (m : FinMap nat_cmp V) (x : Listing K) : Type 0 where
    pub finds : (k : K) (n : SessionNo) → (find R k x.entries ≡ Some n) ↔ (option_and_then (read n) (get m n.0) ≡ Some k)
    pub counts : length x.entries ≡ count_by (λ e. is_some (read (record { 0 = e.0 }) e.1)) (entries m)
    pub room : 1022 ≤ x.room

  -- a slot's deadline, and its session
  abbrev pub due_of : (V → Option ℕ) → SessionNo → V → Option Deadline
  due_of deadline n value = option_map (λ d. record { deadline = d; session = n }) (deadline value)

  -- each place of the shard has a bit, and each index is one of the values that stand there
  pub record IsSlots (circuit : V → Option Circuit) (address : V → Option Ip4) (term : V → Option TermId) (deadline : V → Option ℕ) (shard : ℕ) (shelf : List (Option V)) (words : List ℕ) (circuits : Listing Circuit) (addresses : Listing Ip4) (terms : Listing TermId) (deadlines : Listing Deadline) : Type 0 where
    pub in_range : shard < 64
    pub places : length shelf ≡ 1022
    pub bits : (i : ℕ) → i < 1022 → free_bit words i ≡ cond (is_some (slice_index_or shelf i None)) 0 1
    pub circuits_agree : Agrees circuit_order (λ _. circuit) (by_number shard shelf) circuits
    pub addresses_agree : Agrees address_order (λ _. address) (by_number shard shelf) addresses
    pub terms_agree : Agrees term_order (λ _. term) (by_number shard shelf) terms
    pub deadlines_agree : Agrees due_order (due_of deadline) (by_number shard shelf) deadlines
