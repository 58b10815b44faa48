-- The terms of a shard, each from its lease to its Stop.
use Rattle.std.specs.Prelude.{◌≡◌, ℕ, ◌==◌, Bool, not, ◌&&◌, cond, List, ◌∷◌, ◌++◌, Option, Some, None, is_some, map}
use Rattle.bng_base.specs.declared.address.Ip4.{Ip4}
use Rattle.bng_base.specs.declared.circuit.Circuit.{Circuit}
use Rattle.bng_base.specs.declared.circuit.TermId.{TermId}
use Rattle.bng_steps.specs.declared.session.Lease.{Lease}

-- A term: its session and its number in its shard, its circuit, its address, and the place of its profile. What its records say: the
-- User-Name (RFC 2865 section 5.1), the octets of its Class attributes (section 5.25), and the moment at which it began, in
-- milliseconds. And once it has ended, the cause (Acct-Terminate-Cause, RFC 2866 section 5.10).
pub record Tenure : Type 0 where
  pub term : TermId
  pub circuit : Circuit
  pub address : Ip4
  pub profile : ℕ
  pub user : List ℕ
  pub class : List ℕ
  pub began : ℕ
  pub cause : Option ℕ

-- it has ended, and its Stop is still to be formed
abbrev pub is_over : Tenure → Bool
is_over t = is_some t.cause

-- a term, once the one with this number has ended by this cause; one that had ended has its cause
abbrev pub over_by : ℕ → ℕ → Tenure → Tenure
over_by serial cause t = cond ((t.term.serial == serial) && not (is_over t)) (record t { cause = Some cause }) t

-- the terms, once that of a session's lease has ended by a cause, where there is a lease and a cause
abbrev pub closed : Option Lease → Option ℕ → List Tenure → List Tenure
closed None cause terms = terms
closed (Some lease) None terms = terms
closed (Some lease) (Some cause) terms = map (over_by lease.serial cause) terms

-- the lease of a session's live term, once a step has ended it by a cause, or has not
abbrev pub kept_lease : Option ℕ → Option Lease → Option Lease
kept_lease None lease = lease
kept_lease (Some cause) lease = None

-- a term that has ended and still has this address
abbrev pub has_kept : Ip4 → Tenure → Bool
has_kept a t = is_over t && (t.address.0 == a.0)

-- The term has left, and those before it and after it stand as they were.
pub record LeavesTerms (terms terms' : List Tenure) (t : Tenure) : Type 0 where
  pub before : List Tenure
  pub after : List Tenure
  pub were : terms ≡ before ++ t ∷ after
  pub are : terms' ≡ before ++ after
