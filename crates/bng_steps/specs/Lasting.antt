-- What lasts of the terms of a shard, step by step.
use Rattle.std.specs.Prelude.{◌≡◌, ◌⊎◌, ℕ, ◌+◌, ◌/◌, ◌≤◌, ◌<◌, true, false, List, Some, None, IfSome, length, map, ◌++◌}
use Rattle.std.specs.List.{All, AllPairs, range_with_len}
use Rattle.bng_grant.specs.Classes.{AreClasses}
use Rattle.bng_ppp.specs.Phases.{KeepsPhases}
use Rattle.bng_radius_wire.specs.Attributes.{Field}
use Rattle.bng_steps.specs.declared.session.Lease.{Lease}
use Rattle.bng_steps.specs.declared.session.Service.{Service}
use Rattle.bng_steps.specs.declared.session.Service.TheVariants.{Provisioned, Linked}
use Rattle.bng_steps.specs.declared.session.Session.{Session}
use Rattle.bng_steps.specs.Deed.{Deed}
use Rattle.bng_steps.specs.Link.{admin_reset, nas_request, user_request}
use Rattle.bng_steps.specs.Protocol.{claimed_by, key_in}
use Rattle.bng_steps.specs.State.{State, made_one}
use Rattle.bng_steps.specs.Tenures.{Tenure}
use Rattle.bng_sessions.specs.Sessions.{value_at}

-- A term begins with each address that the entry claimed, and no other does: it takes the next number, and stands behind the terms that are
-- there, and behind those of whose beginning no Start was formed yet. Of the others none came or went, whether it ended or not.
pub record BeginsByClaims (s : State) (d : Deed) : Type 0 where
  pub began : List Tenure
  pub one_each : map (λ (t : Tenure). t.address.0) began ≡ claimed_by d.entry.claim
  pub count : d.next.begun ≡ s.begun + length began
  pub numbers : map (λ (t : Tenure). t.term.serial) began ≡ range_with_len (s.begun + 1) (length began)
  pub news : d.next.news ≡ s.news ++ began
  pub keys : map key_in d.next.terms ≡ map key_in s.terms ++ map key_in began
  pub shard : d.next.sessions.shard ≡ s.sessions.shard

-- A term of the shard: its session's number is one of the shard's, its own number is among those that began, it began no later than at
-- this moment, and its Class attributes are whole (RFC 2865 section 5.25).
pub record IsTenureOf (shard begun moment : ℕ) (t : Tenure) : Type 0 where
  pub session : t.term.session.0 / 1024 ≡ shard
  pub number : t.term.serial ≤ begun
  pub began : t.began ≤ moment
  pub classes : List Field
  pub class : AreClasses classes t.class

-- the first has a lower number
abbrev pub Precedes : Tenure → Tenure → Type 0
Precedes t u = t.term.serial < u.term.serial

-- So it is of each term, and each has a number above those before it.
pub record AreTenures (moment : ℕ) (s : State) : Type 0 where
  pub each : All (IsTenureOf s.sessions.shard s.begun moment) s.terms
  pub rising : AllPairs Precedes s.terms
  pub each_new : All (IsTenureOf s.sessions.shard s.begun moment) s.news
  pub rising_new : AllPairs Precedes s.news

-- the causes by which a term is ended that no subscriber ends (RFC 2866 section 5.10): Idle Timeout, Session Timeout, and Admin Reset, by a
-- Disconnect-Request
abbrev pub IsLapse : ℕ → Type 0
IsLapse cause = (cause ≡ 4) ⊎ ((cause ≡ 5) ⊎ (cause ≡ admin_reset))

-- those by which the term of a provisioned circuit ends: these, and the gateway's own stop, NAS Request
abbrev pub IsCircuitCause : ℕ → Type 0
IsCircuitCause cause = IsLapse cause ⊎ (cause ≡ nas_request)

-- and those by which terms end: User Request and Lost Carrier too
abbrev pub IsCause : ℕ → Type 0
IsCause cause = (cause ≡ user_request) ⊎ ((cause ≡ 2) ⊎ IsCircuitCause cause)

-- The first so many terms are those of provisioned circuits: no subscriber ends them, but their timeouts, a Disconnect-Request and the
-- gateway's own stop do. The lease of each session that discovery made is that of a later term. Each term that has ended has one of the
-- causes that there are.
pub record CircuitsLast (circuits : ℕ) (s : State) : Type 0 where
  pub few : circuits ≤ s.begun
  pub later : (n : ℕ) (x : Session) (l : Lease) → value_at s.sessions n ≡ Some x → made_one x.service ≡ 1 → x.lease ≡ Some l → circuits < l.serial
  pub causes : All (λ (t : Tenure). t.term.serial ≤ circuits → IfSome t.cause IsCircuitCause) s.terms
  pub known : All (λ (t : Tenure). IfSome t.cause IsCause) s.terms

-- the link of a session keeps its phases, and as long as the session has a lease, its term is live and the session has not ended
abbrev pub KeepsTerm : Service → Type 0
KeepsTerm (Provisioned over) = over ≡ false
KeepsTerm (Linked m) = (m.link.live ≡ true) × (m.ended ≡ false)

abbrev pub HasPhases : Service → Type 0
HasPhases (Provisioned over) = Unit {0}
HasPhases (Linked m) = KeepsPhases m.link

-- a session that is there has the lease of this term
abbrev pub IsHousedIn : State → Tenure → Type 0
IsHousedIn s t = (x : Session) × (l : Lease) × (value_at s.sessions t.term.session.0 ≡ Some x) × (x.lease ≡ Some l) × (l.serial ≡ t.term.serial)

-- Each live term is that of a session that is there, and a session that has a lease has not ended. So no term outlasts its session.
pub record AreHoused (s : State) : Type 0 where
  pub phases : (n : ℕ) (x : Session) → value_at s.sessions n ≡ Some x → HasPhases x.service
  pub lasting : (n : ℕ) (x : Session) (l : Lease) → value_at s.sessions n ≡ Some x → x.lease ≡ Some l → KeepsTerm x.service
  pub housed : All (λ (t : Tenure). (t.cause ≡ None) → IsHousedIn s t) s.terms
