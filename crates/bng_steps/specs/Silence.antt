-- How long the terms of a shard were silent and how long they lasted, by the entries of its journal, and what its Ticks do about it.
use Rattle.std.specs.Prelude.{◌≡◌, ◌≢◌, ◌⊎◌, ℕ, ◌+◌, ◌≤◌, max, Bool, true, false, List, [], ◌∷◌, Some, None, length, unwrap_or}
use Rattle.std.specs.List.{AllByRecursion}
use Rattle.bng_base.specs.declared.address.SessionNo.{SessionNo}
use Rattle.bng_base.specs.declared.item.ItemKind.TheVariants.{Change, Verdict}
use Rattle.bng_base.specs.declared.item.OutRecord.{OutRecord}
use Rattle.bng_coa.specs.Admission.{IsRequestIn}
use Rattle.bng_coa.specs.Wants.{wanted}
use Rattle.bng_grant.specs.Grants.{Gift, IsGrant}
use Rattle.bng_meter.specs.Bucket.{Offer}
use Rattle.bng_radius_wire.specs.Grammar.{Packet}
use Rattle.bng_sessions.specs.Sessions.{value_at}
use Rattle.bng_term.specs.Lifetimes.{is_over}
use Rattle.bng_steps.specs.declared.rules.Rules.{Rules}
use Rattle.bng_steps.specs.declared.session.Lease.{Lease}
use Rattle.bng_steps.specs.declared.session.Session.{Session}
use Rattle.bng_steps.specs.Changes.{Found, found_by, refusal_of}
use Rattle.bng_steps.specs.Course.{Asks, Handles, Move, Settles, after}
use Rattle.bng_steps.specs.Deed.{Deed, at_of}
use Rattle.bng_steps.specs.L2tp.{tunnels_most}
use Rattle.bng_steps.specs.Passing.{passed_at}
use Rattle.bng_steps.specs.State.{State, settled}
use Rattle.bng_steps.specs.Timers.{ComesFirst, NoneIsDue, Reminds, due_at}

-- Packets ------------------------------------------------------------------------------------------------------------------

-- the state that a journal leaves
abbrev pub left_by : State → List Move → State
left_by s [] = s
left_by s (m ∷ ms) = left_by (after s m) ms

-- a packet of the session with this number passed at this entry: it came from the session's subscriber, or goes to it, and went on
abbrev pub Passes : ℕ → Rules → State → Deed → Type 0
Passes n r s d = (input : Bool) × (offer : Offer) × Asks input n r s d offer false

-- the moments of the entries of a journal at which packets of the session passed, in their order
abbrev pub Moments : ℕ → Rules → State → List Move → List ℕ → Type 0
Moments n r s [] moments = moments ≡ []
Moments n r s (Handles limited d ∷ ms) moments =
    (Passes n r s d × (more : List ℕ) × Moments n r d.next ms more × (moments ≡ d.entry.moment ∷ more))
    ⊎ ((¬ (Passes n r s d)) × Moments n r d.next ms moments)
Moments n r s (Settles ∷ ms) moments = Moments n r (settled s) ms moments

-- Limits -------------------------------------------------------------------------------------------------------------------

-- The session had the lease before: the term goes on, within the limits of before, which count from the moment of before.
pub record GoesOn (s : State) (n : ℕ) (l : Lease) : Type 0 where
  pub x : Session
  pub at : value_at s.sessions n ≡ Some x
  pub lease : Lease
  pub leased : x.lease ≡ Some lease
  pub serial : l.serial ≡ lease.serial
  pub began : l.life.began ≡ lease.life.began
  pub limits : l.life.limits ≡ lease.life.limits

-- The entry is a CoA-Request (RFC 5176 section 2.2) that is applied to the term: of its limits those are others that it names.
pub record Alters (r : Rules) (s : State) (d : Deed) (n : ℕ) (l : Lease) : Type 0 where
  pub kind : d.entry.item.kind ≡ Change
  pub packet : Packet
  pub reads : IsRequestIn packet d.entry.item.frame.payload
  pub code : packet.code ≡ 43
  pub granted : refusal_of r packet ≡ None
  pub found : Found
  pub found_is : found_by r s packet.attributes ≡ Some found
  pub session : found.term.term.session.0 ≡ n
  pub serial : l.serial ≡ found.lease.serial
  pub began : l.life.began ≡ found.lease.life.began
  pub session_timeout : l.life.limits.session_timeout ≡ unwrap_or (wanted r.profiles packet).session_timeout found.lease.life.limits.session_timeout
  pub idle_timeout : l.life.limits.idle_timeout ≡ unwrap_or (wanted r.profiles packet).idle_timeout found.lease.life.limits.idle_timeout
  pub no_interim : (wanted r.profiles packet).interim ≡ None → l.life.limits.interim ≡ found.lease.life.limits.interim
  pub interim : (seconds : ℕ) → (wanted r.profiles packet).interim ≡ Some seconds → l.life.limits.interim ≡ Some seconds

-- The entry begins the term, and is an Access-Accept: its limits are the Session-Timeout and the Idle-Timeout of the Accept (RFC 2865 sections
-- 5.27 and 5.28) and its Acct-Interim-Interval (RFC 2869 section 5.16), and they count from the entry's moment.
pub record Grants (s : State) (d : Deed) (n : ℕ) (l : Lease) : Type 0 where
  pub kind : d.entry.item.kind ≡ Verdict
  pub session : d.entry.item.target ≡ n
  pub gift : Gift
  pub grants : IsGrant d.entry.item.frame.payload (Some gift)
  pub serial : l.serial ≡ s.begun + 1
  pub began : l.life.began ≡ d.entry.moment
  pub session_timeout : l.life.limits.session_timeout ≡ gift.session_timeout
  pub idle_timeout : l.life.limits.idle_timeout ≡ gift.idle_timeout
  pub interim : l.life.limits.interim ≡ gift.interim

-- so the lease of a session's live term after a step has its limits, and the moment from which they count, from one of these
abbrev pub IsLimitedBy : Rules → State → Deed → ℕ → Lease → Type 0
IsLimitedBy r s d n l = GoesOn s n l ⊎ (Alters r s d n l ⊎ Grants s d n l)

-- Ticks --------------------------------------------------------------------------------------------------------------------

-- the live term with this number is that of this session, by this lease
pub record IsLiveIn (s : State) (serial n : ℕ) (x : Session) (l : Lease) : Type 0 where
  pub at : value_at s.sessions n ≡ Some x
  pub leased : x.lease ≡ Some l
  pub number : l.serial ≡ serial

-- the live term with this number was silent for its Idle-Timeout: no packet of it passed in that time, and it was not begun in it
abbrev pub IsSilent : State → (now serial : ℕ) → Type 0
IsSilent s now serial =
    (n : ℕ) × (x : Session) × (l : Lease) × IsLiveIn s serial n x l × (is_over l.life.limits.idle_timeout (max l.life.began (passed_at s.passed x.number)) now ≡ true)

-- it has lasted for its Session-Timeout, and was not silent for so long
abbrev pub IsOld : State → (now serial : ℕ) → Type 0
IsOld s now serial =
    (n : ℕ) × (x : Session) × (l : Lease) × IsLiveIn s serial n x l × (is_over l.life.limits.idle_timeout (max l.life.began (passed_at s.passed x.number)) now ≡ false)
    × (is_over l.life.limits.session_timeout l.life.began now ≡ true)

-- The moments that are kept of packets are no later than this one, and no live term knows of a later packet than its session's last.
pub record Reckons (moment : ℕ) (s : State) : Type 0 where
  pub passed : (n : SessionNo) → passed_at s.passed n ≤ moment
  pub knows : (n : ℕ) (x : Session) (l : Lease) → value_at s.sessions n ≡ Some x → x.lease ≡ Some l → l.life.idle_from ≤ max l.life.began (passed_at s.passed x.number)

-- the sessions whose deadlines a Tick handles, in their order: the number of each, and the deadline that was due
abbrev pub Dues : Type 0
Dues = List (ℕ × ℕ)

-- the session with this number is not among them
abbrev pub IsLeft : Dues → ℕ → Type 0
IsLeft dues m = AllByRecursion (λ h. h.0 ≢ m) dues

-- Each had this deadline before the Tick, unless the Tick had handled one of its deadlines before this one.
abbrev pub Were : State → List ℕ → Dues → Type 0
Were s before [] = Unit {0}
Were s before (h ∷ hs) = (AllByRecursion (λ k. k ≢ h.0) before → due_at s h.0 ≡ Some h.1) × Were s (h.0 ∷ before) hs

-- From this state to that one deadlines were handled that had come at this moment, 64 at most. Of the sessions none other changed. No deadline
-- that has come is left; or 64 were handled, and each comes before each that is left of another session.
pub record TakesDue (now : ℕ) (s s' : State) : Type 0 where
  pub dues : Dues
  pub few : length dues ≤ 64
  pub due : AllByRecursion (λ h. h.1 ≤ now) dues
  pub were : Were s [] dues
  pub others : (m : ℕ) → IsLeft dues m → value_at s'.sessions m ≡ value_at s.sessions m
  pub turn : NoneIsDue s' now ⊎ ((length dues ≡ 64) × ((m later : ℕ) → IsLeft dues m → due_at s' m ≡ Some later → AllByRecursion (λ h. ComesFirst h.1 h.0 later m) dues))

-- First the timers of the tunnels do what they ask for, and then this is done of the sessions.
pub record TicksThrough (s : State) (d : Deed) : Type 0 where
  pub tunnels : List OutRecord
  pub next : State
  pub reminds : Reminds tunnels_most 0 (at_of s d.entry) d.entry.moment s tunnels next
  pub takes : TakesDue d.entry.moment next d.next
