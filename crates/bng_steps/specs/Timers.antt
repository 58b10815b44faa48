-- Ticks and Ends.
use Rattle.std.specs.Prelude.{◌≡◌, ◌⊎◌, ℕ, zero, suc, ◌+◌, ◌≤◌, ◌<◌, Bool, true, false, not, List, [], ◌++◌, Option, Some, None, IsTrue, IsFalse, option_map}
use Rattle.bng_base.specs.declared.item.Entry.{Entry}
use Rattle.bng_base.specs.declared.item.OutRecord.{OutRecord}
use Rattle.bng_ppp.specs.declared.input.Input.TheVariants.{Timer, Close}
use Rattle.bng_ppp.specs.LcpRelation.{earliest}
use Rattle.bng_lns.specs.Timed.{reminded, stopped}
use Rattle.bng_lns.specs.Tunnels.{TunnelsState}
use Rattle.bng_ppp.specs.LinkState.{LinkState}
use Rattle.bng_sessions.specs.Sessions.{value_at, read_at}
use Rattle.bng_term.specs.Lifetimes.{deadline_of as term_deadline}
use Rattle.bng_steps.specs.LinkService.{LinkService}
use Rattle.bng_steps.specs.declared.rules.Rules.{Rules}
use Rattle.bng_steps.specs.declared.session.Lease.{Lease}
use Rattle.bng_steps.specs.declared.session.Service.{Service}
use Rattle.bng_steps.specs.declared.session.Service.TheVariants.{Provisioned, Linked}
use Rattle.bng_steps.specs.declared.session.Session.{Session}
use Rattle.bng_base.specs.declared.item.At.{At}
use Rattle.bng_steps.specs.declared.way.Way.{Way}
use Rattle.bng_steps.specs.declared.way.Way.TheVariants.{Port, Call}
use Rattle.bng_steps.specs.State.{Beside, State, leaves, lives_in, with_session, with_ended, with_driven, with_tunnels}
use Rattle.bng_steps.specs.Deed.{Deed, at_of, beside_of, handled}
use Rattle.bng_steps.specs.Cutting.{cut_told}
use Rattle.bng_steps.specs.L2tp.{Tells, TellInTurn, tunnels_most}
use Rattle.bng_steps.specs.Link.{Drives, EndsWith, ended, nas_request, told}
use Rattle.bng_steps.specs.Passing.{cause_at, lapsed, looked, passed_at}

-- the first moment at which a link's Timer does something
abbrev pub link_deadline : LinkState → Option ℕ
link_deadline l = earliest (earliest (earliest (option_map (λ t. t + 3000) l.lcp.lcp.started) l.lcp.kept.next_echo) l.auth_due) (option_map (λ t. t + 3000) l.ipcp.machine.started)

abbrev pub deadline_unless : Bool → Option ℕ → Option ℕ
deadline_unless true deadline = None
deadline_unless false deadline = deadline

-- the first moment at which a session's live term has to be looked at, as far as it is known when its packets passed
abbrev pub lease_deadline : Option Lease → Option ℕ
lease_deadline None = None
lease_deadline (Some l) = term_deadline l.life

abbrev pub made_deadline : LinkService → Option Lease → Option ℕ
made_deadline m lease = deadline_unless m.ended (earliest (link_deadline m.link) (lease_deadline lease))

abbrev pub deadline_in : Service → Option Lease → Option ℕ
deadline_in (Provisioned over) lease = deadline_unless over (lease_deadline lease)
deadline_in (Linked m) lease = made_deadline m lease

-- the deadline of a session, of its link, which a provisioned circuit has not, or of its live term; one that has ended has none
abbrev pub deadline_of : Session → Option ℕ
deadline_of x = deadline_in x.service x.lease

-- the deadline of the session with this number, if there is such a session and it has one
abbrev pub due_at : State → ℕ → Option ℕ
due_at s n = read_at deadline_of s.sessions n

-- the first deadline comes first, and of equal ones that of the lower session number
abbrev pub ComesFirst : ℕ → ℕ → ℕ → ℕ → Type 0
ComesFirst deadline number other_deadline other_number = (deadline < other_deadline) ⊎ ((deadline ≡ other_deadline) × (number ≤ other_number))

-- of the deadlines that are due, that of the session with this number comes first
pub record IsFirstDue (s : State) (now n : ℕ) : Type 0 where
  pub deadline : ℕ
  pub is : due_at s n ≡ Some deadline
  pub due : deadline ≤ now
  pub first : (m other : ℕ) → due_at s m ≡ Some other → ComesFirst deadline n other m

abbrev pub NoneIsDue : State → ℕ → Type 0
NoneIsDue s now = (n deadline : ℕ) → due_at s n ≡ Some deadline → now < deadline

-- The live term of the session ends by this cause, and its link takes Close. A provisioned circuit has no link.
abbrev pub LosesTerm : Service → ℕ → Rules → Entry → State → ℕ → Session → List OutRecord → State → Type 0
LosesTerm (Provisioned over) cause r e s n x outs s' = (outs ≡ []) × (s' ≡ with_driven s n x.lease (Some cause) (lapsed x) (beside_of s e))
LosesTerm (Linked m) cause r e s n x outs s' =
    (after : Session) × (none : Option ℕ) × (beside : Beside) × Drives r (at_of s e) (beside_of s e) (lapsed x) (told r e Close) outs none after beside
    × (s' ≡ with_driven s n x.lease (Some cause) after beside)

-- The live term of the session is looked at. Where one of its timeouts is over it ends by that cause; else it goes on.
abbrev pub LooksAt : Option ℕ → Rules → Entry → State → ℕ → Session → List OutRecord → State → Type 0
LooksAt None r e s n x outs s' = (outs ≡ []) × (s' ≡ with_session s n (looked (passed_at s.passed x.number) x))
LooksAt (Some cause) r e s n x outs s' = LosesTerm x.service cause r e s n x outs s'

-- The link of the session takes Timer, and then its term, if one is live still, is looked at.
pub record IsReminded (r : Rules) (e : Entry) (s : State) (n : ℕ) (x : Session) (outs : List OutRecord) (s' : State) : Type 0 where
  pub first : List OutRecord
  pub cause : Option ℕ
  pub after : Session
  pub beside : Beside
  pub drives : Drives r (at_of s e) (beside_of s e) x (told r e Timer) first cause after beside
  pub then : List OutRecord
  pub looks : LooksAt (cause_at (passed_at s.passed after.number) after.lease e.moment) r e (with_driven s n x.lease cause after beside) n after then s'
  pub outs_are : outs ≡ first ++ then

-- the term of a provisioned circuit is looked at alone
abbrev pub TimesIn : Service → Rules → Entry → State → ℕ → Session → List OutRecord → State → Type 0
TimesIn (Provisioned over) r e s n x outs s' = LooksAt (cause_at (passed_at s.passed x.number) x.lease e.moment) r e s n x outs s'
TimesIn (Linked m) r e s n x outs s' = IsReminded r e s n x outs s'

-- a due deadline of the session with this number
abbrev pub IsTimed : Rules → Entry → State → ℕ → List OutRecord → State → Type 0
IsTimed r e s n outs s' = (x : Session) × (value_at s.sessions n ≡ Some x) × TimesIn x.service r e s n x outs s'

-- So many due deadlines at most, the earliest first.
abbrev pub Ticks : ℕ → Rules → Entry → State → List OutRecord → State → Type 0
Ticks zero r e s outs s' = (outs ≡ []) × (s' ≡ s)
Ticks (suc k) r e s outs s' =
    (NoneIsDue s e.moment × (outs ≡ []) × (s' ≡ s))
    ⊎ ((n : ℕ) × IsFirstDue s e.moment n × (first : List OutRecord) × (next : State) × IsTimed r e s n first next
    × (rest : List OutRecord) × Ticks k r e next rest s' × (outs ≡ first ++ rest))

-- how many sessions a Tick and an End take
abbrev pub at_once : ℕ
at_once = 64

-- The timers of the tunnel at a place do what they ask for (RFC 2661 sections 5.5 and 5.8). Where that clears it, its calls have ended.
pub record RemindsOne (k : ℕ) (a : At) (now : ℕ) (s : State) (outs : List OutRecord) (s' : State) : Type 0 where
  pub tunnels : TunnelsState
  pub tells : Tells a (reminded now s.tunnels k) outs tunnels
  pub after : s' ≡ cut_told (reminded now s.tunnels k).told (with_tunnels s tunnels)

-- So do those at so many places, from this one on.
abbrev pub Reminds : ℕ → ℕ → At → ℕ → State → List OutRecord → State → Type 0
Reminds zero k a now s outs s' = (outs ≡ []) × (s' ≡ s)
Reminds (suc n) k a now s outs s' =
    (first : List OutRecord) × (next : State) × RemindsOne k a now s first next
    × (rest : List OutRecord) × Reminds n (k + 1) a now next rest s' × (outs ≡ first ++ rest)

-- First the timers of each tunnel, by rising number, and then those of sessions.
abbrev pub HearsTick : Rules → State → Entry → Deed → Type 0
HearsTick r s e d =
    (first : List OutRecord) × (next : State) × Reminds tunnels_most 0 (at_of s e) e.moment s first next
    × (rest : List OutRecord) × (s' : State) × Ticks at_once r e next rest s' × (d ≡ handled s e (first ++ rest) s')

abbrev pub does_live : Option Session → Bool
does_live None = false
does_live (Some x) = lives_in x.service

abbrev pub lives_at : State → ℕ → Bool
lives_at s n = does_live (value_at s.sessions n)

-- there is a session with this number, a provisioned circuit or one that discovery made, and it has not ended
abbrev pub does_stay : Option Session → Bool
does_stay None = false
does_stay (Some x) = not (leaves x)

abbrev pub stays_at : State → ℕ → Bool
stays_at s n = does_stay (value_at s.sessions n)

-- of the sessions that have not ended, this one has the lowest number
pub record IsLowest (s : State) (n : ℕ) : Type 0 where
  pub stays : IsTrue (stays_at s n)
  pub lowest : (m : ℕ) → IsTrue (stays_at s m) → n ≤ m

abbrev pub NoneStays : State → Type 0
NoneStays s = (n : ℕ) → IsFalse (stays_at s n)

-- A session that discovery made is told by a PADT that it ends; a call is told nothing, since its tunnel tells its own end, and neither is a
-- provisioned circuit.
abbrev pub TellsOn : Way → Rules → At → Session → List OutRecord → Type 0
TellsOn (Port number mac) r a x outs = EndsWith r a number mac x.number outs
TellsOn (Call c) r a x outs = outs ≡ []

abbrev pub TellsEnd : Service → Rules → At → Session → List OutRecord → Type 0
TellsEnd (Provisioned p) r a x outs = outs ≡ []
TellsEnd (Linked m) r a x outs = TellsOn x.way r a x outs

-- So many sessions at most end, by rising number.
abbrev pub Ends : ℕ → Rules → Entry → State → List OutRecord → State → Type 0
Ends zero r e s outs s' = (outs ≡ []) × (s' ≡ s)
Ends (suc k) r e s outs s' =
    (NoneStays s × (outs ≡ []) × (s' ≡ s))
    ⊎ ((n : ℕ) × IsLowest s n × (x : Session) × (value_at s.sessions n ≡ Some x)
    × (padt rest : List OutRecord) × TellsEnd x.service r (at_of s e) x padt
    × Ends k r e (with_ended s n x.lease nas_request (ended x)) rest s' × (outs ≡ padt ++ rest))

-- Once no session stays each tunnel that stands, by rising number, tells its peer that the gateway shuts down (RFC 2661 section 6.4).
abbrev pub StopsTunnels : At → ℕ → State → List OutRecord → TunnelsState → Type 0
StopsTunnels a now s outs t =
    (NoneStays s × TellInTurn stopped tunnels_most 0 a now s.tunnels outs t)
    ⊎ ((¬ (NoneStays s)) × (outs ≡ []) × (t ≡ s.tunnels))

abbrev pub HearsEnd : Rules → State → Entry → Deed → Type 0
HearsEnd r s e d =
    (first : List OutRecord) × (next : State) × Ends at_once r e s first next
    × (rest : List OutRecord) × (t : TunnelsState) × StopsTunnels (at_of next e) e.moment next rest t × (d ≡ handled s e (first ++ rest) (with_tunnels next t))
