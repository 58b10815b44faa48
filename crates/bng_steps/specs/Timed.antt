-- What a Tick and an End leave.
use Rattle.std.specs.Prelude.{◌≡◌, ℕ, ◌≤◌, Bool, true, false, List, ◌++◌, Option, Some, None, length}
use Rattle.bng_base.specs.declared.item.Entry.{Entry}
use Rattle.bng_base.specs.declared.item.OutRecord.{OutRecord}
use Rattle.bng_ppp.specs.declared.input.Input.TheVariants.{Start, Close, Timer}
use Rattle.bng_lns.specs.Timed.{Timed}
use Rattle.bng_lns.specs.Tunnels.{TunnelsState}
use Rattle.bng_ppp.specs.LinkRelation.{LinkSteps}
use Rattle.bng_ppp.specs.LinkState.{LinkState}
use Rattle.bng_sessions.specs.Sessions.{value_at}
use Rattle.bng_steps.specs.declared.rules.Rules.{Rules}
use Rattle.bng_base.specs.declared.item.At.{At}
use Rattle.bng_steps.specs.declared.session.Service.{Service}
use Rattle.bng_steps.specs.declared.session.Service.TheVariants.{Provisioned, Linked}
use Rattle.bng_steps.specs.declared.session.Session.{Session}
use Rattle.bng_steps.specs.State.{Beside, State, with_ended, with_tunnels}
use Rattle.bng_steps.specs.Deed.{at_of}
use Rattle.bng_steps.specs.L2tp.{Tells, TellInTurn, tunnels_most}
use Rattle.bng_steps.specs.Link.{ended, lost_carrier, nas_request}
use Rattle.bng_steps.specs.Calls.{linked_anew}
use Rattle.bng_steps.specs.Discovery.{IsNewLink}
use Rattle.bng_steps.specs.Driven.{Driven}
use Rattle.bng_steps.specs.Passing.{lapsed, looked}
use Rattle.bng_steps.specs.TermRows.{TermsView, closed_rows}
use Rattle.bng_steps.specs.Timers.{Ticks, Ends, IsFirstDue, IsTimed, NoneIsDue, Reminds, RemindsOne, IsLowest, NoneStays, StopsTunnels, TellsEnd, at_once}

-- The due deadline that comes first was handled; or none is due, and all is as before.
abbrev pub TickedOnce : Bool → Rules → At → ℕ → List ℕ → State → State → List OutRecord → List OutRecord → Type 0
TickedOnce false r a now random s s' outs outs' = NoneIsDue s now × (s' ≡ s) × (outs' ≡ outs)
TickedOnce true r a now random s s' outs outs' =
    (n : ℕ) × IsFirstDue s now n × (more : List OutRecord) × ((e : Entry) → e.moment ≡ now → e.item.random ≡ random → at_of s e ≡ a → IsTimed r e s n more s') × (outs' ≡ outs ++ more)

-- The link of a session took Close; a provisioned circuit has no link.
abbrev pub ClosedLink : Service → Rules → At → ℕ → List ℕ → Beside → Session → Session → Beside → List OutRecord → List OutRecord → Type 0
ClosedLink (Provisioned over) r a now random beside x x' beside' outs outs' = (x' ≡ x) × (beside' ≡ beside) × (outs' ≡ outs)
ClosedLink (Linked m) r a now random beside x x' beside' outs outs' = (none : Option ℕ) × Driven r a (LinkSteps r.link Close now random) beside x none x' beside' outs outs'

-- A session's live term ended by this cause, and its link took Close, if it has one.
abbrev pub LostTerm : Service → ℕ → Rules → At → ℕ → List ℕ → Beside → Session → Session → Beside → TermsView → TermsView → List OutRecord → List OutRecord → Type 0
LostTerm v cause r a now random beside x x' beside' t t' outs outs' =
    ClosedLink v r a now random beside (lapsed x) x' beside' outs outs' × (t' ≡ record t { rows = closed_rows x.lease (Some cause) t.rows })

-- A session's live term was looked at, whose last packet passed at this moment: it ended by this cause; or it goes on.
abbrev pub LookedOnce : Option ℕ → Rules → At → ℕ → List ℕ → ℕ → Beside → Session → Session → Beside → TermsView → TermsView → List OutRecord → List OutRecord → Type 0
LookedOnce None r a now random passed beside x x' beside' t t' outs outs' = (x' ≡ looked passed x) × (beside' ≡ beside) × (t' ≡ t) × (outs' ≡ outs)
LookedOnce (Some cause) r a now random passed beside x x' beside' t t' outs outs' = LostTerm x.service cause r a now random beside x x' beside' t t' outs outs'

-- A session's link took Timer, if it has one.
abbrev pub RemindedOnce : Service → Rules → At → ℕ → List ℕ → Beside → Session → Session → Beside → TermsView → TermsView → List OutRecord → List OutRecord → Type 0
RemindedOnce (Provisioned over) r a now random beside x x' beside' t t' outs outs' = (x' ≡ x) × (beside' ≡ beside) × (t' ≡ t) × (outs' ≡ outs)
RemindedOnce (Linked m) r a now random beside x x' beside' t t' outs outs' =
    (cause : Option ℕ) × Driven r a (LinkSteps r.link Timer now random) beside x cause x' beside' outs outs'
    × (t' ≡ record t { rows = closed_rows x.lease cause t.rows })

-- The call of a session took a message: where its ICCN was taken the session's link was made anew and told Open and Up, where it ended the
-- session ended, and else it goes on.
abbrev pub TurnedOnce : Bool → Bool → Rules → At → ℕ → List ℕ → Beside → Session → Session → Beside → TermsView → TermsView → List OutRecord → List OutRecord → Type 0
TurnedOnce true over r a now random beside x x' beside' t t' outs outs' =
    (link : LinkState) × IsNewLink 1500 random link × (none : Option ℕ)
    × Driven r a (LinkSteps r.link Start now random) beside (linked_anew x link) none x' beside' outs outs'
    × (t' ≡ record t { rows = closed_rows x.lease (Some lost_carrier) t.rows })
TurnedOnce false true r a now random beside x x' beside' t t' outs outs' =
    (x' ≡ ended x) × (beside' ≡ beside) × (t' ≡ record t { rows = closed_rows x.lease (Some lost_carrier) t.rows }) × (outs' ≡ outs)
TurnedOnce false false r a now random beside x x' beside' t t' outs outs' = (x' ≡ x) × (beside' ≡ beside) × (t' ≡ t) × (outs' ≡ outs)

-- The session with the lowest number ended; or all had ended, and all is as before.
abbrev pub EndedOnce : Bool → Rules → At → State → State → List OutRecord → List OutRecord → Type 0
EndedOnce false r a s s' outs outs' = NoneStays s × (s' ≡ s) × (outs' ≡ outs)
EndedOnce true r a s s' outs outs' =
    (n : ℕ) × IsLowest s n × (x : Session) × (value_at s.sessions n ≡ Some x)
    × (padt : List OutRecord) × TellsEnd x.service r a x padt × (s' ≡ with_ended s n x.lease nas_request (ended x)) × (outs' ≡ outs ++ padt)

-- One tunnel did this, which gave this: what it tells stands after what was to be sent.
pub record ToldOnce (a : At) (timed : Timed) (t' : TunnelsState) (outs outs' : List OutRecord) : Type 0 where
  pub more : List OutRecord
  pub tells : Tells a timed more t'
  pub outs_are : outs' ≡ outs ++ more

-- The timers of the tunnel at a place did what they ask for, likewise.
pub record RemindedAt (k : ℕ) (a : At) (now : ℕ) (s s' : State) (outs outs' : List OutRecord) : Type 0 where
  pub more : List OutRecord
  pub reminds : RemindsOne k a now s more s'
  pub outs_are : outs' ≡ outs ++ more

-- Those of all tunnels did so in turn, likewise.
pub record RemindedInTurn (a : At) (now : ℕ) (s s' : State) (outs outs' : List OutRecord) : Type 0 where
  pub more : List OutRecord
  pub reminds : Reminds tunnels_most 0 a now s more s'
  pub outs_are : outs' ≡ outs ++ more

-- All tunnels did this in turn, likewise.
pub record ToldInTurn (act : ℕ → TunnelsState → ℕ → Timed) (a : At) (now : ℕ) (t t' : TunnelsState) (outs outs' : List OutRecord) : Type 0 where
  pub more : List OutRecord
  pub tells : TellInTurn act tunnels_most 0 a now t more t'
  pub outs_are : outs' ≡ outs ++ more

-- They stopped where no session stays, likewise.
pub record Stopped (a : At) (now : ℕ) (s : State) (t' : TunnelsState) (outs outs' : List OutRecord) : Type 0 where
  pub more : List OutRecord
  pub stops : StopsTunnels a now s more t'
  pub outs_are : outs' ≡ outs ++ more

-- So many due deadlines at most were handled: what that sends stands after what was to be sent.
pub record Ticked (most : ℕ) (r : Rules) (a : At) (now : ℕ) (random : List ℕ) (s s' : State) (outs outs' : List OutRecord) : Type 0 where
  pub more : List OutRecord
  pub ticks : (e : Entry) → e.moment ≡ now → e.item.random ≡ random → at_of s e ≡ a → Ticks most r e s more s'
  pub outs_are : outs' ≡ outs ++ more
  pub few : length more ≤ 192

-- So many sessions at most ended, likewise.
pub record Ended (most : ℕ) (r : Rules) (a : At) (s s' : State) (outs outs' : List OutRecord) : Type 0 where
  pub more : List OutRecord
  pub ends : (e : Entry) → at_of s e ≡ a → Ends most r e s more s'
  pub outs_are : outs' ≡ outs ++ more
  pub few : length more ≤ 64

-- A Tick was handled: what the tunnels tell stands after what was to be sent, and then what the sessions send.
pub record TickDone (r : Rules) (a : At) (now : ℕ) (random : List ℕ) (s s' : State) (outs outs' : List OutRecord) : Type 0 where
  pub first : List OutRecord
  pub next : State
  pub reminds : Reminds tunnels_most 0 a now s first next
  pub rest : List OutRecord
  pub ticks : (e : Entry) → e.moment ≡ now → e.item.random ≡ random → at_of s e ≡ a → Ticks at_once r e next rest s'
  pub outs_are : outs' ≡ outs ++ (first ++ rest)
  pub few : length (first ++ rest) ≤ 320

-- An End was: what the sessions are told stands after what was to be sent, and then what the tunnels tell.
pub record EndDone (r : Rules) (a : At) (now : ℕ) (s s' : State) (outs outs' : List OutRecord) : Type 0 where
  pub first : List OutRecord
  pub next : State
  pub ends : (e : Entry) → at_of s e ≡ a → Ends at_once r e s first next
  pub rest : List OutRecord
  pub tunnels : TunnelsState
  pub stops : StopsTunnels a now next rest tunnels
  pub after : s' ≡ with_tunnels next tunnels
  pub outs_are : outs' ≡ outs ++ (first ++ rest)
  pub few : length (first ++ rest) ≤ 320
