-- What a contract sees of the spool.
use Rattle.std.specs.Prelude.{◌≡◌, ℕ, ◌+◌, ◌≤◌, ◌<◌, ◌||◌, Bool, true, false, MatchBool, if◌then◌else◌, List, [], ◌∷◌, ◌++◌, length, filter_map, Option, Some, None, is_some, option_and_then, ◌⊎◌, IsSome}
use Rattle.std.specs.Option.{option_map}
use Rattle.bng_base.specs.declared.circuit.TermId.{TermId}
use Rattle.bng_base.specs.Packet.{Packet as Bytes}
use Rattle.bng_radius_wire.specs.Attributes.{Field}
use Rattle.bng_acct.specs.declared.facts.StatusType.{StatusType}
use Rattle.bng_acct.specs.declared.facts.StatusType.TheVariants.{Start, Interim, Stop}
use Rattle.bng_acct.specs.declared.facts.TermFacts.{TermFacts}
use Rattle.bng_acct.specs.declared.facts.Moment.{Moment}
use Rattle.bng_acct.specs.declared.facts.Record.{Record}
use Rattle.bng_acct.specs.declared.rules.AcctRules.{AcctRules}
use Rattle.bng_acct.specs.declared.sheet.Sheet.{Sheet}
use Rattle.bng_acct.specs.declared.held.Held.{Held}
use Rattle.bng_acct.specs.Request.{AreClasses, HoldsRequest}
use Rattle.bng_acct.specs.Roster.{of_term, Rises, Puts, Removes}
use Rattle.bng_acct.specs.Queue.{sheet_at, Sets}
use Rattle.bng_acct.specs.Sheets.{AreUsed}

-- The open records are those that were formed and are neither acknowledged nor forgotten. The spool knows each by its
-- number, the numbers of those that were not handed out in the order in which the records were formed, and by session and
-- term number the terms that are live or have an open record.
pub record State : Type 0 where
  pub rules : AcctRules
  pub sheets : List (Option Sheet)
  pub waiting : List ℕ
  pub held : List Held

-- no record, and these rules
pub record IsOpened (rules : AcctRules) (s : State) : Type 0 where
  pub terms : s.rules.terms ≡ rules.terms
  pub wall : s.rules.wall ≡ rules.wall
  pub name : s.rules.name.items ≡ rules.name.items
  pub nas_ip : s.rules.nas_ip ≡ rules.nas_ip
  pub no_sheet : s.sheets ≡ []
  pub none_waits : s.waiting ≡ []
  pub none_held : s.held ≡ []

-- the number of a term's open record of a kind
abbrev pub number_of : StatusType → Held → Option ℕ
number_of Start h = h.start
number_of Interim h = h.interim
number_of Stop h = h.stop

abbrev pub open_of : TermId → StatusType → List Held → Option ℕ
open_of t status held = option_and_then (number_of status) (of_term t held)

abbrev pub with_number : StatusType → Option ℕ → Held → Held
with_number Start n h = record h { start = n }
with_number Interim n h = record h { interim = n }
with_number Stop n h = record h { stop = n }

abbrev pub is_stop : StatusType → Bool
is_stop Start = false
is_stop Interim = false
is_stop Stop = true

abbrev pub stops_in : StatusType → ℕ
stops_in Start = 0
stops_in Interim = 0
stops_in Stop = 1

-- a term of which no record was formed
abbrev pub unknown : TermId → Held
unknown t = record { term = t; live = true; start = None; interim = None; stop = None }

abbrev pub or_unknown : TermId → Option Held → Held
or_unknown t None = unknown t
or_unknown t (Some h) = h

-- a term ends with its Stop
abbrev pub ended_by : StatusType → Held → Held
ended_by Start h = h
ended_by Interim h = h
ended_by Stop h = record h { live = false }

-- it is live, or a record of it is open
abbrev pub is_kept : Held → Bool
is_kept h = h.live || is_some h.start || is_some h.interim || is_some h.stop

abbrev pub counted : Option ℕ → ℕ
counted None = 0
counted (Some n) = 1

abbrev pub open_count : Held → ℕ
open_count h = counted h.start + counted h.interim + counted h.stop

abbrev pub stop_count : Held → ℕ
stop_count h = counted h.stop

abbrev pub is_live : Option Held → Bool
is_live None = false
is_live (Some h) = h.live

-- a term that is live has no open Stop
abbrev pub IsLiveOrStopped : Held → Type 0
IsLiveOrStopped h = h.live ≡ true → h.stop ≡ None

-- what the spool holds of its terms is what it has of records
pub record Agree (sheets : List (Option Sheet)) (held : List Held) : Type 0 where
  pub marked : (n : ℕ) (x : Sheet) → sheet_at sheets n ≡ Some x → open_of x.record.facts.term x.record.status held ≡ Some n
  pub opened : (t : TermId) (status : StatusType) (n : ℕ) → open_of t status held ≡ Some n → (x : Sheet) × (sheet_at sheets n ≡ Some x) × (x.record.facts.term ≡ t) × (x.record.status ≡ status)
  pub kept : (t : TermId) (h : Held) → of_term t held ≡ Some h → is_kept h ≡ true
  pub stopped : (t : TermId) (h : Held) → of_term t held ≡ Some h → IsLiveOrStopped h
  pub each_once : Rises held

-- the same facts
pub record SameFacts (f g : TermFacts) : Type 0 where
  pub term : g.term ≡ f.term
  pub circuit : g.circuit ≡ f.circuit
  pub address : g.address ≡ f.address
  pub user : g.user.items ≡ f.user.items
  pub class : g.class.items ≡ f.class.items
  pub began : g.began ≡ f.began
  pub carried : g.carried ≡ f.carried

-- its Classes are whole, and it was formed no sooner than its term began
pub record IsReady (r : Record) : Type 0 where
  pub classes : List Field
  pub are : AreClasses classes r.facts.class.items
  pub began : r.facts.began ≤ r.moment.now

-- a term of which a record may be formed: it is held, or there is room for one more
abbrev pub IsAdmitted : State → TermId → Type 0
IsAdmitted s t = IsSome (of_term t s.held) ⊎ (length s.held < s.rules.terms)

-- a record of this kind, these facts and this moment is open from then on, under the lowest number that no open record has,
-- and waits behind those that wait
pub record Forms (old new : State) (status : StatusType) (facts : TermFacts) (moment : Moment) (n : ℕ) : Type 0 where
  pub fresh : sheet_at old.sheets n ≡ None
  pub lowest : AreUsed old.sheets 0 n
  pub sheet : Sheet
  pub sets : Sets old.sheets new.sheets n (Some sheet)
  pub status_is : sheet.record.status ≡ status
  pub facts_are : SameFacts facts sheet.record.facts
  pub moment_is : sheet.record.moment ≡ moment
  pub unhanded : sheet.handed ≡ false
  pub waits : new.waiting ≡ old.waiting ++ n ∷ []
  pub holds : Puts old.held new.held (with_number status (Some n) (ended_by status (or_unknown facts.term (of_term facts.term old.held))))
  pub rules : new.rules ≡ old.rules

-- the record that waited longest is handed out: the frame holds it
pub record HandsOver (old new : State) (n : ℕ) (frame : Bytes) : Type 0 where
  pub first : old.waiting ≡ n ∷ new.waiting
  pub sheet : Sheet
  pub was : sheet_at old.sheets n ≡ Some sheet
  pub holds : HoldsRequest old.rules sheet.record frame
  pub sets : Sets old.sheets new.sheets n (Some (record sheet { handed = true }))
  pub terms : new.held ≡ old.held
  pub rules : new.rules ≡ old.rules

-- this is held of its term, where it is live or has an open record, and else nothing
abbrev pub Leaves : List Held → List Held → Held → Type 0
Leaves old new h = MatchBool (is_kept h) (Puts old new h) (Removes old new h.term)

-- a term's record of this kind is open no longer
pub record Releases (old new : List Held) (t : TermId) (status : StatusType) : Type 0 where
  pub was : Held
  pub found : of_term t old ≡ Some was
  pub leaves : Leaves old new (with_number status None was)

-- what becomes of the terms where this was a record's
abbrev pub ReleasesIfAny : List Held → List Held → Option Sheet → Type 0
ReleasesIfAny old new None = new ≡ old
ReleasesIfAny old new (Some x) = Releases old new x.record.facts.term x.record.status

abbrev pub is_stop_sheet : Option Sheet → Bool
is_stop_sheet None = false
is_stop_sheet (Some x) = is_stop x.record.status

-- the Stops alone
abbrev pub only_stop : Option Sheet → Option Sheet
only_stop o = if is_stop_sheet o then o else None

abbrev pub facts_at : List (Option Sheet) → ℕ → Option TermFacts
facts_at sheets n = option_map (λ x. x.record.facts) (sheet_at sheets n)

-- the facts of the Stops that are open, by session and term number
abbrev pub unacked_stops : State → List TermFacts
unacked_stops s = filter_map (λ h. option_and_then (facts_at s.sheets) h.stop) s.held
