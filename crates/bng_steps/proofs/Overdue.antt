-- A Tick ends a live term by Idle Timeout or by Session Timeout only where that timeout is over.
use Rattle.std.proofs.Common.{◌≡◌, ◌≢◌, ◌⊎◌, inl, inr, ℕ, zero, suc, ◌+◌, ◌*◌, ◌==◌, ◌≤◌, ◌&&◌, max, min, Bool, true, false, not, List, [], ◌∷◌, Option, Some, None, IfSome, IsSome, IsSomeAnd, fold, option_and_then, refl, sym, ap, subst, ◌∙◌, arith}
use Rattle.std.specs.Prelude.{if◌then◌else◌}
use Rattle.std.specs.List.{All, Contains, range_with_len}
use Rattle.std.proofs.lemmas.Bool.{cases_eq, false≢true}
use Rattle.std.proofs.lemmas.List.Elements.{All-contains, All-contains_itself}
use Rattle.bng_base.specs.declared.item.At.{At}
use Rattle.bng_base.specs.declared.item.Entry.{Entry}
use Rattle.bng_base.specs.declared.item.ItemKind.{ItemKind}
use Rattle.bng_base.specs.declared.item.ItemKind.TheVariants.{Tick}
use Rattle.bng_base.specs.declared.item.OutRecord.{OutRecord}
use Rattle.bng_lns.specs.Timed.{Telling, reminded}
use Rattle.bng_lns.specs.Tunnels.{TunnelsState}
use Rattle.bng_ppp.specs.declared.rules.LinkRules.{LinkRules}
use Rattle.bng_ppp.specs.declared.input.Input.TheVariants.{Close, Timer}
use Rattle.bng_ppp.specs.Layers.{Turn}
use Rattle.bng_ppp.specs.LinkRelation.{LinkGoes, LinkSaid, LinkSteps, ended_by}
use Rattle.bng_ppp.specs.LinkState.{LinkState}
use Rattle.bng_ppp.specs.LinkTimers.{IsLossCause}
use Rattle.bng_sessions.specs.Sessions.{value_at, with_value}
use Rattle.bng_sessions.proofs.SessionLaws.{value_at-with_value, value_at-with_other}
use Rattle.bng_ppp.specs.LcpRelation.{earliest}
use Rattle.bng_term.proofs.Looks.{not_late}
use Rattle.bng_term.specs.Lifetimes.{cause_of, deadline_of as term_deadline, is_over}
use Rattle.bng_steps.specs.declared.rules.Rules.{Rules}
use Rattle.bng_steps.specs.declared.session.Lease.{Lease}
use Rattle.bng_steps.specs.declared.session.Service.{Service}
use Rattle.bng_steps.specs.declared.session.Service.TheVariants.{Provisioned, Linked}
use Rattle.bng_steps.specs.declared.session.Session.{Session}
use Rattle.bng_steps.specs.Cutting.{cut_at, cut_if, cut_of, cut_off, cut_told, is_cut, numbers_most}
use Rattle.bng_steps.specs.Deed.{Deed, at_of, beside_of}
use Rattle.bng_steps.specs.L2tp.{tunnels_most}
use Rattle.bng_steps.specs.Link.{ended, told}
use Rattle.bng_steps.specs.Passing.{cause_at, lapsed, looked, passed_at}
use Rattle.bng_steps.specs.Silence.{IsLiveIn, IsOld, IsSilent}
use Rattle.bng_steps.specs.State.{Beside, State, beside_at, leaves, leaves_in, with_driven, with_ended, with_tunnels}
use Rattle.bng_steps.specs.Step.{Hears, Step}
use Rattle.bng_steps.specs.Tenures.{Tenure}
use Rattle.bng_steps.specs.Timers.{HearsTick, LooksAt, LosesTerm, NoneIsDue, Reminds, Ticks, TimesIn, at_once, deadline_in, deadline_of, deadline_unless, due_at, link_deadline}
use Rattle.bng_steps.proofs.CircuitsKept.{Ending, closed_holds}
use Rattle.bng_steps.proofs.Limiting.{drives_was}
use Rattle.bng_steps.proofs.SeenLeases.{looked_was}
use Rattle.bng_steps.proofs.Values.{none_some, same_some}

-- Timeouts -----------------------------------------------------------------------------------------------------------------

abbrev timeout : Bool → Bool → Option ℕ
timeout idle session = if idle then Some 4 else (if session then Some 5 else None)

is_four : (idle session : Bool) → timeout idle session ≡ Some 4 → idle ≡ true
is_four true session e = refl
is_four false true e = absurd (omega (arith, same_some 5 4 e))
is_four false false e = absurd (none_some 4 e)

is_five : (idle session : Bool) → timeout idle session ≡ Some 5 → (idle ≡ false) × (session ≡ true)
is_five true session e = absurd (omega (arith, same_some 4 5 e))
is_five false true e = (refl, refl)
is_five false false e = absurd (none_some 5 e)

no_idle : (idle session : Bool) → timeout idle session ≡ None → idle ≡ false
no_idle true session e = absurd (none_some 4 (sym e))
no_idle false session e = refl

no_session : (idle session : Bool) → timeout idle session ≡ None → session ≡ false
no_session true session e = absurd (none_some 4 (sym e))
no_session false true e = absurd (none_some 5 (sym e))
no_session false false e = refl

-- Links --------------------------------------------------------------------------------------------------------------------

-- a link's timers end no term by such a cause
abbrev pub OfLink : Option ℕ → Type 0
OfLink cause = IfSome cause (λ k. (k ≡ 1) ⊎ (k ≡ 2))

pub ended_link : (live left ended : Bool) (cause : ℕ) → (cause ≡ 1) ⊎ (cause ≡ 2) → OfLink (ended_by live left ended cause)
ended_link false left ended cause is = tt
ended_link true true ended cause is = is
ended_link true false true cause is = inl refl
ended_link true false false cause is = tt

loss_link : (old : LinkState) (now cause : ℕ) → IsLossCause old now cause → (cause ≡ 1) ⊎ (cause ≡ 2)
loss_link old now cause (inl (finishes, is)) = inl is
loss_link old now cause (inr (goes_on, is)) = inr is

pub goes_link : (r : LinkRules) (now : ℕ) (random : List ℕ) (old : LinkState) (t : Turn) (cause : Option ℕ) → LinkGoes r Timer now random old t cause → OfLink cause
goes_link r now random old t cause (reminds, (n, loss, is)) = subst OfLink (sym is) (ended_link t.link.live t.left t.ended n (loss_link old now n loss))

timer_link : (r : LinkRules) (now : ℕ) (random : List ℕ) (old : LinkState) (says : LinkSaid) (new : LinkState) → LinkSteps r Timer now random old says new → OfLink says.term_ended
timer_link r now random old says new h = subst OfLink (sym (ap (λ (x : LinkSaid). x.term_ended) h.said)) (goes_link r now random old h.turn h.cause h.goes)

-- What is kept of the state before ------------------------------------------------------------------------------------------

-- a session that has a lease had that lease before, but for what is known of when its packets passed
record Was (before : State) (n : ℕ) (x : Session) (l : Lease) : Type 0 where
  pub y : Session
  pub lease : Lease
  pub at : value_at before.sessions n ≡ Some y
  pub leased : y.lease ≡ Some lease
  pub number : x.number ≡ y.number
  pub serial : l.serial ≡ lease.serial
  pub limits : l.life.limits ≡ lease.life.limits
  pub began : l.life.began ≡ lease.life.began
  pub idle : l.life.idle_from ≤ max lease.life.idle_from (max lease.life.began (passed_at before.passed y.number))

-- a term that has ended by a timeout had ended before, or was over so
abbrev Justified : State → ℕ → Tenure → Type 0
Justified before now t =
    (t.cause ≡ Some 4 → Contains before.terms t ⊎ IsSilent before now t.term.serial)
    × (t.cause ≡ Some 5 → Contains before.terms t ⊎ IsOld before now t.term.serial)

record Tracks (before : State) (now : ℕ) (s : State) : Type 0 where
  pub causes : All (Justified before now) s.terms
  pub passed : s.passed ≡ before.passed
  pub leases : (n : ℕ) (x : Session) (l : Lease) → value_at s.sessions n ≡ Some x → x.lease ≡ Some l → Was before n x l

tracks_start : (s : State) (now : ℕ) → Tracks s now s
tracks_start s now = record {
  causes = λ k t lt. let there = All-contains_itself s.terms k t lt in (λ e. inl there, λ e. inl there);
  passed = refl;
  leases = λ n x l at leased. record { y = x; lease = l; at = at; leased = leased; number = refl; serial = refl; limits = refl; began = refl; idle = omega arith };
}

-- a cause that is no timeout
other_cause : (before : State) (now c : ℕ) → (c ≡ 4 → ⊥) → (c ≡ 5 → ⊥) → (t : Tenure) → Justified before now (record t { cause = Some c })
other_cause before now c four five t = (λ e. absurd (four (same_some c 4 e)), λ e. absurd (five (same_some c 5 e)))

-- a timeout that is over
over_cause : (before : State) (now : ℕ) (passed : List ℕ) (n : ℕ) (x : Session) (l : Lease) (cause : ℕ) → passed ≡ before.passed → Was before n x l → cause_at (passed_at passed x.number) (Some l) now ≡ Some cause
    → (t : Tenure) → t.term.serial ≡ l.serial → Justified before now (record t { cause = Some cause })
over_cause before now passed n x l cause kept w is t same =
    let idle = is_over l.life.limits.idle_timeout (max l.life.began (passed_at passed x.number)) now in
    let session = is_over l.life.limits.session_timeout l.life.began now in
    let silence : idle ≡ is_over w.lease.life.limits.idle_timeout (max w.lease.life.began (passed_at before.passed w.y.number)) now =
    λ i. is_over (w.limits i).idle_timeout (max (w.began i) (passed_at (kept i) (w.number i))) now in
    let age : session ≡ is_over w.lease.life.limits.session_timeout w.lease.life.began now = λ i. is_over (w.limits i).session_timeout (w.began i) now in
    let live : IsLiveIn before t.term.serial n w.y w.lease = record { at = w.at; leased = w.leased; number = sym w.serial ∙ sym same } in (
      λ e. inr (n, w.y, w.lease, live, sym silence ∙ is_four idle session (is ∙ e)),
      λ e. let both = is_five idle session (is ∙ e) in inr (n, w.y, w.lease, live, sym silence ∙ both.0, sym age ∙ both.1),
    )

module _ (before : State) (r : Rules) (e : Entry) where
  abbrev Kept : State → Type 0
  Kept = Tracks before e.moment

  abbrev Ends : Option Lease → Option ℕ → Type 0
  Ends = Ending (Justified before e.moment)

  put : (s : State) (n : ℕ) (lease : Option Lease) (cause : Option ℕ) (y : Session) (beside : Beside) → Kept s → ((l : Lease) → y.lease ≡ Some l → Was before n y l) → Ends lease cause → Kept (with_driven s n lease cause y beside)
  put s n lease cause y beside h was ends = record {
    causes = closed_holds (Justified before e.moment) lease cause s.terms ends h.causes;
    passed = h.passed;
    leases = λ m x l at leased. elim (cases_eq m n) [
      | inl same ↦
          let there : value_at (with_value s.sessions n y) n ≡ Some x = subst (λ (k : ℕ). value_at (with_value s.sessions n y) k ≡ Some x) same at in
          let is : y ≡ x = same_some y x (sym (value_at-with_value s.sessions n y) ∙ there) in
          subst (λ (z : Session). Was before m z l) is (subst (λ (k : ℕ). Was before k y l) (sym same) (was l (ap (λ (z : Session). z.lease) is ∙ leased)))
      | inr ne ↦ h.leases m x l (sym (value_at-with_other s.sessions n y m ne) ∙ at) leased
    ];
  }

  loses : (v : Service) (cause : ℕ) (s : State) (n : ℕ) (x : Session) (outs : List OutRecord) (s' : State) → Kept s → value_at s.sessions n ≡ Some x → cause_at (passed_at s.passed x.number) x.lease e.moment ≡ Some cause
      → LosesTerm v cause r e s n x outs s' → Kept s'
  loses v cause s n x outs s' h at over loses_it = by_service v loses_it
    where
      ends : Ends x.lease (Some cause)
      ends l c leased is t same =
          subst (λ (k : ℕ). Justified before e.moment (record t { cause = Some k })) (same_some cause c is)
          (over_cause before e.moment s.passed n x l cause h.passed (h.leases n x l at leased) (sym (ap (λ (o : Option Lease). cause_at (passed_at s.passed x.number) o e.moment) leased) ∙ over) t same)

      by_service : (v : Service) → LosesTerm v cause r e s n x outs s' → Kept s'
      by_service (Provisioned gone) (none, is) = subst Kept (sym is) (put s n x.lease (Some cause) (lapsed x) (beside_of s e) h (λ l leased. absurd (none_some l leased)) ends)
      by_service (Linked m) (y, none, beside, drives, is) =
          subst Kept (sym is)
          (put s n x.lease (Some cause) y beside h (λ l leased. absurd (none_some l (drives_was r (at_of s e) (beside_of s e) (lapsed x) y outs none beside (told r e Close) drives l leased))) ends)

  looks : (o : Option ℕ) (s : State) (n : ℕ) (x : Session) (outs : List OutRecord) (s' : State) → Kept s → value_at s.sessions n ≡ Some x → cause_at (passed_at s.passed x.number) x.lease e.moment ≡ o
      → LooksAt o r e s n x outs s' → Kept s'
  looks None s n x outs s' h at over (none, is) =
      let at_last = passed_at s.passed x.number in
      subst Kept (sym is)
      (put s n None None (looked at_last x) (beside_at 0 s.question_count s.tunnels) h
      (λ l leased.
      let (k, was, same) = looked_was at_last x.lease l leased in
      let w = h.leases n x k at was in
      let known : l.life.idle_from ≡ max k.life.idle_from (max k.life.began at_last) = ap (λ (j : Lease). j.life.idle_from) same in
      let last : at_last ≡ passed_at before.passed w.y.number = λ i. passed_at (h.passed i) (w.number i) in
      let knew : k.life.idle_from ≤ max w.lease.life.idle_from (max w.lease.life.began (passed_at before.passed w.y.number)) = w.idle in
      let began : k.life.began ≡ w.lease.life.began = w.began in
      record {
        y = w.y;
        lease = w.lease;
        at = w.at;
        leased = w.leased;
        number = w.number;
        serial = ap (λ (j : Lease). j.serial) same ∙ w.serial;
        limits = ap (λ (j : Lease). j.life.limits) same ∙ w.limits;
        began = ap (λ (j : Lease). j.life.began) same ∙ w.began;
        idle = omega (arith, known, last, began, knew);
      })
      (λ l c never. absurd (none_some l never)))
  looks (Some cause) s n x outs s' h at over goes = loses x.service cause s n x outs s' h at over goes

  times : (v : Service) (s : State) (n : ℕ) (x : Session) (outs : List OutRecord) (s' : State) → Kept s → value_at s.sessions n ≡ Some x → TimesIn v r e s n x outs s' → Kept s'
  times (Provisioned over) s n x outs s' h at goes = looks (cause_at (passed_at s.passed x.number) x.lease e.moment) s n x outs s' h at refl goes
  times (Linked m) s n x outs s' h at goes =
      let drives = goes.drives in
      let next = with_driven s n x.lease goes.cause goes.after goes.beside in
      let link : OfLink goes.cause = subst OfLink (sym drives.closes) (timer_link r.link e.moment e.item.random drives.made.link drives.says drives.link drives.steps) in
      let tracked = put s n x.lease goes.cause goes.after goes.beside h
      (λ l leased.
      let w = h.leases n x l at (drives_was r (at_of s e) (beside_of s e) x goes.after goes.first goes.cause goes.beside (told r e Timer) drives l leased) in
      record { y = w.y; lease = w.lease; at = w.at; leased = w.leased; number = ap (λ (z : Session). z.number) drives.session ∙ w.number; serial = w.serial; limits = w.limits; began = w.began; idle = w.idle })
      (λ l c leased is t same.
      let which : (c ≡ 1) ⊎ (c ≡ 2) = subst OfLink is link in
      other_cause before e.moment c
      (λ four. elim which [ inl one ↦ omega (arith, one, four) | inr two ↦ omega (arith, two, four) ])
      (λ five. elim which [ inl one ↦ omega (arith, one, five) | inr two ↦ omega (arith, two, five) ]) t) in
      looks (cause_at (passed_at s.passed goes.after.number) goes.after.lease e.moment) next n goes.after goes.then s' tracked (value_at-with_value s.sessions n goes.after) refl goes.looks

  ticks : (k : ℕ) (s : State) (outs : List OutRecord) (s' : State) → Kept s → Ticks k r e s outs s' → Kept s'
  ticks zero s outs s' h goes = subst Kept (sym goes.1) h
  ticks (suc k) s outs s' h (inl (none, nothing, is)) = subst Kept (sym is) h
  ticks (suc k) s outs s' h (inr (n, due, first, next, (x, at, goes), rest, more, all)) = ticks k next rest s' (times x.service s n x first next h at goes) more

  -- Tunnels that are cleared -----------------------------------------------------------------------------------------------

  cut_one : (tunnel : ℕ) (s : State) (n : ℕ) (o : Option Session) → Kept s → Kept (cut_of tunnel s n o)
  cut_one tunnel s n None h = h
  cut_one tunnel s n (Some x) h =
      elim (is_cut tunnel x) as (λ (b : Bool). Kept (if b then with_ended s n x.lease 2 (ended x) else s)) [
        | true ↦
            put s n x.lease (Some 2) (ended x) (beside_at 0 s.question_count s.tunnels) h (λ l leased. absurd (none_some l leased))
            (λ l c leased is t same. other_cause before e.moment c (λ four. omega (arith, same_some 2 c is, four)) (λ five. omega (arith, same_some 2 c is, five)) t)
        | false ↦ h
      ]

  cuts : (tunnel : ℕ) (ns : List ℕ) (s : State) → Kept s → Kept (fold (cut_at tunnel) s ns)
  cuts tunnel [] s h = h
  cuts tunnel (n ∷ ns) s h = cuts tunnel ns (cut_at tunnel s n) (cut_one tunnel s n (value_at s.sessions n) h)

  cuts_off : (tunnel : ℕ) (s : State) → Kept s → Kept (cut_off tunnel s)
  unfolding cut_off
  cuts_off tunnel s h = cuts tunnel (range_with_len (s.sessions.shard * 1024 + 1) numbers_most) s h

  cuts_if : (cleared : Bool) (tunnel : ℕ) (s : State) → Kept s → Kept (cut_if cleared tunnel s)
  cuts_if cleared tunnel s h = elim (cleared && not (tunnel == 0)) as (λ (b : Bool). Kept (if b then cut_off tunnel s else s)) [ true ↦ cuts_off tunnel s h | false ↦ h ]

  cuts_told : (o : Option Telling) (s : State) → Kept s → Kept (cut_told o s)
  cuts_told None s h = h
  cuts_told (Some t) s h = cuts_if t.said.cleared t.number s h

  with_tunnels_kept : (s : State) (t : TunnelsState) → Kept s → Kept (with_tunnels s t)
  with_tunnels_kept s t h = record { causes = h.causes; passed = h.passed; leases = h.leases }

  reminds : (n k : ℕ) (a : At) (s : State) (outs : List OutRecord) (s' : State) → Kept s → Reminds n k a e.moment s outs s' → Kept s'
  reminds zero k a s outs s' h goes = subst Kept (sym goes.1) h
  reminds (suc n) k a s outs s' h (first, next, one, rest, more, all) =
      reminds n (k + 1) a next rest s' (subst Kept (sym one.after) (cuts_told (reminded e.moment s.tunnels k).told (with_tunnels s one.tunnels) (with_tunnels_kept s one.tunnels h))) more

-- A Tick -------------------------------------------------------------------------------------------------------------------

hears_tracks : (r : Rules) (s : State) (d : Deed) → HearsTick r s d.entry d → Tracks s d.entry.moment d.next
hears_tracks r s d (first, next, goes, rest, s', more, h) =
    subst (Tracks s d.entry.moment) (sym (ap (λ (g : Deed). g.next) h))
    (ticks s r d.entry at_once next rest s' (reminds s r d.entry tunnels_most 0 (at_of s d.entry) s first next (tracks_start s d.entry.moment) goes) more)

tick_tracks : (r : Rules) (s : State) (limited : Bool) (d : Deed) → Step r s limited d → d.entry.item.kind ≡ Tick → Tracks s d.entry.moment d.next
tick_tracks r s limited d h is = hears_tracks r s d (subst (λ (k : ItemKind). Hears k r s limited d.entry d) is h.hears)

justified : (r : Rules) (s : State) (limited : Bool) (d : Deed) (t : Tenure) → Step r s limited d → d.entry.item.kind ≡ Tick → Contains d.next.terms t → Justified s d.entry.moment t
justified r s limited d t h is there = All-contains (Justified s d.entry.moment) d.next.terms t (tick_tracks r s limited d h is).causes there

-- a session that has a lease after a Tick had it before, and its term knows of no later packet than that before or the last
pub tick_knows : (r : Rules) (s : State) (limited : Bool) (d : Deed) → Step r s limited d → d.entry.item.kind ≡ Tick → (n : ℕ) (x : Session) (l : Lease) → value_at d.next.sessions n ≡ Some x → x.lease ≡ Some l
    → (y : Session) × (lease : Lease) × (value_at s.sessions n ≡ Some y) × (y.lease ≡ Some lease) × (x.number ≡ y.number) × (l.life.began ≡ lease.life.began)
    × (l.life.idle_from ≤ max lease.life.idle_from (max lease.life.began (passed_at s.passed y.number)))
tick_knows r s limited d h is n x l at leased = let w = (tick_tracks r s limited d h is).leases n x l at leased in (w.y, w.lease, w.at, w.leased, w.number, w.began, w.idle)

pub idle_justified : (r : Rules) (s : State) (limited : Bool) (d : Deed) (t : Tenure) → Step r s limited d → d.entry.item.kind ≡ Tick → Contains d.next.terms t → t.cause ≡ Some 4 → Contains s.terms t ⊎ IsSilent s d.entry.moment t.term.serial
idle_justified r s limited d t h is there = (justified r s limited d t h is there).0

pub session_justified : (r : Rules) (s : State) (limited : Bool) (d : Deed) (t : Tenure) → Step r s limited d → d.entry.item.kind ≡ Tick → Contains d.next.terms t → t.cause ≡ Some 5 → Contains s.terms t ⊎ IsOld s d.entry.moment t.term.serial
session_justified r s limited d t h is there = (justified r s limited d t h is there).1

-- Where none is due --------------------------------------------------------------------------------------------------------

least : (a : Option ℕ) (b : ℕ) → (c : ℕ) × (earliest a (Some b) ≡ Some c) × (c ≤ b)
least None b = (b, refl, omega arith)
least (Some a) b = (min a b, refl, omega arith)

not_ended : (b : Bool) (o : Option ℕ) → b ≡ false → deadline_unless b o ≡ o
not_ended true o e = absurd (false≢true (sym e))
not_ended false o e = refl

-- a session that stays is due no later than its live term
due_by : (v : Service) (l : Lease) (at : ℕ) → leaves_in v ≡ false → term_deadline l.life ≡ Some at → (c : ℕ) × (deadline_in v (Some l) ≡ Some c) × (c ≤ at)
due_by (Provisioned over) l at stays is = (at, not_ended over (term_deadline l.life) stays ∙ is, omega arith)
due_by (Linked m) l at stays is =
    let (c, first, low) = least (link_deadline m.link) at in
    (c, not_ended m.ended (earliest (link_deadline m.link) (term_deadline l.life)) stays ∙ ap (earliest (link_deadline m.link)) is ∙ first, low)

some_at : (o : Option ℕ) (now : ℕ) → IsSomeAnd o (λ at. at ≤ now) → (at : ℕ) × (o ≡ Some at) × (at ≤ now)
some_at None now h = absurd h
some_at (Some at) now h = (at, refl, h)

module _ (s : State) (now n : ℕ) (x : Session) (l : Lease) (none : NoneIsDue s now) (at : value_at s.sessions n ≡ Some x) (leased : x.lease ≡ Some l) (stays : leaves x ≡ false) where
  -- the live term's own deadline is yet to come
  deadline_ahead : IsSomeAnd (term_deadline l.life) (λ m. m ≤ now) → ⊥
  deadline_ahead h =
      let (m, is, low) = some_at (term_deadline l.life) now h in
      let (c, due, under) = due_by x.service l m stays is in
      let there : due_at s n ≡ Some c = ap (option_and_then deadline_of) at ∙ ap (deadline_in x.service) leased ∙ due in
      omega (arith, none n c there, low, under)

  none_over : (passed : ℕ) → l.life.idle_from ≤ passed → cause_of l.life.limits l.life.began passed now ≡ None
  none_over passed knows =
      elim (cause_of l.life.limits l.life.began passed now) as (λ (o : Option ℕ). cause_of l.life.limits l.life.began passed now ≡ o → o ≡ None) [
        | None ↦ λ is. refl
        | Some cause ↦ λ is. absurd (deadline_ahead (not_late l.life passed now knows (subst IsSome (sym is) refl)))
      ] refl

  pub none_silent : l.life.idle_from ≤ max l.life.began (passed_at s.passed x.number) → is_over l.life.limits.idle_timeout (max l.life.began (passed_at s.passed x.number)) now ≡ false
  none_silent knows = no_idle _ _ (none_over (max l.life.began (passed_at s.passed x.number)) knows)

  pub none_old : is_over l.life.limits.session_timeout l.life.began now ≡ false
  none_old = no_session _ _ (none_over l.life.idle_from (omega arith))
