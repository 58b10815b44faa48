-- Which deadlines a Tick handles, and what is left then.
use Rattle.std.proofs.Common.{◌≡◌, ◌≢◌, ◌⊎◌, inl, inr, ℕ, zero, suc, ◌≤◌, Bool, Option, Some, None, List, [], ◌∷◌, ◌++◌, length, refl, sym, ap, subst, ◌∙◌, option_and_then, arith}
use Rattle.std.specs.List.{AllByRecursion}
use Rattle.bng_base.specs.declared.item.Entry.{Entry}
use Rattle.bng_base.specs.declared.item.ItemKind.{ItemKind}
use Rattle.bng_base.specs.declared.item.ItemKind.TheVariants.{Tick}
use Rattle.bng_base.specs.declared.item.OutRecord.{OutRecord}
use Rattle.bng_sessions.specs.Sessions.{Sessions, value_at, with_value}
use Rattle.bng_sessions.proofs.SessionLaws.{value_at-with_other}
use Rattle.bng_steps.specs.declared.rules.Rules.{Rules}
use Rattle.bng_steps.specs.declared.session.Service.{Service}
use Rattle.bng_steps.specs.declared.session.Service.TheVariants.{Provisioned, Linked}
use Rattle.bng_steps.specs.declared.session.Session.{Session}
use Rattle.bng_steps.specs.Deed.{Deed}
use Rattle.bng_steps.specs.Passing.{cause_at, passed_at}
use Rattle.bng_steps.specs.Silence.{Dues, IsLeft, TakesDue, TicksThrough, Were}
use Rattle.bng_steps.specs.State.{State, with_driven}
use Rattle.bng_steps.specs.Step.{Hears, Step}
use Rattle.bng_steps.specs.Timers.{ComesFirst, HearsTick, IsTimed, LooksAt, LosesTerm, NoneIsDue, Ticks, TimesIn, at_once, deadline_of, due_at}

-- One deadline -------------------------------------------------------------------------------------------------------------

-- a session is another one, and no other is
elsewhere : (s s' : State) (n m : ℕ) (y : Session) → s'.sessions ≡ with_value s.sessions n y → m ≢ n → value_at s'.sessions m ≡ value_at s.sessions m
elsewhere s s' n m y e differ = ap (λ (t : Sessions Session). value_at t m) e ∙ value_at-with_other s.sessions n y m differ

module _ (r : Rules) (e : Entry) (n m : ℕ) (differ : m ≢ n) where
  loses_elsewhere : (v : Service) (cause : ℕ) (s : State) (x : Session) (outs : List OutRecord) (s' : State) → LosesTerm v cause r e s n x outs s' → value_at s'.sessions m ≡ value_at s.sessions m
  loses_elsewhere (Provisioned over) cause s x outs s' (none, is) = elsewhere s s' n m _ (ap (λ (t : State). t.sessions) is) differ
  loses_elsewhere (Linked made) cause s x outs s' (y, none, beside, drives, is) = elsewhere s s' n m y (ap (λ (t : State). t.sessions) is) differ

  looks_elsewhere : (o : Option ℕ) (s : State) (x : Session) (outs : List OutRecord) (s' : State) → LooksAt o r e s n x outs s' → value_at s'.sessions m ≡ value_at s.sessions m
  looks_elsewhere None s x outs s' (none, is) = elsewhere s s' n m _ (ap (λ (t : State). t.sessions) is) differ
  looks_elsewhere (Some cause) s x outs s' h = loses_elsewhere x.service cause s x outs s' h

  times_elsewhere : (v : Service) (s : State) (x : Session) (outs : List OutRecord) (s' : State) → TimesIn v r e s n x outs s' → value_at s'.sessions m ≡ value_at s.sessions m
  times_elsewhere (Provisioned over) s x outs s' h = looks_elsewhere (cause_at (passed_at s.passed x.number) x.lease e.moment) s x outs s' h
  times_elsewhere (Linked made) s x outs s' h =
      let next = with_driven s n x.lease h.cause h.after h.beside in
      looks_elsewhere (cause_at (passed_at s.passed h.after.number) h.after.lease e.moment) next h.after h.then s' h.looks ∙ elsewhere s next n m h.after refl differ

  timed_elsewhere : (s : State) (outs : List OutRecord) (s' : State) → IsTimed r e s n outs s' → value_at s'.sessions m ≡ value_at s.sessions m
  timed_elsewhere s outs s' (x, at, h) = times_elsewhere x.service s x outs s' h

same_due : (s s' : State) (m : ℕ) → value_at s'.sessions m ≡ value_at s.sessions m → due_at s' m ≡ due_at s m
same_due s s' m e = ap (option_and_then deadline_of) e

-- Lists --------------------------------------------------------------------------------------------------------------------

apart_before : (n m : ℕ) (before : List ℕ) → AllByRecursion (λ (k : ℕ). k ≢ m) (before ++ n ∷ []) → AllByRecursion (λ (k : ℕ). k ≢ m) before × (m ≢ n)
apart_before n m [] h = (tt, λ e. h.0 (sym e))
apart_before n m (k ∷ before) h = let (rest, differ) = apart_before n m before h.1 in ((h.0, rest), differ)

-- the deadlines of a state in which one session more was handled
were_more : (s next : State) (n : ℕ) → ((m : ℕ) → m ≢ n → value_at next.sessions m ≡ value_at s.sessions m) → (before : List ℕ) (dues : Dues) → Were next before dues → Were s (before ++ n ∷ []) dues
were_more s next n others before [] h = tt
were_more s next n others before (due ∷ dues) h = (
  λ apart. let (old, differ) = apart_before n due.0 before apart in sym (same_due s next due.0 (others due.0 differ)) ∙ h.0 old,
  were_more s next n others (due.0 ∷ before) dues h.1,
)

-- So many ------------------------------------------------------------------------------------------------------------------

-- what so many turns come to
record Takes (k now : ℕ) (s s' : State) : Type 0 where
  pub dues : Dues
  pub few : length dues ≤ k
  pub due : AllByRecursion (λ (h : ℕ × ℕ). h.1 ≤ now) dues
  pub were : Were s [] dues
  pub others : (m : ℕ) → IsLeft dues m → value_at s'.sessions m ≡ value_at s.sessions m
  pub turn : NoneIsDue s' now ⊎ ((length dues ≡ k) × ((m later : ℕ) → IsLeft dues m → due_at s' m ≡ Some later → AllByRecursion (λ (h : ℕ × ℕ). ComesFirst h.1 h.0 later m) dues))

none_take : (k now : ℕ) (s s' : State) → s' ≡ s → (NoneIsDue s now) ⊎ (k ≡ 0) → Takes k now s s'
none_take k now s s' is why = record {
  dues = [];
  few = omega arith;
  due = tt;
  were = tt;
  others = λ m left. ap (λ (t : State). value_at t.sessions m) is;
  turn = elim why [
    | inl none ↦ inl (subst (λ (t : State). NoneIsDue t now) (sym is) none)
    | inr all ↦ inr (sym all, λ m later left at. tt)
  ];
}

ticks_take : (k : ℕ) (r : Rules) (e : Entry) (s : State) (outs : List OutRecord) (s' : State) → Ticks k r e s outs s' → Takes k e.moment s s'
ticks_take zero r e s outs s' h = none_take 0 e.moment s s' h.1 (inr refl)
ticks_take (suc k) r e s outs s' (inl (none, nothing, is)) = none_take (suc k) e.moment s s' is (inl none)
ticks_take (suc k) r e s outs s' (inr (n, first_due, first, next, timed, rest, more, all)) =
    let later = ticks_take k r e next rest s' more in
    let others : (m : ℕ) → m ≢ n → value_at next.sessions m ≡ value_at s.sessions m = λ m differ. timed_elsewhere r e n m differ s first next timed in
    let all_others : (m : ℕ) → IsLeft ((n, first_due.deadline) ∷ later.dues) m → value_at s'.sessions m ≡ value_at s.sessions m = λ m left. later.others m left.1 ∙ others m (λ i. left.0 (sym i)) in
    record {
      dues = (n, first_due.deadline) ∷ later.dues;
      few = omega (arith, later.few);
      due = (first_due.due, later.due);
      were = (λ apart. first_due.is, were_more s next n others [] later.dues later.were);
      others = all_others;
      turn = elim later.turn [
        | inl none ↦ inl none
        | inr (count, order) ↦
            inr (ap suc count, λ m other left at. (first_due.first m other (sym (same_due s s' m (all_others m left)) ∙ at), order m other left.1 at))
      ];
    }

hears_through : (r : Rules) (s : State) (d : Deed) → HearsTick r s d.entry d → TicksThrough s d
hears_through r s d (first, next, reminds, rest, s', ticks, h) =
    let takes = ticks_take at_once r d.entry next rest s' ticks in
    record {
      tunnels = first;
      next = next;
      reminds = reminds;
      takes = subst (λ (t : State). TakesDue d.entry.moment next t) (sym (ap (λ (g : Deed). g.next) h))
          (record { dues = takes.dues; few = takes.few; due = takes.due; were = takes.were; others = takes.others; turn = takes.turn });
    }

pub tick_through : (r : Rules) (s : State) (limited : Bool) (d : Deed) → Step r s limited d → d.entry.item.kind ≡ Tick → TicksThrough s d
tick_through r s limited d h is = hears_through r s d (subst (λ (k : ItemKind). Hears k r s limited d.entry d) is h.hears)
