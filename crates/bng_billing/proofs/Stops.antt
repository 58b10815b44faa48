-- No Stop is open exactly where each was acknowledged.
use Rattle.std.proofs.Common.{◌≡◌, ◌≢◌, inl, inr, ◌⊎◌, ⊎_elim, ℕ, Bool, true, false, cond, List, [], ◌∷◌, Option, Some, None, refl, sym, ap, subst, ◌∙◌}
use Rattle.std.specs.Prelude.{filter_map, option_and_then, ◌↔◌}
use Rattle.std.specs.List.{AllByRecursion, cons_option}
use Rattle.std.specs.Option.{option_map}
use Rattle.std.proofs.lemmas.Bool.{cases_eq, cases_Bool}
use Rattle.bng_base.specs.Chain.{Chain}
use Rattle.bng_base.specs.declared.circuit.TermId.{TermId}
use Rattle.bng_acct.specs.declared.facts.StatusType.{StatusType}
use Rattle.bng_acct.specs.declared.facts.StatusType.TheVariants.{Start, Interim, Stop}
use Rattle.bng_acct.specs.declared.facts.TermFacts.{TermFacts}
use Rattle.bng_acct.specs.declared.held.Held.{Held}
use Rattle.bng_acct.specs.declared.sheet.Sheet.{Sheet}
use Rattle.bng_acct.specs.Queue.{sheet_at, Sets}
use Rattle.bng_acct.specs.Roster.{before, of_term, Rises, same}
use Rattle.bng_acct.specs.Spool.{State as Spool, Agree, facts_at, is_stop, is_stop_sheet, only_stop, number_of, open_of, unacked_stops}
use Rattle.bng_acct.proofs.Rosters.{before_is_other, is_same}
use Rattle.bng_billing.specs.declared.rules.BillingRules.{BillingRules}
use Rattle.bng_billing.specs.State.{BillingState, IsNewBilling}
use Rattle.bng_billing.specs.Calls.{BillingCall, Formed, Given, Again, Told, Heard, Stopped, Does, IsAcknowledging, AreAcknowledging, IsFollowed, StopsAreAcknowledged}
use Rattle.bng_billing.proofs.Numbers.{some_is, none_some, stop_stays}

differ : {b : Bool} → b ≡ true → b ≡ false → ⊥
differ x y = let both : true ≡ false = sym x ∙ y in cc

-- The list of open Stops ----------------------------------------------------------------------------------------------------

abbrev listed : List (Option Sheet) → List Held → List TermFacts
listed sheets hs = filter_map (λ (h : Held). option_and_then (facts_at sheets) h.stop) hs

empty_tail : (o : Option TermFacts) (rest : List TermFacts) → cons_option o rest ≡ [] → rest ≡ []
empty_tail None rest e = e
empty_tail (Some f) rest e = absurd cc

empty_head : (f : TermFacts) (o : Option TermFacts) (rest : List TermFacts) → o ≡ Some f → cons_option o rest ≡ [] → ⊥
empty_head f None rest e none = none_some f e
empty_head f (Some g) rest e none = cc

-- a term whose Stop is open is listed
is_listed : (sheets : List (Option Sheet)) (t : TermId) (hs : List Held) (h : Held) (f : TermFacts) → of_term t hs ≡ Some h → option_and_then (facts_at sheets) h.stop ≡ Some f → listed sheets hs ≡ [] → ⊥
is_listed sheets t [] h f is facts none = none_some h is
is_listed sheets t (x ∷ hs) h f is facts none = elim (cases_Bool (same x.term t)) [
  | inl here ↦
      let it : x ≡ h = some_is x h (sym (ap (λ (b : Bool). cond b (Some x) (of_term t hs)) here) ∙ is) in
      empty_head f (option_and_then (facts_at sheets) x.stop) (listed sheets hs) (ap (λ (y : Held). option_and_then (facts_at sheets) y.stop) it ∙ facts) none
  | inr other ↦ is_listed sheets t hs h f (sym (ap (λ (b : Bool). cond b (Some x) (of_term t hs)) other) ∙ is) facts (empty_tail (option_and_then (facts_at sheets) x.stop) (listed sheets hs) none)
]

abbrev number_in : StatusType → Option Held → Option ℕ
number_in s o = option_and_then (number_of s) o

some_held : (o : Option Held) (n : ℕ) → number_in Stop o ≡ Some n → (h : Held) × (o ≡ Some h) × (h.stop ≡ Some n)
some_held None n e = absurd (none_some n e)
some_held (Some h) n e = (h, refl, e)

some_stop : (o : Option Sheet) → is_stop_sheet o ≡ true → (x : Sheet) × (o ≡ Some x) × (x.record.status ≡ Stop)
some_stop None e = absurd (let both : false ≡ true = e in cc)
some_stop (Some x) e = (x, refl, kind x.record.status e)
  where
    kind : (s : StatusType) → is_stop s ≡ true → s ≡ Stop
    kind Start e = absurd (let both : false ≡ true = e in cc)
    kind Interim e = absurd (let both : false ≡ true = e in cc)
    kind Stop e = refl

-- the Stop with this number is open
abbrev IsOpenStop : Spool → ℕ → Type 0
IsOpenStop s n = is_stop_sheet (sheet_at s.sheets n) ≡ true

abbrev NoneOpen : Spool → Type 0
NoneOpen s = (n : ℕ) → IsOpenStop s n → ⊥

none_open : (s : Spool) → Agree s.sheets s.held → unacked_stops s ≡ [] → NoneOpen s
none_open s a none n is =
    let stop = some_stop (sheet_at s.sheets n) is in
    let x : Sheet = stop.0 in
    let marked : open_of x.record.facts.term Stop s.held ≡ Some n = ap (λ (k : StatusType). open_of x.record.facts.term k s.held) (sym stop.2) ∙ a.marked n x stop.1 in
    let held = some_held (of_term x.record.facts.term s.held) n marked in
    is_listed s.sheets x.record.facts.term s.held held.0 x.record.facts held.1
    (ap (option_and_then (facts_at s.sheets)) held.2 ∙ ap (option_map (λ (y : Sheet). y.record.facts)) stop.1) none

carried : (x : Held) (all ys : List Held) → AllByRecursion (λ y. before x.term y.term ≡ true) ys → AllByRecursion (λ y. of_term y.term all ≡ Some y) ys → AllByRecursion (λ y. of_term y.term (x ∷ all) ≡ Some y) ys
carried x all [] r h = tt
carried x all (y ∷ ys) r h = (rw (before_is_other x.term y.term r.0) h.0, carried x all ys r.1 h.1)

found_each : (hs : List Held) → Rises hs → AllByRecursion (λ h. of_term h.term hs ≡ Some h) hs
found_each [] r = tt
found_each (x ∷ xs) r = (rw (is_same x.term) refl, carried x xs xs r.0 (found_each xs r.1))

none_listed : (s : Spool) → Agree s.sheets s.held → NoneOpen s → unacked_stops s ≡ []
none_listed s a none = empty s.held (found_each s.held a.each_once)
  where
    no_stop : (h : Held) → of_term h.term s.held ≡ Some h → (o : Option ℕ) → h.stop ≡ o → o ≡ None
    no_stop h found None e = refl
    no_stop h found (Some n) e =
        let there = a.opened h.term Stop n (ap (number_in Stop) found ∙ e) in
        let x : Sheet = there.0 in
        absurd (none n (ap is_stop_sheet there.1 ∙ ap is_stop there.3))

    empty : (hs : List Held) → AllByRecursion (λ h. of_term h.term s.held ≡ Some h) hs → listed s.sheets hs ≡ []
    empty [] all = refl
    empty (h ∷ hs) all = ap (λ (o : Option ℕ). cons_option (option_and_then (facts_at s.sheets) o) (listed s.sheets hs)) (no_stop h all.0 h.stop refl) ∙ empty hs all.1

-- A call --------------------------------------------------------------------------------------------------------------------

-- a Stop stays open, but where the call acknowledges it
stays : (c : BillingCall) (s t : BillingState) → Does s c t → (n : ℕ) → IsOpenStop s.spool n → IsAcknowledging c n ⊎ IsOpenStop t.spool n
stays (Formed status facts moment m) s t by n is =
    let f = by.formed in
    let other : n ≢ m = λ e. differ (subst (IsOpenStop s.spool) e is) (ap is_stop_sheet f.fresh) in
    inr (ap is_stop_sheet (f.sets.others n other) ∙ is)
stays (Given now m id octets) s t by n is =
    let h = by.handed in
    ⊎_elim
    (λ (e : n ≡ m). inr (subst (IsOpenStop t.spool) (sym e) (ap is_stop_sheet h.sets.changed ∙ sym (ap is_stop_sheet h.was) ∙ subst (IsOpenStop s.spool) e is)))
    (λ (other : n ≢ m). inr (ap is_stop_sheet (h.sets.others n other) ∙ is))
    (cases_eq n m)
stays (Again now id octets) s t by n is = inr (ap is_stop_sheet (ap (λ (x : BillingState). sheet_at x.spool.sheets n) by.others) ∙ is)
stays (Told id sent) s t by n is = inr (ap is_stop_sheet (ap (λ (x : BillingState). sheet_at x.spool.sheets n) by) ∙ is)
stays (Heard from octets None) s t by n is = inr (ap is_stop_sheet (ap (λ (x : BillingState). sheet_at x.spool.sheets n) by.1) ∙ is)
stays (Heard from octets (Some m)) s t by n is = ⊎_elim (λ (e : n ≡ m.0). inl (sym e)) (λ (other : n ≢ m.0). inr (ap is_stop_sheet (by.acknowledged.sets.others n other) ∙ is)) (cases_eq n m.0)
stays Stopped s t by n is = inr (ap is_stop_sheet (by.sheets n ∙ stop_stays (sheet_at s.spool.sheets n) is) ∙ is)

was_stop : (o : Option Sheet) → is_stop_sheet (only_stop o) ≡ true → is_stop_sheet o ≡ true
was_stop o is = elim (cases_Bool (is_stop_sheet o)) [
  | inl stop ↦ stop
  | inr other ↦ absurd (let both : false ≡ true = sym (ap (λ (b : Bool). is_stop_sheet (cond b o None)) other) ∙ is in cc)
]

-- an open Stop was open and is not acknowledged by the call, or the call formed it
came : (c : BillingCall) (cs : List BillingCall) (s t : BillingState) → Does s c t → (n : ℕ) → IsOpenStop t.spool n → (IsOpenStop s.spool n × (IsAcknowledging c n → ⊥)) ⊎ (IsFollowed c cs → AreAcknowledging cs n)
came (Formed status facts moment m) cs s t by n is =
    let f = by.formed in
    ⊎_elim
    (λ (e : n ≡ m). inr (λ follow. subst (AreAcknowledging cs) (sym e)
    (formed status (ap is_stop (sym f.status_is) ∙ sym (ap is_stop_sheet f.sets.changed) ∙ subst (IsOpenStop t.spool) e is) follow)))
    (λ (other : n ≢ m). inl (ap is_stop_sheet (sym (f.sets.others n other)) ∙ is, λ x. x))
    (cases_eq n m)
  where
    formed : (k : StatusType) → is_stop k ≡ true → IsFollowed (Formed k facts moment m) cs → AreAcknowledging cs m
    formed Start e follow = absurd (let both : false ≡ true = e in cc)
    formed Interim e follow = absurd (let both : false ≡ true = e in cc)
    formed Stop e follow = follow
came (Given now m id octets) cs s t by n is =
    let h = by.handed in
    ⊎_elim
    (λ (e : n ≡ m). inl (subst (IsOpenStop s.spool) (sym e) (ap is_stop_sheet h.was ∙ sym (ap is_stop_sheet h.sets.changed) ∙ subst (IsOpenStop t.spool) e is), λ x. x))
    (λ (other : n ≢ m). inl (ap is_stop_sheet (sym (h.sets.others n other)) ∙ is, λ x. x))
    (cases_eq n m)
came (Again now id octets) cs s t by n is = inl (ap is_stop_sheet (sym (ap (λ (x : BillingState). sheet_at x.spool.sheets n) by.others)) ∙ is, λ x. x)
came (Told id sent) cs s t by n is = inl (ap is_stop_sheet (sym (ap (λ (x : BillingState). sheet_at x.spool.sheets n) by)) ∙ is, λ x. x)
came (Heard from octets None) cs s t by n is = inl (ap is_stop_sheet (sym (ap (λ (x : BillingState). sheet_at x.spool.sheets n) by.1)) ∙ is, λ x. x)
came (Heard from octets (Some m)) cs s t by n is = ⊎_elim
    (λ (e : n ≡ m.0). absurd (differ (subst (IsOpenStop t.spool) e is) (ap is_stop_sheet by.acknowledged.sets.changed)))
    (λ (other : n ≢ m.0). inl (ap is_stop_sheet (sym (by.acknowledged.sets.others n other)) ∙ is, λ x. other (sym x)))
    (cases_eq n m.0)
came Stopped cs s t by n is = inl (was_stop (sheet_at s.spool.sheets n) (ap is_stop_sheet (sym (by.sheets n)) ∙ is), λ x. x)

-- The calls -----------------------------------------------------------------------------------------------------------------

-- each Stop that is open is acknowledged by one of the calls, and each that they form by a later one
abbrev AllAcknowledged : List BillingCall → BillingState → Type 0
AllAcknowledged calls s = ((n : ℕ) → IsOpenStop s.spool n → AreAcknowledging calls n) × StopsAreAcknowledged calls

follows : (c : BillingCall) (cs : List BillingCall) (s t : BillingState) → Does s c t → ((n : ℕ) → IsOpenStop t.spool n → AreAcknowledging cs n) → IsFollowed c cs
follows (Formed Start facts moment m) cs s t by each = tt
follows (Formed Interim facts moment m) cs s t by each = tt
follows (Formed Stop facts moment m) cs s t by each = each m (ap is_stop_sheet by.formed.sets.changed ∙ ap is_stop by.formed.status_is)
follows (Given now m id octets) cs s t by each = tt
follows (Again now id octets) cs s t by each = tt
follows (Told id sent) cs s t by each = tt
follows (Heard from octets found) cs s t by each = tt
follows Stopped cs s t by each = tt

forth : (calls : List BillingCall) (s last : BillingState) → Chain Does s calls last → NoneOpen last.spool → AllAcknowledged calls s
forth [] s last run none = (λ n is. none n (subst (λ (x : BillingState). IsOpenStop x.spool n) (sym run) is), tt)
forth (c ∷ cs) s last (mid, does, run) none =
    let rest = forth cs mid last run none in
    (λ n is. ⊎_elim (λ now. inl now) (λ later. inr (rest.0 n later)) (stays c s mid does n is), (follows c cs s mid does rest.0, rest.1))

back : (calls : List BillingCall) (s last : BillingState) → Chain Does s calls last → AllAcknowledged calls s → NoneOpen last.spool
back [] s last run all = λ n is. all.0 n (subst (λ (x : BillingState). IsOpenStop x.spool n) run is)
back (c ∷ cs) s last (mid, does, run) all = back cs mid last run (each, all.1.1)
  where
    each : (n : ℕ) → IsOpenStop mid.spool n → AreAcknowledging cs n
    each n is = ⊎_elim
        (λ was. ⊎_elim (λ now. absurd (was.1 now)) (λ later. later) (all.0 n was.0))
        (λ formed. formed all.1.0)
        (came c cs s mid does n is)

no_stop_yet : (rules : BillingRules) (b : BillingState) → IsNewBilling rules b → NoneOpen b.spool
no_stop_yet rules b new n is = differ is (ap (λ (sheets : List (Option Sheet)). is_stop_sheet (sheet_at sheets n)) new.spool.no_sheet)

pub stops_acknowledged : (rules : BillingRules) (opening last : BillingState) (calls : List BillingCall) → IsNewBilling rules opening → Chain Does opening calls last → Agree last.spool.sheets last.spool.held
    → (unacked_stops last.spool ≡ []) ↔ StopsAreAcknowledged calls
stops_acknowledged rules opening last calls new run agree = (
  λ none. (forth calls opening last run (none_open last.spool agree none)).1,
  λ all. none_listed last.spool agree (back calls opening last run (λ n is. absurd (no_stop_yet rules opening new n is), all)),
)
