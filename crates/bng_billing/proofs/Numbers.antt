-- Numbers of records: of their requests, and of those that wait.
use Rattle.std.proofs.Common.{◌≡◌, ◌≢◌, inl, inr, ⊎_elim, ℕ, Bool, true, false, not, cond, List, [], ◌∷◌, ◌++◌, Option, Some, None, refl, sym, ap, ◌∙◌, eqb, arith}
use Rattle.std.specs.Prelude.{filter, is_some}
use Rattle.std.specs.List.{AllByRecursion}
use Rattle.std.proofs.lemmas.Bool.{cases_Bool}
use Rattle.bng_rad_client.specs.declared.pending.Pending.{Pending}
use Rattle.bng_rad_client.specs.declared.rules.Owner.{Owner}
use Rattle.bng_rad_client.specs.declared.rules.Owner.TheVariants.{Ask, Record as OfRecord}
use Rattle.bng_acct.specs.declared.sheet.Sheet.{Sheet}
use Rattle.bng_acct.specs.Queue.{sheet_at, is_waiting, Apart, AreWaiting, IsIn, without}
use Rattle.bng_acct.specs.Spool.{is_stop_sheet, only_stop}
use Rattle.bng_billing.specs.State.{owner_of}
use Rattle.bng_billing.specs.Stopping.{is_known, unless_lost}

abbrev number_in : Owner → ℕ
number_in (Ask session ask) = 0
number_in (OfRecord n) = n.0

-- a request is of one record
pub one_number : (n m : ℕ) → owner_of n ≡ owner_of m → n ≡ m
one_number n m e = ap number_in e

pub some_is : {X : Type 0} (x y : X) → Some x ≡ Some y → x ≡ y
some_is x y e = cc

pub none_some : {X : Type 0} (x : X) → None ≡ Some x → ⊥
none_some x e = cc

pub unhanded_is : (x : Sheet) → is_waiting (Some x) ≡ true → x.handed ≡ true → ⊥
unhanded_is x w h = differ (x.handed) w h
  where
    differ : (b : Bool) → not b ≡ true → b ≡ true → ⊥
    differ true w h = cc
    differ false w h = cc

-- Those that wait -----------------------------------------------------------------------------------------------------------

pub in_push : (ns : List ℕ) (n m : ℕ) → IsIn m ns → IsIn m (ns ++ n ∷ [])
in_push [] n m h = absurd h
in_push (k ∷ ns) n m (inl e) = inl e
in_push (k ∷ ns) n m (inr h) = inr (in_push ns n m h)

pub in_last : (ns : List ℕ) (n : ℕ) → IsIn n (ns ++ n ∷ [])
in_last [] n = inl refl
in_last (k ∷ ns) n = inr (in_last ns n)

pub in_without : (ns : List ℕ) (n m : ℕ) → m ≢ n → IsIn m ns → IsIn m (without n ns)
in_without [] n m apart h = absurd h
in_without (k ∷ ns) n m apart h = elim (cases_Bool (eqb k n)) [
  | inl is ↦ rw is (⊎_elim (λ e. absurd (away k n m apart is e)) (in_without ns n m apart) h)
  | inr other ↦ rw other (⊎_elim (λ e. inl e) (λ later. inr (in_without ns n m apart later)) h)
]
  where
    away : (k n m : ℕ) → m ≢ n → eqb k n ≡ true → k ≡ m → ⊥
    away k n m apart is e = apart (grind (arith, is, e))

pub in_filter : (p : ℕ → Bool) (ns : List ℕ) (m : ℕ) → p m ≡ true → IsIn m ns → IsIn m (filter p ns)
in_filter p [] m passes h = absurd h
in_filter p (k ∷ ns) m passes h = elim (cases_Bool (p k)) [
  | inl stays ↦ rw stays (⊎_elim (λ e. inl e) (λ later. inr (in_filter p ns m passes later)) h)
  | inr goes ↦ rw goes (⊎_elim (λ e. absurd (differ (p k) (ap p e ∙ passes) goes)) (in_filter p ns m passes) h)
]
  where
    differ : (b : Bool) → b ≡ true → b ≡ false → ⊥
    differ b x y = cc

-- The stop ------------------------------------------------------------------------------------------------------------------

-- what is open after it was open before it, and is a Stop
pub only_stop_is : (o : Option Sheet) (x : Sheet) → only_stop o ≡ Some x → (o ≡ Some x) × (is_stop_sheet o ≡ true)
only_stop_is o x e = elim (cases_Bool (is_stop_sheet o)) [
  | inl is ↦ (sym (ap (λ (b : Bool). cond b o None) is) ∙ e, is)
  | inr other ↦ absurd (none_some x (sym (ap (λ (b : Bool). cond b o None) other) ∙ e))
]

pub stop_stays : (o : Option Sheet) → is_stop_sheet o ≡ true → only_stop o ≡ o
stop_stays o is = ap (λ (b : Bool). cond b o None) is

pub still_some : (o : Option Sheet) (x : Sheet) → o ≡ Some x → is_some (only_stop o) ≡ true → only_stop o ≡ Some x
still_some o x e is = elim (cases_Bool (is_stop_sheet o)) [
  | inl stop ↦ stop_stays o stop ∙ e
  | inr other ↦ absurd (nothing (sym (ap (λ (b : Bool). is_some (cond b o None)) other) ∙ is))
]
  where
    nothing : false ≡ true → ⊥
    nothing e = cc

-- a request that is out after the stop was out before it, and its record is open
pub not_lost : (sheets : List (Option Sheet)) (place : Option Pending) (r : Pending) → unless_lost sheets place ≡ Some r → (place ≡ Some r) × (is_known sheets r.owner ≡ true)
not_lost sheets None r e = absurd (none_some r e)
not_lost sheets (Some q) r e = elim (cases_Bool (is_known sheets q.owner)) [
  | inl is ↦
      let same : Some q ≡ Some r = sym (ap (λ (b : Bool). cond (not b) None (Some q)) is) ∙ e in
      (same, ap (λ (x : Pending). is_known sheets x.owner) (sym (some_is q r same)) ∙ is)
  | inr other ↦ absurd (none_some r (sym (ap (λ (b : Bool). cond (not b) None (Some q)) other) ∙ e))
]

pub known_stays : (sheets : List (Option Sheet)) (r : Pending) → is_known sheets r.owner ≡ true → unless_lost sheets (Some r) ≡ Some r
known_stays sheets r is = ap (λ (b : Bool). cond (not b) None (Some r)) is

pub knows_record : (sheets : List (Option Sheet)) (o : Owner) (n : ℕ) → o ≡ owner_of n → is_known sheets o ≡ is_some (sheet_at sheets n)
knows_record sheets o n e = ap (is_known sheets) e

all_filter : (P : ℕ → Type 0) (p : ℕ → Bool) (ns : List ℕ) → AllByRecursion P ns → AllByRecursion P (filter p ns)
all_filter P p [] h = tt
all_filter P p (n ∷ ns) h = elim (cases_Bool (p n)) [
  | inl stays ↦ rw stays (h.0, all_filter P p ns h.1)
  | inr goes ↦ rw goes (all_filter P p ns h.1)
]

apart_filter : (p : ℕ → Bool) (ns : List ℕ) → Apart ns → Apart (filter p ns)
apart_filter p [] h = tt
apart_filter p (n ∷ ns) h = elim (cases_Bool (p n)) [
  | inl stays ↦ rw stays (all_filter (λ m. m ≢ n) p ns h.0, apart_filter p ns h.1)
  | inr goes ↦ rw goes (apart_filter p ns h.1)
]

-- Stops that waited wait
pub waits_stops : (old new : List (Option Sheet)) (ns : List ℕ) → AreWaiting old ns → ((n : ℕ) → sheet_at new n ≡ only_stop (sheet_at old n))
    → AreWaiting new (filter (λ n. is_stop_sheet (sheet_at old n)) ns)
waits_stops old new ns w same = record { each = each ns w.each; apart = apart_filter (λ n. is_stop_sheet (sheet_at old n)) ns w.apart }
  where
    each : (ns : List ℕ) → AllByRecursion (λ n. is_waiting (sheet_at old n) ≡ true) ns → AllByRecursion (λ n. is_waiting (sheet_at new n) ≡ true) (filter (λ n. is_stop_sheet (sheet_at old n)) ns)
    each [] h = tt
    each (n ∷ ns) h = elim (cases_Bool (is_stop_sheet (sheet_at old n))) [
      | inl stop ↦ rw stop (ap is_waiting (same n ∙ stop_stays (sheet_at old n) stop) ∙ h.0, each ns h.1)
      | inr other ↦ rw other (each ns h.1)
    ]
