-- The Stops that are open, listed.
use Rattle.std.proofs.Common.{◌≡◌, ℕ, zero, suc, ◌+◌, true, List, [], ◌∷◌, Option, Some, None, length, sym, ap, ◌∙◌, refl, arith}
use Rattle.std.specs.Prelude.{sum_by, filter_map, slice_get, option_and_then}
use Rattle.std.specs.List.{AllByRecursion, cons_option}
use Rattle.std.specs.Option.{option_map}
use Rattle.std.proofs.lemmas.List.Sums.{sum_by-cons}
use Rattle.bng_acct.specs.declared.facts.TermFacts.{TermFacts}
use Rattle.bng_acct.specs.declared.facts.StatusType.TheVariants.{Stop}
use Rattle.bng_acct.specs.declared.held.Held.{Held}
use Rattle.bng_acct.specs.declared.sheet.Sheet.{Sheet}
use Rattle.bng_acct.specs.Roster.{before, of_term, Rises}
use Rattle.bng_acct.specs.Spool.{Agree, counted, stop_count, facts_at}
use Rattle.bng_acct.proofs.Rosters.{before_is_other, is_same}
use Rattle.bng_acct.proofs.Marks.{number_in}

carried : (x : Held) (all ys : List Held) → AllByRecursion (λ y. before x.term y.term ≡ true) ys → AllByRecursion (λ y. of_term y.term all ≡ Some y) ys → AllByRecursion (λ y. of_term y.term (x ∷ all) ≡ Some y) ys
carried x all [] r h = tt
carried x all (y ∷ ys) r h = (rw (before_is_other x.term y.term r.0) h.0, carried x all ys r.1 h.1)

found_each : (hs : List Held) → Rises hs → AllByRecursion (λ h. of_term h.term hs ≡ Some h) hs
found_each [] r = tt
found_each (x ∷ xs) r = (rw (is_same x.term) refl, carried x xs xs r.0 (found_each xs r.1))

-- each has the facts of its Stop, where that is open
abbrev HasFacts : List (Option Sheet) → Held → Type 0
HasFacts sheets h = (n : ℕ) → h.stop ≡ Some n → (f : TermFacts) × (facts_at sheets n ≡ Some f)

with_facts : (sheets : List (Option Sheet)) (held hs : List Held) → Agree sheets held → AllByRecursion (λ h. of_term h.term held ≡ Some h) hs → AllByRecursion (HasFacts sheets) hs
with_facts sheets held [] a all = tt
with_facts sheets held (h ∷ hs) a all = (
  λ n e.
      let there = a.opened h.term Stop n (ap (number_in Stop) all.0 ∙ e) in
      let x : Sheet = there.0 in
      (x.record.facts, ap (option_map (λ (y : Sheet). y.record.facts)) there.1),
  with_facts sheets held hs a all.1,
)

counts_one : (o : Option ℕ) (F : ℕ → Option TermFacts) (rest : List TermFacts) → ((n : ℕ) → o ≡ Some n → (f : TermFacts) × (F n ≡ Some f))
    → length (cons_option (option_and_then F o) rest) ≡ counted o + length rest
counts_one None F rest h = omega arith
counts_one (Some n) F rest h = rw (h n refl).1 (omega arith)

looks_up : (o : Option ℕ) (F : ℕ → Option TermFacts) (rest : List TermFacts) (numbers : List ℕ) (k : ℕ) → ((n : ℕ) → o ≡ Some n → (f : TermFacts) × (F n ≡ Some f))
    → ((j : ℕ) → slice_get rest j ≡ option_and_then F (slice_get numbers j)) → slice_get (cons_option (option_and_then F o) rest) k ≡ option_and_then F (slice_get (cons_option o numbers) k)
looks_up None F rest numbers k h more = more k
looks_up (Some n) F rest numbers zero h more = rw (h n refl).1 refl
looks_up (Some n) F rest numbers (suc k) h more = rw (h n refl).1 (more k)

abbrev listed : List (Option Sheet) → List Held → List TermFacts
listed sheets hs = filter_map (λ (h : Held). option_and_then (facts_at sheets) h.stop) hs

length-listed : (sheets : List (Option Sheet)) (hs : List Held) → AllByRecursion (HasFacts sheets) hs → length (listed sheets hs) ≡ sum_by stop_count hs
length-listed sheets [] h = refl
length-listed sheets (x ∷ hs) h = counts_one x.stop (facts_at sheets) (listed sheets hs) h.0 ∙ ap (λ (n : ℕ). counted x.stop + n) (length-listed sheets hs h.1) ∙ sym (sum_by-cons stop_count x hs)

get-listed : (sheets : List (Option Sheet)) (hs : List Held) → AllByRecursion (HasFacts sheets) hs → (k : ℕ)
    → slice_get (listed sheets hs) k ≡ option_and_then (facts_at sheets) (slice_get (filter_map (λ (h : Held). h.stop) hs) k)
get-listed sheets [] h k = refl
get-listed sheets (x ∷ hs) h k = looks_up x.stop (facts_at sheets) (listed sheets hs) (filter_map (λ (h : Held). h.stop) hs) k h.0 (get-listed sheets hs h.1)

pub stops_listed : (sheets : List (Option Sheet)) (held : List Held) → Agree sheets held → length (listed sheets held) ≡ sum_by stop_count held
stops_listed sheets held a = length-listed sheets held (with_facts sheets held held a (found_each held a.each_once))

pub stop_listed : (sheets : List (Option Sheet)) (held : List Held) → Agree sheets held → (k : ℕ)
    → slice_get (listed sheets held) k ≡ option_and_then (facts_at sheets) (slice_get (filter_map (λ (h : Held). h.stop) held) k)
stop_listed sheets held a k = get-listed sheets held (with_facts sheets held held a (found_each held a.each_once)) k
