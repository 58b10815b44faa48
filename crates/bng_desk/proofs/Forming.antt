-- In a settlement a record of one of its terms is formed: what accounting keeps of the others is as it was.
use Rattle.std.proofs.Common.{◌≡◌, ◌⊎◌, ⊎_elim, inl, inr, ℕ, zero, suc, ◌+◌, ◌<◌, ◌≤◌, Bool, true, false, not, List, [], ◌∷◌, ◌++◌, Option, Some, None, is_some, length, take, drop, get_or, refl, sym, ap, subst, ◌∙◌, arith}
use Rattle.std.specs.Prelude.{option_and_then, count_by, sum_by}
use Rattle.std.specs.List.{All, AllPairs, Contains}
use Rattle.std.proofs.lemmas.Bool.{cases_Bool}
use Rattle.std.proofs.lemmas.List.Elements.{All-cons, All-head, All-nil, All-tail}
use Rattle.std.proofs.lemmas.List.Sums.{sum_by-append, sum_by-cons, sum_by-le-sum_by}
use Rattle.bng_acct.specs.declared.facts.Moment.{Moment}
use Rattle.bng_acct.specs.declared.facts.StatusType.{StatusType}
use Rattle.bng_acct.specs.declared.facts.StatusType.TheVariants.{Start, Stop as OfStop}
use Rattle.bng_acct.specs.declared.facts.TermFacts.{TermFacts}
use Rattle.bng_acct.specs.declared.held.Held.{Held}
use Rattle.bng_acct.specs.declared.sheet.Sheet.{Sheet}
use Rattle.bng_acct.specs.Roster.{of_term, same, weight}
use Rattle.bng_acct.specs.Spool.{Agree, IsAdmitted, ended_by, is_live, number_of, open_of, or_unknown, with_number}
use Rattle.bng_acct.proofs.Marks.{formed, term-formed}
use Rattle.bng_acct.proofs.Rosters.{is_same, same_is}
use Rattle.bng_base.specs.declared.circuit.TermId.{TermId}
use Rattle.bng_billing.specs.Records.{IsFormedBy}
use Rattle.bng_billing.specs.State.{BillingState}
use Rattle.bng_engine.specs.Lists.{one_if}
use Rattle.bng_engine.specs.Terms.{Key}
use Rattle.bng_desk.specs.Accounting.{AreBilled, AreSettling, is_unknown}
use Rattle.bng_desk.proofs.Billed.{AreApart, apart_back, formed_others}
use Rattle.bng_desk.proofs.Parts.{StandsAt, all_left, all_without, pairs_head, pairs_left, pairs_tail, pairs_without, stands_at}

-- What is held of one term ------------------------------------------------------------------------------------------------

live_weight : (o : Option Held) → is_live o ≡ true → weight (λ _. 1) o ≡ 1
live_weight None e = absurd cc
live_weight (Some h) e = refl

live_some : (o : Option Held) → is_live o ≡ true → is_some o ≡ true
live_some None e = absurd cc
live_some (Some h) e = refl

unknown_none : (o : Option Held) → not (is_some o) ≡ true → o ≡ None
unknown_none None e = refl
unknown_none (Some h) e = absurd cc

-- a term of which nothing is held counts as unknown, and any other in what is held
one_or_other : (o : Option Held) → weight (λ _. 1) o + one_if (not (is_some o)) ≡ 1
one_or_other None = omega arith
one_or_other (Some h) = omega arith

-- a Stop takes no Start away
start_stays : (t : TermId) (n : ℕ) (o : Option Held) → number_of Start (with_number OfStop (Some n) (ended_by OfStop (or_unknown t o))) ≡ option_and_then (number_of Start) o
start_stays t n None = refl
start_stays t n (Some h) = refl

-- with its Start a term is live, if it was or nothing was held of it
started_lives : (t : TermId) (n : ℕ) (o : Option Held) → (is_live o ≡ true) ⊎ (not (is_some o) ≡ true) → is_live (Some (with_number Start (Some n) (ended_by Start (or_unknown t o)))) ≡ true
started_lives t n None e = refl
started_lives t n (Some h) e = ⊎_elim (λ (live : h.live ≡ true). live) (λ (no : false ≡ true). absurd cc) e

-- One of some keys ----------------------------------------------------------------------------------------------------------

module _ (j k : Key) (other : j ≡ k → ⊥) where
  later : (x : Key) (xs : List Key) → Contains xs j → Contains (x ∷ xs) j
  later x xs (i, lt, e) = (suc i, omega (arith, lt), e)

  pub contains_without : (front back : List Key) → Contains (front ++ k ∷ back) j → Contains (front ++ back) j
  contains_without [] back (zero, lt, e) = absurd (other (sym e))
  contains_without [] back (suc i, lt, e) = (i, omega (arith, lt), e)
  contains_without (x ∷ front) back (zero, lt, e) = (zero, omega arith, e)
  contains_without (x ∷ front) back (suc i, lt, e) = later x (front ++ back) (contains_without front back (i, omega (arith, lt), e))

abbrev unknown_of : BillingState → List Key → ℕ
unknown_of b ks = count_by (is_unknown b) ks

split_count : (b : BillingState) (front back : List Key) (k : Key) → unknown_of b (front ++ k ∷ back) ≡ unknown_of b front + (one_if (is_unknown b k) + unknown_of b back)
split_count b front back k =
    let f = λ (x : Key). one_if (is_unknown b x) in
    omega (arith, sum_by-append f front (k ∷ back), sum_by-cons f k back)

-- one of which nothing is known is counted
counted_one : (b : BillingState) (ks : List Key) (k : Key) → Contains ks k → is_unknown b k ≡ true → 1 ≤ unknown_of b ks
counted_one b ks k (i, lt, e) unknown =
    let at : StandsAt ks i k = subst (λ (x : Key). StandsAt ks i x) e (stands_at ks i k lt) in
    omega (arith, ap (unknown_of b) at.whole, split_count b (take i ks) (drop (i + 1) ks) k, ap one_if unknown)

-- A record is formed of a term ------------------------------------------------------------------------------------------------

ones : (hs : List Held) → sum_by (λ _. 1) hs ≡ length hs
ones [] = refl
ones (h ∷ hs) = omega (arith, sum_by-cons (λ (_ : Held). 1) h hs, ones hs)

module _ (b b' : BillingState) (status : StatusType) (facts : TermFacts) (at : Moment) (n : ℕ) (f : IsFormedBy b status facts at n b') (k : Key) (term : facts.term ≡ k.term) where
  here_term : (formed status n facts.term b.spool.held).term ≡ k.term
  here_term = term-formed status n facts.term b.spool.held ∙ term

  is_there : (t : TermId) → same k.term t ≡ true → of_term t b'.spool.held ≡ Some (with_number status (Some n) (ended_by status (or_unknown k.term (of_term t b.spool.held))))
  is_there t is =
      let h = formed status n facts.term b.spool.held in
      let e : same h.term t ≡ true = ap (λ (u : TermId). same u t) here_term ∙ is in
      let found : of_term t b'.spool.held ≡ Some h = f.formed.holds.finds t ∙ rw e refl in
      found ∙ ap (λ (u : TermId). Some (formed status n u b.spool.held)) term ∙ ap (λ (u : TermId). Some (with_number status (Some n) (ended_by status (or_unknown k.term (of_term u b.spool.held))))) (same_is k.term t is)

  stays : (t : TermId) → same k.term t ≡ false → of_term t b'.spool.held ≡ of_term t b.spool.held
  stays t apart = formed_others b b' status facts at n f t (ap (λ (u : TermId). same u t) term ∙ apart)

  one_more : length b'.spool.held + weight (λ _. 1) (of_term k.term b.spool.held) ≡ length b.spool.held + 1
  one_more =
      let before : weight (λ _. 1) (of_term (formed status n facts.term b.spool.held).term b.spool.held) ≡ weight (λ _. 1) (of_term k.term b.spool.held) = ap (λ (t : TermId). weight (λ _. 1) (of_term t b.spool.held)) here_term in
      omega (arith, f.formed.holds.sums (λ _. 1), before, ones b'.spool.held, ones b.spool.held)

  -- something is known of it from then on
  known_now : (j : Key) → same k.term j.term ≡ true → is_unknown b' j ≡ false
  known_now j is = ap (λ (o : Option Held). not (is_some o)) (is_there j.term is)

  fewer_at : (j : Key) → one_if (is_unknown b' j) ≤ one_if (is_unknown b j)
  fewer_at j = elim (cases_Bool (same k.term j.term)) [
    | inl is ↦ omega (arith, ap one_if (known_now j is))
    | inr apart ↦ omega (arith, ap (λ (o : Option Held). one_if (not (is_some o))) (stays j.term apart))
  ]

  fewer : (ks : List Key) → unknown_of b' ks ≤ unknown_of b ks
  fewer ks = sum_by-le-sum_by (λ (j : Key). one_if (is_unknown b' j)) (λ (j : Key). one_if (is_unknown b j)) ks fewer_at

  one_fewer : (ks : List Key) → Contains ks k → is_unknown b k ≡ true → unknown_of b' ks + 1 ≤ unknown_of b ks
  one_fewer ks (i, lt, e) unknown =
      let there : StandsAt ks i k = subst (λ (x : Key). StandsAt ks i x) e (stands_at ks i k lt) in
      let xs = take i ks in
      let ys = drop (i + 1) ks in
      omega (arith, ap (unknown_of b) there.whole, ap (unknown_of b') there.whole, split_count b xs ys k, split_count b' xs ys k, ap one_if unknown, ap one_if (known_now k (is_same k.term)), fewer xs, fewer ys)

-- Those of a settlement -------------------------------------------------------------------------------------------------------

-- what accounting keeps of a term that is there
abbrev pub IsKnown : List Key → BillingState → Key → Type 0
IsKnown began b k = (is_live (of_term k.term b.spool.held) ≡ true) ⊎ ((is_unknown b k ≡ true) × Contains began k)

abbrev HasNoStart : BillingState → Key → Type 0
HasNoStart b k = open_of k.term Start b.spool.held ≡ None

-- one of those that are there
there : (P : Key → Type 0) (front back : List Key) (k : Key) → All P (front ++ k ∷ back) → P k
there P [] back k all = All-head P k back all
there P (x ∷ front) back k all = there P front back k (All-tail P x (front ++ k ∷ back) all)

-- it is apart from the others
pub one_apart : (front back : List Key) (k : Key) → AllPairs AreApart (front ++ k ∷ back) → All (AreApart k) (front ++ back)
one_apart [] back k pairs = pairs_head AreApart k back pairs
one_apart (j ∷ front) back k pairs =
    All-cons (AreApart k) j (front ++ back) (apart_back j.term k.term (there (AreApart j) front back k (pairs_head AreApart j (front ++ k ∷ back) pairs))) (one_apart front back k (pairs_tail AreApart j (front ++ k ∷ back) pairs))

-- there is room for one more
room_for : (terms began : List Key) (b : BillingState) (k : Key) → AreSettling terms began b → is_unknown b k ≡ true → Contains began k → length b.spool.held < b.spool.rules.terms
room_for terms began b k s unknown among = omega (arith, s.room, counted_one b began k among unknown)

admitted_by : (terms began : List Key) (b : BillingState) (k : Key) → AreSettling terms began b → IsKnown began b k → IsAdmitted b.spool k.term
admitted_by terms began b k s known =
    ⊎_elim (λ (live : is_live (of_term k.term b.spool.held) ≡ true). inl (live_some (of_term k.term b.spool.held) live))
    (λ (new : (is_unknown b k ≡ true) × Contains began k). inr (room_for terms began b k s new.0 new.1)) known

-- of one that is there a Stop may be formed
pub stop_admitted : (front back began : List Key) (b : BillingState) (k : Key) → AreSettling (front ++ k ∷ back) began b → IsAdmitted b.spool k.term
stop_admitted front back began b k s = admitted_by (front ++ k ∷ back) began b k s (there (IsKnown began b) front back k s.known)

no_stop : (sheets : List (Option Sheet)) (held : List Held) (t : TermId) (o : Option Held) → Agree sheets held → of_term t held ≡ o → (is_live o ≡ true) ⊎ (not (is_some o) ≡ true) → option_and_then (number_of OfStop) o ≡ None
no_stop sheets held t None agree is known = refl
no_stop sheets held t (Some h) agree is known = ⊎_elim (λ (live : h.live ≡ true). agree.stopped t h is live) (λ (no : false ≡ true). absurd cc) known

-- known as live, or not at all
as_known : (began : List Key) (b : BillingState) (k : Key) → IsKnown began b k → (is_live (of_term k.term b.spool.held) ≡ true) ⊎ (not (is_some (of_term k.term b.spool.held)) ≡ true)
as_known began b k known = ⊎_elim (λ (live : is_live (of_term k.term b.spool.held) ≡ true). inl live) (λ (new : (is_unknown b k ≡ true) × Contains began k). inr new.0) known

-- and none of it is open
pub stop_once : (front back began : List Key) (b : BillingState) (k : Key) → Agree b.spool.sheets b.spool.held → AreSettling (front ++ k ∷ back) began b → open_of k.term OfStop b.spool.held ≡ None
stop_once front back began b k agree s =
    no_stop b.spool.sheets b.spool.held k.term (of_term k.term b.spool.held) agree refl (as_known began b k (there (IsKnown began b) front back k s.known))

-- a term has left by its Stop
pub settling_stopped : (front back began : List Key) (k : Key) (facts : TermFacts) (at : Moment) (n : ℕ) (b b' : BillingState) → IsFormedBy b OfStop facts at n b' → facts.term ≡ k.term → AreSettling (front ++ k ∷ back) began b → AreSettling (front ++ back) began b'
settling_stopped front back began k facts at n b b' f term s =
    let keys = front ++ back in
    let others = one_apart front back k s.apart in
    let before = all_without (IsKnown began b) front back k s.known in
    let more = one_more b b' OfStop facts at n f k term in
    let o = of_term k.term b.spool.held in
    record {
      known = λ i d lt.
          let j = get_or keys i d in
          subst (λ (x : Option Held). (is_live x ≡ true) ⊎ ((not (is_some x) ≡ true) × Contains began j)) (sym (stays b b' OfStop facts at n f k term j.term (others i d lt))) (before i d lt);
      apart = pairs_without AreApart front back k s.apart;
      unstarted = λ i d lt. no_start (get_or began i d) (s.unstarted i d lt);
      apart_began = s.apart_began;
      room = omega (arith, ap (λ (r : _). r.terms) f.formed.rules, by_known (there (IsKnown began b) front back k s.known));
    }
  where
    no_start : (j : Key) → HasNoStart b j → HasNoStart b' j
    no_start j none = elim (cases_Bool (same k.term j.term)) [
      | inl is ↦ ap (option_and_then (number_of Start)) (is_there b b' OfStop facts at n f k term j.term is) ∙ start_stays k.term n (of_term j.term b.spool.held) ∙ none
      | inr apart ↦ ap (option_and_then (number_of Start)) (stays b b' OfStop facts at n f k term j.term apart) ∙ none
    ]

    by_known : IsKnown began b k → length b'.spool.held + unknown_of b' began ≤ b.spool.rules.terms
    by_known known = ⊎_elim
        (λ (live : is_live (of_term k.term b.spool.held) ≡ true). omega (arith, s.room, one_more b b' OfStop facts at n f k term, live_weight (of_term k.term b.spool.held) live, fewer b b' OfStop facts at n f k term began))
        (λ (new : (is_unknown b k ≡ true) × Contains began k).
        omega (arith, s.room, one_more b b' OfStop facts at n f k term, one_fewer b b' OfStop facts at n f k term began new.1 new.0))
        known

-- One of those that began -----------------------------------------------------------------------------------------------------

-- of the first that began a Start may be formed
pub start_admitted : (terms front back : List Key) (b : BillingState) (k : Key) → AreSettling terms (front ++ k ∷ back) b → IsAdmitted b.spool k.term
start_admitted terms front back b k s = by (of_term k.term b.spool.held) refl
  where
    by : (o : Option Held) → of_term k.term b.spool.held ≡ o → IsAdmitted b.spool k.term
    by (Some h) is = inl (ap is_some is)
    by None is = inr (omega (arith, s.room, split_count b front back k, ap (λ (o : Option Held). one_if (not (is_some o))) is))

pub start_once : (terms front back : List Key) (b : BillingState) (k : Key) → AreSettling terms (front ++ k ∷ back) b → open_of k.term Start b.spool.held ≡ None
start_once terms front back b k s = there (HasNoStart b) front back k s.unstarted

not_both : (x : Bool) → x ≡ true → x ≡ false → ⊥
not_both x is isnt = cc

-- its Start was formed
pub settling_started : (terms front back : List Key) (k : Key) (facts : TermFacts) (at : Moment) (n : ℕ) (b b' : BillingState) → IsFormedBy b Start facts at n b' → facts.term ≡ k.term → AreSettling terms (front ++ k ∷ back) b → AreSettling terms (front ++ back) b'
settling_started terms front back k facts at n b b' f term s =
    let keys = front ++ back in
    let others = one_apart front back k s.apart_began in
    let before = all_without (HasNoStart b) front back k s.unstarted in
    record {
      known = λ i d lt. still (get_or terms i d) (s.known i d lt);
      apart = s.apart;
      unstarted = λ i d lt. ap (option_and_then (number_of Start)) (stays b b' Start facts at n f k term (get_or keys i d).term (others i d lt)) ∙ before i d lt;
      apart_began = pairs_without AreApart front back k s.apart_began;
      room = omega (
        arith,
        s.room,
        ap (λ (r : _). r.terms) f.formed.rules,
        split_count b front back k,
        sum_by-append (λ (j : Key). one_if (is_unknown b j)) front back,
        fewer b b' Start facts at n f k term keys,
        one_more b b' Start facts at n f k term,
        one_or_other (of_term k.term b.spool.held),
      );
    }
  where
    still : (j : Key) → IsKnown (front ++ k ∷ back) b j → IsKnown (front ++ back) b' j
    still j known = elim (cases_Bool (same k.term j.term)) [
      | inl is ↦ inl (ap is_live (is_there b b' Start facts at n f k term j.term is) ∙ started_lives k.term n (of_term j.term b.spool.held) (as_known (front ++ k ∷ back) b j known))
      | inr apart ↦
          let other = λ (e : j ≡ k). let no : ⊥ = not_both (same k.term j.term) (ap (λ (x : Key). same k.term x.term) e ∙ is_same k.term) apart in no in
          let same_held = sym (stays b b' Start facts at n f k term j.term apart) in
          ⊎_elim (λ (live : is_live (of_term j.term b.spool.held) ≡ true). inl (subst (λ (x : Option Held). is_live x ≡ true) same_held live))
          (λ (new : (is_unknown b j ≡ true) × Contains (front ++ k ∷ back) j). inr (subst (λ (x : Option Held). not (is_some x) ≡ true) same_held new.0, contains_without j k other front back new.1)) known
    ]

-- some of those that began, with no term
pub settling_part : (terms here back : List Key) (b : BillingState) → AreSettling terms (here ++ back) b → AreSettling [] here b
settling_part terms here back b s = record {
  known = All-nil (IsKnown here b);
  apart = pairs_left AreApart [] terms s.apart;
  unstarted = all_left (HasNoStart b) here back s.unstarted;
  apart_began = pairs_left AreApart here back s.apart_began;
  room = omega (arith, s.room, sum_by-append (λ (k : Key). one_if (is_unknown b k)) here back);
}

-- once each Start was formed, all that are there are live
pub all_billed : (terms : List Key) (b : BillingState) → AreSettling terms [] b → AreBilled terms b
all_billed terms b s = record { live = λ i d lt. ⊎_elim (λ (live : is_live (of_term (get_or terms i d).term b.spool.held) ≡ true). live) (λ (new : (is_unknown b (get_or terms i d) ≡ true) × Contains [] (get_or terms i d)). none (get_or terms i d) new.1) (s.known i d lt); apart = s.apart }
  where
    none : {A : Type 0} (k : Key) → Contains [] k → A
    none k (i, lt, e) = absurd (omega (arith, lt))
