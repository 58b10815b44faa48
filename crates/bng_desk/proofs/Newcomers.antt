-- The terms of the shards once all entries of a round were handled: those that were there are live in accounting, and of those that began
-- it knows nothing.
use Rattle.std.proofs.Common.{◌≡◌, ◌⊎◌, inl, inr, ℕ, suc, ◌+◌, ◌/◌, ◌<◌, ◌≤◌, Bool, true, false, List, [], ◌∷◌, ◌++◌, Option, None, Some, map, length, get_or, refl, sym, ap, subst, ◌∙◌, arith, length-append}
use Rattle.std.specs.Prelude.{is_some, not, option_and_then}
use Rattle.std.specs.List.{All, AllByRecursion, AllPairs, AllZip, Contains, flat_map, sum_by}
use Rattle.std.proofs.lemmas.Bool.{false≢true}
use Rattle.std.proofs.lemmas.List.{length-map, map-append}
use Rattle.std.proofs.lemmas.List.Elements.{All-map, All-weaker, AllZip-get_or, All-contains_itself, All-from_recursion, Contains-append_left, Contains-append_right, length_all_zip, recursion_from_All}
use Rattle.std.proofs.lemmas.List.Kept.{AllPairs-cons}
use Rattle.std.proofs.lemmas.List.Sums.{count_by-le-length, sum_by-cons}
use Rattle.bng_acct.specs.declared.facts.StatusType.TheVariants.{Start}
use Rattle.bng_acct.specs.declared.held.Held.{Held}
use Rattle.bng_acct.specs.Roster.{of_term, same}
use Rattle.bng_acct.specs.Spool.{is_live, number_of}
use Rattle.bng_acct.proofs.Rosters.{same_is}
use Rattle.bng_base.specs.declared.circuit.TermId.{TermId}
use Rattle.bng_billing.specs.State.{BillingState}
use Rattle.bng_engine.specs.Terms.{Key, keys}
use Rattle.bng_engine.proofs.Everywhere.{all_append, all_weaker}
use Rattle.bng_steps.specs.Lasting.{IsTenureOf, Precedes}
use Rattle.bng_steps.specs.Protocol.{key_in, terms_of}
use Rattle.bng_steps.specs.State.{State}
use Rattle.bng_steps.specs.Tenures.{Tenure}
use Rattle.bng_desk.specs.Accounting.{AreBilled, AreSettling, KnowsBegun, is_unknown}
use Rattle.bng_desk.specs.Model.{keys_in}
use Rattle.bng_desk.specs.Round.{news_in}
use Rattle.bng_desk.specs.Taking.{AreInOrder, Shown, states_of}
use Rattle.bng_desk.proofs.Billed.{AreApart}
use Rattle.bng_desk.proofs.Growing.{Grown, IsLater, keys_are}
use Rattle.bng_desk.proofs.Parts.{pairs_append, pairs_head, pairs_tail}
use Rattle.bng_desk.proofs.Readying.{Shards}

-- Terms that are apart ------------------------------------------------------------------------------------------------------

by_shard : (s t : TermId) → s.session.0 / 1024 < t.session.0 / 1024 → same s t ≡ false
by_shard s t lt = by (same s t) refl
  where
    by : (b : Bool) → same s t ≡ b → b ≡ false
    by true e = absurd (omega (arith, lt, ap (λ (u : TermId). u.session.0 / 1024) (same_is s t e)))
    by false e = refl

by_number : (s t : TermId) → s.serial < t.serial → same s t ≡ false
by_number s t lt = by (same s t) refl
  where
    by : (b : Bool) → same s t ≡ b → b ≡ false
    by true e = absurd (omega (arith, lt, ap (λ (u : TermId). u.serial) (same_is s t e)))
    by false e = refl

mapped_apart : (ts : List Tenure) → AllPairs Precedes ts → AllPairs AreApart (map key_in ts)
mapped_apart [] rising = λ i j d low high. absurd (omega (arith, high))
mapped_apart (t ∷ ts) rising =
    AllPairs-cons AreApart (key_in t) (map key_in ts)
    (All-map (AreApart (key_in t)) key_in ts (All-weaker (Precedes t) (λ (u : Tenure). AreApart (key_in t) (key_in u)) (λ u lt. by_number t.term u.term lt) ts (pairs_head Precedes t ts rising)))
    (mapped_apart ts (pairs_tail Precedes t ts rising))

-- some terms of each shard, by their keys
abbrev pub keys_by : (State → List Tenure) → Shards → List Key
keys_by pick us = flat_map (λ (u : Shown). map key_in (pick u.state.slots)) us

-- their session numbers are those of their shard, and their own numbers rise
pub record HasOwn (pick : State → List Tenure) (u : Shown) : Type 0 where
  pub own : AllByRecursion (λ (t : Tenure). t.term.session.0 / 1024 ≡ u.number) (pick u.state.slots)
  pub rising : AllPairs Precedes (pick u.state.slots)

-- the shards' numbers rise by one from this one on
abbrev pub NumberedFrom : ℕ → Shards → Type 0
NumberedFrom i [] = Unit {0}
NumberedFrom i (u ∷ us) = (u.number ≡ i) × NumberedFrom (i + 1) us

pub numbered_from : (i : ℕ) (us : Shards) → ((k : ℕ) (d : Shown) → k < length us → (get_or us k d).number ≡ i + k) → NumberedFrom i us
numbered_from i [] order = tt
numbered_from i (u ∷ us) order = (omega (arith, order 0 u (omega arith)), numbered_from (i + 1) us (λ k d lt. omega (arith, order (suc k) d (omega (arith, lt)))))

abbrev IsAbove : ℕ → Key → Type 0
IsAbove i k = i < k.term.session.0 / 1024

mapped_all : (P : Key → Type 0) (ts : List Tenure) → AllByRecursion (λ (t : Tenure). P (key_in t)) ts → AllByRecursion P (map key_in ts)
mapped_all P [] all = tt
mapped_all P (t ∷ ts) all = (all.0, mapped_all P ts all.1)

module _ (pick : State → List Tenure) where
  keys_above : (i j : ℕ) (us : Shards) → NumberedFrom i us → AllByRecursion (HasOwn pick) us → j < i → AllByRecursion (IsAbove j) (keys_by pick us)
  keys_above i j [] order own lt = tt
  keys_above i j (u ∷ us) order own lt =
      all_append (IsAbove j) (map key_in (pick u.state.slots)) (keys_by pick us)
      (mapped_all (IsAbove j) (pick u.state.slots) (all_weaker (λ (t : Tenure). t.term.session.0 / 1024 ≡ u.number) (λ (t : Tenure). IsAbove j (key_in t)) (λ t e. omega (arith, lt, e, order.0)) (pick u.state.slots) own.0.own))
      (keys_above (i + 1) j us order.1 own.1 (omega (arith, lt)))

  pub keys_apart : (i : ℕ) (us : Shards) → NumberedFrom i us → AllByRecursion (HasOwn pick) us → AllPairs AreApart (keys_by pick us)
  keys_apart i [] order own = λ a b d low high. absurd (omega (arith, high))
  keys_apart i (u ∷ us) order own =
      let ts = pick u.state.slots in
      let others = keys_above (i + 1) i us order.1 own.1 (omega arith) in
      pairs_append AreApart (map key_in ts) (keys_by pick us) (mapped_apart ts own.0.rising) (keys_apart (i + 1) us order.1 own.1)
      (All-from_recursion (λ (j : Key). All (AreApart j) (keys_by pick us)) (map key_in ts)
      (mapped_all (λ (j : Key). All (AreApart j) (keys_by pick us)) ts
      (all_weaker (λ (t : Tenure). t.term.session.0 / 1024 ≡ u.number) (λ (t : Tenure). All (AreApart (key_in t)) (keys_by pick us))
      (λ t e. All-from_recursion (AreApart (key_in t)) (keys_by pick us)
      (all_weaker (IsAbove i) (AreApart (key_in t)) (λ k above. by_shard t.term k.term (omega (arith, above, e, order.0))) (keys_by pick us) others))
      ts own.0.own)))

-- all terms, and those that began
pub all_keys : (us : Shards) → keys_in us ≡ keys_by (λ (s : State). s.terms) us
all_keys [] = refl
all_keys (u ∷ us) =
    ap (λ (ks : List Key). ks ++ keys_in us) (keys_are u.state.slots.terms) ∙ ap (λ (ks : List Key). map key_in u.state.slots.terms ++ ks) (all_keys us)

pub new_keys : (us : Shards) → map key_in (news_in (states_of us)) ≡ keys_by (λ (s : State). s.news) us
new_keys [] = refl
new_keys (u ∷ us) = map-append key_in u.state.slots.news (news_in (states_of us)) ∙ ap (λ (ks : List Key). map key_in u.state.slots.news ++ ks) (new_keys us)

own_of : (moment : ℕ) (v u : Shown) (ts : List Tenure) → Grown moment v u → All (IsTenureOf u.state.slots.sessions.shard u.state.slots.begun moment) ts → AllByRecursion (λ (t : Tenure). t.term.session.0 / 1024 ≡ u.number) ts
own_of moment v u ts g all =
    recursion_from_All (λ (t : Tenure). t.term.session.0 / 1024 ≡ u.number) ts
    (All-weaker (IsTenureOf u.state.slots.sessions.shard u.state.slots.begun moment) (λ (t : Tenure). t.term.session.0 / 1024 ≡ u.number) (λ t is. is.session ∙ g.shard) ts all)

terms_own : (moment : ℕ) (vs us : Shards) → AllZip (Grown moment) vs us → AllByRecursion (HasOwn (λ (s : State). s.terms)) us
terms_own moment [] [] g = tt
terms_own moment [] (u ∷ us) g = absurd g
terms_own moment (v ∷ vs) [] g = absurd g
terms_own moment (v ∷ vs) (u ∷ us) g = (record { own = own_of moment v u u.state.slots.terms g.0 g.0.tenures.each; rising = g.0.tenures.rising }, terms_own moment vs us g.1)

news_own : (moment : ℕ) (vs us : Shards) → AllZip (Grown moment) vs us → AllByRecursion (HasOwn (λ (s : State). s.news)) us
news_own moment [] [] g = tt
news_own moment [] (u ∷ us) g = absurd g
news_own moment (v ∷ vs) [] g = absurd g
news_own moment (v ∷ vs) (u ∷ us) g = (record { own = own_of moment v u u.state.slots.news g.0 g.0.tenures.each_new; rising = g.0.tenures.rising_new }, news_own moment vs us g.1)

-- What accounting knows -----------------------------------------------------------------------------------------------------

abbrev Lives : BillingState → Key → Type 0
Lives b k = is_live (of_term k.term b.spool.held) ≡ true

abbrev IsUnknown : BillingState → Key → Type 0
IsUnknown b k = is_unknown b k ≡ true

abbrev IsKnown : BillingState → List Key → Key → Type 0
IsKnown b began k = Lives b k ⊎ ((is_unknown b k ≡ true) × Contains began k)

-- accounting knows of no term of a shard with a number that is not yet given
unknown_at : (vs : Shards) (b : BillingState) (k : ℕ) (d : Shown) (t : Tenure) → KnowsBegun vs b → t.term.session.0 / 1024 ≡ k → IsLater (get_or vs k d).state.slots.begun t → IsUnknown b (key_in t)
unknown_at vs b k d t knows at later = by (of_term t.term b.spool.held) refl
  where
    by : (o : Option Held) → of_term t.term b.spool.held ≡ o → IsUnknown b (key_in t)
    by None e = rw e refl
    by (Some h) e =
        let has = knows t.term h e in
        let number : t.term.serial ≤ (get_or vs k d).state.slots.begun = subst (λ (n : ℕ). t.term.serial ≤ (get_or vs n d).state.slots.begun) at (has.number d) in
        absurd (omega (arith, number, later))

new_unknown : (moment : ℕ) (vs us : Shards) (b : BillingState) → AllZip (Grown moment) vs us → AreInOrder vs → KnowsBegun vs b → All (λ (u : Shown). AllByRecursion (λ (t : Tenure). IsUnknown b (key_in t)) u.state.slots.news) us
new_unknown moment vs us b g order knows k d lt =
    let within : k < length vs = omega (arith, lt, length_all_zip (Grown moment) vs us g) in
    let v = get_or vs k d in
    let u = get_or us k d in
    let here = AllZip-get_or (Grown moment) vs us k d d g within in
    let number : u.number ≡ k = here.number ∙ order k d within in
    both u.state.slots.news (own_of moment v u u.state.slots.news here here.tenures.each_new) here.later number
  where
    both : (ts : List Tenure) → AllByRecursion (λ (t : Tenure). t.term.session.0 / 1024 ≡ (get_or us k d).number) ts → AllByRecursion (IsLater (get_or vs k d).state.slots.begun) ts → (get_or us k d).number ≡ k → AllByRecursion (λ (t : Tenure). IsUnknown b (key_in t)) ts
    both [] own later number = tt
    both (t ∷ ts) own later number = (unknown_at vs b k d t knows (own.0 ∙ number) later.0, both ts own.1 later.1 number)

all_left : (P : Key → Type 0) (xs ys : List Key) → AllByRecursion P (xs ++ ys) → AllByRecursion P xs
all_left P [] ys all = tt
all_left P (x ∷ xs) ys all = (all.0, all_left P xs ys all.1)

all_right : (P : Key → Type 0) (xs ys : List Key) → AllByRecursion P (xs ++ ys) → AllByRecursion P ys
all_right P [] ys all = all
all_right P (x ∷ xs) ys all = all_right P xs ys all.1

later_known : (b : BillingState) (first rest : List Key) (k : Key) → IsKnown b rest k → IsKnown b (first ++ rest) k
later_known b first rest k (inl live) = inl live
later_known b first rest k (inr new) = inr (new.0, Contains-append_right first rest k new.1)

module _ (moment : ℕ) (b : BillingState) where
  abbrev began : Shards → List Key
  began us = keys_by (λ (s : State). s.news) us

  all_known : (vs us : Shards) → AllZip (Grown moment) vs us → AllByRecursion (Lives b) (keys_in vs) → AllByRecursion (λ (u : Shown). AllByRecursion (λ (t : Tenure). IsUnknown b (key_in t)) u.state.slots.news) us → AllByRecursion (IsKnown b (began us)) (keys_in us)
  all_known [] [] g live new = tt
  all_known [] (u ∷ us) g live new = absurd g
  all_known (v ∷ vs) [] g live new = absurd g
  all_known (v ∷ vs) (u ∷ us) g live new =
      let olds = keys (terms_of v.state) in
      let news = map key_in u.state.slots.news in
      let there = began (u ∷ us) in
      let unknown = mapped_all (IsUnknown b) u.state.slots.news new.0 in
      let among = recursion_from_All (Contains news) news (All-contains_itself news) in
      let first = all_append (IsKnown b there) olds news (all_weaker (Lives b) (IsKnown b there) (λ k here. inl here) olds (all_left (Lives b) olds (keys_in vs) live)) (those news unknown among) in
      all_append (IsKnown b there) (keys (terms_of u.state)) (keys_in us)
      (subst (λ (ks : List Key). AllByRecursion (IsKnown b there) ks) (sym g.0.keys_grow) first)
      (all_weaker (IsKnown b (began us)) (IsKnown b there) (λ k is. later_known b news (began us) k is) (keys_in us) (all_known vs us g.1 (all_right (Lives b) olds (keys_in vs) live) new.1))
    where
      those : (ks : List Key) → AllByRecursion (IsUnknown b) ks → AllByRecursion (Contains (map key_in u.state.slots.news)) ks → AllByRecursion (IsKnown b (began (u ∷ us))) ks
      those [] unknown among = tt
      those (k ∷ ks) unknown among = (inr (unknown.0, Contains-append_left (map key_in u.state.slots.news) (began us) k among.0), those ks unknown.1 among.1)

  began_unknown : (us : Shards) → AllByRecursion (λ (u : Shown). AllByRecursion (λ (t : Tenure). IsUnknown b (key_in t)) u.state.slots.news) us → AllByRecursion (IsUnknown b) (began us)
  began_unknown [] new = tt
  began_unknown (u ∷ us) new = all_append (IsUnknown b) (map key_in u.state.slots.news) (began us) (mapped_all (IsUnknown b) u.state.slots.news new.0) (began_unknown us new.1)

  began_few : (vs us : Shards) → AllZip (Grown moment) vs us → length (began us) ≤ sum_by (λ (v : Shown). v.allowance) vs
  began_few [] [] g = omega arith
  began_few [] (u ∷ us) g = absurd g
  began_few (v ∷ vs) [] g = absurd g
  began_few (v ∷ vs) (u ∷ us) g =
      omega (
        arith,
        length-append (map key_in u.state.slots.news) (began us),
        length-map u.state.slots.news key_in,
        g.0.few,
        began_few vs us g.1,
        sum_by-cons (λ (x : Shown). x.allowance) v vs,
      )

-- so the terms of the shards are such as a settlement begins with
pub are_settling : (moment : ℕ) (vs us : Shards) (b : BillingState) → AllZip (Grown moment) vs us → AreInOrder vs → AreBilled (keys_in vs) b → KnowsBegun vs b → length b.spool.held + sum_by (λ (v : Shown). v.allowance) vs ≤ b.spool.rules.terms
    → AreSettling (keys_in us) (map key_in (news_in (states_of us))) b
are_settling moment vs us b g order billed knows room =
    let own = recursion_from_All (λ (u : Shown). AllByRecursion (λ (t : Tenure). IsUnknown b (key_in t)) u.state.slots.news) us (new_unknown moment vs us b g order knows) in
    let began_are = began moment b us in
    let from = numbered_from 0 us (λ k d lt. numbers k d lt) in
    let unknown = All-from_recursion (IsUnknown b) began_are (began_unknown moment b us own) in
    let settling : AreSettling (keys_in us) began_are b = record {
      known = All-from_recursion (IsKnown b began_are) (keys_in us) (all_known moment b vs us g (recursion_from_All (Lives b) (keys_in vs) billed.live) own);
      apart = subst (λ (ks : List Key). AllPairs AreApart ks) (sym (all_keys us)) (keys_apart (λ (s : State). s.terms) 0 us from (terms_own moment vs us g));
      unstarted = λ i d lt. ap {B = Option ℕ} opens (unknown_none (get_or began_are i d) (unknown i d lt));
      apart_began = keys_apart (λ (s : State). s.news) 0 us from (news_own moment vs us g);
      room = omega (arith, room, began_few moment b vs us g, count_by-le-length (is_unknown b) began_are);
    } in
    subst (λ (ks : List Key). AreSettling (keys_in us) ks b) (sym (new_keys us)) settling
  where
    opens : Option Held → Option ℕ
    opens o = option_and_then (number_of Start) o

    unknown_none : (k : Key) → IsUnknown b k → of_term k.term b.spool.held ≡ None
    unknown_none k is = by (of_term k.term b.spool.held) is
      where
        by : (o : Option Held) → not (is_some o) ≡ true → o ≡ None
        by None e = refl
        by (Some h) e = absurd (false≢true e)

    numbers : (k : ℕ) (d : Shown) → k < length us → (get_or us k d).number ≡ 0 + k
    numbers k d lt =
        let within : k < length vs = omega (arith, lt, length_all_zip (Grown moment) vs us g) in
        omega (arith, (AllZip-get_or (Grown moment) vs us k d d g within).number, order k d within)
