-- Terms that begin in accounting at the opening.
use Rattle.std.proofs.Common.{◌≡◌, ◌⊎◌, ⊎_elim, inl, inr, ℕ, ◌+◌, ◌≤◌, true, false, List, [], ◌∷◌, ◌++◌, Option, None, Some, length, take, drop, get_or, refl, sym, ap, subst, ◌∙◌, arith}
use Rattle.std.specs.Prelude.{sum_by}
use Rattle.std.specs.List.{All, AllPairs, AllZip}
use Rattle.std.proofs.lemmas.Bool.{cases_Bool}
use Rattle.std.proofs.lemmas.List.{length-append}
use Rattle.std.proofs.lemmas.List.Elements.{All-nil, All-cons, All-head, All-tail}
use Rattle.std.proofs.lemmas.List.Sums.{sum_by-cons}
use Rattle.bng_acct.specs.declared.facts.Moment.{Moment}
use Rattle.bng_acct.specs.declared.facts.StatusType.TheVariants.{Start}
use Rattle.bng_acct.specs.declared.facts.TermFacts.{TermFacts}
use Rattle.bng_acct.specs.declared.held.Held.{Held}
use Rattle.bng_acct.specs.Roster.{of_term, same, weight}
use Rattle.bng_acct.specs.Spool.{ended_by, is_live, or_unknown, with_number}
use Rattle.bng_acct.proofs.Marks.{formed, term-formed}
use Rattle.bng_acct.proofs.Rosters.{is_same, same_is}
use Rattle.bng_base.specs.declared.circuit.TermId.{TermId}
use Rattle.bng_billing.specs.declared.rules.BillingRules.{BillingRules}
use Rattle.bng_billing.specs.Records.{IsFormedBy}
use Rattle.bng_billing.specs.State.{BillingState, IsNewBilling}
use Rattle.bng_engine.specs.Lists.{AnyOf}
use Rattle.bng_engine.specs.Terms.{Key}
use Rattle.bng_steps.specs.Tenures.{Tenure}
use Rattle.bng_desk.specs.Accounting.{AreBilled, FormedRecord, Forms, IsStartOf}
use Rattle.bng_desk.specs.Taking.{Accounts, BooksStarts}
use Rattle.bng_desk.proofs.Billed.{AreApart, apart_back, formed_others}
use Rattle.bng_desk.proofs.Parts.{StandsAt, all_left, all_right, pairs_across, pairs_head, pairs_left, pairs_right, pairs_tail}

-- nothing is held of the term
abbrev pub IsNew : List Held → Key → Type 0
IsNew held k = of_term k.term held ≡ None

abbrev Lives : List Held → Key → Type 0
Lives held k = is_live (of_term k.term held) ≡ true

-- terms may begin: there is room for them, nothing is held of them, and no two are one
pub record MayBegin (keys : List Key) (b : BillingState) : Type 0 where
  pub room : length b.spool.held + length keys ≤ b.spool.rules.terms
  pub new : All (IsNew b.spool.held) keys
  pub apart : AllPairs AreApart keys

-- these terms are live, and of each other is held what was
pub record Begun (keys : List Key) (b b' : BillingState) : Type 0 where
  pub live : All (Lives b'.spool.held) keys
  pub others : (u : TermId) → All (λ (k : Key). same k.term u ≡ false) keys → of_term u b'.spool.held ≡ of_term u b.spool.held
  pub count : length b'.spool.held ≡ length b.spool.held + length keys
  pub rules : b'.spool.rules ≡ b.spool.rules

none_begun : (b : BillingState) → Begun [] b b
none_begun b = record { live = All-nil (Lives b.spool.held); others = λ u all. refl; count = omega arith; rules = refl }

ones : (hs : List Held) → sum_by (λ _. 1) hs ≡ length hs
ones [] = refl
ones (h ∷ hs) = omega (arith, sum_by-cons (λ (_ : Held). 1) h hs, ones hs)

-- a term begins
module _ (b m : BillingState) (k : Key) (facts : TermFacts) (at : Moment) (n : ℕ) (f : IsFormedBy b Start facts at n m) (term : facts.term ≡ k.term) (new : IsNew b.spool.held k) where
  abbrev here : Held
  here = formed Start n facts.term b.spool.held

  here_term : here.term ≡ k.term
  here_term = term-formed Start n facts.term b.spool.held ∙ term

  nothing : of_term facts.term b.spool.held ≡ None
  nothing = ap (λ (t : TermId). of_term t b.spool.held) term ∙ new

  is_there : of_term k.term m.spool.held ≡ Some here
  is_there = let e : same here.term k.term ≡ true = ap (λ (t : TermId). same t k.term) here_term ∙ is_same k.term in f.formed.holds.finds k.term ∙ rw e refl

  lives : Lives m.spool.held k
  lives = ap is_live is_there ∙ ap (λ (o : Option Held). let h : Held = with_number Start (Some n) (ended_by Start (or_unknown facts.term o)) in h.live) nothing

  one_more : length m.spool.held ≡ length b.spool.held + 1
  one_more =
      let before : weight (λ _. 1) (of_term here.term b.spool.held) ≡ 0 = ap (λ (t : TermId). weight (λ _. 1) (of_term t b.spool.held)) here_term ∙ ap (weight (λ _. 1)) new in
      omega (arith, f.formed.holds.sums (λ _. 1), before, ones m.spool.held, ones b.spool.held)

  others : (u : TermId) → same k.term u ≡ false → of_term u m.spool.held ≡ of_term u b.spool.held
  others u apart = formed_others b m Start facts at n f u (ap (λ (t : TermId). same t u) term ∙ apart)

-- Starts were formed
pub begun : (terms : List Tenure) (moment wall : ℕ) (keys : List Key) (fs : List FormedRecord) (b b' : BillingState) → Forms b fs b' → AllZip (IsStartOf terms moment wall) keys fs → AllPairs AreApart keys → All (IsNew b.spool.held) keys → Begun keys b b'
begun terms moment wall [] [] b b' forms starts apart new = subst (λ (c : BillingState). Begun [] b c) (sym forms) (none_begun b)
begun terms moment wall [] (f ∷ fs) b b' forms starts apart new = absurd starts
begun terms moment wall (k ∷ ks) [] b b' forms starts apart new = absurd starts
begun terms moment wall (k ∷ ks) (f ∷ fs) b b' (m, one, rest) starts apart new =
    let first : IsFormedBy b Start f.facts f.moment f.number m = subst (λ s. IsFormedBy b s f.facts f.moment f.number m) starts.0.status one in
    let term : f.facts.term ≡ k.term = starts.0.facts.term in
    let fresh : IsNew b.spool.held k = All-head (IsNew b.spool.held) k ks new in
    let away : All (AreApart k) ks = pairs_head AreApart k ks apart in
    let stay = others b m k f.facts f.moment f.number first term fresh in
    let more = begun terms moment wall ks fs m b' rest starts.1 (pairs_tail AreApart k ks apart) (λ i d lt. stay (get_or ks i d).term (away i d lt) ∙ All-tail (IsNew b.spool.held) k ks new i d lt) in
    let still = more.others k.term (λ i d lt. apart_back k.term (get_or ks i d).term (away i d lt)) in
    record {
      live = All-cons (Lives b'.spool.held) k ks (ap is_live still ∙ lives b m k f.facts f.moment f.number first term fresh) more.live;
      others = λ u all. more.others u (All-tail (λ (j : Key). same j.term u ≡ false) k ks all) ∙ stay u (All-head (λ (j : Key). same j.term u ≡ false) k ks all);
      count = omega (arith, more.count, one_more b m k f.facts f.moment f.number first term fresh);
      rules = more.rules ∙ first.formed.rules;
    }

-- Some have begun, and more may -------------------------------------------------------------------------------------------

module _ (terms : List Tenure) (moment wall : ℕ) where
  pub may_begin : (done here rest : List Key) (a b : Accounts) → MayBegin (done ++ (here ++ rest)) a.billing → BooksStarts terms moment wall done a b → MayBegin here b.billing
  may_begin done here rest a b may booked =
      let all = begun terms moment wall done booked.formed a.billing b.billing booked.forms booked.are_starts (pairs_left AreApart done (here ++ rest) may.apart) (all_left (IsNew a.billing.spool.held) done (here ++ rest) may.new) in
      let fresh = all_left (IsNew a.billing.spool.held) here rest (all_right (IsNew a.billing.spool.held) done (here ++ rest) may.new) in
      let away = all_left (λ (k : Key). All (λ (j : Key). AreApart j k) done) here rest (pairs_across AreApart done (here ++ rest) may.apart) in
      record {
        room = omega (arith, may.room, all.count, ap (λ r. r.terms) all.rules, length-append done (here ++ rest), length-append here rest);
        new = λ i d lt. all.others (get_or here i d).term (away i d lt) ∙ fresh i d lt;
        apart = pairs_left AreApart here rest (pairs_right AreApart done (here ++ rest) may.apart);
      }

  -- all have begun
  pub all_begun : (keys : List Key) (a b : Accounts) → MayBegin keys a.billing → BooksStarts terms moment wall keys a b → Begun keys a.billing b.billing
  all_begun keys a b may booked = begun terms moment wall keys booked.formed a.billing b.billing booked.forms booked.are_starts may.apart may.new

  pub all_billed : (keys : List Key) (a b : Accounts) → MayBegin keys a.billing → BooksStarts terms moment wall keys a b → AreBilled keys b.billing
  all_billed keys a b may booked = record { live = (all_begun keys a b may booked).live; apart = may.apart }

  -- the next may begin
  pub next_may : (i : ℕ) (keys : List Key) (k : Key) (a b : Accounts) → StandsAt keys i k → MayBegin keys a.billing → BooksStarts terms moment wall (take i keys) a b → MayBegin (k ∷ []) b.billing
  next_may i keys k a b at may booked = may_begin (take i keys) (k ∷ []) (drop (i + 1) keys) a b (subst (λ (ks : List Key). MayBegin ks a.billing) at.whole may) booked

-- What is known -------------------------------------------------------------------------------------------------------------

-- the term of a key
abbrev pub IsTermOf : TermId → Key → Type 0
IsTermOf t k = k.term ≡ t

-- a term is that of one of these keys, or apart from all of them
one_of : (t : TermId) (ks : List Key) → AnyOf (IsTermOf t) ks ⊎ All (λ (k : Key). same k.term t ≡ false) ks
one_of t [] = inr (All-nil (λ (k : Key). same k.term t ≡ false))
one_of t (k ∷ ks) = elim (cases_Bool (same k.term t)) [
  | inl is ↦ inl (inl (same_is k.term t is))
  | inr apart ↦ ⊎_elim (λ (there : AnyOf (IsTermOf t) ks). inl (inr there)) (λ (none : All (λ (j : Key). same j.term t ≡ false) ks). inr (All-cons (λ (j : Key). same j.term t ≡ false) k ks apart none)) (one_of t ks)
]

none_some : (h : Held) → None ≡ Some h → ⊥
none_some h e = cc

-- where nothing was known, nothing is known of others than those that have begun
pub known_begun : (keys : List Key) (b b' : BillingState) → Begun keys b b' → ((t : TermId) → of_term t b.spool.held ≡ None) → (t : TermId) (h : Held) → of_term t b'.spool.held ≡ Some h → AnyOf (IsTermOf t) keys
known_begun keys b b' all none t h found =
    ⊎_elim (λ (there : AnyOf (IsTermOf t) keys). there)
    (λ (apart : All (λ (k : Key). same k.term t ≡ false) keys). absurd (none_some h (sym (none t) ∙ (sym (all.others t apart) ∙ found))))
    (one_of t keys)

-- all may begin where nothing is held
pub all_may : (rules : BillingRules) (keys : List Key) (b : BillingState) → IsNewBilling rules b → length keys ≤ rules.acct.terms → AllPairs AreApart keys → MayBegin keys b
all_may rules keys b new few apart = record {
  room = omega (arith, few, new.spool.terms, ap (λ (hs : List Held). length hs) new.spool.none_held);
  new = λ i d lt. ap (λ (hs : List Held). of_term (get_or keys i d).term hs) new.spool.none_held;
  apart = apart;
}
