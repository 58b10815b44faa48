-- The Interims that a settlement forms, one term after the other, and one shard after the other.
use Rattle.std.proofs.Common.{◌≡◌, ◌⊎◌, ⊎_elim, inl, inr, ℕ, zero, suc, ◌+◌, ◌<◌, ◌≤◌, true, List, [], ◌∷◌, ◌++◌, Option, None, Some, IsSome, is_some, length, take, drop, get_or, set, slice_get, refl, sym, ap, subst, ◌∙◌, append_assoc, append-nil, length-set, arith}
use Rattle.std.specs.List.{All, AllByRecursion, AllZip}
use Rattle.std.proofs.lemmas.Bool.{cases_Bool}
use Rattle.std.proofs.lemmas.List.{drop-drop, drop-set-lt, take_all, take_more, take_more_set}
use Rattle.bng_acct.specs.declared.facts.Moment.{Moment}
use Rattle.bng_acct.specs.declared.facts.StatusType.TheVariants.{Interim}
use Rattle.bng_acct.specs.declared.facts.TermFacts.{TermFacts}
use Rattle.bng_acct.specs.declared.held.Held.{Held}
use Rattle.bng_acct.specs.Roster.{of_term, same}
use Rattle.bng_acct.specs.Spool.{ended_by, is_live, or_unknown, with_number}
use Rattle.bng_acct.proofs.Marks.{formed, term-formed}
use Rattle.bng_acct.proofs.Rosters.{same_is}
use Rattle.bng_base.specs.declared.circuit.TermId.{TermId}
use Rattle.bng_billing.specs.Records.{IsFormedBy}
use Rattle.bng_billing.specs.State.{BillingState}
use Rattle.bng_engine.specs.Lists.{AnyOf, Zip3}
use Rattle.bng_engine.specs.Terms.{Key}
use Rattle.bng_engine.specs.Views.{Row}
use Rattle.bng_engine.proofs.Walks.{same_at}
use Rattle.bng_steps.specs.Interims.{Reports, owed, with_report}
use Rattle.bng_steps.specs.Protocol.{SaysOf}
use Rattle.bng_steps.specs.Tenures.{Tenure}
use Rattle.bng_desk.specs.Accounting.{FormedRecord}
use Rattle.bng_desk.specs.Interims.{AreAwaited, AreWaiting, AwaitsAt, WaitsAt, FormsInterim, FormsInterims, TakesInterims, last_after, owed_by}
use Rattle.bng_desk.specs.Model.{keys_in}
use Rattle.bng_desk.specs.Round.{terms_in}
use Rattle.bng_desk.specs.Taking.{KeepsHeld, ReportsShard, Shown, states_of}
use Rattle.bng_desk.proofs.Billed.{formed_others}
use Rattle.bng_desk.proofs.Booking.{AreAmong, facts_wider}
use Rattle.bng_desk.proofs.Parts.{all_left, all_right}
use Rattle.bng_desk.proofs.Readying.{Shards}
use Rattle.bng_desk.proofs.ShardKeys.{keys_of, keys_split, shard_at, tenures_among}
use Rattle.bng_desk.proofs.TermsLeft.{keys_there}
use Rattle.bng_desk.proofs.Zips.{zip3_length, zip3_push, zip_at, zip_push}

-- What is held --------------------------------------------------------------------------------------------------------------

pub held_none : (b : BillingState) → KeepsHeld b b
held_none b = record { live = λ t e. e; known = λ t h e. ap is_some e }

some_of : (o : Option Held) → IsSome o → (h : Held) × (o ≡ Some h)
some_of None e = absurd cc
some_of (Some h) e = (h, refl)

pub held_more : (a b c : BillingState) → KeepsHeld a b → KeepsHeld b c → KeepsHeld a c
held_more a b c x y = record {
  live = λ t e. y.live t (x.live t e);
  known = λ t h e. let (g, is) = some_of (of_term t b.spool.held) (y.known t h e) in x.known t g is;
}

pub live_some : (o : Option Held) → is_live o ≡ true → IsSome o
live_some None e = absurd cc
live_some (Some h) e = refl

-- an Interim takes no term away
lives_still : (t : TermId) (n : ℕ) (o : Option Held) → is_live o ≡ true → is_live (Some (with_number Interim (Some n) (ended_by Interim (or_unknown t o)))) ≡ true
lives_still t n None e = absurd cc
lives_still t n (Some h) e = e

-- an Interim was formed of a term that is live
module _ (b b' : BillingState) (facts : TermFacts) (at : Moment) (n : ℕ) (f : IsFormedBy b Interim facts at n b') (live : is_live (of_term facts.term b.spool.held) ≡ true) where
  abbrev here : Held
  here = formed Interim n facts.term b.spool.held

  here_is : (t : TermId) → same facts.term t ≡ true → of_term t b'.spool.held ≡ Some here
  here_is t is = let e : same here.term t ≡ true = ap (λ (u : TermId). same u t) (term-formed Interim n facts.term b.spool.held) ∙ is in f.formed.holds.finds t ∙ rw e refl

  live_here : (t : TermId) → same facts.term t ≡ true → is_live (of_term t b'.spool.held) ≡ true
  live_here t is = ap is_live (here_is t is) ∙ lives_still facts.term n (of_term facts.term b.spool.held) live

  some_here : (t : TermId) → same facts.term t ≡ true → IsSome (of_term t b.spool.held)
  some_here t is = live_some (of_term t b.spool.held) (ap (λ (u : TermId). is_live (of_term u b.spool.held)) (sym (same_is facts.term t is)) ∙ live)

  pub held_formed : KeepsHeld b b'
  held_formed = record {
    live = λ t e. elim (cases_Bool (same facts.term t)) [
      | inl is ↦ live_here t is
      | inr apart ↦ ap is_live (formed_others b b' Interim facts at n f t apart) ∙ e
    ];
    known = λ t h e. elim (cases_Bool (same facts.term t)) [
      | inl is ↦ some_here t is
      | inr apart ↦ ap is_some (sym (formed_others b b' Interim facts at n f t apart) ∙ e)
    ];
  }

-- Records that are formed ---------------------------------------------------------------------------------------------------

-- some, and then more
pub interims_append : (terms : List Tenure) (moment wall : ℕ) (b m b' : BillingState) (rs ss : List Row) (fs gs : List FormedRecord)
    → FormsInterims terms moment wall b rs fs m → FormsInterims terms moment wall m ss gs b' → FormsInterims terms moment wall b (rs ++ ss) (fs ++ gs) b'
interims_append terms moment wall b m b' [] ss fs gs x y =
    subst (λ (hs : List FormedRecord). FormsInterims terms moment wall b ss (hs ++ gs) b') (sym x.0)
    (subst (λ (c : BillingState). FormsInterims terms moment wall c ss gs b') x.1 y)
interims_append terms moment wall b m b' (r ∷ rs) ss fs gs (first, rest, next, one, more, are) y =
    (first, rest ++ gs, next, one, interims_append terms moment wall next m b' rs ss rest gs more y, ap (λ (hs : List FormedRecord). hs ++ gs) are ∙ append_assoc first rest gs)

-- of more terms
module _ (ts us : List Tenure) (moment wall : ℕ) (among : AreAmong ts us) where
  interim_wider : (b b' : BillingState) (r : Row) (fs : List FormedRecord) → FormsInterim ts moment wall b r fs b' → FormsInterim us moment wall b r fs b'
  interim_wider b b' r fs x = elim x [
    | inl still ↦ inl still
    | inr (none, f, are, is, formed) ↦ inr (none, f, are, record { status = is.status; facts = facts_wider ts us r.key r.carried f.facts among is.facts; at = is.at }, formed)
  ]

  pub interims_wider : (b b' : BillingState) (rs : List Row) (fs : List FormedRecord) → FormsInterims ts moment wall b rs fs b' → FormsInterims us moment wall b rs fs b'
  interims_wider b b' [] fs x = x
  interims_wider b b' (r ∷ rs) fs (first, rest, next, one, more, are) = (first, rest, next, interim_wider b next r first one, interims_wider next b' rs rest more, are)

-- One shard -----------------------------------------------------------------------------------------------------------------

-- the Interims so far were formed: with those that are owed still they are all
pub record ReportsSome (moment wall : ℕ) (v : Shown) (r r' : Reports) (b b' : BillingState) : Type 0 where
  pub awaits : AwaitsAt moment v r'
  pub held : KeepsHeld b b'
  pub onward : (fs : List FormedRecord) (c : BillingState) → FormsInterims v.state.slots.terms moment wall b' (owed v r'.last moment) fs c
      → (gs : List FormedRecord) × FormsInterims v.state.slots.terms moment wall b (owed v r.last moment) gs c
  pub last : last_after moment (owed v r'.last moment) r'.last ≡ last_after moment (owed v r.last moment) r.last

pub reports_none : (moment wall : ℕ) (v : Shown) (r : Reports) (b : BillingState) → AwaitsAt moment v r → ReportsSome moment wall v r r b b
reports_none moment wall v r b awaits = record { awaits = awaits; held = held_none b; onward = λ fs c x. (fs, x); last = refl }

-- what is kept for the next one is at most a minute away still
pub soon_still : (moment next next' : ℕ) → next ≤ moment + 60000 → (next' ≡ next) ⊎ (next' ≤ moment + 60000) → next' ≤ moment + 60000
soon_still moment next next' soon kept = ⊎_elim (λ (same : next' ≡ next). omega (arith, same, soon)) (λ (less : next' ≤ moment + 60000). less) kept

first_of : (rows : List Row) (row : Row) → Some row ≡ slice_get rows 0 → rows ≡ row ∷ drop 1 rows
first_of [] row e = absurd cc
first_of (r ∷ rows) row e = let same : row ≡ r = cc in ap (λ (x : Row). x ∷ rows) (sym same)

-- one more was taken
module _ (moment wall : ℕ) (v : Shown) (r r' r'' : Reports) (b b' b'' : BillingState) (row : Row) (so_far : ReportsSome moment wall v r r' b b') where
  module _ (first : Some row ≡ slice_get (owed v r'.last moment) 0) (rest : owed v r''.last moment ≡ drop 1 (owed v r'.last moment)) where
    owed_was : owed v r'.last moment ≡ row ∷ owed v r''.last moment
    owed_was = first_of (owed v r'.last moment) row first ∙ ap (λ (rows : List Row). row ∷ rows) (sym rest)

    pub owed_fewer : length (owed v r''.last moment) < length (owed v r'.last moment)
    owed_fewer = omega (arith, ap (λ (rows : List Row). length rows) owed_was)

    pub reports_more : r''.last ≡ with_report r'.last moment row.key.term.session → AwaitsAt moment v r'' → KeepsHeld b' b''
        → (formed : List FormedRecord) × FormsInterim v.state.slots.terms moment wall b' row formed b'' → ReportsSome moment wall v r r'' b b''
    reports_more taken awaits held (formed, one) = record {
      awaits = awaits;
      held = held_more b b' b'' so_far.held held;
      onward = λ fs c x. so_far.onward (formed ++ fs) c
          (subst (λ (rows : List Row). FormsInterims v.state.slots.terms moment wall b' rows (formed ++ fs) c) (sym owed_was) (formed, fs, b'', one, x, refl));
      last = ap (last_after moment (owed v r''.last moment)) taken ∙ sym (ap (λ (rows : List Row). last_after moment rows r'.last) owed_was) ∙ so_far.last;
    }

-- none is owed any more
none_of : (rows : List Row) → None ≡ slice_get rows 0 → rows ≡ []
none_of [] e = refl
none_of (r ∷ rows) e = absurd cc

pub reports_all : (moment wall : ℕ) (v : Shown) (r r' r'' : Reports) (b b' : BillingState) → ReportsSome moment wall v r r' b b' → None ≡ slice_get (owed v r'.last moment) 0 → r''.last ≡ r'.last → ReportsShard moment wall v r r'' b b'
reports_all moment wall v r r' r'' b b' so_far none kept =
    let over = none_of (owed v r'.last moment) none in
    let all = so_far.onward [] b' (subst (λ (rows : List Row). FormsInterims v.state.slots.terms moment wall b' rows [] b') (sym over) (refl, refl)) in
    record {
      formed = all.0;
      forms = all.1;
      taken = kept ∙ sym (ap (λ (rows : List Row). last_after moment rows r'.last) over) ∙ so_far.last;
    }

-- of which one tells is live in accounting, where all are
pub live_told : (b : BillingState) (user class : List ℕ) (began : ℕ) (k : Key) (ts : List Tenure) → AnyOf (SaysOf user class began k) ts
    → AllByRecursion (λ (j : Key). is_live (of_term j.term b.spool.held) ≡ true) (keys_there ts) → is_live (of_term k.term b.spool.held) ≡ true
live_told b user class began k [] any all = absurd any
live_told b user class began k (t ∷ ts) any all = ⊎_elim
    (λ (says : SaysOf user class began k t). subst (λ (j : Key). is_live (of_term j.term b.spool.held) ≡ true) says.key all.0)
    (λ (later : AnyOf (SaysOf user class began k) ts). live_told b user class began k ts later all.1) any

-- those that were live are
pub live_still : (b b' : BillingState) (ks : List Key) → KeepsHeld b b' → All (λ (k : Key). is_live (of_term k.term b.spool.held) ≡ true) ks → All (λ (k : Key). is_live (of_term k.term b'.spool.held) ≡ true) ks
live_still b b' ks keeps live i d lt = keeps.live (get_or ks i d).term (live i d lt)

-- One shard after the other -------------------------------------------------------------------------------------------------

owed_push : (moment : ℕ) (vs : Shards) (rs : List Reports) (v : Shown) (r : Reports) → length vs ≡ length rs → owed_by moment (vs ++ v ∷ []) (rs ++ r ∷ []) ≡ owed_by moment vs rs ++ owed v r.last moment
owed_push moment [] [] v r same = append-nil (owed v r.last moment)
owed_push moment [] (q ∷ rs) v r same = absurd (omega (arith, same))
owed_push moment (u ∷ vs) [] v r same = absurd (omega (arith, same))
owed_push moment (u ∷ vs) (q ∷ rs) v r same =
    ap (λ (rows : List Row). owed u q.last moment ++ rows) (owed_push moment vs rs v r (omega (arith, same))) ∙ sym (append_assoc (owed u q.last moment) (owed_by moment vs rs) (owed v r.last moment))

zip_set : {A B : Type 0} (R : A → B → Type 0) (xs : List A) (ys : List B) (k : ℕ) (d : A) (y : B) → AllZip R xs ys → R (get_or xs k d) y → AllZip R xs (set ys k y)
zip_set R [] [] k d y h fits = tt
zip_set R [] (b ∷ ys) k d y h fits = absurd h
zip_set R (a ∷ xs) [] k d y h fits = absurd h
zip_set R (a ∷ xs) (b ∷ ys) zero d y h fits = (fits, h.1)
zip_set R (a ∷ xs) (b ∷ ys) (suc k) d y h fits = (h.0, zip_set R xs ys k d y h.1 fits)

-- the Interims of the first shards were formed, and what is kept of the others is as it was
pub record ReportsFew (moment wall : ℕ) (vs : Shards) (i : ℕ) (rs rs' : List Reports) (b b' : BillingState) : Type 0 where
  pub formed : List FormedRecord
  pub forms : FormsInterims (terms_in (states_of vs)) moment wall b (owed_by moment (take i vs) (take i rs)) formed b'
  pub taken : Zip3 (TakesInterims moment) (take i vs) (take i rs) (take i rs')
  pub count : length rs' ≡ length rs
  pub rest : drop i rs' ≡ drop i rs
  pub awaited : AreAwaited moment vs rs'
  pub waiting : AreWaiting moment (take i vs) (take i rs')
  pub held : KeepsHeld b b'

pub few_none : (moment wall : ℕ) (vs : Shards) (rs : List Reports) (b : BillingState) → AreAwaited moment vs rs → ReportsFew moment wall vs 0 rs rs b b
few_none moment wall vs rs b awaited = record { formed = []; forms = (refl, refl); taken = tt; count = refl; rest = refl; awaited = awaited; waiting = tt; held = held_none b }

tails : (xs ys : List Reports) (i : ℕ) → drop i xs ≡ drop i ys → drop (i + 1) xs ≡ drop (i + 1) ys
tails xs ys i e = sym (drop-drop 1 i xs) ∙ ap (drop 1) e ∙ drop-drop 1 i ys

-- the terms of the shard at a place are live, where all are
pub live_there : (b b' : BillingState) (vs : Shards) (i : ℕ) (v : Shown) → v ≡ get_or vs i v → i < length vs → KeepsHeld b b'
    → All (λ (k : Key). is_live (of_term k.term b.spool.held) ≡ true) (keys_in vs) → All (λ (k : Key). is_live (of_term k.term b'.spool.held) ≡ true) (keys_of v)
live_there b b' vs i v is lt keeps live =
    let at = shard_at vs i v is lt in
    let Lives = λ (k : Key). is_live (of_term k.term b.spool.held) ≡ true in
    live_still b b' (keys_of v) keeps
    (all_left Lives (keys_of v) (keys_in (drop (i + 1) vs)) (all_right Lives (keys_in (take i vs)) (keys_of v ++ keys_in (drop (i + 1) vs)) (subst (λ (ks : List Key). All Lives ks) (keys_split vs i v at) live)))

-- one shard more
pub few_more : (moment wall : ℕ) (vs : Shards) (i : ℕ) (v : Shown) (d : Reports) (rs rs' : List Reports) (r : Reports) (b b' b'' : BillingState) → v ≡ get_or vs i v → i < length vs → length vs ≡ length rs
    → ReportsFew moment wall vs i rs rs' b b' → ReportsShard moment wall v (get_or rs' i d) r b' b'' → WaitsAt moment v r → KeepsHeld b' b'' → ReportsFew moment wall vs (i + 1) rs (set rs' i r) b b''
few_more moment wall vs i v d rs rs' r b b' b'' is lt same so_far one awaits held =
    let at = shard_at vs i v is lt in
    let terms = terms_in (states_of vs) in
    let was = get_or rs i d in
    let here : get_or rs' i d ≡ was = same_at rs rs' i d so_far.rest in
    let within : i < length rs = omega (arith, lt, same) in
    let within' : i < length rs' = omega (arith, within, so_far.count) in
    let fronts : length (take i vs) ≡ length (take i rs) = zip3_length (TakesInterims moment) (take i vs) (take i rs) (take i rs') so_far.taken in
    let owed_are : owed_by moment (take (i + 1) vs) (take (i + 1) rs) ≡ owed_by moment (take i vs) (take i rs) ++ owed v was.last moment =
    ap (λ (us : Shards). owed_by moment us (take (i + 1) rs)) at.next
    ∙ ap (λ (qs : List Reports). owed_by moment (take i vs ++ v ∷ []) qs) (take_more rs i d within)
    ∙ owed_push moment (take i vs) (take i rs) v was fronts in
    let forms_here = subst (λ (q : Reports). FormsInterims terms moment wall b' (owed v q.last moment) one.formed b'') here
    (interims_wider v.state.slots.terms terms moment wall (tenures_among vs i v at) b' b'' (owed v (get_or rs' i d).last moment) one.formed one.forms) in
    record {
      formed = so_far.formed ++ one.formed;
      forms = subst (λ (rows : List Row). FormsInterims terms moment wall b rows (so_far.formed ++ one.formed) b'') (sym owed_are)
          (interims_append terms moment wall b b' b'' (owed_by moment (take i vs) (take i rs)) (owed v was.last moment) so_far.formed one.formed so_far.forms forms_here);
      taken = subst (λ (us : Shards). Zip3 (TakesInterims moment) us (take (i + 1) rs) (take (i + 1) (set rs' i r))) (sym at.next)
          (subst (λ (qs : List Reports). Zip3 (TakesInterims moment) (take i vs ++ v ∷ []) qs (take (i + 1) (set rs' i r))) (sym (take_more rs i d within))
          (subst (λ (qs : List Reports). Zip3 (TakesInterims moment) (take i vs ++ v ∷ []) (take i rs ++ was ∷ []) qs) (sym (take_more_set rs' i r within'))
          (zip3_push (TakesInterims moment) (take i vs) (take i rs) (take i rs') v was r so_far.taken (subst (λ (q : Reports). TakesInterims moment v q r) here one.taken))));
      count = length-set rs' i r ∙ so_far.count;
      rest = drop-set-lt (i + 1) rs' i r (omega arith) ∙ tails rs' rs i so_far.rest;
      awaited = zip_set (AwaitsAt moment) vs rs' i v r so_far.awaited (subst (λ (u : Shown). AwaitsAt moment u r) is (record { awaits = λ empty. awaits.waits; soon = awaits.soon }));
      waiting = subst (λ (us : Shards). AreWaiting moment us (take (i + 1) (set rs' i r))) (sym at.next)
          (subst (λ (qs : List Reports). AreWaiting moment (take i vs ++ v ∷ []) qs) (sym (take_more_set rs' i r within'))
          (zip_push (WaitsAt moment) (take i vs) (take i rs') v r so_far.waiting awaits));
      held = held_more b b' b'' so_far.held held;
    }

-- what was kept of the shard at a place
pub awaits_there : (moment wall : ℕ) (vs : Shards) (i : ℕ) (v : Shown) (d : Reports) (rs rs' : List Reports) (b b' : BillingState) → v ≡ get_or vs i v → i < length vs → ReportsFew moment wall vs i rs rs' b b' → AwaitsAt moment v (get_or rs' i d)
awaits_there moment wall vs i v d rs rs' b b' is lt so_far = subst (λ (u : Shown). AwaitsAt moment u (get_or rs' i d)) (sym is) (zip_at (AwaitsAt moment) vs rs' i v d so_far.awaited lt)

-- all of them
module _ (moment wall : ℕ) (vs : Shards) (i : ℕ) (rs rs' : List Reports) (b b' : BillingState) (all : i ≡ length vs) (same : length vs ≡ length rs) (x : ReportsFew moment wall vs i rs rs' b b') where
  whole : take i vs ≡ vs
  whole = take_all i vs (omega (arith, all))

  whole_rs : take i rs ≡ rs
  whole_rs = take_all i rs (omega (arith, all, same))

  whole_rs' : take i rs' ≡ rs'
  whole_rs' = take_all i rs' (omega (arith, all, same, x.count))

  pub each_formed : (formed : List FormedRecord) × FormsInterims (terms_in (states_of vs)) moment wall b (owed_by moment vs rs) formed b'
  each_formed = (
    x.formed,
    subst (λ (us : Shards). FormsInterims (terms_in (states_of vs)) moment wall b (owed_by moment us rs) x.formed b') whole
        (subst (λ (qs : List Reports). FormsInterims (terms_in (states_of vs)) moment wall b (owed_by moment (take i vs) qs) x.formed b') whole_rs x.forms),
  )

  pub each_taken : Zip3 (TakesInterims moment) vs rs rs'
  each_taken =
      subst (λ (us : Shards). Zip3 (TakesInterims moment) us rs rs') whole
      (subst (λ (qs : List Reports). Zip3 (TakesInterims moment) (take i vs) qs rs') whole_rs
      (subst (λ (qs : List Reports). Zip3 (TakesInterims moment) (take i vs) (take i rs) qs) whole_rs' x.taken))

  pub each_waiting : AreWaiting moment vs rs'
  each_waiting = subst (λ (us : Shards). AreWaiting moment us rs') whole (subst (λ (qs : List Reports). AreWaiting moment (take i vs) qs) whole_rs' x.waiting)
