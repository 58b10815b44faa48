-- The Starts of the terms that began in a round, one shard after the other.
use Rattle.std.proofs.Common.{◌≡◌, ℕ, zero, suc, ◌+◌, ◌<◌, None, List, [], ◌∷◌, ◌++◌, map, length, take, drop, get_or, set, refl, sym, ap, subst, ◌∙◌, append-nil, arith}
use Rattle.std.specs.List.{All, AllByRecursion, AllZip, sum_by}
use Rattle.std.proofs.lemmas.List.{drop_more, take_more, take_more_set, take_all, drop-set-lt, drop-drop, length-append}
use Rattle.std.proofs.lemmas.List.Concat.{flat_map-append}
use Rattle.std.proofs.lemmas.List.Sums.{sum_by-append, sum_by-cons}
use Rattle.bng_acct.specs.declared.facts.StatusType.{StatusType}
use Rattle.bng_acct.specs.declared.facts.StatusType.TheVariants.{Start}
use Rattle.bng_acct.specs.Spool.{IsAdmitted, open_of}
use Rattle.bng_base.specs.declared.item.Entry.{Entry}
use Rattle.bng_billing.specs.Records.{IsFormedBy}
use Rattle.bng_billing.specs.State.{BillingState}
use Rattle.bng_engine.specs.Lists.{Zip3}
use Rattle.bng_engine.specs.Terms.{AreInOrder as AreOrdered, ComesBefore, Key, keys}
use Rattle.bng_engine.specs.Views.{ShardView}
use Rattle.bng_engine.proofs.Everywhere.{all_append}
use Rattle.bng_engine.proofs.Reaping.{in_order_more}
use Rattle.bng_engine.proofs.Walks.{same_at}
use Rattle.bng_steps.specs.Lasting.{AreTenures}
use Rattle.bng_steps.specs.Protocol.{ShardState, TellsNew, key_in, terms_of}
use Rattle.bng_steps.specs.State.{State}
use Rattle.bng_steps.specs.Tenures.{Tenure}
use Rattle.bng_desk.specs.Accounting.{AreBilled, AreSettling, FormedRecord, Forms, IsStartOf}
use Rattle.bng_desk.specs.Model.{keys_in}
use Rattle.bng_desk.specs.Round.{news_in}
use Rattle.bng_desk.specs.Taking.{Accounts, BegunTo, BeginsAll, BeginsShard, BooksStarts, OwesNone, joined, states_of}
use Rattle.bng_desk.proofs.Booking.{AreAmong, among_left, among_left_by, among_right, starts_more, starts_none, starts_wider}
use Rattle.bng_desk.proofs.Forming.{all_billed, settling_part, settling_started, start_admitted, start_once}
use Rattle.bng_desk.proofs.Readying.{Shards}
use Rattle.bng_desk.proofs.TermsLeft.{around, names_are, names_of, names_were, outside, tenures_told}
use Rattle.bng_desk.proofs.Zips.{zip3_push, zip3_at, zip3_length}

-- One shard -------------------------------------------------------------------------------------------------------------

-- the shard with these terms of whose beginning no Start was formed yet
abbrev pub with_news : ShardView ShardState Entry → List Tenure → ShardView ShardState Entry
with_news v news = record v { state = record v.state { slots = record v.state.slots { news = news } } }

-- what holds of one among others
at_one : {X : Type 0} (P : X → Type 0) (before after : List X) (x : X) → AllByRecursion P (before ++ x ∷ after) → P x
at_one P [] after x all = all.0
at_one P (y ∷ before) after x all = at_one P before after x all.1

but_one : {X : Type 0} (P : X → Type 0) (before after : List X) (x : X) → AllByRecursion P (before ++ x ∷ after) → AllByRecursion P (before ++ after)
but_one P [] after x all = all.1
but_one P (y ∷ before) after x all = (all.0, but_one P before after x all.1)

-- the first in order were told: each comes before those that were not
abbrev AreFirst : List Tenure → Key → Type 0
AreFirst news k = AllByRecursion (λ (u : Tenure). ComesBefore k (key_in u)) news

pub record BeginsSome (v w : ShardView ShardState Entry) (starts : List Key) : Type 0 where
  pub order : AreOrdered starts
  pub each : (f : Key → ℕ) → sum_by f starts + sum_by f (map key_in w.state.slots.news) ≡ sum_by f (map key_in v.state.slots.news)
  pub later : AllByRecursion (AreFirst w.state.slots.news) starts
  pub among : AreAmong w.state.slots.news v.state.slots.news
  pub after : w ≡ with_news v w.state.slots.news

begins_none : (v : ShardView ShardState Entry) → BeginsSome v v []
begins_none v = record { order = tt; each = λ f. omega arith; later = tt; among = λ user class began k any. any; after = refl }

-- one more is told
module _ (v w w' : ShardView ShardState Entry) (starts : List Key) (t : Tenure) (some : BeginsSome v w starts) (tells : TellsNew w.state.slots w'.state.slots t) (rest : w' ≡ record w { state = record w.state { slots = w'.state.slots } }) where
  before_it : AllByRecursion (λ (k : Key). ComesBefore k (key_in t)) starts
  before_it = by starts some.later
    where
      by : (ks : List Key) → AllByRecursion (AreFirst w.state.slots.news) ks → AllByRecursion (λ (k : Key). ComesBefore k (key_in t)) ks
      by [] all = tt
      by (k ∷ ks) all =
          let P = λ (u : Tenure). ComesBefore k (key_in u) in
          (at_one P tells.leaves.before tells.leaves.after t (subst (λ (us : List Tenure). AllByRecursion P us) tells.leaves.were all.0), by ks all.1)

  still_first : (ks : List Key) → AllByRecursion (AreFirst w.state.slots.news) ks → AllByRecursion (AreFirst w'.state.slots.news) ks
  still_first [] all = tt
  still_first (k ∷ ks) all =
      let P = λ (u : Tenure). ComesBefore k (key_in u) in
      (subst (λ (us : List Tenure). AllByRecursion P us) (sym tells.leaves.are) (but_one P tells.leaves.before tells.leaves.after t (subst (λ (us : List Tenure). AllByRecursion P us) tells.leaves.were all.0)), still_first ks all.1)

  one_sum : (f : Key → ℕ) → sum_by f (map key_in w.state.slots.news) ≡ f (key_in t) + sum_by f (map key_in w'.state.slots.news)
  one_sum f =
      let before = map key_in tells.leaves.before in
      let after = map key_in tells.leaves.after in
      omega (arith, ap (sum_by f) (names_were w.state.slots.news w'.state.slots.news t (key_in t) tells.leaves refl), ap (sum_by f) (names_are w.state.slots.news w'.state.slots.news t tells.leaves), sum_by-append f before (key_in t ∷ after), sum_by-cons f (key_in t) after, sum_by-append f before after)

  slots_are : w' ≡ with_news w w'.state.slots.news
  slots_are = rest ∙ ap (λ (s : State). let x : ShardView ShardState Entry = record w { state = record w.state { slots = s } } in x) tells.others

  begins_more : BeginsSome v w' (starts ++ key_in t ∷ [])
  begins_more = record {
    order = in_order_more starts (key_in t) some.order before_it;
    each = λ f. omega (arith, some.each f, one_sum f, sum_by-append f starts (key_in t ∷ []), sum_by-cons f (key_in t) []);
    later = all_append (AreFirst w'.state.slots.news) starts (key_in t ∷ []) (still_first starts some.later) (tells.least, tt);
    among = λ user class began k any. some.among user class began k (among_left_by w.state.slots.news w'.state.slots.news t tells.leaves user class began k any);
    after = slots_are ∙ ap (λ (x : ShardView ShardState Entry). with_news x w'.state.slots.news) some.after;
  }

-- what a settlement is among goes on, with the terms of a shard that began among others
abbrev pub KeepsBegun : ShardState → List Tenure → BillingState → BillingState → Type 0
KeepsBegun s news b b' = (terms front back : List Key) → AreSettling terms (front ++ (map key_in s.slots.news ++ back)) b → AreSettling terms (front ++ (map key_in news ++ back)) b'

-- and it is booked
pub record BeginsFew (moment wall : ℕ) (v w : ShardView ShardState Entry) (a a' : Accounts) : Type 0 where
  pub starts : List Key
  pub some : BeginsSome v w starts
  pub booked : BooksStarts v.state.slots.news moment wall starts a a'
  pub tenures : AreTenures moment w.state.slots
  pub settling : KeepsBegun v.state w.state.slots.news a.billing a'.billing

pub begins_begin : (moment wall : ℕ) (v : ShardView ShardState Entry) (a : Accounts) → AreTenures moment v.state.slots → BeginsFew moment wall v v a a
begins_begin moment wall v a tenures = record {
  starts = [];
  some = begins_none v;
  booked = starts_none v.state.slots.news moment wall a;
  tenures = tenures;
  settling = λ terms front back h. h;
}

-- the one that is told stood among those of the settlement
module _ (terms front back : List Key) (s s' : State) (t : Tenure) (k : Key) (tells : TellsNew s s' t) (is : key_in t ≡ k) where
  abbrev ahead : List Key
  ahead = front ++ map key_in tells.leaves.before

  abbrev behind : List Key
  behind = map key_in tells.leaves.after ++ back

  among_them : (b : BillingState) → AreSettling terms (front ++ (map key_in s.news ++ back)) b → AreSettling terms (ahead ++ k ∷ behind) b
  among_them b h =
      subst (λ (ks : List Key). AreSettling terms ks b)
      (ap (λ (ks : List Key). front ++ (ks ++ back)) (names_were s.news s'.news t k tells.leaves is) ∙ around front (map key_in tells.leaves.before) (map key_in tells.leaves.after) back k) h

  without_it : (b : BillingState) → AreSettling terms (ahead ++ behind) b → AreSettling terms (front ++ (map key_in s'.news ++ back)) b
  without_it b h =
      subst (λ (ks : List Key). AreSettling terms ks b)
      (outside front (map key_in tells.leaves.before) (map key_in tells.leaves.after) back ∙ ap (λ (ks : List Key). front ++ (ks ++ back)) (sym (names_are s.news s'.news t tells.leaves))) h

  -- a Start of it may be formed, and none is open
  pub told_admitted : (b : BillingState) → AreSettling terms (front ++ (map key_in s.news ++ back)) b → IsAdmitted b.spool k.term
  told_admitted b h = start_admitted terms ahead behind b k (among_them b h)

  pub told_once : (b : BillingState) → AreSettling terms (front ++ (map key_in s.news ++ back)) b → open_of k.term Start b.spool.held ≡ None
  told_once b h = start_once terms ahead behind b k (among_them b h)

  -- and no longer does, once its Start is booked
  told_settling : (news : List Tenure) (moment wall : ℕ) (a a' : Accounts) → BooksStarts news moment wall (k ∷ []) a a' → AreSettling terms (front ++ (map key_in s.news ++ back)) a.billing → AreSettling terms (front ++ (map key_in s'.news ++ back)) a'.billing
  told_settling news moment wall a a' booked so_far = without_it a'.billing (by booked.formed booked.forms booked.are_starts)
    where
      by : (fs : List FormedRecord) → Forms a.billing fs a'.billing → AllZip (IsStartOf news moment wall) (k ∷ []) fs → AreSettling terms (ahead ++ behind) a'.billing
      by [] forms are = absurd are
      by (f ∷ g ∷ fs) forms are = absurd are.1
      by (f ∷ []) (m, one, last) are =
          let start : IsFormedBy a.billing Start f.facts f.moment f.number m = subst (λ (status : StatusType). IsFormedBy a.billing status f.facts f.moment f.number m) are.0.status one in
          subst (λ (b : BillingState). AreSettling terms (ahead ++ behind) b) (sym last) (settling_started terms ahead behind k f.facts f.moment f.number a.billing m start are.0.facts.term (among_them a.billing so_far))

pub begins_on : (moment wall : ℕ) (v w w' : ShardView ShardState Entry) (t : Tenure) (k : Key) (a a' a'' : Accounts) → BeginsFew moment wall v w a a' → TellsNew w.state.slots w'.state.slots t → key_in t ≡ k
    → w' ≡ record w { state = record w.state { slots = w'.state.slots } } → BooksStarts v.state.slots.news moment wall (k ∷ []) a' a'' → BeginsFew moment wall v w' a a''
begins_on moment wall v w w' t k a a' a'' so_far tells is rest booked = record {
  starts = so_far.starts ++ k ∷ [];
  some = subst (λ (j : Key). BeginsSome v w' (so_far.starts ++ j ∷ [])) is (begins_more v w w' so_far.starts t so_far.some tells rest);
  booked = starts_more v.state.slots.news moment wall so_far.starts (k ∷ []) a a' a'' so_far.booked booked;
  tenures = tenures_told moment w.state.slots w'.state.slots t tells so_far.tenures;
  settling = λ terms front back h. told_settling terms front back w.state.slots w'.state.slots t k tells is v.state.slots.news moment wall a' a'' booked (so_far.settling terms front back h);
}

ones : (ks : List Tenure) → sum_by (λ (k : Key). 1) (map key_in ks) ≡ length ks
ones [] = refl
ones (t ∷ ts) = omega (arith, sum_by-cons (λ (k : Key). 1) (key_in t) (map key_in ts), ones ts)

-- how many are still to be told
pub fewer_new : (s s' : State) (t : Tenure) → TellsNew s s' t → length s'.news < length s.news
fewer_new s s' t tells =
    let before = tells.leaves.before in
    let after = tells.leaves.after in
    omega (arith, ap (λ (ts : List Tenure). length ts) tells.leaves.were, ap (λ (ts : List Tenure). length ts) tells.leaves.are, length-append before (t ∷ after), length-append before after)

-- a shard alone
pub begun_alone : (terms : List Key) (news : List Tenure) (b : BillingState) → AreSettling terms (map key_in news) b → AreSettling terms (map key_in news ++ []) b
begun_alone terms news b s = subst (λ (ks : List Key). AreSettling terms ks b) (sym (append-nil (map key_in news))) s

-- all were told
module _ (moment wall : ℕ) (v w : ShardView ShardState Entry) (a a' : Accounts) (so_far : BeginsFew moment wall v w a a') (none : w.state.slots.news ≡ []) where
  begun_all : BegunTo v w so_far.starts
  begun_all = record {
    order = so_far.some.order;
    each = λ f. omega (arith, so_far.some.each f, ap (λ (ts : List Tenure). sum_by f (map key_in ts)) none);
    after = so_far.some.after ∙ ap (with_news v) none;
  }

  pub begins_shard : BeginsShard v.state.slots.news moment wall v w a a'
  begins_shard = record { starts = so_far.starts; begun = begun_all; booked = so_far.booked }

  pub begun_settling : (terms front back : List Key) → AreSettling terms (front ++ (map key_in v.state.slots.news ++ back)) a.billing → AreSettling terms (front ++ back) a'.billing
  begun_settling terms front back h = subst (λ (ts : List Tenure). AreSettling terms (front ++ (map key_in ts ++ back)) a'.billing) none (so_far.settling terms front back h)

-- Shard by shard --------------------------------------------------------------------------------------------------------

-- the Starts of the first shards were formed, and the others are as they were
pub record BeginsThem (moment wall : ℕ) (olds shards : Shards) (i : ℕ) (a a' : Accounts) : Type 0 where
  pub starts : List (List Key)
  pub done : Zip3 BegunTo (take i olds) (take i shards) starts
  pub rest : drop i shards ≡ drop i olds
  pub booked : BooksStarts (news_in (states_of olds)) moment wall (joined starts) a a'
  pub settling : AreSettling (keys_in olds) (map key_in (news_in (states_of (drop i olds)))) a'.billing

tails : (xs ys : Shards) (i : ℕ) → drop i xs ≡ drop i ys → drop (i + 1) xs ≡ drop (i + 1) ys
tails xs ys i e = sym (drop-drop 1 i xs) ∙ ap (drop 1) e ∙ drop-drop 1 i ys

joined_push : (kss : List (List Key)) (ks : List Key) → joined (kss ++ ks ∷ []) ≡ joined kss ++ ks
joined_push kss ks = flat_map-append (λ (x : List Key). x) kss (ks ∷ []) ∙ ap (λ (ys : List Key). joined kss ++ ys) (append-nil ks)

pub them_none : (moment wall : ℕ) (olds : Shards) (a : Accounts) → AreSettling (keys_in olds) (map key_in (news_in (states_of olds))) a.billing → BeginsThem moment wall olds olds 0 a a
them_none moment wall olds a settling = record { starts = []; done = tt; rest = refl; booked = starts_none (news_in (states_of olds)) moment wall a; settling = settling }

among_all : (vs : Shards) (i : ℕ) (d : ShardView ShardState Entry) → i < length vs → AreAmong (get_or vs i d).state.slots.news (news_in (states_of vs))
among_all [] i d lt = absurd (omega (arith, lt))
among_all (v ∷ vs) zero d lt = among_left v.state.slots.news (news_in (states_of vs))
among_all (v ∷ vs) (suc i) d lt = λ user class began k any. among_right v.state.slots.news (news_in (states_of vs)) user class began k (among_all vs i d (omega (arith, lt)) user class began k any)

module _ (moment wall : ℕ) (olds shards : Shards) (i : ℕ) (d : ShardView ShardState Entry) (a a' : Accounts) (lt : i < length olds) (so_far : BeginsThem moment wall olds shards i a a') where
  abbrev was : ShardView ShardState Entry
  was = get_or shards i d

  abbrev v : ShardView ShardState Entry
  v = get_or olds i d

  at : was ≡ v
  at = same_at olds shards i d so_far.rest

  abbrev others : List Key
  others = map key_in (news_in (states_of (drop (i + 1) olds)))

  -- those of this shard are the first of those that are left
  next_news : map key_in (news_in (states_of (drop i olds))) ≡ map key_in was.state.slots.news ++ others
  next_news =
      ap (λ (vs : Shards). map key_in (news_in (states_of vs))) (drop_more olds i d lt)
      ∙ names_of v.state.slots.news (news_in (states_of (drop (i + 1) olds)))
      ∙ ap (λ (x : ShardView ShardState Entry). map key_in x.state.slots.news ++ others) (sym at)

  so_far_here : AreSettling (keys_in olds) (map key_in was.state.slots.news ++ others) a'.billing
  so_far_here = subst (λ (ks : List Key). AreSettling (keys_in olds) ks a'.billing) next_news so_far.settling

  pub here_settling : AreSettling [] (map key_in was.state.slots.news) a'.billing
  here_settling = settling_part (keys_in olds) (map key_in was.state.slots.news) others a'.billing so_far_here

  pub here_tenures : All (λ (x : ShardView ShardState Entry). AreTenures moment x.state.slots) olds → AreTenures moment was.state.slots
  here_tenures all = subst (λ (x : ShardView ShardState Entry). AreTenures moment x.state.slots) (sym at) (all i d lt)

  pub them_more : (w : ShardView ShardState Entry) (a'' : Accounts) → length shards ≡ length olds → BeginsShard was.state.slots.news moment wall was w a' a''
      → ((terms front back : List Key) → AreSettling terms (front ++ (map key_in was.state.slots.news ++ back)) a'.billing → AreSettling terms (front ++ back) a''.billing) → BeginsThem moment wall olds (set shards i w) (i + 1) a a''
  them_more w a'' same one keeps =
      let within : i < length shards = omega (arith, lt, same) in
      let kss = so_far.starts in
      let ks = one.starts in
      let news = news_in (states_of olds) in
      let among : AreAmong was.state.slots.news news = subst (λ (x : ShardView ShardState Entry). AreAmong x.state.slots.news news) (sym at) (among_all olds i d lt) in
      record {
        starts = kss ++ ks ∷ [];
        done = subst (λ (vs : Shards). Zip3 BegunTo vs (take (i + 1) (set shards i w)) (kss ++ ks ∷ [])) (sym (take_more olds i d lt))
            (subst (λ (ws : Shards). Zip3 BegunTo (take i olds ++ v ∷ []) ws (kss ++ ks ∷ [])) (sym (take_more_set shards i w within))
            (zip3_push BegunTo (take i olds) (take i shards) kss v w ks so_far.done (subst (λ (x : ShardView ShardState Entry). BegunTo x w ks) at one.begun)));
        rest = drop-set-lt (i + 1) shards i w (omega arith) ∙ tails shards olds i so_far.rest;
        booked = subst (λ (xs : List Key). BooksStarts news moment wall xs a a'') (sym (joined_push kss ks))
            (starts_more news moment wall (joined kss) ks a a' a'' so_far.booked (starts_wider was.state.slots.news news moment wall ks a' a'' among one.booked));
        settling = keeps (keys_in olds) [] others so_far_here;
      }

-- All shards ------------------------------------------------------------------------------------------------------------

same_keys : (vs ws : Shards) (kss : List (List Key)) → Zip3 BegunTo vs ws kss → keys_in ws ≡ keys_in vs
same_keys [] [] [] z = refl
same_keys (x ∷ vs) (w ∷ ws) (ks ∷ kss) z = ap (λ (y : ShardView ShardState Entry). keys (terms_of y.state) ++ keys_in ws) z.0.after ∙ ap (λ (js : List Key). keys (terms_of x.state) ++ js) (same_keys vs ws kss z.1)
same_keys vs ws kss z = absurd z

pub owe_none : (vs ws : Shards) (kss : List (List Key)) → Zip3 BegunTo vs ws kss → All OwesNone ws
owe_none vs ws kss z k d lt =
    let within : k < length vs = omega (arith, lt, zip3_length BegunTo vs ws kss z) in
    ap (λ (x : ShardView ShardState Entry). x.state.slots.news) (zip3_at BegunTo vs ws kss k d d [] z within).after

past_end : (xs : Shards) (i : ℕ) → i ≡ length xs → drop i xs ≡ []
past_end [] zero e = refl
past_end [] (suc i) e = absurd (omega (arith, e))
past_end (x ∷ xs) zero e = absurd (omega (arith, e))
past_end (x ∷ xs) (suc i) e = past_end xs i (omega (arith, e))

module _ (moment wall : ℕ) (olds shards : Shards) (i : ℕ) (a a' : Accounts) (e : i ≡ length olds) (same : length shards ≡ length olds) (s : BeginsThem moment wall olds shards i a a') where
  all_begun : Zip3 BegunTo olds shards s.starts
  all_begun =
      let all : take i olds ≡ olds = take_all i olds (omega (arith, e)) in
      let those : take i shards ≡ shards = take_all i shards (omega (arith, e, same)) in
      subst (λ (vs : Shards). Zip3 BegunTo vs shards s.starts) all (subst (λ (ws : Shards). Zip3 BegunTo (take i olds) ws s.starts) those s.done)

  pub begins_all : BeginsAll moment wall olds shards a a'
  begins_all = record { starts = s.starts; each = all_begun; booked = s.booked }

  pub all_owe_none : All OwesNone shards
  all_owe_none = owe_none olds shards s.starts all_begun

  pub billed_then : AreBilled (keys_in shards) a'.billing
  billed_then =
      subst (λ (ks : List Key). AreBilled ks a'.billing) (sym (same_keys olds shards s.starts all_begun))
      (all_billed (keys_in olds) a'.billing (subst (λ (vs : Shards). AreSettling (keys_in olds) (map key_in (news_in (states_of vs))) a'.billing) (past_end olds i e) s.settling))
