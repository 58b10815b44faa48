-- The terms of the shards at the opening: no two are one, they are no more than the circuits, and their numbers were given.
use Rattle.std.proofs.Common.{◌≡◌, ◌≢◌, ℕ, zero, suc, ◌+◌, ◌*◌, ◌/◌, ◌^◌, ◌<◌, ◌≤◌, ◌==◌, ◌&&◌, Bool, true, false, cond, eqb, List, [], ◌∷◌, map, filter, length, get_or, ⊎_elim, Some, refl, sym, ap, subst, ◌∙◌, arith}
use Rattle.std.specs.List.{All, AllByRecursion, AllPairs, flat_map, range_with_len, sum_by}
use Rattle.std.proofs.lemmas.Bool.Decides.{nat_tests}
use Rattle.std.proofs.lemmas.List.{length-append, length-map}
use Rattle.std.proofs.lemmas.List.Concat.{length-flat_map}
use Rattle.std.proofs.lemmas.List.Elements.{All-append, recursion_from_All}
use Rattle.std.proofs.lemmas.List.Sums.{count_by-le-length, length-filter, sum_by-cons}
use Rattle.bng_acct.specs.declared.held.Held.{Held}
use Rattle.bng_acct.specs.Roster.{of_term, same}
use Rattle.bng_base.specs.declared.address.SessionNo.{SessionNo}
use Rattle.bng_base.specs.declared.circuit.TermId.{TermId}
use Rattle.bng_base.specs.declared.book.Profile.{Profile}
use Rattle.bng_base.specs.declared.item.Entry.{Entry}
use Rattle.bng_base.specs.declared.settings.Static.{Static}
use Rattle.bng_billing.specs.State.{BillingState}
use Rattle.bng_engine.specs.Terms.{Key, Term, keys}
use Rattle.bng_engine.specs.Lists.{AnyOf}
use Rattle.bng_engine.specs.Views.{ShardView}
use Rattle.bng_engine.proofs.Adding.{sum_plus}
use Rattle.bng_config.specs.declared.config.Config.{Config}
use Rattle.bng_config.specs.Rules.{KeepsRules}
use Rattle.bng_schema.specs.Names.{IsSessionOf}
use Rattle.bng_steps.specs.declared.rules.Rules.{Rules}
use Rattle.bng_steps.specs.Lasting.{IsTenureOf}
use Rattle.bng_steps.specs.Opening.{circuit_at, in_order, tenures_after}
use Rattle.bng_steps.specs.Protocol.{ShardState, opened, term_in, terms_of}
use Rattle.bng_steps.specs.Tenures.{Tenure}
use Rattle.bng_steps.proofs.InOrder.{sum_in_order}
use Rattle.bng_steps.proofs.Numbered.{tenures_opened}
use Rattle.bng_steps.proofs.OpenedKeys.{rows_apart, rows_of_shard}
use Rattle.bng_steps.proofs.RowLaws.{new_keys}
use Rattle.bng_steps.proofs.SoundOpening.{opened_sound}
use Rattle.bng_sessions.specs.Sessions.{IsNumberOf}
use Rattle.bng_desk.specs.Accounting.{KnowsBegun}
use Rattle.bng_desk.specs.Model.{begun_in, keys_in, live_terms}
use Rattle.bng_desk.specs.Opening.{AreServed, shard_of}
use Rattle.bng_desk.specs.Taking.{AreInOrder, KeepsTerms}
use Rattle.bng_desk.proofs.Beginning.{IsTermOf}
use Rattle.bng_desk.proofs.Billed.{AreApart}
use Rattle.bng_desk.proofs.InAll.{terms_by}
use Rattle.bng_desk.proofs.Outfit.{are_of, of_shard}
use Rattle.bng_desk.proofs.Parts.{pairs_append}
use Rattle.bng_desk.proofs.Readying.{Shards}
use Rattle.bng_desk.proofs.ShardKeys.{of_one}

-- How many there are ------------------------------------------------------------------------------------------------------

abbrev hit : ℕ → ℕ → ℕ
hit m n = cond (eqb m n) 1 0

passed_by : (m n : ℕ) (b : Bool) → eqb m n ≡ b → m < n → cond b 1 0 ≤ 0
passed_by m n true e lt = let here : m ≡ n = grind (arith, nat_tests) in absurd (omega (arith, here, lt))
passed_by m n false e lt = omega arith

none_hit : (m a k : ℕ) → m < a → sum_by (hit m) (range_with_len a k) ≡ 0
none_hit m a zero lt = refl
none_hit m a (suc k) lt = omega (arith, sum_by-cons (hit m) a (range_with_len (a + 1) k), passed_by m a (eqb m a) refl lt, none_hit m (a + 1) k (omega (arith, lt)))

hit_first : (m a k : ℕ) (b : Bool) → eqb m a ≡ b → sum_by (hit m) (range_with_len (a + 1) k) ≤ 1 → cond b 1 0 + sum_by (hit m) (range_with_len (a + 1) k) ≤ 1
hit_first m a k true e rest = let here : m ≡ a = grind (arith, nat_tests) in omega (arith, none_hit m (a + 1) k (omega (arith, here)))
hit_first m a k false e rest = omega (arith, rest)

-- a number stands in a range once at most
one_hit : (m a k : ℕ) → sum_by (hit m) (range_with_len a k) ≤ 1
one_hit m a zero = omega arith
one_hit m a (suc k) = omega (arith, sum_by-cons (hit m) a (range_with_len (a + 1) k), hit_first m a k (eqb m a) refl (one_hit m (a + 1) k))

module _ {X : Type 0} (number : X → ℕ) where
  abbrev numbered : List X → ℕ → List X
  numbered xs n = filter (λ (x : X). number x == n) xs

  one_longer : (b : Bool) (x : X) (xs : List X) → length (cond b (x ∷ xs) xs) ≡ cond b 1 0 + length xs
  one_longer true x xs = omega arith
  one_longer false x xs = omega arith

  none_numbered : (ns : List ℕ) → sum_by (λ n. length (numbered [] n)) ns ≡ 0
  none_numbered [] = refl
  none_numbered (n ∷ ns) = omega (arith, sum_by-cons (λ n. length (numbered [] n)) n ns, none_numbered ns)

  -- each is of one number
  few_numbered : (a k : ℕ) (xs : List X) → sum_by (λ n. length (numbered xs n)) (range_with_len a k) ≤ length xs
  few_numbered a k [] = omega (arith, none_numbered (range_with_len a k))
  few_numbered a k (x ∷ xs) =
      omega (
        arith,
        sum_plus (hit (number x)) (λ n. length (numbered xs n)) (λ n. length (numbered (x ∷ xs) n)) (λ n. one_longer (eqb (number x) n) x (numbered xs n)) (range_with_len a k),
        one_hit (number x) a k,
        few_numbered a k xs,
      )

terms_count : (now n : ℕ) (cs : List Static) → length (keys (map term_in (tenures_after now n cs))) ≡ length cs
terms_count now n [] = refl
terms_count now n (c ∷ cs) = ap suc (terms_count now (n + 1) cs)

ones : (cs : List Static) → sum_by (λ (c : Static). 1) cs ≡ length cs
ones [] = refl
ones (c ∷ cs) = omega (arith, sum_by-cons (λ (x : Static). 1) c cs, ones cs)

circuits_few : (a k : ℕ) (cs : List Static) → length (flat_map (circuit_at cs) (range_with_len a k)) ≤ length cs
circuits_few a k cs = omega (arith, length-flat_map (circuit_at cs) (range_with_len a k), few_numbered (λ (c : Static). c.session.0) a k cs)

in_order_few : (shard : ℕ) (cs : List Static) → length (in_order shard cs) ≤ length cs
in_order_few shard cs = circuits_few (shard * 1024 + 1) 1022 cs

-- Apart -------------------------------------------------------------------------------------------------------------------

other_session : (j k : Key) (b : Bool) → eqb j.term.session.0 k.term.session.0 ≡ b → j.term.session ≢ k.term.session → (b && eqb j.term.serial k.term.serial) ≡ false
other_session j k true e other =
    let here : j.term.session.0 ≡ k.term.session.0 = grind (arith, nat_tests) in
    absurd (other (ap (λ (n : ℕ). let s : SessionNo = record { 0 = n } in s) here))
other_session j k false e other = refl

apart_by : (j k : Key) → j.term.session ≢ k.term.session → AreApart j k
apart_by j k other = other_session j k (eqb j.term.session.0 k.term.session.0) refl other

module _ (r : Rules) (circuits : List Static) (now : ℕ) (served : AreServed r circuits) where
  abbrev opens : ℕ → List Key
  opens n = keys (terms_of (opened n r (of_shard circuits n) now).state)

  opens_count : (n : ℕ) → length (opens n) ≤ length (of_shard circuits n)
  opens_count n =
      let cs = of_shard circuits n in
      omega (
        arith,
        terms_count now 0 (in_order n cs),
        in_order_few n cs,
      )

  keys_count : (a k : ℕ) → length (keys_in (map (λ n. opened n r (of_shard circuits n) now) (range_with_len a k))) ≤ sum_by (λ n. length (of_shard circuits n)) (range_with_len a k)
  keys_count a zero = omega arith
  keys_count a (suc k) =
      omega (
        arith,
        length-append (opens a) (keys_in (map (λ n. opened n r (of_shard circuits n) now) (range_with_len (a + 1) k))),
        opens_count a,
        keys_count (a + 1) k,
        sum_by-cons (λ n. length (of_shard circuits n)) a (range_with_len (a + 1) k),
      )

  -- there are no more terms than circuits
  pub few_terms : length (keys_in (map (λ n. opened n r (of_shard circuits n) now) (range_with_len 0 r.shards))) ≤ length circuits
  few_terms = omega (arith, keys_count 0 r.shards, few_numbered shard_of 0 r.shards circuits)

  of_this : (n : ℕ) → n < 64 → All (λ (k : Key). k.term.session.0 / 1024 ≡ n) (opens n)
  of_this n low = subst (All (λ (k : Key). k.term.session.0 / 1024 ≡ n)) (new_keys (opens n)) (rows_of_shard n r (of_shard circuits n) now (are_of r circuits n served).own)

  sessions_apart : (n : ℕ) → AllPairs (λ (j k : Key). j.term.session ≢ k.term.session) (opens n)
  sessions_apart n = subst (AllPairs (λ (j k : Key). j.term.session ≢ k.term.session)) (new_keys (opens n)) (rows_apart n r (of_shard circuits n) now (are_of r circuits n served).sessions)

  from_this : (a k : ℕ) → a + k ≤ 64 → All (λ (x : Key). a ≤ x.term.session.0 / 1024) (keys_in (map (λ n. opened n r (of_shard circuits n) now) (range_with_len a k)))
  from_this a zero low = λ i d lt. absurd (omega (arith, lt))
  from_this a (suc k) low =
      All-append (λ (x : Key). a ≤ x.term.session.0 / 1024) (opens a) (keys_in (map (λ n. opened n r (of_shard circuits n) now) (range_with_len (a + 1) k)))
      (λ i d lt. omega (arith, of_this a (omega (arith, low)) i d lt))
      (λ i d lt. omega (arith, from_this (a + 1) k (omega (arith, low)) i d lt))

  apart_from : (a k : ℕ) → a + k ≤ 64 → AllPairs AreApart (keys_in (map (λ n. opened n r (of_shard circuits n) now) (range_with_len a k)))
  apart_from a zero low = λ i j d lt within. absurd (omega (arith, within))
  apart_from a (suc k) low =
      let later = keys_in (map (λ n. opened n r (of_shard circuits n) now) (range_with_len (a + 1) k)) in
      pairs_append AreApart (opens a) later
      (λ i j d lt within. apart_by (get_or (opens a) i d) (get_or (opens a) j d) (sessions_apart a i j d lt within))
      (apart_from (a + 1) k (omega (arith, low)))
      (λ i d lt j e within.
      apart_by (get_or (opens a) i d) (get_or later j e)
      (λ (is : (get_or (opens a) i d).term.session ≡ (get_or later j e).term.session).
      omega (arith, ap (λ (s : SessionNo). s.0) is, of_this a (omega (arith, low)) i d lt, from_this (a + 1) k (omega (arith, low)) j e within)))

  -- what lasts of each shard
  pub opened_keeps : length circuits < 2 ^ 48 → (n : ℕ) → n < 64 → KeepsTerms now (opened n r (of_shard circuits n) now)
  opened_keeps few n low =
      let of = are_of r circuits n served in
      record {
        sound = opened_sound now n (of_shard circuits n) of.sessions r.profiles low of.own;
        number = refl;
        tenures = tenures_opened n now r.profiles (of_shard circuits n) of.own;
        owes_none = refl;
        numbers = omega (arith, few, length-filter (λ (c : Static). shard_of c == n) circuits, count_by-le-length (λ (c : Static). shard_of c == n) circuits);
      }

  -- each has as many terms as it has circuits, which began with it
  one_opened : (n : ℕ) → terms_by (opened n r (of_shard circuits n) now) ≡ length (of_shard circuits n)
  one_opened n =
      let cs = of_shard circuits n in
      let one : Static → ℕ = λ _. 1 in
      omega (
        arith,
        length-map (map term_in (tenures_after now 0 (in_order n cs))) (λ (t : Term). t.key),
        terms_count now 0 (in_order n cs),
        ones (in_order n cs),
        sum_in_order one n cs (recursion_from_All (λ (c : Static). IsNumberOf n c.session.0) cs (are_of r circuits n served).own),
        ones cs,
      )

  pub terms_opened : (a k : ℕ) → live_terms (map (λ n. opened n r (of_shard circuits n) now) (range_with_len a k)) ≡ begun_in (map (λ n. opened n r (of_shard circuits n) now) (range_with_len a k))
  terms_opened a zero = refl
  terms_opened a (suc k) =
      let later = map (λ n. opened n r (of_shard circuits n) now) (range_with_len (a + 1) k) in
      omega (arith, sum_by-cons terms_by (opened a r (of_shard circuits a) now) later, sum_by-cons (λ (v : ShardView ShardState Entry). v.state.slots.begun) (opened a r (of_shard circuits a) now) later, one_opened a, terms_opened (a + 1) k)

  -- and no two of them are one
  pub terms_apart : r.shards ≤ 64 → AllPairs (λ (j k : Key). same j.term k.term ≡ false) (keys_in (map (λ n. opened n r (of_shard circuits n) now) (range_with_len 0 r.shards)))
  terms_apart few = apart_from 0 r.shards (omega (arith, few))

-- Numbers that were given ---------------------------------------------------------------------------------------------------

one_began : (shard count moment : ℕ) (t : TermId) (ts : List Tenure) → AllByRecursion (IsTenureOf shard count moment) ts → AnyOf (IsTermOf t) (keys (map term_in ts)) → (t.session.0 / 1024 ≡ shard) × (t.serial ≤ count)
one_began shard count moment t [] all any = absurd any
one_began shard count moment t (x ∷ ts) all any =
    ⊎_elim (λ (is : x.term ≡ t). (sym (ap (λ (u : TermId). u.session.0 / 1024) is) ∙ all.0.session, omega (arith, ap (λ (u : TermId). u.serial) is, all.0.number)))
    (λ (later : AnyOf (IsTermOf t) (keys (map term_in ts))). one_began shard count moment t ts all.1 later) any

-- where accounting knows of no other terms than those that are there, all have begun
pub knows_there : (moment : ℕ) (vs : Shards) (b : BillingState) → AreInOrder vs → All (KeepsTerms moment) vs → ((t : TermId) (h : Held) → of_term t b.spool.held ≡ Some h → AnyOf (IsTermOf t) (keys_in vs)) → KnowsBegun vs b
knows_there moment vs b order keeps known t h found =
    let o = of_one (IsTermOf t) vs (known t h found) in
    let v = o.shard in
    let its : KeepsTerms moment v = subst (KeepsTerms moment) (o.is v) (keeps o.place v o.within) in
    let terms = v.state.slots.terms in
    let began = one_began v.state.slots.sessions.shard v.state.slots.begun moment t terms (recursion_from_All (IsTenureOf v.state.slots.sessions.shard v.state.slots.begun moment) terms its.tenures.each) o.there in
    let at : t.session.0 / 1024 ≡ o.place = began.0 ∙ its.number ∙ sym (ap (λ (w : ShardView ShardState Entry). w.number) (o.is v)) ∙ order o.place v o.within in
    record {
      within = omega (arith, at, o.within);
      number = λ d. omega (arith, began.1, ap (λ (k : ℕ). (get_or vs k d).state.slots.begun) at, ap (λ (w : ShardView ShardState Entry). w.state.slots.begun) (o.is d));
    }

-- a session number of a shard
number_of : (s : Static) (shards : ℕ) → IsSessionOf shards s.session.0 → IsNumberOf (shard_of s) s.session.0
number_of s shards is = (omega (arith, is.low), omega (arith, is.high))

-- the circuits of a configuration are of the shards and on the ports of its rules, and have its profiles
pub are_served : (config : Config) (r : Rules) → KeepsRules config → r.profiles ≡ config.profiles → r.shards ≡ config.shards → length r.access ≡ length config.access → AreServed r config.statics
are_served config r k profiles shards ports = record {
  inside = λ i d lt. omega (arith, (k.sharded i d lt).shard, shards);
  own = λ i d lt. number_of (get_or config.statics i d) config.shards (k.sharded i d lt);
  sessions = k.sessions;
  addresses = k.addresses;
  ports = λ i d lt. ((k.placed i d lt).low, omega (arith, (k.placed i d lt).high, ports));
  profiles = λ i d lt. omega (arith, k.profiled i d lt, ap (λ (ps : List Profile). length ps) profiles);
}
