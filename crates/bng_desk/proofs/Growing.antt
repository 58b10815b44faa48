-- What a journal adds to the terms of a shard.
use Rattle.std.proofs.Common.{◌≡◌, ℕ, ◌+◌, ◌*◌, ◌^◌, ◌<◌, ◌≤◌, Bool, true, false, cond, List, [], ◌∷◌, ◌++◌, map, length, refl, sym, ap, subst, ◌∙◌, arith, append-nil, append_assoc, length-append}
use Rattle.std.specs.List.{AllByRecursion, AllZip, range_with_len}
use Rattle.std.proofs.lemmas.List.{length-map, map-append}
use Rattle.std.proofs.lemmas.List.Sums.{sum_by-cons}
use Rattle.bng_base.specs.declared.item.Entry.{Entry}
use Rattle.bng_base.specs.declared.item.Item.{Item}
use Rattle.bng_base.specs.declared.item.OutRecord.{OutRecord}
use Rattle.bng_engine.specs.Journals.{after, AreLimited, AreSteps, claims_of}
use Rattle.bng_engine.specs.Lists.{Zip3}
use Rattle.bng_engine.specs.Terms.{Key, Term, keys}
use Rattle.bng_engine.proofs.Everywhere.{all_append, all_mapped, all_weaker}
use Rattle.bng_engine.proofs.Journals.{run_few}
use Rattle.bng_steps.specs.declared.whose.Whose.{Whose}
use Rattle.bng_steps.specs.Granting.{IsSound}
use Rattle.bng_steps.specs.Lasting.{AreTenures}
use Rattle.bng_steps.specs.Protocol.{ShardState, Handled, entry_of, key_in, pppoe, term_in, terms_of}
use Rattle.bng_steps.specs.State.{State}
use Rattle.bng_steps.specs.Tenures.{Tenure}
use Rattle.bng_steps.proofs.ClaimedTerms.{step_by_claims}
use Rattle.bng_steps.proofs.GrantLaws.{step_sound}
use Rattle.bng_steps.proofs.Numbered.{step_tenures}
use Rattle.bng_steps.proofs.StepLaws.{pppoe_laws}
use Rattle.bng_desk.specs.Items.{entries_in, stands_in, without_claim}
use Rattle.bng_desk.specs.Model.{begun_in, live_terms}
use Rattle.bng_desk.specs.Round.{entries_of, handled_states, views_of}
use Rattle.bng_desk.specs.Taking.{AreDealt, HasAllowance, HasNumbers, IsTurning, KeepsTerms, SentTo, Shown, Sight, states_of}
use Rattle.bng_desk.proofs.Dealing.{Seens}
use Rattle.bng_desk.proofs.InAll.{terms_by}
use Rattle.bng_desk.proofs.Readying.{Shards}

-- Along a journal -----------------------------------------------------------------------------------------------------------

-- a term that began after so many
abbrev pub IsLater : ℕ → Tenure → Type 0
IsLater begun t = begun < t.term.serial

-- so many terms began; they stand behind those that were there, with numbers above theirs
pub record Begets (s s' : State) (claims : ℕ) : Type 0 where
  pub began : List Tenure
  pub count : length began ≡ claims
  pub begun : s'.begun ≡ s.begun + length began
  pub later : AllByRecursion (IsLater s.begun) began
  pub news : s'.news ≡ s.news ++ began
  pub keys_are : map key_in s'.terms ≡ map key_in s.terms ++ map key_in began
  pub shard : s'.sessions.shard ≡ s.sessions.shard

numbers_later : (n m : ℕ) (ts : List Tenure) → n < m → map (λ (t : Tenure). t.term.serial) ts ≡ range_with_len m (length ts) → AllByRecursion (IsLater n) ts
numbers_later n m [] lt same = tt
numbers_later n m (t ∷ ts) lt same =
    let here : t.term.serial ≡ m = cc in
    let rest : map (λ (u : Tenure). u.term.serial) ts ≡ range_with_len (m + 1) (length ts) = cc in
    (omega (arith, lt, here), numbers_later n (m + 1) ts (omega (arith, lt)) rest)

pub begets_along : (s : ShardState) (es : List Handled) → AreSteps pppoe s es → Begets s.slots (after pppoe s es).slots (length (claims_of pppoe es))
begets_along s [] steps = record { began = []; count = refl; begun = omega arith; later = tt; news = sym (append-nil s.slots.news); keys_are = sym (append-nil (map key_in s.slots.terms)); shard = refl }
begets_along s (e ∷ es) steps =
    let one = step_by_claims s.rules s.slots e.limited e.deed steps.0.step in
    let more = begets_along (pppoe.next s e) es steps.1 in
    let first : length one.began ≡ length (pppoe.claimed e) = sym (length-map one.began (λ (t : Tenure). t.address.0)) ∙ ap (λ (ns : List ℕ). length ns) one.one_each in
    record {
      began = one.began ++ more.began;
      count = omega (arith, length-append one.began more.began, first, more.count, length-append (pppoe.claimed e) (claims_of pppoe es));
      begun = omega (arith, one.count, more.begun, length-append one.began more.began);
      later = all_append (IsLater s.slots.begun) one.began more.began (numbers_later s.slots.begun (s.slots.begun + 1) one.began (omega arith) one.numbers)
          (all_weaker (IsLater e.deed.next.begun) (IsLater s.slots.begun) (λ t lt. omega (arith, lt, one.count)) more.began more.later);
      news = more.news ∙ ap (λ (ts : List Tenure). ts ++ more.began) one.news ∙ append_assoc s.slots.news one.began more.began;
      keys_are = more.keys_are ∙ ap (λ (ks : List Key). ks ++ map key_in more.began) one.keys
          ∙ append_assoc (map key_in s.slots.terms) (map key_in one.began) (map key_in more.began)
          ∙ ap (λ (ks : List Key). map key_in s.slots.terms ++ ks) (sym (map-append key_in one.began more.began));
      shard = more.shard ∙ one.shard;
    }

-- the entry is of this moment
abbrev pub IsAt : ℕ → Handled → Type 0
IsAt moment h = h.deed.entry.moment ≡ moment

-- what lasts of a shard's terms
pub record Lasts (moment : ℕ) (s : State) : Type 0 where
  pub sound : IsSound s
  pub tenures : AreTenures moment s

pub lasts_along : (moment : ℕ) (s : ShardState) (es : List Handled) → AreSteps pppoe s es → AllByRecursion (IsAt moment) es → Lasts moment s.slots → Lasts moment (after pppoe s es).slots
lasts_along moment s [] steps at l = l
lasts_along moment s (e ∷ es) steps at l =
    let step = steps.0.step in
    let same : e.deed.entry.moment ≡ moment = at.0 in
    lasts_along moment (pppoe.next s e) es steps.1 at.1
    (record {
      sound = step_sound s.rules s.slots e.limited e.deed step l.sound;
      tenures = subst (λ (n : ℕ). AreTenures n e.deed.next) same (step_tenures s.rules s.slots e.limited e.deed moment l.sound (omega (arith, same)) l.tenures step);
    })

-- The entries of a round are of its moment ----------------------------------------------------------------------------------

abbrev OfMoment : ℕ → Entry → Type 0
OfMoment moment e = e.moment ≡ moment

one_moment : (b : Bool) (seat place moment : ℕ) (i : Item) → AllByRecursion (OfMoment moment) (cond b (entry_of seat place moment i ∷ []) [])
one_moment true seat place moment i = (refl, tt)
one_moment false seat place moment i = tt

entries_moment : (seat shard place moment : ℕ) (is : List Item) (ws : List Whose) → AllByRecursion (OfMoment moment) (entries_in seat shard place moment is ws)
entries_moment seat shard place moment [] ws = tt
entries_moment seat shard place moment (i ∷ is) [] = tt
entries_moment seat shard place moment (i ∷ is) (w ∷ ws) =
    all_append (OfMoment moment) (cond (stands_in shard w) (entry_of seat place moment i ∷ []) []) (entries_in seat shard (place + 1) moment is ws)
    (one_moment (stands_in shard w) seat place moment i) (entries_moment seat shard (place + 1) moment is ws)

journal_moment : (shard moment : ℕ) (items : List Item) (whose : List Whose) (x : Sight) → map without_claim (entries_of x) ≡ entries_in 0 shard 0 moment items whose → AllByRecursion (IsAt moment) x.journal
journal_moment shard moment items whose x same =
    let all = subst (λ (es : List Entry). AllByRecursion (OfMoment moment) es) (sym same) (entries_moment 0 shard 0 moment items whose) in
    all_mapped (OfMoment moment) (λ (h : Handled). h.deed.entry) x.journal (all_mapped (OfMoment moment) without_claim (entries_of x) all)

pub moments_dealt : (shard moment : ℕ) (items : List Item) (whose : List Whose) (xs : Seens) → AreDealt shard moment items whose xs → AllByRecursion (λ (x : Sight). AllByRecursion (IsAt moment) x.journal) xs
moments_dealt shard moment items whose [] dealt = tt
moments_dealt shard moment items whose (x ∷ xs) dealt = (journal_moment shard moment items whose x dealt.0, moments_dealt (shard + 1) moment items whose xs dealt.1)

-- A shard whose outs were sent ----------------------------------------------------------------------------------------------

-- it ran through a journal of this moment, within its allowance
pub record Worked (moment : ℕ) (v u : Shown) : Type 0 where
  pub journal : List Handled
  pub steps : AreSteps pppoe v.state journal
  pub limits : AreLimited pppoe v.allowance 0 journal
  pub state : u.state ≡ after pppoe v.state journal
  pub moments : AllByRecursion (IsAt moment) journal
  pub number : u.number ≡ v.number

pub all_worked : (moment : ℕ) (vs ws : Shards) (now : Seens) (us : Shards) (rss : List (List OutRecord)) → Zip3 IsTurning ws (views_of vs) now → Zip3 SentTo ws us rss → AllZip HasAllowance vs ws → AllByRecursion (λ (x : Sight). AllByRecursion (IsAt moment) x.journal) now → AllZip (Worked moment) vs us
all_worked moment [] [] [] [] [] t z a m = tt
all_worked moment [] [] [] us rss t z a m = absurd z
all_worked moment (v ∷ vs) (w ∷ ws) (x ∷ now) (u ∷ us) (rs ∷ rss) t z a m =
    let turn = t.0.turn in
    let sent = z.0.turn _ x t.0 in
    let allowance : x.allowance ≡ v.allowance = sym (ap (λ (y : Sight). y.allowance) t.0.shows.same) ∙ a.0 in (
      record {
        journal = x.journal;
        steps = turn.steps;
        limits = subst (λ (n : ℕ). AreLimited pppoe n 0 x.journal) allowance turn.limits;
        state = sent.state;
        moments = m.0;
        number = sent.number;
      },
      all_worked moment vs ws now us rss t.1 z.1 a.1 m.1,
    )
all_worked moment (v ∷ vs) (w ∷ ws) (x ∷ now) us rss t z a m = absurd z
all_worked moment vs ws now us rss t z a m = absurd t

-- the states of the shards then are those once all entries were handled
pub states_handled : (vs ws : Shards) (now xs : Seens) (us : Shards) (rss : List (List OutRecord)) → Zip3 IsTurning ws (views_of vs) now → Zip3 SentTo ws us rss → AllZip (λ (x y : Sight). y.journal ≡ x.journal) now xs → handled_states vs xs ≡ states_of us
states_handled [] [] [] [] [] [] t z j = refl
states_handled [] [] [] (y ∷ xs) us rss t z j = absurd j
states_handled [] [] [] [] us rss t z j = absurd z
states_handled (v ∷ vs) (w ∷ ws) (x ∷ now) (y ∷ xs) (u ∷ us) (rs ∷ rss) t z j =
    let sent = z.0.turn _ x t.0 in
    ap (λ (es : List Handled). after pppoe v.state es ∷ handled_states vs xs) j.0 ∙ ap (λ (s : ShardState). s ∷ handled_states vs xs) (sym sent.state) ∙ ap (λ (ss : List ShardState). u.state ∷ ss) (states_handled vs ws now xs us rss t.1 z.1 j.1)
states_handled (v ∷ vs) (w ∷ ws) (x ∷ now) [] us rss t z j = absurd j
states_handled (v ∷ vs) (w ∷ ws) (x ∷ now) xs us rss t z j = absurd z
states_handled vs ws now xs us rss t z j = absurd t

-- What a shard grew by -------------------------------------------------------------------------------------------------------

pub keys_are : (ts : List Tenure) → keys (map term_in ts) ≡ map key_in ts
keys_are [] = refl
keys_are (t ∷ ts) = ap (λ (ks : List Key). key_in t ∷ ks) (keys_are ts)

-- its terms are its own, those that began stand behind the others, and are no more than its allowance
pub record Grown (moment : ℕ) (v u : Shown) : Type 0 where
  pub sound : IsSound u.state.slots
  pub tenures : AreTenures moment u.state.slots
  pub number : u.number ≡ v.number
  pub shard : u.state.slots.sessions.shard ≡ u.number
  pub keys_grow : keys (terms_of u.state) ≡ keys (terms_of v.state) ++ map key_in u.state.slots.news
  pub begun : v.state.slots.begun ≤ u.state.slots.begun
  pub count : u.state.slots.begun ≡ v.state.slots.begun + length u.state.slots.news
  pub numbers : u.state.slots.begun < 2 ^ 48
  pub later : AllByRecursion (IsLater v.state.slots.begun) u.state.slots.news
  pub few : length u.state.slots.news ≤ v.allowance

pub grown : (moment : ℕ) (v u : Shown) → KeepsTerms moment v → HasNumbers v → Worked moment v u → Grown moment v u
grown moment v u k has w =
    let all = begets_along v.state w.journal w.steps in
    let lasts = lasts_along moment v.state w.journal w.steps w.moments (record { sound = k.sound; tenures = k.tenures }) in
    let few = run_few pppoe pppoe_laws v.allowance 0 v.state w.journal w.steps w.limits (omega arith) in
    let news : u.state.slots.news ≡ all.began = ap (λ (s : ShardState). s.slots.news) w.state ∙ all.news ∙ ap (λ (ts : List Tenure). ts ++ all.began) k.owes_none in
    let count : u.state.slots.begun ≡ v.state.slots.begun + length u.state.slots.news = omega (arith, ap (λ (s : ShardState). s.slots.begun) w.state, all.begun, ap (λ (ts : List Tenure). length ts) news) in
    let least : length u.state.slots.news ≤ v.allowance = omega (arith, few, all.count, ap (λ (ts : List Tenure). length ts) news) in
    record {
      sound = subst (λ (s : ShardState). IsSound s.slots) (sym w.state) lasts.sound;
      tenures = subst (λ (s : ShardState). AreTenures moment s.slots) (sym w.state) lasts.tenures;
      number = w.number;
      shard = ap (λ (s : ShardState). s.slots.sessions.shard) w.state ∙ all.shard ∙ k.number ∙ sym w.number;
      keys_grow = keys_are u.state.slots.terms
          ∙ ap (λ (s : ShardState). map key_in s.slots.terms) w.state
          ∙ all.keys_are
          ∙ ap (λ (ks : List Key). ks ++ map key_in all.began) (sym (keys_are v.state.slots.terms))
          ∙ ap (λ (ts : List Tenure). keys (terms_of v.state) ++ map key_in ts) (sym news);
      begun = omega (arith, count);
      count = count;
      numbers = omega (arith, count, least, has);
      later = subst (λ (ts : List Tenure). AllByRecursion (IsLater v.state.slots.begun) ts) (sym news) all.later;
      few = least;
    }

pub all_grown : (moment : ℕ) (vs us : Shards) → AllByRecursion (KeepsTerms moment) vs → AllByRecursion HasNumbers vs → AllZip (Worked moment) vs us → AllZip (Grown moment) vs us
all_grown moment [] [] k n w = tt
all_grown moment [] (u ∷ us) k n w = absurd w
all_grown moment (v ∷ vs) [] k n w = absurd w
all_grown moment (v ∷ vs) (u ∷ us) k n w = (grown moment v u k.0 n.0 w.0, all_grown moment vs us k.1 n.1 w.1)

-- How many there are ------------------------------------------------------------------------------------------------------

abbrev begun_by : Shown → ℕ
begun_by v = v.state.slots.begun

keys_count : (ts : List Term) → length (keys ts) ≡ length ts
keys_count ts = length-map ts (λ (t : Term). t.key)

one_grew : (moment : ℕ) (v u : Shown) → Grown moment v u → terms_by u + begun_by v ≡ terms_by v + begun_by u
one_grew moment v u g =
    let news = u.state.slots.news in
    omega (
      arith,
      g.count,
      ap (λ (ks : List Key). length ks) g.keys_grow,
      length-append (keys (terms_of v.state)) (map key_in news),
      length-map news key_in,
      keys_count (terms_of v.state),
      keys_count (terms_of u.state),
    )

-- as many terms began as there are more
pub terms_grew : (moment : ℕ) (vs us : Shards) → AllZip (Grown moment) vs us → live_terms us + begun_in vs ≡ live_terms vs + begun_in us
terms_grew moment [] [] g = refl
terms_grew moment [] (u ∷ us) g = absurd g
terms_grew moment (v ∷ vs) [] g = absurd g
terms_grew moment (v ∷ vs) (u ∷ us) g =
    omega (arith, sum_by-cons terms_by v vs, sum_by-cons terms_by u us, sum_by-cons begun_by v vs, sum_by-cons begun_by u us, one_grew moment v u g.0, terms_grew moment vs us g.1)

pub few_begun : (moment : ℕ) (vs us : Shards) → AllZip (Grown moment) vs us → begun_in us ≤ 2 ^ 48 * length us
few_begun moment [] [] g = omega arith
few_begun moment [] (u ∷ us) g = absurd g
few_begun moment (v ∷ vs) [] g = absurd g
few_begun moment (v ∷ vs) (u ∷ us) g = omega (arith, sum_by-cons begun_by u us, g.0.numbers, few_begun moment vs us g.1)
