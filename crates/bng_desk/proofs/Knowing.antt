-- Accounting knows of no term that did not begin.
use Rattle.std.proofs.Common.{◌≡◌, inl, inr, ℕ, ◌/◌, ◌<◌, ◌≤◌, ◌||◌, Bool, true, false, cond, List, [], ◌∷◌, Option, Some, None, length, get_or, refl, sym, ap, subst, ◌∙◌, arith}
use Rattle.std.specs.Prelude.{MatchBool, is_some, option_and_then}
use Rattle.std.specs.List.{All, AllByRecursion, AllZip}
use Rattle.std.proofs.lemmas.Bool.{cases_Bool, false≢true}
use Rattle.std.proofs.lemmas.List.{get_or_default}
use Rattle.std.proofs.lemmas.List.Elements.{All-weaker, AllZip-get_or, length_all_zip, recursion_from_All}
use Rattle.bng_acct.specs.declared.facts.RecordNo.{RecordNo}
use Rattle.bng_acct.specs.declared.facts.StatusType.{StatusType}
use Rattle.bng_acct.specs.declared.facts.StatusType.TheVariants.{Start, Interim, Stop as OfStop}
use Rattle.bng_acct.specs.declared.held.Held.{Held}
use Rattle.bng_acct.specs.declared.sheet.Sheet.{Sheet}
use Rattle.bng_acct.specs.Queue.{sheet_at}
use Rattle.bng_acct.specs.Roster.{Puts, Removes, of_term, same}
use Rattle.bng_acct.specs.Spool.{Agree, ReleasesIfAny, is_kept, is_live, is_stop_sheet, number_of, only_stop, open_of, with_number}
use Rattle.bng_acct.proofs.Marks.{term-with, term_of}
use Rattle.bng_acct.proofs.Rosters.{same_is}
use Rattle.bng_base.specs.declared.circuit.TermId.{TermId}
use Rattle.bng_base.proofs.ChainLaws.{chain_keeps}
use Rattle.bng_billing.specs.Replies.{Takes}
use Rattle.bng_billing.specs.State.{BillingState}
use Rattle.bng_billing.specs.Stopping.{StopsOnly}
use Rattle.bng_engine.specs.Lists.{AnyOf}
use Rattle.bng_engine.specs.Terms.{Key, Stop}
use Rattle.bng_engine.proofs.Everywhere.{all_append, any_all}
use Rattle.bng_lane.specs.Sends.{LaneSend}
use Rattle.bng_steps.specs.Lasting.{AreTenures, IsTenureOf}
use Rattle.bng_steps.specs.Protocol.{SaysOf}
use Rattle.bng_steps.specs.Tenures.{Tenure}
use Rattle.bng_steps.proofs.Numbered.{tenures_later}
use Rattle.bng_desk.specs.Accounting.{Acknowledged, FormedRecord, Forms, Gives, HasBegun, HearsRecords, IsStartOf, IsStopOf, KnowsBegun, RecordRequests, RecordSend, Resends, SettlesRecords}
use Rattle.bng_desk.specs.Round.{news_in, terms_in}
use Rattle.bng_desk.specs.Taking.{Accounts, AreInOrder, BooksStarts, BooksStops, KeepsTerms, Shown, states_of}
use Rattle.bng_desk.specs.Turn.{Closes}
use Rattle.bng_desk.proofs.Billed.{formed_others}
use Rattle.bng_desk.proofs.Readying.{Shards}

-- Accounting forgets, and learns of nothing ---------------------------------------------------------------------------------

-- it knows of no term of which it knew nothing
abbrev pub Forgets : BillingState → BillingState → Type 0
Forgets b b' = (t : TermId) → of_term t b.spool.held ≡ None → of_term t b'.spool.held ≡ None

forgets_more : (a b c : BillingState) → Forgets a b → Forgets b c → Forgets a c
forgets_more a b c x y t none = y t (x t none)

-- so it knows of no term that did not begin
pub knows_less : (vs : Shards) (b b' : BillingState) → Forgets b b' → KnowsBegun vs b → KnowsBegun vs b'
knows_less vs b b' forgets knows t h e = by (of_term t b.spool.held) refl
  where
    by : (o : Option Held) → of_term t b.spool.held ≡ o → HasBegun vs t
    by None none = let no : None ≡ Some h = sym (forgets t none) ∙ e in absurd cc
    by (Some x) there = knows t x there

-- a record is open no longer
module _ (old new : List Held) (t : TermId) (status : StatusType) (was : Held) (found : of_term t old ≡ Some was) where
  abbrev left : Held
  left = with_number status None was

  left_term : left.term ≡ t
  left_term = term-with status None was ∙ term_of t old was found

  none_left : (b : Bool) → is_kept left ≡ b → MatchBool b (Puts old new left) (Removes old new left.term) → (u : TermId) → of_term u old ≡ None → of_term u new ≡ None
  none_left true e p u none = elim (cases_Bool (same left.term u)) [
    | inl is ↦
        let here : of_term t old ≡ None = ap (λ (v : TermId). of_term v old) (sym left_term ∙ same_is left.term u is) ∙ none in
        let no : Some was ≡ None = sym found ∙ here in absurd cc
    | inr apart ↦ let there : of_term u new ≡ of_term u old = p.finds u ∙ rw apart refl in there ∙ none
  ]
  none_left false e p u none = elim (cases_Bool (same left.term u)) [
    | inl is ↦ p.finds u ∙ rw is refl
    | inr apart ↦ let there : of_term u new ≡ of_term u old = p.finds u ∙ rw apart refl in there ∙ none
  ]

released_forgets : (old new : List Held) (x : Option Sheet) → ReleasesIfAny old new x → (u : TermId) → of_term u old ≡ None → of_term u new ≡ None
released_forgets old new None stays u none = ap (λ (hs : List Held). of_term u hs) stays ∙ none
released_forgets old new (Some x) r u none =
    none_left old new x.record.facts.term x.record.status r.was r.found (is_kept (with_number x.record.status None r.was)) refl r.leaves u none

taken_forgets : (b b' : BillingState) (a : Acknowledged) → Takes b a.arrival.from a.arrival.octets a.found b' → Forgets b b'
taken_forgets b b' a takes = by a.found takes
  where
    by : (found : Option RecordNo) → Takes b a.arrival.from a.arrival.octets found b' → Forgets b b'
    by None x = subst (λ (c : BillingState). Forgets b c) (sym x.1) (λ t none. none)
    by (Some n) x = released_forgets b.spool.held b'.spool.held (sheet_at b.spool.sheets n.0) x.acknowledged.terms

pub heard_forgets : (b b' : BillingState) (acks : List Acknowledged) → HearsRecords b acks b' → Forgets b b'
heard_forgets b b' acks hears =
    chain_keeps (λ c (a : Acknowledged) c'. Takes c a.arrival.from a.arrival.octets a.found c') (λ c. Forgets b c) (λ c c' a takes so_far. forgets_more b c c' so_far (taken_forgets c c' a takes)) b b' acks hears (λ t none. none)

-- requests are sent
resent_forgets : (now : ℕ) (b b' : BillingState) (s : LaneSend) → Resends now b s b' → Forgets b b'
resent_forgets now b b' s (m, by, after) t none =
    ap (λ (c : BillingState). of_term t c.spool.held) after ∙ ap (λ (c : BillingState). of_term t c.spool.held) by.others ∙ none

given_forgets : (now : ℕ) (b b' : BillingState) (r : RecordSend) → Gives now b r b' → Forgets b b'
given_forgets now b b' r (m, by, after) t none =
    ap (λ (c : BillingState). of_term t c.spool.held) after ∙ ap (λ (hs : List Held). of_term t hs) by.handed.terms ∙ none

pub settled_forgets : (now : ℕ) (b b' : BillingState) (q : RecordRequests) → SettlesRecords now b q b' → Forgets b b'
settled_forgets now b b' q s =
    forgets_more b s.mid b'
    (chain_keeps (Resends now) (λ c. Forgets b c) (λ c c' x one so_far. forgets_more b c c' so_far (resent_forgets now c c' x one)) b s.mid q.again s.resends (λ t none. none))
    (chain_keeps (Gives now) (λ c. Forgets s.mid c) (λ c c' x one so_far. forgets_more s.mid c c' so_far (given_forgets now c c' x one)) s.mid b' q.given s.gives (λ t none. none))

-- all but Stops are forgotten
module _ (b b' : BillingState) (agree : Agree b.spool.sheets b.spool.held) (only : StopsOnly b b') where
  was_open : (o : Option Sheet) (x : Sheet) → only_stop o ≡ Some x → o ≡ Some x
  was_open None x e = absurd cc
  was_open (Some y) x e = by (is_stop_sheet (Some y)) e
    where
      by : (c : Bool) → cond c (Some y) None ≡ Some x → Some y ≡ Some x
      by true f = f
      by false f = absurd cc

  -- of a term of which a record is open it knew
  none_open : (t : TermId) (status : StatusType) (n : ℕ) → of_term t b.spool.held ≡ None → open_of t status b'.spool.held ≡ Some n → ⊥
  none_open t status n none e =
      let o = only.agree.opened t status n e in
      let was : sheet_at b.spool.sheets n ≡ Some o.0 = was_open (sheet_at b.spool.sheets n) o.0 (sym (only.sheets n) ∙ o.1) in
      let marked : open_of o.0.record.facts.term o.0.record.status b.spool.held ≡ Some n = agree.marked n o.0 was in
      let there : open_of t o.0.record.status b.spool.held ≡ Some n = ap (λ (u : TermId). open_of u o.0.record.status b.spool.held) (sym o.2) ∙ marked in
      let nothing : open_of t o.0.record.status b.spool.held ≡ None = ap (λ (x : Option Held). option_and_then (number_of o.0.record.status) x) none in
      let no : None ≡ Some n = sym nothing ∙ there in
      absurd cc

  none_kept : (t : TermId) (h : Held) → of_term t b.spool.held ≡ None → of_term t b'.spool.held ≡ Some h → is_kept h ≡ true → ⊥
  none_kept t h none e kept =
      let live : h.live ≡ false = ap is_live (sym e) ∙ only.live t ∙ ap is_live none in
      by h.live h.start h.interim h.stop live (λ n f. none_open t Start n none (ap (λ (x : Option Held). option_and_then (number_of Start) x) e ∙ f)) (λ n f. none_open t Interim n none (ap (λ (x : Option Held). option_and_then (number_of Interim) x) e ∙ f))
      (λ n f. none_open t OfStop n none (ap (λ (x : Option Held). option_and_then (number_of OfStop) x) e ∙ f)) kept
    where
      by : (l : Bool) (x y z : Option ℕ) → l ≡ false → ((n : ℕ) → x ≡ Some n → ⊥) → ((n : ℕ) → y ≡ Some n → ⊥) → ((n : ℕ) → z ≡ Some n → ⊥) → (l || is_some x || is_some y || is_some z) ≡ true → ⊥
      by true x y z dead f g i e = absurd (false≢true (sym dead))
      by false (Some n) y z dead f g i e = f n refl
      by false None (Some n) z dead f g i e = g n refl
      by false None None (Some n) dead f g i e = i n refl
      by false None None None dead f g i e = absurd (false≢true e)

  pub stopped_forgets : Forgets b b'
  stopped_forgets t none = by (of_term t b'.spool.held) refl
    where
      by : (o : Option Held) → of_term t b'.spool.held ≡ o → o ≡ None
      by None e = refl
      by (Some h) e = absurd (none_kept t h none e (only.agree.kept t h e))

pub closed_forgets : (ended : Bool) (b b' : BillingState) → Agree b.spool.sheets b.spool.held → Closes ended b b' → Forgets b b'
closed_forgets false b b' agree same = subst (λ (c : BillingState). Forgets b c) (sym same) (λ t none. none)
closed_forgets true b b' agree only = stopped_forgets b b' agree only

-- Records of terms that began -----------------------------------------------------------------------------------------------

abbrev IsOfBegun : Shards → FormedRecord → Type 0
IsOfBegun us f = HasBegun us f.facts.term

abbrev HasBegunIn : Shards → Tenure → Type 0
HasBegunIn us t = HasBegun us t.term

formed_knows : (us : Shards) (b b' : BillingState) (fs : List FormedRecord) → Forms b fs b' → AllByRecursion (IsOfBegun us) fs → KnowsBegun us b → KnowsBegun us b'
formed_knows us b b' [] forms all knows = subst (λ (c : BillingState). KnowsBegun us c) (sym forms) knows
formed_knows us b b' (f ∷ fs) (m, one, rest) all knows = formed_knows us m b' fs rest all.1 next
  where
    next : KnowsBegun us m
    next t h e = elim (cases_Bool (same f.facts.term t)) [
      | inl is ↦ subst (HasBegun us) (same_is f.facts.term t is) all.0
      | inr apart ↦ knows t h (sym (formed_others b m f.status f.facts f.moment f.number one t apart) ∙ e)
    ]

facts_begun : (us : Shards) (terms : List Tenure) (k : Key) (f : FormedRecord) → f.facts.term ≡ k.term → AnyOf (SaysOf f.facts.user.items f.facts.class.items f.facts.began k) terms → AllByRecursion (HasBegunIn us) terms → IsOfBegun us f
facts_begun us terms k f term says all =
    subst (HasBegun us) (sym term)
    (any_all (SaysOf f.facts.user.items f.facts.class.items f.facts.began k) (HasBegunIn us) (HasBegun us k.term) (λ t is has. subst (HasBegun us) (ap (λ (j : Key). j.term) is.key) has) terms says all)

stops_begun : (us : Shards) (terms : List Tenure) (moment wall : ℕ) (ss : List Stop) (fs : List FormedRecord) → AllZip (IsStopOf terms moment wall) ss fs → AllByRecursion (HasBegunIn us) terms → AllByRecursion (IsOfBegun us) fs
stops_begun us terms moment wall [] [] z all = tt
stops_begun us terms moment wall [] (f ∷ fs) z all = absurd z
stops_begun us terms moment wall (s ∷ ss) [] z all = absurd z
stops_begun us terms moment wall (s ∷ ss) (f ∷ fs) z all = (facts_begun us terms s.key f z.0.facts.term z.0.facts.says all, stops_begun us terms moment wall ss fs z.1 all)

starts_begun : (us : Shards) (terms : List Tenure) (moment wall : ℕ) (ks : List Key) (fs : List FormedRecord) → AllZip (IsStartOf terms moment wall) ks fs → AllByRecursion (HasBegunIn us) terms → AllByRecursion (IsOfBegun us) fs
starts_begun us terms moment wall [] [] z all = tt
starts_begun us terms moment wall [] (f ∷ fs) z all = absurd z
starts_begun us terms moment wall (k ∷ ks) [] z all = absurd z
starts_begun us terms moment wall (k ∷ ks) (f ∷ fs) z all = (facts_begun us terms k f z.0.facts.term z.0.facts.says all, starts_begun us terms moment wall ks fs z.1 all)

-- Stops were booked, or Starts
pub stops_known : (us : Shards) (terms : List Tenure) (moment wall : ℕ) (ss : List Stop) (a a' : Accounts) → BooksStops terms moment wall ss a a' → AllByRecursion (HasBegunIn us) terms → KnowsBegun us a.billing → KnowsBegun us a'.billing
stops_known us terms moment wall ss a a' booked all = formed_knows us a.billing a'.billing booked.formed booked.forms (stops_begun us terms moment wall ss booked.formed booked.are_stops all)

pub starts_known : (us : Shards) (terms : List Tenure) (moment wall : ℕ) (ks : List Key) (a a' : Accounts) → BooksStarts terms moment wall ks a a' → AllByRecursion (HasBegunIn us) terms → KnowsBegun us a.billing → KnowsBegun us a'.billing
starts_known us terms moment wall ks a a' booked all = formed_knows us a.billing a'.billing booked.formed booked.forms (starts_begun us terms moment wall ks booked.formed booked.are_starts all)

-- Terms that began ----------------------------------------------------------------------------------------------------------

-- its terms are its own, and so are those that began
pub record HasTenures (moment : ℕ) (u : Shown) : Type 0 where
  pub tenures : AreTenures moment u.state.slots
  pub shard : u.state.slots.sessions.shard ≡ u.number

has_begun : (moment : ℕ) (us : Shards) (k : ℕ) (d : Shown) (t : Tenure) → k < length us → HasTenures moment (get_or us k d) → (get_or us k d).number ≡ k → IsTenureOf (get_or us k d).state.slots.sessions.shard (get_or us k d).state.slots.begun moment t → HasBegun us t.term
has_begun moment us k d t lt has number is =
    let at : t.term.session.0 / 1024 ≡ k = is.session ∙ has.shard ∙ number in
    record {
      within = omega (arith, lt, at);
      number = λ e. subst (λ (n : ℕ). t.term.serial ≤ (get_or us n e).state.slots.begun) (sym at) (subst (λ (u : Shown). t.term.serial ≤ u.state.slots.begun) (get_or_default us k d e lt) is.number);
    }

module _ (moment : ℕ) (us : Shards) (order : AreInOrder us) (has : All (HasTenures moment) us) where
  each_begun : All (λ (u : Shown). AllByRecursion (HasBegunIn us) u.state.slots.terms × AllByRecursion (HasBegunIn us) u.state.slots.news) us
  each_begun k d lt =
      let u = get_or us k d in
      let own = has k d lt in
      let one = IsTenureOf u.state.slots.sessions.shard u.state.slots.begun moment in
      let begun = λ (t : Tenure) (is : IsTenureOf u.state.slots.sessions.shard u.state.slots.begun moment t). has_begun moment us k d t lt own (order k d lt) is in (
        recursion_from_All (HasBegunIn us) u.state.slots.terms (All-weaker one (HasBegunIn us) begun u.state.slots.terms own.tenures.each),
        recursion_from_All (HasBegunIn us) u.state.slots.news (All-weaker one (HasBegunIn us) begun u.state.slots.news own.tenures.each_new),
      )

  gathered : (vs : Shards) → AllByRecursion (λ (u : Shown). AllByRecursion (HasBegunIn us) u.state.slots.terms × AllByRecursion (HasBegunIn us) u.state.slots.news) vs → AllByRecursion (HasBegunIn us) (terms_in (states_of vs)) × AllByRecursion (HasBegunIn us) (news_in (states_of vs))
  gathered [] all = (tt, tt)
  gathered (v ∷ vs) all =
      let more = gathered vs all.1 in (
        all_append (HasBegunIn us) v.state.slots.terms (terms_in (states_of vs)) all.0.0 more.0,
        all_append (HasBegunIn us) v.state.slots.news (news_in (states_of vs)) all.0.1 more.1,
      )

  -- the terms of the shards have begun
  pub all_begun : AllByRecursion (HasBegunIn us) (terms_in (states_of us)) × AllByRecursion (HasBegunIn us) (news_in (states_of us))
  all_begun = gathered us (recursion_from_All (λ (u : Shown). AllByRecursion (HasBegunIn us) u.state.slots.terms × AllByRecursion (HasBegunIn us) u.state.slots.news) us each_begun)

-- and what has begun stays so
pub knows_later : (R : Shown → Shown → Type 0) → ((x y : Shown) → R x y → x.state.slots.begun ≤ y.state.slots.begun) → (vs us : Shards) → AllZip R vs us → (b : BillingState) → KnowsBegun vs b → KnowsBegun us b
knows_later R rises vs us z b knows t h e =
    let has = knows t h e in
    let n = t.session.0 / 1024 in
    record {
      within = omega (arith, has.within, length_all_zip R vs us z);
      number = λ d. omega (arith, has.number d, rises (get_or vs n d) (get_or us n d) (AllZip-get_or R vs us n d d z has.within));
    }

-- the terms of the shards last to a later moment
pub terms_later : (m n : ℕ) (vs : Shards) → m ≤ n → All (KeepsTerms m) vs → All (KeepsTerms n) vs
terms_later m n vs le all k d lt =
    let here = all k d lt in
    record { sound = here.sound; number = here.number; tenures = tenures_later m n (get_or vs k d).state.slots le here.tenures; owes_none = here.owes_none; numbers = here.numbers }
