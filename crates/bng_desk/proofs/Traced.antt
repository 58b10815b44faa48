-- A round that the desk held is one as a trace holds it.
use Rattle.std.proofs.Common.{◌≡◌, inl, inr, ⊎_elim, ℕ, zero, suc, ◌+◌, ◌<◌, ◌≤◌, ◌==◌, ◌%◌, Bool, true, false, cond, eqb, ◌||◌, List, [], ◌∷◌, ◌++◌, Option, Some, None, is_some, map, filter, length, get_or, slice_get, refl, sym, ap, subst, ◌∙◌, arith}
use Rattle.std.specs.Prelude.{◌⊎◌, IsSome, sum_by, slice_index_or}
use Rattle.std.specs.List.{All, AllByRecursion, AllZip, Contains, flat_map}
use Rattle.std.proofs.lemmas.Bool.{eq-eqb, ne_eqb}
use Rattle.std.proofs.lemmas.Bool.Decides.{nat_tests}
use Rattle.std.proofs.lemmas.List.Elements.{filter-append, recursion_from_All}
use Rattle.std.proofs.lemmas.List.Sums.{sum_by-append, sum_by-cons}
use Rattle.std.proofs.lemmas.Option.{none-some, same_Some}
use Rattle.bng_base.specs.declared.address.Ip4.{Ip4}
use Rattle.bng_base.specs.declared.book.Book.{Book}
use Rattle.bng_base.specs.declared.fate.Fate.{Fate}
use Rattle.bng_base.specs.declared.item.Claim.{Claim}
use Rattle.bng_base.specs.declared.item.Claim.TheVariants.{Held, Exhausted}
use Rattle.bng_base.specs.declared.item.Entry.{Entry}
use Rattle.bng_base.specs.declared.item.Item.{Item}
use Rattle.bng_base.specs.declared.item.Loose.{Loose}
use Rattle.bng_engine.specs.Calls.{Moves}
use Rattle.bng_engine.specs.Claims.{NoneLater, claimed_at, is_held, refused_at, times_in}
use Rattle.bng_engine.specs.Journals.{AreSteps, after, claims_of, refusals_of}
use Rattle.bng_engine.specs.Lists.{Zip3}
use Rattle.bng_engine.specs.Pool.{ClaimsSoFar}
use Rattle.bng_engine.specs.Rounds.{IsRoundOfShard, ShardRound, journals_of}
use Rattle.bng_engine.specs.Showing.{with_journal}
use Rattle.bng_engine.specs.Turns.{journals_in}
use Rattle.bng_engine.specs.Views.{ShardView}
use Rattle.bng_engine.proofs.Everywhere.{all_append, all_mapped}
use Rattle.bng_engine.proofs.Journals.{run_few}
use Rattle.bng_pool.specs.Plain.{PlainView}
use Rattle.bng_pool.specs.Tables.{Table, entry}
use Rattle.bng_steps.specs.declared.destination.Destination.{Destination}
use Rattle.bng_steps.specs.declared.destination.Destination.TheVariants.{Loose as LeadsNowhere, Stands as LeadsTo, Holder}
use Rattle.bng_steps.specs.declared.rules.Rules.{Rules}
use Rattle.bng_steps.specs.declared.whose.Whose.{Whose}
use Rattle.bng_steps.specs.declared.whose.Whose.TheVariants.{Loose as IsLoose, Stands}
use Rattle.bng_steps.specs.Protocol.{Handled, ShardState, addresses_in, entry_of, pppoe, refused_by}
use Rattle.bng_steps.specs.Rounds.{AreRising, IsFoundAt, IsHeldOr, IsInOrder, IsRound as IsTracedRound, MayBe, Standing, StaysHeld, entries, entry_stood, list_of, loose_stood, stands_at}
use Rattle.bng_steps.specs.Seats.{IsCountedFrom}
use Rattle.bng_steps.specs.Whose.{IsFound, IsHeldOr as IsHeldThen}
use Rattle.bng_steps.proofs.StepLaws.{pppoe_laws}
use Rattle.bng_desk.specs.Items.{all_loose, entries_in, loose_in, loose_item, stands_in, without_claim}
use Rattle.bng_desk.specs.Round.{AreClaimed, AreParts, HasAll, IsDealt, IsPart, IsRound, IsWhoseIn, Round, StandsWithin, entries_of, handled_states, held_by, of_seat, view_of, views_of}
use Rattle.bng_desk.specs.Traced.{rounds_in, standing_after, standing_before}
use Rattle.bng_desk.proofs.Listed.{all_by_seat, below_or_not, beyond, listed, places_alike}
use Rattle.bng_desk.proofs.Returning.{held_in}
use Rattle.bng_desk.proofs.Zips.{zip_length}

abbrev Sights : Type 0
Sights = List (ShardView ShardState Handled)

-- The parts of a round, shard by shard -----------------------------------------------------------------------------------

rounds_are : (vs : Sights) → map entries (journals_of (rounds_in vs)) ≡ map entries_of vs
rounds_are [] = refl
rounds_are (v ∷ vs) = ap (λ (xs : List (List Entry)). entries_of v ∷ xs) (rounds_are vs)

journals_are : (vs : Sights) → journals_of (rounds_in vs) ≡ journals_in vs
journals_are [] = refl
journals_are (v ∷ vs) = ap (λ (xs : List (List Handled)). v.journal ∷ xs) (journals_are vs)

-- the shard whose journal is spoken of
part_at : (lists : List (List Item)) (whose : List (List Whose)) (moment from shard : ℕ) (vs : Sights) (es : List Entry) → AreParts lists whose from moment vs → slice_get (map entries_of vs) shard ≡ Some es
    → IsPart lists whose (from + shard) moment (map without_claim es)
part_at lists whose moment from shard [] es parts at = absurd (none-some es at)
part_at lists whose moment from zero (v ∷ vs) es parts at =
    let here : from ≡ from + 0 = omega arith in
    subst (λ (n : ℕ). IsPart lists whose n moment (map without_claim es)) here (subst (λ (xs : List Entry). IsPart lists whose from moment (map without_claim xs)) (same_Some (entries_of v) es at) parts.0)
part_at lists whose moment from (suc shard) (v ∷ vs) es parts at =
    let next : from + 1 + shard ≡ from + suc shard = omega arith in
    subst (λ (n : ℕ). IsPart lists whose n moment (map without_claim es)) next (part_at lists whose moment (from + 1) shard vs es parts.1 at)

-- Places rise, and moments are the round's ------------------------------------------------------------------------------

abbrev places : List Entry → List ℕ
places es = map (λ (e : Entry). e.place) es

all_from : (n m : ℕ) (ns : List ℕ) → n ≤ m → AllByRecursion (λ k. m ≤ k) ns → AllByRecursion (λ k. n ≤ k) ns
all_from n m [] le all = tt
all_from n m (k ∷ ns) le all = (omega (arith, le, all.0), all_from n m ns le all.1)

above : (n : ℕ) (ns : List ℕ) → AllByRecursion (λ k. n + 1 ≤ k) ns → AllByRecursion (λ k. n < k) ns
above n [] all = tt
above n (k ∷ ns) all = (omega (arith, all.0), above n ns all.1)

module _ (seat shard moment : ℕ) where
  from_here : (b : Bool) (place : ℕ) (i : Item) (es : List Entry) → AllByRecursion (λ k. place ≤ k) (places es) → AllByRecursion (λ k. place ≤ k) (places (cond b (entry_of seat place moment i ∷ []) [] ++ es))
  from_here true place i es all = (omega arith, all)
  from_here false place i es all = all

  places_from : (place : ℕ) (items : List Item) (whose : List Whose) → AllByRecursion (λ k. place ≤ k) (places (entries_in seat shard place moment items whose))
  places_from place [] whose = tt
  places_from place (i ∷ is) [] = tt
  places_from place (i ∷ is) (w ∷ ws) =
      from_here (stands_in shard w) place i (entries_in seat shard (place + 1) moment is ws)
      (all_from place (place + 1) (places (entries_in seat shard (place + 1) moment is ws)) (omega arith) (places_from (place + 1) is ws))

  rising_here : (b : Bool) (place : ℕ) (i : Item) (es : List Entry) → AllByRecursion (λ k. place + 1 ≤ k) (places es) → AreRising (places es) → AreRising (places (cond b (entry_of seat place moment i ∷ []) [] ++ es))
  rising_here true place i es all rising = (above place (places es) all, rising)
  rising_here false place i es all rising = rising

  rising_in : (place : ℕ) (items : List Item) (whose : List Whose) → AreRising (places (entries_in seat shard place moment items whose))
  rising_in place [] whose = tt
  rising_in place (i ∷ is) [] = tt
  rising_in place (i ∷ is) (w ∷ ws) =
      rising_here (stands_in shard w) place i (entries_in seat shard (place + 1) moment is ws) (places_from (place + 1) is ws) (rising_in (place + 1) is ws)

  -- what holds of each entry of a list
  module _ (P : Entry → Type 0) where
    kept_here : (b : Bool) (e : Entry) (es : List Entry) → (b ≡ true → P e) → AllByRecursion P es → AllByRecursion P (cond b (e ∷ []) [] ++ es)
    kept_here true e es here all = (here refl, all)
    kept_here false e es here all = all

    all_in : (R : Item → Whose → Type 0) → ((place : ℕ) (i : Item) (w : Whose) → stands_in shard w ≡ true → R i w → P (entry_of seat place moment i)) → (place : ℕ) (items : List Item) (whose : List Whose) → AllZip R items whose
        → AllByRecursion P (entries_in seat shard place moment items whose)
    all_in R each place [] whose all = tt
    all_in R each place (i ∷ is) [] all = absurd all
    all_in R each place (i ∷ is) (w ∷ ws) all =
        kept_here (stands_in shard w) (entry_of seat place moment i) (entries_in seat shard (place + 1) moment is ws) (λ stands. each place i w stands all.0) (all_in R each (place + 1) is ws all.1)

-- the lists of one seat
zip_of : {A B : Type 0} (R : A → B → Type 0) (lists : List (List A)) (whose : List (List B)) (k : ℕ) → AllZip (AllZip R) lists whose → k < length lists → AllZip R (get_or lists k []) (get_or whose k [])
zip_of R [] whose k all lt = absurd (omega (arith, lt))
zip_of R (xs ∷ lists) [] k all lt = absurd all
zip_of R (xs ∷ lists) (ys ∷ whose) zero all lt = all.0
zip_of R (xs ∷ lists) (ys ∷ whose) (suc k) all lt = zip_of R lists whose k all.1 (omega (arith, lt))

module _ (lists : List (List Item)) (whose : List (List Whose)) (shard moment : ℕ) (es : List Entry) (part : IsPart lists whose shard moment (map without_claim es)) where
  abbrev bare : List Entry
  bare = map without_claim es

  abbrev seats : AllByRecursion (λ (e : Entry). e.seat < length lists) bare
  seats = recursion_from_All (λ (e : Entry). e.seat < length lists) bare part.seats

  -- what holds of the entries of all lists holds of the journal's
  in_journal : (R : Item → Whose → Type 0) (P : Entry → Type 0) → AllZip (AllZip R) lists whose
      → ((seat place : ℕ) (i : Item) (w : Whose) → stands_in shard w ≡ true → R i w → P (entry_of seat place moment i)) → AllByRecursion (λ (e : Entry). P (without_claim e)) es
  in_journal R P all each =
      all_mapped P without_claim es
      (all_by_seat P (length lists) bare seats
      (λ seat lt. subst (AllByRecursion P) (sym (part.each seat lt)) (all_in seat shard moment P R (each seat) 0 (get_or lists seat []) (get_or whose seat []) (zip_of R lists whose seat all lt))))

  rising_at : (seat : ℕ) → (seat < length lists) ⊎ (length lists ≤ seat) → AreRising (places (of_seat seat bare))
  rising_at seat (inl lt) = subst (λ (xs : List Entry). AreRising (places xs)) (sym (part.each seat lt)) (rising_in seat shard moment 0 (get_or lists seat []) (get_or whose seat []))
  rising_at seat (inr far) = none bare seats
    where
      none : (xs : List Entry) → AllByRecursion (λ (e : Entry). e.seat < length lists) xs → AreRising (places (of_seat seat xs))
      none [] all = tt
      none (e ∷ xs) all =
          subst (λ (b : Bool). AreRising (places (cond b (e ∷ of_seat seat xs) (of_seat seat xs)))) (sym (other e all.0)) (none xs all.1)
        where
          other : (e : Entry) → e.seat < length lists → eqb e.seat seat ≡ false
          other e lt = ne_eqb e.seat seat (λ same. omega (arith, same, lt, far))

  in_order : (R : Item → Whose → Type 0) → AllZip (AllZip R) lists whose → IsInOrder moment es
  in_order R all = record {
    places = λ seat. subst AreRising (sym (places_alike seat es)) (rising_at seat (below_or_not seat (length lists)));
    moments = in_journal R (λ (e : Entry). e.moment ≡ moment) all (λ seat place i w stands is. refl);
  }

-- Whose an item may be ----------------------------------------------------------------------------------------------------

module _ (r : Rules) (opening last : Table) where
  -- a table in between has what was held
  then_or_before : (fate : Fate) (table : Table) (address : ℕ) (w : Whose) → HasAll opening table → (o p : Option ℕ) → entry opening address ≡ o → entry table address ≡ p → IsHeldThen fate p w → IsHeldOr fate o w
  then_or_before fate table address w since (Some k) p was is held =
      subst (λ (q : Option ℕ). IsHeldThen fate q w) (sym is ∙ since address k was) held
  then_or_before fate table address w since None None was is held = inl held
  then_or_before fate table address w since None (Some k) was is held = inr (k, held)

  found_at : (table : Table) (d : Destination) (w : Whose) → HasAll opening table → IsFound (entry table) d w → IsFoundAt (entry opening) d w
  found_at table (LeadsNowhere fate) w since found = found
  found_at table (LeadsTo shard) w since found = found
  found_at table (Holder address fate) w since found = then_or_before fate table address.0 w since (entry opening address.0) (entry table address.0) refl refl found

  may_be : (i : Item) (w : Whose) → IsWhoseIn r opening last i w → MayBe r (entry opening) i w
  may_be i w is = record { destination = is.is.destination; leads = is.is.leads; found = found_at is.table is.is.destination w is.since is.is.found }

  standing_here : (shard : ℕ) (w : Whose) → stands_in shard w ≡ true → w ≡ Stands shard
  standing_here shard (IsLoose fate) stands = absurd cc
  standing_here shard (Stands n) stands = ap Stands (number n shard stands)
    where
      number : (n m : ℕ) → eqb n m ≡ true → n ≡ m
      number n m is = grind (arith, nat_tests)

  abbrev Its : Item → Whose → Type 0
  Its = IsWhoseIn r opening last

  may_stand : (lists : List (List Item)) (whose : List (List Whose)) (shard moment : ℕ) (es : List Entry) → IsPart lists whose shard moment (map without_claim es) → AllZip (AllZip Its) lists whose
      → AllByRecursion (λ (e : Entry). MayBe r (entry opening) e.item (Stands shard)) es
  may_stand lists whose shard moment es part all =
      in_journal lists whose shard moment es part Its (λ (e : Entry). MayBe r (entry opening) e.item (Stands shard)) all
      (λ seat place i w stands is. subst (MayBe r (entry opening) i) (standing_here shard w stands) (may_be i w is))

  abbrev MayLeave : Loose → Type 0
  MayLeave l = MayBe r (entry opening) l.item (IsLoose l.fate)

  one_leaves : (seat place : ℕ) (i : Item) (w : Whose) (ls : List Loose) → Its i w → AllByRecursion MayLeave ls → AllByRecursion MayLeave (loose_item seat place i w ++ ls)
  one_leaves seat place i (IsLoose fate) ls is all = (may_be i (IsLoose fate) is, all)
  one_leaves seat place i (Stands n) ls is all = all

  may_leave : (seat place : ℕ) (items : List Item) (whose : List Whose) → AllZip Its items whose → AllByRecursion MayLeave (loose_in seat place items whose)
  may_leave seat place [] whose all = tt
  may_leave seat place (i ∷ is) [] all = absurd all
  may_leave seat place (i ∷ is) (w ∷ ws) all = one_leaves seat place i w (loose_in seat (place + 1) is ws) all.0 (may_leave seat (place + 1) is ws all.1)

  all_may_leave : (seat : ℕ) (lists : List (List Item)) (whose : List (List Whose)) → AllZip (AllZip Its) lists whose → AllByRecursion MayLeave (all_loose seat lists whose)
  all_may_leave seat [] whose all = tt
  all_may_leave seat (items ∷ lists) [] all = absurd all
  all_may_leave seat (items ∷ lists) (ws ∷ whose) all =
      all_append MayLeave (loose_in seat 0 items ws) (all_loose (seat + 1) lists whose) (may_leave seat 0 items ws all.0) (all_may_leave (seat + 1) lists whose all.1)

-- Runs of steps -------------------------------------------------------------------------------------------------------------

all_run : (vs : List (ShardView ShardState Entry)) (xs : Sights) → AllZip (Moves pppoe) (views_of vs) xs
    → Zip3 (IsRoundOfShard pppoe) (map (λ (v : ShardView ShardState Entry). v.state) vs) (rounds_in xs) (handled_states vs xs)
all_run [] [] moves = tt
all_run [] (x ∷ xs) moves = absurd moves
all_run (v ∷ vs) [] moves = absurd moves
all_run (v ∷ vs) (x ∷ xs) moves = (
  record {
    steps = moves.0.steps;
    limits = moves.0.limits;
    few = omega (arith, run_few pppoe pppoe_laws x.allowance 0 v.state x.journal moves.0.steps moves.0.limits (omega arith));
    state = refl;
  },
  all_run vs xs moves.1,
)

-- Addresses -----------------------------------------------------------------------------------------------------------------

some_is : (o : Option ℕ) → is_some o ≡ true → (k : ℕ) × (o ≡ Some k)
some_is None is = absurd cc
some_is (Some k) is = (k, refl)

none_is : (o : Option ℕ) → is_some o ≡ false → o ≡ None
none_is None is = refl
none_is (Some k) is = absurd cc

-- an address that no entry claims is held by whom it was held
stays_as : (t t' : Table) (a : ℕ) (o : Option ℕ) → entry t a ≡ o → HasAll t t' → is_some (entry t' a) ≡ (is_some (entry t a) || false) → entry t' a ≡ entry t a
stays_as t t' a (Some k) is keeps same = keeps a k is ∙ sym is
stays_as t t' a None is keeps same = none_is (entry t' a) (same ∙ ap (λ (o : Option ℕ). is_some o || false) is) ∙ sym is

-- what later entries claim, once one was told that it is held
later_none : (a : ℕ) (earlier later : List Handled) (h : Handled) → NoneLater pppoe a (earlier ++ h ∷ later) → 1 ≤ times_in a h.refused → times_in a (claims_of pppoe later) ≡ 0
later_none a [] later h none told =
    let all = none.0 told in
    omega (arith, all, sum_by-append (λ (x : ℕ). cond (eqb x a) 1 0) (pppoe.claimed h) (claims_of pppoe later))
later_none a (e ∷ earlier) later h none told = later_none a earlier later h none.1 told

journal_at : (P : List Handled → Type 0) (journals : List (List Handled)) (shard : ℕ) (es : List Handled) → AllByRecursion P journals → slice_get journals shard ≡ Some es → P es
journal_at P [] shard es all at = absurd (none-some es at)
journal_at P (x ∷ journals) zero es all at = subst P (same_Some x es at) all.0
journal_at P (x ∷ journals) (suc shard) es all at = journal_at P journals shard es all.1 at

told_in : (a : ℕ) (earlier later : List Handled) (h : Handled) → 1 ≤ times_in a h.refused → 1 ≤ times_in a (refusals_of pppoe (earlier ++ h ∷ later))
told_in a [] later h told = omega (arith, told, sum_by-append (λ (x : ℕ). cond (eqb x a) 1 0) (pppoe.refused h) (refusals_of pppoe later))
told_in a (e ∷ earlier) later h told =
    omega (arith, told_in a earlier later h told, sum_by-append (λ (x : ℕ). cond (eqb x a) 1 0) (pppoe.refused e) (refusals_of pppoe (earlier ++ h ∷ later)))

told_among : (a : ℕ) (journals : List (List Handled)) (shard : ℕ) (es : List Handled) → slice_get journals shard ≡ Some es → 1 ≤ times_in a (refusals_of pppoe es) → 1 ≤ refused_at pppoe a journals
told_among a [] shard es at told = absurd (none-some es at)
told_among a (x ∷ journals) zero es at told =
    omega (arith, told, ap (λ (ys : List Handled). times_in a (refusals_of pppoe ys)) (same_Some x es at), sum_by-cons (λ (ys : List Handled). times_in a (refusals_of pppoe ys)) x journals)
told_among a (x ∷ journals) (suc shard) es at told =
    omega (arith, told_among a journals shard es at told, sum_by-cons (λ (ys : List Handled). times_in a (refusals_of pppoe ys)) x journals)

module _ (pool : PlainView) (table : PlainView) (journals : List (List Handled)) (claims : ClaimsSoFar pppoe (held_by pool) journals (held_by table)) where
  stays_held : (a shard : ℕ) (earlier later : List Handled) (h : Handled) → slice_get journals shard ≡ Some (earlier ++ h ∷ later) → 1 ≤ times_in a h.refused → StaysHeld (entry table.table) later a
  stays_held a shard earlier later h at told =
      let es = earlier ++ h ∷ later in (
        sym (held_in table.table a) ∙ claims.holds a ∙ claims.claims.refused a (told_among a journals shard es at (told_in a earlier later h told)),
        later_none a earlier later h (journal_at (NoneLater pppoe a) journals shard es (claims.claims.in_order a) at) told,
      )

-- what an entry was told is what its claim says, by the rules
told_by : (r : Rules) (s : ShardState) (earlier later : List Handled) (h : Handled) → s.rules ≡ r → AreSteps pppoe s (earlier ++ h ∷ later) → h.refused ≡ refused_by r.pools h.deed.entry.claim
told_by r s [] later h is steps = steps.0.refused ∙ ap (λ (x : Rules). refused_by x.pools h.deed.entry.claim) is
told_by r s (e ∷ earlier) later h is steps = told_by r (pppoe.next s e) earlier later h is steps.1

all_told_by : (r : Rules) (vs : List (ShardView ShardState Entry)) (xs : Sights) → AllByRecursion (λ (v : ShardView ShardState Entry). v.state.rules ≡ r) vs → AllZip (Moves pppoe) (views_of vs) xs
    → (shard : ℕ) (earlier later : List Handled) (h : Handled) → slice_get (journals_in xs) shard ≡ Some (earlier ++ h ∷ later) → h.refused ≡ refused_by r.pools h.deed.entry.claim
all_told_by r [] [] rules moves shard earlier later h at = absurd (none-some (earlier ++ h ∷ later) at)
all_told_by r [] (x ∷ xs) rules moves shard earlier later h at = absurd moves
all_told_by r (v ∷ vs) [] rules moves shard earlier later h at = absurd moves
all_told_by r (v ∷ vs) (x ∷ xs) rules moves zero earlier later h at =
    told_by r v.state earlier later h rules.0 (subst (AreSteps pppoe v.state) (same_Some x.journal (earlier ++ h ∷ later) at) moves.0.steps)
all_told_by r (v ∷ vs) (x ∷ xs) rules moves (suc shard) earlier later h at = all_told_by r vs xs rules.1 moves.1 shard earlier later h at

times_self : (a : ℕ) → times_in a (a ∷ []) ≡ 1
times_self a = sum_by-cons (λ (x : ℕ). cond (eqb x a) 1 0) a [] ∙ ap (λ (b : Bool). cond b 1 0 + 0) (eq-eqb a a refl)

each_time : (P : ℕ → Type 0) (xs : List ℕ) → ((a : ℕ) → 1 ≤ times_in a xs → P a) → AllByRecursion P xs
each_time P [] each = tt
each_time P (x ∷ xs) each = (
  each x (omega (arith, sum_by-cons (λ (y : ℕ). cond (eqb y x) 1 0) x xs, ap {B = ℕ} (λ (b : Bool). cond b 1 0) (eq-eqb x x refl))),
  each_time P xs (λ a some. each a (omega (arith, some, sum_by-cons (λ (y : ℕ). cond (eqb y a) 1 0) x xs))),
)

-- the shard at a place
record At (vs : Sights) (shard : ℕ) (es : List Handled) : Type 0 where
  pub view : ShardView ShardState Handled
  pub within : shard < length vs
  pub its : es ≡ (get_or vs shard view).journal

shard_at : (vs : Sights) (shard : ℕ) (es : List Handled) → slice_get (journals_in vs) shard ≡ Some es → At vs shard es
shard_at [] shard es at = absurd (none-some es at)
shard_at (v ∷ vs) zero es at = record { view = v; within = omega arith; its = sym (same_Some v.journal es at) }
shard_at (v ∷ vs) (suc shard) es at =
    let rest = shard_at vs shard es at in
    record { view = rest.view; within = omega (arith, rest.within); its = rest.its }

-- The law ------------------------------------------------------------------------------------------------------------------

mod_one : (n : ℕ) → n % 1 ≡ 0
mod_one n = omega arith

-- whose each item of a seat's list was
its_own : (R : Item → Whose → Type 0) (items : List Item) (whose : List Whose) (n place : ℕ) (i : Item) → AllZip R items whose → AllByRecursion (StandsWithin n) whose → slice_get items place ≡ Some i
    → (w : Whose) × (slice_get whose place ≡ Some w) × StandsWithin n w
its_own R [] whose n place i all within at = absurd (none-some i at)
its_own R (x ∷ items) [] n place i all within at = absurd all
its_own R (x ∷ items) (w ∷ whose) n zero i all within at = (w, refl, within.0)
its_own R (x ∷ items) (w ∷ whose) n (suc place) i all within at = its_own R items whose n place i all.1 within.1 at

module _ (r : Rules) (shards : List (ShardView ShardState Entry)) (pool : PlainView) (tallies : List Book) (moment : ℕ) (items : List Item) (round : Round) (rules : AllByRecursion (λ (v : ShardView ShardState Entry). v.state.rules ≡ r) shards)
    (is : IsRound r shards pool tallies moment (items ∷ []) round) where
  abbrev lists : List (List Item)
  lists = items ∷ []

  abbrev Own : Item → Whose → Type 0
  Own = IsWhoseIn r pool.table round.claimed.table

  abbrev told : (shard : ℕ) (earlier later : List Handled) (h : Handled) → slice_get (journals_in round.shards) shard ≡ Some (earlier ++ h ∷ later) → h.refused ≡ refused_by r.pools h.deed.entry.claim
  told = all_told_by r shards round.shards rules is.turn.shards

  of_lists : (seat place : ℕ) (i : Item) → slice_get (get_or lists seat []) place ≡ Some i → (w : Whose) × (slice_get (get_or round.whose seat []) place ≡ Some w) × StandsWithin (length round.shards) w
  of_lists seat place i at = of_seat_at seat at
    where
      inside : (whose : List (List Whose)) → All (All (StandsWithin (length round.shards))) whose → AllByRecursion (λ (ws : List Whose). AllByRecursion (StandsWithin (length round.shards)) ws) whose
      inside [] all = tt
      inside (ws ∷ whose) all = (
        recursion_from_All (StandsWithin (length round.shards)) ws (all 0 [] (omega arith)),
        inside whose (λ k d lt. all (suc k) d (omega (arith, lt))),
      )

      here : (whose : List (List Whose)) → AllZip (AllZip Own) lists whose → AllByRecursion (λ (ws : List Whose). AllByRecursion (StandsWithin (length round.shards)) ws) whose → slice_get items place ≡ Some i
          → (w : Whose) × (slice_get (get_or whose 0 []) place ≡ Some w) × StandsWithin (length round.shards) w
      here [] all within there = absurd all
      here (ws ∷ whose) all within there = its_own Own items ws (length round.shards) place i all.0 within.0 there

      of_seat_at : (n : ℕ) → slice_get (get_or lists n []) place ≡ Some i → (w : Whose) × (slice_get (get_or round.whose n []) place ≡ Some w) × StandsWithin (length round.shards) w
      of_seat_at zero there = here round.whose is.dealt.whose (inside round.whose is.dealt.inside) there
      of_seat_at (suc n) there = absurd (none-some i there)

  in_orders : (from : ℕ) (vs : Sights) → AreParts lists round.whose from moment vs → AllByRecursion (IsInOrder moment) (map entries_of vs)
  in_orders from [] parts = tt
  in_orders from (v ∷ vs) parts = (in_order lists round.whose from moment (entries_of v) parts.0 Own is.dealt.whose, in_orders (from + 1) vs parts.1)

  seated : (seat number : ℕ) (i : Item) → Contains (list_of lists seat) i → IsCountedFrom i.kind i number → seat ≡ number % length lists
  seated zero number i there counted = sym (mod_one number)
  seated (suc seat) number i there counted = absurd (omega (arith, there.1))

  here : (shard : ℕ) (es : List Entry) → IsPart lists round.whose (0 + shard) moment (map without_claim es) → IsPart lists round.whose shard moment (map without_claim es)
  here shard es part =
      let same : 0 + shard ≡ shard = omega arith in
      subst (λ (n : ℕ). IsPart lists round.whose n moment (map without_claim es)) same part

  pub round_is_traced : IsTracedRound r (standing_before shards pool) moment lists (rounds_in round.shards) (all_loose 0 lists round.whose) (standing_after shards round)
  round_is_traced =
      let same = rounds_are round.shards in
      let ours = journals_are round.shards in
      let claims = is.dealt.claimed.claims in
      record {
        items = record {
          each = λ seat place.
              ap (λ (xs : List (List Entry)). filter (stands_at seat place) (flat_map (λ (es : List Entry). map entry_stood es) xs ++ map loose_stood (all_loose 0 lists round.whose))) same
              ∙ filter-append (stands_at seat place) (flat_map (λ (es : List Entry). map entry_stood es) (map entries_of round.shards)) (map loose_stood (all_loose 0 lists round.whose))
              ∙ listed seat place lists round.whose moment round.shards is.dealt.parts (zip_length (AllZip Own) lists round.whose is.dealt.whose) (of_lists seat place);
          seats = seated;
        };
        order = subst (AllByRecursion (IsInOrder moment)) (sym same) (in_orders 0 round.shards is.dealt.parts);
        whose = record {
          stand = λ shard es at.
              may_stand r pool.table round.claimed.table lists round.whose shard moment es
              (here shard es (part_at lists round.whose moment 0 shard round.shards es is.dealt.parts (ap (λ (xs : List (List Entry)). slice_get xs shard) (sym same) ∙ at)))
              is.dealt.whose;
          left = all_may_leave r pool.table round.claimed.table 0 lists round.whose is.dealt.whose;
        };
        steps = all_run shards round.shards is.turn.shards;
        claimed = record {
          different = λ a. subst (λ (js : List (List Handled)). claimed_at pppoe a js ≤ 1) (sym ours) (claims.claims.once a);
          free = λ a some. none_is (entry pool.table a) (sym (held_in pool.table a) ∙ claims.claims.free a (subst (λ (js : List (List Handled)). 1 ≤ claimed_at pppoe a js) ours some));
          stay = λ a none.
              stays_as pool.table round.claimed.table a (entry pool.table a) refl is.dealt.claimed.keeps
              (sym (held_in round.claimed.table a)
              ∙ claims.holds a
              ∙ ap (λ (b : Bool). b || eqb 1 (claimed_at pppoe a (journals_in round.shards))) (held_in pool.table a)
              ∙ ap (λ (n : ℕ). is_some (entry pool.table a) || eqb 1 n) (ap (λ (js : List (List Handled)). claimed_at pppoe a js) (sym ours) ∙ none));
          held = λ a shard es at claimed.
              let here = shard_at round.shards shard es (ap (λ (js : List (List Handled)). slice_get js shard) (sym ours) ∙ at) in
              is.dealt.claimed.holders shard here.view a here.within (subst (λ (hs : List Handled). Contains (claims_of pppoe hs) a) here.its claimed);
        };
        held = λ shard earlier later h a at claim.
            let there = ap (λ (js : List (List Handled)). slice_get js shard) (sym ours) ∙ at in
            let all : h.refused ≡ a.0 ∷ [] = told shard earlier later h there ∙ ap (refused_by r.pools) claim in
            stays_held pool round.claimed (journals_in round.shards) claims a.0 shard earlier later h there (omega (arith, ap (times_in a.0) all, times_self a.0));
        exhausted = λ shard number earlier later h at claim.
            let there = ap (λ (js : List (List Handled)). slice_get js shard) (sym ours) ∙ at in
            let all : h.refused ≡ addresses_in (slice_get r.pools number) = told shard earlier later h there ∙ ap (refused_by r.pools) claim in
            each_time (StaysHeld (entry round.claimed.table) later) (addresses_in (slice_get r.pools number))
            (λ a some. stays_held pool round.claimed (journals_in round.shards) claims a shard earlier later h there (omega (arith, some, ap (times_in a) all)));
      }
