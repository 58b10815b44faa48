-- A round goes on by one item.
use Rattle.std.proofs.Common.{◌≡◌, ℕ, zero, suc, eqb, ◌+◌, ◌*◌, ◌<◌, ◌≤◌, Bool, true, false, cond, List, [], ◌∷◌, ◌++◌, Option, Some, None, map, length, get_or, set, refl, sym, ap, subst, ◌∙◌, arith, append-nil, length-append}
use Rattle.std.specs.List.{All, AllByRecursion, AllZip, Contains, sum_by}
use Rattle.std.proofs.lemmas.List.{length-map, map-append}
use Rattle.std.proofs.lemmas.List.Elements.{All-set, All-from_recursion, recursion_from_All}
use Rattle.std.proofs.lemmas.List.Sums.{sum_by-append, sum_by-cons, sum_by-le, sum_by-le-sum_by, sum_by-set, sum_by_push}
use Rattle.bng_base.specs.declared.book.Book.{Book}
use Rattle.bng_base.specs.declared.fate.Fate.{Fate}
use Rattle.bng_base.specs.declared.item.Charge.{Charge}
use Rattle.bng_base.specs.declared.item.Entry.{Entry}
use Rattle.bng_base.specs.declared.item.Item.{Item}
use Rattle.bng_base.specs.declared.item.ItemKind.{ItemKind}
use Rattle.bng_base.specs.declared.item.ItemKind.TheVariants.{Access, Core, Tunnel, Verdict, Change, Tick, End}
use Rattle.bng_base.specs.declared.item.Loose.{Loose}
use Rattle.bng_base.specs.declared.item.OutRecord.{OutRecord}
use Rattle.bng_engine.specs.Books.{book_at, passed_by, TalliesSoFar}
use Rattle.bng_engine.specs.Calls.{IsReady, InTurn}
use Rattle.bng_engine.specs.Calls.{Handles as HandlesSeen, IsMadeReady as IsReadied}
use Rattle.bng_engine.specs.Journals.{claims_of}
use Rattle.bng_engine.specs.Pool.{Asks, ClaimsSoFar}
use Rattle.bng_engine.specs.Protocol.{IsOfSeat}
use Rattle.bng_engine.specs.Quantities.{Quantity, Octets, Packets, in_book}
use Rattle.bng_engine.specs.Showing.{Shows, with_journal}
use Rattle.bng_engine.specs.Sums.{part_of_charge, charge_if, is_directed, passed_sum}
use Rattle.bng_engine.specs.Views.{ShardView, row_keys}
use Rattle.bng_engine.specs.Terms.{keys}
use Rattle.bng_engine.specs.Turns.{InRound, journals_in}
use Rattle.bng_engine.proofs.Everywhere.{all_append}
use Rattle.bng_engine.proofs.Joining.{round_begins, round_goes_on}
use Rattle.bng_engine.proofs.SameLists.{same_equal}
use Rattle.bng_engine.proofs.Showing.{shows_begin, shows_handles, shows_more}
use Rattle.bng_engine.proofs.Walks.{zip_same, zip_set}
use Rattle.bng_pool.specs.Plain.{PlainView}
use Rattle.bng_pool.specs.Tables.{Table, entry}
use Rattle.bng_steps.specs.declared.rules.Rules.{Rules}
use Rattle.bng_steps.specs.declared.whose.Whose.{Whose}
use Rattle.bng_steps.specs.declared.whose.Whose.TheVariants.{Loose as IsLoose, Stands}
use Rattle.bng_steps.specs.Hearing.{outs_most}
use Rattle.bng_steps.specs.Protocol.{ShardState, Handled, pppoe, packet_octets, entry_of, entry_with, terms_of}
use Rattle.bng_shard.specs.Handling.{HasPools}
use Rattle.bng_steps.specs.Sums.{Rises, IsLow}
use Rattle.bng_steps.specs.Whose.{IsWhose}
use Rattle.bng_steps.proofs.StepLaws.{pppoe_laws}
use Rattle.bng_desk.specs.declared.drops.Drops.{Drops}
use Rattle.bng_desk.specs.Counting.{with_fate, drops_of, plus}
use Rattle.bng_desk.specs.Items.{loose_item, loose_in, without_claim}
use Rattle.bng_desk.specs.Round.{AreClaimed, HasAll, IsWhoseIn, StandsWithin, views_of, held_by, entries_of}
use Rattle.bng_desk.specs.Taking.{AreDealt, AreInOrder, Deals, DealsOne, DealsTo, HasAllowance, HasRows, IsLight, IsPlain}
use Rattle.bng_desk.proofs.Asking.{all_itself, all_more, asks_it, claimed_more, grows}
use Rattle.bng_desk.proofs.DropLaws.{drops_none}
use Rattle.bng_desk.proofs.Readying.{Shards, WorksBy}
use Rattle.bng_desk.proofs.Zips.{zip_push, zip_length, zip_at, zip_onward, zip_set_both}
use Rattle.bng_desk.proofs.Dealing.{all_fates, handed_to, drops_with, loose_fates, shard_fates, loose_push, dealt_others, dealt_at}

abbrev outs_in : ShardView ShardState Entry → ℕ
outs_in v = length v.outs

abbrev outs_for : Item → ℕ
outs_for i = outs_most i.kind

-- What passes ------------------------------------------------------------------------------------------------------------

abbrev part : (Charge → ℕ) → OutRecord → ℕ
part f o = part_of_charge f o.charge

pub passed_append : (f : Charge → ℕ) (a b : List OutRecord) → passed_sum f (a ++ b) ≡ passed_sum f a + passed_sum f b
passed_append f a b = sum_by-append (part f) a b

-- no shard has more packets than this allows
abbrev AreLight : ℕ → Shards → Type 0
AreLight n vs = All (λ (v : ShardView ShardState Entry). IsLight (4160 * n) v.outs) vs

lighter : (n m : ℕ) (vs : Shards) → n ≤ m → AreLight n vs → AreLight m vs
lighter n m vs le h k d lt q test = omega (arith, h k d lt q test, le)

octets_picked : (b : Bool) (n : ℕ) → cond b n 0 ≤ n
octets_picked true n = omega arith
octets_picked false n = omega arith

packets_picked : (b : Bool) → cond b 1 0 ≤ 1
packets_picked true = omega arith
packets_picked false = omega arith

octets_part : (test : Charge → Bool) (charge : Option Charge) → part_of_charge (charge_if Octets test) charge ≤ part_of_charge (λ c. c.octets) charge
octets_part test None = omega arith
octets_part test (Some c) = octets_picked (test c) c.octets

packets_part : (test : Charge → Bool) (charge : Option Charge) → part_of_charge (charge_if Packets test) charge ≤ 1
packets_part test None = omega arith
packets_part test (Some c) = packets_picked (test c)

few_outs : (kind : ItemKind) → outs_most kind ≤ 320
few_outs (Access number) = omega arith
few_outs Core = omega arith
few_outs Tunnel = omega arith
few_outs Verdict = omega arith
few_outs Change = omega arith
few_outs Tick = omega arith
few_outs End = omega arith

-- of what one step sends
pub step_light : (kind : ItemKind) (outs : List OutRecord) → packet_octets outs ≤ 4160 → length outs ≤ outs_most kind → IsLight 4160 outs
step_light kind outs light few Octets test =
    omega (arith, light, sum_by-le-sum_by (part (charge_if Octets test)) (part (λ c. c.octets)) outs (λ o. octets_part test o.charge))
step_light kind outs light few Packets test =
    omega (arith, few, few_outs kind, sum_by-le (part (charge_if Packets test)) 1 outs (λ k d lt. packets_part test (get_or outs k d).charge))

-- what is below a number is below a higher one
pub low_more : (m n : ℕ) (book : Book) → m ≤ n → IsLow m book → IsLow n book
low_more m n book le low q input = omega (arith, low q input, le)

-- of the only seat
of_first : (n x : ℕ) → n ≡ 0 → cond (eqb n 0) x 0 ≡ x
of_first n x e = ap (λ (m : ℕ). cond (eqb m 0) x 0) e

pub passed_seat : (q : Quantity) (input : Bool) (outs : List OutRecord) → AllByRecursion (IsOfSeat 0) outs → passed_by q 0 input outs ≡ passed_sum (charge_if q (is_directed input)) outs
passed_seat q input [] h = refl
passed_seat q input (o ∷ outs) h =
    let f = charge_if q (is_directed input) in
    omega (
      arith,
      sum_by-cons (λ (r : OutRecord). cond (eqb r.seat 0) (part f r) 0) o outs,
      sum_by-cons (part f) o outs,
      of_first o.seat (part f o) h.0,
      passed_seat q input outs h.1,
    )

rises_each : (tally tally' : Book) (outs : List OutRecord) → AllByRecursion (IsOfSeat 0) outs → Rises tally outs tally' → (q : Quantity) (i : ℕ) (input : Bool) → i < 1 → in_book q input (book_at i (tally' ∷ [])) + 0 ≡ in_book q input (book_at i (tally ∷ [])) + passed_by q i input outs
rises_each tally tally' outs seats rises q zero input lt = omega (arith, rises q input, passed_seat q input outs seats)
rises_each tally tally' outs seats rises q (suc i) input lt = absurd (omega (arith, lt))

rises_so_far : (tally tally' : Book) (outs : List OutRecord) → AllByRecursion (IsOfSeat 0) outs → Rises tally outs tally' → TalliesSoFar (tally ∷ []) outs [] (tally' ∷ [])
rises_so_far tally tally' outs seats rises = record { count = refl; each = rises_each tally tally' outs seats rises }

-- One item more ----------------------------------------------------------------------------------------------------------

-- an item was for this before, and no address was given back since
whose_still : (r : Rules) (opening last next : Table) (items : List Item) (whose : List Whose) → HasAll last next → AllZip (IsWhoseIn r opening last) items whose → AllZip (IsWhoseIn r opening next) items whose
whose_still r opening last next items whose keeps is =
    zip_onward (IsWhoseIn r opening last) (IsWhoseIn r opening next) (λ i w h. record { table = h.table; since = h.since; until = all_more h.table last next h.until keeps; is = h.is }) items whose is

module _ (r : Rules) (pool mid pool' : PlainView) (moment : ℕ) (has_pools : HasPools r.pools mid.ranges) (done : List Item) (item : Item) (olds shards shards' : Shards) (loose loose' : List Loose) (first drops drops' : Drops) (start tally tally' : Book) (fate : Fate) (so_far : Deals r pool mid moment done olds shards loose first drops start tally) (counted : drops' ≡ with_fate drops fate) (rules : All (WorksBy r) shards) (order : AreInOrder shards) where
  abbrev all : List Item
  all = done ++ item ∷ []

  longer : length all ≡ length done + 1
  longer = length-append done (item ∷ [])

  abbrev WhoseIn : Item → Whose → Type 0
  WhoseIn i w = IsWhoseIn r pool.table mid.table i w

  abbrev DealsAll : Type 0
  DealsAll = Deals r pool pool' moment all olds shards' loose' first drops' start tally'

  -- it is for this now
  whose_here : HasAll mid.table pool'.table → (w : Whose) → IsWhose r (entry mid.table) item w → AllZip (IsWhoseIn r pool.table pool'.table) all (so_far.whose ++ w ∷ [])
  whose_here keeps w is =
      zip_push (IsWhoseIn r pool.table pool'.table) done so_far.whose item w (whose_still r pool.table mid.table pool'.table done so_far.whose keeps so_far.is_whose)
      (record { table = mid.table; since = so_far.claimed.keeps; until = keeps; is = is })

  -- a loose item
  more_loose : (cause : Fate) → IsWhose r (entry mid.table) item (IsLoose cause) → DealsTo mid pool' (IsLoose cause) (length done) moment item shards shards' loose loose' tally tally' fate → DealsAll
  more_loose cause is deals =
      let w : Whose = IsLoose cause in
      let l : Loose = record { seat = 0; place = length done; item = item; fate = cause } in
      let old = loose_in 0 0 done so_far.whose in
      let at : 0 + length done ≡ length done = omega arith in
      let new : loose_in 0 0 all (so_far.whose ++ w ∷ []) ≡ old ++ l ∷ [] = loose_push WhoseIn moment 0 done so_far.whose item w so_far.is_whose ∙ ap (λ (n : ℕ). old ++ loose_item 0 n item w) at in
      let kept : mid ≡ pool' = sym deals.1 in
      let same : shards' ≡ shards = deals.2 in
      record {
        whose = so_far.whose ++ w ∷ [];
        is_whose = whose_here (subst (λ (p : PlainView). HasAll mid.table p.table) kept (all_itself mid.table)) w is;
        inside = all_append (StandsWithin (length olds)) so_far.whose (w ∷ []) so_far.inside (tt, tt);
        seen = so_far.seen;
        round = subst (λ (p : PlainView). InRound pppoe (views_of olds) (held_by pool) (start ∷ []) so_far.seen (held_by p) (tally' ∷ [])) kept
            (subst (λ (b : Book). InRound pppoe (views_of olds) (held_by pool) (start ∷ []) so_far.seen (held_by mid) (b ∷ [])) (sym deals.4) so_far.round);
        claimed = subst (λ (p : PlainView). AreClaimed pool p so_far.seen) kept so_far.claimed;
        shown = subst (λ (vs : Shards). AllZip (Shows pppoe) vs so_far.seen) (sym same) so_far.shown;
        allowances = subst (λ (vs : Shards). AllZip HasAllowance olds vs) (sym same) so_far.allowances;
        plain = so_far.plain;
        dealt = dealt_others WhoseIn moment 0 done so_far.whose item w so_far.seen so_far.is_whose (λ k le. refl) so_far.dealt;
        loose_are = deals.3 ∙ ap (λ (ls : List Loose). ls ++ l ∷ []) so_far.loose_are ∙ sym new;
        drops_are = drops_with first drops drops' (all_fates old so_far.seen) (all_fates (old ++ l ∷ []) so_far.seen) cause so_far.drops_are (counted ∙ ap (with_fate drops) deals.0) (loose_fates old l so_far.seen)
            ∙ ap (λ (ls : List Loose). plus first (drops_of (all_fates ls so_far.seen))) (sym new);
        light = subst (λ (vs : Shards). AreLight (length all) vs) (sym same) (lighter (length done) (length all) shards (omega (arith, longer)) so_far.light);
        few = omega (arith, ap (λ (vs : Shards). sum_by outs_in vs) same, so_far.few, sum_by_push outs_for done item);
      }

  -- an item that stands in a shard
  more_standing : (n : ℕ) → IsWhose r (entry mid.table) item (Stands n) → DealsTo mid pool' (Stands n) (length done) moment item shards shards' loose loose' tally tally' fate → DealsAll
  more_standing n is deals =
      let h = deals.0 in
      let e = entry_of 0 (length done) moment item in
      let w' = h.shard in
      let was = get_or shards n w' in
      let d : ShardView ShardState Handled = with_journal w' [] in
      let v = get_or so_far.seen n d in
      let hs = h.handles in
      let effect = hs.shown.effect in
      let v' : ShardView ShardState Handled = with_journal w' (v.journal ++ effect ∷ []) in
      let shown_count : length shards ≡ length so_far.seen = zip_length (Shows pppoe) shards so_far.seen so_far.shown in
      let count : length shards ≡ length olds =
      shown_count ∙ sym (zip_length (InTurn pppoe) (views_of olds) so_far.seen so_far.round.shards) ∙ length-map olds (λ (v : ShardView ShardState Entry). with_journal {E = Handled} v []) in
      let within : n < length so_far.seen = omega (arith, h.within, shown_count) in
      let shows : Shows pppoe was v = zip_at (Shows pppoe) shards so_far.seen n w' d so_far.shown h.within in
      let asked = entry_with hs.claim 0 (length done) moment item in
      let step : HandlesSeen pppoe v effect v' = shows_handles pppoe was asked w' v shows hs.shown in
      let shows' : Shows pppoe w' v' = shows_more pppoe was asked w' v shows hs.shown in
      let by_rules : v.state.rules ≡ r = sym (ap (λ (x : ShardView ShardState Handled). x.state.rules) shows.same) ∙ rules n w' h.within in
      let says : effect.deed.entry.claim ≡ hs.claim = ap (λ (x : Entry). x.claim) hs.shown.entry in
      let seat : effect.deed.entry.seat ≡ 0 = ap (λ (x : Entry). x.seat) hs.shown.entry in
      let seats : AllByRecursion (IsOfSeat 0) effect.deed.outs = subst (λ (s : ℕ). AllByRecursion (IsOfSeat s) effect.deed.outs) seat (pppoe_laws.seated v.state effect step.is_step) in
      let tallied = rises_so_far tally tally' effect.deed.outs seats hs.tallied in
      let asks : Asks pppoe effect (held_by mid) (held_by pool') =
      asks_it v.state effect was.number hs.claim mid pool' step.is_step says (subst (λ (x : Rules). HasPools x.pools mid.ranges) (sym by_rules) has_pools) hs.answers in
      let grown = grows was.number hs.claim mid pool' hs.answers in
      let round : InRound pppoe (views_of olds) (held_by pool) (start ∷ []) (set so_far.seen n v') (held_by pool') (tally' ∷ []) =
      round_goes_on pppoe (views_of olds) (held_by pool) (start ∷ []) so_far.seen (held_by mid) (held_by pool') (tally ∷ []) (tally' ∷ []) n d v' effect within (omega (arith, seat)) step asks tallied so_far.round in
      let plain = so_far.plain n d within in
      let entries : handed_to v' ≡ handed_to v ++ e ∷ [] =
      ap (map without_claim) (map-append (λ (x : Handled). x.deed.entry) v.journal (effect ∷ []))
      ∙ map-append without_claim (entries_of v) (effect.deed.entry ∷ [])
      ∙ ap (λ (x : Entry). handed_to v ++ without_claim x ∷ []) hs.shown.entry in
      let outs : w'.outs ≡ was.outs ++ effect.deed.outs = step.outs ∙ ap (λ (x : ShardView ShardState Handled). x.outs ++ effect.deed.outs) (sym shows.same) in
      let allowance : w'.allowance ≡ was.allowance = step.allowance ∙ ap (λ (x : ShardView ShardState Handled). x.allowance) (sym shows.same) in
      let allowed : w'.allowance ≡ (get_or olds n w').allowance = allowance ∙ zip_at HasAllowance olds shards n w' w' so_far.allowances (omega (arith, h.within, count)) in
      let w : Whose = Stands n in
      let old = loose_in 0 0 done so_far.whose in
      let new : loose_in 0 0 all (so_far.whose ++ w ∷ []) ≡ old = loose_push WhoseIn moment 0 done so_far.whose item w so_far.is_whose ∙ append-nil old in
      let whole = sum_by-set outs_in shards n w' w' h.within in
      let number = ap (λ (xs : List OutRecord). length xs) outs in
      let one = step_light e.item.kind effect.deed.outs hs.light hs.few in
      record {
        whose = so_far.whose ++ w ∷ [];
        is_whose = whose_here grown.keeps w is;
        inside = all_append (StandsWithin (length olds)) so_far.whose (w ∷ []) so_far.inside (omega (arith, h.within, count), tt);
        seen = set so_far.seen n v';
        round = round;
        claimed = claimed_more pool mid pool' so_far.seen n d v' effect was.number hs.claim within (order n w' h.within) refl says hs.answers round.claims so_far.claimed;
        shown = subst (λ (vs : Shards). AllZip (Shows pppoe) vs (set so_far.seen n v')) (sym h.others) (zip_set_both (Shows pppoe) shards so_far.seen n w' v' so_far.shown shows');
        allowances = subst (λ (vs : Shards). AllZip HasAllowance olds vs) (sym h.others) (zip_set HasAllowance olds shards n w' w' h.within so_far.allowances allowed);
        plain = All-set IsPlain so_far.seen n v' (record { stops = step.stops ∙ plain.stops; starts = step.starts ∙ plain.starts }) so_far.plain;
        dealt = dealt_at WhoseIn moment 0 n n done so_far.whose item so_far.seen d v' so_far.is_whose within (omega arith) entries so_far.dealt;
        loose_are = deals.1 ∙ so_far.loose_are ∙ sym new;
        drops_are = drops_with first drops drops' (all_fates old so_far.seen) (all_fates old (set so_far.seen n v')) effect.deed.fate so_far.drops_are (counted ∙ ap (with_fate drops) (sym hs.fate_is)) (λ cause. shard_fates old so_far.seen n d v' effect cause within refl)
            ∙ ap (λ (ls : List Loose). plus first (drops_of (all_fates ls (set so_far.seen n v')))) (sym new);
        light = subst (λ (vs : Shards). AreLight (length all) vs) (sym h.others)
            (All-set (λ (v : ShardView ShardState Entry). IsLight (4160 * length all) v.outs) shards n w'
            (λ q test. omega (arith, ap (passed_sum (charge_if q test)) outs, passed_append (charge_if q test) was.outs effect.deed.outs, one q test, so_far.light n w' h.within q test, longer))
            (lighter (length done) (length all) shards (omega (arith, longer)) so_far.light));
        few = omega (arith, ap (λ (vs : Shards). sum_by outs_in vs) h.others, whole, number, length-append was.outs effect.deed.outs, so_far.few, hs.few, sum_by_push outs_for done item);
      }

  more_by : (w : Whose) → IsWhose r (entry mid.table) item w → DealsTo mid pool' w (length done) moment item shards shards' loose loose' tally tally' fate → DealsAll
  more_by (IsLoose cause) is deals = more_loose cause is deals
  more_by (Stands n) is deals = more_standing n is deals

  pub deals_more : DealsOne r mid pool' (length done) moment item shards shards' loose loose' tally tally' fate → DealsAll
  deals_more one = more_by one.whose one.is_whose one.deals

-- The first -------------------------------------------------------------------------------------------------------------

abbrev Begins : ℕ → ShardView ShardState Entry → Type 0
Begins n v = IsReady n v.allowance v × HasRows v

ready_one : (n : ℕ) (v : ShardView ShardState Entry) → Begins n v → IsReadied pppoe n (with_journal {D = Entry} {E = Handled} v []) (with_journal v [])
ready_one n v h = record {
  kept = record { number = refl; state = refl; rows = refl; books = refl };
  allowance = v.allowance;
  ready = record { allowance_is = refl; journal = refl; outs = h.0.outs; sends = h.0.sends; stops = h.0.stops; starts = h.0.starts; room = h.0.room };
  fit = same_equal (row_keys v.rows) (keys (terms_of v.state)) h.1;
}

all_readied : (n : ℕ) (vs : Shards) → AllByRecursion (Begins n) vs → AllZip (IsReadied pppoe n) (views_of vs) (views_of vs)
all_readied n [] h = tt
all_readied n (v ∷ vs) h = (ready_one n v h.0, all_readied n vs h.1)

shown_none : (n : ℕ) (vs : Shards) → AllByRecursion (Begins n) vs → AllZip (Shows pppoe) vs (views_of vs)
shown_none n [] h = tt
shown_none n (v ∷ vs) h = (shows_begin pppoe v h.0.0.journal, shown_none n vs h.1)

plain_none : (n : ℕ) (vs : Shards) → AllByRecursion (Begins n) vs → AllByRecursion IsPlain (views_of vs)
plain_none n [] h = tt
plain_none n (v ∷ vs) h = (record { stops = h.0.0.stops; starts = h.0.0.starts }, plain_none n vs h.1)

dealt_none : (moment shard : ℕ) (vs : Shards) → AreDealt shard moment [] [] (views_of vs)
dealt_none moment shard [] = tt
dealt_none moment shard (v ∷ vs) = (refl, dealt_none moment (shard + 1) vs)

fates_none : (vs : Shards) → [] ≡ all_fates [] (views_of vs)
fates_none [] = refl
fates_none (v ∷ vs) = fates_none vs

outs_none : (n : ℕ) (vs : Shards) → AllByRecursion (Begins n) vs → sum_by outs_in vs ≡ 0
outs_none n [] h = refl
outs_none n (v ∷ vs) h = omega (arith, sum_by-cons outs_in v vs, ap (λ (xs : List OutRecord). length xs) h.0.0.outs, outs_none n vs h.1)

-- it is ready by the allowance that it has
abbrev IsReadyOwn : ℕ → ShardView ShardState Entry → Type 0
IsReadyOwn n v = IsReady n v.allowance v

both : (n : ℕ) (vs : Shards) → AllByRecursion (IsReadyOwn n) vs → AllByRecursion HasRows vs → AllByRecursion (Begins n) vs
both n [] a b = tt
both n (v ∷ vs) a b = ((a.0, b.0), both n vs a.1 b.1)

none_claimed : (vs : Shards) (k : ℕ) (d : ShardView ShardState Handled) (a : ℕ) → k < length (views_of vs) → Contains (claims_of pppoe (get_or (views_of vs) k d).journal) a → ⊥
none_claimed [] k d a lt claims = absurd (omega (arith, lt))
none_claimed (v ∷ vs) zero d a lt claims = absurd (omega (arith, claims.1))
none_claimed (v ∷ vs) (suc k) d a lt claims = none_claimed vs k d a (omega (arith, lt)) claims

claimed_none : (pool : PlainView) (olds : Shards) → ClaimsSoFar pppoe (held_by pool) (journals_in (views_of olds)) (held_by pool) → AreClaimed pool pool (views_of olds)
claimed_none pool olds claims = record {
  keeps = all_itself pool.table;
  claims = claims;
  holders = λ k d a lt among. absurd (none_claimed olds k d a lt among);
  ranges = refl;
  places = refl;
}

pub deals_none : (r : Rules) (pool : PlainView) (moment n : ℕ) (olds : Shards) (loose : List Loose) (drops : Drops) (tally : Book) → All (IsReadyOwn n) olds → All HasRows olds → loose ≡ [] → Deals r pool pool moment [] olds olds loose drops drops tally tally
deals_none r pool moment n olds loose drops tally ready rows none =
    let begins = both n olds (recursion_from_All (IsReadyOwn n) olds ready) (recursion_from_All HasRows olds rows) in
    let round = round_begins pppoe n (views_of olds) (views_of olds) (held_by pool) (tally ∷ []) (all_readied n olds begins) in
    record {
      whose = [];
      is_whose = tt;
      inside = tt;
      seen = views_of olds;
      round = round;
      claimed = claimed_none pool olds round.claims;
      shown = shown_none n olds begins;
      allowances = zip_same HasAllowance (λ v. refl) olds;
      plain = All-from_recursion IsPlain (views_of olds) (plain_none n olds begins);
      dealt = dealt_none moment 0 olds;
      loose_are = none;
      drops_are = drops_none drops ∙ ap (λ (fs : List Fate). plus drops (drops_of fs)) (fates_none olds);
      light = λ k d lt q test. omega (arith, ap (passed_sum (charge_if q test)) (ready k d lt).outs);
      few = omega (arith, outs_none n olds begins);
    }
