-- A round that was dealt and settled, and what the trace is to be told of it.
use Rattle.std.proofs.Common.{◌≡◌, ℕ, zero, suc, eqb, ◌+◌, ◌<◌, ◌≤◌, Bool, true, false, cond, List, [], ◌∷◌, ◌++◌, map, length, get_or, refl, sym, ap, subst, ◌∙◌, arith, append-nil}
use Rattle.std.specs.List.{All, AllByRecursion, AllZip, Contains, count_by, flat_map, sum_by}
use Rattle.std.proofs.lemmas.List.Elements.{All-from_recursion}
use Rattle.std.proofs.lemmas.List.Sums.{sum_by-append, sum_by-cons}
use Rattle.bng_base.specs.declared.book.Book.{Book}
use Rattle.bng_base.specs.declared.fate.Fate.{Fate}
use Rattle.bng_base.specs.declared.item.Charge.{Charge}
use Rattle.bng_base.specs.declared.item.Entry.{Entry}
use Rattle.bng_base.specs.declared.item.Item.{Item}
use Rattle.bng_base.specs.declared.item.Loose.{Loose}
use Rattle.bng_base.specs.declared.item.OutRecord.{OutRecord}
use Rattle.bng_base.specs.declared.round.RoundRecord.{RoundRecord}
use Rattle.bng_base.specs.Stretch.{ExtendsPlant}
use Rattle.bng_base.specs.Told.{PlantTold}
use Rattle.bng_engine.specs.Books.{book_at, passed_by, failed_by, TalliesSoFar}
use Rattle.bng_engine.specs.Calls.{Kept, InTurn, IsSettled, all_outs, all_sends}
use Rattle.bng_engine.specs.Journals.{claims_of, unsent}
use Rattle.bng_engine.specs.Lists.{Zip3}
use Rattle.bng_engine.specs.Quantities.{Quantity, in_book}
use Rattle.bng_engine.specs.Showing.{Shows}
use Rattle.bng_engine.specs.Sums.{part_of_charge, charge_if, is_directed, passed_sum, failed_sum}
use Rattle.bng_engine.specs.Pool.{ClaimsSoFar}
use Rattle.bng_engine.specs.Terms.{Key, Stop}
use Rattle.bng_engine.specs.Turns.{HasSeat, journals_in}
use Rattle.bng_engine.specs.Views.{Row, ShardView}
use Rattle.bng_engine.proofs.Everywhere.{all_append, all_mapped}
use Rattle.bng_engine.proofs.Joining.{turn_made}
use Rattle.bng_engine.proofs.Journals.{run_seated}
use Rattle.bng_engine.proofs.Zips.{zip3_left}
use Rattle.bng_pool.specs.Plain.{PlainView}
use Rattle.bng_steps.specs.declared.rules.Rules.{Rules}
use Rattle.bng_steps.specs.declared.whose.Whose.{Whose}
use Rattle.bng_steps.specs.Protocol.{ShardState, Handled, pppoe, entry_of, sessions_of}
use Rattle.bng_steps.specs.Sums.{AreLow, RowsAreLow}
use Rattle.bng_steps.specs.Tenures.{Tenure}
use Rattle.bng_steps.proofs.StepLaws.{pppoe_laws}
use Rattle.bng_desk.specs.declared.drops.Drops.{Drops}
use Rattle.bng_desk.specs.declared.holding.Named.{Named}
use Rattle.bng_desk.specs.Counting.{plus, drops_of}
use Rattle.bng_desk.specs.Items.{entries_in, loose_in, all_loose, stands_in, without_claim}
use Rattle.bng_desk.specs.Round.{Round, AreClaimed, AreParts, StandsWithin, views_of, IsReturned, held_by, entries_of, of_seat, is_failed, with_failed, fates_in, handled_states, news_in, sends_stretch, starts_of, stops_of, terms_in}
use Rattle.bng_desk.specs.Taking.{Accounts, BeginsAll, BegunTo, BooksStarts, BooksStops, HasAllowance, HasFewSessions, AreDealt, Deals, Falls, IsTurning, AllTurn, OwesNone, ReapedTo, ReportsAll, SendsAll, SentTo, ReapsAll, RoundHeld, Shown, Sight, states_of}
use Rattle.bng_desk.proofs.Dealing.{Seens}
use Rattle.bng_desk.proofs.DropLaws.{plus_plus}
use Rattle.bng_desk.proofs.Growing.{states_handled}
use Rattle.bng_desk.proofs.Owed.{reports_left}
use Rattle.bng_desk.proofs.Readying.{Shards, all_onward}
use Rattle.bng_desk.proofs.Settles.{as_seen}
use Rattle.bng_desk.proofs.Returning.{gives_back}
use Rattle.bng_desk.proofs.Zips.{zip_at, zip_length}

-- Sums that are low -----------------------------------------------------------------------------------------------------

abbrev pub HasLow : ℕ → ShardView ShardState Entry → Type 0
HasLow most v = RowsAreLow most v.rows

abbrev pub HasLowBooks : ℕ → ShardView ShardState Entry → Type 0
HasLowBooks most v = AreLow most v.books

pub low_wider : (m n : ℕ) (vs : Shards) → m ≤ n → All (HasLow m) vs → All (HasLow n) vs
low_wider m n vs le low k d lt q input = omega (arith, le, low k d lt q input)

pub books_wider : (m n : ℕ) (vs : Shards) → m ≤ n → All (HasLowBooks m) vs → All (HasLowBooks n) vs
books_wider m n vs le low k d lt i within q input = omega (arith, le, low k d lt i within q input)

pub sessions_kept : (vs ws : Shards) → AllZip Kept vs ws → All HasFewSessions vs → All HasFewSessions ws
sessions_kept vs ws kept few = all_onward Kept HasFewSessions (λ x y k here. subst (λ (s : ShardState). sessions_of s ≤ 1022) (sym k.state) here) vs ws kept few

pub low_kept : (most : ℕ) (vs ws : Shards) → AllZip Kept vs ws → All (HasLow most) vs → All (HasLow most) ws
low_kept most vs ws kept low = all_onward Kept (HasLow most) (λ x y k here. subst (λ (rs : List Row). RowsAreLow most rs) (sym k.rows) here) vs ws kept low

pub books_kept : (most : ℕ) (vs ws : Shards) → AllZip Kept vs ws → All (HasLowBooks most) vs → All (HasLowBooks most) ws
books_kept most vs ws kept low = all_onward Kept (HasLowBooks most) (λ x y k here. subst (λ (bs : List Book). AreLow most bs) (sym k.books) here) vs ws kept low

-- Each shard within its turn ----------------------------------------------------------------------------------------------

turning : (ws : Shards) (was now : Seens) → AllZip (InTurn pppoe) was now → AllZip (Shows pppoe) ws now → AllByRecursion (λ v. v.sends ≡ []) now → Zip3 IsTurning ws was now
turning [] [] [] turns shown sends = tt
turning [] (b ∷ was) [] turns shown sends = absurd turns
turning [] was (x ∷ now) turns shown sends = absurd shown
turning (w ∷ ws) was [] turns shown sends = absurd shown
turning (w ∷ ws) [] (x ∷ now) turns shown sends = absurd turns
turning (w ∷ ws) (b ∷ was) (x ∷ now) turns shown sends = (record { turn = turns.0; shows = shown.0; sends = sends.0 }, turning ws was now turns.1 shown.1 sends.1)

module _ (r : Rules) (pool pool' : PlainView) (moment : ℕ) (items : List Item) (vs ws : Shards) (loose : List Loose) (d d' : Drops) (t t' : Book) (deals : Deals r pool pool' moment items vs ws loose d d' t t') where
  pub all_turning : Zip3 IsTurning ws (views_of vs) deals.seen
  all_turning = turning ws (views_of vs) deals.seen deals.round.shards deals.shown deals.round.unsent

  pub all_turn : AllTurn ws
  all_turn = record { was = views_of vs; now = deals.seen; turning = all_turning }

-- Seats -----------------------------------------------------------------------------------------------------------------

-- the only seat there is
abbrev pub OfFirst : OutRecord → Type 0
OfFirst o = o.seat < 1

first_is : (n x : ℕ) → n < 1 → cond (eqb n 0) x 0 ≡ x
first_is n x lt = let e : n ≡ 0 = omega (arith, lt) in ap (λ (m : ℕ). cond (eqb m 0) x 0) e

pub passed_first : (q : Quantity) (input : Bool) (outs : List OutRecord) → AllByRecursion OfFirst outs → passed_by q 0 input outs ≡ passed_sum (charge_if q (is_directed input)) outs
passed_first q input [] h = refl
passed_first q input (o ∷ outs) h =
    let f = λ (r : OutRecord). part_of_charge (charge_if q (is_directed input)) r.charge in
    omega (arith, sum_by-cons (λ (r : OutRecord). cond (eqb r.seat 0) (f r) 0) o outs, sum_by-cons f o outs, first_is o.seat (f o) h.0, passed_first q input outs h.1)

failed_first : (q : Quantity) (input : Bool) (sends : List OutRecord) → AllByRecursion OfFirst sends → failed_by q 0 input sends ≡ failed_sum (charge_if q (is_directed input)) sends
failed_first q input [] h = refl
failed_first q input (o ∷ sends) h =
    let f = λ (r : OutRecord). cond r.sent 0 (part_of_charge (charge_if q (is_directed input)) r.charge) in
    omega (arith, sum_by-cons (λ (r : OutRecord). cond (eqb r.seat 0) (f r) 0) o sends, sum_by-cons f o sends, first_is o.seat (f o) h.0, failed_first q input sends h.1)

turn_seats : (was now : ShardView ShardState Handled) → InTurn pppoe was now → AllByRecursion (HasSeat pppoe 1) now.journal → AllByRecursion OfFirst now.outs
turn_seats was now t seats = subst (λ (os : List OutRecord). AllByRecursion OfFirst os) (sym t.outs) (run_seated pppoe pppoe_laws 1 was.state now.journal t.steps seats)

pub outs_seats : (was now : Seens) → AllZip (InTurn pppoe) was now → AllByRecursion (λ v. AllByRecursion (HasSeat pppoe 1) v.journal) now → AllByRecursion OfFirst (all_outs now)
outs_seats [] [] t seats = tt
outs_seats [] (x ∷ now) t seats = absurd t
outs_seats (b ∷ was) [] t seats = absurd t
outs_seats (b ∷ was) (x ∷ now) t seats = all_append OfFirst x.outs (all_outs now) (turn_seats b x t.0 seats.0) (outs_seats was now t.1 seats.1)

one_sends : (was now v : ShardView ShardState Handled) → IsSettled pppoe was now v → AllByRecursion (HasSeat pppoe 1) now.journal → AllByRecursion OfFirst v.sends
one_sends was now v s seats =
    let here : AllByRecursion OfFirst s.mid.outs = turn_seats was s.mid s.turn (subst (λ (es : List Handled). AllByRecursion (HasSeat pppoe 1) es) (sym s.journal) seats) in
    let all : s.mid.outs ≡ map unsent v.sends = sym (ap (map unsent) s.settles.reaps.sends ∙ s.settles.all) in
    all_mapped OfFirst unsent v.sends (subst (λ (os : List OutRecord). AllByRecursion OfFirst os) all here)

sends_seats : (was now xs : Seens) → Zip3 (IsSettled pppoe) was now xs → AllByRecursion (λ v. AllByRecursion (HasSeat pppoe 1) v.journal) now → AllByRecursion OfFirst (all_sends xs)
sends_seats [] [] [] s seats = tt
sends_seats (b ∷ was) (x ∷ now) (v ∷ xs) s seats = all_append OfFirst v.sends (all_sends xs) (one_sends b x v s.0 seats.0) (sends_seats was now xs s.1 seats.1)
sends_seats was now xs s seats = absurd s

-- Tallies ---------------------------------------------------------------------------------------------------------------

pub shown_outs : (f : Charge → ℕ) (ws : Shards) (now : Seens) → AllZip (Shows pppoe) ws now → sum_by (λ v. passed_sum f v.outs) ws ≡ passed_sum f (all_outs now)
shown_outs f [] [] h = refl
shown_outs f [] (x ∷ now) h = absurd h
shown_outs f (w ∷ ws) [] h = absurd h
shown_outs f (w ∷ ws) (x ∷ now) h =
    omega (
      arith,
      sum_by-cons (λ (v : ShardView ShardState Entry). passed_sum f v.outs) w ws,
      ap (λ (v : ShardView ShardState Handled). passed_sum f v.outs) h.0.same,
      sum_by-append (λ (r : OutRecord). part_of_charge f r.charge) x.outs (all_outs now),
      shown_outs f ws now h.1,
    )

module _ (r : Rules) (pool pool' : PlainView) (moment : ℕ) (items : List Item) (vs ws : Shards) (loose : List Loose) (d d' : Drops) (t t' : Book) (deals : Deals r pool pool' moment items vs ws loose d d' t t') where
  -- what is to be sent stands in the tally
  pub dealt_covered : (q : Quantity) (input : Bool) → sum_by (λ (v : ShardView ShardState Entry). passed_sum (charge_if q (is_directed input)) v.outs) ws ≤ in_book q input t'
  dealt_covered q input =
      omega (
        arith,
        deals.round.passed.each q 0 input (omega arith),
        passed_first q input (all_outs deals.seen) (outs_seats (views_of vs) deals.seen deals.round.shards deals.round.seats),
        shown_outs (charge_if q (is_directed input)) ws deals.seen deals.shown,
      )

fall_each : (t t' : Book) (sends : List OutRecord) → AllByRecursion OfFirst sends → ((q : Quantity) (input : Bool) → in_book q input t' + failed_sum (charge_if q (is_directed input)) sends ≡ in_book q input t)
    → (q : Quantity) (i : ℕ) (input : Bool) → i < 1 → in_book q input (book_at i (t' ∷ [])) + failed_by q i input sends ≡ in_book q input (book_at i (t ∷ [])) + 0
fall_each t t' sends seats falls q zero input lt = omega (arith, falls q input, failed_first q input sends seats)
fall_each t t' sends seats falls q (suc i) input lt = absurd (omega (arith, lt))

-- Journals --------------------------------------------------------------------------------------------------------------

abbrev fates_by : ShardView ShardState Handled → List Fate
fates_by v = map (λ (h : Handled). h.deed.fate) v.journal

-- a settlement keeps the journals
record Carries (now xs : Seens) : Type 0 where
  fates : flat_map fates_by xs ≡ flat_map fates_by now
  entries : map entries_of xs ≡ map entries_of now
  dealt : (n moment : ℕ) (items : List Item) (whose : List Whose) → AreDealt n moment items whose now → AreDealt n moment items whose xs
  count : length xs ≡ length now
  journals : journals_in xs ≡ journals_in now
  each : AllZip (λ (x y : Sight). y.journal ≡ x.journal) now xs

carries : (was now xs : Seens) → Zip3 (IsSettled pppoe) was now xs → Carries now xs
carries [] [] [] s = record { fates = refl; entries = refl; dealt = λ n moment items whose h. tt; count = refl; journals = refl; each = tt }
carries (b ∷ was) (x ∷ now) (v ∷ xs) s =
    let more = carries was now xs s.1 in
    let here : v.journal ≡ x.journal = s.0.settles.reaps.journal ∙ s.0.journal in
    record {
      fates = ap (λ (es : List Handled). map (λ (h : Handled). h.deed.fate) es ++ flat_map fates_by xs) here ∙ ap (λ (fs : List Fate). fates_by x ++ fs) more.fates;
      entries = ap (λ (es : List Handled). map (λ (h : Handled). h.deed.entry) es ∷ map entries_of xs) here ∙ ap (λ (ess : List (List Entry)). entries_of x ∷ ess) more.entries;
      dealt = λ n moment items whose h. (ap (λ (es : List Handled). map without_claim (map (λ (y : Handled). y.deed.entry) es)) here ∙ h.0, more.dealt (n + 1) moment items whose h.1);
      count = ap suc more.count;
      journals = ap (λ (es : List Handled). es ∷ journals_in xs) here ∙ ap (λ (ess : List (List Handled)). x.journal ∷ ess) more.journals;
      each = (here, more.each);
    }
carries was now xs s = absurd s

-- and so the claims
claimed_still : (pool pool' : PlainView) (now xs : Seens) → Carries now xs → AreClaimed pool pool' now → AreClaimed pool pool' xs
claimed_still pool pool' now xs c claimed = record {
  keeps = claimed.keeps;
  claims = subst (λ (js : List (List Handled)). ClaimsSoFar pppoe (held_by pool) js (held_by pool')) (sym c.journals) claimed.claims;
  holders = λ n d a lt among.
      let within : n < length now = omega (arith, lt, c.count) in
      let same : (get_or xs n d).journal ≡ (get_or now n d).journal = zip_at (λ (x y : Sight). y.journal ≡ x.journal) now xs n d d c.each within in
      claimed.holders n d a within (subst (λ (es : List Handled). Contains (claims_of pppoe es) a) same among);
  ranges = claimed.ranges;
  places = claimed.places;
}

-- Allowances --------------------------------------------------------------------------------------------------------------

abbrev pub allowances_in : {E : Type 0} → List (ShardView ShardState E) → List ℕ
allowances_in vs = map (λ v. v.allowance) vs

same_allowances : {D E : Type 0} (R : ShardView ShardState D → ShardView ShardState E → Type 0) → ((x : ShardView ShardState D) (y : ShardView ShardState E) → R x y → y.allowance ≡ x.allowance) → (xs : List (ShardView ShardState D)) (ys : List (ShardView ShardState E)) → AllZip R xs ys → allowances_in ys ≡ allowances_in xs
same_allowances R f [] [] z = refl
same_allowances R f [] (y ∷ ys) z = absurd z
same_allowances R f (x ∷ xs) [] z = absurd z
same_allowances R f (x ∷ xs) (y ∷ ys) z = ap (λ (n : ℕ). n ∷ allowances_in ys) (f x y z.0) ∙ ap (λ (ns : List ℕ). x.allowance ∷ ns) (same_allowances R f xs ys z.1)

-- Parts -----------------------------------------------------------------------------------------------------------------

abbrev pub OfSeat : Entry → Type 0
OfSeat e = e.seat ≡ 0

entry_seat : (b : Bool) (place moment : ℕ) (i : Item) → AllByRecursion OfSeat (cond b (entry_of 0 place moment i ∷ []) [])
entry_seat true place moment i = (refl, tt)
entry_seat false place moment i = tt

entries_seat : (shard place moment : ℕ) (is : List Item) (ws : List Whose) → AllByRecursion OfSeat (entries_in 0 shard place moment is ws)
entries_seat shard place moment [] ws = tt
entries_seat shard place moment (i ∷ is) [] = tt
entries_seat shard place moment (i ∷ is) (w ∷ ws) =
    all_append OfSeat (cond (stands_in shard w) (entry_of 0 place moment i ∷ []) []) (entries_in 0 shard (place + 1) moment is ws) (entry_seat (stands_in shard w) place moment i) (entries_seat shard (place + 1) moment is ws)

pub all_kept : (es : List Entry) → AllByRecursion OfSeat es → of_seat 0 es ≡ es
all_kept [] h = refl
all_kept (e ∷ es) h = ap (λ (n : ℕ). cond (eqb n 0) (e ∷ of_seat 0 es) (of_seat 0 es)) h.0 ∙ ap (λ (xs : List Entry). e ∷ xs) (all_kept es h.1)

seat_low : (es : List Entry) → AllByRecursion OfSeat es → AllByRecursion (λ (e : Entry). e.seat < 1) es
seat_low [] h = tt
seat_low (e ∷ es) h = (omega (arith, h.0), seat_low es h.1)

part_each : (items : List Item) (whose : List Whose) (shard moment : ℕ) (es : List Entry) → es ≡ entries_in 0 shard 0 moment items whose → (seat : ℕ) → seat < 1 → of_seat seat es ≡ entries_in seat shard 0 moment (get_or (items ∷ []) seat []) (get_or (whose ∷ []) seat [])
part_each items whose shard moment es is zero lt = ap (of_seat 0) is ∙ all_kept (entries_in 0 shard 0 moment items whose) (entries_seat shard 0 moment items whose)
part_each items whose shard moment es is (suc seat) lt = absurd (omega (arith, lt))

parts : (items : List Item) (whose : List Whose) (shard moment : ℕ) (xs : Seens) → AreDealt shard moment items whose xs → AreParts (items ∷ []) (whose ∷ []) shard moment xs
parts items whose shard moment [] h = tt
parts items whose shard moment (x ∷ xs) h =
    let all = subst (λ (es : List Entry). AllByRecursion OfSeat es) (sym h.0) (entries_seat shard 0 moment items whose) in (
      record {
        each = part_each items whose shard moment (map without_claim (entries_of x)) h.0;
        seats = All-from_recursion (λ (e : Entry). e.seat < 1) (map without_claim (entries_of x)) (seat_low (map without_claim (entries_of x)) all);
      },
      parts items whose (shard + 1) moment xs h.1,
    )

-- The whole of it -------------------------------------------------------------------------------------------------------

abbrev pub told_of : Named → List ℕ → List (List Entry) → List Loose → List OutRecord → RoundRecord
told_of named allowances journals loose outs = record { number = named.number; moment = named.moment; wall = named.wall; allowances = allowances; journals = journals; loose = loose; outs = outs; refused = [] }

pub told_as : (named : Named) (allowances those : List ℕ) (journals : List (List Entry)) (loose : List Loose) (outs : List OutRecord) (refused : List Item) → allowances ≡ those → refused ≡ []
    → record { number = named.number; moment = named.moment; wall = named.wall; allowances = allowances; journals = journals; loose = loose; outs = outs; refused = refused } ≡ told_of named those journals loose outs
told_as named allowances those journals loose outs refused same none =
    ap (λ (rs : List Item). let r : RoundRecord = record { number = named.number; moment = named.moment; wall = named.wall; allowances = allowances; journals = journals; loose = loose; outs = outs; refused = rs } in r) none
    ∙ ap (λ (ns : List ℕ). told_of named ns journals loose outs) same

-- reaping leaves the terms whose Starts are owed
pub reaped_news : (us left : Shards) (sss : List (List Stop)) → Zip3 ReapedTo us left sss → news_in (states_of left) ≡ news_in (states_of us)
reaped_news [] [] [] z = refl
reaped_news (u ∷ us) (w ∷ left) (ss ∷ sss) z =
    ap (λ (s : ShardState). s.slots.news ++ news_in (states_of left)) z.0.state ∙ ap (λ (ts : List Tenure). u.state.slots.news ++ ts) (reaped_news us left sss z.1)
reaped_news us left sss z = absurd z

-- no Start is owed before the round
views_owe : (vs : Shards) → AllByRecursion OwesNone vs → AllByRecursion (λ (x : Sight). x.state.slots.news ≡ []) (views_of vs)
views_owe [] none = tt
views_owe (v ∷ vs) none = (none.0, views_owe vs none.1)

module _ (r : Rules) (pool mid pool' : PlainView) (a b c : Accounts) (named : Named) (items : List Item) (p p' : PlantTold) (vs ws us left zs : Shards) (loose : List Loose) (outs : List OutRecord) (journals : List (List Entry)) (d d' d'' : Drops) (t t' t'' : Book)
    (deals : Deals r pool mid named.moment items vs ws loose d d' t t') (s : SendsAll ws us p p' outs journals d' d'' t' t'') (y : ReapsAll named.moment named.wall us left mid pool' a b) (n : BeginsAll named.moment named.wall left zs b c) (none : AllByRecursion OwesNone vs) where
  abbrev turned : Zip3 IsTurning ws (views_of vs) deals.seen
  turned = all_turning r pool mid named.moment items vs ws loose d d' t t' deals

  -- what the shards have done since is all that they were allowed
  pub allowances_kept : allowances_in zs ≡ allowances_in vs
  allowances_kept =
      same_allowances (λ x z. z.allowance ≡ x.allowance) (λ x z e. e) left zs (zip3_left BegunTo (λ x z. z.allowance ≡ x.allowance) (λ x z ks h. ap (λ (v : Shown). v.allowance) h.after) left zs n.starts n.each)
      ∙ same_allowances (λ x z. z.allowance ≡ x.allowance) (λ x z e. e) us left (zip3_left ReapedTo (λ x z. z.allowance ≡ x.allowance) (λ x z ks h. h.allowance) us left y.stops y.each)
      ∙ same_allowances (λ x z. z.allowance ≡ x.allowance) (λ x z e. e) ws us (zip3_left SentTo (λ x z. z.allowance ≡ x.allowance) (λ x z ks h. h.allowance) ws us s.sends s.each)
      ∙ same_allowances HasAllowance (λ x z e. e) vs ws deals.allowances

  pub round_held : (e : Accounts) → ReportsAll named.moment named.wall zs c e → (told : RoundRecord) → told ≡ told_of named (allowances_in zs) journals loose outs → RoundHeld r pool pool' a e named items p p' vs zs d d'' t t'' told
  round_held e reported told is =
      let settled = as_seen ws (views_of vs) deals.seen us s.sends left y.stops zs n.starts turned s.each y.each n.each (views_owe vs none) in
      let xs = settled.settled in
      let seen = settled.is in
      let back : IsReturned (flat_map (λ (v : Sight). v.stops) xs) mid pool' = subst (λ (ss : List Stop). IsReturned ss mid pool') seen.stops y.returned in
      let k = carries (views_of vs) deals.seen xs seen.settles in
      let allowed : allowances_in xs ≡ allowances_in vs =
      same_allowances (λ (x z : Sight). z.allowance ≡ x.allowance) (λ x z e. e) deals.seen xs seen.allowances
      ∙ same_allowances (Shows pppoe) (λ x z h. sym (ap (λ (v : Sight). v.allowance) h.same)) ws deals.seen deals.shown
      ∙ same_allowances HasAllowance (λ x z e. e) vs ws deals.allowances in
      let round : Round = record { whose = deals.whose ∷ []; shards = xs; tallies = t'' ∷ []; claimed = mid; pool = pool' } in
      let seats = sends_seats (views_of vs) deals.seen xs seen.settles deals.round.seats in
      let falls : Falls t' (all_sends xs) t'' = subst (λ (os : List OutRecord). Falls t' os t'') seen.sends s.falls in
      let fall : TalliesSoFar (t' ∷ []) [] (all_sends xs) (t'' ∷ []) = record { count = refl; each = fall_each t' t'' (all_sends xs) seats falls } in
      let count : length xs ≡ length vs =
      k.count ∙ sym (zip_length (Shows pppoe) ws deals.seen deals.shown) ∙ sym (zip_length HasAllowance vs ws deals.allowances) in
      let states : handled_states vs xs ≡ states_of us = states_handled vs ws deals.seen xs us s.sends turned s.each k.each in
      let failed = count_by is_failed (all_sends xs) in
      let first = map (λ (l : Loose). l.fate) (loose_in 0 0 items deals.whose) in
      let ls : loose_in 0 0 items deals.whose ≡ all_loose 0 (items ∷ []) (deals.whose ∷ []) = sym (append-nil (loose_in 0 0 items deals.whose)) in
      record {
        round = round;
        is = record {
          dealt = record {
            whose = (deals.is_whose, tt);
            inside = All-from_recursion (λ (ws : List Whose). All (StandsWithin (length xs)) ws) (deals.whose ∷ [])
                (All-from_recursion (StandsWithin (length xs)) deals.whose (subst (λ (n : ℕ). AllByRecursion (StandsWithin n) deals.whose) (sym count) deals.inside), tt);
            parts = parts items deals.whose 0 named.moment xs (k.dealt 0 named.moment items deals.whose deals.dealt);
            claimed = claimed_still pool mid deals.seen xs k deals.claimed;
          };
          turn = turn_made pppoe (views_of vs) deals.seen xs (held_by pool) (held_by mid) (held_by pool') (t ∷ []) (t' ∷ []) (t'' ∷ []) deals.round seen.settles (gives_back xs mid pool' back) fall;
          returned = back;
        };
        shards_are = seen.left;
        pool_is = refl;
        mid = b;
        ends = subst (λ (ss : List ShardState). BooksStops (terms_in ss) named.moment named.wall (stops_of round) a b) (sym states)
            (subst (λ (ss : List Stop). BooksStops (terms_in (states_of us)) named.moment named.wall ss a b) seen.stops y.booked);
        started = c;
        begins = subst (λ (ss : List ShardState). BooksStarts (news_in ss) named.moment named.wall (starts_of round) b c) (sym states)
            (subst (λ (ts : List Tenure). BooksStarts ts named.moment named.wall (starts_of round) b c) (reaped_news us left y.stops y.each)
            (subst (λ (ks : List Key). BooksStarts (news_in (states_of left)) named.moment named.wall ks b c) seen.starts n.booked));
        reports = reports_left named.moment named.wall zs xs c e seen.left reported;
        allowed = allowed;
        tallies_are = refl;
        drops_are = s.drops_are
            ∙ ap (λ (os : List OutRecord). plus d' (with_failed (count_by is_failed os))) seen.sends
            ∙ ap (λ (x : Drops). plus x (with_failed failed)) deals.drops_are
            ∙ ap (λ (fs : List Fate). plus (plus d (drops_of (first ++ fs))) (with_failed failed)) (sym k.fates)
            ∙ ap (λ (ys : List Loose). plus (plus d (drops_of (map (λ (l : Loose). l.fate) ys ++ flat_map fates_by xs))) (with_failed failed)) ls
            ∙ plus_plus d (drops_of (fates_in (items ∷ []) round)) (with_failed failed);
        told = subst (λ (os : List OutRecord). ExtendsPlant p p' (sends_stretch os)) seen.sends s.told;
        record_told = is
            ∙ ap (λ (zs : List ℕ). told_of named zs journals loose outs) (allowances_kept ∙ sym allowed)
            ∙ ap (λ (js : List (List Entry)). told_of named (allowances_in xs) js loose outs) (s.journals_are ∙ seen.journals ∙ sym k.entries)
            ∙ ap (λ (ys : List Loose). told_of named (allowances_in xs) (map entries_of xs) ys outs) (deals.loose_are ∙ ls)
            ∙ ap (λ (os : List OutRecord). told_of named (allowances_in xs) (map entries_of xs) (all_loose 0 (items ∷ []) (deals.whose ∷ [])) os) (s.outs_are ∙ seen.sends);
      }
