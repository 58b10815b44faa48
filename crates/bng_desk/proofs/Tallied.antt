-- What the circuits have carried stands in the tally.
use Rattle.std.proofs.Common.{◌≡◌, ℕ, zero, suc, ◌+◌, ◌^◌, ◌≤◌, Bool, true, false, ◌&&◌, cond, List, [], ◌∷◌, Option, Some, None, length, get_or, slice_get, refl, ap, arith}
use Rattle.std.specs.List.{AllZip, sum_by}
use Rattle.std.proofs.lemmas.List.Sums.{sum_by-append, sum_by-cons, sum_by-le-sum_by}
use Rattle.bng_base.specs.declared.address.Ip4.{Ip4}
use Rattle.bng_base.specs.declared.book.Book.{Book}
use Rattle.bng_base.specs.declared.item.Charge.{Charge}
use Rattle.bng_base.specs.declared.item.Entry.{Entry}
use Rattle.bng_base.specs.declared.item.Item.{Item}
use Rattle.bng_base.specs.declared.item.Loose.{Loose}
use Rattle.bng_base.specs.declared.item.OutRecord.{OutRecord}
use Rattle.bng_base.specs.Told.{PlantTold}
use Rattle.bng_engine.specs.Calls.{Kept, all_outs}
use Rattle.bng_engine.specs.Lists.{Zip3}
use Rattle.bng_engine.specs.Quantities.{Quantity, Octets, amount, in_book}
use Rattle.bng_engine.specs.Sums.{has_lease, is_any, same, part_of_charge, charge_if, is_directed, is_picked, sent_sum, passed_sum, failed_sum, sent_where}
use Rattle.bng_engine.specs.Terms.{Key, key_in}
use Rattle.bng_engine.specs.Views.{Row, ShardView, rows_where}
use Rattle.bng_engine.proofs.Adding.{sum_plus}
use Rattle.bng_pool.specs.Plain.{PlainView}
use Rattle.bng_steps.specs.declared.rules.Rules.{Rules}
use Rattle.bng_steps.specs.declared.sums.Traffic.{Traffic}
use Rattle.bng_steps.specs.Protocol.{ShardState, row_at, terms_of}
use Rattle.bng_steps.specs.Sums.{IsLow, traffic_in}
use Rattle.bng_desk.specs.declared.accounts.Stopped.{Stopped}
use Rattle.bng_desk.specs.declared.drops.Drops.{Drops}
use Rattle.bng_desk.specs.declared.line.CircuitLine.{CircuitLine}
use Rattle.bng_desk.specs.Model.{begun_in, live_terms, no_traffic, traffic_at, traffic_or}
use Rattle.bng_desk.specs.Round.{views_of}
use Rattle.bng_desk.specs.Taking.{AddsUp, AllWithin, AreTallied, CarriesWithin, Deals, IsTurning, LinesWithin, SendsAll, SentTo, far, joined, kept_in, stopped_in}
use Rattle.bng_desk.proofs.Dealing.{Seens}
use Rattle.bng_desk.proofs.InAll.{terms_by}
use Rattle.bng_desk.proofs.Joining.{all_turning, outs_seats, passed_first, shown_outs}
use Rattle.bng_desk.proofs.Readying.{Shards}
use Rattle.bng_desk.proofs.Settling.{joined_passed}

-- What was sent of some terms is no more than what was sent ---------------------------------------------------------------

fewer_of : (a b : Bool) (n : ℕ) → cond (a && b) n 0 ≤ cond b n 0
fewer_of true b n = omega arith
fewer_of false true n = omega arith
fewer_of false false n = omega arith

part_less : (q : Quantity) (pick : Key → Bool) (input : Bool) (charge : Option Charge) → part_of_charge (charge_if q (is_picked pick input)) charge ≤ part_of_charge (charge_if q (is_directed input)) charge
part_less q pick input None = omega arith
part_less q pick input (Some c) = fewer_of (pick (key_in c)) (same input c.input) (amount q c.octets)

sent_less : (sent : Bool) (m n : ℕ) → m ≤ n → cond sent m 0 ≤ cond sent n 0
sent_less true m n le = omega (arith, le)
sent_less false m n le = omega arith

pub picked_less : (q : Quantity) (pick : Key → Bool) (input : Bool) (sends : List OutRecord) → sent_where q pick input sends ≤ sent_sum (charge_if q (is_directed input)) sends
picked_less q pick input sends =
    let f = charge_if q (is_picked pick input) in
    let g = charge_if q (is_directed input) in
    sum_by-le-sum_by (λ (r : OutRecord). cond r.sent (part_of_charge f r.charge) 0) (λ (r : OutRecord). cond r.sent (part_of_charge g r.charge) 0) sends
    (λ r. sent_less r.sent (part_of_charge f r.charge) (part_of_charge g r.charge) (part_less q pick input r.charge))

either : (sent : Bool) (n : ℕ) → n ≡ cond sent n 0 + cond sent 0 n
either true n = omega arith
either false n = omega arith

passed_is : (f : Charge → ℕ) (sends : List OutRecord) → passed_sum f sends ≡ sent_sum f sends + failed_sum f sends
passed_is f sends =
    sum_plus (λ (r : OutRecord). cond r.sent (part_of_charge f r.charge) 0) (λ (r : OutRecord). cond r.sent 0 (part_of_charge f r.charge)) (λ (r : OutRecord). part_of_charge f r.charge) (λ r. either r.sent (part_of_charge f r.charge)) sends

-- Rows ------------------------------------------------------------------------------------------------------------------

abbrev rows_of : Quantity → (Key → Bool) → Bool → Shards → ℕ
rows_of q pick input vs = sum_by (λ (v : ShardView ShardState Entry). rows_where q pick input v.rows) vs

-- what was sent stands in the rows
rows_sent : (q : Quantity) (pick : Key → Bool) (input : Bool) (vs ws : Shards) (now : Seens) (us : Shards) (rss : List (List OutRecord)) → Zip3 IsTurning ws (views_of vs) now → Zip3 SentTo ws us rss
    → rows_of q pick input us ≡ rows_of q pick input vs + sent_where q pick input (joined rss)
rows_sent q pick input [] [] [] [] [] t z = refl
rows_sent q pick input [] [] [] us rss t z = absurd z
rows_sent q pick input (v ∷ vs) (w ∷ ws) (x ∷ now) (u ∷ us) (rs ∷ rss) t z =
    let f = λ (y : ShardView ShardState Entry). rows_where q pick input y.rows in
    omega (
      arith,
      sum_by-cons f v vs,
      sum_by-cons f u us,
      (z.0.turn _ x t.0).rows q pick input,
      sum_by-append (λ (r : OutRecord). cond r.sent (part_of_charge (charge_if q (is_picked pick input)) r.charge) 0) rs (joined rss),
      rows_sent q pick input vs ws now us rss t.1 z.1,
    )
rows_sent q pick input (v ∷ vs) (w ∷ ws) (x ∷ now) us rss t z = absurd z
rows_sent q pick input vs ws now us rss t z = absurd t

rows_kept : (q : Quantity) (pick : Key → Bool) (input : Bool) (vs ws : Shards) → AllZip Kept vs ws → rows_of q pick input ws ≡ rows_of q pick input vs
rows_kept q pick input [] [] h = refl
rows_kept q pick input [] (w ∷ ws) h = absurd h
rows_kept q pick input (v ∷ vs) [] h = absurd h
rows_kept q pick input (v ∷ vs) (w ∷ ws) h =
    let f = λ (y : ShardView ShardState Entry). rows_where q pick input y.rows in
    omega (arith, sum_by-cons f v vs, sum_by-cons f w ws, ap (rows_where q pick input) h.0.rows, rows_kept q pick input vs ws h.1)

-- Lines -----------------------------------------------------------------------------------------------------------------

pub lines_kept : (most : Bool → ℕ) (vs ws : Shards) (ls : List CircuitLine) → AllZip Kept vs ws → LinesWithin most vs ls → LinesWithin most ws ls
lines_kept most vs ws ls kept within k e lt input =
    let l = get_or ls k e in
    omega (arith, within k e lt input, rows_kept Octets (has_lease l.address) input vs ws kept)

pub lines_far : (most : ℕ) (tally : Book) (vs : Shards) (ls : List CircuitLine) → most ≤ 2 ^ 63 → IsLow most tally → AreTallied tally vs ls → LinesWithin far vs ls
lines_far most tally vs ls le low within k e lt input = omega (arith, within k e lt input, low Octets input, le)

-- the outs of the shards were sent: what each circuit has carried stands in the tally still
pub sent_tallied : (r : Rules) (pool pool' : PlainView) (moment : ℕ) (items : List Item) (vs ws us : Shards) (loose : List Loose) (d d' d'' : Drops) (t t' t'' : Book) (p p' : PlantTold) (outs : List OutRecord) (journals : List (List Entry)) (ls : List CircuitLine)
    → (deals : Deals r pool pool' moment items vs ws loose d d' t t') → SendsAll ws us p p' outs journals d' d'' t' t'' → AreTallied t vs ls → AreTallied t'' us ls
sent_tallied r pool pool' moment items vs ws us loose d d' d'' t t' t'' p p' outs journals ls deals s within k e lt input =
    let l = get_or ls k e in
    let pick = has_lease l.address in
    let f = charge_if Octets (is_directed input) in
    omega (
      arith,
      within k e lt input,
      rows_sent Octets pick input vs ws deals.seen us s.sends (all_turning r pool pool' moment items vs ws loose d d' t t' deals) s.each,
      picked_less Octets pick input (joined s.sends),
      passed_is f (joined s.sends),
      joined_passed f ws us s.sends s.each,
      shown_outs f ws deals.seen deals.shown,
      passed_first Octets input (all_outs deals.seen) (outs_seats (views_of vs) deals.seen deals.round.shards deals.round.seats),
      deals.round.passed.each Octets 0 input (omega arith),
      s.falls Octets input,
    )

-- In all ----------------------------------------------------------------------------------------------------------------

-- whatever is summed of what a shard keeps
kept_sum : (f : ShardView ShardState Entry → ℕ) → ((v w : ShardView ShardState Entry) → Kept v w → f w ≡ f v) → (vs ws : Shards) → AllZip Kept vs ws → sum_by f ws ≡ sum_by f vs
kept_sum f same [] [] h = refl
kept_sum f same [] (w ∷ ws) h = absurd h
kept_sum f same (v ∷ vs) [] h = absurd h
kept_sum f same (v ∷ vs) (w ∷ ws) h = omega (arith, sum_by-cons f v vs, sum_by-cons f w ws, same v w h.0, kept_sum f same vs ws h.1)

pub sum_kept : (tally : Book) (vs ws : Shards) (t : Stopped) → AllZip Kept vs ws → AddsUp tally vs t → AddsUp tally ws t
sum_kept tally vs ws t kept all = record {
  carried = λ q input. omega (arith, all.carried q input, rows_kept q is_any input vs ws kept);
  terms = omega (
    arith,
    all.terms,
    kept_sum terms_by (λ v w k. ap (λ (s : ShardState). length (terms_of s)) k.state) vs ws kept,
    kept_sum (λ (v : ShardView ShardState Entry). v.state.slots.begun) (λ v w k. ap (λ (s : ShardState). s.slots.begun) k.state) vs ws kept,
  );
}

pub sum_far : (most : ℕ) (tally : Book) (vs : Shards) (t : Stopped) → most ≤ 2 ^ 63 → IsLow most tally → begun_in vs ≤ 2 ^ 63 → AddsUp tally vs t → AllWithin far vs t
sum_far most tally vs t le low few all = record {
  carried = λ q input. omega (arith, all.carried q input, low q input, le);
  terms = omega (arith, all.terms, few);
}

-- The outs of the shards were sent: what was carried in all is exactly what stands in the tally still. As many terms began as there are
-- more.
pub sent_sum_up : (r : Rules) (pool pool' : PlainView) (moment : ℕ) (items : List Item) (vs ws us : Shards) (loose : List Loose) (d d' d'' : Drops) (t t' t'' : Book) (p p' : PlantTold) (outs : List OutRecord) (journals : List (List Entry)) (stopped : Stopped)
    → (deals : Deals r pool pool' moment items vs ws loose d d' t t') → SendsAll ws us p p' outs journals d' d'' t' t'' → live_terms us + begun_in vs ≡ live_terms vs + begun_in us → AddsUp t vs stopped → AddsUp t'' us stopped
sent_sum_up r pool pool' moment items vs ws us loose d d' d'' t t' t'' p p' outs journals stopped deals s grew all = record {
  carried = λ q input.
      let f = charge_if q (is_directed input) in
      let any : sent_where q is_any input (joined s.sends) ≡ sent_sum f (joined s.sends) = refl in
      omega (
        arith,
        all.carried q input,
        rows_sent q is_any input vs ws deals.seen us s.sends (all_turning r pool pool' moment items vs ws loose d d' t t' deals) s.each,
        any,
        passed_is f (joined s.sends),
        joined_passed f ws us s.sends s.each,
        shown_outs f ws deals.seen deals.shown,
        passed_first q input (all_outs deals.seen) (outs_seats (views_of vs) deals.seen deals.round.shards deals.round.seats),
        deals.round.passed.each q 0 input (omega arith),
        s.falls q input,
      );
  terms = omega (arith, all.terms, grew);
}

-- What is told of a circuit ---------------------------------------------------------------------------------------------

-- octets of one direction
abbrev pub octets_of : Bool → Traffic → ℕ
octets_of true t = t.input
octets_of false t = t.output

none_of : (input : Bool) → octets_of input no_traffic ≡ 0
none_of true = refl
none_of false = refl

octets_in : (input : Bool) (r : Row) → octets_of input (traffic_in r) ≡ in_book Octets input r.carried
octets_in true r = refl
octets_in false r = refl

row_by : (input b : Bool) (r : Row) (rest : Option Row) (n : ℕ) → octets_of input (traffic_or rest) ≤ n → octets_of input (traffic_or (cond b (Some r) rest)) ≤ cond b (in_book Octets input r.carried) 0 + n
row_by input true r rest n le = omega (arith, octets_in input r)
row_by input false r rest n le = omega (arith, le)

-- a row that is found is one of the rows
row_within : (input : Bool) (a : Ip4) (rows : List Row) → octets_of input (traffic_or (row_at rows a)) ≤ rows_where Octets (has_lease a) input rows
row_within input a [] = omega (arith, none_of input)
row_within input a (r ∷ rows) =
    omega (
      arith,
      row_by input (has_lease a r.key) r (row_at rows a) (rows_where Octets (has_lease a) input rows) (row_within input a rows),
      sum_by-cons (λ (x : Row). cond (has_lease a x.key) (in_book Octets input x.carried) 0) r rows,
    )

shard_within : (input : Bool) (l : CircuitLine) (vs : Shards) (n : ℕ) → octets_of input (traffic_at (slice_get vs n) l.address) ≤ sum_by (kept_in input l) vs
shard_within input l [] n = omega (arith, none_of input)
shard_within input l (v ∷ vs) zero = omega (arith, row_within input l.address v.rows, sum_by-cons (kept_in input l) v vs)
shard_within input l (v ∷ vs) (suc n) = omega (arith, shard_within input l vs n, sum_by-cons (kept_in input l) v vs)

-- what its Stops say and what its row says, together, is no more than it has carried
pub told_within : (most : Bool → ℕ) (input : Bool) (l : CircuitLine) (vs : Shards) (n : ℕ) → CarriesWithin most vs l → stopped_in input l + octets_of input (traffic_at (slice_get vs n) l.address) ≤ most input
told_within most input l vs n within = omega (arith, within input, shard_within input l vs n)
