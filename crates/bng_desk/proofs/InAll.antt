-- What was carried in all, and how many terms there are in all, once Stops were formed.
use Rattle.std.proofs.Common.{◌≡◌, ℕ, ◌+◌, ◌<◌, ◌≤◌, Bool, true, false, cond, List, [], ◌∷◌, ◌++◌, length, get_or, set, sum_by, refl, ap, ◌∙◌, length-append, arith}
use Rattle.std.proofs.lemmas.List.Sums.{sum_by-append, sum_by-cons, sum_by-set, sum_by_more_le}
use Rattle.bng_base.specs.declared.book.Book.{Book}
use Rattle.bng_base.specs.declared.item.Entry.{Entry}
use Rattle.bng_engine.specs.Quantities.{Quantity, Octets, Packets, in_book}
use Rattle.bng_engine.specs.Sums.{is_any, stopped_where}
use Rattle.bng_engine.specs.Terms.{Key, Stop}
use Rattle.bng_engine.specs.Views.{ShardView, rows_where}
use Rattle.bng_steps.specs.Protocol.{ShardState, terms_of}
use Rattle.bng_steps.specs.Sums.{IsLow}
use Rattle.bng_desk.specs.declared.accounts.Stopped.{Stopped}
use Rattle.bng_desk.specs.Model.{all_stopped, live_of, plus_book, total_of}
use Rattle.bng_desk.specs.Taking.{AddsUp, AllWithin, HasRoomFor, SameInAll, far, live_by, plus_stops}
use Rattle.bng_desk.proofs.Readying.{Shards}

-- Books -----------------------------------------------------------------------------------------------------------------

abbrev make : (input output input_packets output_packets : ℕ) → Book
make input output input_packets output_packets = record { input = input; output = output; input_packets = input_packets; output_packets = output_packets }

-- books that say the same are one
pub book_is : (a b : Book) → ((q : Quantity) (input : Bool) → in_book q input a ≡ in_book q input b) → a ≡ b
book_is a b same =
    ap (λ (n : ℕ). make n a.output a.input_packets a.output_packets) (same Octets true)
    ∙ ap (λ (n : ℕ). make b.input n a.input_packets a.output_packets) (same Octets false)
    ∙ ap (λ (n : ℕ). make b.input b.output n a.output_packets) (same Packets true)
    ∙ ap (λ (n : ℕ). make b.input b.output b.input_packets n) (same Packets false)

pub plus_in : (q : Quantity) (input : Bool) (a b : Book) → in_book q input (plus_book a b) ≡ in_book q input a + in_book q input b
plus_in Octets true a b = refl
plus_in Octets false a b = refl
plus_in Packets true a b = refl
plus_in Packets false a b = refl

pub stopped_in_all : (q : Quantity) (input : Bool) (stops : List Stop) → in_book q input (all_stopped stops) ≡ stopped_where q is_any input stops
stopped_in_all Octets true stops = refl
stopped_in_all Octets false stops = refl
stopped_in_all Packets true stops = refl
stopped_in_all Packets false stops = refl

pub live_in_all : (q : Quantity) (input : Bool) (vs : Shards) → in_book q input (live_of vs) ≡ sum_by (live_by q input) vs
live_in_all Octets true vs = refl
live_in_all Octets false vs = refl
live_in_all Packets true vs = refl
live_in_all Packets false vs = refl

one_total : (q : Quantity) (input : Bool) (tally : Book) → in_book q input (total_of (tally ∷ [])) ≡ in_book q input tally
one_total Octets true tally = omega (arith, sum_by-cons (λ (b : Book). b.input) tally [])
one_total Octets false tally = omega (arith, sum_by-cons (λ (b : Book). b.output) tally [])
one_total Packets true tally = omega (arith, sum_by-cons (λ (b : Book). b.input_packets) tally [])
one_total Packets false tally = omega (arith, sum_by-cons (λ (b : Book). b.output_packets) tally [])

-- Stops -----------------------------------------------------------------------------------------------------------------

abbrev counted : Book → ℕ → Stopped
counted carried stops = record { carried = carried; stops = stops }

said_more : (q : Quantity) (input : Bool) (a b : List Stop) → stopped_where q is_any input (a ++ b) ≡ stopped_where q is_any input a + stopped_where q is_any input b
said_more q input a b = sum_by-append (λ (s : Stop). cond (is_any s.key) (in_book q input s.carried) 0) a b

said_none : (q : Quantity) (input : Bool) → stopped_where q is_any input [] ≡ 0
said_none q input = refl

pub stopped_none : (t : Stopped) → t ≡ plus_stops t []
stopped_none t =
    let carried : t.carried ≡ plus_book t.carried (all_stopped []) = book_is t.carried (plus_book t.carried (all_stopped [])) (λ q input. omega (arith, plus_in q input t.carried (all_stopped []), stopped_in_all q input [], said_none q input)) in
    let stops : t.stops ≡ t.stops + length {A = Stop} [] = omega arith in
    ap (λ (b : Book). counted b t.stops) carried ∙ ap (λ (n : ℕ). counted (plus_book t.carried (all_stopped [])) n) stops

pub stopped_more : (a b : List Stop) (t : Stopped) → plus_stops t (a ++ b) ≡ plus_stops (plus_stops t a) b
stopped_more a b t =
    let one = plus_book t.carried (all_stopped (a ++ b)) in
    let two = plus_book (plus_book t.carried (all_stopped a)) (all_stopped b) in
    let carried : one ≡ two = book_is one two
    (λ q input.
    omega (
      arith,
      plus_in q input t.carried (all_stopped (a ++ b)),
      plus_in q input (plus_book t.carried (all_stopped a)) (all_stopped b),
      plus_in q input t.carried (all_stopped a),
      stopped_in_all q input (a ++ b),
      stopped_in_all q input a,
      stopped_in_all q input b,
      said_more q input a b,
    )) in
    let stops : t.stops + length (a ++ b) ≡ t.stops + length a + length b = omega (arith, length-append a b) in
    ap (λ (x : Book). counted x (t.stops + length (a ++ b))) carried ∙ ap (λ (n : ℕ). counted two n) stops

-- what one Stop says
pub one_said : (q : Quantity) (input : Bool) (s : Stop) → stopped_where q is_any input (s ∷ []) ≡ in_book q input s.carried
one_said q input s = omega (arith, sum_by-cons (λ (x : Stop). cond (is_any x.key) (in_book q input x.carried) 0) s [])

pub one_stopped : (s : Stop) → all_stopped (s ∷ []) ≡ s.carried
one_stopped s = book_is (all_stopped (s ∷ [])) s.carried (λ q input. omega (arith, stopped_in_all q input (s ∷ []), one_said q input s))

said_after : (q : Quantity) (input : Bool) (stops : List Stop) (t : Stopped) → in_book q input (plus_stops t stops).carried ≡ in_book q input t.carried + stopped_where q is_any input stops
said_after q input stops t = omega (arith, plus_in q input t.carried (all_stopped stops), stopped_in_all q input stops)

-- Shards ----------------------------------------------------------------------------------------------------------------

-- how many terms are there that have no Stop yet
abbrev pub terms_by : ShardView ShardState Entry → ℕ
terms_by v = length (terms_of v.state)

-- one of the shards
pub within_one : (vs : Shards) (i : ℕ) (d : ShardView ShardState Entry) (t : Stopped) → i < length vs → AllWithin far vs t → AllWithin far (get_or vs i d ∷ []) t
within_one vs i d t lt within = record {
  carried = λ q input. omega (arith, within.carried q input, sum_by_more_le (live_by q input) vs i d lt, sum_by-cons (live_by q input) (get_or vs i d) []);
  terms = omega (arith, within.terms, sum_by_more_le terms_by vs i d lt, sum_by-cons terms_by (get_or vs i d) []);
}

pub same_none : (vs : Shards) (t : Stopped) → SameInAll vs t vs t
same_none vs t = record { carried = λ q input. refl; terms = refl }

pub same_next : (us vs ws : Shards) (r s t : Stopped) → SameInAll us r vs s → SameInAll vs s ws t → SameInAll us r ws t
same_next us vs ws r s t a b = record { carried = λ q input. b.carried q input ∙ a.carried q input; terms = b.terms ∙ a.terms }

pub within_same : (vs ws : Shards) (t t' : Stopped) → AllWithin far vs t → SameInAll vs t ws t' → AllWithin far ws t'
within_same vs ws t t' within same = record { carried = λ q input. omega (arith, within.carried q input, same.carried q input); terms = omega (arith, within.terms, same.terms) }

-- what left a row stands in what the Stops say
pub same_more : (vs : Shards) (i : ℕ) (d w : ShardView ShardState Entry) (stops : List Stop) (t t' : Stopped) → i < length vs
    → ((q : Quantity) (pick : Key → Bool) (input : Bool) → stopped_where q pick input stops + rows_where q pick input w.rows ≡ rows_where q pick input (get_or vs i d).rows)
    → length stops + terms_by w ≡ terms_by (get_or vs i d) → t' ≡ plus_stops t stops → SameInAll vs t (set vs i w) t'
same_more vs i d w stops t t' lt rows count is = record {
  carried = λ q input. omega (arith, ap (λ (x : Stopped). in_book q input x.carried) is, said_after q input stops t, sum_by-set (live_by q input) vs i w d lt, rows q is_any input);
  terms = omega (arith, ap (λ (x : Stopped). x.stops) is, sum_by-set terms_by vs i w d lt, count);
}

-- and in one shard there is room for it
pub room_for : (v w : ShardView ShardState Entry) (stops : List Stop) (t : Stopped)
    → ((q : Quantity) (pick : Key → Bool) (input : Bool) → stopped_where q pick input stops + rows_where q pick input w.rows ≡ rows_where q pick input v.rows)
    → length stops + terms_by w ≡ terms_by v → AllWithin far (v ∷ []) t → HasRoomFor stops t
room_for v w stops t rows count within = record {
  carried = λ q input. omega (arith, within.carried q input, rows q is_any input, sum_by-cons (live_by q input) v []);
  count = omega (arith, within.terms, count, sum_by-cons terms_by v []);
}

-- The sums --------------------------------------------------------------------------------------------------------------

-- what was carried in all is what the seat's tally tells
pub told_sum : (tally : Book) (vs : Shards) (t : Stopped) → AddsUp tally vs t → plus_book t.carried (live_of vs) ≡ total_of (tally ∷ [])
told_sum tally vs t all =
    book_is (plus_book t.carried (live_of vs)) (total_of (tally ∷ [])) (λ q input. omega (arith, plus_in q input t.carried (live_of vs), live_in_all q input vs, all.carried q input, one_total q input tally))

-- and no more than that
pub told_low : (most : ℕ) (tally : Book) (vs : Shards) (t : Stopped) → IsLow most tally → AddsUp tally vs t → (q : Quantity) (input : Bool) → in_book q input t.carried + in_book q input (live_of vs) ≤ most
told_low most tally vs t low all q input = omega (arith, live_in_all q input vs, all.carried q input, low q input)
