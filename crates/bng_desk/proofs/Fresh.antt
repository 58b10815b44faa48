-- The shards of a desk that was just opened.
use Rattle.std.proofs.Common.{◌≡◌, ℕ, ◌*◌, ◌<◌, ◌≤◌, ◌^◌, Bool, true, false, cond, List, [], ◌∷◌, Option, None, Some, map, length, replicate, get_or, refl, sym, ap, subst, ◌∙◌, arith}
use Rattle.std.proofs.lemmas.List.{get_or-replicate, length-replicate}
use Rattle.std.specs.Option.{IfSome}
use Rattle.std.specs.List.{All, range_with_len, sum_by}
use Rattle.std.proofs.lemmas.List.Elements.{All-map}
use Rattle.std.proofs.lemmas.List.Sums.{sum_by-cons}
use Rattle.std.proofs.lemmas.List.FromFn.{get_or-map-range_with_len, length-map-range_with_len}
use Rattle.bng_base.specs.declared.item.Entry.{Entry}
use Rattle.bng_base.specs.declared.settings.Static.{Static}
use Rattle.bng_base.specs.declared.book.Book.{Book}
use Rattle.bng_engine.specs.Books.{book_at}
use Rattle.bng_engine.specs.Quantities.{Quantity, Octets, Packets, in_book, empty_book}
use Rattle.bng_engine.specs.Sums.{has_lease, is_any}
use Rattle.bng_engine.specs.Views.{ShardView, Row, new_row, rows_where}
use Rattle.bng_engine.specs.Terms.{Key, keys}
use Rattle.bng_steps.specs.Interims.{Reports, interim_at, no_reports}
use Rattle.bng_steps.specs.Protocol.{ShardState, opened, terms_of}
use Rattle.bng_shard.specs.Handling.{HasPools}
use Rattle.bng_steps.specs.Questions.{none_handed}
use Rattle.bng_steps.specs.Sums.{IsLow, AreLow, RowsAreLow}
use Rattle.bng_steps.specs.declared.rules.Rules.{Rules}
use Rattle.bng_base.specs.declared.item.Item.{Item}
use Rattle.bng_desk.specs.declared.accounts.Stopped.{Stopped}
use Rattle.bng_desk.specs.declared.drops.Drops.{Drops}
use Rattle.bng_desk.specs.declared.line.CircuitLine.{CircuitLine}
use Rattle.bng_desk.specs.Accounting.{AreBilled, KnowsBegun}
use Rattle.bng_desk.specs.Counting.{Within, no_drops}
use Rattle.bng_desk.specs.Interims.{AreWaiting, WaitsAt}
use Rattle.bng_desk.specs.Kept.{IsKept, IsAsked, IsUnended, all_turns, rested, octets_most, drops_most}
use Rattle.bng_desk.specs.Model.{Desk, begun_in, keys_in, live_terms}
use Rattle.bng_desk.specs.Opening.{line_of}
use Rattle.bng_desk.specs.Taking.{AllTold, IsEmpty, KeepsTerms, HasFewSessions, AddsUp, AreInOrder, AreTallied, CarriesWithin, kept_in, live_by, no_stops, stopped_in}
use Rattle.bng_desk.proofs.DropLaws.{within_none}
use Rattle.bng_desk.proofs.Readying.{WorksBy}
use Rattle.bng_desk.proofs.Returning.{HoldsOwn}
use Rattle.bng_desk.proofs.Keeping.{AreKept, none_kept, one_low, unended_left}

-- Nothing was carried ---------------------------------------------------------------------------------------------------

pub nothing_in : (q : Quantity) (input : Bool) → in_book q input empty_book ≡ 0
nothing_in Octets true = refl
nothing_in Octets false = refl
nothing_in Packets true = refl
nothing_in Packets false = refl

nothing_by : (q : Quantity) (b input : Bool) → cond b (in_book q input empty_book) 0 ≡ 0
nothing_by q true input = nothing_in q input
nothing_by q false input = refl

none_carried : (q : Quantity) (pick : Key → Bool) (input : Bool) (ks : List Key) → rows_where q pick input (map new_row ks) ≡ 0
none_carried q pick input [] = refl
none_carried q pick input (k ∷ ks) =
    omega (arith, sum_by-cons (λ (r : Row). cond (pick r.key) (in_book q input r.carried) 0) (new_row k) (map new_row ks), nothing_by q (pick k) input, none_carried q pick input ks)

pub empty_low : (most : ℕ) → IsLow most empty_book
empty_low most q input = omega (arith, nothing_in q input)

empties_low : (most n : ℕ) → AreLow most (replicate n empty_book)
empties_low most n i lt =
    subst (IsLow most) (sym (get_or-replicate n i empty_book empty_book (omega (arith, lt, length-replicate n empty_book)))) (empty_low most)

-- Shards ----------------------------------------------------------------------------------------------------------------

module _ (rules : Rules) (statics : ℕ → List Static) (now : ℕ) where
  abbrev pub fresh : ℕ → ShardView ShardState Entry
  fresh n = opened n rules (statics n) now

  pub fresh_rested : (ns : List ℕ) → map rested (map fresh ns) ≡ map fresh ns
  fresh_rested [] = refl
  fresh_rested (n ∷ ns) = ap (λ (vs : List (ShardView ShardState Entry)). fresh n ∷ vs) (fresh_rested ns)

  fresh_at : (n k : ℕ) (d : ShardView ShardState Entry) → k < length (map fresh (range_with_len 0 n)) → get_or (map fresh (range_with_len 0 n)) k d ≡ fresh k
  fresh_at n k d lt = get_or-map-range_with_len fresh 0 n k k d (omega (arith, lt, length-map-range_with_len fresh 0 n)) (omega arith)

  -- what each of them is, all are
  pub fresh_all : (P : ShardView ShardState Entry → Type 0) (n : ℕ) → ((k : ℕ) → k < n → P (fresh k)) → All P (map fresh (range_with_len 0 n))
  fresh_all P n each k d lt = subst P (sym (fresh_at n k d lt)) (each k (omega (arith, lt, length-map-range_with_len fresh 0 n)))

  pub fresh_order : (n : ℕ) → AreInOrder (map fresh (range_with_len 0 n))
  fresh_order n k d lt = ap (λ (v : ShardView ShardState Entry). v.number) (fresh_at n k d lt)

  pub fresh_rules : (n : ℕ) → All (WorksBy rules) (map fresh (range_with_len 0 n))
  fresh_rules n k d lt = ap (λ (v : ShardView ShardState Entry). v.state.rules) (fresh_at n k d lt)

  pub fresh_empty : (n : ℕ) → All IsEmpty (map fresh (range_with_len 0 n))
  fresh_empty n k d lt = subst (λ (v : ShardView ShardState Entry). IsEmpty v) (sym (fresh_at n k d lt)) (refl, refl)

  pub fresh_told : (n : ℕ) → All AllTold (map fresh (range_with_len 0 n))
  fresh_told n k d lt = subst (λ (v : ShardView ShardState Entry). AllTold v) (sym (fresh_at n k d lt)) refl

  pub fresh_low : (most n : ℕ) → All (λ v. RowsAreLow most v.rows) (map fresh (range_with_len 0 n))
  fresh_low most n k d lt =
      subst (λ (v : ShardView ShardState Entry). RowsAreLow most v.rows) (sym (fresh_at n k d lt)) (λ q input. omega (arith, none_carried q is_any input (keys (terms_of (fresh k).state))))

  pub fresh_books : (most n : ℕ) → All (λ v. AreLow most v.books) (map fresh (range_with_len 0 n))
  fresh_books most n k d lt = subst (λ (v : ShardView ShardState Entry). AreLow most v.books) (sym (fresh_at n k d lt)) (empties_low most (length rules.profiles))

  -- and no circuit has carried anything
  kept_none : (input : Bool) (l : CircuitLine) (ns : List ℕ) → sum_by (kept_in input l) (map fresh ns) ≡ 0
  kept_none input l [] = refl
  kept_none input l (n ∷ ns) = omega (arith, sum_by-cons (kept_in input l) (fresh n) (map fresh ns), none_carried Octets (has_lease l.address) input (keys (terms_of (fresh n).state)), kept_none input l ns)

  live_none : (q : Quantity) (input : Bool) (ns : List ℕ) → sum_by (live_by q input) (map fresh ns) ≡ 0
  live_none q input [] = refl
  live_none q input (n ∷ ns) = omega (arith, sum_by-cons (live_by q input) (fresh n) (map fresh ns), none_carried q is_any input (keys (terms_of (fresh n).state)), live_none q input ns)

-- an Interim may be due at any moment
any_moment : (o : Option ℕ) → IfSome o (λ at. 0 ≤ at)
any_moment None = tt
any_moment (Some at) = omega arith

any_awaits : (moment : ℕ) (v : ShardView ShardState Entry) → WaitsAt moment v no_reports
any_awaits moment v = record { waits = λ n x is. any_moment (interim_at no_reports.last x); soon = omega arith }

fresh_awaited : (moment : ℕ) (f : ℕ → ShardView ShardState Entry) (ns : List ℕ) → AreWaiting moment (map f ns) (map (λ (n : ℕ). no_reports) ns)
fresh_awaited moment f [] = tt
fresh_awaited moment f (n ∷ ns) = (any_awaits moment (f n), fresh_awaited moment f ns)

none_stopped : (input : Bool) (c : Static) → stopped_in input (line_of c) ≡ 0
none_stopped true c = refl
none_stopped false c = refl

pub fresh_tallied : (rules : Rules) (statics : ℕ → List Static) (now : ℕ) (tally : Book) (ns : List ℕ) (cs : List Static) → AreTallied tally (map (fresh rules statics now) ns) (map line_of cs)
fresh_tallied rules statics now tally ns cs =
    All-map (CarriesWithin (λ input. in_book Octets input tally) (map (fresh rules statics now) ns)) line_of cs (λ k d lt input. omega (arith, none_stopped input (get_or cs k d), kept_none rules statics now input (line_of (get_or cs k d)) ns))

-- what was carried in all is nothing, as the tally says, and each term that began has no Stop yet
fresh_sum : (rules : Rules) (statics : ℕ → List Static) (now : ℕ) (ns : List ℕ) → live_terms (map (fresh rules statics now) ns) ≡ begun_in (map (fresh rules statics now) ns) → AddsUp empty_book (map (fresh rules statics now) ns) no_stops
fresh_sum rules statics now ns counts = record {
  carried = λ q input. omega (arith, live_none rules statics now q input ns, nothing_in q input);
  terms = omega (arith, counts);
}

-- a desk with such shards, in which nothing has happened
pub kept_fresh : (d : Desk) (statics : ℕ → List Static) (now : ℕ) (cs : List Static) → d.shards ≡ map (λ n. opened n d.rules (statics n) now) (range_with_len 0 d.rules.shards) → All HasFewSessions d.shards → d.lines ≡ map line_of cs → (let x : Stopped = record { carried = d.stopped_book; stops = d.stops } in x) ≡ no_stops → live_terms d.shards ≡ begun_in d.shards → 1 ≤ length d.rules.access → length d.rules.access ≤ 16 → length d.rules.profiles ≤ 16 → 1 ≤ d.rules.shards → d.rules.shards ≤ 64
    → HasPools d.rules.pools d.pool.ranges → d.pool.shards ≡ d.rules.shards → All (HoldsOwn d.pool.table) d.shards → All (KeepsTerms d.moment) d.shards → d.rounds ≤ 2 ^ 40 → d.turns ≡ 0 → d.endings ≡ 0 → d.unopened ≡ 0 → d.closed ≡ false → d.told ≡ 0 → d.drawn ≡ 1 → d.drops ≡ no_drops → d.tallies ≡ empty_book ∷ [] → d.kept ≡ [] → d.handed ≡ map (λ n. none_handed) (range_with_len 0 d.rules.shards) → d.reports ≡ map (λ n. no_reports) (range_with_len 0 d.rules.shards) → d.closing ≡ d.moment → d.graces ≡ 0 → AreBilled (keys_in d.shards) d.billing → KnowsBegun d.shards d.billing → IsKept d
kept_fresh d statics now cs shards few lines stopped counts some_port few_ports few_profiles some_shard few_shards pools places held terms most turns endings unopened closed told drawn drops tallies kept handed reports closing graces billed knows =
    let staying = subst (λ (is : List Item). AreKept d is) (sym kept) (none_kept d) in
    let unended : IsUnended d = record { endings = endings; unopened = unopened; closed = closed; graces = graces } in
    let count = ap (λ (xs : List (ShardView ShardState Entry)). length xs) shards ∙ length-map-range_with_len (λ (n : ℕ). opened n d.rules (statics n) now) 0 d.rules.shards in
    record {
      some_port = some_port;
      few_ports = few_ports;
      few_profiles = few_profiles;
      shards = count;
      some_shard = some_shard;
      few_shards = few_shards;
      order = subst AreInOrder (sym shards) (fresh_order d.rules statics now d.rules.shards);
      rules = subst (λ (xs : List (ShardView ShardState Entry)). All (WorksBy d.rules) xs) (sym shards) (fresh_rules d.rules statics now d.rules.shards);
      sessions = few;
      empty = subst (λ (xs : List (ShardView ShardState Entry)). All IsEmpty xs) (sym shards) (fresh_empty d.rules statics now d.rules.shards);
      pools = pools;
      places = places;
      held = held;
      terms = terms;
      most = most;
      made = omega (arith, turns);
      serving = λ _. unended;
      endings = omega (arith, endings);
      unopened = omega (arith, unopened);
      left = unended_left d d.shards unended few (omega (arith, count, few_shards));
      told = omega (arith, told);
      drawn = omega (arith, drawn);
      low = subst (λ (xs : List (ShardView ShardState Entry)). All (λ v. RowsAreLow (octets_most * all_turns d) v.rows) xs) (sym shards) (fresh_low d.rules statics now (octets_most * all_turns d) d.rules.shards);
      books = subst (λ (xs : List (ShardView ShardState Entry)). All (λ v. AreLow (octets_most * all_turns d) v.books) xs) (sym shards) (fresh_books d.rules statics now (octets_most * all_turns d) d.rules.shards);
      one_seat = ap (λ (bs : List Book). length bs) tallies;
      tallies = subst (λ (bs : List Book). AreLow (octets_most * all_turns d) bs) (sym tallies) (one_low (octets_most * all_turns d) empty_book (empty_low (octets_most * all_turns d)));
      tallied = subst (λ (ls : List CircuitLine). AreTallied (book_at 0 d.tallies) d.shards ls) (sym lines)
          (subst (λ (xs : List (ShardView ShardState Entry)). AreTallied (book_at 0 d.tallies) xs (map line_of cs)) (sym shards) (fresh_tallied d.rules statics now (book_at 0 d.tallies) (range_with_len 0 d.rules.shards) cs));
      adds_up = subst (λ (t : Stopped). AddsUp (book_at 0 d.tallies) d.shards t) (sym stopped)
          (subst (λ (xs : List (ShardView ShardState Entry)). AddsUp (book_at 0 d.tallies) xs no_stops) (sym shards)
          (subst (λ (bs : List Book). AddsUp (book_at 0 bs) (map (fresh d.rules statics now) (range_with_len 0 d.rules.shards)) no_stops) (sym tallies)
          (fresh_sum d.rules statics now (range_with_len 0 d.rules.shards) (subst (λ (xs : List (ShardView ShardState Entry)). live_terms xs ≡ begun_in xs) shards counts))));
      counts = subst (λ (x : Drops). Within (drops_most * all_turns d) x) (sym drops) (within_none (drops_most * all_turns d));
      kept = staying.items;
      stays = staying.stays;
      while_serving = λ _. subst (λ (is : List Item). All IsAsked is) (sym kept) (λ k e l. absurd (omega arith));
      handed = ap (λ (hs : List (List ℕ)). length hs) handed ∙ length-map-range_with_len (λ (n : ℕ). none_handed) 0 d.rules.shards ∙ sym count;
      closing = omega (arith, closing);
      graces = omega (arith, graces);
      billed = billed;
      knows = knows;
      awaited = subst (λ (rs : List Reports). AreWaiting d.moment d.shards rs) (sym reports)
          (subst (λ (xs : List (ShardView ShardState Entry)). AreWaiting d.moment xs (map (λ n. no_reports) (range_with_len 0 d.rules.shards))) (sym shards)
          (fresh_awaited d.moment (λ n. opened n d.rules (statics n) now) (range_with_len 0 d.rules.shards)));
      all_told = subst (λ (xs : List (ShardView ShardState Entry)). All AllTold xs) (sym shards) (fresh_told d.rules statics now d.rules.shards);
    }
