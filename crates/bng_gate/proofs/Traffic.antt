-- The octets that are printed are those of the packets that were sent, told from the octets alone.
use Rattle.std.proofs.Common.{◌≡◌, ℕ, zero, suc, ◌+◌, ◌/◌, Bool, true, false, cond, List, [], ◌∷◌, map, refl, sym, ap, ◌∙◌, arith}
use Rattle.std.specs.Prelude.{slice_get}
use Rattle.std.specs.List.{AllByRecursion, sum_by}
use Rattle.std.proofs.lemmas.List.Sums.{sum_by-cons}
use Rattle.bng_base.specs.declared.address.Ip4.{Ip4}
use Rattle.bng_base.specs.declared.book.Book.{Book}
use Rattle.bng_base.specs.declared.item.Entry.{Entry}
use Rattle.bng_base.specs.declared.item.OutRecord.{OutRecord}
use Rattle.bng_base.specs.declared.outside.Datagram.{Datagram}
use Rattle.bng_base.specs.declared.outside.Role.{Role}
use Rattle.bng_base.specs.declared.outside.Role.TheVariants.{Access, Core, Tunnel, Auth, Acct, Coa, Control}
use Rattle.bng_base.specs.declared.settings.Static.{Static}
use Rattle.bng_engine.specs.Accounted.{Balanced, nothing_yet, opening}
use Rattle.bng_engine.specs.Histories.{History, ShardHistory, ShardTurn, Run}
use Rattle.bng_engine.specs.Laws.{RowsAccountOnWire, accounted_in, sends_of, stops_of}
use Rattle.bng_engine.specs.Quantities.{Quantity, Octets, Packets, empty_book, in_book}
use Rattle.bng_engine.specs.Sums.{stopped_where, has_lease, has_circuit, is_at, is_any}
use Rattle.bng_engine.specs.Terms.{Key, Stop}
use Rattle.bng_engine.specs.Views.{DeskView, Row, ShardView, rows_where}
use Rattle.bng_engine.specs.Wire.{WirePacket, is_input, is_from, is_output, is_to, is_on, is_on_to, counted, on_wire, told_of, went}
use Rattle.bng_engine.proofs.RoundSums.{run_stopped}
use Rattle.bng_engine.proofs.Wire.{on_wire_went}
use Rattle.bng_steps.specs.declared.sums.Traffic.{Traffic}
use Rattle.bng_steps.specs.Protocol.{ShardState, Handled, pppoe, row_at}
use Rattle.bng_steps.specs.Reader.{pppoe_reader}
use Rattle.bng_desk.specs.declared.line.CircuitLine.{CircuitLine}
use Rattle.bng_desk.specs.Model.{all_stopped, carried_on, line_after, live_of, no_traffic, plus_book, plus_traffic, total_of, traffic_at, traffic_or}
use Rattle.bng_desk.specs.Opening.{line_of}
use Rattle.bng_desk.proofs.InAll.{book_is, live_in_all, plus_in, stopped_in_all}
use Rattle.bng_gate.specs.Exact.{StopsAccount}
use Rattle.bng_gate.specs.Headline.{total_in, traffic_of}
use Rattle.bng_gate.specs.Rounds.{carries_data, on_data}
use Rattle.bng_gate.proofs.Lines.{traffic_is}

-- Sums over what was sent ------------------------------------------------------------------------------------------------

only_data : (f : Datagram → ℕ) (b : Bool) (d : Datagram) (ds : List Datagram) → (b ≡ false → f d ≡ 0) → f d + sum_by f ds ≡ sum_by f (cond b (d ∷ ds) ds)
only_data f true d ds none = sym (sum_by-cons f d ds)
only_data f false d ds none = omega (arith, none refl)

sum_on_data : (f : Datagram → ℕ) → ((d : Datagram) → carries_data d.role ≡ false → f d ≡ 0) → (ds : List Datagram) → sum_by f ds ≡ sum_by f (on_data ds)
sum_on_data f none [] = refl
sum_on_data f none (d ∷ ds) = omega (arith, sum_by-cons f d ds, sum_on_data f none ds, only_data f (carries_data d.role) d (on_data ds) (none d))

-- two lists with the same data have the same sums of it
sums_same : (f : Datagram → ℕ) → ((d : Datagram) → carries_data d.role ≡ false → f d ≡ 0) → (a b : List Datagram) → on_data a ≡ on_data b → sum_by f a ≡ sum_by f b
sums_same f none a b e = sum_on_data f none a ∙ ap (sum_by f) e ∙ sym (sum_on_data f none b)

-- the octets of other roles tell no packet
none_told : (q : Quantity) (test : WirePacket → Bool) (role : Role) (octets : List ℕ) → carries_data role ≡ false → counted q test (pppoe_reader role octets) ≡ 0
none_told q test (Access n) octets e = absurd cc
none_told q test Core octets e = absurd cc
none_told q test Tunnel octets e = absurd cc
none_told q test Auth octets e = refl
none_told q test Acct octets e = refl
none_told q test Coa octets e = refl
none_told q test Control octets e = refl

module _ (sent : List Datagram) (rounds : List (List (ShardTurn Handled))) (same : on_data sent ≡ on_data (went (sends_of rounds))) where
  told_same : (q : Quantity) (test : WirePacket → Bool) → on_wire pppoe_reader q test (sends_of rounds) ≡ told_of pppoe_reader q test sent
  told_same q test =
      on_wire_went pppoe_reader q test (sends_of rounds)
      ∙ sym (sums_same (λ (d : Datagram). counted q test (pppoe_reader d.role d.octets)) (λ d e. none_told q test d.role d.octets e) sent (went (sends_of rounds)) same)

-- What the Stops say ------------------------------------------------------------------------------------------------------

-- where no row says anything, the Stops say what was sent
module _ (sent : List Datagram) (rounds : List (List (ShardTurn Handled))) (same : on_data sent ≡ on_data (went (sends_of rounds))) (v : DeskView ShardState Handled)
    (none : (q : Quantity) (pick : Key → Bool) (input : Bool) → sum_by (λ x. rows_where q pick input x.rows) v.shards ≡ 0) (wire : RowsAccountOnWire pppoe rounds v) where
  alone : (q : Quantity) (pick : Key → Bool) (input : Bool) (test : WirePacket → Bool) → accounted_in q pick input rounds v ≡ on_wire pppoe_reader q test (sends_of rounds) → stopped_where q pick input (stops_of rounds) ≡ told_of pppoe_reader q test sent
  alone q pick input test e =
      let here : stopped_where q pick input (stops_of rounds) ≡ on_wire pppoe_reader q test (sends_of rounds) = omega (arith, e, none q pick input) in
      here ∙ told_same sent rounds same q test

  pub stops_account : StopsAccount (stops_of rounds) sent
  stops_account = record {
    from = λ q a. alone q (has_lease a) true (is_from a) (wire.from q a);
    to = λ q a. alone q (has_lease a) false (is_to a) (wire.to q a);
    on = λ q circuit tells. alone q (has_circuit circuit) false (is_on circuit) (wire.on q circuit tells);
    on_to = λ q circuit a tells. alone q (is_at circuit a) false (is_on_to circuit a) (wire.on_to q circuit a tells);
    all_input = λ q. alone q is_any true is_input (wire.all_input q);
    all_output = λ q. alone q is_any false is_output (wire.all_output q);
  }

-- What is printed ------------------------------------------------------------------------------------------------------

none_carried : (vs : List (ShardView ShardState Entry)) → AllByRecursion (λ v. v.rows ≡ []) vs → (i : ℕ) (address : Ip4) → traffic_at (slice_get vs i) address ≡ no_traffic
none_carried [] none i address = refl
none_carried (v ∷ vs) none zero address = ap (λ (rows : List Row). traffic_or (row_at rows address)) none.0
none_carried (v ∷ vs) none (suc i) address = none_carried vs none.1 i address

module _ (sent : List Datagram) (stops : List Stop) (exact : StopsAccount stops sent) (shards : List (ShardView ShardState Entry)) (none : AllByRecursion (λ v. v.rows ≡ []) shards) where
  -- a circuit's line in the end
  abbrev line_in : Static → CircuitLine
  line_in c = line_after stops (line_of c)

  traffic_one : (c : Static) → carried_on shards (line_in c) ≡ traffic_of sent c
  traffic_one c =
      let t = traffic_of sent c in
      ap (plus_traffic (line_in c).stopped) (none_carried shards none (c.session.0 / 1024) c.address)
      ∙ traffic_is (plus_traffic (line_in c).stopped no_traffic) t.input t.output (omega (arith, exact.from Octets c.address)) (omega (arith, exact.to Octets c.address))

  -- what is printed for each circuit
  pub traffic_same : (cs : List Static) → map (carried_on shards) (map (line_after stops) (map line_of cs)) ≡ map (traffic_of sent) cs
  traffic_same [] = refl
  traffic_same (c ∷ cs) =
      ap (λ (t : Traffic). t ∷ map (carried_on shards) (map (line_after stops) (map line_of cs))) (traffic_one c)
      ∙ ap (λ (ts : List Traffic). traffic_of sent c ∷ ts) (traffic_same cs)

-- what all Stops say is what was sent
pub stops_say : (sent : List Datagram) (stops : List Stop) → StopsAccount stops sent → (q : Quantity) (input : Bool) → stopped_where q is_any input stops ≡ in_book q input (total_in sent)
stops_say sent stops exact Octets true = exact.all_input Octets
stops_say sent stops exact Octets false = exact.all_output Octets
stops_say sent stops exact Packets true = exact.all_input Packets
stops_say sent stops exact Packets false = exact.all_output Packets

in_total : (q : Quantity) (input : Bool) (tallies : List Book) → in_book q input (total_of tallies) ≡ sum_by (in_book q input) tallies
in_total Octets true tallies = refl
in_total Octets false tallies = refl
in_total Packets true tallies = refl
in_total Packets false tallies = refl

nothing_in : (q : Quantity) (input : Bool) → in_book q input empty_book ≡ 0
nothing_in Octets true = refl
nothing_in Octets false = refl
nothing_in Packets true = refl
nothing_in Packets false = refl

-- The total: what the seats tell is what the Stops say, where no row says anything
pub none_stopped : (f : Stop → ℕ) (vs : List (ShardView ShardState Handled)) → sum_by (λ h. sum_by f h.stops) (map nothing_yet vs) ≡ 0
none_stopped f [] = refl
none_stopped f (v ∷ vs) = omega (arith, sum_by-cons (λ (h : ShardHistory ShardState). sum_by f h.stops) (nothing_yet v) (map nothing_yet vs), none_stopped f vs)

module _ (sent : List Datagram) (rounds : List (List (ShardTurn Handled))) (exact : StopsAccount (stops_of rounds) sent) (start end : DeskView ShardState Handled) (h : History ShardState) (run : Run pppoe (opening start) rounds h) (balanced : Balanced end h)
    (none : (q : Quantity) (pick : Key → Bool) (input : Bool) → sum_by (λ x. rows_where q pick input x.rows) end.shards ≡ 0) where
  tally_is : (q : Quantity) (input : Bool) → sum_by (in_book q input) end.tallies ≡ stopped_where q is_any input (stops_of rounds)
  tally_is q input =
      let part = λ (s : Stop). in_book q input s.carried in
      omega (
        arith,
        balanced.tallies q input,
        balanced.carried q input,
        none q is_any input,
        run_stopped pppoe (λ (r : OutRecord). 0) part (opening start) h rounds run,
        none_stopped part start.shards,
      )

  pub total_same : total_of end.tallies ≡ total_in sent
  total_same =
      book_is (total_of end.tallies) (total_in sent) (λ q input. in_total q input end.tallies ∙ tally_is q input ∙ stops_say sent (stops_of rounds) exact q input)

-- what the report says of all terms: the Stops say what was sent, and no row says anything
pub stopped_same : (sent : List Datagram) (stops : List Stop) → StopsAccount stops sent → plus_book empty_book (all_stopped stops) ≡ total_in sent
stopped_same sent stops exact =
    book_is (plus_book empty_book (all_stopped stops)) (total_in sent) (λ q input. omega (arith, plus_in q input empty_book (all_stopped stops), nothing_in q input, stopped_in_all q input stops, stops_say sent stops exact q input))

pub live_none : (vs : List (ShardView ShardState Entry)) → ((q : Quantity) (input : Bool) → sum_by (λ (v : ShardView ShardState Entry). rows_where q is_any input v.rows) vs ≡ 0) → live_of vs ≡ empty_book
live_none vs none = book_is (live_of vs) empty_book (λ q input. omega (arith, live_in_all q input vs, none q input, nothing_in q input))

-- and nothing beside it is the same
pub plus_none : (b : Book) → plus_book b empty_book ≡ b
plus_none b = book_is (plus_book b empty_book) b (λ q input. omega (arith, plus_in q input b empty_book, nothing_in q input))
