-- What is printed for the profiles is what was sent under each, and together it is all that was sent.
use Rattle.std.proofs.Common.{◌≡◌, ℕ, Bool, true, false, List, [], ◌∷◌, map, length, refl, sym, ap, subst, ◌∙◌, arith}
use Rattle.std.specs.List.{AllByRecursion, range_with_len, sum_by}
use Rattle.std.proofs.lemmas.List.Sums.{sum_by-cons}
use Rattle.bng_base.specs.declared.book.Book.{Book}
use Rattle.bng_base.specs.declared.book.Profile.{Profile}
use Rattle.bng_base.specs.declared.item.Entry.{Entry}
use Rattle.bng_base.specs.declared.outside.Datagram.{Datagram}
use Rattle.bng_config.specs.declared.config.Config.{Config}
use Rattle.bng_engine.specs.Books.{book_at, sent_in_all, sent_under}
use Rattle.bng_engine.specs.Histories.{ShardTurn}
use Rattle.bng_engine.specs.Laws.{BooksAccount, RowsAccount, sends_of, stops_of}
use Rattle.bng_engine.specs.Quantities.{Quantity, Octets, in_book}
use Rattle.bng_engine.specs.Showing.{with_journal}
use Rattle.bng_engine.specs.Sums.{is_any, sent_where}
use Rattle.bng_engine.specs.Terms.{Key}
use Rattle.bng_engine.specs.Views.{DeskView, ShardView, rows_where}
use Rattle.bng_engine.proofs.Adding.{sum_map}
use Rattle.bng_steps.specs.declared.rules.Rules.{Rules}
use Rattle.bng_steps.specs.declared.sums.Traffic.{Traffic}
use Rattle.bng_steps.specs.Protocol.{ShardState, Handled, opened, pppoe}
use Rattle.bng_desk.specs.Model.{Desk, by_profile, traffic_under}
use Rattle.bng_desk.specs.Opening.{opened_shards, statics_of}
use Rattle.bng_desk.specs.Round.{views_of}
use Rattle.bng_gate.specs.Exact.{StopsAccount}
use Rattle.bng_gate.specs.Headline.{AddsUpTo, all_profile_traffic, profile_traffic, total_in}
use Rattle.bng_gate.proofs.Lines.{traffic_is}
use Rattle.bng_gate.proofs.Traffic.{stops_say}

-- the shards have the same books, as the engine sees them
same_books : (f : List Book → ℕ) (vs : List (ShardView ShardState Entry)) → sum_by (λ (x : ShardView ShardState Handled). f x.books) (views_of vs) ≡ sum_by (λ (v : ShardView ShardState Entry). f v.books) vs
same_books f [] = refl
same_books f (v ∷ vs) =
    omega (
      arith,
      sum_by-cons (λ (x : ShardView ShardState Handled). f x.books) (with_journal {E = Handled} v []) (views_of vs),
      sum_by-cons (λ (x : ShardView ShardState Entry). f x.books) v vs,
      same_books f vs,
    )

-- at the opening each shard has the profiles of its rules
profiles_opened : (config : Config) (r : Rules) (now : ℕ) (ns : List ℕ) → AllByRecursion (λ (x : ShardView ShardState Handled). length x.state.rules.profiles ≡ length r.profiles) (views_of (map (λ (n : ℕ). opened n r (statics_of config n) now) ns))
profiles_opened config r now [] = tt
profiles_opened config r now (n ∷ ns) = (refl, profiles_opened config r now ns)

module _ (config : Config) (r : Rules) (now : ℕ) (start end : DeskView ShardState Handled) (rounds : List (List (ShardTurn Handled))) (books : BooksAccount pppoe start rounds end) where
  -- What is printed for each ---------------------------------------------------------------------------------------------------

  module _ (last : Desk) (ends : end.shards ≡ views_of last.shards) where
    under_by : (input : Bool) (place : ℕ) → sum_by (λ (v : ShardView ShardState Entry). in_book Octets input (book_at place v.books)) last.shards ≡ sent_under Octets place input (sends_of rounds)
    under_by input place =
        let said = λ (bs : List Book). in_book Octets input (book_at place bs) in
        sym (same_books said last.shards) ∙ sym (ap (λ (xs : List (ShardView ShardState Handled)). sum_by (λ (x : ShardView ShardState Handled). said x.books) xs) ends) ∙ books.each Octets place input

    under_one : (place : ℕ) → traffic_under last.shards place ≡ profile_traffic rounds place
    under_one place =
        let t = profile_traffic rounds place in
        traffic_is (traffic_under last.shards place) t.input t.output (under_by true place) (under_by false place)

    under_each : (places : List ℕ) → map (traffic_under last.shards) places ≡ map (profile_traffic rounds) places
    under_each [] = refl
    under_each (p ∷ places) =
        ap (λ (t : Traffic). t ∷ map (traffic_under last.shards) places) (under_one p) ∙ ap (λ (ts : List Traffic). profile_traffic rounds p ∷ ts) (under_each places)

    pub under_same : last.rules.profiles ≡ config.profiles → by_profile last ≡ all_profile_traffic config rounds
    under_same profiles =
        under_each (range_with_len 0 (length last.rules.profiles)) ∙ ap (λ (ps : List Profile). map (profile_traffic rounds) (range_with_len 0 (length ps))) profiles

  -- All together ---------------------------------------------------------------------------------------------------------------

  module _ (starts : start.shards ≡ views_of (opened_shards config r now)) (profiles : r.profiles ≡ config.profiles) (sent : List Datagram) (exact : StopsAccount (stops_of rounds) sent) (rows : RowsAccount rounds end)
      (none : (q : Quantity) (pick : Key → Bool) (input : Bool) → sum_by (λ x. rows_where q pick input x.rows) end.shards ≡ 0) where
    -- all that was sent is what the Stops say, where no row says anything
    sent_is : (q : Quantity) (input : Bool) → sent_in_all q input (sends_of rounds) ≡ in_book q input (total_in sent)
    sent_is q input =
        let whole : sent_where q is_any input (sends_of rounds) ≡ sent_in_all q input (sends_of rounds) = refl in
        omega (arith, rows q is_any input, none q is_any input, stops_say sent (stops_of rounds) exact q input, whole)

    have : AllByRecursion (λ (x : ShardView ShardState Handled). length x.state.rules.profiles ≡ length r.profiles) start.shards
    have = subst (λ (xs : List (ShardView ShardState Handled)). AllByRecursion (λ x. length x.state.rules.profiles ≡ length r.profiles) xs) (sym starts) (profiles_opened config r now (range_with_len 0 config.shards))

    all_under : (input : Bool) → sum_by (λ (i : ℕ). sent_under Octets i input (sends_of rounds)) (range_with_len 0 (length config.profiles)) ≡ in_book Octets input (total_in sent)
    all_under input =
        ap (λ (ps : List Profile). sum_by (λ (i : ℕ). sent_under Octets i input (sends_of rounds)) (range_with_len 0 (length ps))) (sym profiles)
        ∙ books.whole Octets input (length r.profiles) have ∙ sent_is Octets input

    pub all_add_up : AddsUpTo (total_in sent) (all_profile_traffic config rounds)
    all_add_up =
        let places = range_with_len 0 (length config.profiles) in
        record {
          input = sum_map (profile_traffic rounds) (λ (t : Traffic). t.input) places ∙ all_under true;
          output = sum_map (profile_traffic rounds) (λ (t : Traffic). t.output) places ∙ all_under false;
        }
