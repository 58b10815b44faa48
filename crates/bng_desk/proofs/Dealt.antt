-- The shards once some items were dealt, each by itself.
use Rattle.std.proofs.Common.{◌≡◌, ℕ, ◌+◌, ◌-◌, ◌*◌, ◌<◌, ◌≤◌, List, [], map, length, get_or, sym, ap, subst, ◌∙◌, arith, length-append}
use Rattle.std.specs.List.{All, AllZip}
use Rattle.std.proofs.lemmas.List.{get_or-map, length-map}
use Rattle.std.proofs.lemmas.List.Elements.{All-set, All-weaker, All-from_recursion}
use Rattle.bng_base.specs.declared.book.Book.{Book}
use Rattle.bng_base.specs.declared.fate.Fate.{Fate}
use Rattle.bng_base.specs.declared.item.Entry.{Entry}
use Rattle.bng_base.specs.declared.item.Item.{Item}
use Rattle.bng_base.specs.declared.item.Loose.{Loose}
use Rattle.bng_engine.specs.Books.{book_at, passed_under, failed_under}
use Rattle.bng_engine.specs.Calls.{InTurn}
use Rattle.bng_engine.specs.Quantities.{in_book}
use Rattle.bng_engine.specs.Showing.{Shows, with_journal}
use Rattle.bng_engine.specs.Sums.{is_any, is_directed, is_under, sent_where}
use Rattle.bng_engine.specs.Views.{ShardView, rows_where}
use Rattle.bng_pool.specs.Plain.{PlainView}
use Rattle.bng_steps.specs.declared.rules.Rules.{Rules}
use Rattle.bng_steps.specs.declared.whose.Whose.{Whose}
use Rattle.bng_steps.specs.declared.whose.Whose.TheVariants.{Loose as IsLoose, Stands}
use Rattle.bng_steps.specs.Protocol.{ShardState, Handled, pppoe}
use Rattle.bng_steps.specs.Sums.{IsLow, AreLow, RowsAreLow}
use Rattle.bng_desk.specs.declared.drops.Drops.{Drops}
use Rattle.bng_desk.specs.Items.{entries_in, loose_item, without_claim}
use Rattle.bng_desk.specs.Round.{IsWhoseIn, views_of}
use Rattle.bng_desk.specs.Taking.{AreInOrder, Deals, DealsOne, DealsTo}
use Rattle.bng_desk.proofs.Admitting.{StandsOnce, stands_once}
use Rattle.bng_desk.proofs.Dealing.{handed_to, dealt_in}
use Rattle.bng_desk.proofs.OneMore.{step_light}
use Rattle.bng_desk.proofs.Readying.{Shards, WorksBy}
use Rattle.bng_desk.proofs.RulesStay.{after_rules}
use Rattle.bng_desk.proofs.Zips.{zip_at, zip_length, zip_onward}

module _ (r : Rules) (pool mid : PlainView) (moment : ℕ) (items : List Item) (olds shards : Shards) (loose : List Loose) (first drops : Drops) (start tally : Book) (s : Deals r pool mid moment items olds shards loose first drops start tally) where
  record AtPlace (k : ℕ) (d : ShardView ShardState Entry) : Type 0 where
    seen : ShardView ShardState Handled
    among : k < length olds
    turn : InTurn pppoe (with_journal (get_or olds k d) []) seen
    shows : Shows pppoe (get_or shards k d) seen
    sends : seen.sends ≡ []
    entries : handed_to seen ≡ entries_in 0 k 0 moment items s.whose

  at_place : (k : ℕ) (d : ShardView ShardState Entry) → k < length shards → AtPlace k d
  at_place k d lt =
      let e : ShardView ShardState Handled = with_journal d [] in
      let inside : k < length s.seen = omega (arith, lt, zip_length (Shows pppoe) shards s.seen s.shown) in
      let within : k < length (views_of olds) = omega (arith, inside, zip_length (InTurn pppoe) (views_of olds) s.seen s.round.shards) in
      let among : k < length olds = omega (arith, within, length-map olds (λ (v : ShardView ShardState Entry). with_journal {E = Handled} v [])) in
      let at : 0 + k ≡ k = omega arith in
      record {
        seen = get_or s.seen k e;
        among = among;
        turn = subst (λ (x : ShardView ShardState Handled). InTurn pppoe x (get_or s.seen k e)) (get_or-map (λ (v : ShardView ShardState Entry). with_journal v []) olds k d e among)
            (zip_at (InTurn pppoe) (views_of olds) s.seen k e e s.round.shards within);
        shows = zip_at (Shows pppoe) shards s.seen k d e s.shown lt;
        sends = All-from_recursion (λ (v : ShardView ShardState Handled). v.sends ≡ []) s.seen s.round.unsent k e inside;
        entries = dealt_in (IsWhoseIn r pool.table mid.table) moment 0 k items s.whose s.seen e inside s.dealt ∙ ap (λ (n : ℕ). entries_in 0 n 0 moment items s.whose) at;
      }

  pub numbers_dealt : AreInOrder olds → AreInOrder shards
  numbers_dealt order k d lt =
      let a = at_place k d lt in
      ap (λ (x : ShardView ShardState Handled). x.number) a.shows.same ∙ a.turn.number ∙ order k d a.among

  -- the journal of a shard has the entries of its items
  pub journal_in : (n : ℕ) (d : ShardView ShardState Entry) → n < length shards → map without_claim (get_or shards n d).journal ≡ entries_in 0 n 0 moment items s.whose
  journal_in n d lt = let a = at_place n d lt in ap (map without_claim) (sym a.shows.entries) ∙ a.entries

  -- each Tick and each End stood in the shard that it is for
  pub dealt_once : AllZip StandsOnce items s.whose
  dealt_once = zip_onward (IsWhoseIn r pool.table mid.table) StandsOnce (λ i w h. stands_once r h.table i w h.is) items s.whose s.is_whose

  -- what is dealt adds to no row, and to a book what passed
  pub dealt_rows : (most : ℕ) → All (λ v. RowsAreLow most v.rows) olds → All (λ v. RowsAreLow most v.rows) shards
  dealt_rows most low k d lt q input =
      let a = at_place k d lt in
      omega (
        arith,
        ap (λ (x : ShardView ShardState Handled). rows_where q is_any input x.rows) a.shows.same,
        a.turn.rows q is_any input,
        ap (sent_where q is_any input) a.sends,
        low k d a.among q input,
      )

  pub dealt_books : (most : ℕ) → All (λ v. AreLow most v.books) olds → All (λ v. AreLow (most + 4160 * length items) v.books) shards
  dealt_books most low k d lt i within q input =
      let a = at_place k d lt in
      let same = ap (λ (x : ShardView ShardState Handled). x.books) a.shows.same in
      let inside : i < length (get_or olds k d).books = omega (arith, within, ap (λ (bs : List Book). length bs) same, a.turn.books.count) in
      omega (
        arith,
        ap (λ (bs : List Book). in_book q input (book_at i bs)) same,
        a.turn.books.each q i input inside,
        ap (failed_under q i input) a.sends,
        ap (λ (x : ShardView ShardState Handled). passed_under q i input x.outs) a.shows.same,
        s.light k d lt q (is_under i input),
        low k d a.among i inside q input,
      )

  -- the rules stay what they are
  pub dealt_rules : (by : Rules) → All (WorksBy by) olds → All (WorksBy by) shards
  dealt_rules by works k d lt =
      let a = at_place k d lt in
      ap (λ (x : ShardView ShardState Handled). x.state.rules) a.shows.same ∙ ap (λ (x : ShardState). x.rules) a.turn.state ∙ after_rules (get_or olds k d).state a.seen.journal ∙ works k d a.among

  pub dealt_count : length shards ≡ length olds
  dealt_count = zip_length (Shows pppoe) shards s.seen s.shown ∙ sym (zip_length (InTurn pppoe) (views_of olds) s.seen s.round.shards) ∙ length-map olds (λ (v : ShardView ShardState Entry). with_journal {E = Handled} v [])

  module _ (pool' : PlainView) (place : ℕ) (item : Item) (shards' : Shards) (loose' : List Loose) (tally' : Book) (fate : Fate) where
    room_by : (w : Whose) → DealsTo mid pool' w place moment item shards shards' loose loose' tally tally' fate → (total n : ℕ) → n < total → All (λ v. total ≤ v.room + n) shards → All (λ v. total ≤ v.room + (n + 1)) shards'
    room_by (IsLoose cause) deals total n lt room =
        subst (λ (vs : Shards). All (λ v. total ≤ v.room + (n + 1)) vs) (sym deals.2)
        (All-weaker (λ (v : ShardView ShardState Entry). total ≤ v.room + n) (λ (v : ShardView ShardState Entry). total ≤ v.room + (n + 1)) (λ v le. omega (arith, le)) shards room)
    room_by (Stands k) deals total n lt room =
        let h = deals.0 in
        let a = at_place k h.shard h.within in
        let here : h.shard.room ≡ (get_or shards k h.shard).room - 1 = (h.handles.shown.handles a.seen.journal a.shows.entries).room in
        subst (λ (vs : Shards). All (λ v. total ≤ v.room + (n + 1)) vs) (sym h.others)
        (All-set (λ (v : ShardView ShardState Entry). total ≤ v.room + (n + 1)) shards k h.shard (omega (arith, here, room k h.shard h.within, lt))
        (All-weaker (λ (v : ShardView ShardState Entry). total ≤ v.room + n) (λ (v : ShardView ShardState Entry). total ≤ v.room + (n + 1)) (λ v le. omega (arith, le)) shards room))

    -- an item takes one place
    pub room_more : DealsOne r mid pool' place moment item shards shards' loose loose' tally tally' fate → (total n : ℕ) → n < total → All (λ v. total ≤ v.room + n) shards → All (λ v. total ≤ v.room + (n + 1)) shards'
    room_more one total n lt room = room_by one.whose one.deals total n lt room

    loose_by : (w : Whose) → DealsTo mid pool' w place moment item shards shards' loose loose' tally tally' fate → length loose' ≤ length loose + 1
    loose_by (IsLoose cause) deals = omega (arith, ap (λ (ls : List Loose). length ls) deals.3, length-append loose (loose_item 0 place item (IsLoose cause)))
    loose_by (Stands k) deals = omega (arith, ap (λ (ls : List Loose). length ls) deals.1)

    pub loose_more : DealsOne r mid pool' place moment item shards shards' loose loose' tally tally' fate → length loose' ≤ length loose + 1
    loose_more one = loose_by one.whose one.deals

    tally_by : (w : Whose) → DealsTo mid pool' w place moment item shards shards' loose loose' tally tally' fate → (most : ℕ) → IsLow most tally → IsLow (most + 4160) tally'
    tally_by (IsLoose cause) deals most low q input = omega (arith, ap (in_book q input) deals.4, low q input)
    tally_by (Stands k) deals most low q input =
        let hs = deals.0.handles in
        omega (arith, hs.tallied q input, step_light item.kind hs.shown.effect.deed.outs hs.light hs.few q (is_directed input), low q input)

    -- and adds to the tally what passes
    pub tally_more : DealsOne r mid pool' place moment item shards shards' loose loose' tally tally' fate → (most : ℕ) → IsLow most tally → IsLow (most + 4160) tally'
    tally_more one most low = tally_by one.whose one.deals most low
