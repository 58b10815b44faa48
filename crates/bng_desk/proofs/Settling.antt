-- What the shards have to send is sent, one shard after the other.
use Rattle.std.proofs.Common.{◌≡◌, ℕ, ◌+◌, ◌<◌, ◌≤◌, Bool, cond, List, [], ◌∷◌, ◌++◌, map, length, take, drop, get_or, set, refl, sym, ap, subst, ◌∙◌, arith, append-nil, length-append}
use Rattle.std.specs.List.{All, count_by, sum_by}
use Rattle.std.proofs.lemmas.List.{length-map, map-append, take_more, take_more_set, take_all, drop-set-lt, drop-drop}
use Rattle.std.proofs.lemmas.List.Concat.{flat_map-append}
use Rattle.std.proofs.lemmas.List.Sums.{sum_by-append, sum_by-cons}
use Rattle.bng_base.specs.declared.book.Book.{Book}
use Rattle.bng_base.specs.declared.item.Charge.{Charge}
use Rattle.bng_base.specs.declared.item.Entry.{Entry}
use Rattle.bng_base.specs.declared.item.OutRecord.{OutRecord}
use Rattle.bng_base.specs.declared.outside.Datagram.{Datagram}
use Rattle.bng_base.specs.Stretch.{PlantStretch, plant_joined, ExtendsPlant}
use Rattle.bng_base.specs.Told.{PlantTold}
use Rattle.bng_base.proofs.StretchLaws.{plant_more, plant_stays}
use Rattle.bng_engine.specs.Journals.{unsent}
use Rattle.bng_engine.specs.Lists.{Zip3, one_if}
use Rattle.bng_engine.specs.Quantities.{Quantity, in_book}
use Rattle.bng_engine.specs.Showing.{with_lists}
use Rattle.bng_engine.specs.Sums.{part_of_charge, charge_if, is_directed, passed_sum}
use Rattle.bng_engine.specs.Views.{ShardView}
use Rattle.bng_engine.specs.Wire.{went}
use Rattle.bng_engine.proofs.Walks.{same_at}
use Rattle.bng_engine.proofs.Wire.{went_append}
use Rattle.bng_pool.specs.Tables.{Table}
use Rattle.bng_steps.specs.Protocol.{ShardState, Handled}
use Rattle.bng_steps.specs.Sums.{IsLow, AreLow, RowsAreLow}
use Rattle.bng_desk.specs.declared.drops.Drops.{Drops}
use Rattle.bng_desk.specs.Counting.{plus}
use Rattle.bng_desk.specs.Round.{is_failed, with_failed, not_sent, sends_stretch}
use Rattle.bng_desk.specs.Taking.{IsEmpty, IsLight, AreInOrder, IsTurning, Turns, AllTurn, Covers, Falls, SentTo, Sends, SendsAll, joined}
use Rattle.bng_desk.proofs.Readying.{Shards}
use Rattle.bng_desk.proofs.Returning.{HoldsOwn, holds_still}
use Rattle.bng_desk.proofs.Sending.{failed_none, failed_more, failed_least, passed_unsent}
use Rattle.bng_desk.proofs.Zips.{zip3_push, zip3_at, zip3_length}

-- the outs of the first shards were sent, and the other shards are as they were
pub record SettlesSome (olds shards : Shards) (i : ℕ) (old new : PlantTold) (outs : List OutRecord) (journals : List (List Entry)) (drops drops' : Drops) (tally tally' : Book) : Type 0 where
  pub sends : List (List OutRecord)
  pub done : Zip3 SentTo (take i olds) (take i shards) sends
  pub rest : drop i shards ≡ drop i olds
  pub outs_are : outs ≡ joined sends
  pub journals_are : journals ≡ map (λ v. v.journal) (take i olds)
  pub told : ExtendsPlant old new (sends_stretch (joined sends))
  pub drops_are : drops' ≡ plus drops (with_failed (count_by is_failed (joined sends)))
  pub falls : Falls tally (joined sends) tally'

-- Lists -----------------------------------------------------------------------------------------------------------------

tails : (xs ys : Shards) (i : ℕ) → drop i xs ≡ drop i ys → drop (i + 1) xs ≡ drop (i + 1) ys
tails xs ys i e = sym (drop-drop 1 i xs) ∙ ap (drop 1) e ∙ drop-drop 1 i ys

joined_push : (rss : List (List OutRecord)) (rs : List OutRecord) → joined rss ++ rs ≡ joined (rss ++ rs ∷ [])
joined_push rss rs = ap (λ (ys : List OutRecord). joined rss ++ ys) (sym (append-nil rs)) ∙ sym (flat_map-append (λ (x : List OutRecord). x) rss (rs ∷ []))

as_many : (v w : ShardView ShardState Entry) (sends : List OutRecord) → SentTo v w sends → length sends ≡ length v.outs
as_many v w sends s = omega (arith, ap (λ (xs : List OutRecord). length xs) s.are_outs, length-map sends unsent, length-map v.outs unsent)

-- how many were sent
pub joined_count : (vs ws : Shards) (rss : List (List OutRecord)) → Zip3 SentTo vs ws rss → length (joined rss) ≡ sum_by (λ (v : ShardView ShardState Entry). length v.outs) vs
joined_count [] [] [] h = refl
joined_count (v ∷ vs) (w ∷ ws) (rs ∷ rss) h =
    omega (arith, length-append rs (joined rss), as_many v w rs h.0, joined_count vs ws rss h.1, sum_by-cons (λ (v : ShardView ShardState Entry). length v.outs) v vs)
joined_count vs ws rss h = absurd h

-- what passed was sent, or failed
pub joined_passed : (f : Charge → ℕ) (vs ws : Shards) (rss : List (List OutRecord)) → Zip3 SentTo vs ws rss → passed_sum f (joined rss) ≡ sum_by (λ (v : ShardView ShardState Entry). passed_sum f v.outs) vs
joined_passed f [] [] [] h = refl
joined_passed f (v ∷ vs) (w ∷ ws) (rs ∷ rss) h =
    omega (
      arith,
      sum_by-append (λ (r : OutRecord). part_of_charge f r.charge) rs (joined rss),
      passed_unsent f rs,
      passed_unsent f v.outs,
      ap (passed_sum f) h.0.are_outs,
      joined_passed f vs ws rss h.1,
      sum_by-cons (λ (v : ShardView ShardState Entry). passed_sum f v.outs) v vs,
    )
joined_passed f vs ws rss h = absurd h

-- What is told ----------------------------------------------------------------------------------------------------------

abbrev made : List Datagram → ℕ → PlantStretch
made sent failed = record { heard = []; taken = []; sent = sent; failed = failed }

stretches : (a b : List OutRecord) → plant_joined (sends_stretch a) (sends_stretch b) ≡ sends_stretch (a ++ b)
stretches a b =
    ap (λ (ds : List Datagram). made ds (count_by not_sent a + count_by not_sent b)) (sym (went_append a b))
    ∙ ap (λ (n : ℕ). made (went (a ++ b)) n) (sym (sum_by-append (λ (o : OutRecord). one_if (not_sent o)) a b))

-- One after the other ---------------------------------------------------------------------------------------------------

falls_more : (a b : List OutRecord) (tally mid tally' : Book) → Falls tally a mid → Falls mid b tally' → Falls tally (a ++ b) tally'
falls_more a b tally mid tally' x y q input =
    omega (arith, x q input, y q input, sum_by-append (λ (r : OutRecord). cond r.sent 0 (part_of_charge (charge_if q (is_directed input)) r.charge)) a b)

pub settles_none : (olds : Shards) (told : PlantTold) (outs : List OutRecord) (journals : List (List Entry)) (drops : Drops) (tally : Book) → outs ≡ [] → journals ≡ [] → SettlesSome olds olds 0 told told outs journals drops drops tally tally
settles_none olds told outs journals drops tally no_outs no_journals = record {
  sends = [];
  done = tt;
  rest = refl;
  outs_are = no_outs;
  journals_are = no_journals;
  told = plant_stays told;
  drops_are = failed_none drops;
  falls = λ q input. omega arith;
}

module _ (olds shards : Shards) (i : ℕ) (d : ShardView ShardState Entry) (old mid new : PlantTold) (outs outs' : List OutRecord) (journals journals' : List (List Entry)) (journal : List Entry) (drops drops' drops'' : Drops) (tally tally' tally'' : Book) where
  pub settles_more : i < length olds → length shards ≡ length olds → (w : ShardView ShardState Entry) → SettlesSome olds shards i old mid outs journals drops drops' tally tally'
      → Sends (get_or shards i d) w mid new outs outs' journal drops' drops'' tally' tally''
      → (last : List Entry) → journals' ≡ journals ++ last ∷ [] → last ≡ journal → SettlesSome olds (set shards i w) (i + 1) old new outs' journals' drops drops'' tally tally''
  settles_more lt same w so_far here last pushed is =
      let v = get_or olds i d in
      let at : get_or shards i d ≡ v = same_at olds shards i d so_far.rest in
      let one : take (i + 1) olds ≡ take i olds ++ v ∷ [] = take_more olds i d lt in
      let rss = so_far.sends in
      let rs = here.sends in
      let all : joined rss ++ rs ≡ joined (rss ++ rs ∷ []) = joined_push rss rs in
      let within : i < length shards = omega (arith, lt, same) in
      let two : take (i + 1) (set shards i w) ≡ take i shards ++ w ∷ [] = take_more_set shards i w within in
      record {
        sends = rss ++ rs ∷ [];
        done = subst (λ (vs : Shards). Zip3 SentTo vs (take (i + 1) (set shards i w)) (rss ++ rs ∷ [])) (sym one)
            (subst (λ (ws : Shards). Zip3 SentTo (take i olds ++ v ∷ []) ws (rss ++ rs ∷ [])) (sym two)
            (zip3_push SentTo (take i olds) (take i shards) rss v w rs so_far.done (subst (λ (x : ShardView ShardState Entry). SentTo x w rs) at here.sent)));
        rest = drop-set-lt (i + 1) shards i w (omega arith) ∙ tails shards olds i so_far.rest;
        outs_are = here.outs_are ∙ ap (λ (xs : List OutRecord). xs ++ rs) so_far.outs_are ∙ all;
        journals_are = pushed
            ∙ ap (λ (xs : List (List Entry)). xs ++ last ∷ []) so_far.journals_are
            ∙ ap (λ (x : List Entry). map (λ (y : ShardView ShardState Entry). y.journal) (take i olds) ++ x ∷ []) (is ∙ here.journal_is ∙ ap (λ (x : ShardView ShardState Entry). x.journal) at)
            ∙ sym (map-append (λ (y : ShardView ShardState Entry). y.journal) (take i olds) (v ∷ []))
            ∙ ap (λ (vs : Shards). map (λ (y : ShardView ShardState Entry). y.journal) vs) (sym one);
        told = subst (λ (s : PlantStretch). ExtendsPlant old new s) (stretches (joined rss) rs ∙ ap sends_stretch all) (plant_more old mid new (sends_stretch (joined rss)) (sends_stretch rs) so_far.told here.told);
        drops_are = here.drops_are
            ∙ ap (λ (x : Drops). plus x (with_failed (count_by is_failed rs))) so_far.drops_are
            ∙ failed_more drops (count_by is_failed (joined rss)) (count_by is_failed rs)
            ∙ ap (λ (n : ℕ). plus drops (with_failed n)) (sym (sum_by-append (λ (o : OutRecord). one_if (is_failed o)) (joined rss) rs))
            ∙ ap (λ (xs : List OutRecord). plus drops (with_failed (count_by is_failed xs))) all;
        falls = subst (λ (xs : List OutRecord). Falls tally xs tally'') all (falls_more (joined rss) rs tally tally' tally'' so_far.falls here.falls);
      }

  -- the next shard's outs stand in the tally
  pub next_covered : i < length olds → SettlesSome olds shards i old mid outs journals drops drops' tally tally' → ((q : Quantity) (input : Bool) → sum_by (λ (v : ShardView ShardState Entry). passed_sum (charge_if q (is_directed input)) v.outs) olds ≤ in_book q input tally)
      → ((f : ShardView ShardState Entry → ℕ) → sum_by f (take i olds) + f (get_or olds i d) ≤ sum_by f olds) → Covers tally' (get_or shards i d).outs
  next_covered lt so_far covers within q input =
      let f = charge_if q (is_directed input) in
      omega (
        arith,
        covers q input,
        so_far.falls q input,
        failed_least f (joined so_far.sends),
        joined_passed f (take i olds) (take i shards) so_far.sends so_far.done,
        within (λ (v : ShardView ShardState Entry). passed_sum f v.outs),
        ap (λ (v : ShardView ShardState Entry). passed_sum f v.outs) (same_at olds shards i d so_far.rest),
      )

-- all of them
pub settles_them : (olds shards : Shards) (i : ℕ) (old new : PlantTold) (outs : List OutRecord) (journals : List (List Entry)) (drops drops' : Drops) (tally tally' : Book) → i ≡ length olds → length shards ≡ length olds → SettlesSome olds shards i old new outs journals drops drops' tally tally' → SendsAll olds shards old new outs journals drops drops' tally tally'
settles_them olds shards i old new outs journals drops drops' tally tally' e same s =
    let all : take i olds ≡ olds = take_all i olds (omega (arith, e)) in
    let those : take i shards ≡ shards = take_all i shards (omega (arith, e, same)) in
    record {
      sends = s.sends;
      each = subst (λ (vs : Shards). Zip3 SentTo vs shards s.sends) all (subst (λ (ws : Shards). Zip3 SentTo (take i olds) ws s.sends) those s.done);
      outs_are = s.outs_are;
      journals_are = s.journals_are ∙ ap (map (λ (v : ShardView ShardState Entry). v.journal)) all;
      told = s.told;
      drops_are = s.drops_are;
      falls = s.falls;
    }

-- What is left ----------------------------------------------------------------------------------------------------------

module _ (vs ws : Shards) (rss : List (List OutRecord)) (z : Zip3 SentTo vs ws rss) where
  count : length vs ≡ length ws
  count = zip3_length SentTo vs ws rss z

  each : (k : ℕ) (d : ShardView ShardState Entry) → k < length ws → SentTo (get_or vs k d) (get_or ws k d) (get_or rss k [])
  each k d lt = zip3_at SentTo vs ws rss k d d [] z (omega (arith, lt, count))

  pub all_empty : All IsEmpty ws
  all_empty k d lt = (each k d lt).empty

  pub all_low : (most octets : ℕ) → All (λ v. RowsAreLow most v.rows) vs → All (λ v. IsLight octets v.outs) vs → All (λ v. RowsAreLow (most + octets) v.rows) ws
  all_low most octets low light k d lt = (each k d lt).rows most octets (low k d (omega (arith, lt, count))) (light k d (omega (arith, lt, count)))

  pub all_books : (most : ℕ) → All (λ v. AreLow most v.books) vs → All (λ v. AreLow most v.books) ws
  all_books most low k d lt = (each k d lt).books most (low k d (omega (arith, lt, count)))

  pub in_order : AreInOrder vs → AreInOrder ws
  in_order order k d lt = (each k d lt).number ∙ order k d (omega (arith, lt, count))

  -- sending changes no state
  pub same_state : AllTurn vs → (k : ℕ) (d : ShardView ShardState Entry) → k < length ws → (get_or ws k d).state ≡ (get_or vs k d).state
  same_state all k d lt =
      let x : ShardView ShardState Handled = with_lists d [] [] [] in
      let t = zip3_at IsTurning vs all.was all.now k d x x all.turning (omega (arith, lt, count)) in
      ((each k d lt).turn (get_or all.was k x) (get_or all.now k x) t).state ∙ sym t.turn.state ∙ sym (ap (λ (y : ShardView ShardState Handled). y.state) t.shows.same)

  pub all_state : (P : ShardState → Type 0) → AllTurn vs → All (λ v. P v.state) vs → All (λ v. P v.state) ws
  all_state P all these k d lt = subst P (sym (same_state all k d lt)) (these k d (omega (arith, lt, count)))

  pub all_held : (table : Table) → AllTurn vs → All (HoldsOwn table) vs → All (HoldsOwn table) ws
  all_held table all held k d lt = holds_still table (get_or vs k d) (get_or ws k d) (each k d lt).number (same_state all k d lt) (held k d (omega (arith, lt, count)))

pub falls_low : (tally tally' : Book) (sends : List OutRecord) → Falls tally sends tally' → (most : ℕ) → IsLow most tally → IsLow most tally'
falls_low tally tally' sends falls most low q input = omega (arith, falls q input, low q input)

-- within its turn, at one place
pub turns_at : (vs : Shards) (k : ℕ) (d v : ShardView ShardState Entry) → k < length vs → v ≡ get_or vs k d → AllTurn vs → Turns v
turns_at vs k d v lt is all =
    let x : ShardView ShardState Handled = with_lists d [] [] [] in
    record {
      was = get_or all.was k x;
      now = get_or all.now k x;
      turning = subst (λ (y : ShardView ShardState Entry). IsTurning y (get_or all.was k x) (get_or all.now k x)) (sym is) (zip3_at IsTurning vs all.was all.now k d x x all.turning lt);
    }
