-- What a list of marks says of a shard that follows by it.
use Rattle.std.proofs.Common.{◌≡◌, ℕ, ◌+◌, ◌-◌, ◌*◌, ◌^◌, ◌<◌, ◌≤◌, ◌==◌, ◌%◌, Bool, true, false, cond, List, [], ◌∷◌, ◌++◌, length, length-append, map, sum, slice_index_or, refl, sym, ap, ◌∙◌, subst, arith}
use Rattle.std.specs.List.{AllByRecursion}
use Rattle.std.proofs.lemmas.List.{append-nil, append_assoc, map-append}
use Rattle.bng_base.specs.declared.item.Entry.{Entry}
use Rattle.bng_engine.specs.Books.{BooksRise}
use Rattle.bng_pool.specs.Seats.{IsInRound}
use Rattle.bng_round.specs.declared.mark.Mark.{Mark}
use Rattle.bng_round.specs.Asking.{Goes, AreHeldBy}
use Rattle.bng_round.specs.Booking.{without_claim, of_seat, Rise, mark_of, IsNext, HandlesBy, IsStep, Runs, Follows, IsBeside, IsSet, CanHandle}
use Rattle.bng_round.specs.Ticks.{is_for_shard, is_tick, is_end}
use Rattle.bng_round.specs.Views.{Shown, PlacedView}
use Rattle.bng_round.proofs.Answering.{goes_same, goes_on, asked_goes}
use Rattle.bng_round.proofs.Journals.{places_more, room_left, all_snoc, IsHome, none_else, tick_for, end_for, seat_for}
use Rattle.bng_round.proofs.Lightness.{books_more}
use Rattle.bng_steps.specs.Protocol.{ShardState, Handled, pppoe, terms_of}
use Rattle.bng_steps.specs.Seats.{IsSeat}
use Rattle.bng_steps.specs.Sums.{AreLow}
use Rattle.bng_turn.specs.Marks.{marks_of}

pub follows_self : (v : PlacedView) → v.shard.journal ≡ [] → Follows v [] v
follows_self v none = record { effects = []; marks = refl; runs = refl; seats = tt; empty = none }

runs_more : (v w x : PlacedView) (hs : List Handled) (h : Handled) → Runs v hs w → IsStep w h x → Runs v (hs ++ h ∷ []) x
runs_more v w x [] h runs is = (x, subst (λ (z : PlacedView). IsStep z h x) runs is, refl)
runs_more v w x (e ∷ hs) h runs is = (runs.0, runs.1, runs_more runs.0 w x hs h runs.2 is)

-- one entry more
pub follows_more : (v w x : PlacedView) (list : List (ℕ × Mark)) (k : ℕ) (h : Handled) → Follows v list w → IsStep w h x → h.deed.entry.seat ≡ k → Follows v (list ++ (k, mark_of h) ∷ []) x
follows_more v w x list k h f is seat = record {
  effects = f.effects ++ h ∷ [];
  marks = map-append mark_of f.effects (h ∷ []) ∙ (ap (λ l. l ++ mark_of h ∷ []) f.marks ∙ sym (map-append (λ (y : ℕ × Mark). y.1) list ((k, mark_of h) ∷ [])));
  runs = runs_more v w x f.effects h f.runs is;
  seats = all_snoc IsBeside list (k, mark_of h) f.seats seat;
  empty = f.empty;
}

-- effects whose entries are these, whatever they are
pub effects_for : (h : Handled) (journal : List Entry) → (es : List Handled) × (map (λ (x : Handled). x.deed.entry) es ≡ journal)
effects_for h [] = ([], refl)
effects_for h (e ∷ journal) = let rest = effects_for h journal in ((record h { deed = record h.deed { entry = e } }) ∷ rest.0, ap (λ (l : List Entry). e ∷ l) rest.1)

-- what the handling of an entry says without the effects before it
pub record Handling (v : Shown) (h : Handled) (v' : Shown) : Type 0 where
  pub is_step : (pppoe).is_step v.state h
  pub number : v'.number ≡ v.number
  pub allowance : v'.allowance ≡ v.allowance
  pub state : v'.state ≡ (pppoe).next v.state h
  pub books : BooksRise v.books h.deed.outs v'.books
  pub outs : v'.outs ≡ v.outs ++ h.deed.outs
  pub room : v'.room ≡ v.room - 1

pub handling : (v : Shown) (h : Handled) (v' : Shown) → HandlesBy v h v' → Handling v h v'
handling v h v' b = let es = effects_for h v.journal in let d = b.handles es.0 es.1 in record { is_step = d.is_step; number = d.number; allowance = d.allowance; state = d.state; books = d.books; outs = d.outs; room = d.room }

-- What steps leave as it is --------------------------------------------------------------------------------------------------

pub record Keeps (v w : PlacedView) : Type 0 where
  pub number : w.shard.number ≡ v.shard.number
  pub rules : w.shard.state.rules ≡ v.shard.state.rules
  pub allowance : w.shard.allowance ≡ v.shard.allowance
  pub moment : w.moment ≡ v.moment
  pub lists : w.lists ≡ v.lists

pub step_keeps : (v w : PlacedView) (h : Handled) → IsStep v h w → Keeps v w
step_keeps v w h is = let d = handling v.shard h w.shard is.handles in record {
  number = d.number;
  rules = ap (λ (s : ShardState). s.rules) d.state;
  allowance = d.allowance;
  moment = is.moment;
  lists = is.lists;
}

pub keeps_on : (u v w : PlacedView) → Keeps u v → Keeps v w → Keeps u w
keeps_on u v w j k = record { number = k.number ∙ j.number; rules = k.rules ∙ j.rules; allowance = k.allowance ∙ j.allowance; moment = k.moment ∙ j.moment; lists = k.lists ∙ j.lists }

pub runs_keep : (v w : PlacedView) (hs : List Handled) → Runs v hs w → Keeps v w
runs_keep v w [] runs = subst (λ (z : PlacedView). Keeps v z) (sym runs) record { number = refl; rules = refl; allowance = refl; moment = refl; lists = refl }
runs_keep v w (h ∷ hs) runs = keeps_on v runs.0 w (step_keeps v runs.0 h runs.1) (runs_keep runs.0 w hs runs.2)

pub runs_hold : (v w : PlacedView) (hs : List Handled) → IsInRound v.hold → Runs v hs w → Goes v.hold w.hold
runs_hold v w [] round runs = subst (λ (z : PlacedView). Goes v.hold z.hold) (sym runs) (goes_same v.hold)
runs_hold v w (h ∷ hs) round runs =
    let m : PlacedView = runs.0 in
    let goes = asked_goes runs.1.wish h.deed.entry.claim v.hold m.hold round runs.1.asked in
    goes_on v.hold m.hold w.hold goes (runs_hold m w hs (ap (λ z. z % 2) goes.phase ∙ round.0, goes.full ∙ round.1) runs.2)

pub runs_held : (v w : PlacedView) (hs : List Handled) → AreHeldBy v.hold (terms_of v.shard.state) → Runs v hs w → AreHeldBy w.hold (terms_of w.shard.state)
runs_held v w [] held runs = subst (λ (z : PlacedView). AreHeldBy z.hold (terms_of z.shard.state)) (sym runs) held
runs_held v w (h ∷ hs) held runs = runs_held runs.0 w hs runs.1.held runs.2

-- The journal -------------------------------------------------------------------------------------------------------------------

pub runs_journal : (v w : PlacedView) (hs : List Handled) → Runs v hs w → w.shard.journal ≡ v.shard.journal ++ map (λ (h : Handled). h.deed.entry) hs
runs_journal v w [] runs = ap (λ (z : PlacedView). z.shard.journal) runs ∙ sym (append-nil v.shard.journal)
runs_journal v w (h ∷ hs) runs =
    runs_journal runs.0 w hs runs.2 ∙ (ap (λ (l : List Entry). l ++ map (λ (x : Handled). x.deed.entry) hs) runs.1.handles.journal ∙ append_assoc v.shard.journal (h.deed.entry ∷ []) (map (λ (x : Handled). x.deed.entry) hs))

entries_in_marks : (hs : List Handled) → map (λ (m : Mark). m.entry) (map mark_of hs) ≡ map (λ (h : Handled). h.deed.entry) hs
entries_in_marks [] = refl
entries_in_marks (h ∷ hs) = ap (λ (l : List Entry). h.deed.entry ∷ l) (entries_in_marks hs)

entries_beside : (list : List (ℕ × Mark)) → map (λ (m : Mark). m.entry) (map (λ (x : ℕ × Mark). x.1) list) ≡ map (λ (x : ℕ × Mark). x.1.entry) list
entries_beside [] = refl
entries_beside (x ∷ list) = ap (λ (l : List Entry). x.1.entry ∷ l) (entries_beside list)

-- the journal has the entries of the list
pub follows_journal : (v w : PlacedView) (list : List (ℕ × Mark)) → Follows v list w → w.shard.journal ≡ map (λ (x : ℕ × Mark). x.1.entry) list
follows_journal v w list f =
    runs_journal v w f.effects f.runs ∙ (ap (λ (l : List Entry). l ++ map (λ (h : Handled). h.deed.entry) f.effects) f.empty
    ∙ (sym (entries_in_marks f.effects) ∙ (ap (map (λ (m : Mark). m.entry)) f.marks ∙ entries_beside list)))

through : (b : Bool) (m : Mark) (ms : List Mark) → cond b (m.entry ∷ map (λ (n : Mark). n.entry) ms) (map (λ (n : Mark). n.entry) ms) ≡ map (λ (n : Mark). n.entry) (cond b (m ∷ ms) ms)
through true m ms = refl
through false m ms = refl

beside_marks : (k : ℕ) (list : List (ℕ × Mark)) → AllByRecursion IsBeside list → of_seat k (map (λ (x : ℕ × Mark). x.1.entry) list) ≡ map (λ (m : Mark). m.entry) (marks_of k list)
beside_marks k [] all = refl
beside_marks k (x ∷ list) all =
    ap (λ (n : ℕ). cond (n == k) (x.1.entry ∷ of_seat k (map (λ (y : ℕ × Mark). y.1.entry) list)) (of_seat k (map (λ (y : ℕ × Mark). y.1.entry) list))) all.0
    ∙ (ap (λ (l : List Entry). cond (x.0 == k) (x.1.entry ∷ l) l) (beside_marks k list all.1) ∙ through (x.0 == k) x.1 (marks_of k list))

-- a seat's entries in the journal are those of its marks
pub follows_seat : (v w : PlacedView) (list : List (ℕ × Mark)) (k : ℕ) → Follows v list w → of_seat k w.shard.journal ≡ map (λ (m : Mark). m.entry) (marks_of k list)
follows_seat v w list k f = ap (of_seat k) (follows_journal v w list f) ∙ beside_marks k list f.seats

-- What an item that may come finds ----------------------------------------------------------------------------------------------

-- a shard within a round that began with this one
pub record IsWithin (o v : PlacedView) : Type 0 where
  pub keeps : Keeps o v
  pub room : v.shard.room + length v.shard.journal ≡ sum o.lists
  pub books : AreLow (2 ^ 62 + 4160 * length v.shard.journal) v.shard.books
  pub held : AreHeldBy v.hold (terms_of v.shard.state)
  pub places : (k : ℕ) → Rise 0 (slice_index_or o.lists k 0) (of_seat k v.shard.journal)
  pub workers : AllByRecursion (λ (e : Entry). e.seat < length o.lists) v.shard.journal
  pub homes : AllByRecursion (IsHome o.shard.number (length o.lists)) v.shard.journal

pub set_within : (o : PlacedView) → IsSet o → IsWithin o o
set_within o set = record {
  keeps = record { number = refl; rules = refl; allowance = refl; moment = refl; lists = refl };
  room = omega (arith, set.room, ap length set.journal);
  books = λ i low q input. let h = set.books i low q input in omega arith;
  held = set.held;
  places = λ k. subst (λ (l : List Entry). Rise 0 (slice_index_or o.lists k 0) (of_seat k l)) (sym set.journal) tt;
  workers = subst (λ (l : List Entry). AllByRecursion (λ (e : Entry). e.seat < length o.lists) l) (sym set.journal) tt;
  homes = subst (λ (l : List Entry). AllByRecursion (IsHome o.shard.number (length o.lists)) l) (sym set.journal) tt;
}

-- not all items of the lists are handled
pub few_so_far : (o v : PlacedView) (a : Entry) → IsWithin o v → IsNext v a → length v.shard.journal < sum o.lists
few_so_far o v a w next =
    let lists = w.keeps.lists in
    room_left o.lists v.shard.journal a.seat a.place w.workers w.places next.past (subst (λ (l : List ℕ). a.place < slice_index_or l a.seat 0) lists next.low)

pub within_more : (o v v' : PlacedView) (h : Handled) → IsWithin o v → IsStep v h v' → IsWithin o v'
within_more o v v' h w is =
    let d = handling v.shard h v'.shard is.handles in
    let e : Entry = h.deed.entry in
    let a : Entry = without_claim e in
    let few = few_so_far o v a w is.next in
    let more : v'.shard.journal ≡ v.shard.journal ++ e ∷ [] = is.handles.journal in
    let longer : length v'.shard.journal ≡ length v.shard.journal + 1 = omega (arith, ap length more, length-append v.shard.journal (e ∷ [])) in
    let lists = w.keeps.lists in
    let number = w.keeps.number in record {
      keeps = keeps_on o v v' w.keeps (step_keeps v v' h is);
      room = omega (arith, d.room, w.room, few, longer);
      books = books_more (length v.shard.journal) (length v'.shard.journal) longer v.shard.books v'.shard.books h.deed.outs e.item.kind d.books is.light is.few w.books;
      held = is.held;
      places = λ k. subst (λ (l : List Entry). Rise 0 (slice_index_or o.lists k 0) (of_seat k l)) (sym more)
          (places_more o.lists v.shard.journal e w.places is.next.past (subst (λ (l : List ℕ). e.place < slice_index_or l e.seat 0) lists is.next.low) k);
      workers = subst (λ (l : List Entry). AllByRecursion (λ (x : Entry). x.seat < length o.lists) l) (sym more)
          (all_snoc (λ (x : Entry). x.seat < length o.lists) v.shard.journal e w.workers (subst (λ (l : List ℕ). e.seat < length l) lists is.next.worker));
      homes = subst (λ (l : List Entry). AllByRecursion (IsHome o.shard.number (length o.lists)) l) (sym more)
          (all_snoc (IsHome o.shard.number (length o.lists)) v.shard.journal e w.homes
          record { seat = subst (λ (l : List ℕ). IsSeat (length l) e.item e.seat) lists is.next.seat; target = λ for. is.next.target for ∙ number });
    }

pub runs_within : (o v w : PlacedView) (hs : List Handled) → IsWithin o v → Runs v hs w → IsWithin o w
runs_within o v w [] is runs = subst (λ (z : PlacedView). IsWithin o z) (sym runs) is
runs_within o v w (h ∷ hs) is runs = runs_within o runs.0 w hs (within_more o v runs.0 h is runs.1) runs.2

-- an item that may come can be handled
pub can_handle : (o v : PlacedView) (a : Entry) → sum o.lists ≤ 1024 → IsWithin o v → IsNext v a → CanHandle v a.item.kind
can_handle o v a short w next =
    let few = few_so_far o v a w next in
    let lists = w.keeps.lists in
    let seat : IsSeat (length o.lists) a.item a.seat = subst (λ (l : List ℕ). IsSeat (length l) a.item a.seat) lists next.seat in
    let at : is_for_shard a.item.kind ≡ true → a.seat ≡ o.shard.number % length o.lists = λ for. seat_for (length o.lists) a.item a.seat seat for ∙ ap (λ z. z % length o.lists) (next.target for ∙ w.keeps.number) in
    record {
      room = omega (arith, w.room, few);
      once = record {
        tick = λ is. none_else is_tick tick_for o.shard.number (length o.lists) a.seat (at (tick_for a.item.kind is)) v.shard.journal w.homes (next.once.tick is);
        end = λ is. none_else is_end end_for o.shard.number (length o.lists) a.seat (at (end_for a.item.kind is)) v.shard.journal w.homes (next.once.end is);
      };
      books = λ i low q input. let h = w.books i low q input in omega arith;
      held = w.held;
    }
