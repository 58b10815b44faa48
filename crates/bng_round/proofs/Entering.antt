-- What a seat knows of a shard that it has entered, and what it left.
use Rattle.std.proofs.Common.{◌≡◌, ℕ, zero, suc, ◌%◌, ◌<◌, ◌≤◌, true, false, List, [], ◌∷◌, ◌++◌, length, map, sum, slice_index_or, sym, ap, ◌∙◌, subst, arith}
use Rattle.std.proofs.lemmas.List.{map-append, append_cancel_left, length-map}
use Rattle.std.proofs.lemmas.List.Sums.{sum_by-cons}
use Rattle.bng_base.specs.declared.item.Entry.{Entry}
use Rattle.bng_base.specs.declared.settings.NamedRange.{NamedRange}
use Rattle.bng_pool.specs.Seats.{PoolView}
use Rattle.bng_round.specs.declared.mark.Done.{Done}
use Rattle.bng_round.specs.declared.mark.Mark.{Mark}
use Rattle.bng_round.specs.Asking.{HasPools, IsHold}
use Rattle.bng_round.specs.Booking.{without_claim, of_seat, Rise, mark_of, done_of, IsNext, IsStep, Steps, Runs, Follows, IsSet, CanHandle}
use Rattle.bng_round.specs.Entering.{IsDue, Books}
use Rattle.bng_round.specs.Ticks.{Admits}
use Rattle.bng_round.specs.Views.{PlacedView}
use Rattle.bng_round.proofs.Following.{runs_keep, runs_hold, runs_within, set_within, can_handle, follows_seat, follows_journal}
use Rattle.bng_round.proofs.Journals.{rise_count}
use Rattle.bng_round.proofs.Lightness.{passed_light}
use Rattle.bng_steps.specs.Protocol.{Handled}
use Rattle.bng_steps.specs.Seats.{IsSeat}
use Rattle.bng_steps.specs.Sums.{IsLow}
use Rattle.bng_turn.specs.Marks.{marks_of}
use Rattle.bng_turn.specs.Views.{SeatView, outside_with}

abbrev Seat : Type 0
Seat = SeatView PlacedView Mark

-- what is due at the seat may come to the shard
pub next_of : (o x : PlacedView) (seen : List (ℕ × Mark)) (q : Seat) (a : Entry) → Follows o seen x → marks_of q.number seen ≡ q.own → IsDue o q a → IsNext x a
next_of o x seen q a f own due =
    let keeps = runs_keep o x f.effects f.runs in
    let mine : of_seat a.seat x.shard.journal ≡ map (λ (m : Mark). m.entry) q.own = follows_seat o x seen a.seat f ∙ ap (map (λ (m : Mark). m.entry)) (ap (λ k. marks_of k seen) due.number ∙ own) in
    record {
      seat = subst (λ (l : List ℕ). IsSeat (length l) a.item a.seat) (sym keeps.lists) due.seat;
      worker = subst (λ (l : List ℕ). a.seat < length l) (sym keeps.lists) due.worker;
      moment = due.moment ∙ sym keeps.moment;
      early = due.early;
      low = subst (λ (l : List ℕ). a.place < slice_index_or l a.seat 0) (sym keeps.lists) due.low;
      past = subst (λ (l : List Entry). Rise 0 a.place l) (sym mine) due.past;
      target = λ for. due.target for ∙ sym keeps.number;
      once = subst (λ (l : List Entry). Admits l a.item.kind) (sym mine) due.once;
      whole = due.whole;
    }

pub can_of : (o x : PlacedView) (seen : List (ℕ × Mark)) (a : Entry) → IsSet o → Follows o seen x → IsNext x a → CanHandle x a.item.kind
can_of o x seen a set f next = can_handle o x a set.few (runs_within o o x f.effects (set_within o set) f.runs) next

index_low : (l : List ℕ) (k : ℕ) → slice_index_or l k 0 ≤ sum l
index_low [] k = omega arith
index_low (x ∷ xs) zero = omega (arith, sum_by-cons (λ (n : ℕ). n) x xs)
index_low (x ∷ xs) (suc k) = let rest : slice_index_or xs k 0 ≤ sum xs = index_low xs k in omega (arith, rest, sum_by-cons (λ (n : ℕ). n) x xs)

-- a seat has entered few times
pub few_of : (o : PlacedView) (q : Seat) (a : Entry) → IsSet o → IsDue o q a → length q.own ≤ 1024
few_of o q a set due = omega (arith, rise_count 0 a.place (map (λ (m : Mark). m.entry) q.own) (omega arith) due.past, length-map q.own (λ (m : Mark). m.entry), due.low, index_low o.lists a.seat, set.few)

-- a shard's seat at the words that went on from the opening's is one of the pool, in the round
pub hold_of : (p : PoolView) (o x : PlacedView) (seen : List (ℕ × Mark)) → Follows o seen x → IsHold p o.shard.state.rules.pools o.hold → IsHold p x.shard.state.rules.pools x.hold
hold_of p o x seen f is =
    let keeps = runs_keep o x f.effects f.runs in
    let g = runs_hold o x f.effects is.round f.runs in
    record {
      pool = g.pool ∙ is.pool;
      shard = (let n = g.number in let low = is.shard in omega arith);
      round = (ap (λ z. z % 2) g.phase ∙ is.round.0, g.full ∙ is.round.1);
      pools_are = subst (λ (l : List NamedRange). HasPools l p.ranges) (ap (λ r. r.pools) (sym keeps.rules)) is.pools_are;
    }

tail_is : (x y : Mark) (xs ys : List Mark) → x ∷ xs ≡ y ∷ ys → xs ≡ ys
tail_is x y xs ys e = cc

-- the last effect of a run, which has one, with what the shard shows of it
last_of : (v w : PlacedView) (hs : List Handled) (marks : List Mark) (mark : Mark) → Runs v hs w → map mark_of hs ≡ marks ++ mark ∷ [] → mark.done ≡ w.last
last_of v w [] [] mark runs is = absurd (cc)
last_of v w [] (m ∷ marks) mark runs is = absurd (cc)
last_of v w (h ∷ []) [] mark runs is =
    let same : mark_of h ≡ mark = cc in
    ap (λ (m : Mark). m.done) (sym same) ∙ (sym runs.1.last ∙ sym (ap (λ (z : PlacedView). z.last) runs.2))
last_of v w (h ∷ k ∷ hs) [] mark runs is = absurd (cc)
last_of v w (h ∷ []) (m ∷ []) mark runs is = absurd (cc)
last_of v w (h ∷ []) (m ∷ n ∷ marks) mark runs is = absurd (cc)
last_of v w (h ∷ k ∷ hs) (m ∷ marks) mark runs is = last_of runs.0 w (k ∷ hs) marks mark runs.2 (tail_is (mark_of h) m (map mark_of (k ∷ hs)) (marks ++ mark ∷ []) is)

heads : (e f : Entry) → e ∷ [] ≡ f ∷ [] → e ≡ f
heads e f is = cc

-- the mark that a seat left is that of what was done
pub left_mark : (o x y : PlacedView) (seen : List (ℕ × Mark)) (k : ℕ) (mark : Mark) (h : Handled) → Follows o seen x → IsStep x h y → Follows o (seen ++ (k, mark) ∷ []) y → mark ≡ mark_of h
left_mark o x y seen k mark h f is g =
    let second : ℕ × Mark → Entry = λ z. z.1.entry in
    let was : map second seen ++ mark.entry ∷ [] ≡ y.shard.journal = sym (follows_journal o y (seen ++ (k, mark) ∷ []) g ∙ map-append second seen ((k, mark) ∷ [])) in
    let now : y.shard.journal ≡ map second seen ++ h.deed.entry ∷ [] = is.handles.journal ∙ ap (λ (l : List Entry). l ++ h.deed.entry ∷ []) (follows_journal o x seen f) in
    let entry : mark.entry ≡ h.deed.entry = heads mark.entry h.deed.entry (append_cancel_left (map second seen) (mark.entry ∷ []) (h.deed.entry ∷ []) (was ∙ now)) in
    let all : map mark_of g.effects ≡ map (λ (z : ℕ × Mark). z.1) seen ++ mark ∷ [] = g.marks ∙ map-append (λ (z : ℕ × Mark). z.1) seen ((k, mark) ∷ []) in
    let done : mark.done ≡ done_of h = last_of o y g.effects (map (λ (z : ℕ × Mark). z.1) seen) mark g.runs all ∙ is.last in
    λ i. record { entry = entry i; done = done i }

-- what the seat has booked
pub booked : (o x y : PlacedView) (q inner q' : Seat) (mark : Mark) (a : Entry) (done : Done)
    → inner ≡ record q { inside = true; seen = inner.seen } → q' ≡ outside_with inner mark
    → Follows o inner.seen x → Steps x a done y → Follows o q'.seen y → Books q q' a done
booked o x y q inner q' mark a done entered left f s g =
    let seen : q'.seen ≡ inner.seen ++ (inner.number, mark) ∷ [] = ap (λ (z : Seat). z.seen) left in
    let is : mark ≡ mark_of s.effect = left_mark o x y inner.seen inner.number mark s.effect f s.is_step (subst (λ (l : List (ℕ × Mark)). Follows o l y) seen g) in
    record {
      mark = mark;
      seat = left ∙ (λ i. record (entered i) { inside = false; own = (entered i).own ++ mark ∷ []; seen = sym seen i });
      asked_is = ap (λ (m : Mark). without_claim m.entry) is ∙ s.asked_is;
      done_is = ap (λ (m : Mark). m.done) is ∙ s.done_is;
      light = subst (λ (d : Done). IsLow 4160 d.passed) s.done_is (passed_light s.effect.deed.entry.item.kind s.effect.deed.outs s.is_step.light s.is_step.few);
    }
