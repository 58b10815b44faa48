-- How the turns of a round end, one after the other.
use Rattle.std.proofs.Common.{◌≡◌, ℕ, ◌+◌, false, List, [], ◌∷◌, ◌++◌, length, slice_get, length-append, Option, Some, sym, ap, ◌∙◌, subst, arith}
use Rattle.std.proofs.lemmas.List.{append-nil, append_assoc}
use Rattle.std.proofs.lemmas.Option.{slice_get_within}
use Rattle.bng_turn.specs.Marks.{marks_of}
use Rattle.bng_turn.specs.Views.{TurnView, SeatView}
use Rattle.bng_turn.specs.Ends.{AreAllOutside, Closes}
use Rattle.bng_round.specs.declared.mark.Mark.{Mark}
use Rattle.bng_round.specs.Views.{PlacedView}
use Rattle.bng_round.specs.Booking.{Follows}
use Rattle.bng_round.specs.Rounds.{WorkerView}
use Rattle.bng_round.specs.Working.{AreSeats}
use Rattle.bng_round.specs.Closing.{AllGive, IsLast, EndsOne, Ends, EndFrom, IsCut}
use Rattle.bng_round.proofs.Places.{some_at, at_end}

same_some : {A : Type 0} (a b : A) (o : Option A) → o ≡ Some a → o ≡ Some b → a ≡ b
same_some a b o e f = let both : Some a ≡ Some b = sym e ∙ f in cc

module _ (seats seats' : List WorkerView) (row : List (SeatView PlacedView Mark)) (t : TurnView PlacedView) (gave : AllGive seats seats' row)
    (lasts : (k : ℕ) (v : WorkerView) → slice_get seats k ≡ Some v → IsLast t k v) (count : t.seats ≡ length seats) where
  given_at : (i : ℕ) (q : SeatView PlacedView Mark) → slice_get row i ≡ Some q → (q.turn ≡ Some t) × (q.inside ≡ false) × (q.number ≡ i)
  given_at i q e =
      let v = some_at seats i (omega (arith, slice_get_within row i q e, gave.long)) in
      let gives = gave.each i v.0 v.1 in
      let is : gives.seat ≡ q = same_some gives.seat q (slice_get row i) gives.given_is e in
      subst (λ (z : SeatView PlacedView Mark). (z.turn ≡ Some t) × (z.inside ≡ false) × (z.number ≡ i)) is ((lasts i v.0 v.1).last gives.left.turns gives.seat (ap (λ (z : WorkerView). z.turns) gives.was))

  pub all_outside : AreAllOutside t row
  all_outside = record {
    outside = λ i q e. let at = given_at i q e in (at.0, at.1);
    numbered = λ k low. let q = some_at row k (omega (arith, low, count, gave.long)) in (k, q.0, q.1, (given_at k q.0 q.1).2);
  }

  pub ends_one : (g : PlacedView) → Closes Follows t row g → EndsOne seats seats' t g
  ends_one g closes = record {
    row = row;
    gave = gave;
    list = closes.list;
    follows = closes.follows_by;
    own = λ k q e. ap (λ n. marks_of n closes.list) (sym (given_at k q e).2) ∙ closes.own k q e;
    others = λ k high. closes.others k (omega (arith, high, count));
  }

module _ (turns0 : List (TurnView PlacedView)) (seats0 : List WorkerView) (all : (k : ℕ) (v : WorkerView) → slice_get seats0 k ≡ Some v → AreSeats turns0 k v.turns)
    (turns turns' done : List (TurnView PlacedView)) (t : TurnView PlacedView) (seats : List WorkerView)
    (popped : turns ≡ turns' ++ t ∷ []) (left : turns0 ≡ turns ++ done) (count : length seats ≡ length seats0)
    (cut : (k : ℕ) (v : WorkerView) → slice_get seats0 k ≡ Some v → IsCut v (slice_get seats k) (length turns)) where
  longer : length turns ≡ length turns' + 1
  longer = omega (arith, ap (λ (l : List (TurnView PlacedView)). length l) popped, length-append turns' (t ∷ []))

  pub now_left : turns0 ≡ turns' ++ t ∷ done
  now_left = left ∙ (ap (λ l. l ++ done) popped ∙ append_assoc turns' (t ∷ []) done)

  pub at_turn : slice_get turns0 (length turns') ≡ Some t
  at_turn = ap (λ l. slice_get l (length turns')) now_left ∙ at_end turns' done t

  last_of : (k : ℕ) (v v0 : WorkerView) (rest : List (SeatView PlacedView Mark)) → slice_get seats0 k ≡ Some v0 → v0 ≡ record v { turns = v.turns ++ rest } → length v.turns ≡ length turns
      → (front : List (SeatView PlacedView Mark)) (q : SeatView PlacedView Mark) → v.turns ≡ front ++ q ∷ [] → (q.turn ≡ Some t) × (q.inside ≡ false) × (q.number ≡ k)
  last_of k v v0 rest at was long front q is =
      let place : length front ≡ length turns' = omega (arith, long, longer, ap (λ (l : List (SeatView PlacedView Mark)). length l) is, length-append front (q ∷ [])) in
      let whole : v0.turns ≡ front ++ q ∷ rest = ap (λ (z : WorkerView). z.turns) was ∙ (ap (λ l. l ++ rest) is ∙ append_assoc front (q ∷ []) rest) in
      let here : slice_get v0.turns (length turns') ≡ Some q = ap (λ n. slice_get v0.turns n) (sym place) ∙ (ap (λ l. slice_get l (length front)) whole ∙ at_end front rest q) in
      let seat = (all k v0 at).each (length turns') q here in
      (seat.0 ∙ at_turn, seat.1, seat.2)

  pub cut_last : (k : ℕ) (v : WorkerView) → slice_get seats k ≡ Some v → IsLast t k v
  cut_last k v e =
      let v0 = some_at seats0 k (omega (arith, slice_get_within seats k v e, count)) in
      let c = cut k v0.0 v0.1 in
      let is : c.left ≡ v = same_some c.left v (slice_get seats k) c.now_is e in
      subst (λ (z : WorkerView). IsLast t k z) is (record {
        some = omega (arith, c.long, longer);
        last = last_of k c.left v0.0 c.rest v0.1 c.was c.long;
      })

  module _ (seats' : List WorkerView) (g : PlacedView) (ended : EndsOne seats seats' t g) where
    pub cut_more : (k : ℕ) (v : WorkerView) → slice_get seats0 k ≡ Some v → IsCut v (slice_get seats' k) (length turns')
    cut_more k v e =
        let c = cut k v e in
        let gives = ended.gave.each k c.left c.now_is in record {
          left = gives.left;
          rest = gives.seat ∷ c.rest;
          now_is = gives.after_is;
          was = c.was ∙ (ap (λ (z : WorkerView). record z { turns = z.turns ++ c.rest }) gives.was ∙ ap (λ l. record gives.left { turns = l }) (append_assoc gives.left.turns (gives.seat ∷ []) c.rest));
          long = omega (arith, c.long, longer, ap (λ (z : WorkerView). length z.turns) gives.was, length-append gives.left.turns (gives.seat ∷ []));
        }

    own_at : (k : ℕ) (v : WorkerView) (q : SeatView PlacedView Mark) → slice_get seats0 k ≡ Some v → slice_get v.turns (length turns') ≡ Some q → marks_of k ended.list ≡ q.own
    unfolding cut_more
    own_at k v q e at =
        let c = cut k v e in
        let gives = ended.gave.each k c.left c.now_is in
        let more = cut_more k v e in
        let here : slice_get v.turns (length turns') ≡ Some gives.seat =
        ap (λ n. slice_get v.turns n) (sym more.long) ∙ (ap (λ (z : WorkerView). slice_get z.turns (length gives.left.turns)) more.was ∙ at_end gives.left.turns c.rest gives.seat) in
        ended.own k gives.seat gives.given_is ∙ ap (λ (z : SeatView PlacedView Mark). z.own) (same_some gives.seat q (slice_get v.turns (length turns')) here at)

    pub ends_more : Ends seats0 (length turns') t g
    ends_more = record { list = ended.list; follows = ended.follows; own = own_at; others = λ k high. ended.others k (omega (arith, high, count)) }

    pub end_from : (shards : List PlacedView) → EndFrom seats0 (length turns) done shards → EndFrom seats0 (length turns') (t ∷ done) (g ∷ shards)
    end_from shards were = (ends_more, subst (λ (n : ℕ). EndFrom seats0 n done shards) longer were)

-- before a turn has ended
pub cut_none : (turns : List (TurnView PlacedView)) (seats : List WorkerView) → ((k : ℕ) (v : WorkerView) → slice_get seats k ≡ Some v → AreSeats turns k v.turns)
    → (k : ℕ) (v : WorkerView) → slice_get seats k ≡ Some v → IsCut v (slice_get seats k) (length turns)
cut_none turns seats all k v e = record { left = v; rest = []; now_is = e; was = ap (λ l. record v { turns = l }) (sym (append-nil v.turns)); long = (all k v e).count }
