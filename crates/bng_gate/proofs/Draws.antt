-- The draws from the seed: each question of a run has one of its own.
use Rattle.std.proofs.Common.{◌≡◌, inl, inr, ℕ, zero, suc, ◌+◌, ◌<◌, ◌≤◌, List, [], ◌∷◌, Option, Some, None, map, length, slice_get, refl, sym, ap, subst, ◌∙◌, arith}
use Rattle.std.specs.List.{range_with_len}
use Rattle.std.proofs.lemmas.Bool.{cases_lt}
use Rattle.std.proofs.lemmas.Option.{same_Some, none-some, slice_get_within}
use Rattle.bng_base.specs.declared.item.Item.{Item}
use Rattle.bng_lane.specs.Sends.{LaneAsk}
use Rattle.bng_desk.specs.Model.{Desk}
use Rattle.bng_desk.specs.Random.{draw}
use Rattle.bng_desk.specs.Round.{Round}
use Rattle.bng_desk.specs.Turn.{Turn, Step, after_round, items_of, new_items}
use Rattle.bng_gate.specs.Granted.{stage_in}
use Rattle.bng_gate.specs.Replied.{AskedIn, drawn_before}
use Rattle.bng_gate.specs.Serving.{Made, Run}
use Rattle.bng_gate.proofs.Places.{mapped_at}

-- The seed -----------------------------------------------------------------------------------------------------------------

seed_after : (d : Desk) (items : List Item) (round : Option Round) → (after_round d items round).seed ≡ d.seed
seed_after d items None = refl
seed_after d items (Some round) = refl

step_seed : (d d' : Desk) (t : Option Turn) → Step d t d' → d'.seed ≡ d.seed
step_seed d d' None step = ap (λ (x : Desk). x.seed) step
step_seed d d' (Some t) step = ap (λ (x : Desk). x.seed) step.5 ∙ seed_after d (items_of d t) t.round

pub seed_stays : (d d' : Desk) (turns : List Made) → Run d turns d' → (k : ℕ) (m : Made) → slice_get turns k ≡ Some m → m.desk.seed ≡ d.seed
seed_stays d d' [] run k m at = absurd (none-some m at)
seed_stays d d' (x ∷ turns) run zero m at = ap (λ (y : Made). y.desk.seed) (sym (same_Some x m at)) ∙ ap (λ (y : Desk). y.seed) run.1.0
seed_stays d d' (x ∷ turns) run (suc k) m at = seed_stays run.0 d' turns run.2 k m at ∙ step_seed d run.0 x.turn run.1.1

-- How often was drawn --------------------------------------------------------------------------------------------------------

abbrev pub asks_in : Desk → Option Turn → List LaneAsk
asks_in d t = (stage_in d t).asked

-- a turn draws for its items and then for its questions
step_drawn : (d d' : Desk) (t : Option Turn) → Step d t d' → d'.drawn ≡ drawn_before d t + length (asks_in d t)
step_drawn d d' None step = let none : d.drawn ≡ d.drawn + 0 = omega arith in ap (λ (x : Desk). x.drawn) step ∙ none
step_drawn d d' (Some t) step = ap (λ (x : Desk). x.drawn) step.5

more : (a b : ℕ) → a ≤ a + b
more a b = omega arith

draws_on : (d : Desk) (t : Option Turn) → d.drawn ≤ drawn_before d t
draws_on d None = let same : d.drawn ≤ d.drawn = omega arith in same
draws_on d (Some t) = more d.drawn (length (new_items d t))

rises : (d d' : Desk) (turns : List Made) → Run d turns d' → (k : ℕ) (m : Made) → slice_get turns k ≡ Some m → d.drawn ≤ m.desk.drawn
rises d d' [] run k m at = absurd (none-some m at)
rises d d' (x ∷ turns) run zero m at =
    let same : m.desk.drawn ≡ d.drawn = ap (λ (y : Made). y.desk.drawn) (sym (same_Some x m at)) ∙ ap (λ (y : Desk). y.drawn) run.1.0 in
    omega (arith, same)
rises d d' (x ∷ turns) run (suc k) m at = omega (arith, draws_on d x.turn, step_drawn d run.0 x.turn run.1.1, rises run.0 d' turns run.2 k m at)

-- a later turn draws after an earlier one
draws_later : (d d' : Desk) (turns : List Made) → Run d turns d' → (j k : ℕ) (m n : Made) → j < k → slice_get turns j ≡ Some m → slice_get turns k ≡ Some n
    → drawn_before m.desk m.turn + length (asks_in m.desk m.turn) ≤ n.desk.drawn
draws_later d d' [] run j k m n lt at there = absurd (none-some m at)
draws_later d d' (x ∷ turns) run j zero m n lt at there = absurd (omega (arith, lt))
draws_later d d' (x ∷ turns) run zero (suc k) m n lt at there =
    let same : x ≡ m = same_Some x m at in
    let desk : x.desk ≡ d = run.1.0 in
    let here : run.0.drawn ≡ drawn_before x.desk x.turn + length (asks_in x.desk x.turn) =
    subst (λ (y : Desk). run.0.drawn ≡ drawn_before y x.turn + length (asks_in y x.turn)) (sym desk) (step_drawn d run.0 x.turn run.1.1) in
    let its : run.0.drawn ≡ drawn_before m.desk m.turn + length (asks_in m.desk m.turn) =
    subst (λ (y : Made). run.0.drawn ≡ drawn_before y.desk y.turn + length (asks_in y.desk y.turn)) same here in
    omega (arith, its, rises run.0 d' turns run.2 k n there)
draws_later d d' (x ∷ turns) run (suc j) (suc k) m n lt at there = draws_later run.0 d' turns run.2 j k m n (omega (arith, lt)) at there

-- The draw of a question -------------------------------------------------------------------------------------------------------

-- it is of that turn, and the question is there
pub record AreSame (i j p q : ℕ) (a b : LaneAsk) : Type 0 where
  pub turn : i ≡ j
  pub place : p ≡ q
  pub ask : a ≡ b

module _ (seed : List ℕ) (opening over : Desk) (turns : List Made) (run : Run opening turns over) where
  not_later : (i j p q n m : ℕ) (a b : LaneAsk) → AskedIn seed turns i p n a → AskedIn seed turns j q m b → n ≡ m → i < j → ⊥
  not_later i j p q n m a b x y same lt =
      let within : p < length (asks_in x.turn.desk x.turn.turn) = slice_get_within (asks_in x.turn.desk x.turn.turn) p a x.here in
      omega (arith, x.number, y.number, same, within, draws_later opening over turns run i j x.turn y.turn lt x.at y.at, draws_on y.turn.desk y.turn.turn)

  of_one_turn : (i p q n m : ℕ) (a b : LaneAsk) → AskedIn seed turns i p n a → AskedIn seed turns i q m b → n ≡ m → AreSame i i p q a b
  of_one_turn i p q n m a b x y same =
      let turn : x.turn ≡ y.turn = same_Some x.turn y.turn (sym x.at ∙ y.at) in
      let before : drawn_before x.turn.desk x.turn.turn ≡ drawn_before y.turn.desk y.turn.turn = ap (λ (z : Made). drawn_before z.desk z.turn) turn in
      let place : p ≡ q = omega (arith, x.number, y.number, same, before) in
      record {
        turn = refl;
        place = place;
        ask = same_Some a b (sym x.here ∙ ap (λ (z : Made). slice_get (asks_in z.desk z.turn) p) turn ∙ ap (slice_get (asks_in y.turn.desk y.turn.turn)) place ∙ y.here);
      }

  -- one draw is that of one question
  pub own_draw : (i j p q n m : ℕ) (a b : LaneAsk) → AskedIn seed turns i p n a → AskedIn seed turns j q m b → n ≡ m → AreSame i j p q a b
  own_draw i j p q n m a b x y same = elim (cases_lt i j) [
    | inl lt ↦ absurd (not_later i j p q n m a b x y same lt)
    | inr le ↦ elim (cases_lt j i) [
      | inl lt ↦ absurd (not_later j i q p m n b a y x (sym same) lt)
      | inr ge ↦
          let turn : j ≡ i = omega (arith, le, ge) in
          let one = of_one_turn i p q n m a b x (subst (λ (l : ℕ). AskedIn seed turns l q m b) turn y) same in
          record { turn = sym turn; place = one.place; ask = one.ask }
    ]
  ]

drawn_there : (f : ℕ → List ℕ) (n m p : ℕ) (y : List ℕ) → slice_get (map f (range_with_len n m)) p ≡ Some y → y ≡ f (n + p)
drawn_there f n zero p y e = absurd (none-some y e)
drawn_there f n (suc m) zero y e = let same : n ≡ n + 0 = omega arith in sym (same_Some (f n) y e) ∙ ap f same
drawn_there f n (suc m) (suc p) y e = let same : n + 1 + p ≡ n + suc p = omega arith in drawn_there f (n + 1) m p y e ∙ ap f same

-- each question has the next draw
pub draw_at : (seed : List ℕ) (n : ℕ) (asks : List LaneAsk) → map (λ (a : LaneAsk). a.authenticator) asks ≡ map (draw seed) (range_with_len n (length asks)) → (p : ℕ) (a : LaneAsk) → slice_get asks p ≡ Some a
    → a.authenticator ≡ draw seed (n + p)
draw_at seed n asks are p a at =
    drawn_there (draw seed) n (length asks) p a.authenticator (ap (λ (xs : List (List ℕ)). slice_get xs p) (sym are) ∙ mapped_at (λ (x : LaneAsk). x.authenticator) asks p a at)
