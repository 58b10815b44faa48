-- The logins of a run: one for each reply that was taken, from Auth, as a yes.
use Rattle.std.proofs.Common.{◌≡◌, ◌⊎◌, inl, inr, ℕ, zero, suc, ◌<◌, List, [], ◌∷◌, Option, Some, None, length, slice_get, refl, sym, ap, subst, ◌∙◌, arith}
use Rattle.std.specs.List.{All, AllPairs, AllByRecursion}
use Rattle.std.proofs.lemmas.Bool.{cases_lt}
use Rattle.std.proofs.lemmas.List.Elements.{All-from_recursion}
use Rattle.std.proofs.lemmas.List.Kept.{AllPairs-cons}
use Rattle.std.proofs.lemmas.Option.{same_Some, none-some, slice_get_within}
use Rattle.bng_config.specs.declared.config.Config.{Config}
use Rattle.bng_engine.specs.Lists.{AnyOf}
use Rattle.bng_engine.proofs.Everywhere.{all_weaker}
use Rattle.bng_lane.specs.Sends.{LaneAsk}
use Rattle.bng_steps.specs.Questions.{asking_from}
use Rattle.bng_verdict.specs.declared.question.QuestionNo.{QuestionNo}
use Rattle.bng_verdict.specs.Verdicts.{IsVerdict, Replied}
use Rattle.bng_desk.specs.Logins.{Answered}
use Rattle.bng_desk.specs.Model.{Desk}
use Rattle.bng_gate.specs.Granted.{Login, IsLogin, AreApart, HaveOwnDraws, stages_of}
use Rattle.bng_gate.specs.Replied.{AreReplied, IsReplied, OpenIn, answers_in}
use Rattle.bng_gate.specs.Serving.{Made, MadeEnd, Run}
use Rattle.bng_gate.proofs.Draws.{own_draw}
use Rattle.bng_gate.proofs.LoginsAt.{IsDrawn, IsLoginAt, login_of, says_yes, decide_yes}
use Rattle.bng_gate.proofs.YesItems.{IsYesAt}

-- the place is before this one: in an earlier turn, or in this turn before the place
abbrev IsBefore : (n p k place : ℕ) → Type 0
IsBefore n p k place = (k < n) ⊎ ((k ≡ n) × (place < p))

-- Of one place ---------------------------------------------------------------------------------------------------------------

same_made : (turns : List Made) (k : ℕ) (m : Made) → slice_get turns k ≡ Some m → (p : ℕ) (q : QuestionNo) (y : IsYesAt turns k p q) → y.made ≡ m
same_made turns k m at p q y = same_Some y.made m (sym y.at ∙ at)

same_answer : (turns : List Made) (k : ℕ) (m : Made) → slice_get turns k ≡ Some m → (p : ℕ) (x : Answered) → slice_get (answers_in m.turn) p ≡ Some x → (q : QuestionNo) (y : IsYesAt turns k p q) → y.answer ≡ x
same_answer turns k m at p x here q y =
    same_Some y.answer x (sym y.here ∙ ap (λ (z : Made). slice_get (answers_in z.turn) p) (same_made turns k m at p q y) ∙ here)

-- a reply answers one question
same_question : (turns : List Made) (k p : ℕ) (q r : QuestionNo) → IsYesAt turns k p q → IsYesAt turns k p r → q ≡ r
same_question turns k p q r a b =
    let answer : b.answer ≡ a.answer = same_answer turns k a.made a.at p a.answer a.here r b in
    same_Some q r (sym a.found ∙ ap (λ (x : Answered). x.found) (sym answer) ∙ b.found)

module _ (config : Config) (seed : List ℕ) (turns : List Made) (replied : AreReplied config seed turns) where
  abbrev IsDecided : ℕ → ℕ → Type 0
  IsDecided k p = ((q : QuestionNo) × IsYesAt turns k p q) ⊎ ((q : QuestionNo) → IsYesAt turns k p q → ⊥)

  module _ (k p : ℕ) (m : Made) (at : slice_get turns k ≡ Some m) (x : Answered) (here : slice_get (answers_in m.turn) p ≡ Some x) where
    decide_found : (found : Option QuestionNo) → x.found ≡ found → IsDecided k p
    decide_found None e = inr (λ q y. none-some q (sym e ∙ ap (λ (z : Answered). z.found) (sym (same_answer turns k m at p x here q y)) ∙ y.found))
    decide_found (Some q) e =
        let r : IsReplied config seed turns k x.arrival.from x.arrival.octets q = replied k p m x q at here e in
        elim (decide_yes r.reply) [
          | inl says ↦ inl (
            q,
            record {
              made = m;
              at = at;
              answer = x;
              here = here;
              found = e;
              verdict = says.0;
              is_verdict = Replied r.reply (record { packet = r.is_reply; few = says.1.few }) (sym says.1.told);
              yes = says.1.yes;
            },
          )
          | inr none ↦ inr (λ o y.
              let is : IsVerdict x.arrival.octets (Some y.verdict) = subst (λ (z : Answered). IsVerdict z.arrival.octets (Some y.verdict)) (same_answer turns k m at p x here o y) y.is_verdict in
              none y.verdict (says_yes x.arrival.octets r.reply r.one y.verdict is y.yes))
        ]

  decide : (k p : ℕ) → IsDecided k p
  decide k p = by_made (slice_get turns k) refl
    where
      by_answer : (m : Made) → slice_get turns k ≡ Some m → (o : Option Answered) → slice_get (answers_in m.turn) p ≡ o → IsDecided k p
      by_answer m at None here = inr (λ q y. none-some y.answer (sym here ∙ ap (λ (z : Made). slice_get (answers_in z.turn) p) (sym (same_made turns k m at p q y)) ∙ y.here))
      by_answer m at (Some x) here = decide_found k p m at x here x.found refl

      by_made : (o : Option Made) → slice_get turns k ≡ o → IsDecided k p
      by_made None at = inr (λ q y. none-some y.made (sym at ∙ y.at))
      by_made (Some m) at = by_answer m at (slice_get (answers_in m.turn) p) refl

-- All of them ----------------------------------------------------------------------------------------------------------------

module _ (config : Config) (seed : List ℕ) (opening over : Desk) (turns : List Made) (endings : List MadeEnd) (run : Run opening turns over) (replied : AreReplied config seed turns) where
  abbrev Is : ℕ → ℕ → QuestionNo → Login → Type 0
  Is = IsLoginAt config seed opening over turns endings run replied

  -- where it was asked, its question was open
  abbrev pub WasOpen : Login → Type 0
  WasOpen g = OpenIn turns g.asked (asking_from g.ask)

  -- the logins of the places before this one
  record Collected (n p : ℕ) : Type 0 where
    logins : List Login
    right : AllByRecursion (IsLogin config seed (stages_of turns endings)) logins
    opened : AllByRecursion WasOpen logins
    inside : AllByRecursion (λ g. IsBefore n p g.answered g.place) logins
    once : AllPairs AreApart logins
    drawn : AllByRecursion (IsDrawn seed turns) logins
    draws : AllPairs HaveOwnDraws logins
    complete : (k place : ℕ) (q : QuestionNo) → IsBefore n p k place → IsYesAt turns k place q → AnyOf (Is k place q) logins

  none_yet : Collected 0 0
  none_yet = record {
    logins = [];
    right = tt;
    opened = tt;
    inside = tt;
    once = λ i j d low high. absurd (omega arith);
    drawn = tt;
    draws = λ i j d low high. absurd (omega arith);
    complete = λ k place q before y. absurd (elim before [ inl lt ↦ omega (arith, lt) | inr h ↦ omega (arith, h.1) ]);
  }

  -- one place more
  wider : (n p k place : ℕ) → IsBefore n p k place → IsBefore n (suc p) k place
  wider n p k place (inl lt) = inl lt
  wider n p k place (inr h) = let lt : place < suc p = omega (arith, h.1) in inr (h.0, lt)

  narrower : (n p k place : ℕ) → IsBefore n (suc p) k place → IsBefore n p k place ⊎ ((k ≡ n) × (place ≡ p))
  narrower n p k place (inl lt) = inl (inl lt)
  narrower n p k place (inr h) = elim (cases_lt place p) [
    | inl lt ↦ inl (inr (h.0, lt))
    | inr le ↦ let e : place ≡ p = omega (arith, h.1, le) in inr (h.0, e)
  ]

  apart_from : (n p : ℕ) (g x : Login) → g.answered ≡ n → g.place ≡ p → IsBefore n p x.answered x.place → AreApart g x
  apart_from n p g x answered place (inl lt) same = omega (arith, answered, lt, same.0)
  apart_from n p g x answered place (inr h) same = omega (arith, place, h.1, same.1)

  -- two requests with one draw are of one question
  own_draws : (g x : Login) → IsDrawn seed turns g → IsDrawn seed turns x → HaveOwnDraws g x
  own_draws g x a b same =
      let one = own_draw seed opening over turns run g.asked x.asked g.number x.number g.draw x.draw a.put b.put a.is b.is same in
      record {
        asked = one.turn;
        number = one.place;
        ask = sym a.ask ∙ ap (λ (y : LaneAsk). y.ask) one.ask ∙ b.ask;
        request = sym a.request ∙ ap (λ (y : LaneAsk). y.send.octets) one.ask ∙ b.request;
      }

  at_place : (n p k place : ℕ) (q : QuestionNo) → k ≡ n → place ≡ p → IsYesAt turns k place q → IsYesAt turns n p q
  at_place n p k place q e f y = subst (λ (i : ℕ). IsYesAt turns n i q) f (subst (λ (i : ℕ). IsYesAt turns i place q) e y)

  one_more : (n p : ℕ) → Collected n p → Collected n (suc p)
  one_more n p c = elim (decide config seed turns replied n p) [
    | inl y ↦
        let login = login_of config seed opening over turns endings run replied n p y.0 y.1 in
        let g = login.0 in
        let is = login.1 in
        record {
          logins = g ∷ c.logins;
          right = (is.right, c.right);
          opened = (is.is_open, c.opened);
          inside = (
            let lt : p < suc p = omega arith in inr (is.answered, subst (λ (i : ℕ). i < suc p) (sym is.place) lt),
            all_weaker (λ x. IsBefore n p x.answered x.place) (λ x. IsBefore n (suc p) x.answered x.place) (λ x. wider n p x.answered x.place) c.logins c.inside,
          );
          once = AllPairs-cons AreApart g c.logins
              (All-from_recursion (AreApart g) c.logins (all_weaker (λ x. IsBefore n p x.answered x.place) (AreApart g) (λ x. apart_from n p g x is.answered is.place) c.logins c.inside))
              c.once;
          drawn = (is.drawn, c.drawn);
          draws = AllPairs-cons HaveOwnDraws g c.logins
              (All-from_recursion (HaveOwnDraws g) c.logins (all_weaker (IsDrawn seed turns) (HaveOwnDraws g) (λ x. own_draws g x is.drawn) c.logins c.drawn))
              c.draws;
          complete = λ k place q before z. elim (narrower n p k place before) [
            | inl old ↦ inr (c.complete k place q old z)
            | inr new ↦
                let there = at_place n p k place q new.0 new.1 z in
                inl (subst (λ (i : ℕ). Is i place q g) (sym new.0) (subst (λ (i : ℕ). Is n i q g) (sym new.1) (subst (λ (o : QuestionNo). Is n p o g) (same_question turns n p y.0 q y.1 there) is)))
          ];
        }
    | inr none ↦ record {
      logins = c.logins;
      right = c.right;
      opened = c.opened;
      inside = all_weaker (λ x. IsBefore n p x.answered x.place) (λ x. IsBefore n (suc p) x.answered x.place) (λ x. wider n p x.answered x.place) c.logins c.inside;
      once = c.once;
      drawn = c.drawn;
      draws = c.draws;
      complete = λ k place q before z. elim (narrower n p k place before) [
        | inl old ↦ c.complete k place q old z
        | inr new ↦ absurd (none q (at_place n p k place q new.0 new.1 z))
      ];
    }
  ]

  -- of one turn, and of all
  of_turn : (n p : ℕ) → Collected n 0 → Collected n p
  of_turn n zero c = c
  of_turn n (suc p) c = one_more n p (of_turn n p c)

  abbrev answers_at : Option Made → List Answered
  answers_at None = []
  answers_at (Some m) = answers_in m.turn

  within : (n place : ℕ) (q : QuestionNo) → IsYesAt turns n place q → place < length (answers_at (slice_get turns n))
  within n place q y = subst (λ (o : Option Made). place < length (answers_at o)) (sym y.at) (slice_get_within (answers_in y.made.turn) place y.answer y.here)

  next_turn : (n : ℕ) → Collected n (length (answers_at (slice_get turns n))) → Collected (suc n) 0
  next_turn n c = record {
    logins = c.logins;
    right = c.right;
    opened = c.opened;
    inside = all_weaker (λ x. IsBefore n (length (answers_at (slice_get turns n))) x.answered x.place) (λ x. IsBefore (suc n) 0 x.answered x.place) (λ x. past x.answered x.place) c.logins c.inside;
    once = c.once;
    drawn = c.drawn;
    draws = c.draws;
    complete = λ k place q before y. c.complete k place q (here k place q before y) y;
  }
    where
      past : (k place : ℕ) → IsBefore n (length (answers_at (slice_get turns n))) k place → IsBefore (suc n) 0 k place
      past k place (inl lt) = let le : k < suc n = omega (arith, lt) in inl le
      past k place (inr h) = let le : k < suc n = omega (arith, h.0) in inl le

      here : (k place : ℕ) (q : QuestionNo) → IsBefore (suc n) 0 k place → IsYesAt turns k place q → IsBefore n (length (answers_at (slice_get turns n))) k place
      here k place q (inr h) y = absurd (omega (arith, h.1))
      here k place q (inl lt) y = elim (cases_lt k n) [
        | inl low ↦ inl low
        | inr high ↦
            let e : k ≡ n = omega (arith, lt, high) in
            inr (e, within n place q (subst (λ (i : ℕ). IsYesAt turns i place q) e y))
      ]

  all_turns : (n : ℕ) → Collected n 0
  all_turns zero = none_yet
  all_turns (suc n) = next_turn n (of_turn n (length (answers_at (slice_get turns n))) (all_turns n))

  -- the logins, each of them right and of an open question, no two with the same datagram, no two of different questions with one draw, and one for each reply that was taken as a yes
  pub record AreLogins (logins : List Login) : Type 0 where
    pub right : All (IsLogin config seed (stages_of turns endings)) logins
    pub opened : All WasOpen logins
    pub once : AllPairs AreApart logins
    pub draws : AllPairs HaveOwnDraws logins
    pub complete : (k place : ℕ) (q : QuestionNo) → IsYesAt turns k place q → AnyOf (Is k place q) logins

  pub logins : (logins : List Login) × AreLogins logins
  logins =
      let c = all_turns (length turns) in (
        c.logins,
        record {
          right = All-from_recursion (IsLogin config seed (stages_of turns endings)) c.logins c.right;
          opened = All-from_recursion WasOpen c.logins c.opened;
          once = c.once;
          draws = c.draws;
          complete = λ k place q y. c.complete k place q (inl (slice_get_within turns k y.made y.at)) y;
        },
      )
