-- What a turn gathers while serving.
use Rattle.std.proofs.Common.{◌≡◌, ℕ, ◌+◌, ◌-◌, ◌*◌, ◌≤◌, Bool, true, false, ◌&&◌, List, [], ◌∷◌, ◌++◌, Option, None, Some, filter, length, refl, sym, ap, subst, ◌∙◌, append-nil, arith}
use Rattle.std.specs.List.{All, AllPairs}
use Rattle.std.proofs.lemmas.List.{length-append}
use Rattle.std.proofs.lemmas.List.Elements.{All-nil, All-cons, All-append, All-map}
use Rattle.std.proofs.lemmas.List.Kept.{AllPairs-filter}
use Rattle.std.proofs.lemmas.List.Sums.{sum_by-append, sum_by-le}
use Rattle.bng_base.specs.declared.item.Item.{Item}
use Rattle.bng_base.specs.Told.{PlantTold}
use Rattle.bng_base.proofs.StretchLaws.{plant_more, plant_stays}
use Rattle.bng_lane.specs.State.{LaneState}
use Rattle.bng_steps.specs.declared.rules.Rules.{Rules}
use Rattle.bng_steps.specs.Hearing.{outs_most}
use Rattle.bng_verdict.specs.declared.question.QuestionNo.{QuestionNo}
use Rattle.bng_desk.specs.declared.reading.ReadEnd.{ReadEnd}
use Rattle.bng_desk.specs.Intake.{AddsTimeouts, Gathers, Takes, TakesAuth, TakesReplies}
use Rattle.bng_desk.specs.Items.{DataReading, drawn_from, taken_items, ticks_of}
use Rattle.bng_desk.specs.Kept.{IsAsked, StandsFirst}
use Rattle.bng_desk.specs.Logins.{Answered, TimesOut, reply_in, reply_items, silence, timeout_items, verdict_item, verdicts_most}
use Rattle.bng_desk.specs.Random.{Drawn}
use Rattle.bng_desk.specs.Reading.{is_empty}
use Rattle.bng_desk.specs.Taking.{AreInOrder, AreItems, Shown, is_once, outs_of_items}
use Rattle.bng_desk.specs.Turn.{ReadsWhere, auth_stretch, data_roles, data_stretch, most_of}
use Rattle.bng_desk.proofs.Drawing.{drawn_all, drawn_append, drawn_length, drawn_more, draws_more, ticks_length}
use Rattle.bng_desk.proofs.ItemLaws.{HasFew, IsBelow, IsTaken, IsWhole, all_due, all_taken, drawn_outs, drawn_rise, none_kept, taken_few, taken_twice, ticks_rise}
use Rattle.bng_desk.proofs.LoginLaws.{timeouts_length}
use Rattle.bng_desk.proofs.Staying.{asked_few, asked_taken, each_weaker, few_beside, replies_asked, timeouts_asked}
use Rattle.bng_desk.proofs.TakeLaws.{taken_within}

-- Auth -------------------------------------------------------------------------------------------------------------------

reply_few : (a : Answered) (found : Option QuestionNo) → length (reply_in a.arrival found) ≤ 1
reply_few a None = omega arith
reply_few a (Some q) = omega arith

replies_few : (answers : List Answered) → length (reply_items answers) ≤ length answers
replies_few [] = omega arith
replies_few (a ∷ answers) = omega (arith, length-append (reply_in a.arrival a.found) (reply_items answers), reply_few a a.found, replies_few answers)

-- there are at most 128 verdicts
pub auth_few : (reads : Bool) (verdicts : ℕ) (answers : List Answered) (auth_end : Option ReadEnd) → ReadsWhere verdicts_most reads answers auth_end → verdicts ≤ 128 → (reads ≡ true → verdicts ≡ 0) → verdicts + length (reply_items answers) ≤ 128
auth_few true verdicts answers auth_end (ended, is, ends) few none = omega (arith, none refl, replies_few answers, taken_within 128 (length answers) ended ends)
auth_few false verdicts answers auth_end (left, empty) few none = omega (arith, few, ap (λ (rs : List Answered). length (reply_items rs)) empty)

pub auth_taken : (reads : Bool) (p p' : PlantTold) (l l' : LaneState) (d d' : Drawn) (i i' : List Item) (quiet : Bool) → reads ≡ true → TakesReplies p p' l l' d d' i i' quiet → TakesAuth reads p p' l l' d d' i i' quiet
auth_taken reads p p' l l' d d' i i' quiet is t = record {
  answers = t.answers;
  auth_end = Some t.ended;
  auth = subst (λ (b : Bool). ReadsWhere verdicts_most b t.answers (Some t.ended)) (sym is) (t.ended, refl, t.ends);
  told = t.told;
  hears = t.hears;
  items_are = t.items_are;
  draws_are = t.draws_are;
  quiet_is = t.quiet_is;
}

pub auth_left : (reads : Bool) (p : PlantTold) (l : LaneState) (d : Drawn) (i : List Item) → reads ≡ false → TakesAuth reads p p l l d d i i true
auth_left reads p l d i is =
    let none : List Answered = [] in
    record {
      answers = [];
      auth_end = None;
      auth = subst (λ (b : Bool). ReadsWhere verdicts_most b none None) (sym is) (refl, refl);
      told = plant_stays p;
      hears = refl;
      items_are = sym (append-nil i);
      draws_are = ap (λ (n : ℕ). record d { drawn = n }) (omega arith);
      quiet_is = refl;
    }

-- so many items and draws at most
pub auth_bounds : (reads : Bool) (verdicts : ℕ) (front : List Item) (p p' : PlantTold) (l l' : LaneState) (d d' : Drawn) (i' : List Item) (quiet : Bool) → TakesAuth reads p p' l l' d d' front i' quiet → verdicts ≤ 128 → (reads ≡ true → verdicts ≡ 0)
    → (verdicts + (length i' - length front) ≤ 128) × (length front ≤ length i') × (d'.drawn ≤ d.drawn + 128)
auth_bounds reads verdicts front p p' l l' d d' i' quiet t few none =
    let rs = reply_items t.answers in
    let enough = auth_few reads verdicts t.answers t.auth_end t.auth few none in
    let count : length i' ≡ length front + length rs =
    omega (arith, ap (λ (xs : List Item). length xs) t.items_are, length-append front (drawn_from d.seed d.drawn rs), drawn_length d.seed d.drawn rs) in (
      omega (arith, enough, count),
      omega (arith, count),
      omega (arith, enough, ap (λ (x : Drawn). x.drawn) t.draws_are),
    )

-- Items ------------------------------------------------------------------------------------------------------------------

reply_whole : (a : Answered) (found : Option QuestionNo) → All IsWhole (reply_in a.arrival found)
reply_whole a None = All-nil IsWhole
reply_whole a (Some q) = All-cons IsWhole (verdict_item a.arrival q) [] refl (All-nil IsWhole)

replies_whole : (answers : List Answered) → All IsWhole (reply_items answers)
replies_whole [] = All-nil IsWhole
replies_whole (a ∷ answers) = All-append IsWhole (reply_in a.arrival a.found) (reply_items answers) (reply_whole a a.found) (replies_whole answers)

abbrev HasTen : Item → Type 0
HasTen i = HasFew 10 i

module _ (seed : List ℕ) (n moment verdicts : ℕ) (kept : List Item) (answers : List Answered) (readings : List DataReading) (timed : List QuestionNo) (shards : List Shown) where
  abbrev rs : List Item
  rs = reply_items answers

  abbrev ts : List Item
  ts = taken_items readings

  abbrev qs : List Item
  qs = timeout_items timed

  abbrev ds : List Item
  ds = ticks_of moment shards

  abbrev new : List Item
  new = rs ++ ts ++ qs ++ ds

  new_length : length new ≡ length rs + length ts + length timed + length ds
  new_length = omega (arith, length-append (rs ++ ts ++ qs) ds, length-append (rs ++ ts) qs, length-append rs ts, timeouts_length timed)

  new_few : length kept ≤ verdicts + 32 → verdicts + length rs + length timed ≤ 128 → length ts ≤ 672 → length shards ≤ 64 → length kept + length new ≤ 896
  new_few others low taken few = omega (arith, others, low, taken, few, new_length, ticks_length moment shards)

  new_drawn : verdicts + length rs + length timed ≤ 128 → length ts ≤ 672 → length shards ≤ 64 → length new ≤ 864
  new_drawn low taken few = omega (arith, low, taken, few, new_length, ticks_length moment shards)

  are_gathered : All IsWhole kept → All IsAsked kept → length kept ≤ verdicts + 32 → verdicts + length rs + length timed ≤ 128 → length ts ≤ 672 → length shards ≤ 64 → AreInOrder shards → AreItems (kept ++ drawn_from seed n new)
  are_gathered whole asked others low taken few order =
      let once = λ (i : Item). is_once i.kind in
      let front = rs ++ ts ++ qs in
      let start : All IsTaken front =
      All-append IsTaken (rs ++ ts) qs
      (All-append IsTaken rs ts (each_weaker IsAsked IsTaken asked_taken rs (replies_asked answers)) (all_taken IsTaken (λ role a. taken_twice role) readings))
      (each_weaker IsAsked IsTaken asked_taken qs (timeouts_asked timed)) in
      let end = drawn_from seed (n + length front) ds in
      let same : filter once (kept ++ drawn_from seed n new) ≡ filter once end =
      none_kept kept (each_weaker IsAsked IsTaken asked_taken kept asked) (drawn_from seed n new)
      ∙ ap (filter once) (drawn_append seed n front ds)
      ∙ none_kept (drawn_from seed n front) (drawn_all IsTaken (λ i octets holds. holds) seed n front start) end in
      record {
        few = omega (arith, new_few others low taken few, length-append kept (drawn_from seed n new), drawn_length seed n new);
        whole = All-append IsWhole kept (drawn_from seed n new) whole
            (drawn_all IsWhole (λ i octets holds. holds) seed n new
            (All-append IsWhole (rs ++ ts ++ qs) ds
            (All-append IsWhole (rs ++ ts) qs (All-append IsWhole rs ts (replies_whole answers) (all_taken IsWhole (λ role a. refl) readings)) (All-map IsWhole (verdict_item silence) timed (λ k d l. refl)))
            (all_due IsWhole (λ shard. refl) moment shards)));
        once = subst (AllPairs IsBelow) (sym same) (AllPairs-filter IsBelow once end (drawn_rise seed (n + length front) ds (ticks_rise moment shards order)));
      }

  outs_gathered : All IsAsked kept → length kept ≤ verdicts + 32 → verdicts + length rs + length timed ≤ 128 → length ts ≤ 672 → outs_of_items (kept ++ drawn_from seed n new) ≤ 8320 + 320 * length shards
  outs_gathered asked others low taken =
      let f = λ (i : Item). outs_most i.kind in
      omega (
        arith,
        others,
        low,
        taken,
        sum_by-append f kept (drawn_from seed n new),
        drawn_outs seed n new,
        sum_by-append f (rs ++ ts ++ qs) ds,
        sum_by-append f (rs ++ ts) qs,
        sum_by-append f rs ts,
        timeouts_length timed,
        ticks_length moment shards,
        sum_by-le f 10 kept (each_weaker IsAsked HasTen asked_few kept asked),
        sum_by-le f 10 rs (each_weaker IsAsked HasTen asked_few rs (replies_asked answers)),
        sum_by-le f 10 ts (all_taken (HasFew 10) (λ role a. taken_few role) readings),
        sum_by-le f 10 qs (each_weaker IsAsked HasTen asked_few qs (timeouts_asked timed)),
        sum_by-le f 320 ds (all_due (HasFew 320) (λ shard. omega arith) moment shards),
      )

-- All of it ----------------------------------------------------------------------------------------------------------------

pub record Gathered (r : Rules) (vs : List Shown) (moment : ℕ) (reads : Bool) (verdicts : ℕ) (front : List Item) (p p' : PlantTold) (l l' : LaneState) (d d' : Drawn) (list : List Item) (quiet : Bool) : Type 0 where
  pub gathers : Gathers r vs moment reads verdicts front p p' l l' d d' list quiet
  pub items : AreItems list
  pub few_outs : outs_of_items list ≤ 8320 + 320 * length vs
  pub few_drawn : d'.drawn ≤ d.drawn + 864

pub gathered : (r : Rules) (vs : List Shown) (moment most : ℕ) (reads : Bool) (verdicts : ℕ) (front : List Item) (p p₁ p₂ : PlantTold) (l l₁ l₂ : LaneState) (d d₁ d₂ d₃ d₄ : Drawn) (i₁ i₂ i₃ i₄ : List Item) (silent quiet both : Bool)
    → StandsFirst reads verdicts front → length vs ≤ 64 → AreInOrder vs
    → TakesAuth reads p p₁ l l₁ d d₁ front i₁ silent → Takes (data_roles r) (most_of r) 672 p₁ p₂ d₁ d₂ i₁ i₂ quiet
    → most ≡ 128 - (verdicts + (length i₁ - length front)) → AddsTimeouts moment most l₁ l₂ d₂ d₃ i₂ i₃
    → i₄ ≡ i₃ ++ drawn_from d₃.seed d₃.drawn (ticks_of moment vs) → d₄ ≡ record d₃ { drawn = d₃.drawn + length (ticks_of moment vs) } → both ≡ (silent && quiet)
    → Gathered r vs moment reads verdicts front p p₂ l l₂ d d₄ i₄ both
gathered r vs moment most reads verdicts front p p₁ p₂ l l₁ l₂ d d₁ d₂ d₃ d₄ i₁ i₂ i₃ i₄ silent quiet both first few order a t most_is o ticks drawn both_is =
    let seed = d.seed in
    let n = d.drawn in
    let rs = reply_items a.answers in
    let ts = taken_items t.readings in
    let qs = timeout_items o.timed in
    let ds = ticks_of moment vs in
    let e₁ : i₁ ≡ front ++ drawn_from seed n rs = a.items_are in
    let e₂ = drawn_more seed n front i₁ i₂ rs ts d₁ e₁ a.draws_are t.items_are in
    let f₂ = draws_more seed n (length ts) d₁ d₂ rs ts a.draws_are t.draws_are refl in
    let e₃ = drawn_more seed n front i₂ i₃ (rs ++ ts) qs d₂ e₂ f₂ o.items_are in
    let f₃ = draws_more seed n (length o.timed) d₂ d₃ (rs ++ ts) qs f₂ o.draws_are (timeouts_length o.timed) in
    let e₄ = drawn_more seed n front i₃ i₄ ((rs ++ ts) ++ qs) ds d₃ e₃ f₃ ticks in
    let f₄ = draws_more seed n (length ds) d₃ d₄ ((rs ++ ts) ++ qs) ds f₃ drawn refl in
    let new = rs ++ ts ++ qs ++ ds in
    let all : i₄ ≡ front ++ drawn_from seed n new = e₄ in
    let counts : d₄ ≡ record { seed = seed; drawn = n + length new } = f₄ in
    let count : length i₁ ≡ length front + length rs = ap (λ (xs : List Item). length xs) e₁ ∙ omega (arith, length-append front (drawn_from seed n rs), drawn_length seed n rs) in
    let few_verdicts : verdicts ≤ 128 = omega (arith, first.count, first.few.verdicts) in
    let enough : verdicts + length rs ≤ 128 = auth_few reads verdicts a.answers a.auth_end a.auth few_verdicts first.none in
    let most_left : most ≡ verdicts_most - (verdicts + length rs) = omega (arith, most_is, count) in
    let low : verdicts + length rs + length o.timed ≤ 128 = omega (arith, enough, most_left, o.times_out.few) in
    let others : length front ≤ verdicts + 32 = omega (arith, few_beside front first.all_asked first.few, first.count) in
    record {
      gathers = record {
        answers = a.answers;
        auth_end = a.auth_end;
        auth = a.auth;
        readings = t.readings;
        are_roles = t.are_roles;
        read = t.read;
        told = plant_more p p₁ p₂ (auth_stretch a.answers a.auth_end) (data_stretch t.readings) a.told t.told;
        heard = l₁;
        hears = a.hears;
        timed = o.timed;
        times_out = subst (λ (k : ℕ). TimesOut moment k l₁ o.timed l₂) most_left o.times_out;
        items_are = all;
        draws_are = counts;
        quiet_is = both_is ∙ ap (λ (b : Bool). b && quiet) a.quiet_is ∙ ap (λ (b : Bool). is_empty a.answers && b) t.quiet_is;
      };
      items = subst AreItems (sym all) (are_gathered seed n moment verdicts front a.answers t.readings o.timed vs first.whole first.all_asked others low t.number few order);
      few_outs = subst (λ (xs : List Item). outs_of_items xs ≤ 8320 + 320 * length vs) (sym all) (outs_gathered seed n moment verdicts front a.answers t.readings o.timed vs first.all_asked others low t.number);
      few_drawn = omega (arith, ap (λ (x : Drawn). x.drawn) counts, new_drawn seed n moment verdicts front a.answers t.readings o.timed vs low t.number few);
    }
