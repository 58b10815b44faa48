-- A turn of the ending, from its phases.
use Rattle.std.proofs.Common.{◌≡◌, ℕ, Vec, Global, ◌+◌, ◌≤◌, Bool, ◌&&◌, ◌||◌, ◌==◌, cond, if◌then◌else◌, List, [], ◌∷◌, Some, sym, ap, subst, ◌∙◌, arith}
use Rattle.std.specs.List.{All}
use Rattle.bng_base.specs.declared.item.Item.{Item}
use Rattle.bng_base.specs.declared.outside.ClockAnswer.TheVariants.{Now, Wall}
use Rattle.bng_base.specs.Told.{PlantTold, ClockTold, TraceTold, GrowsIfTold}
use Rattle.bng_base.proofs.ToldLaws.{grows_if_told_more}
use Rattle.bng_billing.specs.State.{BillingState}
use Rattle.bng_desk.specs.declared.desk.Turned.{Turned}
use Rattle.bng_desk.specs.declared.holding.Named.{Named}
use Rattle.bng_desk.specs.declared.lists.Lists.{Lists}
use Rattle.bng_desk.specs.declared.settlement.Settled.{Settled}
use Rattle.bng_desk.specs.declared.settlement.Works.{Works}
use Rattle.bng_desk.specs.Coa.{CoaReply, SettlesCoa}
use Rattle.bng_desk.specs.Model.{Desk, sessions_in}
use Rattle.bng_desk.specs.Random.{Drawn}
use Rattle.bng_desk.specs.Settlement.{Settles}
use Rattle.bng_desk.specs.Taking.{AllTold}
use Rattle.bng_desk.specs.Turn.{Closes, MakesEnd, after_round, answers_of, loose_of, ending_items, ending_draws, is_opened, answer_if, told_after}
use Rattle.bng_desk.proofs.Resting.{sessions_rested}
use Rattle.bng_desk.proofs.Settled.{settlement_done}
use Rattle.bng_desk.proofs.Turning.{unnoted, well_noted}
use Rattle.bng_desk.proofs.Works.{billed_by, gathered, seen_with}

-- the desk after a turn of the ending, over what it works on then
abbrev pub after_ending : Desk → (unopened : ℕ) → (closed : Bool) → (closing moment told : ℕ) → Desk
after_ending d unopened closed closing moment told = record d { told = told; moment = moment; endings = d.endings + 1; unopened = unopened; closed = closed; closing = closing }

module _ (d : Desk) (w w' : Works) (draws : Drawn) (none : Vec Item Global) (lists : Lists) (named : Named) (repeats : List CoaReply) (items : List Item) (settled : Settled) (billing : BillingState) (p₀ p₁ : PlantTold) (t₀ t₁ : TraceTold) where
  pub ended : named.number ≡ d.told + 1 → All AllTold w.shards.items → repeats ≡ [] → items ≡ ending_items (seen_with d w) → draws ≡ record { seed = w.draws.seed; drawn = w.draws.drawn + ending_draws (seen_with d w) }
      → Settles d.rules named repeats items (gathered w w.accounts.billing w.coa w.lane draws none lists) w' p₀ p₁ t₀ t₁ settled
      → d.moment ≤ named.moment → (c₀ c₁ c₂ : ClockTold) → GrowsIfTold c₀.answers c₁.answers (Now named.moment ∷ []) → GrowsIfTold c₁.answers c₂.answers (Wall named.wall ∷ []) → c₂.last ≡ named.moment
      → (result : Turned) → result ≡ answer_if settled.noted → (unopened : ℕ) → unopened ≡ (if settled.is_opened then 0 else d.unopened + 1) → (closed : Bool) → closed ≡ (d.closed || settled.is_opened) → (closing : ℕ) → closing ≡ (if settled.is_opened then named.moment else d.closing)
      → Closes (closed && (sessions_in w'.shards.items == 0)) w'.accounts.billing billing → (told' : ℕ) → told' ≡ told_after settled.noted d.told
      → MakesEnd (seen_with d w) (after_ending (seen_with d (billed_by w' billing)) unopened closed closing named.moment told') (record { plant = p₀; clock = c₀; trace = t₀ }) (record { plant = p₁; clock = c₂; trace = t₁ }) result
  ended number told no_repeats same drew s later c₀ c₁ c₂ now wall last result result_is unopened unopened_is closed closed_is closing closing_is closes told' told_as =
      let was = seen_with d w in
      let moment = named.moment in
      let done = settlement_done d w w' w.accounts.billing w.coa w.lane draws none lists named repeats items p₀ p₁ t₀ t₁ settled number told s (ending_items was) same (was.drawn + ending_draws was) drew in
      let n = cond (is_opened done.round) 0 (d.unopened + 1) in
      let c = d.closed || is_opened done.round in
      let m = cond (is_opened done.round) moment d.closing in
      let closed_as = closed_is ∙ ap (λ (b : Bool). d.closed || b) done.opened_is in
      let left : sessions_in w'.shards.items ≡ sessions_in (after_round was (ending_items was) done.round).shards = sym (sessions_rested w'.shards.items) ∙ ap (λ (x : Desk). sessions_in x.shards) done.after in
      let gone = ap (λ (b : Bool). b && (sessions_in w'.shards.items == 0)) closed_as ∙ ap (λ (k : ℕ). c && (k == 0)) left in
      let billed = seen_with d (billed_by w' billing) in
      record {
        turn = Some (record {
          moment = moment;
          wall = named.wall;
          round = done.round;
          replies = done.replies;
          requests = done.requests;
          noted = settled.noted;
          coa = w'.coa;
          lane = w'.lane;
          handed = w'.handed.items;
          formed = done.formed;
          records = done.records;
          billing = billing;
          reports = w'.accounts.reports;
        });
        answer = result_is;
        step = (
          later,
          done.is,
          done.asks,
          record { allows = done.allows; booked = done.booked; forms = done.forms; of_round = done.of_round; settled = w'.accounts.billing; settles = done.bills; closes = subst (λ (b : Bool). Closes b w'.accounts.billing billing) gone closes },
          subst (λ (rs : List CoaReply). SettlesCoa d.rules rs (loose_of (ending_items was) done.round) (answers_of done.round) w.coa done.replies w'.coa) no_repeats done.answers,
          ap (λ (k : ℕ). after_ending billed k closed closing moment told') (unopened_is ∙ ap (λ (b : Bool). cond b 0 (d.unopened + 1)) done.opened_is)
              ∙ ap (λ (b : Bool). after_ending billed n b closing moment told') closed_as
              ∙ ap (λ (k : ℕ). after_ending billed n c k moment told') (closing_is ∙ ap (λ (b : Bool). cond b moment d.closing) done.opened_is)
              ∙ ap (λ (k : ℕ). after_ending billed n c m moment k) told_as
              ∙ ap (λ (x : Desk). let y : Desk = record x { billing = billing; told = told_after settled.noted d.told; moment = moment; endings = d.endings + 1; unopened = n; closed = c; closing = m } in y) done.after,
        );
        told = record {
          plant = done.told;
          answers = grows_if_told_more c₀.answers c₁.answers c₂.answers (Now moment ∷ []) (Wall named.wall ∷ []) now wall;
          rounds = done.rounds;
          cause = record { later = s.cause.later; cause = λ f. s.cause.cause (unnoted settled.noted f) };
          uncounted = λ f. s.uncounted (well_noted settled.noted f);
        };
        moment = omega (arith, last);
      }
