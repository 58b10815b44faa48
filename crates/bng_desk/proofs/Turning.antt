-- A turn of the desk, from its phases.
use Rattle.std.proofs.Common.{◌≡◌, ℕ, Vec, Global, ◌+◌, ◌-◌, ◌≤◌, Bool, true, false, not, ◌&&◌, ◌||◌, List, [], ◌∷◌, ◌++◌, Option, Some, count_by, length, refl, sym, ap, subst, ◌∙◌, arith}
use Rattle.std.specs.List.{All}
use Rattle.std.proofs.lemmas.Bool.{false≢true}
use Rattle.bng_base.specs.declared.address.Peer.{Peer}
use Rattle.bng_base.specs.declared.item.Item.{Item}
use Rattle.bng_base.specs.declared.outside.ClockAnswer.TheVariants.{Now, Wall}
use Rattle.bng_base.specs.Stretch.{ExtendsPlant, plant_joined}
use Rattle.bng_base.specs.Told.{PlantTold, ClockTold, TraceTold, GrowsIfTold}
use Rattle.bng_base.proofs.ToldLaws.{grows_if_told_more}
use Rattle.bng_billing.specs.State.{BillingState, places_of}
use Rattle.bng_coa.specs.State.{State as CoaState}
use Rattle.bng_lane.specs.State.{LaneState}
use Rattle.bng_ppp.specs.LcpRelation.{earliest}
use Rattle.bng_rad_client.specs.DueRequests.{IsDeadline}
use Rattle.bng_desk.specs.declared.control.Heeding.{Heeding}
use Rattle.bng_desk.specs.declared.desk.Turned.{Turned}
use Rattle.bng_desk.specs.declared.holding.Named.{Named}
use Rattle.bng_desk.specs.declared.lists.Lists.{Lists}
use Rattle.bng_desk.specs.declared.settlement.Settled.{Settled}
use Rattle.bng_desk.specs.declared.settlement.Works.{Works}
use Rattle.bng_desk.specs.Accounting.{records_stretch}
use Rattle.bng_desk.specs.Coa.{CoaReply, SettlesCoa, change_items, coa_sends, coa_stretch}
use Rattle.bng_desk.specs.Control.{Heeds, has_stop}
use Rattle.bng_desk.specs.Items.{drawn_from, is_verdict_item, taken_items, ticks_of}
use Rattle.bng_desk.specs.Logins.{TimesOut, reply_items, timeout_items, requests_stretch, verdicts_most}
use Rattle.bng_desk.specs.Model.{Desk}
use Rattle.bng_desk.specs.Random.{Drawn}
use Rattle.bng_desk.specs.Reading.{is_empty}
use Rattle.bng_desk.specs.Intake.{Gathers, TakesAcknowledgements, TakesCoa}
use Rattle.bng_desk.specs.Report.{stats_text}
use Rattle.bng_desk.specs.Settlement.{Settles}
use Rattle.bng_desk.specs.Taking.{AllTold}
use Rattle.bng_desk.specs.Turn.{Turn, MakesTurn, ReadsWhere, after, answers_of, loose_of, reads_changes, round_stretch, arrivals_in, is_idle, wait_for, deadline_in, waiting_stretch, answer_if, told_after}
use Rattle.bng_desk.proofs.Billed.{heard_keeps}
use Rattle.bng_desk.proofs.Done.{phases}
use Rattle.bng_desk.proofs.Drawing.{drawn_more, draws_more}
use Rattle.bng_desk.proofs.Lanes.{hears_server, times_out_server}
use Rattle.bng_desk.proofs.Resting.{ticks_rested, deadline_rested}
use Rattle.bng_desk.proofs.Settled.{settlement_done}
use Rattle.bng_desk.proofs.Works.{gathered, seen_with}

pub well_noted : (b : Bool) → not b ≡ false → b ≡ true
well_noted true f = refl
well_noted false f = absurd (false≢true (sym f))

pub unnoted : (b : Bool) → not b ≡ true → b ≡ false
unnoted true f = absurd (false≢true f)
unnoted false f = refl

and_assoc : (a b c : Bool) → (a && (b && c)) ≡ ((a && b) && c)
and_assoc true b c = refl
and_assoc false b c = refl

-- the desk after a turn while serving, over what it works on then
abbrev pub after_turn : Desk → Bool → (moment told : ℕ) → Desk
after_turn d stopped moment told = record d { turns = d.turns + 1; stopped = stopped; moment = moment; told = told }

module _ (d : Desk) (w w' : Works) (heard : BillingState) (coa : CoaState) (lane : LaneState) (first draws : Drawn) (none : Vec Item Global) (lists : Lists) (named : Named) (heeding : Heeding) (unacknowledged unasked quiet reads : Bool) (verdicts : ℕ) (front items : List Item) (repeats : List CoaReply) (settled : Settled) (due record_due : Option ℕ) (p₀ p₁ p₂ p₃ p₄ p₅ p₆ : PlantTold) (t₀ t₁ : TraceTold) where
  pub served : named.number ≡ d.told + 1 → All AllTold w.shards.items → Heeds (stats_text (seen_with d w)) p₀ p₁ heeding → TakesAcknowledgements p₁ p₂ w.accounts.billing heard unacknowledged
      → TakesCoa (reads_changes (seen_with d w)) named.moment named.wall p₂ p₃ w.coa coa w.draws first w.kept.items front [] repeats unasked → reads ≡ is_empty w.kept.items → verdicts ≡ count_by is_verdict_item w.kept.items
      → Gathers d.rules w.shards.items named.moment reads verdicts front p₃ p₄ w.lane lane first draws items quiet
      → Settles d.rules named repeats items (gathered w heard coa lane draws none lists) w' p₄ p₅ t₀ t₁ settled → IsDeadline w'.lane.client.auth.places due → IsDeadline (places_of w'.accounts.billing) record_due
      → (idle : Bool) (wait : ℕ) → ExtendsPlant p₅ p₆ (waiting_stretch idle wait) → idle ≡ ((((heeding.idle && unacknowledged) && unasked) && quiet) && settled.noted) → wait ≡ wait_for (earliest (deadline_in w'.shards.items) (earliest due record_due)) named.moment
      → d.moment ≤ named.moment → (c₀ c₁ c₂ : ClockTold) → GrowsIfTold c₀.answers c₁.answers (Now named.moment ∷ []) → GrowsIfTold c₁.answers c₂.answers (Wall named.wall ∷ []) → c₂.last ≡ named.moment
      → (result : Turned) → result ≡ answer_if settled.noted → (stopped : Bool) → stopped ≡ (d.stopped || heeding.stop) → (told' : ℕ) → told' ≡ told_after settled.noted d.told
      → MakesTurn (seen_with d w) (after_turn (seen_with d w') stopped named.moment told') (record { plant = p₀; clock = c₀; trace = t₀ }) (record { plant = p₆; clock = c₂; trace = t₁ }) result
  served number told heeds a r reads_is verdicts_is g s deadline record_deadline idle wait waits idle_is wait_is later c₀ c₁ c₂ now wall last result result_is stopped stopped_is told' told_as =
      let was = seen_with d w in
      let moment = named.moment in
      let changes = change_items r.requested in
      let new_with = λ (due_are : List Item). reply_items g.answers ++ taken_items g.readings ++ timeout_items g.timed ++ due_are in
      let new = changes ++ new_with (ticks_of moment was.shards) in
      let all = was.kept ++ drawn_from was.seed was.drawn new in
      let ticks : ticks_of moment w.shards.items ≡ ticks_of moment was.shards = sym (ticks_rested moment w.shards.items) in
      let later_items = g.items_are ∙ ap (λ (is : List Item). front ++ drawn_from first.seed first.drawn (new_with is)) ticks in
      let same : items ≡ all = drawn_more was.seed was.drawn was.kept front items changes (new_with (ticks_of moment was.shards)) first r.items_are r.draws_are later_items in
      let later_draws = g.draws_are ∙ ap (λ (is : List Item). let x : Drawn = record first { drawn = first.drawn + length (new_with is) } in x) ticks in
      let drew : draws ≡ record { seed = was.seed; drawn = was.drawn + length new } = draws_more was.seed was.drawn (length (new_with (ticks_of moment was.shards))) first draws changes (new_with (ticks_of moment was.shards)) r.draws_are later_draws refl in
      let done = settlement_done d w w' heard coa lane draws none lists named repeats items p₄ p₅ t₀ t₁ settled number told s all same (was.drawn + length new) drew in
      let turn : Turn = record {
        moment = moment;
        wall = named.wall;
        control = heeds.heeded;
        control_end = heeding.ended;
        acknowledged = a.acknowledged;
        acct_end = a.ended;
        requested = r.requested;
        coa_end = r.coa_end;
        answers = g.answers;
        auth_end = g.auth_end;
        readings = g.readings;
        timed = g.timed;
        round = done.round;
        replies = done.replies;
        requests = done.requests;
        noted = settled.noted;
        coa = w'.coa;
        heard = g.heard;
        waited = lane;
        lane = w'.lane;
        deadline = due;
        handed = w'.handed.items;
        formed = done.formed;
        records = done.records;
        billing = w'.accounts.billing;
        record_deadline = record_due;
        reports = w'.accounts.reports;
      } in
      let after_as : after_turn (seen_with d w') stopped moment told' ≡ after was turn =
      ap (λ (b : Bool). after_turn (seen_with d w') b moment told') (stopped_is ∙ ap (λ (b : Bool). d.stopped || b) heeds.stop)
      ∙ ap (λ (n : ℕ). after_turn (seen_with d w') (d.stopped || has_stop heeds.heeded) moment n) told_as
      ∙ ap (λ (x : Desk). let y : Desk = record x { turns = d.turns + 1; stopped = d.stopped || has_stop heeds.heeded; moment = moment; told = told_after settled.noted d.told } in y) done.after in
      let times_out = subst (λ (n : ℕ). TimesOut moment (verdicts_most - (n + length (reply_items g.answers))) g.heard g.timed lane) verdicts_is g.times_out in
      let server = times_out_server moment (verdicts_most - (count_by is_verdict_item was.kept + length (reply_items g.answers))) g.timed g.heard lane times_out ∙ hears_server g.answers was.lane g.heard g.hears in
      let settlement =
      subst (λ (to : Peer). ExtendsPlant p₄ p₅ (plant_joined (round_stretch done.round) (plant_joined (coa_stretch (coa_sends done.replies)) (plant_joined (requests_stretch to done.requests) (records_stretch was.billing.client.acct_server done.records))))) server
      (subst (λ (to : Peer). ExtendsPlant p₄ p₅ (plant_joined (round_stretch done.round) (plant_joined (coa_stretch (coa_sends done.replies)) (plant_joined (requests_stretch lane.client.auth_server done.requests) (records_stretch to done.records))))) (heard_keeps was.billing heard a.acknowledged a.hears).server done.told) in
      let deadline_is : deadline_in w'.shards.items ≡ deadline_in (after was turn).shards = sym (deadline_rested w'.shards.items) ∙ ap (λ (x : Desk). deadline_in x.shards) after_as in
      let idle_as : idle ≡ (is_idle turn && settled.noted) = idle_is
      ∙ ap (λ (b : Bool). (((b && unacknowledged) && unasked) && quiet) && settled.noted) heeds.idle
      ∙ ap (λ (b : Bool). (((is_empty heeds.heeded && b) && unasked) && quiet) && settled.noted) a.quiet_is
      ∙ ap (λ (b : Bool). (((is_empty heeds.heeded && is_empty a.acknowledged) && b) && quiet) && settled.noted) r.quiet_is
      ∙ ap (λ (b : Bool). (((is_empty heeds.heeded && is_empty a.acknowledged) && is_empty r.requested) && b) && settled.noted) g.quiet_is
      ∙ ap (λ (b : Bool). b && settled.noted) (and_assoc ((is_empty heeds.heeded && is_empty a.acknowledged) && is_empty r.requested) (is_empty g.answers) (is_empty (arrivals_in g.readings))) in
      let waiting : ExtendsPlant p₅ p₆ (waiting_stretch (is_idle turn && settled.noted) (wait_for (earliest (deadline_in (after was turn).shards) (earliest due record_due)) moment)) =
      subst (λ (n : ℕ). ExtendsPlant p₅ p₆ (waiting_stretch (is_idle turn && settled.noted) n)) (wait_is ∙ ap (λ (x : Option ℕ). wait_for (earliest x (earliest due record_due)) moment) deadline_is)
      (subst (λ (b : Bool). ExtendsPlant p₅ p₆ (waiting_stretch b wait)) idle_as waits) in
      record {
        turn = Some turn;
        answer = result_is;
        step = (
          record { moment = later; control = heeds.ends; acct = a.ends; coa = r.coa; auth = subst (λ (b : Bool). ReadsWhere verdicts_most b g.answers g.auth_end) reads_is g.auth; roles = g.are_roles; read = g.read },
          done.is,
          record { hears = g.hears; times_out = times_out; settles = done.asks; due = deadline },
          record { heard = heard; hears = a.hears; allows = done.allows; booked = done.booked; forms = done.forms; of_round = done.of_round; settles = done.bills; due = record_deadline },
          record { admitted = coa; admits = r.admits; settles = subst (λ (rs : List CoaReply). SettlesCoa d.rules rs (loose_of all done.round) (answers_of done.round) coa done.replies w'.coa) r.repeats_are done.answers },
          after_as,
        );
        told = record {
          plant = phases was turn p₀ p₁ p₂ p₃ p₄ p₅ p₆ heeds.told a.told r.told g.told settlement waiting;
          answers = grows_if_told_more c₀.answers c₁.answers c₂.answers (Now moment ∷ []) (Wall named.wall ∷ []) now wall;
          rounds = done.rounds;
          cause = record { later = s.cause.later; cause = λ f. s.cause.cause (unnoted settled.noted f) };
          uncounted = λ f. s.uncounted (well_noted settled.noted f);
        };
        moment = omega (arith, last);
      }
