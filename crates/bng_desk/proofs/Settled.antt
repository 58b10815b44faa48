-- The settlement of a turn, as the turn has it.
use Rattle.std.specs.List.{All}
use Rattle.std.proofs.Common.{◌≡◌, ℕ, ◌+◌, List, [], ◌∷◌, Option, Vec, Global, map, length, refl, ap, subst, ◌∙◌}
use Rattle.bng_base.specs.declared.address.Peer.{Peer}
use Rattle.bng_base.specs.declared.item.Item.{Item}
use Rattle.bng_base.specs.declared.item.Loose.{Loose}
use Rattle.bng_base.specs.declared.round.RoundRecord.{RoundRecord}
use Rattle.bng_base.specs.Stretch.{ExtendsPlant, plant_joined}
use Rattle.bng_base.specs.Told.{PlantTold, TraceTold, Grows}
use Rattle.bng_base.proofs.StretchLaws.{plant_more}
use Rattle.bng_billing.specs.State.{BillingState}
use Rattle.bng_coa.specs.State.{State as CoaState}
use Rattle.bng_lane.specs.State.{LaneState}
use Rattle.bng_steps.specs.declared.changes.ChangeAnswer.{ChangeAnswer}
use Rattle.bng_desk.specs.declared.holding.Named.{Named}
use Rattle.bng_desk.specs.declared.lists.Lists.{Lists}
use Rattle.bng_desk.specs.declared.settlement.Settled.{Settled}
use Rattle.bng_desk.specs.declared.settlement.Works.{Works}
use Rattle.bng_desk.specs.Accounting.{FormedRecord, Forms, RecordRequests, SettlesRecords, records_stretch}
use Rattle.bng_desk.specs.Allowing.{Allows}
use Rattle.bng_desk.specs.Coa.{CoaReplies, CoaReply, SettlesCoa, coa_sends, coa_stretch}
use Rattle.bng_desk.specs.Kept.{rested}
use Rattle.bng_desk.specs.Logins.{Requests, SettlesLane, requests_stretch}
use Rattle.bng_desk.specs.Model.{Desk}
use Rattle.bng_desk.specs.Random.{Drawn}
use Rattle.bng_desk.specs.Round.{Round}
use Rattle.bng_desk.specs.Settlement.{Settles}
use Rattle.bng_desk.specs.Taking.{Accounts, AllTold, Holds, told_all}
use Rattle.bng_desk.specs.Turn.{FormsRecords, RoundOf, after_round, answers_of, is_opened, loose_of, round_stretch, round_told, told_if}
use Rattle.bng_desk.proofs.Done.{is_after_round, round_done}
use Rattle.bng_desk.proofs.Lanes.{forms_server, settles_rested}
use Rattle.bng_desk.proofs.Readying.{Shards}
use Rattle.bng_desk.proofs.Works.{gathered, seen_with}

-- what a turn has of its settlement: of the desk before, of accounting and the lane as they had heard what came, and of the draws so far
pub record SettlementDone (d : Desk) (heard : BillingState) (coa : CoaState) (lane : LaneState) (drawn : ℕ) (named : Named) (repeats : List CoaReply) (items : List Item) (w' : Works) (p p' : PlantTold) (t t' : TraceTold) (s : Settled) : Type 0 where
  pub round : Option Round
  pub is : RoundOf d named.moment items round
  pub allows : Allows heard d.shards round
  pub formed : List FormedRecord
  pub booked : BillingState
  pub forms : Forms heard formed booked
  pub of_round : FormsRecords d.shards named.moment named.wall round d.reports w'.accounts.reports heard formed booked
  pub replies : CoaReplies
  pub answers : SettlesCoa d.rules repeats (loose_of items round) (answers_of round) coa replies w'.coa
  pub requests : Requests
  pub asks : SettlesLane named.moment lane (after_round d items round).shards d.handed d.seed drawn requests w'.lane w'.handed.items
  pub records : RecordRequests
  pub bills : SettlesRecords named.moment booked records w'.accounts.billing
  pub told : ExtendsPlant p p' (plant_joined (round_stretch round) (plant_joined (coa_stretch (coa_sends replies)) (plant_joined (requests_stretch lane.client.auth_server requests) (records_stretch heard.client.acct_server records))))
  pub opened_is : s.is_opened ≡ is_opened round
  pub rounds : Grows t.rounds t'.rounds (told_if s.noted (round_told d named.moment named.wall items round))
  pub after : seen_with d w' ≡ record (after_round d items round) { drawn = drawn + length requests.asked; lane = w'.lane; handed = w'.handed.items; billing = w'.accounts.billing; reports = w'.accounts.reports; coa = w'.coa }

module _ (d : Desk) (w w' : Works) (heard : BillingState) (coa : CoaState) (lane : LaneState) (draws : Drawn) (none : Vec Item Global) (lists : Lists) (named : Named) (repeats : List CoaReply) (items : List Item) (p p' : PlantTold) (t t' : TraceTold) (settled : Settled) where
  pub settlement_done : named.number ≡ d.told + 1 → All AllTold w.shards.items → Settles d.rules named repeats items (gathered w heard coa lane draws none lists) w' p p' t t' settled → (all : List Item) → items ≡ all → (drawn : ℕ) → draws ≡ record { seed = w.draws.seed; drawn = drawn }
      → SettlementDone (seen_with d w) heard coa lane drawn named repeats all w' p p' t t' settled
  settlement_done number told s all same drawn drew =
      let was = seen_with d w in
      let moment = named.moment in
      let accounts : Accounts = record w.accounts { billing = heard } in
      let accounts' : Accounts = record w'.accounts { billing = s.booked } in
      let done = round_done was heard named all p s.sent w.shards.items s.held w'.pool accounts' w'.drops w.tally w'.tally s.round settled.is_opened w'.kept.items
      (subst (λ (is : List Item). Holds d.rules w.pool w'.pool accounts accounts' named is p s.sent w.shards.items s.held w.drops w'.drops w.tally w'.tally s.round settled.is_opened w'.kept.items) same s.holds) refl refl number told in
      let rested_are : map rested w'.shards.items ≡ map rested (map told_all s.held) = ap (λ (xs : Shards). map rested xs) s.replies.shards_are in
      let shards_are = rested_are ∙ done.shards_are in
      let answered = subst (λ (ls : List Loose). SettlesCoa d.rules repeats ls (answers_of done.round) coa s.replies.replies w'.coa) done.loose_are
      (subst (λ (bs : List ChangeAnswer). SettlesCoa d.rules repeats s.round.loose bs coa s.replies.replies w'.coa) done.answers_are s.replies.settles) in
      let q = s.asks.requests in
      let asks = subst (λ (xs : Shards). SettlesLane moment lane xs w.handed.items w.draws.seed drawn q w'.lane w'.handed.items) shards_are
      (subst (λ (x : Drawn). SettlesLane moment lane (map rested w'.shards.items) w.handed.items x.seed x.drawn q w'.lane w'.handed.items) drew (settles_rested moment lane w'.lane w'.shards.items w.handed.items w'.handed.items draws.seed draws.drawn q s.asks.settles)) in
      let billed = subst (λ (to : Peer). ExtendsPlant s.asked p' (records_stretch to s.bills.requests)) (forms_server done.formed heard s.booked done.forms) s.bills.told in
      let drew_all : w'.draws ≡ record { seed = w.draws.seed; drawn = drawn + length q.asked } = s.asks.draws_are ∙ ap (λ (x : Drawn). let y : Drawn = record x { drawn = x.drawn + length q.asked } in y) drew in
      let with_draws = λ (x : Drawn). let y : Desk = record (seen_with d w') { seed = x.seed; drawn = x.drawn } in y in
      let settled_as = λ (x : Desk). let y : Desk = record x { drawn = drawn + length q.asked; lane = w'.lane; handed = w'.handed.items; billing = w'.accounts.billing; reports = w'.accounts.reports; coa = w'.coa } in y in
      record {
        round = done.round;
        is = done.is;
        allows = done.allows;
        formed = done.formed;
        booked = s.booked;
        forms = done.forms;
        of_round = done.of_round;
        replies = s.replies.replies;
        answers = answered;
        requests = q;
        asks = asks;
        records = s.bills.requests;
        bills = s.bills.settles;
        told = plant_more p s.sent p' (round_stretch done.round) (plant_joined (coa_stretch (coa_sends s.replies.replies)) (plant_joined (requests_stretch lane.client.auth_server q) (records_stretch heard.client.acct_server s.bills.requests))) done.told
            (plant_more s.sent s.replied p' (coa_stretch (coa_sends s.replies.replies)) (plant_joined (requests_stretch lane.client.auth_server q) (records_stretch heard.client.acct_server s.bills.requests)) s.replies.told
            (plant_more s.replied s.asked p' (requests_stretch lane.client.auth_server q) (records_stretch heard.client.acct_server s.bills.requests) s.asks.told billed));
        opened_is = done.opened_is;
        rounds = subst (λ (r : RoundRecord). Grows t.rounds t'.rounds (told_if settled.noted r)) done.record_told s.rounds;
        after = ap with_draws drew_all
            ∙ ap settled_as (is_after_round was all done.round (map rested w'.shards.items) w'.pool w'.accounts.lines w'.accounts.stopped w'.drops (w'.tally ∷ []) w'.kept.items shards_are done.pool_is done.lines_are done.stopped_is done.drops_are done.tallies_are done.kept_is);
      }
