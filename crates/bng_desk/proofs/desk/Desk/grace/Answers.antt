use Rattle.std.proofs.Common.{◌≡◌, ℕ, ◌<◌, ◌≤◌, [], ◌∷◌, Option, sym, ap, subst, arith, ◌∙◌}
use Rattle.bng_base.specs.Stretch.{Outside}
use Rattle.bng_billing.specs.State.{BillingState}
use Rattle.bng_desk.specs.declared.desk.Turned.TheVariants.{Ok}
use Rattle.bng_desk.specs.declared.settlement.Works.{Works}
use Rattle.bng_desk.specs.Intake.{SendsRecords, TakesAcknowledgements}
use Rattle.bng_desk.specs.Kept.{IsKept}
use Rattle.bng_desk.specs.Model.{Desk, left_of, state_of}
use Rattle.bng_desk.specs.Taking.{Accounts}
use Rattle.bng_desk.specs.Turn.{MakesGrace, wait_for}
use Rattle.bng_desk.proofs.Gracing.{after_gracing, graced, kept_graced}
use Rattle.bng_desk.proofs.Keeping.{Graces, graces_of_state}
use Rattle.bng_desk.proofs.Works.{kept_with, seen_with}
use Rattle.bng_desk.proofs.desk.Desk.grace.Given.{Over}
use Rattle.bng_desk.proofs.desk.Desk.grace.Goals as goal
use Rattle.bng_desk.proofs.desk.Desk.grace.Goals.{After-wait_if}

module _ (g : Over) (c : After-wait_if g) where
  abbrev works : Works
  works = record c.self.inside.works { frame = c.hear-unacknowledged.new.frame }

  abbrev desk : Desk
  desk = record {
    rules = c.self.inside.rules;
    lines = works.accounts.lines;
    stopped_book = works.accounts.stopped.carried;
    stops = works.accounts.stopped.stops;
    rounds = c.self.inside.rounds;
    turns = c.self.inside.turns;
    stopped = c.self.inside.stopped;
    shards = works.shards.items;
    pool = works.pool;
    tallies = works.tally ∷ [];
    seed = works.draws.seed;
    drawn = works.draws.drawn;
    drops = works.drops;
    moment = c.self.inside.moment;
    told = c.self.inside.told;
    lane = works.lane;
    handed = works.handed.items;
    billing = works.accounts.billing;
    reports = works.accounts.reports;
    coa = works.coa;
    endings = c.self.inside.endings;
    unopened = c.self.inside.unopened;
    closed = c.self.inside.closed;
    closing = c.self.inside.closing;
    graces = c.self.inside.graces;
    kept = works.kept.items;
  }

  abbrev heard : BillingState
  heard = c.hear-unacknowledged.new.self.billing

  abbrev billing : BillingState
  billing = c.send.new.self.billing

  -- the records alone have changed
  accounts_are : c.send.new.self ≡ record works.accounts { billing = billing }
  accounts_are = c.send.ensures.others ∙ ap (λ (a : Accounts). let x : Accounts = record a { billing = billing } in x) c.hear-unacknowledged.ensures.others

  later : c.self.inside.moment ≤ c.now-now.result
  later = omega (arith, ap (λ (x : Desk). x.moment) c.self.view_is, c.requires.later, c.now-now.ensures.later)

  in_grace : Graces (seen_with desk works)
  in_grace = graces_of_state (seen_with desk works) (ap (λ (x : Desk). state_of x) c.self.view_is ∙ c.requires.state)

  takes : TakesAcknowledgements (g.P.Plant.told c.args.plant.now) (g.P.Plant.told c.hear-unacknowledged.new.plant) works.accounts.billing heard c.hear-unacknowledged.result
  takes = c.hear-unacknowledged.ensures.takes

  sends : SendsRecords c.now-now.result (g.P.Plant.told c.hear-unacknowledged.new.plant) (g.P.Plant.told c.send.new.plant) heard billing
  sends = c.send.ensures.sends

pub invariant_of-self : goal.invariant_of-self
invariant_of-self g c = (
  subst (λ (a : Accounts). IsKept (after_gracing (kept_with (desk g c) (record (works g c) { accounts = a })) c.now-now.result)) (sym (accounts_are g c))
      (kept_graced (desk g c) (works g c) (heard g c) (billing g c) c.now-now.result c.hear-unacknowledged.result (g.P.Plant.told c.args.plant.now) (g.P.Plant.told c.hear-unacknowledged.new.plant) (g.P.Plant.told c.send.new.plant) (takes g c) (sends g c) c.self.invariant.0 (in_grace g c) (later g c)),
  c.self.invariant.1,
)

pub returns-clause-nearer : goal.returns-clause-nearer
returns-clause-nearer g c =
    let d = seen_with (desk g c) (works g c) in
    subst (λ (x : Desk). left_of (after_gracing (seen_with (desk g c) (record (works g c) { accounts = c.send.new.self })) c.now-now.result) < left_of x) c.self.view_is (omega (arith, (in_grace g c).few))

pub returns-clause-makes : goal.returns-clause-makes
returns-clause-makes g c trace =
    let told = g.P.Plant.told in
    let clock = g.C.Clock.told in
    let d = desk g c in
    let w = works g c in
    let before_is : Outside = record { plant = told c.args.plant.now; clock = clock c.args.clock.now; trace = trace } in
    let behind_is : Outside = record { plant = told c.wait_if.new.plant; clock = clock c.wall-wall.new.self; trace = trace } in
    let made = graced d w (heard g c) (billing g c) c.now-now.result c.hear-unacknowledged.result (told c.args.plant.now) (told c.hear-unacknowledged.new.plant) (told c.send.new.plant) (takes g c) (sends g c)
    (later g c) c.deadline.result c.deadline.ensures c.wait_until.result (c.wait_until.ensures ∙ ap (λ (x : Option ℕ). wait_for x c.now-now.result) c.earlier-due.ensures) (told c.wait_if.new.plant) c.wait_if.ensures
    c.wall-wall.result (clock c.args.clock.now) (clock c.now-now.new.self) (clock c.wall-wall.new.self) c.now-now.ensures.answers c.wall-wall.ensures.answers (c.wall-wall.ensures.last ∙ c.now-now.ensures.last) trace in
    subst (λ (x : Desk). MakesGrace x (after_gracing (seen_with d (record w { accounts = c.send.new.self })) c.now-now.result) before_is behind_is Ok) c.self.view_is
    (subst (λ (a : Accounts). MakesGrace (seen_with d w) (after_gracing (seen_with d (record w { accounts = a })) c.now-now.result) before_is behind_is Ok) (sym (accounts_are g c)) made)
