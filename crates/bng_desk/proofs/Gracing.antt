-- A turn of the grace, from its phases, and what the desk keeps in it.
use Rattle.std.proofs.Common.{◌≡◌, ℕ, ◌+◌, ◌≤◌, Bool, true, false, cond, [], ◌∷◌, Option, Some, refl, sym, subst, arith, ◌∙◌}
use Rattle.std.proofs.lemmas.Bool.{false≢true}
use Rattle.bng_acct.specs.Spool.{Agree}
use Rattle.bng_base.specs.declared.address.Peer.{Peer}
use Rattle.bng_base.specs.declared.outside.ClockAnswer.TheVariants.{Now, Wall}
use Rattle.bng_base.specs.Stretch.{ExtendsPlant}
use Rattle.bng_base.specs.Told.{PlantTold, ClockTold, TraceTold, GrowsIfTold}
use Rattle.bng_base.proofs.StretchLaws.{plant_more}
use Rattle.bng_base.proofs.ToldLaws.{grows_if_told_more, grows_none}
use Rattle.bng_billing.specs.State.{BillingState, places_of}
use Rattle.bng_ppp.specs.LcpRelation.{earliest}
use Rattle.bng_rad_client.specs.DueRequests.{IsDeadline}
use Rattle.bng_desk.specs.declared.desk.Turned.TheVariants.{Ok}
use Rattle.bng_desk.specs.declared.settlement.Works.{Works}
use Rattle.bng_desk.specs.Accounting.{acct_reading, records_stretch}
use Rattle.bng_desk.specs.Intake.{SendsRecords, TakesAcknowledgements}
use Rattle.bng_desk.specs.Kept.{IsKept}
use Rattle.bng_desk.specs.Model.{Desk, grace_most, keys_in}
use Rattle.bng_desk.specs.Reading.{is_empty}
use Rattle.bng_desk.specs.Turn.{Closes, MakesGrace, reading_stretch, wait_for, waiting_stretch}
use Rattle.bng_desk.proofs.Awaited.{awaited_later}
use Rattle.bng_desk.proofs.Billed.{billed_kept, closed_billed, heard_keeps, settled_keeps}
use Rattle.bng_desk.proofs.Keeping.{Graces, IsLeft}
use Rattle.bng_desk.proofs.Knowing.{closed_forgets, heard_forgets, knows_less, settled_forgets, terms_later}
use Rattle.bng_desk.proofs.Works.{billed_by, kept_with, seen_with}

-- a settlement leaves what it does, also where all but Stops are forgotten after it
pub left_closed : (d : Desk) (moment : ℕ) (w : Works) (ended : Bool) (billing : BillingState) → Agree w.accounts.billing.spool.sheets w.accounts.billing.spool.held → Closes ended w.accounts.billing billing → IsLeft d moment w → IsLeft d moment (billed_by w billing)
left_closed d moment w ended billing agree closes l = record {
  shards = l.shards;
  order = l.order;
  rules = l.rules;
  empty = l.empty;
  sessions = l.sessions;
  low = l.low;
  books = l.books;
  places = l.places;
  held = l.held;
  ranges = l.ranges;
  terms = l.terms;
  tally_low = l.tally_low;
  tallied = l.tallied;
  adds_up = l.adds_up;
  counts = l.counts;
  drawn_is = l.drawn_is;
  handed_is = l.handed_is;
  billed = closed_billed (keys_in w.shards.items) ended w.accounts.billing billing closes l.billed;
  knows = knows_less w.shards.items w.accounts.billing billing (closed_forgets ended w.accounts.billing billing agree closes) l.knows;
  awaited = l.awaited;
  all_told = l.all_told;
}

-- the moment of the last round of Ends is no later than that of the turn
pub closing_low : (opened : Bool) (was moment closing : ℕ) → was ≤ moment → closing ≡ cond opened moment was → closing ≤ moment
closing_low true was moment closing low is = omega (arith, is)
closing_low false was moment closing low is = omega (arith, low, is)

-- the desk after a turn of the grace, over what it works on then
abbrev pub after_gracing : Desk → (moment : ℕ) → Desk
after_gracing d moment = record d { moment = moment; graces = d.graces + 1 }

module _ (d : Desk) (w : Works) (heard billing : BillingState) (moment : ℕ) (quiet : Bool) (p₀ p₁ p₂ : PlantTold) (takes : TakesAcknowledgements p₀ p₁ w.accounts.billing heard quiet) (sends : SendsRecords moment p₁ p₂ heard billing) where
  pub kept_graced : IsKept (kept_with d w) → Graces (seen_with d w) → d.moment ≤ moment → IsKept (after_gracing (kept_with d (billed_by w billing)) moment)
  kept_graced k g later = record {
    some_port = k.some_port;
    few_ports = k.few_ports;
    few_profiles = k.few_profiles;
    shards = k.shards;
    some_shard = k.some_shard;
    few_shards = k.few_shards;
    order = k.order;
    rules = k.rules;
    empty = k.empty;
    sessions = k.sessions;
    pools = k.pools;
    places = k.places;
    held = k.held;
    terms = terms_later d.moment moment w.shards.items later k.terms;
    most = k.most;
    made = k.made;
    serving = λ serves. absurd (false≢true (sym serves ∙ g.over));
    endings = k.endings;
    unopened = k.unopened;
    left = k.left;
    told = k.told;
    drawn = k.drawn;
    one_seat = k.one_seat;
    low = k.low;
    books = k.books;
    tallies = k.tallies;
    tallied = k.tallied;
    adds_up = k.adds_up;
    counts = k.counts;
    kept = k.kept;
    stays = k.stays;
    while_serving = λ serves. absurd (false≢true (sym serves ∙ g.over));
    handed = k.handed;
    closing = omega (arith, k.closing, later);
    graces = omega (arith, g.few);
    billed = billed_kept (keys_in w.shards.items) heard billing (settled_keeps moment heard billing sends.requests sends.settles)
        (billed_kept (keys_in w.shards.items) w.accounts.billing heard (heard_keeps w.accounts.billing heard takes.acknowledged takes.hears) k.billed);
    knows = knows_less w.shards.items heard billing (settled_forgets moment heard billing sends.requests sends.settles)
        (knows_less w.shards.items w.accounts.billing heard (heard_forgets w.accounts.billing heard takes.acknowledged takes.hears) k.knows);
    awaited = awaited_later d.moment moment w.shards.items w.accounts.reports later k.awaited;
    all_told = k.all_told;
  }

  pub graced : d.moment ≤ moment → (due : Option ℕ) → IsDeadline (places_of billing) due → (wait : ℕ) → wait ≡ wait_for (earliest due (Some (d.closing + grace_most))) moment → (p₃ : PlantTold) → ExtendsPlant p₂ p₃ (waiting_stretch quiet wait)
      → (wall : ℕ) (c₀ c₁ c₂ : ClockTold) → GrowsIfTold c₀.answers c₁.answers (Now moment ∷ []) → GrowsIfTold c₁.answers c₂.answers (Wall wall ∷ []) → c₂.last ≡ moment → (trace : TraceTold)
      → MakesGrace (seen_with d w) (after_gracing (seen_with d (billed_by w billing)) moment) (record { plant = p₀; clock = c₀; trace = trace }) (record { plant = p₃; clock = c₂; trace = trace }) Ok
  graced later due deadline wait wait_is p₃ waits wall c₀ c₁ c₂ now wall_told last trace =
      let last_due = earliest due (Some (d.closing + grace_most)) in
      let reading = reading_stretch (acct_reading takes.acknowledged takes.ended) in
      let sent : ExtendsPlant p₁ p₂ (records_stretch w.accounts.billing.client.acct_server sends.requests) =
      subst (λ (to : Peer). ExtendsPlant p₁ p₂ (records_stretch to sends.requests)) (heard_keeps w.accounts.billing heard takes.acknowledged takes.hears).server sends.told in
      let waited : ExtendsPlant p₂ p₃ (waiting_stretch (is_empty takes.acknowledged) (wait_for last_due moment)) =
      subst (λ (n : ℕ). ExtendsPlant p₂ p₃ (waiting_stretch (is_empty takes.acknowledged) n)) wait_is (subst (λ (b : Bool). ExtendsPlant p₂ p₃ (waiting_stretch b wait)) takes.quiet_is waits) in
      record {
        turn = record { moment = moment; wall = wall; acknowledged = takes.acknowledged; acct_end = takes.ended; records = sends.requests; billing = billing; record_deadline = due };
        answer = refl;
        step = record { moment = later; acct = takes.ends; heard = heard; hears = takes.hears; settles = sends.settles; due = deadline; after = refl };
        told = record {
          plant = plant_more p₀ p₁ p₃ reading _ takes.told
              (plant_more p₁ p₂ p₃ (records_stretch w.accounts.billing.client.acct_server sends.requests) (waiting_stretch (is_empty takes.acknowledged) (wait_for last_due moment)) sent waited);
          answers = grows_if_told_more c₀.answers c₁.answers c₂.answers (Now moment ∷ []) (Wall wall ∷ []) now wall_told;
          rounds = grows_none trace.rounds;
          cause = record { later = omega arith; cause = λ no. absurd (false≢true no) };
          uncounted = λ _. refl;
        };
        moment = omega (arith, last);
      }
