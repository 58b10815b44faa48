-- A round that was held or refused, as a turn of the desk has it.
use Rattle.std.proofs.Common.{◌≡◌, inl, inr, ℕ, ◌+◌, ◌&&◌, Bool, List, [], ◌∷◌, ◌++◌, Option, None, Some, map, length, refl, sym, ap, subst, ◌∙◌}
use Rattle.std.specs.List.{All, AllZip}
use Rattle.std.proofs.lemmas.List.{length-map}
use Rattle.std.proofs.lemmas.List.Elements.{recursion_from_All}
use Rattle.bng_base.specs.declared.book.Book.{Book}
use Rattle.bng_base.specs.declared.item.Entry.{Entry}
use Rattle.bng_base.specs.declared.item.Item.{Item}
use Rattle.bng_base.specs.declared.round.RoundRecord.{RoundRecord}
use Rattle.bng_base.specs.Stretch.{ExtendsPlant, PlantStretch, plant_none, plant_joined}
use Rattle.bng_base.specs.Told.{PlantTold}
use Rattle.bng_base.proofs.ChainLaws.{chain_append}
use Rattle.bng_base.proofs.StretchLaws.{plant_assoc, plant_more, plant_stays}
use Rattle.bng_billing.specs.Records.{IsFormedBy}
use Rattle.bng_billing.specs.State.{BillingState}
use Rattle.bng_engine.specs.Journals.{after as after_journal}
use Rattle.bng_engine.specs.Lists.{Zip3}
use Rattle.bng_engine.specs.Views.{ShardView}
use Rattle.bng_ppp.specs.LcpRelation.{earliest}
use Rattle.bng_pool.specs.Plain.{PlainView}
use Rattle.bng_steps.specs.Interims.{Reports}
use Rattle.bng_steps.specs.Protocol.{Handled, ShardState, pppoe}
use Rattle.bng_desk.specs.declared.accounts.Stopped.{Stopped}
use Rattle.bng_desk.specs.declared.drops.Drops.{Drops}
use Rattle.bng_desk.specs.declared.holding.Named.{Named}
use Rattle.bng_desk.specs.declared.line.CircuitLine.{CircuitLine}
use Rattle.bng_desk.specs.Accounting.{FormedRecord, Forms, IsStartOf, IsStopOf, acct_reading, records_stretch}
use Rattle.bng_desk.specs.Allowing.{Allows, allowance_of, free_in}
use Rattle.bng_desk.specs.Coa.{coa_sends, coa_stretch}
use Rattle.bng_desk.specs.Control.{control_stretch}
use Rattle.bng_desk.specs.Interims.{FormsInterims, TakesInterims, owed_by}
use Rattle.bng_desk.specs.Kept.{rested}
use Rattle.bng_desk.specs.Logins.{requests_stretch}
use Rattle.bng_desk.specs.Model.{Desk}
use Rattle.bng_desk.specs.Report.{stats_text}
use Rattle.bng_desk.specs.Round.{Round, IsRound, handled_states, news_in, record_of, refused_record, starts_of, stops_of, terms_in}
use Rattle.bng_desk.specs.Taking.{Accounts, AllTold, Holds, told_all}
use Rattle.bng_desk.specs.Turn.{Turn, FormsRecords, RoundOf, after_round, answers_of, is_opened, loose_of, round_stretch, round_told, after, asked_stretch, auth_stretch, plant_stretch, data_stretch, reading_stretch, waiting_stretch, is_idle, wait_for, deadline_in}
use Rattle.bng_desk.proofs.Awaited.{interims_form}
use Rattle.bng_desk.proofs.Resting.{kept_rested, left_rested, round_rested, told_rested}
use Rattle.bng_desk.proofs.Telling.{answers_of_round, told_kept, untold, untold_left, untold_none}

abbrev Shards : Type 0
Shards = List (ShardView ShardState Entry)

-- what all Stops say that were formed so far, and how many they are
abbrev pub stopped_in : Desk → Stopped
stopped_in d = record { carried = d.stopped_book; stops = d.stops }

-- what a turn has of its round, before which accounting stood so
pub record RoundDone (d : Desk) (heard : BillingState) (moment wall : ℕ) (items : List Item) (old new : PlantTold) (shards held : Shards) (pool : PlainView) (accounts : Accounts) (drops : Drops) (tally : Book) (told_is : RoundRecord) (opened : Bool) (kept : List Item) : Type 0 where
  pub round : Option Round
  pub is : RoundOf d moment items round
  pub shards_are : shards ≡ (after_round d items round).shards
  pub pool_is : pool ≡ (after_round d items round).pool
  pub lines_are : accounts.lines ≡ (after_round d items round).lines
  pub stopped_is : accounts.stopped ≡ stopped_in (after_round d items round)
  pub allows : Allows heard d.shards round
  pub formed : List FormedRecord
  pub forms : Forms heard formed accounts.billing
  pub of_round : FormsRecords d.shards moment wall round d.reports accounts.reports heard formed accounts.billing
  pub drops_are : drops ≡ (after_round d items round).drops
  pub tallies_are : tally ∷ [] ≡ (after_round d items round).tallies
  pub told : ExtendsPlant old new (round_stretch round)
  pub record_told : told_is ≡ round_told d moment wall items round
  pub loose_are : told_is.loose ≡ loose_of items round
  pub answers_are : untold held ≡ answers_of round
  pub opened_is : opened ≡ is_opened round
  pub kept_is : kept ≡ (after_round d items round).kept

abbrev accounts_of : Desk → BillingState → Accounts
accounts_of d heard = record { lines = d.lines; stopped = stopped_in d; billing = heard; reports = d.reports }

-- a round over shards is one over these shards at rest
states_rested : (vs : Shards) (xs : List (ShardView ShardState Handled)) → handled_states (map rested vs) xs ≡ handled_states vs xs
states_rested [] xs = refl
states_rested (v ∷ vs) [] = refl
states_rested (v ∷ vs) (x ∷ xs) = ap (λ (ss : List ShardState). after_journal pppoe v.state x.journal ∷ ss) (states_rested vs xs)

allowances_rested : (free n : ℕ) (vs : Shards) → map (allowance_of free n) (map rested vs) ≡ map (allowance_of free n) vs
allowances_rested free n [] = refl
allowances_rested free n (v ∷ vs) = ap (λ (ns : List ℕ). allowance_of free n v ∷ ns) (allowances_rested free n vs)

allows_rested : (b : BillingState) (vs : Shards) (round : Round) (shards : Shards) → shards ≡ map rested vs → Allows b vs (Some round) → Allows b shards (Some round)
allows_rested b vs round shards same allows =
    subst (λ (xs : Shards). Allows b xs (Some round)) (sym same)
    (allows ∙ sym (allowances_rested (free_in b) (length vs) vs) ∙ ap (λ (n : ℕ). map (allowance_of (free_in b) n) (map rested vs)) (sym (length-map vs rested)))

forms_more : (a b c : BillingState) (fs gs : List FormedRecord) → Forms a fs b → Forms b gs c → Forms a (fs ++ gs) c
forms_more a b c fs gs = chain_append (λ x (f : FormedRecord) y. IsFormedBy x f.status f.facts f.moment f.number y) a b c fs gs

pub round_done : (d : Desk) (heard : BillingState) (named : Named) (items : List Item) (p p' : PlantTold) (vs ws : Shards) (pool' : PlainView) (accounts' : Accounts) (drops' : Drops) (tally tally' : Book) (told_is : RoundRecord) (opened : Bool) (kept : List Item) → Holds d.rules d.pool pool' (accounts_of d heard) accounts' named items p p' vs ws d.drops drops' tally tally' told_is opened kept
    → d.shards ≡ map rested vs → d.tallies ≡ tally ∷ [] → named.number ≡ d.told + 1 → All AllTold vs → RoundDone d heard named.moment named.wall items p p' (map rested (map told_all ws)) ws pool' accounts' drops' tally' told_is opened kept
round_done d heard named items p p' vs ws pool' accounts' drops' tally tally' told_is opened kept (inl (opened_is, kept_is, h)) shards tallies number told =
    let same : map rested h.ready ≡ d.shards = kept_rested vs h.ready h.kept ∙ sym shards in
    let lists : List (List Item) = items ∷ [] in
    let states : handled_states h.ready h.held.round.shards ≡ handled_states d.shards h.held.round.shards =
    sym (states_rested h.ready h.held.round.shards) ∙ ap (λ (xs : Shards). handled_states xs h.held.round.shards) same in
    let live : List ShardState = map (λ (x : ShardView ShardState Handled). x.state) h.held.round.shards in
    let same_reports : h.held.started.reports ≡ d.reports = h.held.begins.reports_are ∙ h.held.ends.reports_are in
    record {
      round = Some h.held.round;
      is = subst (λ (bs : List Book). IsRound d.rules d.shards d.pool bs named.moment lists h.held.round) (sym tallies)
          (subst (λ (xs : Shards). IsRound d.rules xs d.pool (tally ∷ []) named.moment lists h.held.round) same (round_rested d.rules h.ready d.pool (tally ∷ []) named.moment lists h.held.round h.held.is));
      shards_are = left_rested ws h.held.round.shards h.held.shards_are;
      pool_is = sym h.held.pool_is;
      lines_are = h.held.reports.lines_are ∙ h.held.begins.lines_are ∙ h.held.ends.lines_are;
      stopped_is = h.held.reports.stopped_is ∙ h.held.begins.stopped_is ∙ h.held.ends.stopped_is;
      allows = allows_rested heard vs h.held.round d.shards shards h.allows;
      formed = h.held.ends.formed ++ (h.held.begins.formed ++ h.held.reports.formed);
      forms = forms_more heard h.held.mid.billing accounts'.billing h.held.ends.formed (h.held.begins.formed ++ h.held.reports.formed) h.held.ends.forms
          (forms_more h.held.mid.billing h.held.started.billing accounts'.billing h.held.begins.formed h.held.reports.formed h.held.begins.forms
          (interims_form (terms_in live) named.moment named.wall h.held.started.billing (owed_by named.moment h.held.round.shards h.held.started.reports) h.held.reports.formed accounts'.billing h.held.reports.forms));
      of_round = record {
        stops = h.held.ends.formed;
        starts = h.held.begins.formed;
        interims = h.held.reports.formed;
        are = refl;
        are_stops = subst (λ (ss : List ShardState). AllZip (IsStopOf (terms_in ss) named.moment named.wall) (stops_of h.held.round) h.held.ends.formed) states h.held.ends.are_stops;
        are_starts = subst (λ (ss : List ShardState). AllZip (IsStartOf (news_in ss) named.moment named.wall) (starts_of h.held.round) h.held.begins.formed) states h.held.begins.are_starts;
        started = h.held.started.billing;
        forms = forms_more heard h.held.mid.billing h.held.started.billing h.held.ends.formed h.held.begins.formed h.held.ends.forms h.held.begins.forms;
        reported = subst (λ (rs : List Reports). FormsInterims (terms_in live) named.moment named.wall h.held.started.billing (owed_by named.moment h.held.round.shards rs) h.held.reports.formed accounts'.billing) same_reports h.held.reports.forms;
        taken = subst (λ (rs : List Reports). Zip3 (TakesInterims named.moment) h.held.round.shards rs accounts'.reports) same_reports h.held.reports.taken;
      };
      drops_are = h.held.drops_are;
      tallies_are = sym h.held.tallies_are;
      told = h.held.told;
      record_told = h.held.record_told ∙ ap (λ (n : ℕ). record_of n named.moment named.wall lists h.held.round) number;
      loose_are = ap (λ (x : RoundRecord). x.loose) h.held.record_told;
      answers_are = untold_left ws h.held.round.shards h.held.shards_are ∙ answers_of_round h.ready h.held.round.shards h.held.is.turn.shards (told_kept vs h.ready h.kept told);
      opened_is = opened_is;
      kept_is = kept_is;
    }
round_done d heard named items p p' vs ws pool' accounts' drops' tally tally' told_is opened kept (inr (opened_is, kept_is, h)) shards tallies number told =
    let count : length vs ≡ length d.shards = sym (length-map vs rested) ∙ ap (λ (xs : Shards). length xs) (sym shards) in
    record {
      round = None;
      is = tt;
      shards_are = told_rested ws (recursion_from_All AllTold ws (told_kept vs ws h.kept told)) ∙ kept_rested vs ws h.kept ∙ sym shards;
      pool_is = h.pool_is;
      lines_are = ap (λ (a : Accounts). a.lines) h.accounts_are;
      stopped_is = ap (λ (a : Accounts). a.stopped) h.accounts_are;
      allows = tt;
      formed = [];
      forms = ap (λ (a : Accounts). a.billing) h.accounts_are;
      of_round = (refl, ap (λ (a : Accounts). a.reports) h.accounts_are, ap (λ (a : Accounts). a.billing) h.accounts_are);
      drops_are = h.drops_are;
      tallies_are = ap (λ (b : Book). let bs : List Book = b ∷ [] in bs) h.tally_is ∙ sym tallies;
      told = subst (λ (q : PlantTold). ExtendsPlant p q plant_none) (sym h.told) (plant_stays p);
      record_told = h.record_told ∙ ap (λ (n : ℕ). refused_record n named.moment named.wall (length vs) items) number ∙ ap (λ (n : ℕ). refused_record (d.told + 1) named.moment named.wall n items) count;
      loose_are = ap (λ (x : RoundRecord). x.loose) h.record_told;
      answers_are = untold_none vs ws h.kept told;
      opened_is = opened_is;
      kept_is = kept_is;
    }

-- a round changes no more than the shards, who holds an address, the lines, what all Stops say, the drops, the tallies and what stays
pub after_parts : (d : Desk) (items : List Item) (round : Option Round)
    → record d {
      shards = (after_round d items round).shards;
      pool = (after_round d items round).pool;
      lines = (after_round d items round).lines;
      stopped_book = (after_round d items round).stopped_book;
      stops = (after_round d items round).stops;
      drops = (after_round d items round).drops;
      tallies = (after_round d items round).tallies;
      kept = (after_round d items round).kept;
    }
    ≡ after_round d items round
after_parts d items None = refl
after_parts d items (Some round) = refl

abbrev with_round : Desk → Shards → PlainView → List CircuitLine → Stopped → Drops → List Book → List Item → Desk
with_round d shards pool lines stopped drops tallies kept = record d { shards = shards; pool = pool; lines = lines; stopped_book = stopped.carried; stops = stopped.stops; drops = drops; tallies = tallies; kept = kept }

-- the desk after its round, from its parts
module _ (d : Desk) (items : List Item) (round : Option Round) (shards : Shards) (pool : PlainView) (lines : List CircuitLine) (stopped : Stopped) (drops : Drops) (tallies : List Book) (kept : List Item) where
  pub is_after_round : shards ≡ (after_round d items round).shards → pool ≡ (after_round d items round).pool → lines ≡ (after_round d items round).lines → stopped ≡ stopped_in (after_round d items round) → drops ≡ (after_round d items round).drops → tallies ≡ (after_round d items round).tallies → kept ≡ (after_round d items round).kept
      → record d { shards = shards; pool = pool; lines = lines; stopped_book = stopped.carried; stops = stopped.stops; drops = drops; tallies = tallies; kept = kept } ≡ after_round d items round
  is_after_round shards_are pool_is lines_are stopped_is drops_are tallies_are kept_is =
      let r = after_round d items round in
      ap (λ (xs : Shards). with_round d xs pool lines stopped drops tallies kept) shards_are
      ∙ ap (λ (hs : PlainView). with_round d r.shards hs lines stopped drops tallies kept) pool_is
      ∙ ap (λ (ls : List CircuitLine). with_round d r.shards r.pool ls stopped drops tallies kept) lines_are
      ∙ ap (λ (t : Stopped). with_round d r.shards r.pool r.lines t drops tallies kept) stopped_is
      ∙ ap (λ (y : Drops). with_round d r.shards r.pool r.lines (stopped_in r) y tallies kept) drops_are
      ∙ ap (λ (bs : List Book). with_round d r.shards r.pool r.lines (stopped_in r) r.drops bs kept) tallies_are
      ∙ ap (λ (is : List Item). with_round d r.shards r.pool r.lines (stopped_in r) r.drops r.tallies is) kept_is
      ∙ after_parts d items round

-- the phases of a turn, one after the other
pub phases : (d : Desk) (t : Turn) (p₀ p₁ p₂ p₃ p₄ p₅ p₆ : PlantTold) → ExtendsPlant p₀ p₁ (control_stretch (stats_text d) t.control t.control_end) → ExtendsPlant p₁ p₂ (reading_stretch (acct_reading t.acknowledged t.acct_end))
    → ExtendsPlant p₂ p₃ (asked_stretch t.requested t.coa_end) → ExtendsPlant p₃ p₄ (plant_joined (auth_stretch t.answers t.auth_end) (data_stretch t.readings))
    → ExtendsPlant p₄ p₅ (plant_joined (round_stretch t.round) (plant_joined (coa_stretch (coa_sends t.replies)) (plant_joined (requests_stretch d.lane.client.auth_server t.requests) (records_stretch d.billing.client.acct_server t.records))))
    → ExtendsPlant p₅ p₆ (waiting_stretch (is_idle t && t.noted) (wait_for (earliest (deadline_in (after d t).shards) (earliest t.deadline t.record_deadline)) t.moment)) → ExtendsPlant p₀ p₆ (plant_stretch d t)
phases d t p₀ p₁ p₂ p₃ p₄ p₅ p₆ control acct coa readings settlement waiting =
    let w = waiting_stretch (is_idle t && t.noted) (wait_for (earliest (deadline_in (after d t).shards) (earliest t.deadline t.record_deadline)) t.moment) in
    let r = round_stretch t.round in
    let s = coa_stretch (coa_sends t.replies) in
    let q = requests_stretch d.lane.client.auth_server t.requests in
    let b = records_stretch d.billing.client.acct_server t.records in
    let told = auth_stretch t.answers t.auth_end in
    let rs = data_stretch t.readings in
    let rest = plant_joined r (plant_joined s (plant_joined q (plant_joined b w))) in
    let after_readings : ExtendsPlant p₄ p₆ rest =
    subst (λ (x : PlantStretch). ExtendsPlant p₄ p₆ x) (plant_assoc r (plant_joined s (plant_joined q b)) w ∙ ap (plant_joined r) (plant_assoc s (plant_joined q b) w ∙ ap (plant_joined s) (plant_assoc q b w)))
    (plant_more p₄ p₅ p₆ (plant_joined r (plant_joined s (plant_joined q b))) w settlement waiting) in
    let after_coa : ExtendsPlant p₃ p₆ (plant_joined told (plant_joined rs rest)) =
    subst (λ (x : PlantStretch). ExtendsPlant p₃ p₆ x) (plant_assoc told rs rest) (plant_more p₃ p₄ p₆ (plant_joined told rs) rest readings after_readings) in
    let c = asked_stretch t.requested t.coa_end in
    let a = reading_stretch (acct_reading t.acknowledged t.acct_end) in
    let after_acct = plant_more p₂ p₃ p₆ c (plant_joined told (plant_joined rs rest)) coa after_coa in
    plant_more p₀ p₁ p₆ (control_stretch (stats_text d) t.control t.control_end) (plant_joined a (plant_joined c (plant_joined told (plant_joined rs rest)))) control
    (plant_more p₁ p₂ p₆ a (plant_joined c (plant_joined told (plant_joined rs rest))) acct after_acct)
