-- What a run did with accounting, from its turns.
use Rattle.std.proofs.Common.{◌≡◌, ℕ, Bool, true, false, List, [], ◌∷◌, ◌++◌, map, Option, Some, None, refl, sym, ap, subst, ◌∙◌, append-nil, append_assoc}
use Rattle.std.specs.Prelude.{zip}
use Rattle.std.specs.List.{AllByRecursion, AllZip, flat_map}
use Rattle.std.proofs.lemmas.List.Concat.{flat_map-append}
use Rattle.std.proofs.lemmas.List.Folds.{flat_map-map}
use Rattle.bng_base.specs.declared.address.Peer.{Peer}
use Rattle.bng_base.specs.declared.item.Entry.{Entry}
use Rattle.bng_base.specs.declared.outside.Datagram.{Datagram}
use Rattle.bng_base.specs.declared.outside.Role.TheVariants.{Acct}
use Rattle.bng_base.specs.Chain.{Chain}
use Rattle.bng_base.proofs.ChainLaws.{chain_append, chain_keeps}
use Rattle.bng_billing.specs.Calls.{BillingCall, Formed, Given, Again, Told, Heard, Stopped, Does}
use Rattle.bng_billing.specs.State.{BillingState}
use Rattle.bng_billing.proofs.Following.{answers_of}
use Rattle.bng_config.specs.declared.config.Config.{Config}
use Rattle.bng_engine.specs.Histories.{ShardTurn}
use Rattle.bng_engine.specs.Laws.{sends_of}
use Rattle.bng_engine.specs.Lists.{AnyOf}
use Rattle.bng_engine.specs.Terms.{Key, Stop}
use Rattle.bng_engine.specs.Views.{DeskView, ShardView, turn_in}
use Rattle.bng_engine.proofs.Everywhere.{all_weaker}
use Rattle.bng_lane.specs.Sends.{LaneSend}
use Rattle.bng_steps.specs.Interims.{Reports}
use Rattle.bng_steps.specs.Protocol.{ShardState, Handled}
use Rattle.bng_steps.specs.Tenures.{Tenure}
use Rattle.bng_desk.specs.Accounting.{Acknowledged, FormedRecord, IsStartOf, IsStopOf, RecordRequests, RecordSend, record_datagram, record_sends}
use Rattle.bng_desk.specs.Model.{Desk, has_ended}
use Rattle.bng_desk.specs.Opening.{IsOpened, billing_rules}
use Rattle.bng_desk.specs.Reading.{taken_in}
use Rattle.bng_desk.specs.Round.{Round, handled_states, news_in, starts_of, stops_of, terms_in}
use Rattle.bng_desk.specs.Turn.{Turn, Step, AreOfRound, FormsRecords, after_end}
use Rattle.bng_gate.specs.Granted.{Stage, stage_in, end_stage_in, stages_of}
use Rattle.bng_gate.specs.Recorded.{Recorded, SaysRound, SaysStart, SaysStop, SayRounds, formed_in, end_formed_in, formed_of, formed_call, heard_call, again_calls, given_calls, request_calls, calls_in, stopped_if, end_calls_in, calls_of, sent_by_calls, taken_for}
use Rattle.bng_gate.specs.Rounds.{plant_of, round_in, end_round_in, rounds_of, turns_of}
use Rattle.bng_gate.specs.Serving.{Made, MadeEnd, Late, Ends, Waits, LateStep, Run, EndRun}
use Rattle.bng_gate.proofs.Calling.{ending_calls, forms_calls, made_calls, run_calls, step_calls}
use Rattle.bng_gate.proofs.Follows.{Follows, end_follows, step_follows}
use Rattle.bng_gate.proofs.Going.{Stands, any_left, none_stands, round_stands, round_turns, view_beside}
use Rattle.bng_gate.proofs.OnAcct.{IsElse, stages_recorded}
use Rattle.bng_gate.proofs.Reporting.{IsOfRows, ReportTurn, round_reports}
use Rattle.bng_gate.proofs.Staging.{stages_acknowledged}

-- The records of the rounds ---------------------------------------------------------------------------------------------------------

each_said : {X : Type 0} (P Q : X → FormedRecord → Type 0) → ((x : X) (f : FormedRecord) → P x f → Q x f) → (xs : List X) (fs : List FormedRecord) → AllZip P xs fs → AllZip Q xs fs
each_said P Q say [] [] h = tt
each_said P Q say [] (f ∷ fs) h = absurd h
each_said P Q say (x ∷ xs) [] h = absurd h
each_said P Q say (x ∷ xs) (f ∷ fs) h = (say x f h.0, each_said P Q say xs fs h.1)

stop_said : (terms : List Tenure) (moment wall : ℕ) (s : Stop) (f : FormedRecord) → IsStopOf terms moment wall s f → SaysStop s f
stop_said terms moment wall s f is = record {
  status = is.status;
  term = is.facts.term;
  circuit = is.facts.circuit;
  address = is.facts.address;
  carried = is.facts.carried;
  cause = ap (λ m. m.cause) is.at;
}

start_said : (terms : List Tenure) (moment wall : ℕ) (k : Key) (f : FormedRecord) → IsStartOf terms moment wall k f → SaysStart k f
start_said terms moment wall k f is = record {
  status = is.status;
  term = is.facts.term;
  circuit = is.facts.circuit;
  address = is.facts.address;
  carried = is.facts.carried;
}

-- the records of a round are of its Stops and Starts as the engine lists them, and then its Interims
round_said : (shards : List (ShardView ShardState Entry)) (moment wall : ℕ) (round : Round) (reports reports' : List Reports) (b : BillingState) (formed : List FormedRecord) (b' : BillingState)
    → (is : AreOfRound shards moment wall round reports reports' b formed b') → SaysRound (map turn_in round.shards) is.interims formed
round_said shards moment wall round reports reports' b formed b' is =
    let states = handled_states shards round.shards in
    record {
      stops = is.stops;
      starts = is.starts;
      are = is.are;
      are_stops = subst (λ (ss : List Stop). AllZip SaysStop ss is.stops) (sym (flat_map-map (λ (t : ShardTurn Handled). t.settlement.stops) turn_in round.shards))
          (each_said (IsStopOf (terms_in states) moment wall) SaysStop (stop_said (terms_in states) moment wall) (stops_of round) is.stops is.are_stops);
      are_starts = subst (λ (ks : List Key). AllZip SaysStart ks is.starts) (sym (flat_map-map (λ (t : ShardTurn Handled). t.settlement.starts) turn_in round.shards))
          (each_said (IsStartOf (news_in states) moment wall) SaysStart (start_said (news_in states) moment wall) (starts_of round) is.starts is.are_starts);
    }

-- What the records of these rounds say, with the Interims of each; the rounds are turns of the engine that lead to this desk.
pub record Said (v : DeskView ShardState Handled) (rounds : List (List (ShardTurn Handled))) (formed : List FormedRecord) (last : Desk) : Type 0 where
  pub interims : List (List FormedRecord)
  pub say : SayRounds rounds interims formed
  pub view : DeskView ShardState Handled
  pub turns : Chain ReportTurn v (zip rounds interims) view
  pub stands : Stands view last

-- wherever a desk stands
abbrev SaidFrom : Desk → List (List (ShardTurn Handled)) → List FormedRecord → Desk → Type 0
SaidFrom d rounds formed last = (v : DeskView ShardState Handled) → Stands v d → Said v rounds formed last

module _ (last : Desk) where
  -- before the records of these rounds, those of one more
  round_first : (d d' : Desk) (round : Option Round) → Follows d round d' → (moment wall : ℕ) (reports reports' : List Reports) (b : BillingState) (formed : List FormedRecord) (b' : BillingState)
      → FormsRecords d.shards moment wall round reports reports' b formed b' → (rounds : List (List (ShardTurn Handled))) (rest : List FormedRecord) → SaidFrom d' rounds rest last → SaidFrom d (turns_of round ++ rounds) (formed ++ rest) last
  round_first d d' None follows moment wall reports reports' b formed b' none rounds rest later v stands =
      subst (λ (fs : List FormedRecord). Said v rounds (fs ++ rest) last) (sym none.0) (later v (none_stands v d d' stands follows))
  round_first d d' (Some round) follows moment wall reports reports' b formed b' of_round rounds rest later v stands =
      let mid = view_beside v round in
      let said = later mid (round_stands v d d' round stands follows) in
      let reported = round_reports d.shards moment wall round reports reports' b formed b' of_round in
      let seen = all_weaker (λ f. AnyOf (IsOfRows f) round.shards) (λ f. AnyOf (IsOfRows f) mid.shards) (λ f. any_left (IsOfRows f) (λ u w h. h) v d round stands follows.is_round) of_round.interims reported in
      record {
        interims = of_round.interims ∷ said.interims;
        say = (formed, rest, refl, round_said d.shards moment wall round reports reports' b formed b' of_round, said.say);
        view = said.view;
        turns = (mid, record { turn = round_turns v d round stands follows.is_round; reported = seen }, said.turns);
        stands = said.stands;
      }

  step_says : (d d' : Desk) (t : Option Turn) → Step d t d' → (rounds : List (List (ShardTurn Handled))) (rest : List FormedRecord) → SaidFrom d' rounds rest last → SaidFrom d (turns_of (round_in t) ++ rounds) (formed_in t ++ rest) last
  step_says d d' None step rounds rest later v stands = later v (none_stands v d d' stands (step_follows d d' None step))
  step_says d d' (Some t) step rounds rest later v stands =
      let by = step.3 in
      round_first d d' t.round (step_follows d d' (Some t) step) t.moment t.wall d.reports t.reports by.heard t.formed by.booked by.of_round rounds rest later v stands

  end_says : (d d' : Desk) (t : Late) → LateStep d t d' → (rounds : List (List (ShardTurn Handled))) (rest : List FormedRecord) → SaidFrom d' rounds rest last → SaidFrom d (turns_of (end_round_in t) ++ rounds) (end_formed_in t ++ rest) last
  end_says d d' (Ends None) step rounds rest later v stands = later v (none_stands v d d' stands (end_follows d d' (Ends None) step))
  end_says d d' (Waits t) step rounds rest later v stands = later v (none_stands v d d' stands (end_follows d d' (Waits t) step))
  end_says d d' (Ends (Some t)) step rounds rest later v stands =
      let by = step.3 in
      round_first d d' t.round (end_follows d d' (Ends (Some t)) step) t.moment t.wall d.reports t.reports d.billing t.formed by.booked by.of_round rounds rest later v stands

  run_says : (d d' : Desk) (turns : List Made) → Run d turns d' → (rounds : List (Option Round)) (rest : List FormedRecord) → SaidFrom d' (flat_map turns_of rounds) rest last
      → SaidFrom d (flat_map turns_of (map (λ m. round_in m.turn) turns ++ rounds)) (flat_map (λ m. formed_in m.turn) turns ++ rest) last
  run_says d d' [] run rounds rest later v stands = later v (subst (Stands v) (sym run) stands)
  run_says d d' (m ∷ turns) run rounds rest later v stands =
      let after = map (λ (x : Made). round_in x.turn) turns ++ rounds in
      let formed = flat_map (λ (x : Made). formed_in x.turn) turns in
      subst (λ (fs : List FormedRecord). Said v (turns_of (round_in m.turn) ++ flat_map turns_of after) fs last) (sym (append_assoc (formed_in m.turn) formed rest))
      (step_says d run.0 m.turn run.1.1 (flat_map turns_of after) (formed ++ rest) (run_says run.0 d' turns run.2 rounds rest later) v stands)

  ending_says : (d : Desk) (endings : List MadeEnd) → EndRun d endings last → SaidFrom d (flat_map turns_of (map (λ m. end_round_in m.turn) endings)) (flat_map (λ m. end_formed_in m.turn) endings) last
  ending_says d [] run v stands = record { interims = []; say = refl; view = v; turns = refl; stands = subst (Stands v) (sym run) stands }
  ending_says d (m ∷ endings) run v stands =
      end_says d run.0 m.turn run.1.1 (flat_map turns_of (map (λ (x : MadeEnd). end_round_in x.turn) endings)) (flat_map (λ (x : MadeEnd). end_formed_in x.turn) endings)
      (ending_says run.0 endings run.2) v stands

pub all_said : (d over last : Desk) (turns : List Made) (endings : List MadeEnd) → Run d turns over → EndRun over endings last → SaidFrom d (rounds_of turns endings) (formed_of turns endings) last
all_said d over last turns endings run ending =
    run_says last d over turns run (map (λ (m : MadeEnd). end_round_in m.turn) endings) (flat_map (λ (m : MadeEnd). end_formed_in m.turn) endings) (ending_says last over endings ending)

-- What was sent --------------------------------------------------------------------------------------------------------------------

-- the server stays the one that accounting was opened for
does_server : (b b' : BillingState) (c : BillingCall) → Does b c b' → b'.client.acct_server ≡ b.client.acct_server
does_server b b' (Formed status facts moment n) h = ap (λ (x : BillingState). x.client.acct_server) h.others
does_server b b' (Given now n id octets) h = ap (λ (x : BillingState). x.client.acct_server) h.others
does_server b b' (Again now id octets) h = ap (λ (x : BillingState). x.client.acct_server) h.others
does_server b b' (Told id sent) h = ap (λ (x : BillingState). x.client.acct_server) h
does_server b b' (Heard from octets None) h = ap (λ (x : BillingState). x.client.acct_server) h.1
does_server b b' (Heard from octets (Some n)) h = ap (λ (x : BillingState). x.client.acct_server) h.others
does_server b b' Stopped h = ap (λ (x : BillingState). x.client.acct_server) h.others

abbrev IsAt : Peer → BillingState → Type 0
IsAt server b = b.client.acct_server ≡ server

stays_at : (server : Peer) (b b' : BillingState) (cs : List BillingCall) → Chain Does b cs b' → IsAt server b → IsAt server b'
stays_at server b b' cs run is = chain_keeps Does (IsAt server) (λ s s' c h k. does_server s s' c h ∙ k) b b' cs run is

module _ (server : Peer) where
  formed_sends : (fs : List FormedRecord) (rest : List BillingCall) → sent_by_calls server (map formed_call fs ++ rest) ≡ sent_by_calls server rest
  formed_sends [] rest = refl
  formed_sends (f ∷ fs) rest = formed_sends fs rest

  heard_sends : (as' : List Acknowledged) (rest : List BillingCall) → sent_by_calls server (map heard_call as' ++ rest) ≡ sent_by_calls server rest
  heard_sends [] rest = refl
  heard_sends (a ∷ as') rest = heard_sends as' rest

  again_sends : (moment : ℕ) (ss : List LaneSend) (rest : List BillingCall) → sent_by_calls server (flat_map (again_calls moment) ss ++ rest) ≡ flat_map (record_datagram server) ss ++ sent_by_calls server rest
  again_sends moment [] rest = refl
  again_sends moment (s ∷ ss) rest =
      ap (λ (ds : List Datagram). record_datagram server s ++ ds) (again_sends moment ss rest)
      ∙ sym (append_assoc (record_datagram server s) (flat_map (record_datagram server) ss) (sent_by_calls server rest))

  abbrev send_in : RecordSend → LaneSend
  send_in r = r.send

  given_sends : (moment : ℕ) (rs : List RecordSend) (rest : List BillingCall) → sent_by_calls server (flat_map (given_calls moment) rs ++ rest) ≡ flat_map (record_datagram server) (map send_in rs) ++ sent_by_calls server rest
  given_sends moment [] rest = refl
  given_sends moment (r ∷ rs) rest =
      ap (λ (ds : List Datagram). record_datagram server r.send ++ ds) (given_sends moment rs rest)
      ∙ sym (append_assoc (record_datagram server r.send) (flat_map (record_datagram server) (map send_in rs)) (sent_by_calls server rest))

  request_sends : (moment : ℕ) (q : RecordRequests) (rest : List BillingCall) → sent_by_calls server (request_calls moment q ++ rest) ≡ flat_map (record_datagram server) (record_sends q) ++ sent_by_calls server rest
  request_sends moment q rest =
      let first = flat_map (record_datagram server) q.again in
      let then = flat_map (record_datagram server) (map send_in q.given) in
      ap (sent_by_calls server) (append_assoc (flat_map (again_calls moment) q.again) (flat_map (given_calls moment) q.given) rest)
      ∙ again_sends moment q.again (flat_map (given_calls moment) q.given ++ rest)
      ∙ ap (λ (ds : List Datagram). first ++ ds) (given_sends moment q.given rest)
      ∙ sym (append_assoc first then (sent_by_calls server rest))
      ∙ ap (λ (ds : List Datagram). ds ++ sent_by_calls server rest) (sym (flat_map-append (record_datagram server) q.again (map send_in q.given)))

  booked_sends : (moment : ℕ) (fs : List FormedRecord) (q : RecordRequests) (rest : List BillingCall)
      → sent_by_calls server (map formed_call fs ++ request_calls moment q ++ rest) ≡ flat_map (record_datagram server) (record_sends q) ++ sent_by_calls server rest
  booked_sends moment fs q rest =
      ap (sent_by_calls server) (append_assoc (map formed_call fs) (request_calls moment q) rest)
      ∙ formed_sends fs (request_calls moment q ++ rest)
      ∙ request_sends moment q rest

  turn_sends : (d : Desk) (t : Option Turn) (rest : List BillingCall) → IsAt server d.billing → sent_by_calls server (calls_in t ++ rest) ≡ (stage_in d t).records ++ sent_by_calls server rest
  turn_sends d None rest is = refl
  turn_sends d (Some t) rest is =
      let settled = map formed_call t.formed ++ request_calls t.moment t.records in
      ap (sent_by_calls server) (append_assoc (map heard_call t.acknowledged) settled rest)
      ∙ heard_sends t.acknowledged (settled ++ rest)
      ∙ booked_sends t.moment t.formed t.records rest
      ∙ ap (λ (p : Peer). flat_map (record_datagram p) (record_sends t.records) ++ sent_by_calls server rest) (sym is)

  stopped_sends : (none_left : Bool) (rest : List BillingCall) → sent_by_calls server (stopped_if none_left ++ rest) ≡ sent_by_calls server rest
  stopped_sends false rest = refl
  stopped_sends true rest = refl

  end_sends : (d : Desk) (t : Late) (rest : List BillingCall) → IsAt server d.billing → sent_by_calls server (end_calls_in d t ++ rest) ≡ (end_stage_in d t).records ++ sent_by_calls server rest
  end_sends d (Ends None) rest is = refl
  end_sends d (Ends (Some t)) rest is =
      let stopped = stopped_if (has_ended (after_end d t)) in
      let requests = request_calls t.moment t.records in
      ap (sent_by_calls server) (append_assoc (map formed_call t.formed) (requests ++ stopped) rest)
      ∙ formed_sends t.formed ((requests ++ stopped) ++ rest)
      ∙ ap (sent_by_calls server) (append_assoc requests stopped rest)
      ∙ request_sends t.moment t.records (stopped ++ rest)
      ∙ ap (λ (ds : List Datagram). flat_map (record_datagram server) (record_sends t.records) ++ ds) (stopped_sends (has_ended (after_end d t)) rest)
      ∙ ap (λ (p : Peer). flat_map (record_datagram p) (record_sends t.records) ++ sent_by_calls server rest) (sym is)
  end_sends d (Waits t) rest is =
      let requests = request_calls t.moment t.records in
      ap (sent_by_calls server) (append_assoc (map heard_call t.acknowledged) requests rest)
      ∙ heard_sends t.acknowledged (requests ++ rest)
      ∙ request_sends t.moment t.records rest
      ∙ ap (λ (p : Peer). flat_map (record_datagram p) (record_sends t.records) ++ sent_by_calls server rest) (sym is)

  abbrev records_in : Stage → List Datagram
  records_in s = s.records

  run_sends : (d d' : Desk) (turns : List Made) (rest : List BillingCall) → Run d turns d' → IsAt server d.billing
      → sent_by_calls server (flat_map (λ m. calls_in m.turn) turns ++ rest) ≡ flat_map records_in (map (λ m. stage_in m.desk m.turn) turns) ++ sent_by_calls server rest
  run_sends d d' [] rest run is = refl
  run_sends d d' (m ∷ turns) rest run is =
      let later = flat_map (λ (x : Made). calls_in x.turn) turns in
      let stages = flat_map records_in (map (λ (x : Made). stage_in x.desk x.turn) turns) in
      ap (sent_by_calls server) (append_assoc (calls_in m.turn) later rest)
      ∙ turn_sends m.desk m.turn (later ++ rest) (subst (λ (x : Desk). IsAt server x.billing) (sym run.1.0) is)
      ∙ ap (λ (ds : List Datagram). (stage_in m.desk m.turn).records ++ ds) (run_sends run.0 d' turns rest run.2 (stays_at server d.billing run.0.billing (calls_in m.turn) (step_calls d run.0 m.turn run.1.1) is))
      ∙ sym (append_assoc (stage_in m.desk m.turn).records stages (sent_by_calls server rest))

  ending_sends : (d d' : Desk) (endings : List MadeEnd) → EndRun d endings d' → IsAt server d.billing
      → sent_by_calls server (flat_map (λ m. end_calls_in m.desk m.turn) endings) ≡ flat_map records_in (map (λ m. end_stage_in m.desk m.turn) endings)
  ending_sends d d' [] run is = refl
  ending_sends d d' (m ∷ endings) run is =
      let later = flat_map (λ (x : MadeEnd). end_calls_in x.desk x.turn) endings in
      end_sends m.desk m.turn later (subst (λ (x : Desk). IsAt server x.billing) (sym run.1.0) is)
      ∙ ap (λ (ds : List Datagram). (end_stage_in m.desk m.turn).records ++ ds) (ending_sends run.0 d' endings run.2 (stays_at server d.billing run.0.billing (end_calls_in m.desk m.turn) (made_calls d run.0 m run.1.0 run.1.1) is))

  all_sends : (starts : List FormedRecord) (d over last : Desk) (turns : List Made) (endings : List MadeEnd) → Run d turns over → EndRun over endings last → IsAt server d.billing
      → flat_map records_in (stages_of turns endings) ≡ sent_by_calls server (calls_of starts turns endings)
  all_sends starts d over last turns endings run ending is =
      let serving = map (λ (m : Made). stage_in m.desk m.turn) turns in
      let closing = map (λ (m : MadeEnd). end_stage_in m.desk m.turn) endings in
      let calls = flat_map (λ (m : Made). calls_in m.turn) turns in
      let closes = flat_map (λ (m : MadeEnd). end_calls_in m.desk m.turn) endings in
      flat_map-append records_in serving closing
      ∙ ap (λ (ds : List Datagram). flat_map records_in serving ++ ds) (sym (ending_sends over last endings ending (stays_at server d.billing over.billing calls (run_calls d over turns run) is)))
      ∙ sym (run_sends d over turns closes run is)
      ∙ sym (formed_sends starts (calls ++ closes))

-- What was taken -------------------------------------------------------------------------------------------------------------------

formed_takes : (fs : List FormedRecord) → flat_map taken_for (map formed_call fs) ≡ []
formed_takes [] = refl
formed_takes (f ∷ fs) = formed_takes fs

heard_takes : (as' : List Acknowledged) → flat_map taken_for (map heard_call as') ≡ taken_in Acct (map (λ a. a.arrival) as')
heard_takes [] = refl
heard_takes (a ∷ as') = ap (λ (ds : List Datagram). record { role = Acct; peer = a.arrival.from; octets = a.arrival.octets } ∷ ds) (heard_takes as')

again_takes : (moment : ℕ) (ss : List LaneSend) → flat_map taken_for (flat_map (again_calls moment) ss) ≡ []
again_takes moment [] = refl
again_takes moment (s ∷ ss) = again_takes moment ss

given_takes : (moment : ℕ) (rs : List RecordSend) → flat_map taken_for (flat_map (given_calls moment) rs) ≡ []
given_takes moment [] = refl
given_takes moment (r ∷ rs) = given_takes moment rs

request_takes : (moment : ℕ) (q : RecordRequests) → flat_map taken_for (request_calls moment q) ≡ []
request_takes moment q =
    let again = flat_map (again_calls moment) q.again in
    let given = flat_map (given_calls moment) q.given in
    flat_map-append taken_for again given
    ∙ ap (λ (ds : List Datagram). ds ++ flat_map taken_for given) (again_takes moment q.again)
    ∙ given_takes moment q.given

booked_takes : (fs : List FormedRecord) (rest : List BillingCall) → flat_map taken_for rest ≡ [] → flat_map taken_for (map formed_call fs ++ rest) ≡ []
booked_takes fs rest none =
    flat_map-append taken_for (map formed_call fs) rest
    ∙ ap (λ (ds : List Datagram). ds ++ flat_map taken_for rest) (formed_takes fs)
    ∙ none

-- what is heard is taken, and nothing after it
heard_first : (as' : List Acknowledged) (rest : List BillingCall) → flat_map taken_for rest ≡ [] → flat_map taken_for (map heard_call as' ++ rest) ≡ taken_in Acct (map (λ a. a.arrival) as')
heard_first as' rest none =
    let arrivals = map (λ (a : Acknowledged). a.arrival) as' in
    flat_map-append taken_for (map heard_call as') rest
    ∙ ap (λ (ds : List Datagram). ds ++ flat_map taken_for rest) (heard_takes as')
    ∙ ap (λ (ds : List Datagram). taken_in Acct arrivals ++ ds) none
    ∙ append-nil (taken_in Acct arrivals)

turn_takes : (d : Desk) (t : Option Turn) → flat_map taken_for (calls_in t) ≡ (stage_in d t).acknowledged
turn_takes d None = refl
turn_takes d (Some t) =
    let requests = request_calls t.moment t.records in
    heard_first t.acknowledged (map formed_call t.formed ++ requests) (booked_takes t.formed requests (request_takes t.moment t.records))

stopped_takes : (none_left : Bool) → flat_map taken_for (stopped_if none_left) ≡ []
stopped_takes false = refl
stopped_takes true = refl

end_takes : (d : Desk) (t : Late) → flat_map taken_for (end_calls_in d t) ≡ (end_stage_in d t).acknowledged
end_takes d (Ends None) = refl
end_takes d (Ends (Some t)) =
    let stopped = stopped_if (has_ended (after_end d t)) in
    let requests = request_calls t.moment t.records in
    booked_takes t.formed (requests ++ stopped)
    (flat_map-append taken_for requests stopped
    ∙ ap (λ (ds : List Datagram). ds ++ flat_map taken_for stopped) (request_takes t.moment t.records)
    ∙ stopped_takes (has_ended (after_end d t)))
end_takes d (Waits t) = heard_first t.acknowledged (request_calls t.moment t.records) (request_takes t.moment t.records)

abbrev acknowledged_in : Stage → List Datagram
acknowledged_in s = s.acknowledged

run_takes : (turns : List Made) → flat_map taken_for (flat_map (λ m. calls_in m.turn) turns) ≡ flat_map acknowledged_in (map (λ m. stage_in m.desk m.turn) turns)
run_takes [] = refl
run_takes (m ∷ turns) =
    let later = flat_map (λ (x : Made). calls_in x.turn) turns in
    flat_map-append taken_for (calls_in m.turn) later
    ∙ ap (λ (ds : List Datagram). ds ++ flat_map taken_for later) (turn_takes m.desk m.turn)
    ∙ ap (λ (ds : List Datagram). (stage_in m.desk m.turn).acknowledged ++ ds) (run_takes turns)

ending_takes : (endings : List MadeEnd) → flat_map taken_for (flat_map (λ m. end_calls_in m.desk m.turn) endings) ≡ flat_map acknowledged_in (map (λ m. end_stage_in m.desk m.turn) endings)
ending_takes [] = refl
ending_takes (m ∷ endings) =
    let later = flat_map (λ (x : MadeEnd). end_calls_in x.desk x.turn) endings in
    flat_map-append taken_for (end_calls_in m.desk m.turn) later
    ∙ ap (λ (ds : List Datagram). ds ++ flat_map taken_for later) (end_takes m.desk m.turn)
    ∙ ap (λ (ds : List Datagram). (end_stage_in m.desk m.turn).acknowledged ++ ds) (ending_takes endings)

all_takes : (starts : List FormedRecord) (turns : List Made) (endings : List MadeEnd) → flat_map acknowledged_in (stages_of turns endings) ≡ flat_map taken_for (calls_of starts turns endings)
all_takes starts turns endings =
    let serving = map (λ (m : Made). stage_in m.desk m.turn) turns in
    let closing = map (λ (m : MadeEnd). end_stage_in m.desk m.turn) endings in
    let calls = flat_map (λ (m : Made). calls_in m.turn) turns in
    let closes = flat_map (λ (m : MadeEnd). end_calls_in m.desk m.turn) endings in
    flat_map-append acknowledged_in serving closing
    ∙ sym (flat_map-append taken_for (map formed_call starts) (calls ++ closes)
    ∙ ap (λ (ds : List Datagram). ds ++ flat_map taken_for (calls ++ closes)) (formed_takes starts)
    ∙ flat_map-append taken_for calls closes
    ∙ ap (λ (ds : List Datagram). ds ++ flat_map taken_for closes) (run_takes turns)
    ∙ ap (λ (ds : List Datagram). flat_map acknowledged_in serving ++ ds) (ending_takes endings))

-- All turns ------------------------------------------------------------------------------------------------------------------------

pub recorded_of : (config : Config) (rounds : ℕ) (seed : List ℕ) (now wall : ℕ) (opening over last : Desk) (turns : List Made) (endings : List MadeEnd) → (is : IsOpened config rounds seed now wall opening) → Run opening turns over → EndRun over endings last
    → AllByRecursion IsElse (sends_of (rounds_of turns endings)) → (interims : List (List FormedRecord)) → SayRounds (rounds_of turns endings) interims (formed_of turns endings)
    → (r : Recorded config wall is.starts turns endings last (plant_of turns endings).taken (plant_of turns endings).sent) × (r.interims ≡ interims)
recorded_of config rounds seed now wall opening over last turns endings is run ending elsewhere interims say =
    let first = map formed_call is.starts in
    let calls = flat_map (λ (m : Made). calls_in m.turn) turns in
    let closes = flat_map (λ (m : MadeEnd). end_calls_in m.desk m.turn) endings in
    let from : opening.billing ≡ is.billing = ap (λ (d : Desk). d.billing) is.desk in
    let starts : Chain Does is.new_billing first opening.billing = subst (Chain Does is.new_billing first) (sym from) (forms_calls is.new_billing is.billing is.starts is.forms) in
    let chain : Chain Does is.new_billing (calls_of is.starts turns endings) last.billing =
    chain_append Does is.new_billing opening.billing last.billing first (calls ++ closes) starts
    (chain_append Does opening.billing over.billing last.billing calls closes (run_calls opening over turns run) (ending_calls over last endings ending)) in (
      record {
        opened = is.new_billing;
        is_new = is.is_new;
        calls = chain;
        interims = interims;
        formed = say;
        requests = stages_recorded turns endings elsewhere ∙ all_sends config.acct_server is.starts opening over last turns endings run ending (stays_at config.acct_server is.new_billing opening.billing first starts is.is_new.client.acct_server);
        heard = stages_acknowledged opening over turns endings run ∙ all_takes is.starts turns endings;
        answered = answers_of (billing_rules config wall) is.new_billing last.billing (calls_of is.starts turns endings) is.is_new chain;
      },
      refl,
    )
