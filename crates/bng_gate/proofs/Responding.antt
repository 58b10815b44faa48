-- No request for a change is left without an answer; and all that a run did with them.
use Rattle.std.proofs.Common.{◌≡◌, ℕ, zero, suc, ◌+◌, ◌==◌, ◌||◌, Bool, true, false, List, [], ◌∷◌, ◌++◌, map, take, Option, Some, None, slice_get, refl, sym, ap, subst, ◌∙◌, append-nil, arith}
use Rattle.std.specs.List.{AllByRecursion, flat_map}
use Rattle.std.proofs.lemmas.Bool.{and_parts, false≢true}
use Rattle.std.proofs.lemmas.List.Elements.{All-from_recursion, All-nil}
use Rattle.std.proofs.lemmas.Option.{same_Some, none-some}
use Rattle.bng_base.specs.declared.item.Item.{Item}
use Rattle.bng_base.specs.declared.settings.CoaPart.{CoaPart}
use Rattle.bng_base.specs.Chain.{Chain}
use Rattle.bng_base.proofs.ChainLaws.{chain_append, chain_keeps}
use Rattle.bng_coa.specs.State.{State as CoaState}
use Rattle.bng_coa.proofs.Standing.{IsApart, none_apart}
use Rattle.bng_config.specs.declared.config.Config.{Config}
use Rattle.bng_engine.specs.Laws.{sends_of}
use Rattle.bng_desk.specs.declared.desk.DeskState.TheVariants.{Ended}
use Rattle.bng_desk.specs.Coa.{CoaReplies, CoaReply, SettlesCoa, repeats_of}
use Rattle.bng_desk.specs.Model.{Desk, grace_is_over, has_ended, has_starved, is_over, sessions_in, state_of}
use Rattle.bng_desk.specs.Opening.{IsOpened, coa_of}
use Rattle.bng_desk.specs.Round.{Round}
use Rattle.bng_desk.specs.Turn.{Turn, Step, RoundOf, answers_of, ending_items, is_opened, items_of, loose_of}
use Rattle.bng_gate.specs.Changed.{AreAnswered, Changed, CoaCall, DoesCoa, Repeats, RepeatsNone, calls_until, coa_calls_in, coa_calls_of, coa_end_calls_in}
use Rattle.bng_gate.specs.Granted.{Held, held_of, round_of_end, round_of_turn}
use Rattle.bng_gate.specs.Rounds.{plant_of, rounds_of}
use Rattle.bng_gate.specs.Serving.{Made, MadeEnd, Late, Ends, Waits, LateStep, Goes, GoesEnding, Run, EndRun}
use Rattle.bng_gate.proofs.Agreed.{run_closed}
use Rattle.bng_gate.proofs.Answering.{NoneInHand, all_answered}
use Rattle.bng_gate.proofs.AskedBy.{replies_answer}
use Rattle.bng_gate.proofs.AskedIn.{ItemIn, all_apart}
use Rattle.bng_gate.proofs.Awaiting.{Covers, end_covers, settled_none, turn_covers}
use Rattle.bng_gate.proofs.Changing.{Asks, all_takes, asks_of, end_asks, end_step_calls, ending_calls, ending_repeats, none_given, run_calls, run_repeats, step_asks, step_calls, verdicts_of}
use Rattle.bng_gate.proofs.OnCoa.{IsBesideCoa, replies_sent}
use Rattle.bng_gate.proofs.Staging.{stages_requested}
use Rattle.bng_gate.proofs.States.{ended_by}
use Rattle.bng_gate.proofs.Verdicts.{of_end, of_made}

-- where the round was opened
settled_if : (d : Desk) (moment : ℕ) (items : List Item) (round : Round) (repeats : List CoaReply) (middle c : CoaState) (q : CoaReplies) (o : Option Round) → o ≡ Some round → RoundOf d moment items o
    → SettlesCoa d.rules repeats (loose_of items o) (answers_of o) middle q c → IsApart middle.requests → Covers middle items → NoneInHand c
settled_if d moment items round repeats middle c q None opened is by apart all = absurd (none-some round opened)
settled_if d moment items round repeats middle c q (Some r) opened is by apart all = settled_none d moment items r repeats middle c q is by apart all

module _ (turns : List Made) (endings : List MadeEnd) (secret : List ℕ) where
  -- a turn that opened its round leaves none in hand
  step_none : (d d' : Desk) (t : Option Turn) → Step d t d' → Asks turns endings secret d → (round : Round) → round_of_turn t ≡ Some round → NoneInHand d'.coa
  step_none d d' None step asks round opened = absurd (none-some round opened)
  step_none d d' (Some t) step asks round opened =
      let by = step.4 in
      subst NoneInHand (sym (ap (λ (x : Desk). x.coa) step.5))
      (settled_if d t.moment (items_of d t) round (repeats_of t.requested) by.admitted t.coa t.replies t.round opened step.1 by.settles
      (all_apart t.moment t.wall t.requested d.coa by.admitted by.admits asks.apart) (turn_covers d t by.admitted by.admits asks.covers))

  end_none : (d d' : Desk) (t : Late) → LateStep d t d' → Asks turns endings secret d → (round : Round) → round_of_end t ≡ Some round → NoneInHand d'.coa
  end_none d d' (Ends None) step asks round opened = absurd (none-some round opened)
  end_none d d' (Waits t) step asks round opened = absurd (none-some round opened)
  end_none d d' (Ends (Some t)) step asks round opened =
      subst NoneInHand (sym (ap (λ (x : Desk). x.coa) step.5))
      (settled_if d t.moment (ending_items d) round [] d.coa t.coa t.replies t.round opened step.1 step.4 asks.apart (end_covers d asks.covers))

  -- once a round of Ends was opened none is in hand
  record Closes (d : Desk) : Type 0 where
    asks : Asks turns endings secret d
    none : d.closed ≡ true → NoneInHand d.coa

  or_none : (b : Bool) → b || false ≡ true → b ≡ true
  or_none true e = refl
  or_none false e = e

  same_none : (d d' : Desk) → d'.coa ≡ d.coa → d'.closed ≡ d.closed → (d.closed ≡ true → NoneInHand d.coa) → d'.closed ≡ true → NoneInHand d'.coa
  same_none d d' coa closed had now = subst NoneInHand (sym coa) (had (sym closed ∙ now))

  late_none : (d d' : Desk) (t : Late) → LateStep d t d' → Closes d → d'.closed ≡ true → NoneInHand d'.coa
  late_none d d' (Ends None) step closes now = same_none d d' (ap (λ (x : Desk). x.coa) step) (ap (λ (x : Desk). x.closed) step) closes.none now
  late_none d d' (Waits t) step closes now = same_none d d' (ap (λ (x : Desk). x.coa) step.after) (ap (λ (x : Desk). x.closed) step.after) closes.none now
  late_none d d' (Ends (Some t)) step closes now = by t.round refl
    where
      by : (o : Option Round) → t.round ≡ o → NoneInHand d'.coa
      by (Some round) e = end_none d d' (Ends (Some t)) step closes.asks round e
      by None e =
          let settles = subst (λ (x : Option Round). SettlesCoa d.rules [] (loose_of (ending_items d) x) (answers_of x) d.coa t.replies t.coa) e step.4 in
          let was : d.closed ≡ true = or_none d.closed (ap (λ (x : Option Round). d.closed || is_opened x) (sym e) ∙ sym (ap (λ (x : Desk). x.closed) step.5) ∙ now) in
          subst NoneInHand (sym (ap (λ (x : Desk). x.coa) step.5 ∙ none_given d.rules [] d.coa t.coa t.replies settles)) (closes.none was)

  late_closes : (d d' : Desk) (t : Late) → LateStep d t d' → Closes d → Closes d'
  late_closes d d' t step closes = record { asks = end_asks turns endings secret d d' t step closes.asks; none = late_none d d' t step closes }

  last_none : (opening over last : Desk) → Run opening turns over → EndRun over endings last → Asks turns endings secret opening → opening.closed ≡ false → state_of last ≡ Ended → NoneInHand last.coa
  last_none opening over last run ending asks unclosed ended =
      let over_asks = chain_keeps Goes (Asks turns endings secret) (λ d d' m goes k. step_asks turns endings secret d d' m.turn goes.1 k) opening over turns run asks in
      let closed : over.closed ≡ false = run_closed opening over turns run ∙ unclosed in
      let over_closes : Closes over = record { asks = over_asks; none = λ yes. absurd (false≢true (sym closed ∙ yes)) } in
      let closes = chain_keeps GoesEnding Closes (λ d d' m goes k. late_closes d d' m.turn goes.1 k) over last endings ending over_closes in
      closes.none (and_parts last.closed (sessions_in last.shards == 0) (ended_by (is_over last) (has_ended last) (grace_is_over last) (has_starved last) ended)).0

  -- these calls lead to where none is in hand
  record Until (d : Desk) (calls : List CoaCall) : Type 0 where
    state : CoaState
    run : Chain DoesCoa d.coa calls state
    none : NoneInHand state

  end_until : (d last : Desk) (es : List MadeEnd) → EndRun d es last → Asks turns endings secret d → (k : ℕ) (h : Held) (round : Round) → slice_get (map of_end es) k ≡ Some h → h.round ≡ Some round
      → Until d (flat_map (λ calls. calls) (take (suc k) (map (λ m. coa_end_calls_in m.turn) es)))
  end_until d last [] run asks k h round at opened = absurd (none-some h at)
  end_until d last (m ∷ es) run asks zero h round at opened =
      let its : round_of_end m.turn ≡ Some round = ap (λ (x : Held). x.round) (same_Some (of_end m) h at) ∙ opened in
      record {
        state = run.0.coa;
        run = subst (λ (calls : List CoaCall). Chain DoesCoa d.coa calls run.0.coa) (sym (append-nil (coa_end_calls_in m.turn))) (end_step_calls d run.0 m.turn run.1.1);
        none = end_none d run.0 m.turn run.1.1 asks round its;
      }
  end_until d last (m ∷ es) run asks (suc k) h round at opened =
      let rest = end_until run.0 last es run.2 (end_asks turns endings secret d run.0 m.turn run.1.1 asks) k h round at opened in
      record { state = rest.state; run = chain_append DoesCoa d.coa run.0.coa rest.state (coa_end_calls_in m.turn) _ (end_step_calls d run.0 m.turn run.1.1) rest.run; none = rest.none }

  until : (d over last : Desk) (ms : List Made) (es : List MadeEnd) → Run d ms over → EndRun over es last → Asks turns endings secret d → (k : ℕ) (h : Held) (round : Round)
      → slice_get (map of_made ms ++ map of_end es) k ≡ Some h → h.round ≡ Some round
      → Until d (flat_map (λ calls. calls) (take (suc k) (map (λ m. coa_calls_in m.turn) ms ++ map (λ m. coa_end_calls_in m.turn) es)))
  until d over last [] es run ending asks k h round at opened =
      subst (λ (x : Desk). Until x (flat_map (λ calls. calls) (take (suc k) (map (λ (m : MadeEnd). coa_end_calls_in m.turn) es)))) run
      (end_until over last es ending (subst (Asks turns endings secret) (sym run) asks) k h round at opened)
  until d over last (m ∷ ms) es run ending asks zero h round at opened =
      let its : round_of_turn m.turn ≡ Some round = ap (λ (x : Held). x.round) (same_Some (of_made m) h at) ∙ opened in
      record {
        state = run.0.coa;
        run = subst (λ (calls : List CoaCall). Chain DoesCoa d.coa calls run.0.coa) (sym (append-nil (coa_calls_in m.turn))) (step_calls d run.0 m.turn run.1.1);
        none = step_none d run.0 m.turn run.1.1 asks round its;
      }
  until d over last (m ∷ ms) es run ending asks (suc k) h round at opened =
      let rest = until run.0 over last ms es run.2 ending (step_asks turns endings secret d run.0 m.turn run.1.1 asks) k h round at opened in
      record { state = rest.state; run = chain_append DoesCoa d.coa run.0.coa rest.state (coa_calls_in m.turn) _ (step_calls d run.0 m.turn run.1.1) rest.run; none = rest.none }

-- All turns -------------------------------------------------------------------------------------------------------------------------

-- at the opening no request is in hand
none_opened : (part : Option CoaPart) → (coa_of part).requests ≡ []
none_opened None = refl
none_opened (Some part) = refl

opens : (config : Config) (rounds : ℕ) (seed : List ℕ) (now wall : ℕ) (opening : Desk) (turns : List Made) (endings : List MadeEnd) → IsOpened config rounds seed now wall opening → Asks turns endings (coa_of config.coa).secret opening
opens config rounds seed now wall opening turns endings is =
    let first = coa_of config.coa in
    let nothing = none_opened config.coa in
    asks_of turns endings first.secret opening first [] (ap (λ (d : Desk). d.coa) is.desk) (ap (λ (d : Desk). d.kept) is.desk) refl
    (subst IsApart (sym nothing) none_apart) (All-nil (ItemIn first)) (subst (AllByRecursion _) (sym nothing) tt)

all_calls : (config : Config) (rounds : ℕ) (seed : List ℕ) (now wall : ℕ) (opening over last : Desk) (turns : List Made) (endings : List MadeEnd) → IsOpened config rounds seed now wall opening → Run opening turns over → EndRun over endings last
    → Chain DoesCoa (coa_of config.coa) (coa_calls_of turns endings) last.coa
all_calls config rounds seed now wall opening over last turns endings is run ending =
    let calls = flat_map (λ (m : Made). coa_calls_in m.turn) turns in
    let closes = flat_map (λ (m : MadeEnd). coa_end_calls_in m.turn) endings in
    subst (λ (c : CoaState). Chain DoesCoa c (coa_calls_of turns endings) last.coa) (ap (λ (d : Desk). d.coa) is.desk)
    (chain_append DoesCoa opening.coa over.coa last.coa calls closes (run_calls opening over turns run) (ending_calls over last endings ending))

-- at the end of a run each has its answer
pub ended_answers : (config : Config) (rounds : ℕ) (seed : List ℕ) (now wall : ℕ) (opening over last : Desk) (turns : List Made) (endings : List MadeEnd) → IsOpened config rounds seed now wall opening → Run opening turns over → EndRun over endings last
    → state_of last ≡ Ended → AreAnswered (coa_of config.coa).secret (coa_calls_of turns endings)
ended_answers config rounds seed now wall opening over last turns endings is run ending ended =
    let first = coa_of config.coa in
    all_answered first.secret (coa_calls_of turns endings) first last.coa refl (none_opened config.coa) (all_calls config rounds seed now wall opening over last turns endings is run ending)
    (last_none turns endings first.secret opening over last run ending (opens config rounds seed now wall opening turns endings is) (ap (λ (d : Desk). d.closed) is.desk) ended)

pub changed_of : (config : Config) (rounds : ℕ) (seed : List ℕ) (now wall : ℕ) (opening over last : Desk) (turns : List Made) (endings : List MadeEnd) → IsOpened config rounds seed now wall opening → Run opening turns over → EndRun over endings last
    → AllByRecursion IsBesideCoa (sends_of (rounds_of turns endings)) → Changed config turns endings last (plant_of turns endings).taken (plant_of turns endings).sent
changed_of config rounds seed now wall opening over last turns endings is run ending elsewhere =
    let first = coa_of config.coa in
    let nothing = none_opened config.coa in
    let done = all_calls config rounds seed now wall opening over last turns endings is run ending in
    let asks = opens config rounds seed now wall opening turns endings is in
    record {
      calls = done;
      answered = replies_answer first.secret (coa_calls_of turns endings) first last.coa refl nothing done;
      requests = stages_requested opening over turns endings run ∙ all_takes turns endings;
      replies = replies_sent turns endings elsewhere;
      repeated = All-from_recursion (λ m. Repeats m.turn) turns (run_repeats opening over turns run);
      repeated_none = All-from_recursion (λ m. RepeatsNone m.turn) endings (ending_repeats over last endings ending);
      verdicts = verdicts_of turns endings first.secret opening over last run ending asks;
      heard = heard;
    }
  where
    heard : (k : ℕ) (turn : Held) (round : Round) → slice_get (held_of turns endings) k ≡ Some turn → turn.round ≡ Some round → AreAnswered (coa_of config.coa).secret (calls_until turns endings k)
    heard k turn round at opened =
        let first = coa_of config.coa in
        let from : opening.coa ≡ first = ap (λ (d : Desk). d.coa) is.desk in
        let nothing = none_opened config.coa in
        let asks = opens config rounds seed now wall opening turns endings is in
        let e : suc k ≡ k + 1 = omega arith in
        let u = until turns endings first.secret opening over last turns endings run ending asks k turn round at opened in
        let up_to = λ (n : ℕ). flat_map (λ calls. calls) (take n (map (λ (m : Made). coa_calls_in m.turn) turns ++ map (λ (m : MadeEnd). coa_end_calls_in m.turn) endings)) in
        subst (λ (n : ℕ). AreAnswered first.secret (up_to n)) e
        (all_answered first.secret (up_to (suc k)) first u.state refl nothing (subst (λ (c : CoaState). Chain DoesCoa c (up_to (suc k)) u.state) from u.run) u.none)
