-- Once no session is left, the records that are open and their terms agree, and so it stays.
use Rattle.std.proofs.Common.{◌≡◌, ℕ, Bool, true, false, ◌==◌, List, [], ◌∷◌, Option, Some, None, refl, sym, ap, subst, ◌∙◌}
use Rattle.std.proofs.lemmas.Bool.{and_parts, false≢true}
use Rattle.bng_acct.specs.declared.facts.RecordNo.{RecordNo}
use Rattle.bng_acct.specs.declared.held.Held.{Held}
use Rattle.bng_acct.specs.Spool.{Agree}
use Rattle.bng_acct.proofs.Agreeing.{agree_same}
use Rattle.bng_base.specs.declared.address.Peer.{Peer}
use Rattle.bng_base.specs.declared.item.Item.{Item}
use Rattle.bng_base.proofs.ChainLaws.{chain_keeps}
use Rattle.bng_billing.specs.Replies.{Takes}
use Rattle.bng_billing.specs.State.{BillingState}
use Rattle.bng_config.specs.declared.config.Config.{Config}
use Rattle.bng_lane.specs.Sends.{LaneSend}
use Rattle.bng_desk.specs.declared.desk.DeskState.TheVariants.{Ended}
use Rattle.bng_desk.specs.Accounting.{Acknowledged, RecordRequests, RecordSend, Resends, Gives, SettlesRecords}
use Rattle.bng_desk.specs.Model.{Desk, grace_is_over, has_ended, has_starved, is_over, sessions_in, state_of}
use Rattle.bng_desk.specs.Opening.{IsOpened}
use Rattle.bng_desk.specs.Round.{Round}
use Rattle.bng_desk.specs.Turn.{Turn, Step, Closes, after_end, after_round, items_of}
use Rattle.bng_gate.specs.Serving.{Made, MadeEnd, Late, Ends, Waits, LateStep, GoesEnding, Run, EndRun}
use Rattle.bng_gate.proofs.States.{ended_by}

abbrev Agrees : BillingState → Type 0
Agrees b = Agree b.spool.sheets b.spool.held

-- Calls that keep it -----------------------------------------------------------------------------------------------------------------

takes_agrees : (b b' : BillingState) (from : Peer) (octets : List ℕ) (found : Option RecordNo) → Takes b from octets found b' → Agrees b → Agrees b'
takes_agrees b b' from octets None takes agree = subst Agrees (sym takes.1) agree
takes_agrees b b' from octets (Some n) takes agree = takes.acknowledged.agree

resends_agrees : (moment : ℕ) (b b' : BillingState) (s : LaneSend) → Resends moment b s b' → Agrees b → Agrees b'
resends_agrees moment b b' s by agree =
    let again : Agrees by.0 = subst Agrees (sym by.1.others) agree in
    subst Agrees (sym by.2) again

gives_agrees : (moment : ℕ) (b b' : BillingState) (r : RecordSend) → Gives moment b r b' → Agrees b → Agrees b'
gives_agrees moment b b' r by agree =
    let handed = by.1.handed in
    let given : Agrees by.0 = subst (λ (held : List Held). Agree by.0.spool.sheets held) (sym handed.terms)
    (agree_same b.spool.sheets by.0.spool.sheets b.spool.held handed.sheet r.number agree handed.was handed.sets) in
    subst Agrees (sym by.2) given

settles_agrees : (moment : ℕ) (b b' : BillingState) (q : RecordRequests) → SettlesRecords moment b q b' → Agrees b → Agrees b'
settles_agrees moment b b' q settles agree =
    chain_keeps (Gives moment) Agrees (λ s s' r by k. gives_agrees moment s s' r by k) settles.mid b' q.given settles.gives
    (chain_keeps (Resends moment) Agrees (λ s s' u by k. resends_agrees moment s s' u by k) b settles.mid q.again settles.resends agree)

-- Turns ------------------------------------------------------------------------------------------------------------------------------

-- where no session is left
abbrev AgreesThen : Desk → Type 0
AgreesThen d = has_ended d ≡ true → Agrees d.billing

closes_agrees : (none_left : Bool) (b b' : BillingState) → Closes none_left b b' → none_left ≡ true → Agrees b'
closes_agrees true b b' closes is = closes.agree
closes_agrees false b b' closes is = absurd (false≢true is)

late_agrees : (d d' : Desk) (t : Late) → LateStep d t d' → AgreesThen d → AgreesThen d'
late_agrees d d' (Ends None) step agrees = subst AgreesThen (sym step) agrees
late_agrees d d' (Ends (Some t)) step agrees = subst AgreesThen (sym step.5) (closes_agrees (has_ended (after_end d t)) step.3.settled t.billing step.3.closes)
late_agrees d d' (Waits t) step agrees =
    subst AgreesThen (sym step.after) (λ none_left. settles_agrees t.moment step.heard t.billing t.records step.settles
    (chain_keeps (λ b (a : Acknowledged) b'. Takes b a.arrival.from a.arrival.octets a.found b') Agrees (λ s s' a takes k. takes_agrees s s' a.arrival.from a.arrival.octets a.found takes k) d.billing step.heard t.acknowledged step.hears (agrees none_left)))

-- no turn of serving opens a round of Ends
kept_closed : (d : Desk) (items : List Item) (round : Option Round) → (after_round d items round).closed ≡ d.closed
kept_closed d items None = refl
kept_closed d items (Some round) = refl

step_closed : (d d' : Desk) (t : Option Turn) → Step d t d' → d'.closed ≡ d.closed
step_closed d d' None step = ap (λ (u : Desk). u.closed) step
step_closed d d' (Some t) step = ap (λ (u : Desk). u.closed) step.5 ∙ kept_closed d (items_of d t) t.round

pub run_closed : (d d' : Desk) (turns : List Made) → Run d turns d' → d'.closed ≡ d.closed
run_closed d d' [] run = ap (λ (u : Desk). u.closed) run
run_closed d d' (m ∷ turns) run = run_closed run.0 d' turns run.2 ∙ step_closed d run.0 m.turn run.1.1

unclosed : (d : Desk) → d.closed ≡ false → AgreesThen d
unclosed d closed none_left = absurd (false≢true (sym closed ∙ (and_parts d.closed (sessions_in d.shards == 0) none_left).0))

-- at the end of a run
pub agreed : (config : Config) (rounds : ℕ) (seed : List ℕ) (now wall : ℕ) (opening over last : Desk) (turns : List Made) (endings : List MadeEnd) → IsOpened config rounds seed now wall opening → Run opening turns over → EndRun over endings last
    → state_of last ≡ Ended → Agree last.billing.spool.sheets last.billing.spool.held
agreed config rounds seed now wall opening over last turns endings is run ending ended =
    let closed : over.closed ≡ false = run_closed opening over turns run ∙ ap (λ (d : Desk). d.closed) is.desk in
    chain_keeps GoesEnding AgreesThen (λ d d' m goes k. late_agrees d d' m.turn goes.1 k) over last endings ending (unclosed over closed)
    (ended_by (is_over last) (has_ended last) (grace_is_over last) (has_starved last) ended)
