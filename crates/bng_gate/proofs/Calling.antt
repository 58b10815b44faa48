-- The calls of accounting lead from turn to turn.
use Rattle.std.proofs.Common.{◌≡◌, ℕ, Bool, true, false, List, [], ◌∷◌, ◌++◌, map, Option, Some, None, refl, sym, ap, subst}
use Rattle.std.specs.List.{flat_map}
use Rattle.bng_base.specs.Chain.{Chain}
use Rattle.bng_base.proofs.ChainLaws.{chain_append}
use Rattle.bng_billing.specs.Calls.{Does}
use Rattle.bng_billing.specs.Records.{IsFormedBy}
use Rattle.bng_billing.specs.Replies.{Takes}
use Rattle.bng_billing.specs.State.{BillingState}
use Rattle.bng_lane.specs.Sends.{LaneSend}
use Rattle.bng_desk.specs.Accounting.{Acknowledged, FormedRecord, RecordRequests, RecordSend, Resends, Gives, SettlesRecords}
use Rattle.bng_desk.specs.Model.{Desk, has_ended}
use Rattle.bng_desk.specs.Turn.{Turn, EndTurn, GraceTurn, Step, GraceStep, BillingTurn, BillingEnd, Closes, after_end}
use Rattle.bng_gate.specs.Recorded.{formed_call, heard_call, again_calls, given_calls, request_calls, calls_in, stopped_if, end_calls_in}
use Rattle.bng_gate.specs.Serving.{Made, MadeEnd, Late, Ends, Waits, LateStep, Run, EndRun}
use Rattle.bng_gate.proofs.Follows.{chain_map}

-- a chain, seen by a chain for each of its links
chain_flat : {S T U : Type 0} (step : S → T → S → Type 0) (other : S → U → S → Type 0) (f : T → List U) → ((s : S) (t : T) (s' : S) → step s t s' → Chain other s (f t) s') → (s s' : S) (ts : List T) → Chain step s ts s' → Chain other s (flat_map f ts) s'
chain_flat step other f each s s' [] run = run
chain_flat step other f each s s' (t ∷ ts) run = chain_append other s run.0 s' (f t) (flat_map f ts) (each s t run.0 run.1) (chain_flat step other f each run.0 s' ts run.2)

pub forms_calls : (b b' : BillingState) (fs : List FormedRecord) → Chain (λ x (f : FormedRecord) y. IsFormedBy x f.status f.facts f.moment f.number y) b fs b' → Chain Does b (map formed_call fs) b'
forms_calls b b' fs run = chain_map (λ x (f : FormedRecord) y. IsFormedBy x f.status f.facts f.moment f.number y) Does formed_call (λ s f s' h. h) b b' fs run

hears_calls : (b b' : BillingState) (as' : List Acknowledged) → Chain (λ x (a : Acknowledged) y. Takes x a.arrival.from a.arrival.octets a.found y) b as' b' → Chain Does b (map heard_call as') b'
hears_calls b b' as' run = chain_map (λ x (a : Acknowledged) y. Takes x a.arrival.from a.arrival.octets a.found y) Does heard_call (λ s a s' h. h) b b' as' run

settles_calls : (moment : ℕ) (b b' : BillingState) (q : RecordRequests) → SettlesRecords moment b q b' → Chain Does b (request_calls moment q) b'
settles_calls moment b b' q s =
    chain_append Does b s.mid b' (flat_map (again_calls moment) q.again) (flat_map (given_calls moment) q.given)
    (chain_flat (Resends moment) Does (again_calls moment) (λ x (u : LaneSend) y by. (by.0, by.1, (y, by.2, refl))) b s.mid q.again s.resends)
    (chain_flat (Gives moment) Does (given_calls moment) (λ x (r : RecordSend) y by. (by.0, by.1, (y, by.2, refl))) s.mid b' q.given s.gives)

turn_calls : (d : Desk) (t : Turn) → BillingTurn d t → Chain Does d.billing (calls_in (Some t)) t.billing
turn_calls d t by =
    chain_append Does d.billing by.heard t.billing (map heard_call t.acknowledged) (map formed_call t.formed ++ request_calls t.moment t.records)
    (hears_calls d.billing by.heard t.acknowledged by.hears)
    (chain_append Does by.heard by.booked t.billing (map formed_call t.formed) (request_calls t.moment t.records)
    (forms_calls by.heard by.booked t.formed by.forms)
    (settles_calls t.moment by.booked t.billing t.records by.settles))

closes_calls : (none_left : Bool) (b b' : BillingState) → Closes none_left b b' → Chain Does b (stopped_if none_left) b'
closes_calls false b b' h = h
closes_calls true b b' h = (b', h, refl)

end_calls : (d : Desk) (t : EndTurn) → BillingEnd d t → Chain Does d.billing (end_calls_in d (Ends (Some t))) t.billing
end_calls d t by =
    let none_left = has_ended (after_end d t) in
    chain_append Does d.billing by.booked t.billing (map formed_call t.formed) (request_calls t.moment t.records ++ stopped_if none_left)
    (forms_calls d.billing by.booked t.formed by.forms)
    (chain_append Does by.booked by.settled t.billing (request_calls t.moment t.records) (stopped_if none_left)
    (settles_calls t.moment by.booked by.settled t.records by.settles)
    (closes_calls none_left by.settled t.billing by.closes))

grace_calls : (d d' : Desk) (t : GraceTurn) → GraceStep d t d' → Chain Does d.billing (end_calls_in d (Waits t)) t.billing
grace_calls d d' t step =
    chain_append Does d.billing step.heard t.billing (map heard_call t.acknowledged) (request_calls t.moment t.records)
    (hears_calls d.billing step.heard t.acknowledged step.hears)
    (settles_calls t.moment step.heard t.billing t.records step.settles)

pub step_calls : (d d' : Desk) (t : Option Turn) → Step d t d' → Chain Does d.billing (calls_in t) d'.billing
step_calls d d' None step = ap (λ (x : Desk). x.billing) step
step_calls d d' (Some t) step = subst (λ (b : BillingState). Chain Does d.billing (calls_in (Some t)) b) (sym (ap (λ (x : Desk). x.billing) step.5)) (turn_calls d t step.3)

end_step_calls : (d d' : Desk) (t : Late) → LateStep d t d' → Chain Does d.billing (end_calls_in d t) d'.billing
end_step_calls d d' (Ends None) step = ap (λ (x : Desk). x.billing) step
end_step_calls d d' (Ends (Some t)) step = subst (λ (b : BillingState). Chain Does d.billing (end_calls_in d (Ends (Some t))) b) (sym (ap (λ (x : Desk). x.billing) step.5)) (end_calls d t step.3)
end_step_calls d d' (Waits t) step = subst (λ (b : BillingState). Chain Does d.billing (end_calls_in d (Waits t)) b) (sym (ap (λ (x : Desk). x.billing) step.after)) (grace_calls d d' t step)

-- with the desk as it was made of
pub made_calls : (d d' : Desk) (m : MadeEnd) → m.desk ≡ d → LateStep d m.turn d' → Chain Does d.billing (end_calls_in m.desk m.turn) d'.billing
made_calls d d' m is step = subst (λ (x : Desk). Chain Does d.billing (end_calls_in x m.turn) d'.billing) (sym is) (end_step_calls d d' m.turn step)

pub run_calls : (d d' : Desk) (turns : List Made) → Run d turns d' → Chain Does d.billing (flat_map (λ m. calls_in m.turn) turns) d'.billing
run_calls d d' [] run = ap (λ (x : Desk). x.billing) run
run_calls d d' (m ∷ turns) run =
    chain_append Does d.billing run.0.billing d'.billing (calls_in m.turn) (flat_map (λ (x : Made). calls_in x.turn) turns) (step_calls d run.0 m.turn run.1.1) (run_calls run.0 d' turns run.2)

pub ending_calls : (d d' : Desk) (endings : List MadeEnd) → EndRun d endings d' → Chain Does d.billing (flat_map (λ m. end_calls_in m.desk m.turn) endings) d'.billing
ending_calls d d' [] run = ap (λ (x : Desk). x.billing) run
ending_calls d d' (m ∷ endings) run =
    chain_append Does d.billing run.0.billing d'.billing (end_calls_in m.desk m.turn) (flat_map (λ (x : MadeEnd). end_calls_in x.desk x.turn) endings) (made_calls d run.0 m run.1.0 run.1.1) (ending_calls run.0 d' endings run.2)
