-- The stages of the turns are what the turns tell: what they took from Acct, Coa, Auth, the access ports and the core, and what they sent,
-- the answers on Control aside.
use Rattle.std.proofs.Common.{◌≡◌, ℕ, zero, suc, ◌+◌, Bool, true, false, cond, List, [], ◌∷◌, ◌++◌, map, length, Option, Some, None, refl, sym, ap, subst, ◌∙◌, append-nil}
use Rattle.std.specs.Prelude.{filter, not}
use Rattle.std.specs.List.{AllByRecursion, flat_map, range_with_len}
use Rattle.std.proofs.lemmas.List.Concat.{flat_map-append}
use Rattle.std.proofs.lemmas.List.Elements.{filter-append}
use Rattle.std.proofs.lemmas.Option.{none-some}
use Rattle.bng_base.specs.declared.outside.Datagram.{Datagram}
use Rattle.bng_base.specs.declared.outside.Role.{Role}
use Rattle.bng_base.specs.declared.outside.Role.TheVariants.{Access, Auth, Acct, Coa, Core, Control, Tunnel}
use Rattle.bng_base.specs.FateOf.{Arrival}
use Rattle.bng_engine.specs.Wire.{went}
use Rattle.bng_desk.specs.declared.reading.ReadEnd.{ReadEnd}
use Rattle.bng_desk.specs.Accounting.{Acknowledged}
use Rattle.bng_desk.specs.Coa.{Requested, requests_most}
use Rattle.bng_desk.specs.Control.{Heeded, reply, is_answered}
use Rattle.bng_desk.specs.Items.{DataReading}
use Rattle.bng_desk.specs.Logins.{Answered, verdicts_most}
use Rattle.bng_desk.specs.Model.{Desk}
use Rattle.bng_desk.specs.Reading.{is_empty, taken_in}
use Rattle.bng_desk.specs.Report.{stats_text}
use Rattle.bng_desk.specs.Round.{Round}
use Rattle.bng_desk.specs.Turn.{Turn, GraceTurn, ReadsWhere, Step, reads_changes, tunnel_roles, asked_stretch, auth_stretch, data_stretch, round_stretch, stretch_of, grace_stretch}
use Rattle.bng_gate.specs.Granted.{Stage, sent_by, stage_in, end_stage_in, stages_of}
use Rattle.bng_gate.specs.Rounds.{plant_of, is_acct, is_auth, is_coa, is_control, on_acct, on_auth, on_coa, on_data, beside_control, readings_in, readings_of}
use Rattle.bng_gate.specs.Serving.{Made, MadeEnd, Late, Ends, Waits, Run, late_stretch, run_stretch, ending_stretch}
use Rattle.bng_gate.proofs.Telling.{end_out, grace_out, requested, round_takes, sends_in, taken_are, taken_by_reading, turn_out}

-- What was sent ------------------------------------------------------------------------------------------------------------

beside_append : (a b : List Datagram) → beside_control (a ++ b) ≡ beside_control a ++ beside_control b
beside_append a b = filter-append (λ (d : Datagram). not (is_control d.role)) a b

abbrev out_of : Stage → List Datagram
out_of s = s.sent ++ (s.replies ++ (s.requests ++ s.records))

no_answers : (stats : List ℕ) (hs : List Heeded) → beside_control (map (reply stats) hs) ≡ []
no_answers stats [] = refl
no_answers stats (h ∷ hs) = no_answers stats hs

sent_by_round : (round : Option Round) → went (sends_in round) ≡ sent_by round
sent_by_round None = refl
sent_by_round (Some round) = refl

turn_sent : (d : Desk) (t : Option Turn) → beside_control (stretch_of d t).plant.sent ≡ beside_control (out_of (stage_in d t))
turn_sent d None = refl
turn_sent d (Some t) =
    let rest = went (sends_in t.round) ++ requested d t.replies t.requests t.records in
    ap beside_control (turn_out d t)
    ∙ beside_append (map (reply (stats_text d)) (filter is_answered t.control)) rest
    ∙ ap (λ (ds : List Datagram). ds ++ beside_control rest) (no_answers (stats_text d) (filter is_answered t.control))
    ∙ ap (λ (ds : List Datagram). beside_control (ds ++ requested d t.replies t.requests t.records)) (sent_by_round t.round)

end_sent : (d : Desk) (t : Late) → beside_control (late_stretch d t).plant.sent ≡ beside_control (out_of (end_stage_in d t))
end_sent d (Ends None) = refl
end_sent d (Waits t) = ap beside_control (grace_out d t)
end_sent d (Ends (Some t)) = ap beside_control (end_out d t) ∙ ap (λ (ds : List Datagram). beside_control (ds ++ requested d t.replies t.requests t.records)) (sent_by_round t.round)

-- one more
more_sent : (here stage later stages : List Datagram) → beside_control here ≡ beside_control stage → beside_control later ≡ beside_control stages → beside_control (here ++ later) ≡ beside_control (stage ++ stages)
more_sent here stage later stages e f =
    beside_append here later
    ∙ ap (λ (ds : List Datagram). ds ++ beside_control later) e
    ∙ ap (λ (ds : List Datagram). beside_control stage ++ ds) f
    ∙ sym (beside_append stage stages)

turns_sent : (turns : List Made) → beside_control (run_stretch turns).plant.sent ≡ beside_control (flat_map out_of (map (λ m. stage_in m.desk m.turn) turns))
turns_sent [] = refl
turns_sent (m ∷ turns) =
    more_sent (stretch_of m.desk m.turn).plant.sent (out_of (stage_in m.desk m.turn)) (run_stretch turns).plant.sent (flat_map out_of (map (λ (x : Made). stage_in x.desk x.turn) turns))
    (turn_sent m.desk m.turn) (turns_sent turns)

endings_sent : (endings : List MadeEnd) → beside_control (ending_stretch endings).plant.sent ≡ beside_control (flat_map out_of (map (λ m. end_stage_in m.desk m.turn) endings))
endings_sent [] = refl
endings_sent (m ∷ endings) =
    more_sent (late_stretch m.desk m.turn).plant.sent (out_of (end_stage_in m.desk m.turn)) (ending_stretch endings).plant.sent (flat_map out_of (map (λ (x : MadeEnd). end_stage_in x.desk x.turn) endings))
    (end_sent m.desk m.turn) (endings_sent endings)

-- what was sent, but for Control, are what the stages sent, in their order
pub stages_sent : (turns : List Made) (endings : List MadeEnd) → beside_control (plant_of turns endings).sent ≡ beside_control (flat_map (λ s. s.sent ++ (s.replies ++ (s.requests ++ s.records))) (stages_of turns endings))
stages_sent turns endings =
    let serving = map (λ (m : Made). stage_in m.desk m.turn) turns in
    let ending = map (λ (m : MadeEnd). end_stage_in m.desk m.turn) endings in
    more_sent (run_stretch turns).plant.sent (flat_map out_of serving) (ending_stretch endings).plant.sent (flat_map out_of ending) (turns_sent turns) (endings_sent endings)
    ∙ sym (ap beside_control (flat_map-append out_of serving ending))

-- What was taken -----------------------------------------------------------------------------------------------------------

-- of the roles that pass a test, which Control, the end for tunnels, the access ports and the core do not
module _ (is : Role → Bool) (no_control : is Control ≡ false) (no_tunnel : is Tunnel ≡ false) (no_port : (number : ℕ) → is (Access number) ≡ false) (no_core : is Core ≡ false) where
  abbrev only : List Datagram → List Datagram
  only ds = filter (λ (d : Datagram). is d.role) ds

  only_append : (a b : List Datagram) → only (a ++ b) ≡ only a ++ only b
  only_append a b = filter-append (λ (d : Datagram). is d.role) a b

  all_of : (role : Role) (arrivals : List Arrival) → is role ≡ true → only (taken_in role arrivals) ≡ taken_in role arrivals
  all_of role [] e = refl
  all_of role (a ∷ arrivals) e =
      let d : Datagram = record { role = role; peer = a.from; octets = a.octets } in
      let rest = only (taken_in role arrivals) in
      ap (λ (b : Bool). cond b (d ∷ rest) rest) e ∙ ap (λ (ds : List Datagram). d ∷ ds) (all_of role arrivals e)

  none_of : (role : Role) (arrivals : List Arrival) → is role ≡ false → only (taken_in role arrivals) ≡ []
  none_of role [] e = refl
  none_of role (a ∷ arrivals) e =
      let d : Datagram = record { role = role; peer = a.from; octets = a.octets } in
      let rest = only (taken_in role arrivals) in
      ap (λ (b : Bool). cond b (d ∷ rest) rest) e ∙ none_of role arrivals e

  none_read : (readings : List DataReading) → AllByRecursion (λ role. is role ≡ false) (map (λ r. r.role) readings) → only (data_stretch readings).taken ≡ []
  none_read [] h = refl
  none_read (r ∷ rs) h =
      only_append (taken_in r.role r.arrivals ++ []) (data_stretch rs).taken
      ∙ ap (λ (ds : List Datagram). only ds ++ only (data_stretch rs).taken) (append-nil (taken_in r.role r.arrivals))
      ∙ ap (λ (ds : List Datagram). ds ++ only (data_stretch rs).taken) (none_of r.role r.arrivals h.0)
      ∙ none_read rs h.1

  ports_else : (n m : ℕ) → AllByRecursion (λ role. is role ≡ false) (map Access (range_with_len n m) ++ Core ∷ [])
  ports_else n zero = (no_core, tt)
  ports_else n (suc m) = (no_port n, ports_else (n + 1) m)

  roles_else : (serves : Bool) (n m : ℕ) → AllByRecursion (λ role. is role ≡ false) (tunnel_roles serves ++ (map Access (range_with_len n m) ++ Core ∷ []))
  roles_else true n m = (no_tunnel, ports_else n m)
  roles_else false n m = ports_else n m

  -- what a turn takes from Acct, then from Coa, and then from Auth
  turn_takes : (d d' : Desk) (t : Turn) → Step d (Some t) d' → (e : Desk)
      → only (stretch_of e (Some t)).plant.taken
      ≡ only (taken_in Acct (map (λ a. a.arrival) t.acknowledged)) ++ (only (asked_stretch t.requested t.coa_end).taken ++ only (auth_stretch t.answers t.auth_end).taken)
  turn_takes d d' t step e =
      let heeded = map (λ (h : Heeded). h.arrival) t.control in
      let acct = taken_in Acct (map (λ (a : Acknowledged). a.arrival) t.acknowledged) in
      let coa = (asked_stretch t.requested t.coa_end).taken in
      let auth = (auth_stretch t.answers t.auth_end).taken in
      let rest = (data_stretch t.readings).taken ++ ((round_stretch t.round).taken ++ []) in
      let later = (acct ++ []) ++ (coa ++ (auth ++ rest)) in
      let roles : AllByRecursion (λ role. is role ≡ false) (map (λ r. r.role) t.readings) = subst (AllByRecursion (λ role. is role ≡ false)) (sym step.0.roles) (roles_else d.rules.serves_tunnels 1 (length d.rules.access)) in
      only_append (taken_in Control heeded ++ []) later
      ∙ ap (λ (ds : List Datagram). only ds ++ only later) (append-nil (taken_in Control heeded))
      ∙ ap (λ (ds : List Datagram). ds ++ only later) (none_of Control heeded no_control)
      ∙ only_append (acct ++ []) (coa ++ (auth ++ rest))
      ∙ ap (λ (ds : List Datagram). only ds ++ only (coa ++ (auth ++ rest))) (append-nil acct)
      ∙ ap (λ (ds : List Datagram). only acct ++ ds) (only_append coa (auth ++ rest))
      ∙ ap (λ (ds : List Datagram). only acct ++ (only coa ++ ds)) (only_append auth rest)
      ∙ ap (λ (ds : List Datagram). only acct ++ (only coa ++ (only auth ++ only ((data_stretch t.readings).taken ++ (ds ++ []))))) (round_takes t.round)
      ∙ ap (λ (ds : List Datagram). only acct ++ (only coa ++ (only auth ++ only ds))) (append-nil (data_stretch t.readings).taken)
      ∙ ap (λ (ds : List Datagram). only acct ++ (only coa ++ (only auth ++ ds))) (none_read t.readings roles)
      ∙ ap (λ (ds : List Datagram). only acct ++ (only coa ++ ds)) (append-nil (only auth))

  -- what one of the grace takes from Acct
  grace_takes : (d : Desk) (t : GraceTurn) → only (grace_stretch d t).plant.taken ≡ only (taken_in Acct (map (λ a. a.arrival) t.acknowledged))
  grace_takes d t =
      let acct = taken_in Acct (map (λ (a : Acknowledged). a.arrival) t.acknowledged) in
      ap only (append-nil (acct ++ [])) ∙ ap only (append-nil acct)

  -- so what is taken over all turns, where each stage tells it of its turn
  module _ (told : Stage → List Datagram) (turn : (d d' : Desk) (t : Option Turn) → Step d t d' → (e : Desk) → only (stretch_of e t).plant.taken ≡ told (stage_in e t))
      (late : (d : Desk) (t : Late) → only (late_stretch d t).plant.taken ≡ told (end_stage_in d t)) where
    turns_tell : (d d' : Desk) (turns : List Made) → Run d turns d' → only (run_stretch turns).plant.taken ≡ flat_map told (map (λ m. stage_in m.desk m.turn) turns)
    turns_tell d d' [] run = refl
    turns_tell d d' (m ∷ turns) run =
        only_append (stretch_of m.desk m.turn).plant.taken (run_stretch turns).plant.taken
        ∙ ap (λ (ds : List Datagram). ds ++ only (run_stretch turns).plant.taken) (turn d run.0 m.turn run.1.1 m.desk)
        ∙ ap (λ (ds : List Datagram). told (stage_in m.desk m.turn) ++ ds) (turns_tell run.0 d' turns run.2)

    endings_tell : (endings : List MadeEnd) → only (ending_stretch endings).plant.taken ≡ flat_map told (map (λ m. end_stage_in m.desk m.turn) endings)
    endings_tell [] = refl
    endings_tell (m ∷ endings) =
        only_append (late_stretch m.desk m.turn).plant.taken (ending_stretch endings).plant.taken
        ∙ ap (λ (ds : List Datagram). ds ++ only (ending_stretch endings).plant.taken) (late m.desk m.turn)
        ∙ ap (λ (ds : List Datagram). told (end_stage_in m.desk m.turn) ++ ds) (endings_tell endings)

    stages_tell : (d d' : Desk) (turns : List Made) (endings : List MadeEnd) → Run d turns d' → only (plant_of turns endings).taken ≡ flat_map told (stages_of turns endings)
    stages_tell d d' turns endings run =
        let serving = map (λ (m : Made). stage_in m.desk m.turn) turns in
        let ending = map (λ (m : MadeEnd). end_stage_in m.desk m.turn) endings in
        only_append (run_stretch turns).plant.taken (ending_stretch endings).plant.taken
        ∙ ap (λ (ds : List Datagram). ds ++ only (ending_stretch endings).plant.taken) (turns_tell d d' turns run)
        ∙ ap (λ (ds : List Datagram). flat_map told serving ++ ds) (endings_tell endings)
        ∙ sym (flat_map-append told serving ending)

-- Auth is read, or nothing was taken from it
auth_taken : (most : ℕ) (reads : Bool) (answers : List Answered) (ended : Option ReadEnd) → ReadsWhere most reads answers ended → on_auth (auth_stretch answers ended).taken ≡ taken_in Auth (map (λ a. a.arrival) answers)
auth_taken most true answers None reads = absurd (none-some reads.0 reads.1)
auth_taken most false answers None reads = ap (λ (as' : List Answered). taken_in Auth (map (λ (a : Answered). a.arrival) as')) (sym reads.1)
auth_taken most reads answers (Some ended) is =
    let arrivals = map (λ (a : Answered). a.arrival) answers in
    ap on_auth (append-nil (taken_in Auth arrivals)) ∙ all_of is_auth refl refl (λ n. refl) refl Auth arrivals refl

-- nothing of Coa is of Auth
coa_no_auth : (requested : List Requested) (ended : Option ReadEnd) → on_auth (asked_stretch requested ended).taken ≡ []
coa_no_auth requested None = refl
coa_no_auth requested (Some ended) =
    let arrivals = map (λ (q : Requested). q.arrival) requested in
    ap on_auth (append-nil (taken_in Coa arrivals)) ∙ none_of is_auth refl refl (λ n. refl) refl Coa arrivals refl

turn_heard : (d d' : Desk) (t : Option Turn) → Step d t d' → (e : Desk) → on_auth (stretch_of e t).plant.taken ≡ (stage_in e t).heard
turn_heard d d' None step e = refl
turn_heard d d' (Some t) step e =
    let arrivals = map (λ (a : Acknowledged). a.arrival) t.acknowledged in
    let auth = on_auth (auth_stretch t.answers t.auth_end).taken in
    turn_takes is_auth refl refl (λ n. refl) refl d d' t step e
    ∙ ap (λ (ds : List Datagram). ds ++ (on_auth (asked_stretch t.requested t.coa_end).taken ++ auth)) (none_of is_auth refl refl (λ n. refl) refl Acct arrivals refl)
    ∙ ap (λ (ds : List Datagram). ds ++ auth) (coa_no_auth t.requested t.coa_end)
    ∙ auth_taken verdicts_most (is_empty d.kept) t.answers t.auth_end step.0.auth

end_heard : (d : Desk) (t : Late) → on_auth (late_stretch d t).plant.taken ≡ (end_stage_in d t).heard
end_heard d (Ends None) = refl
end_heard d (Ends (Some t)) = ap (λ (ds : List Datagram). on_auth (ds ++ [])) (round_takes t.round)
end_heard d (Waits t) =
    let arrivals = map (λ (a : Acknowledged). a.arrival) t.acknowledged in
    grace_takes is_auth refl refl (λ n. refl) refl d t ∙ none_of is_auth refl refl (λ n. refl) refl Acct arrivals refl

-- what was taken from Auth is what the stages heard, in their order
pub stages_heard : (d d' : Desk) (turns : List Made) (endings : List MadeEnd) → Run d turns d' → on_auth (plant_of turns endings).taken ≡ flat_map (λ s. s.heard) (stages_of turns endings)
stages_heard d d' turns endings run = stages_tell is_auth refl refl (λ n. refl) refl (λ (s : Stage). s.heard) turn_heard end_heard d d' turns endings run

-- nothing of Auth is of Acct
auth_else : (answers : List Answered) (ended : Option ReadEnd) → on_acct (auth_stretch answers ended).taken ≡ []
auth_else answers None = refl
auth_else answers (Some ended) =
    let arrivals = map (λ (a : Answered). a.arrival) answers in
    ap on_acct (append-nil (taken_in Auth arrivals)) ∙ none_of is_acct refl refl (λ n. refl) refl Auth arrivals refl

-- nor is anything of Coa
coa_no_acct : (requested : List Requested) (ended : Option ReadEnd) → on_acct (asked_stretch requested ended).taken ≡ []
coa_no_acct requested None = refl
coa_no_acct requested (Some ended) =
    let arrivals = map (λ (q : Requested). q.arrival) requested in
    ap on_acct (append-nil (taken_in Coa arrivals)) ∙ none_of is_acct refl refl (λ n. refl) refl Coa arrivals refl

turn_acknowledged : (d d' : Desk) (t : Option Turn) → Step d t d' → (e : Desk) → on_acct (stretch_of e t).plant.taken ≡ (stage_in e t).acknowledged
turn_acknowledged d d' None step e = refl
turn_acknowledged d d' (Some t) step e =
    let arrivals = map (λ (a : Acknowledged). a.arrival) t.acknowledged in
    turn_takes is_acct refl refl (λ n. refl) refl d d' t step e
    ∙ ap (λ (ds : List Datagram). on_acct (taken_in Acct arrivals) ++ (ds ++ on_acct (auth_stretch t.answers t.auth_end).taken)) (coa_no_acct t.requested t.coa_end)
    ∙ ap (λ (ds : List Datagram). on_acct (taken_in Acct arrivals) ++ ds) (auth_else t.answers t.auth_end)
    ∙ append-nil (on_acct (taken_in Acct arrivals))
    ∙ all_of is_acct refl refl (λ n. refl) refl Acct arrivals refl

end_acknowledged : (d : Desk) (t : Late) → on_acct (late_stretch d t).plant.taken ≡ (end_stage_in d t).acknowledged
end_acknowledged d (Ends None) = refl
end_acknowledged d (Ends (Some t)) = ap (λ (ds : List Datagram). on_acct (ds ++ [])) (round_takes t.round)
end_acknowledged d (Waits t) =
    let arrivals = map (λ (a : Acknowledged). a.arrival) t.acknowledged in
    grace_takes is_acct refl refl (λ n. refl) refl d t ∙ all_of is_acct refl refl (λ n. refl) refl Acct arrivals refl

-- and so what was taken from Acct
pub stages_acknowledged : (d d' : Desk) (turns : List Made) (endings : List MadeEnd) → Run d turns d' → on_acct (plant_of turns endings).taken ≡ flat_map (λ s. s.acknowledged) (stages_of turns endings)
stages_acknowledged d d' turns endings run = stages_tell is_acct refl refl (λ n. refl) refl (λ (s : Stage). s.acknowledged) turn_acknowledged end_acknowledged d d' turns endings run

-- Coa is read, or nothing was taken from it
coa_read : (most : ℕ) (reads : Bool) (requested : List Requested) (ended : Option ReadEnd) → ReadsWhere most reads requested ended → on_coa (asked_stretch requested ended).taken ≡ taken_in Coa (map (λ q. q.arrival) requested)
coa_read most true requested None reads = absurd (none-some reads.0 reads.1)
coa_read most false requested None reads = ap (λ (qs : List Requested). taken_in Coa (map (λ (q : Requested). q.arrival) qs)) (sym reads.1)
coa_read most reads requested (Some ended) is =
    let arrivals = map (λ (q : Requested). q.arrival) requested in
    ap on_coa (append-nil (taken_in Coa arrivals)) ∙ all_of is_coa refl refl (λ n. refl) refl Coa arrivals refl

auth_no_coa : (answers : List Answered) (ended : Option ReadEnd) → on_coa (auth_stretch answers ended).taken ≡ []
auth_no_coa answers None = refl
auth_no_coa answers (Some ended) =
    let arrivals = map (λ (a : Answered). a.arrival) answers in
    ap on_coa (append-nil (taken_in Auth arrivals)) ∙ none_of is_coa refl refl (λ n. refl) refl Auth arrivals refl

turn_requested : (d d' : Desk) (t : Option Turn) → Step d t d' → (e : Desk) → on_coa (stretch_of e t).plant.taken ≡ (stage_in e t).requested
turn_requested d d' None step e = refl
turn_requested d d' (Some t) step e =
    let arrivals = map (λ (a : Acknowledged). a.arrival) t.acknowledged in
    let asked = on_coa (asked_stretch t.requested t.coa_end).taken in
    let auth = on_coa (auth_stretch t.answers t.auth_end).taken in
    turn_takes is_coa refl refl (λ n. refl) refl d d' t step e
    ∙ ap (λ (ds : List Datagram). ds ++ (asked ++ auth)) (none_of is_coa refl refl (λ n. refl) refl Acct arrivals refl)
    ∙ ap (λ (ds : List Datagram). asked ++ ds) (auth_no_coa t.answers t.auth_end)
    ∙ append-nil asked
    ∙ coa_read requests_most (reads_changes d) t.requested t.coa_end step.0.coa

end_requested : (d : Desk) (t : Late) → on_coa (late_stretch d t).plant.taken ≡ (end_stage_in d t).requested
end_requested d (Ends None) = refl
end_requested d (Ends (Some t)) = ap (λ (ds : List Datagram). on_coa (ds ++ [])) (round_takes t.round)
end_requested d (Waits t) =
    let arrivals = map (λ (a : Acknowledged). a.arrival) t.acknowledged in
    grace_takes is_coa refl refl (λ n. refl) refl d t ∙ none_of is_coa refl refl (λ n. refl) refl Acct arrivals refl

-- and what was taken from Coa
pub stages_requested : (d d' : Desk) (turns : List Made) (endings : List MadeEnd) → Run d turns d' → on_coa (plant_of turns endings).taken ≡ flat_map (λ s. s.requested) (stages_of turns endings)
stages_requested d d' turns endings run = stages_tell is_coa refl refl (λ n. refl) refl (λ (s : Stage). s.requested) turn_requested end_requested d d' turns endings run

abbrev taken_of : Stage → List Datagram
taken_of s = s.taken

turns_took : (turns : List Made) → flat_map taken_by_reading (readings_of turns) ≡ flat_map taken_of (map (λ m. stage_in m.desk m.turn) turns)
turns_took [] = refl
turns_took (m ∷ turns) =
    flat_map-append taken_by_reading (readings_in m.turn) (readings_of turns)
    ∙ ap (λ (ds : List Datagram). ds ++ flat_map taken_by_reading (readings_of turns)) (turn_took m.desk m.turn)
    ∙ ap (λ (ds : List Datagram). (stage_in m.desk m.turn).taken ++ ds) (turns_took turns)
  where
    turn_took : (d : Desk) (t : Option Turn) → flat_map taken_by_reading (readings_in t) ≡ (stage_in d t).taken
    turn_took d None = refl
    turn_took d (Some t) = refl

endings_took : (endings : List MadeEnd) → flat_map taken_of (map (λ m. end_stage_in m.desk m.turn) endings) ≡ []
endings_took [] = refl
endings_took (m ∷ endings) = ap (λ (ds : List Datagram). ds ++ flat_map taken_of (map (λ (x : MadeEnd). end_stage_in x.desk x.turn) endings)) (end_took m.desk m.turn) ∙ endings_took endings
  where
    end_took : (d : Desk) (t : Late) → (end_stage_in d t).taken ≡ []
    end_took d (Ends None) = refl
    end_took d (Ends (Some t)) = refl
    end_took d (Waits t) = refl

-- what was taken from the end for tunnels, the access ports and the core is what the stages took there, in their order
pub stages_taken : (d d' : Desk) (turns : List Made) (endings : List MadeEnd) → Run d turns d' → on_data (plant_of turns endings).taken ≡ flat_map (λ s. s.taken) (stages_of turns endings)
stages_taken d d' turns endings run =
    let serving = map (λ (m : Made). stage_in m.desk m.turn) turns in
    let ending = map (λ (m : MadeEnd). end_stage_in m.desk m.turn) endings in
    taken_are d d' turns endings run
    ∙ turns_took turns
    ∙ sym (append-nil (flat_map taken_of serving))
    ∙ ap (λ (ds : List Datagram). flat_map taken_of serving ++ ds) (sym (endings_took endings))
    ∙ sym (flat_map-append taken_of serving ending)
