-- What was sent on Acct are the requests of accounting: no round has anything to send there.
use Rattle.std.proofs.Common.{◌≡◌, ℕ, Bool, true, false, ◌||◌, cond, List, [], ◌∷◌, ◌++◌, map, Option, Some, None, refl, sym, ap, subst, ◌∙◌}
use Rattle.std.specs.Prelude.{filter, MatchOption, if◌then◌else◌}
use Rattle.std.specs.List.{AllByRecursion, flat_map}
use Rattle.std.proofs.lemmas.Bool.{false≢true}
use Rattle.std.proofs.lemmas.List.Concat.{flat_map-append}
use Rattle.std.proofs.lemmas.List.Elements.{filter-append}
use Rattle.bng_base.specs.declared.address.Peer.{Peer}
use Rattle.bng_base.specs.declared.circuit.Circuit.{Circuit}
use Rattle.bng_base.specs.declared.circuit.Circuit.TheVariants.{Pppoe, L2tp}
use Rattle.bng_base.specs.declared.item.Charge.{Charge}
use Rattle.bng_base.specs.declared.item.OutRecord.{OutRecord}
use Rattle.bng_base.specs.declared.outside.Datagram.{Datagram}
use Rattle.bng_base.specs.declared.outside.Role.{Role}
use Rattle.bng_base.specs.declared.outside.Role.TheVariants.{Access, Core, Tunnel, Auth, Acct, Coa, Control}
use Rattle.bng_base.specs.Roles.{is_access}
use Rattle.bng_engine.specs.Laws.{sends_of}
use Rattle.bng_engine.specs.Terms.{Key}
use Rattle.bng_engine.specs.Wire.{datagram_of, went}
use Rattle.bng_engine.proofs.Everywhere.{all_weaker}
use Rattle.bng_lane.specs.Sends.{LaneSend}
use Rattle.bng_steps.specs.Reader.{is_tunnel, IsInDirection, IsNoPacket, IsOutputOn}
use Rattle.bng_desk.specs.Accounting.{record_datagram, record_sends}
use Rattle.bng_desk.specs.Coa.{CoaReplies, CoaSend, coa_datagram, coa_sends}
use Rattle.bng_desk.specs.Control.{Heeded, reply, is_answered}
use Rattle.bng_desk.specs.Logins.{lane_datagram, lane_sends}
use Rattle.bng_desk.specs.Model.{Desk}
use Rattle.bng_desk.specs.Report.{stats_text}
use Rattle.bng_desk.specs.Round.{Round}
use Rattle.bng_desk.specs.Turn.{Turn, stretch_of}
use Rattle.bng_gate.specs.Granted.{Stage, stage_in, end_stage_in, stages_of}
use Rattle.bng_gate.specs.Rounds.{end_round_in, is_acct, on_acct, plant_of, round_in, rounds_in, rounds_of}
use Rattle.bng_gate.specs.Serving.{Made, MadeEnd, Late, Ends, Waits, late_stretch, run_stretch, ending_stretch}
use Rattle.bng_gate.proofs.Keys.{IsOurs}
use Rattle.bng_gate.proofs.Lists.{all_left, all_right}
use Rattle.bng_gate.proofs.Telling.{end_out, grace_out, requested, sends_are, sends_in, turn_out}

abbrev pub IsElse : OutRecord → Type 0
IsElse o = is_acct o.role ≡ false

-- What a round has to send -----------------------------------------------------------------------------------------------------------

no_way_acct : (role : Role) → (is_access role || is_tunnel role) ≡ true → is_acct role ≡ false
no_way_acct (Access number) e = refl
no_way_acct Core e = absurd (false≢true e)
no_way_acct Tunnel e = refl
no_way_acct Auth e = absurd (false≢true e)
no_way_acct Acct e = absurd (false≢true e)
no_way_acct Coa e = absurd (false≢true e)
no_way_acct Control e = absurd (false≢true e)

circuit_else : (k : Circuit) (c : Charge) (role : Role) (to : Peer) (octets : List ℕ) → IsOutputOn k c role to octets → is_acct role ≡ false
circuit_else (Pppoe port mac session) c role to octets h = ap is_acct h.role_is
circuit_else (L2tp peer tunnel session) c role to octets h = ap is_acct h.role_is

directed_else : (b : Bool) (c : Charge) (role : Role) (to : Peer) (octets : List ℕ) → IsInDirection b c role to octets → is_acct role ≡ false
directed_else true c role to octets h = ap is_acct h.role_is
directed_else false c role to octets h = circuit_else c.circuit c role to octets h

whole_else : (role : Role) (to : Peer) (octets : List ℕ) (charge : Option Charge) → MatchOption charge (IsNoPacket role octets) (λ c. IsInDirection c.input c role to octets) → is_acct role ≡ false
whole_else role to octets None h = no_way_acct role h.on_way
whole_else role to octets (Some c) h = directed_else c.input c role to octets h

-- each is of another role
pub all_else : (Q : Key → Type 0) (os : List OutRecord) → AllByRecursion (IsOurs Q) os → AllByRecursion IsElse os
all_else Q os ours = all_weaker (IsOurs Q) IsElse (λ o is. whole_else o.role o.to o.frame o.charge is.whole) os ours

went_else : (os : List OutRecord) → AllByRecursion IsElse os → on_acct (went os) ≡ []
went_else [] h = refl
went_else (o ∷ os) h = by_sent o.sent (went_else os h.1)
  where
    by_sent : (b : Bool) → on_acct (went os) ≡ [] → on_acct (map datagram_of (cond b (o ∷ filter (λ (x : OutRecord). x.sent) os) (filter (λ (x : OutRecord). x.sent) os))) ≡ []
    by_sent true rest = ap (λ (b : Bool). cond b (datagram_of o ∷ on_acct (went os)) (on_acct (went os))) h.0 ∙ rest
    by_sent false rest = rest

-- What a turn sends ------------------------------------------------------------------------------------------------------------------

acct_append : (a b : List Datagram) → on_acct (a ++ b) ≡ on_acct a ++ on_acct b
acct_append a b = filter-append (λ (d : Datagram). is_acct d.role) a b

no_answers : (stats : List ℕ) (hs : List Heeded) → on_acct (map (reply stats) hs) ≡ []
no_answers stats [] = refl
no_answers stats (h ∷ hs) = no_answers stats hs

one_reply : (to : Peer) (octets : List ℕ) (b : Bool) (ds : List Datagram) → on_acct ((if b then record { role = Coa; peer = to; octets = octets } ∷ [] else []) ++ ds) ≡ on_acct ds
one_reply to octets true ds = refl
one_reply to octets false ds = refl

none_replied : (ss : List CoaSend) → on_acct (flat_map coa_datagram ss) ≡ []
none_replied [] = refl
none_replied (s ∷ ss) = one_reply s.reply.to s.reply.octets s.sent (flat_map coa_datagram ss) ∙ none_replied ss

one_asked : (server : Peer) (octets : List ℕ) (b : Bool) (ds : List Datagram) → on_acct ((if b then record { role = Auth; peer = server; octets = octets } ∷ [] else []) ++ ds) ≡ on_acct ds
one_asked server octets true ds = refl
one_asked server octets false ds = refl

none_asked : (server : Peer) (ss : List LaneSend) → on_acct (flat_map (lane_datagram server) ss) ≡ []
none_asked server [] = refl
none_asked server (s ∷ ss) = one_asked server s.octets s.sent (flat_map (lane_datagram server) ss) ∙ none_asked server ss

one_recorded : (server : Peer) (octets : List ℕ) (b : Bool) (ds : List Datagram)
    → on_acct ((if b then record { role = Acct; peer = server; octets = octets } ∷ [] else []) ++ ds) ≡ (if b then record { role = Acct; peer = server; octets = octets } ∷ [] else []) ++ on_acct ds
one_recorded server octets true ds = refl
one_recorded server octets false ds = refl

all_recorded : (server : Peer) (ss : List LaneSend) → on_acct (flat_map (record_datagram server) ss) ≡ flat_map (record_datagram server) ss
all_recorded server [] = refl
all_recorded server (s ∷ ss) =
    one_recorded server s.octets s.sent (flat_map (record_datagram server) ss)
    ∙ ap (λ (ds : List Datagram). record_datagram server s ++ ds) (all_recorded server ss)

settled_sent : (d : Desk) (round : Option Round) (replies : CoaReplies) (asked records : List LaneSend) → AllByRecursion IsElse (sends_in round)
    → on_acct (went (sends_in round) ++ (flat_map coa_datagram (coa_sends replies) ++ (flat_map (lane_datagram d.lane.client.auth_server) asked ++ flat_map (record_datagram d.billing.client.acct_server) records)))
    ≡ flat_map (record_datagram d.billing.client.acct_server) records
settled_sent d round replies asked records elsewhere =
    let replied = flat_map coa_datagram (coa_sends replies) in
    let first = flat_map (lane_datagram d.lane.client.auth_server) asked in
    let last = flat_map (record_datagram d.billing.client.acct_server) records in
    acct_append (went (sends_in round)) (replied ++ (first ++ last))
    ∙ ap (λ (ds : List Datagram). ds ++ on_acct (replied ++ (first ++ last))) (went_else (sends_in round) elsewhere)
    ∙ acct_append replied (first ++ last)
    ∙ ap (λ (ds : List Datagram). ds ++ on_acct (first ++ last)) (none_replied (coa_sends replies))
    ∙ acct_append first last
    ∙ ap (λ (ds : List Datagram). ds ++ on_acct last) (none_asked d.lane.client.auth_server asked)
    ∙ all_recorded d.billing.client.acct_server records

turn_sent : (d : Desk) (t : Option Turn) → AllByRecursion IsElse (sends_in (round_in t)) → on_acct (stretch_of d t).plant.sent ≡ (stage_in d t).records
turn_sent d None elsewhere = refl
turn_sent d (Some t) elsewhere =
    let rest = went (sends_in t.round) ++ requested d t.replies t.requests t.records in
    ap on_acct (turn_out d t)
    ∙ acct_append (map (reply (stats_text d)) (filter is_answered t.control)) rest
    ∙ ap (λ (ds : List Datagram). ds ++ on_acct rest) (no_answers (stats_text d) (filter is_answered t.control))
    ∙ settled_sent d t.round t.replies (lane_sends t.requests) (record_sends t.records) elsewhere

end_sent : (d : Desk) (t : Late) → AllByRecursion IsElse (sends_in (end_round_in t)) → on_acct (late_stretch d t).plant.sent ≡ (end_stage_in d t).records
end_sent d (Ends None) elsewhere = refl
end_sent d (Waits t) elsewhere = ap on_acct (grace_out d t) ∙ all_recorded d.billing.client.acct_server (record_sends t.records)
end_sent d (Ends (Some t)) elsewhere = ap on_acct (end_out d t) ∙ settled_sent d t.round t.replies (lane_sends t.requests) (record_sends t.records) elsewhere

-- What the turns send ------------------------------------------------------------------------------------------------------------------

abbrev records_in : Stage → List Datagram
records_in s = s.records

turns_sent : (turns : List Made) → AllByRecursion IsElse (flat_map sends_in (map (λ m. round_in m.turn) turns)) → on_acct (run_stretch turns).plant.sent ≡ flat_map records_in (map (λ m. stage_in m.desk m.turn) turns)
turns_sent [] elsewhere = refl
turns_sent (m ∷ turns) elsewhere =
    let here = sends_in (round_in m.turn) in
    let later = flat_map sends_in (map (λ (x : Made). round_in x.turn) turns) in
    acct_append (stretch_of m.desk m.turn).plant.sent (run_stretch turns).plant.sent
    ∙ ap (λ (ds : List Datagram). ds ++ on_acct (run_stretch turns).plant.sent) (turn_sent m.desk m.turn (all_left IsElse here later elsewhere))
    ∙ ap (λ (ds : List Datagram). (stage_in m.desk m.turn).records ++ ds) (turns_sent turns (all_right IsElse here later elsewhere))

endings_sent : (endings : List MadeEnd) → AllByRecursion IsElse (flat_map sends_in (map (λ m. end_round_in m.turn) endings)) → on_acct (ending_stretch endings).plant.sent ≡ flat_map records_in (map (λ m. end_stage_in m.desk m.turn) endings)
endings_sent [] elsewhere = refl
endings_sent (m ∷ endings) elsewhere =
    let here = sends_in (end_round_in m.turn) in
    let later = flat_map sends_in (map (λ (x : MadeEnd). end_round_in x.turn) endings) in
    acct_append (late_stretch m.desk m.turn).plant.sent (ending_stretch endings).plant.sent
    ∙ ap (λ (ds : List Datagram). ds ++ on_acct (ending_stretch endings).plant.sent) (end_sent m.desk m.turn (all_left IsElse here later elsewhere))
    ∙ ap (λ (ds : List Datagram). (end_stage_in m.desk m.turn).records ++ ds) (endings_sent endings (all_right IsElse here later elsewhere))

-- what was sent on Acct is what the stages sent there, in their order
pub stages_recorded : (turns : List Made) (endings : List MadeEnd) → AllByRecursion IsElse (sends_of (rounds_of turns endings)) → on_acct (plant_of turns endings).sent ≡ flat_map (λ s. s.records) (stages_of turns endings)
stages_recorded turns endings elsewhere =
    let serving = map (λ (m : Made). round_in m.turn) turns in
    let closing = map (λ (m : MadeEnd). end_round_in m.turn) endings in
    let first = flat_map sends_in serving in
    let last = flat_map sends_in closing in
    let each : AllByRecursion IsElse (first ++ last) = subst (AllByRecursion IsElse) (sends_are (rounds_in turns endings) ∙ flat_map-append sends_in serving closing) elsewhere in
    acct_append (run_stretch turns).plant.sent (ending_stretch endings).plant.sent
    ∙ ap (λ (ds : List Datagram). ds ++ on_acct (ending_stretch endings).plant.sent) (turns_sent turns (all_left IsElse first last each))
    ∙ ap (λ (ds : List Datagram). flat_map records_in (map (λ (m : Made). stage_in m.desk m.turn) turns) ++ ds) (endings_sent endings (all_right IsElse first last each))
    ∙ sym (flat_map-append records_in (map (λ (m : Made). stage_in m.desk m.turn) turns) (map (λ (m : MadeEnd). end_stage_in m.desk m.turn) endings))
