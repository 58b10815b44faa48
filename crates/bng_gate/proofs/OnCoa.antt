-- What was sent on Coa are the replies to requests for changes: no round has anything to send there.
use Rattle.std.proofs.Common.{◌≡◌, ℕ, Bool, true, false, ◌||◌, cond, List, [], ◌∷◌, ◌++◌, map, Option, Some, None, refl, sym, ap, subst, ◌∙◌, append-nil}
use Rattle.std.specs.Prelude.{filter, MatchOption, if◌then◌else◌}
use Rattle.std.specs.List.{AllByRecursion, flat_map}
use Rattle.std.proofs.lemmas.Bool.{false≢true}
use Rattle.std.proofs.lemmas.List.Concat.{flat_map-append}
use Rattle.std.proofs.lemmas.List.Elements.{filter-append}
use Rattle.bng_base.specs.declared.address.Peer.{Peer}
use Rattle.bng_base.specs.declared.circuit.Circuit.{Circuit}
use Rattle.bng_base.specs.declared.circuit.Circuit.TheVariants.{Pppoe, L2tp}
use Rattle.bng_base.specs.declared.item.Charge.{Charge}
use Rattle.bng_base.specs.declared.item.OutRecord.{OutRecord}
use Rattle.bng_base.specs.declared.outside.Datagram.{Datagram}
use Rattle.bng_base.specs.declared.outside.Role.{Role}
use Rattle.bng_base.specs.declared.outside.Role.TheVariants.{Access, Core, Tunnel, Auth, Acct, Coa, Control}
use Rattle.bng_base.specs.Roles.{is_access}
use Rattle.bng_engine.specs.Laws.{sends_of}
use Rattle.bng_engine.specs.Terms.{Key}
use Rattle.bng_engine.specs.Wire.{datagram_of, went}
use Rattle.bng_engine.proofs.Everywhere.{all_weaker}
use Rattle.bng_lane.specs.Sends.{LaneSend}
use Rattle.bng_steps.specs.Reader.{is_tunnel, IsInDirection, IsNoPacket, IsOutputOn}
use Rattle.bng_desk.specs.Accounting.{record_datagram, record_sends}
use Rattle.bng_desk.specs.Coa.{CoaReplies, CoaSend, coa_datagram, coa_sends}
use Rattle.bng_desk.specs.Control.{Heeded, reply, is_answered}
use Rattle.bng_desk.specs.Logins.{lane_datagram, lane_sends}
use Rattle.bng_desk.specs.Model.{Desk}
use Rattle.bng_desk.specs.Report.{stats_text}
use Rattle.bng_desk.specs.Round.{Round}
use Rattle.bng_desk.specs.Turn.{Turn, stretch_of}
use Rattle.bng_gate.specs.Rounds.{end_replies_in, end_round_in, is_coa, on_coa, plant_of, replies_in, replies_of, round_in, rounds_in, rounds_of}
use Rattle.bng_gate.specs.Serving.{Made, MadeEnd, Late, Ends, Waits, late_stretch, run_stretch, ending_stretch}
use Rattle.bng_gate.proofs.Keys.{IsOurs}
use Rattle.bng_gate.proofs.Lists.{all_left, all_right}
use Rattle.bng_gate.proofs.Telling.{end_out, grace_out, requested, sends_are, sends_in, turn_out}

abbrev pub IsBesideCoa : OutRecord → Type 0
IsBesideCoa o = is_coa o.role ≡ false

-- What a round has to send -----------------------------------------------------------------------------------------------------------

no_way_coa : (role : Role) → (is_access role || is_tunnel role) ≡ true → is_coa role ≡ false
no_way_coa (Access number) e = refl
no_way_coa Core e = absurd (false≢true e)
no_way_coa Tunnel e = refl
no_way_coa Auth e = absurd (false≢true e)
no_way_coa Acct e = absurd (false≢true e)
no_way_coa Coa e = absurd (false≢true e)
no_way_coa Control e = absurd (false≢true e)

circuit_beside : (k : Circuit) (c : Charge) (role : Role) (to : Peer) (octets : List ℕ) → IsOutputOn k c role to octets → is_coa role ≡ false
circuit_beside (Pppoe port mac session) c role to octets h = ap is_coa h.role_is
circuit_beside (L2tp peer tunnel session) c role to octets h = ap is_coa h.role_is

directed_beside : (b : Bool) (c : Charge) (role : Role) (to : Peer) (octets : List ℕ) → IsInDirection b c role to octets → is_coa role ≡ false
directed_beside true c role to octets h = ap is_coa h.role_is
directed_beside false c role to octets h = circuit_beside c.circuit c role to octets h

whole_beside : (role : Role) (to : Peer) (octets : List ℕ) (charge : Option Charge) → MatchOption charge (IsNoPacket role octets) (λ c. IsInDirection c.input c role to octets) → is_coa role ≡ false
whole_beside role to octets None h = no_way_coa role h.on_way
whole_beside role to octets (Some c) h = directed_beside c.input c role to octets h

-- each is of another role
pub all_beside_coa : (Q : Key → Type 0) (os : List OutRecord) → AllByRecursion (IsOurs Q) os → AllByRecursion IsBesideCoa os
all_beside_coa Q os ours = all_weaker (IsOurs Q) IsBesideCoa (λ o is. whole_beside o.role o.to o.frame o.charge is.whole) os ours

went_beside : (os : List OutRecord) → AllByRecursion IsBesideCoa os → on_coa (went os) ≡ []
went_beside [] h = refl
went_beside (o ∷ os) h = by_sent o.sent (went_beside os h.1)
  where
    by_sent : (b : Bool) → on_coa (went os) ≡ [] → on_coa (map datagram_of (cond b (o ∷ filter (λ (x : OutRecord). x.sent) os) (filter (λ (x : OutRecord). x.sent) os))) ≡ []
    by_sent true rest = ap (λ (b : Bool). cond b (datagram_of o ∷ on_coa (went os)) (on_coa (went os))) h.0 ∙ rest
    by_sent false rest = rest

-- What a turn sends ------------------------------------------------------------------------------------------------------------------

coa_append : (a b : List Datagram) → on_coa (a ++ b) ≡ on_coa a ++ on_coa b
coa_append a b = filter-append (λ (d : Datagram). is_coa d.role) a b

no_answers : (stats : List ℕ) (hs : List Heeded) → on_coa (map (reply stats) hs) ≡ []
no_answers stats [] = refl
no_answers stats (h ∷ hs) = no_answers stats hs

one_asked : (server : Peer) (octets : List ℕ) (b : Bool) (ds : List Datagram) → on_coa ((if b then record { role = Auth; peer = server; octets = octets } ∷ [] else []) ++ ds) ≡ on_coa ds
one_asked server octets true ds = refl
one_asked server octets false ds = refl

none_asked : (server : Peer) (ss : List LaneSend) → on_coa (flat_map (lane_datagram server) ss) ≡ []
none_asked server [] = refl
none_asked server (s ∷ ss) = one_asked server s.octets s.sent (flat_map (lane_datagram server) ss) ∙ none_asked server ss

one_recorded : (server : Peer) (octets : List ℕ) (b : Bool) (ds : List Datagram) → on_coa ((if b then record { role = Acct; peer = server; octets = octets } ∷ [] else []) ++ ds) ≡ on_coa ds
one_recorded server octets true ds = refl
one_recorded server octets false ds = refl

none_recorded : (server : Peer) (ss : List LaneSend) → on_coa (flat_map (record_datagram server) ss) ≡ []
none_recorded server [] = refl
none_recorded server (s ∷ ss) = one_recorded server s.octets s.sent (flat_map (record_datagram server) ss) ∙ none_recorded server ss

one_reply : (to : Peer) (octets : List ℕ) (b : Bool) (ds : List Datagram)
    → on_coa ((if b then record { role = Coa; peer = to; octets = octets } ∷ [] else []) ++ ds) ≡ (if b then record { role = Coa; peer = to; octets = octets } ∷ [] else []) ++ on_coa ds
one_reply to octets true ds = refl
one_reply to octets false ds = refl

all_replied : (ss : List CoaSend) → on_coa (flat_map coa_datagram ss) ≡ flat_map coa_datagram ss
all_replied [] = refl
all_replied (s ∷ ss) =
    one_reply s.reply.to s.reply.octets s.sent (flat_map coa_datagram ss)
    ∙ ap (λ (ds : List Datagram). coa_datagram s ++ ds) (all_replied ss)

settled_sent : (d : Desk) (round : Option Round) (replies : CoaReplies) (asked records : List LaneSend) → AllByRecursion IsBesideCoa (sends_in round)
    → on_coa (went (sends_in round) ++ (flat_map coa_datagram (coa_sends replies) ++ (flat_map (lane_datagram d.lane.client.auth_server) asked ++ flat_map (record_datagram d.billing.client.acct_server) records)))
    ≡ flat_map coa_datagram (coa_sends replies)
settled_sent d round replies asked records elsewhere =
    let replied = flat_map coa_datagram (coa_sends replies) in
    let first = flat_map (lane_datagram d.lane.client.auth_server) asked in
    let last = flat_map (record_datagram d.billing.client.acct_server) records in
    coa_append (went (sends_in round)) (replied ++ (first ++ last))
    ∙ ap (λ (ds : List Datagram). ds ++ on_coa (replied ++ (first ++ last))) (went_beside (sends_in round) elsewhere)
    ∙ coa_append replied (first ++ last)
    ∙ ap (λ (ds : List Datagram). ds ++ on_coa (first ++ last)) (all_replied (coa_sends replies))
    ∙ ap (λ (ds : List Datagram). replied ++ ds) (coa_append first last)
    ∙ ap (λ (ds : List Datagram). replied ++ (ds ++ on_coa last)) (none_asked d.lane.client.auth_server asked)
    ∙ ap (λ (ds : List Datagram). replied ++ ds) (none_recorded d.billing.client.acct_server records)
    ∙ append-nil replied

turn_sent : (d : Desk) (t : Option Turn) → AllByRecursion IsBesideCoa (sends_in (round_in t)) → on_coa (stretch_of d t).plant.sent ≡ flat_map coa_datagram (replies_in t)
turn_sent d None elsewhere = refl
turn_sent d (Some t) elsewhere =
    let rest = went (sends_in t.round) ++ requested d t.replies t.requests t.records in
    ap on_coa (turn_out d t)
    ∙ coa_append (map (reply (stats_text d)) (filter is_answered t.control)) rest
    ∙ ap (λ (ds : List Datagram). ds ++ on_coa rest) (no_answers (stats_text d) (filter is_answered t.control))
    ∙ settled_sent d t.round t.replies (lane_sends t.requests) (record_sends t.records) elsewhere

end_sent : (d : Desk) (t : Late) → AllByRecursion IsBesideCoa (sends_in (end_round_in t)) → on_coa (late_stretch d t).plant.sent ≡ flat_map coa_datagram (end_replies_in t)
end_sent d (Ends None) elsewhere = refl
end_sent d (Waits t) elsewhere = ap on_coa (grace_out d t) ∙ none_recorded d.billing.client.acct_server (record_sends t.records)
end_sent d (Ends (Some t)) elsewhere = ap on_coa (end_out d t) ∙ settled_sent d t.round t.replies (lane_sends t.requests) (record_sends t.records) elsewhere

-- What the turns send ------------------------------------------------------------------------------------------------------------------

turns_sent : (turns : List Made) → AllByRecursion IsBesideCoa (flat_map sends_in (map (λ m. round_in m.turn) turns)) → on_coa (run_stretch turns).plant.sent ≡ flat_map coa_datagram (flat_map (λ m. replies_in m.turn) turns)
turns_sent [] elsewhere = refl
turns_sent (m ∷ turns) elsewhere =
    let here = sends_in (round_in m.turn) in
    let later = flat_map sends_in (map (λ (x : Made). round_in x.turn) turns) in
    let replies = flat_map (λ (x : Made). replies_in x.turn) turns in
    coa_append (stretch_of m.desk m.turn).plant.sent (run_stretch turns).plant.sent
    ∙ ap (λ (ds : List Datagram). ds ++ on_coa (run_stretch turns).plant.sent) (turn_sent m.desk m.turn (all_left IsBesideCoa here later elsewhere))
    ∙ ap (λ (ds : List Datagram). flat_map coa_datagram (replies_in m.turn) ++ ds) (turns_sent turns (all_right IsBesideCoa here later elsewhere))
    ∙ sym (flat_map-append coa_datagram (replies_in m.turn) replies)

endings_sent : (endings : List MadeEnd) → AllByRecursion IsBesideCoa (flat_map sends_in (map (λ m. end_round_in m.turn) endings)) → on_coa (ending_stretch endings).plant.sent ≡ flat_map coa_datagram (flat_map (λ m. end_replies_in m.turn) endings)
endings_sent [] elsewhere = refl
endings_sent (m ∷ endings) elsewhere =
    let here = sends_in (end_round_in m.turn) in
    let later = flat_map sends_in (map (λ (x : MadeEnd). end_round_in x.turn) endings) in
    let replies = flat_map (λ (x : MadeEnd). end_replies_in x.turn) endings in
    coa_append (late_stretch m.desk m.turn).plant.sent (ending_stretch endings).plant.sent
    ∙ ap (λ (ds : List Datagram). ds ++ on_coa (ending_stretch endings).plant.sent) (end_sent m.desk m.turn (all_left IsBesideCoa here later elsewhere))
    ∙ ap (λ (ds : List Datagram). flat_map coa_datagram (end_replies_in m.turn) ++ ds) (endings_sent endings (all_right IsBesideCoa here later elsewhere))
    ∙ sym (flat_map-append coa_datagram (end_replies_in m.turn) replies)

-- what was sent on Coa are the replies of the turns, in their order
pub replies_sent : (turns : List Made) (endings : List MadeEnd) → AllByRecursion IsBesideCoa (sends_of (rounds_of turns endings)) → on_coa (plant_of turns endings).sent ≡ flat_map coa_datagram (replies_of turns endings)
replies_sent turns endings elsewhere =
    let serving = map (λ (m : Made). round_in m.turn) turns in
    let closing = map (λ (m : MadeEnd). end_round_in m.turn) endings in
    let first = flat_map sends_in serving in
    let last = flat_map sends_in closing in
    let each : AllByRecursion IsBesideCoa (first ++ last) = subst (AllByRecursion IsBesideCoa) (sends_are (rounds_in turns endings) ∙ flat_map-append sends_in serving closing) elsewhere in
    let replied = flat_map (λ (m : Made). replies_in m.turn) turns in
    let replied_last = flat_map (λ (m : MadeEnd). end_replies_in m.turn) endings in
    coa_append (run_stretch turns).plant.sent (ending_stretch endings).plant.sent
    ∙ ap (λ (ds : List Datagram). ds ++ on_coa (ending_stretch endings).plant.sent) (turns_sent turns (all_left IsBesideCoa first last each))
    ∙ ap (λ (ds : List Datagram). flat_map coa_datagram replied ++ ds) (endings_sent endings (all_right IsBesideCoa first last each))
    ∙ sym (flat_map-append coa_datagram replied replied_last)
