-- Each reply of the RADIUS server is the reply to a request that was sent before it.
use Rattle.std.proofs.Common.{◌≡◌, ◌⊎◌, inl, inr, ⊎_elim, ℕ, zero, suc, ◌+◌, ◌<◌, ◌≤◌, Bool, true, false, cond, List, [], ◌∷◌, ◌++◌, length, get_or, map, take, Option, Some, None, Contains, refl, sym, ap, subst, ◌∙◌, arith}
use Rattle.std.specs.Prelude.{filter, slice_get, not}
use Rattle.std.specs.List.{flat_map, range_with_len}
use Rattle.std.proofs.lemmas.Bool.{false≢true}
use Rattle.bng_base.specs.declared.address.Peer.{Peer}
use Rattle.bng_base.specs.declared.item.Entry.{Entry}
use Rattle.bng_base.specs.declared.outside.Datagram.{Datagram}
use Rattle.bng_base.specs.declared.outside.Role.TheVariants.{Auth}
use Rattle.bng_base.specs.Chain.{Chain}
use Rattle.bng_config.specs.declared.config.Config.{Config}
use Rattle.bng_engine.specs.Lists.{AnyOf}
use Rattle.bng_engine.specs.Views.{ShardView}
use Rattle.bng_access.specs.declared.rules.NasRules.{NasRules}
use Rattle.bng_access.specs.Request.{request_of}
use Rattle.bng_lane.specs.Due.{GivesUp}
use Rattle.bng_lane.specs.Laws.{but_for_digest}
use Rattle.bng_lane.specs.Replies.{Takes}
use Rattle.bng_lane.specs.Sends.{LaneSend, LaneAsk, Resends, Asks}
use Rattle.bng_lane.specs.State.{LaneState, IsNewLane, flag_of, places_of}
use Rattle.bng_lane.proofs.Answering.{answer_of, says_question}
use Rattle.bng_lane.proofs.Knowing.{Serves, takes_serves, gives_up_serves, resends_serves, asks_serves}
use Rattle.bng_lane.proofs.Places.{no_request}
use Rattle.bng_rad_client.specs.declared.pending.Pending.{Pending}
use Rattle.bng_rad_client.specs.declared.rules.Owner.{Owner}
use Rattle.bng_rad_client.specs.declared.rules.Owner.TheVariants.{Ask, Record}
use Rattle.bng_rad_client.specs.Replies.{authenticator_of}
use Rattle.bng_rad_client.specs.Table.{Table, request_of as request_at}
use Rattle.bng_radius_wire.specs.Codes.{access_request}
use Rattle.bng_radius_wire.specs.Digests.{IsSigned}
use Rattle.bng_radius_wire.specs.Grammar.{Packet, IsRadius}
use Rattle.bng_radius_wire.proofs.Exact.{one_packet}
use Rattle.bng_steps.specs.Protocol.{ShardState}
use Rattle.bng_steps.specs.Questions.{Asking, asking_from, questions_of, is_handed, waiting}
use Rattle.bng_verdict.specs.declared.question.QuestionNo.{QuestionNo}
use Rattle.bng_desk.specs.Logins.{Answered, Hears, SettlesLane, lane_datagram, lane_sends, waiting_in}
use Rattle.bng_desk.specs.Model.{Desk}
use Rattle.bng_desk.specs.Opening.{IsOpened, lane_rules}
use Rattle.bng_desk.specs.Random.{draw}
use Rattle.bng_desk.specs.Turn.{Turn, Step, LaneTurn, new_items}
use Rattle.bng_gate.specs.Granted.{stage_in}
use Rattle.bng_gate.specs.Replied.{SentIn, OpenIn, AskedIn, IsReplied, AreReplied, answers_in, drawn_before, shards_left}
use Rattle.bng_gate.specs.Serving.{Made, Run}
use Rattle.bng_gate.proofs.Draws.{draw_at, seed_stays}
use Rattle.bng_gate.proofs.Lists.{contained}
use Rattle.bng_gate.proofs.Outstanding.{AllOut, Goes, out_less, takes_out, gives_up_out, resends_out, asks_out}

-- Lists ---------------------------------------------------------------------------------------------------------------------

module _ {X : Type 0} where
  one_of : (xs : List X) (x : X) (k : ℕ) → k < length xs → get_or xs k x ≡ x → AnyOf (λ y. y ≡ x) xs
  one_of [] x k l e = absurd (omega (arith, l))
  one_of (y ∷ xs) x zero l e = inl e
  one_of (y ∷ xs) x (suc k) l e = inr (one_of xs x k (omega (arith, l)) e)

  any_weaker : (P Q : X → Type 0) → ((x : X) → P x → Q x) → (xs : List X) → AnyOf P xs → AnyOf Q xs
  any_weaker P Q f [] h = absurd h
  any_weaker P Q f (x ∷ xs) (inl h) = inl (f x h)
  any_weaker P Q f (x ∷ xs) (inr h) = inr (any_weaker P Q f xs h)

  any_left : (P : X → Type 0) (xs ys : List X) → AnyOf P xs → AnyOf P (xs ++ ys)
  any_left P [] ys h = absurd h
  any_left P (x ∷ xs) ys (inl h) = inl h
  any_left P (x ∷ xs) ys (inr h) = inr (any_left P xs ys h)

  any_right : (P : X → Type 0) (xs ys : List X) → AnyOf P ys → AnyOf P (xs ++ ys)
  any_right P [] ys h = h
  any_right P (x ∷ xs) ys h = inr (any_right P xs ys h)

  any_cases : (P : X → Type 0) (xs ys : List X) → AnyOf P (xs ++ ys) → AnyOf P xs ⊎ AnyOf P ys
  any_cases P [] ys h = inr h
  any_cases P (x ∷ xs) ys (inl h) = inl (inl h)
  any_cases P (x ∷ xs) ys (inr h) = ⊎_elim (λ a. inl (inr a)) (λ b. inr b) (any_cases P xs ys h)

  any_taken : (P : X → Type 0) (n : ℕ) (xs : List X) → AnyOf P (take n xs) → AnyOf P xs
  any_taken P zero xs h = absurd h
  any_taken P (suc n) [] h = absurd h
  any_taken P (suc n) (x ∷ xs) (inl h) = inl h
  any_taken P (suc n) (x ∷ xs) (inr h) = inr (any_taken P n xs h)

  any_passed : (P : X → Type 0) (test : X → Bool) (xs : List X) → AnyOf P (filter test xs) → AnyOf P xs
  any_passed P test [] h = absurd h
  any_passed P test (x ∷ xs) h = by_test (test x) (any_passed P test xs) h
    where
      by_test : (b : Bool) → (AnyOf P (filter test xs) → AnyOf P xs) → AnyOf P (cond b (x ∷ filter test xs) (filter test xs)) → AnyOf P (x ∷ xs)
      by_test true rest (inl h) = inl h
      by_test true rest (inr h) = inr (rest h)
      by_test false rest h = inr (rest h)

any_mapped : {X Y : Type 0} (f : X → Y) (x : X) (xs : List X) → AnyOf (λ y. y ≡ x) xs → AnyOf (λ z. z ≡ f x) (map f xs)
any_mapped f x [] h = absurd h
any_mapped f x (y ∷ xs) (inl e) = inl (ap f e)
any_mapped f x (y ∷ xs) (inr h) = inr (any_mapped f x xs h)

any_flat : {X Y : Type 0} (f : X → List Y) (P : Y → Type 0) (x : X) (xs : List X) → AnyOf (λ y. y ≡ x) xs → AnyOf P (f x) → AnyOf P (flat_map f xs)
any_flat f P x [] h holds = absurd h
any_flat f P x (y ∷ xs) (inl e) holds = any_left P (f y) (flat_map f xs) (subst (λ z. AnyOf P (f z)) (sym e) holds)
any_flat f P x (y ∷ xs) (inr h) holds = any_right P (f y) (flat_map f xs) (any_flat f P x xs h holds)

place_of : {X : Type 0} (x : X) (xs : List X) → AnyOf (λ y. y ≡ x) xs → (k : ℕ) × (slice_get xs k ≡ Some x)
place_of x [] h = absurd h
place_of x (y ∷ xs) (inl e) = (0, ap Some e)
place_of x (y ∷ xs) (inr h) = let rest = place_of x xs h in (suc rest.0, rest.1)

-- what each step keeps, a chain of such steps keeps
chain_keeps : {S T : Type 0} (step : S → T → S → Type 0) (P : S → Type 0) (s : S) (ts : List T) (s' : S)
    → ((t : T) → AnyOf (λ u. u ≡ t) ts → (a b : S) → step a t b → P a → P b) → Chain step s ts s' → P s → P s'
chain_keeps step P s [] s' keeps e h = subst P (sym e) h
chain_keeps {S} {T} step P s (t ∷ ts) s' keeps (mid, is, rest) h =
    chain_keeps step P mid ts s' (λ (u : T) later. keeps u (inr later)) rest (keeps t (inl refl) s mid is h)

-- the questions that wait are open ones of their shards
waiting_open : (P : Asking → Type 0) (vs : List (ShardView ShardState Entry)) (handed : List (List ℕ)) → AnyOf P (waiting_in vs handed)
    → AnyOf (λ (v : ShardView ShardState Entry). AnyOf P (questions_of v.state.slots)) vs
waiting_open P [] handed h = absurd h
waiting_open P (v ∷ vs) [] h = absurd h
waiting_open P (v ∷ vs) (n ∷ ns) h = ⊎_elim
    (λ here. inl (any_passed P (λ (a : Asking). not (is_handed n a)) (questions_of v.state.slots) here))
    (λ later. inr (waiting_open P vs ns later))
    (any_cases P (waiting v.state.slots n) (waiting_in vs ns) h)

-- What is known -------------------------------------------------------------------------------------------------------------

module _ (config : Config) (seed : List ℕ) (turns : List Made) where
  -- the octets were sent in that turn or a later one, before the one with this number
  record SentSince (since k : ℕ) (octets : List ℕ) : Type 0 where
    sent : ℕ
    after : since ≤ sent
    before : sent < k
    is_sent : SentIn turns sent config.auth_server octets

  -- the octets are the request of this question, under this identifier, which was open and was asked in a turn before the one with this
  -- number; and where they were sent, they were so since
  record Said (k id : ℕ) (q : QuestionNo) (octets : List ℕ) (flag : Bool) : Type 0 where
    put : LaneAsk
    number : put.ask.number ≡ q
    its : put.send.octets ≡ octets
    asked : ℕ
    before : asked < k
    is_open : OpenIn turns asked (asking_from put.ask)
    place : ℕ
    drawn : ℕ
    is_asked : AskedIn seed turns asked place drawn put
    packet : Packet
    is_request : IsRadius packet octets
    code : packet.code ≡ access_request
    id_is : packet.id ≡ id
    authenticator : packet.authenticator ≡ draw seed drawn
    says : map but_for_digest packet.attributes ≡ map but_for_digest (request_of (lane_rules config).nas config.secret.items put.ask packet.authenticator).attributes
    went : flag ≡ true → SentSince asked k octets

  said_later : (k id : ℕ) (q : QuestionNo) (o : List ℕ) (b : Bool) → Said k id q o b → Said (suc k) id q o b
  said_later k id q o b said =
      let lt = said.before in
      record {
        put = said.put;
        number = said.number;
        its = said.its;
        asked = said.asked;
        before = omega (arith, lt);
        is_open = said.is_open;
        place = said.place;
        drawn = said.drawn;
        is_asked = said.is_asked;
        packet = said.packet;
        is_request = said.is_request;
        code = said.code;
        id_is = said.id_is;
        authenticator = said.authenticator;
        says = said.says;
        went = λ flag. let went = said.went flag in let earlier = went.before in record { sent = went.sent; after = went.after; before = omega (arith, earlier); is_sent = went.is_sent };
      }

  -- the same of octets that were sent, or of which nothing is said of that
  said_sent : (k id : ℕ) (q : QuestionNo) (o : List ℕ) (b c : Bool) → (said : Said k id q o b) → (c ≡ true → SentSince said.asked k o) → Said k id q o c
  said_sent k id q o b c said went = record {
    put = said.put;
    number = said.number;
    its = said.its;
    asked = said.asked;
    before = said.before;
    is_open = said.is_open;
    place = said.place;
    drawn = said.drawn;
    is_asked = said.is_asked;
    packet = said.packet;
    is_request = said.is_request;
    code = said.code;
    id_is = said.id_is;
    authenticator = said.authenticator;
    says = said.says;
    went = went;
  }

  said_low : (k id : ℕ) (q : QuestionNo) (o : List ℕ) (b : Bool) → Said k id q o b → Said k id q o false
  said_low k id q o b said = said_sent k id q o b false said (λ e. absurd (false≢true e))

  -- what holds of the lane as the turn with this number finds it
  abbrev Holds : ℕ → LaneState → Type 0
  Holds k l = Serves (lane_rules config).nas config.auth_server config.secret.items l × AllOut (Said k) l

  later : (k : ℕ) (l : LaneState) → Holds k l → Holds (suc k) l
  later k l (s, out) = (s, out_less (Said k) (Said (suc k)) l (said_later k) out)

  hears_keeps : (k : ℕ) (a : Answered) (l l' : LaneState) → Takes l a.arrival.from a.arrival.octets a.found l' → Holds k l → Holds k l'
  hears_keeps k a l l' takes (s, out) = (
    takes_serves (lane_rules config).nas config.auth_server config.secret.items l l' a.arrival.from a.arrival.octets a.found takes s,
    takes_out (Said k) (said_low k) l l' a.arrival.from a.arrival.octets a.found takes out,
  )

  gives_up_keeps : (k now : ℕ) (q : QuestionNo) (l l' : LaneState) → GivesUp l now (Some q) l' → Holds k l → Holds k l'
  gives_up_keeps k now q l l' gives (s, out) = (
    gives_up_serves (lane_rules config).nas config.auth_server config.secret.items l l' now q gives s,
    gives_up_out (Said k) (said_low k) l l' now q gives out,
  )

  same_owner : (a b : QuestionNo) (o : Owner) → o ≡ Ask a.session a.ask → o ≡ Ask b.session b.ask → a ≡ b
  same_owner a b o x y = let both : Ask a.session a.ask ≡ Ask b.session b.ask = sym x ∙ y in ap question both
    where
      question : Owner → QuestionNo
      question (Ask session ask) = record { session = session; ask = ask }
      question (Record number) = a

  -- a datagram that counts is such a reply
  is_replied : (k : ℕ) (from : Peer) (octets : List ℕ) (q : QuestionNo) (l l' : LaneState) → Takes l from octets (Some q) l' → Holds k l → IsReplied config seed turns k from octets q
  is_replied k from octets q l l' takes (s, out) =
      let c = takes.0 in
      let known = out c.packet.id c.request c.reply.pending in
      let said : Said k c.packet.id known.0 c.request.octets (flag_of l c.packet.id) = known.2 in
      let went : SentSince said.asked k c.request.octets = said.went c.sent in
      record {
        server = c.server ∙ s.server_is;
        put = said.put;
        number = said.number ∙ same_owner known.0 q c.request.owner known.1 c.question;
        asked = said.asked;
        is_open = said.is_open;
        place = said.place;
        drawn = said.drawn;
        is_asked = said.is_asked;
        sent = went.sent;
        since = went.after;
        before = went.before;
        is_sent = subst (λ (o : List ℕ). SentIn turns went.sent config.auth_server o) (sym said.its) went.is_sent;
        packet = said.packet;
        is_request = subst (λ (o : List ℕ). IsRadius said.packet o) (sym said.its) said.is_request;
        code = said.code;
        authenticator = said.authenticator;
        says = said.says;
        reply = c.packet;
        is_reply = c.reply.reply.packet;
        one = λ p is. one_packet p c.packet octets is c.reply.reply.packet;
        answer = answer_of c.packet.code c.reply.reply.code;
        same = sym said.id_is;
        signed = subst (λ (x : List ℕ). IsSigned c.packet x config.secret.items) (sym said.is_request.authenticator)
            (subst (IsSigned c.packet (authenticator_of c.request)) s.secret_is c.signed);
      }

  -- each of the datagrams that a turn heard is
  heard_replied : (k : ℕ) (l : LaneState) (answers : List Answered) (l' : LaneState) → Hears l answers l' → Holds k l
      → (place : ℕ) (a : Answered) (q : QuestionNo) → slice_get answers place ≡ Some a → a.found ≡ Some q → IsReplied config seed turns k a.arrival.from a.arrival.octets q
  heard_replied k l [] l' hears h place a q at found = absurd (let none : None ≡ Some a = at in cc)
  heard_replied k l (b ∷ answers) l' (mid, takes, rest) h zero a q at found =
      let both : Some b ≡ Some a = at in
      let same : b ≡ a = cc in
      is_replied k a.arrival.from a.arrival.octets q l mid
      (subst (λ (o : Option QuestionNo). Takes l a.arrival.from a.arrival.octets o mid) found (subst (λ (x : Answered). Takes l x.arrival.from x.arrival.octets x.found mid) same takes)) h
  heard_replied k l (b ∷ answers) l' (mid, takes, rest) h (suc place) a q at found = heard_replied k mid answers l' rest (hears_keeps k b l mid takes h) place a q at found

  -- A turn -----------------------------------------------------------------------------------------------------------------

  module _ (k : ℕ) (m : Made) (at : slice_get turns k ≡ Some m) (t : Turn) (is : m.turn ≡ Some t) (server : m.desk.lane.client.auth_server ≡ config.auth_server) (seeded : m.desk.seed ≡ seed) where
    -- the octets of such a send are sent in this turn
    went_out : (s : LaneSend) → s.sent ≡ true → AnyOf (λ u. u ≡ s) (lane_sends t.requests) → SentIn turns k config.auth_server s.octets
    went_out s sent among =
        let out : Datagram = record { role = Auth; peer = m.desk.lane.client.auth_server; octets = s.octets } in
        let one : AnyOf (λ (d : Datagram). d ≡ out) (lane_datagram m.desk.lane.client.auth_server s) = subst (λ (b : Bool). AnyOf (λ (d : Datagram). d ≡ out) (cond b (out ∷ []) [])) (sym sent) (inl refl) in
        let all : Contains (stage_in m.desk (Some t)).requests out = contained _ out (any_flat (lane_datagram m.desk.lane.client.auth_server) (λ (d : Datagram). d ≡ out) s (lane_sends t.requests) among one) in
        record {
          turn = m;
          at = at;
          sent = subst (λ (p : Peer). Contains (stage_in m.desk m.turn).requests (record { role = Auth; peer = p; octets = s.octets })) server (subst (λ (o : Option Turn). Contains (stage_in m.desk o).requests out) (sym is) all);
        }

    goes_out : (s : LaneSend) → s.sent ≡ true → AnyOf (λ u. u ≡ s) (lane_sends t.requests) → Goes (Said (suc k)) (said_low (suc k)) s.octets
    goes_out s sent among id q b said =
        let lt = said.before in
        said_sent (suc k) id q s.octets b true said (λ e. record { sent = k; after = omega (arith, lt); before = omega arith; is_sent = went_out s sent among })

    -- its place among the questions of the turn, and its draw
    asked_here : (a : LaneAsk) → AnyOf (λ u. u ≡ a) t.requests.asked
        → map (λ (x : LaneAsk). x.authenticator) t.requests.asked ≡ map (draw m.desk.seed) (range_with_len (m.desk.drawn + length (new_items m.desk t)) (length t.requests.asked))
        → (place : ℕ) × AskedIn seed turns k place (m.desk.drawn + length (new_items m.desk t) + place) a
    asked_here a among drawn =
        let there = place_of a t.requests.asked among in (
          there.0,
          record {
            turn = m;
            at = at;
            here = subst (λ (o : Option Turn). slice_get (stage_in m.desk o).asked there.0 ≡ Some a) (sym is) there.1;
            number = subst (λ (o : Option Turn). m.desk.drawn + length (new_items m.desk t) + there.0 ≡ drawn_before m.desk o + there.0) (sym is) refl;
            authenticator = draw_at m.desk.seed (m.desk.drawn + length (new_items m.desk t)) t.requests.asked drawn there.0 a there.1 ∙ ap (λ (x : List ℕ). draw x (m.desk.drawn + length (new_items m.desk t) + there.0)) seeded;
          },
        )

    opened_here : (a : LaneAsk) → AnyOf (λ u. u ≡ a) t.requests.asked → (handed : List (List ℕ))
        → map (λ (x : LaneAsk). asking_from x.ask) t.requests.asked ≡ take (length t.requests.asked) (waiting_in (shards_left m.desk (Some t)) handed) → OpenIn turns k (asking_from a.ask)
    opened_here a among handed questions =
        let asking : Asking = asking_from a.ask in
        let first : AnyOf (λ (x : Asking). x ≡ asking) (map (λ (x : LaneAsk). asking_from x.ask) t.requests.asked) = any_mapped (λ (x : LaneAsk). asking_from x.ask) a t.requests.asked among in
        let all : AnyOf (λ (x : Asking). x ≡ asking) (waiting_in (shards_left m.desk (Some t)) handed) = any_taken (λ (x : Asking). x ≡ asking) (length t.requests.asked) _ (subst (AnyOf (λ (x : Asking). x ≡ asking)) questions first) in
        let there = any_weaker (λ (v : ShardView ShardState Entry). AnyOf (λ (x : Asking). x ≡ asking) (questions_of v.state.slots)) (λ (v : ShardView ShardState Entry). Contains (questions_of v.state.slots) asking)
        (λ (v : ShardView ShardState Entry) h. contained (questions_of v.state.slots) asking h) _ (waiting_open (λ (x : Asking). x ≡ asking) (shards_left m.desk (Some t)) handed all) in
        record { turn = m; at = at; among = subst (λ (o : Option Turn). AnyOf (λ (v : ShardView ShardState Entry). Contains (questions_of v.state.slots) asking) (shards_left m.desk o)) (sym is) there }

    settled : (l l' : LaneState) (now : ℕ) (handed handed' : List (List ℕ)) → SettlesLane now l (shards_left m.desk (Some t)) handed m.desk.seed (m.desk.drawn + length (new_items m.desk t)) t.requests l' handed'
        → Holds (suc k) l → Holds (suc k) l'
    settled l l' now handed handed' settles h =
        chain_keeps (Asks now) (Holds (suc k)) settles.mid t.requests.asked l' asks settles.asks
        (chain_keeps (Resends now) (Holds (suc k)) l t.requests.resent settles.mid resends settles.resends.0 h)
      where
        resends : (s : LaneSend) → AnyOf (λ u. u ≡ s) t.requests.resent → (a b : LaneState) → Resends now a s b → Holds (suc k) a → Holds (suc k) b
        resends s among a b by (serves, out) = (
          resends_serves (lane_rules config).nas config.auth_server config.secret.items now a b s by serves,
          resends_out (Said (suc k)) (said_low (suc k)) now a b s by (λ sent. goes_out s sent (any_left (λ (u : LaneSend). u ≡ s) t.requests.resent _ among)) out,
        )

        asks : (x : LaneAsk) → AnyOf (λ u. u ≡ x) t.requests.asked → (a b : LaneState) → Asks now a x b → Holds (suc k) a → Holds (suc k) b
        asks x among a b by (serves, out) =
            let says = says_question now a b x by in
            let here = asked_here x among settles.authenticators in (
              asks_serves (lane_rules config).nas config.auth_server config.secret.items now a b x by serves,
              asks_out (Said (suc k)) (said_low (suc k)) now a b x by
                  (record {
                    put = x;
                    number = refl;
                    its = refl;
                    asked = k;
                    before = omega arith;
                    is_open = opened_here x among handed settles.questions;
                    place = here.0;
                    drawn = m.desk.drawn + length (new_items m.desk t) + here.0;
                    is_asked = here.1;
                    packet = says.packet;
                    is_request = says.reads;
                    code = says.code;
                    id_is = says.id;
                    authenticator = says.authenticator ∙ here.1.authenticator;
                    says = says.attributes
                        ∙ ap (λ (n : NasRules). map but_for_digest (request_of n a.client.secret x.ask x.authenticator).attributes) serves.nas_is
                        ∙ ap (λ (secret : List ℕ). map but_for_digest (request_of (lane_rules config).nas secret x.ask x.authenticator).attributes) serves.secret_is
                        ∙ ap (λ (drawn : List ℕ). map but_for_digest (request_of (lane_rules config).nas config.secret.items x.ask drawn).attributes) (sym says.authenticator);
                    went = λ e. absurd (false≢true e);
                  })
                  (λ sent. goes_out x.send sent (any_right (λ (u : LaneSend). u ≡ x.send) t.requests.resent _ (any_mapped (λ (y : LaneAsk). y.send) x t.requests.asked among)))
                  out,
            )

    turn_keeps : LaneTurn m.desk t → Holds k m.desk.lane → Holds (suc k) t.lane
    turn_keeps by h =
        settled t.waited t.lane t.moment m.desk.handed t.handed by.settles
        (later k t.waited
        (chain_keeps (λ a (q : QuestionNo) b. GivesUp a t.moment (Some q) b) (Holds k) t.heard t.timed t.waited (λ q among a b. gives_up_keeps k t.moment q a b) by.times_out.given_up
        (chain_keeps (λ l (a : Answered) l'. Takes l a.arrival.from a.arrival.octets a.found l') (Holds k) m.desk.lane t.answers t.heard (λ a among l l'. hears_keeps k a l l') by.hears h)))

  -- The turns ----------------------------------------------------------------------------------------------------------------

  abbrev StepHolds : ℕ → Made → Desk → Type 0
  StepHolds k m d' = Holds (suc k) d'.lane × ((place : ℕ) (a : Answered) (q : QuestionNo) → slice_get (answers_in m.turn) place ≡ Some a → a.found ≡ Some q → IsReplied config seed turns k a.arrival.from a.arrival.octets q)

  step_holds : (k : ℕ) (m : Made) → slice_get turns k ≡ Some m → m.desk.seed ≡ seed → (o : Option Turn) → m.turn ≡ o → (d' : Desk) → Step m.desk o d' → Holds k m.desk.lane → StepHolds k m d'
  step_holds k m at seeded None is d' step h = (
    subst (λ (d : Desk). Holds (suc k) d.lane) (sym step) (later k m.desk.lane h),
    λ place a q there found. absurd (let none : None ≡ Some a = ap (λ (o : Option Turn). slice_get (answers_in o) place) (sym is) ∙ there in cc),
  )
  step_holds k m at seeded (Some t) is d' (reading, round, lane, billing, coa, after_is) h = (
    subst (λ (d : Desk). Holds (suc k) d.lane) (sym after_is) (turn_keeps k m at t is h.0.server_is seeded lane h),
    λ place a q there found. heard_replied k m.desk.lane t.answers t.heard lane.hears h place a q (ap (λ (o : Option Turn). slice_get (answers_in o) place) (sym is) ∙ there) found,
  )

  first_holds : (k : ℕ) (n : Made) → slice_get turns (0 + k) ≡ Some n → n.desk.seed ≡ seed → (d mid : Desk) → n.desk ≡ d → Step d n.turn mid → Holds k d.lane → StepHolds k n mid
  first_holds k n at seeded d mid from step h =
      let here : 0 + k ≡ k = omega arith in
      step_holds k n (subst (λ (y : ℕ). slice_get turns y ≡ Some n) here at) seeded n.turn refl mid (subst (λ (x : Desk). Step x n.turn mid) (sym from) step) (subst (λ (x : Desk). Holds k x.lane) (sym from) h)

  all_replied : ((k : ℕ) (m : Made) → slice_get turns k ≡ Some m → m.desk.seed ≡ seed) → (rest : List Made) (k : ℕ) → ((i : ℕ) (m : Made) → slice_get rest i ≡ Some m → slice_get turns (i + k) ≡ Some m) → (d d' : Desk) → Run d rest d' → Holds k d.lane
      → (i place : ℕ) (m : Made) (a : Answered) (q : QuestionNo) → slice_get rest i ≡ Some m → slice_get (answers_in m.turn) place ≡ Some a → a.found ≡ Some q
      → IsReplied config seed turns (i + k) a.arrival.from a.arrival.octets q
  all_replied seeded [] k part d d' run h i place m a q at there found = absurd (let none : None ≡ Some m = at in cc)
  all_replied seeded (n ∷ rest) k part d d' (mid, (from, step), run) h zero place m a q at there found =
      let both : Some n ≡ Some m = at in
      let same : n ≡ m = cc in
      let here : k ≡ 0 + k = omega arith in
      subst (λ (x : ℕ). IsReplied config seed turns x a.arrival.from a.arrival.octets q) here
      ((first_holds k n (part 0 n refl) (seeded (0 + k) n (part 0 n refl)) d mid from step h).1 place a q (ap (λ (x : Made). slice_get (answers_in x.turn) place) same ∙ there) found)
  all_replied seeded (n ∷ rest) k part d d' (mid, (from, step), run) h (suc i) place m a q at there found =
      let shifted : (j : ℕ) → suc j + k ≡ j + suc k = λ j. omega arith in
      subst (λ (x : ℕ). IsReplied config seed turns x a.arrival.from a.arrival.octets q) (sym (shifted i))
      (all_replied seeded rest (suc k) (λ j x e. subst (λ (y : ℕ). slice_get turns y ≡ Some x) (shifted j) (part (suc j) x e)) mid d' run
      (first_holds k n (part 0 n refl) (seeded (0 + k) n (part 0 n refl)) d mid from step h).0 i place m a q at there found)

new_holds : (config : Config) (seed : List ℕ) (turns : List Made) (l : LaneState) → IsNewLane (lane_rules config) l → Holds config seed turns 0 l
new_holds config seed turns l new = (record { nas_is = new.nas; server_is = new.client.auth_server; secret_is = new.client.secret_is }, λ id r is. absurd (none id r is))
  where
    none : (id : ℕ) (r : Pending) → request_at (places_of l) id ≡ Some r → ⊥
    none id r is = let both : None ≡ Some r = sym (no_request 256 id) ∙ ap (λ (t : Table). request_at t.places id) (sym new.client.auth_is) ∙ is in absurd cc

pub replies_of : (config : Config) (rounds : ℕ) (seed : List ℕ) (now wall : ℕ) (opening over : Desk) (turns : List Made) → IsOpened config rounds seed now wall opening → Run opening turns over → AreReplied config seed turns
replies_of config rounds seed now wall opening over turns opened run k place m a q at there found =
    let seeded : (j : ℕ) (n : Made) → slice_get turns j ≡ Some n → n.desk.seed ≡ seed = λ j n here. seed_stays opening over turns run j n here ∙ ap (λ (d : Desk). d.seed) opened.desk in
    subst (λ (x : ℕ). IsReplied config seed turns x a.arrival.from a.arrival.octets q) (same k)
    (all_replied config seed turns seeded turns 0 (λ i x e. subst (λ (y : ℕ). slice_get turns y ≡ Some x) (sym (same i)) e) opening over run
    (subst (λ (d : Desk). Holds config seed turns 0 d.lane) (sym opened.desk) (new_holds config seed turns opened.lane opened.new_lane)) k place m a q at there found)
  where
    same : (i : ℕ) → i + 0 ≡ i
    same i = omega arith
