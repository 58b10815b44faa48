-- Over the turns of a run each reply is the reply to a request that was sent before it.
use Rattle.std.proofs.Common.{◌≡◌, ℕ, zero, suc, ◌+◌, ◌<◌, true, List, [], ◌∷◌, map, Option, Some, None, Contains, refl, sym, ap, subst, ◌∙◌, arith}
use Rattle.std.specs.Prelude.{slice_get, slice_range}
use Rattle.std.proofs.lemmas.List.Elements.{Contains-append_left, Contains-append_right}
use Rattle.bng_base.specs.declared.address.Peer.{Peer}
use Rattle.bng_base.specs.Chain.{Chain}
use Rattle.bng_access.specs.declared.rules.NasRules.{NasRules}
use Rattle.bng_access.specs.Request.{request_of}
use Rattle.bng_rad_client.specs.declared.pending.Pending.{Pending}
use Rattle.bng_rad_client.specs.declared.rules.Owner.{Owner}
use Rattle.bng_rad_client.specs.declared.rules.Owner.TheVariants.{Ask, Record}
use Rattle.bng_rad_client.specs.Replies.{authenticator_of}
use Rattle.bng_rad_client.specs.Table.{Table, request_of as request_at}
use Rattle.bng_radius_wire.specs.Codes.{access_request}
use Rattle.bng_radius_wire.specs.Digests.{IsSigned}
use Rattle.bng_radius_wire.specs.Grammar.{Packet, IsRadius}
use Rattle.bng_radius_wire.proofs.Exact.{one_packet}
use Rattle.bng_verdict.specs.declared.question.QuestionNo.{QuestionNo}
use Rattle.bng_lane.specs.declared.rules.LaneRules.{LaneRules}
use Rattle.bng_lane.specs.Due.{GivesUp}
use Rattle.bng_lane.specs.Laws.{but_for_digest}
use Rattle.bng_lane.specs.Replies.{Takes}
use Rattle.bng_lane.specs.Sends.{LaneSend, LaneAsk, Resends, Asks}
use Rattle.bng_lane.specs.State.{LaneState, IsNewLane, places_of}
use Rattle.bng_lane.specs.Turns.{LaneHeard, LaneTurn, Turns, AskedIn, SentIn, IsReplied, AreReplied, sends_of}
use Rattle.bng_lane.proofs.Answering.{answer_of, says_question}
use Rattle.bng_lane.proofs.Knowing.{Knows, Serves, takes_serves, gives_up_serves, resends_serves, asks_serves, takes_knows, gives_up_knows, resends_knows, asks_knows, knows_less}
use Rattle.bng_lane.proofs.Places.{no_request}

-- Lists ---------------------------------------------------------------------------------------------------------------------

mapped : {X Y : Type 0} (f : X → Y) (xs : List X) (x : X) → Contains xs x → Contains (map f xs) (f x)
mapped f [] x (k, l, e) = absurd (omega (arith, l))
mapped f (y ∷ xs) x (zero, l, e) = (0, omega arith, ap f e)
mapped f (y ∷ xs) x (suc k, l, e) = let rest = mapped f xs x (k, omega (arith, l), e) in (suc rest.0, omega (arith, rest.1), rest.2)

-- what each step keeps, a chain of such steps keeps
chain_keeps : {S T : Type 0} (step : S → T → S → Type 0) (P : S → Type 0) (s : S) (ts : List T) (s' : S)
    → ((t : T) → Contains ts t → (a b : S) → step a t b → P a → P b) → Chain step s ts s' → P s → P s'
chain_keeps step P s [] s' keeps e h = subst P (sym e) h
chain_keeps {S} {T} step P s (t ∷ ts) s' keeps (mid, is, rest) h =
    chain_keeps step P mid ts s' (λ (u : T) later. keeps u (Contains-append_right (t ∷ []) ts u later)) rest (keeps t (0, omega arith, refl) s mid is h)

-- What is known -------------------------------------------------------------------------------------------------------------

module _ (rules : LaneRules) (turns : List LaneTurn) where
  -- the octets are the request of a question with this number, under this identifier, that was asked before the turn with this number
  record Said (k id : ℕ) (q : QuestionNo) (octets : List ℕ) : Type 0 where
    ask : LaneAsk
    number : ask.ask.number ≡ q
    octets_are : ask.send.octets ≡ octets
    asked : ℕ
    asked_before : asked < k
    is_asked : AskedIn turns asked ask
    packet : Packet
    is_request : IsRadius packet ask.send.octets
    code : packet.code ≡ access_request
    id_is : packet.id ≡ id
    authenticator : packet.authenticator ≡ ask.authenticator
    says : map but_for_digest packet.attributes ≡ map but_for_digest (request_of rules.nas rules.secret.items ask.ask ask.authenticator).attributes

  -- they were sent before it
  record Sent (k : ℕ) (octets : List ℕ) : Type 0 where
    sent : ℕ
    sent_before : sent < k
    is_sent : SentIn turns sent octets

  abbrev IsOurs : LaneState → Type 0
  IsOurs l = Serves rules.nas rules.server rules.secret.items l

  -- what holds of the lane as the turn with this number finds it
  abbrev Holds : ℕ → LaneState → Type 0
  Holds k l = IsOurs l × Knows (Said k) (Sent k) l

  later : (k : ℕ) (l : LaneState) → Holds k l → Holds (suc k) l
  later k l (s, knows) = (
    s,
    knows_less (Said k) (Said (suc k)) (Sent k) (Sent (suc k)) l
        (λ id q o said. record {
          ask = said.ask;
          number = said.number;
          octets_are = said.octets_are;
          asked = said.asked;
          asked_before = omega (arith, said.asked_before);
          is_asked = said.is_asked;
          packet = said.packet;
          is_request = said.is_request;
          code = said.code;
          id_is = said.id_is;
          authenticator = said.authenticator;
          says = said.says;
        })
        (λ o went. record { sent = went.sent; sent_before = omega (arith, went.sent_before); is_sent = went.is_sent })
        knows,
  )

  hears_keeps : (k : ℕ) (h : LaneHeard) (l l' : LaneState) → Takes l h.from h.octets h.found l' → Holds k l → Holds k l'
  hears_keeps k h l l' takes (s, knows) = (
    takes_serves rules.nas rules.server rules.secret.items l l' h.from h.octets h.found takes s,
    takes_knows (Said k) (Sent k) l l' h.from h.octets h.found takes knows,
  )

  gives_up_keeps : (k now : ℕ) (q : QuestionNo) (l l' : LaneState) → GivesUp l now (Some q) l' → Holds k l → Holds k l'
  gives_up_keeps k now q l l' gives (s, knows) = (
    gives_up_serves rules.nas rules.server rules.secret.items l l' now q gives s,
    gives_up_knows (Said k) (Sent k) l l' now q gives knows,
  )

  same_question : (a b : QuestionNo) (o : Owner) → o ≡ Ask a.session a.ask → o ≡ Ask b.session b.ask → a ≡ b
  same_question a b o x y = ap question (sym x ∙ y)
    where
      question : Owner → QuestionNo
      question (Ask session ask) = record { session = session; ask = ask }
      question (Record number) = a

  -- a datagram that counts is such a reply
  is_replied : (k : ℕ) (from : Peer) (octets : List ℕ) (q : QuestionNo) (l l' : LaneState) → Takes l from octets (Some q) l' → Holds k l → IsReplied rules turns k from octets q
  is_replied k from octets q l l' takes (s, knows) =
      let c = takes.0 in
      let known = knows.known c.packet.id c.request c.reply.pending in
      let said : Said k c.packet.id known.0 c.request.octets = known.2 in
      let went : Sent k c.request.octets = knows.went c.packet.id c.request c.reply.pending c.sent in
      let drawn : authenticator_of c.request ≡ said.packet.authenticator = ap (λ (o : List ℕ). slice_range o 4 20) (sym said.octets_are) ∙ sym said.is_request.authenticator in
      record {
        server = c.server ∙ s.server_is;
        ask = said.ask;
        number = said.number ∙ same_question known.0 q c.request.owner known.1 c.question;
        asked = said.asked;
        asked_before = said.asked_before;
        is_asked = said.is_asked;
        sent = went.sent;
        sent_before = went.sent_before;
        is_sent = subst (SentIn turns went.sent) (sym said.octets_are) went.is_sent;
        packet = said.packet;
        is_request = said.is_request;
        code = said.code;
        authenticator = said.authenticator;
        says = said.says;
        reply = c.packet;
        is_reply = c.reply.reply.packet;
        one = λ p is. one_packet p c.packet octets is c.reply.reply.packet;
        answer = answer_of c.packet.code c.reply.reply.code;
        same = sym said.id_is;
        signed = subst (λ (x : List ℕ). IsSigned c.packet x rules.secret.items) drawn (subst (IsSigned c.packet (authenticator_of c.request)) s.secret_is c.signed);
      }

  -- each of the datagrams that a turn heard is
  heard_replied : (k : ℕ) (l : LaneState) (heard : List LaneHeard) (l' : LaneState) → Chain (λ a (h : LaneHeard) b. Takes a h.from h.octets h.found b) l heard l' → Holds k l
      → (place : ℕ) (h : LaneHeard) (q : QuestionNo) → slice_get heard place ≡ Some h → h.found ≡ Some q → IsReplied rules turns k h.from h.octets q
  heard_replied k l [] l' chain holds place h q at found = absurd (let none : None ≡ Some h = at in cc)
  heard_replied k l (b ∷ heard) l' (mid, takes, rest) holds zero h q at found =
      let both : Some b ≡ Some h = at in
      let same : b ≡ h = cc in
      is_replied k h.from h.octets q l mid
      (subst (λ (o : Option QuestionNo). Takes l h.from h.octets o mid) found (subst (λ (x : LaneHeard). Takes l x.from x.octets x.found mid) same takes)) holds
  heard_replied k l (b ∷ heard) l' (mid, takes, rest) holds (suc place) h q at found = heard_replied k mid heard l' rest (hears_keeps k b l mid takes holds) place h q at found

  -- A turn ------------------------------------------------------------------------------------------------------------------

  module _ (k : ℕ) (t : LaneTurn) (at : slice_get turns k ≡ Some t) where
    went_out : (s : LaneSend) → Contains (sends_of t) s → s.sent ≡ true → Sent (suc k) s.octets
    went_out s among sent = record { sent = k; sent_before = omega arith; is_sent = record { turn = t; at = at; send = s; among = among; sent = sent; octets_are = refl } }

    resends_keep : (s : LaneSend) → Contains t.resent s → (a b : LaneState) → Resends t.now a s b → Holds (suc k) a → Holds (suc k) b
    resends_keep s among a b by (serves, knows) = (
      resends_serves rules.nas rules.server rules.secret.items t.now a b s by serves,
      resends_knows (Said (suc k)) (Sent (suc k)) t.now a b s by (λ sent. went_out s (Contains-append_left t.resent (map (λ (x : LaneAsk). x.send) t.asked) s among) sent) knows,
    )

    asks_keep : (x : LaneAsk) → Contains t.asked x → (a b : LaneState) → Asks t.now a x b → Holds (suc k) a → Holds (suc k) b
    asks_keep x among a b by (serves, knows) =
        let says = says_question t.now a b x by in (
          asks_serves rules.nas rules.server rules.secret.items t.now a b x by serves,
          asks_knows (Said (suc k)) (Sent (suc k)) t.now a b x by
              (record {
                ask = x;
                number = refl;
                octets_are = refl;
                asked = k;
                asked_before = omega arith;
                is_asked = record { turn = t; at = at; among = among };
                packet = says.packet;
                is_request = says.reads;
                code = says.code;
                id_is = says.id;
                authenticator = says.authenticator;
                says = says.attributes
                    ∙ ap (λ (n : NasRules). map but_for_digest (request_of n a.client.secret x.ask x.authenticator).attributes) serves.nas_is
                    ∙ ap (λ (secret : List ℕ). map but_for_digest (request_of rules.nas secret x.ask x.authenticator).attributes) serves.secret_is;
              })
              (λ sent. went_out x.send (Contains-append_right t.resent (map (λ (y : LaneAsk). y.send) t.asked) x.send (mapped (λ (y : LaneAsk). y.send) t.asked x among)) sent)
              knows,
        )

    turn_keeps : (l l' : LaneState) → Turns l t l' → Holds k l → Holds (suc k) l'
    turn_keeps l l' by holds =
        let heard = chain_keeps (λ a (h : LaneHeard) b. Takes a h.from h.octets h.found b) (Holds k) l t.heard by.once_heard (λ h among a b. hears_keeps k h a b) by.hears holds in
        let given_up = chain_keeps (λ a (q : QuestionNo) b. GivesUp a t.now (Some q) b) (Holds k) by.once_heard t.given_up by.once_given_up (λ q among a b. gives_up_keeps k t.now q a b) by.gives_up heard in
        let resent = chain_keeps (Resends t.now) (Holds (suc k)) by.once_given_up t.resent by.once_resent resends_keep by.resends (later k by.once_given_up given_up) in
        chain_keeps (Asks t.now) (Holds (suc k)) by.once_resent t.asked l' asks_keep by.asks resent

  -- The turns ---------------------------------------------------------------------------------------------------------------

  all_replied : (rest : List LaneTurn) (k : ℕ) → ((i : ℕ) (t : LaneTurn) → slice_get rest i ≡ Some t → slice_get turns (i + k) ≡ Some t) → (l l' : LaneState) → Chain Turns l rest l' → Holds k l
      → (i place : ℕ) (t : LaneTurn) (h : LaneHeard) (q : QuestionNo) → slice_get rest i ≡ Some t → slice_get t.heard place ≡ Some h → h.found ≡ Some q
      → IsReplied rules turns (i + k) h.from h.octets q
  all_replied [] k part l l' run holds i place t h q at there found = absurd (let none : None ≡ Some t = at in cc)
  all_replied (n ∷ rest) k part l l' (mid, turn, run) holds zero place t h q at there found =
      let both : Some n ≡ Some t = at in
      let same : n ≡ t = cc in
      let here : k ≡ 0 + k = omega arith in
      subst (λ (x : ℕ). IsReplied rules turns x h.from h.octets q) here
      (heard_replied k l n.heard turn.once_heard turn.hears holds place h q (ap (λ (x : LaneTurn). slice_get x.heard place) same ∙ there) found)
  all_replied (n ∷ rest) k part l l' (mid, turn, run) holds (suc i) place t h q at there found =
      let shifted : (j : ℕ) → suc j + k ≡ j + suc k = λ j. omega arith in
      let here : 0 + k ≡ k = omega arith in
      subst (λ (x : ℕ). IsReplied rules turns x h.from h.octets q) (sym (shifted i))
      (all_replied rest (suc k) (λ j x e. subst (λ (y : ℕ). slice_get turns y ≡ Some x) (shifted j) (part (suc j) x e)) mid l' run
      (turn_keeps k n (subst (λ (y : ℕ). slice_get turns y ≡ Some n) here (part 0 n refl)) l mid turn holds) i place t h q at there found)

new_holds : (rules : LaneRules) (turns : List LaneTurn) (l : LaneState) → IsNewLane rules l → Serves rules.nas rules.server rules.secret.items l × Knows (Said rules turns 0) (Sent rules turns 0) l
new_holds rules turns l new = (
  record { nas_is = new.nas; server_is = new.client.auth_server; secret_is = new.client.secret_is },
  record {
    known = λ id r is. absurd (none id r is);
    went = λ id r is flag. absurd (none id r is);
  },
)
  where
    none : (id : ℕ) (r : Pending) → request_at (places_of l) id ≡ Some r → ⊥
    none id r is = let both : None ≡ Some r = sym (no_request 256 id) ∙ ap (λ (t : Table). request_at t.places id) (sym new.client.auth_is) ∙ is in absurd cc

pub replies_of : (rules : LaneRules) (opening last : LaneState) (turns : List LaneTurn) → IsNewLane rules opening → Chain Turns opening turns last → AreReplied rules turns
replies_of rules opening last turns new run k place t h q at there found =
    subst (λ (x : ℕ). IsReplied rules turns x h.from h.octets q) (same k)
    (all_replied rules turns turns 0 (λ i x e. subst (λ (y : ℕ). slice_get turns y ≡ Some x) (sym (same i)) e) opening last run (new_holds rules turns opening new) k place t h q at there found)
  where
    same : (i : ℕ) → i + 0 ≡ i
    same i = omega arith
