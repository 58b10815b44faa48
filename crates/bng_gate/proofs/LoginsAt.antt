-- The login of a reply that was taken, from Auth, as a yes; and whether a reply is one.
use Rattle.std.proofs.Common.{◌≡◌, ◌⊎◌, inl, inr, ℕ, zero, suc, ◌<◌, ◌≤◌, Bool, true, false, ◌||◌, eqb, if◌then◌else◌, List, [], ◌∷◌, Option, Some, None, map, length, slice_get, refl, sym, ap, subst, ◌∙◌, arith}
use Rattle.std.specs.List.{Contains}
use Rattle.std.specs.Option.{option_map}
use Rattle.std.proofs.lemmas.Bool.{cases_lt, true≢false}
use Rattle.std.proofs.lemmas.Bool.Decides.{Decides-eqb}
use Rattle.std.proofs.lemmas.Option.{same_Some, none-some}
use Rattle.bng_base.specs.declared.address.Peer.{Peer}
use Rattle.bng_base.specs.declared.outside.Datagram.{Datagram}
use Rattle.bng_base.specs.declared.outside.Role.TheVariants.{Auth}
use Rattle.bng_config.specs.declared.config.Config.{Config}
use Rattle.bng_engine.specs.Lists.{AnyOf}
use Rattle.bng_lane.specs.Sends.{LaneAsk}
use Rattle.bng_radius_wire.specs.Codes.{access_accept}
use Rattle.bng_radius_wire.specs.Grammar.{Packet, IsRadius}
use Rattle.bng_steps.specs.Questions.{Asking, asking_from, questions_of}
use Rattle.bng_verdict.specs.declared.question.QuestionNo.{QuestionNo}
use Rattle.bng_verdict.specs.Verdicts.{Saying, IsVerdict, Silent, Replied, NoReply, is_served, reply_text, verdict_in, silence}
use Rattle.bng_desk.specs.Logins.{Answered}
use Rattle.bng_desk.specs.Model.{Desk}
use Rattle.bng_desk.specs.Turn.{Turn, Step}
use Rattle.bng_gate.specs.Granted.{Stage, Login, IsLogin, Held, held_of, stage_at, stage_in, stages_of}
use Rattle.bng_gate.specs.Replied.{AreReplied, AskedIn, IsReplied, OpenIn, answers_in, shards_left}
use Rattle.bng_gate.specs.Serving.{Made, MadeEnd, Goes, Run}
use Rattle.bng_gate.proofs.HeldRuns.{OpenBefore}
use Rattle.bng_gate.proofs.Places.{meet_at, of_first, mapped_at}
use Rattle.bng_gate.proofs.Verdicts.{of_made, of_end}
use Rattle.bng_gate.proofs.YesItems.{IsYesAt}

-- What a turn of serving says of itself in the stages ----------------------------------------------------------------------

pub stage_is : (turns : List Made) (endings : List MadeEnd) (k : ℕ) (m : Made) → slice_get turns k ≡ Some m → stage_at (stages_of turns endings) k ≡ stage_in m.desk m.turn
stage_is [] endings k m at = absurd (none-some m at)
stage_is (x ∷ turns) endings zero m at = ap (λ (y : Made). stage_in y.desk y.turn) (same_Some x m at)
stage_is (x ∷ turns) endings (suc k) m at = stage_is turns endings k m at

abbrev heard_as : Answered → Datagram
heard_as x = record { role = Auth; peer = x.arrival.from; octets = x.arrival.octets }

heard_at : (d : Desk) (t : Option Turn) (place : ℕ) (x : Answered) → slice_get (answers_in t) place ≡ Some x → slice_get (stage_in d t).heard place ≡ Some (heard_as x)
heard_at d None place x at = absurd (none-some x at)
heard_at d (Some t) place x at = mapped_at (λ a. record { role = Auth; peer = a.from; octets = a.octets }) (map (λ (y : Answered). y.arrival) t.answers) place x.arrival (mapped_at (λ (y : Answered). y.arrival) t.answers place x at)

-- Whether a reply is a yes -------------------------------------------------------------------------------------------------

-- the octets are one packet, and say yes
pub record SaysYes (p : Packet) (v : Saying) : Type 0 where
  pub few : length p.attributes ≤ 64
  pub told : verdict_in p ≡ Some v
  pub yes : v.yes ≡ true

silent_no : (v : Saying) → Some v ≡ Some silence → v.yes ≡ true → ⊥
silent_no v e tells = true≢false (sym tells ∙ never v e)
  where
    never : (v : Saying) → Some v ≡ Some silence → v.yes ≡ false
    never v e = cc

pub says_yes : (octets : List ℕ) (p : Packet) → ((q : Packet) → IsRadius q octets → q ≡ p) → (v : Saying) → IsVerdict octets (Some v) → v.yes ≡ true → SaysYes p v
says_yes octets p one v (Silent empty told) tells = absurd (silent_no v told tells)
says_yes octets p one v (Replied q h told) tells = subst (λ (x : Packet). SaysYes x v) (one q h.packet) (record { few = h.few; told = sym told; yes = tells })
says_yes octets p one v (NoReply some h told) tells = absurd cc

abbrev saying : Packet → Bool → Saying
saying p b = record { yes = b; text = reply_text p.attributes }

-- only an Access-Accept does
pub accepted_code : (p : Packet) (v : Saying) → verdict_in p ≡ Some v → v.yes ≡ true → p.code ≡ access_accept
accepted_code p v told tells = (Decides-eqb p.code 2).0 (by_code (eqb p.code 2) (eqb p.code 3 || eqb p.code 11) told)
  where
    by_code : (a b : Bool) → option_map (saying p) (if a then Some (is_served p.attributes) else (if b then Some false else None)) ≡ Some v → a ≡ true
    by_code true b e = refl
    by_code false true e = absurd (true≢false (sym tells ∙ ap (λ (x : Saying). x.yes) (sym (same_Some (saying p false) v e))))
    by_code false false e = absurd (none-some v e)

pub decide_yes : (p : Packet) → ((v : Saying) × SaysYes p v) ⊎ ((v : Saying) → SaysYes p v → ⊥)
decide_yes p = by_told (verdict_in p) refl
  where
    by_yes : (v : Saying) → verdict_in p ≡ Some v → length p.attributes ≤ 64 → (b : Bool) → v.yes ≡ b → ((w : Saying) × SaysYes p w) ⊎ ((w : Saying) → SaysYes p w → ⊥)
    by_yes v told few true tells = inl (v, record { few = few; told = told; yes = tells })
    by_yes v told few false fails = inr (λ w says. true≢false (sym says.yes ∙ ap (λ (x : Saying). x.yes) (same_Some w v (sym says.told ∙ told)) ∙ fails))

    by_told : (o : Option Saying) → verdict_in p ≡ o → ((w : Saying) × SaysYes p w) ⊎ ((w : Saying) → SaysYes p w → ⊥)
    by_told None told = inr (λ w says. none-some w (sym told ∙ says.told))
    by_told (Some v) told = elim (cases_lt 64 (length p.attributes)) [
      | inl many ↦ inr (λ w says. omega (arith, many, says.few))
      | inr few ↦ by_yes v told few v.yes refl
    ]

-- Open questions -----------------------------------------------------------------------------------------------------------

-- an element before another
before_it : {X : Type 0} (xs : List X) (j k : ℕ) (x : X) → j ≤ k → slice_get xs k ≡ Some x → (y : X) × (slice_get xs j ≡ Some y)
before_it [] j k x le at = absurd (none-some x at)
before_it (y ∷ xs) zero k x le at = (y, refl)
before_it (y ∷ xs) (suc j) zero x le at = absurd (omega (arith, le))
before_it (y ∷ xs) (suc j) (suc k) x le at = before_it xs j k x (omega (arith, le)) at

left_is : (d d' : Desk) (t : Option Turn) → Step d t d' → d'.shards ≡ shards_left d t
left_is d d' None step = ap (λ (x : Desk). x.shards) step
left_is d d' (Some t) step = ap (λ (x : Desk). x.shards) step.5

-- The login ------------------------------------------------------------------------------------------------------------------

-- its question was asked so
pub record IsDrawn (seed : List ℕ) (turns : List Made) (g : Login) : Type 0 where
  pub put : LaneAsk
  pub is : AskedIn seed turns g.asked g.number g.draw put
  pub ask : put.ask ≡ g.ask
  pub request : put.send.octets ≡ g.request

asked_at : (d : Desk) (t : Option Turn) (stages : List Stage) (j place : ℕ) (a : LaneAsk) → stage_at stages j ≡ stage_in d t → slice_get (stage_in d t).asked place ≡ Some a → slice_get (stage_at stages j).asked place ≡ Some a
asked_at d t stages j place a is at = ap (λ (s : Stage). slice_get s.asked place) is ∙ at

module _ (config : Config) (seed : List ℕ) (opening over : Desk) (turns : List Made) (endings : List MadeEnd) (run : Run opening turns over) (replied : AreReplied config seed turns) where
  open_before : (j k : ℕ) (m : Made) → j < k → slice_get turns k ≡ Some m → (a : Asking) → OpenIn turns j a → OpenBefore (held_of turns endings) (suc j) a
  open_before j k m lt at a asked =
      let next = before_it turns (suc j) k m (omega (arith, lt)) at in
      let meets = meet_at Goes opening over turns run j asked.turn next.0 asked.at next.1 in
      let same : asked.turn.desk ≡ meets.before = meets.here.0 in
      let step : Step asked.turn.desk asked.turn.turn meets.mid = subst (λ (d : Desk). Step d asked.turn.turn meets.mid) (sym same) meets.here.1 in
      let shards : (next.0).desk.shards ≡ shards_left asked.turn.desk asked.turn.turn = ap (λ (d : Desk). d.shards) meets.there.0 ∙ left_is asked.turn.desk meets.mid asked.turn.turn step in
      record {
        desk = (next.0).desk;
        at = ap (option_map (λ (h : Held). h.desk)) (of_first of_made of_end turns endings (suc j) next.0 next.1);
        among = subst (AnyOf (λ v. Contains (questions_of v.state.slots) a)) (sym shards) asked.among;
      }

  -- the login is of the reply that was taken so, to this question, which was open in a shard before
  pub record IsLoginAt (k p : ℕ) (q : QuestionNo) (g : Login) : Type 0 where
    pub right : IsLogin config seed (stages_of turns endings) g
    pub drawn : IsDrawn seed turns g
    pub reply_is : (m : Made) (x : Answered) → slice_get turns k ≡ Some m → slice_get (answers_in m.turn) p ≡ Some x → g.reply ≡ x.arrival.octets
    pub answered : g.answered ≡ k
    pub place : g.place ≡ p
    pub number : g.ask.number ≡ q
    pub is_open : OpenIn turns g.asked (asking_from g.ask)
    pub turn : ℕ
    pub before : turn ≤ k
    pub was_open : OpenBefore (held_of turns endings) turn (asking_from g.ask)

  pub login_of : (k p : ℕ) (q : QuestionNo) → IsYesAt turns k p q → (g : Login) × IsLoginAt k p q g
  login_of k p q y =
      let r : IsReplied config seed turns k y.answer.arrival.from y.answer.arrival.octets q = replied k p y.made y.answer q y.at y.here y.found in
      let stages = stages_of turns endings in
      let since = r.since in
      let before = r.before in
      let opened : r.asked < k = omega (arith, since, before) in
      let next : suc r.asked ≤ k = omega (arith, opened) in
      let asked : Datagram = record { role = Auth; peer = config.auth_server; octets = r.put.send.octets } in
      let is = r.is_asked in (
        record { ask = r.put.ask; asked = r.asked; number = r.place; draw = r.drawn; request = r.put.send.octets; sent = r.sent; answered = k; place = p; reply = y.answer.arrival.octets },
        record {
          right = record {
            put = r.put;
            at = asked_at is.turn.desk is.turn.turn stages r.asked r.place r.put (stage_is turns endings r.asked is.turn is.at) is.here;
            asks = refl;
            octets = refl;
            since = r.since;
            sent = subst (λ (s : Stage). Contains s.requests asked) (sym (stage_is turns endings r.sent r.is_sent.turn r.is_sent.at)) r.is_sent.sent;
            before = r.before;
            packet = r.packet;
            is_request = r.is_request;
            code = r.code;
            authenticator = r.authenticator;
            says = r.says;
            taken = ap (λ (s : Stage). slice_get s.heard p) (stage_is turns endings k y.made y.at) ∙ heard_at y.made.desk y.made.turn p y.answer y.here
                ∙ ap (λ (from : Peer). Some (record { role = Auth; peer = from; octets = y.answer.arrival.octets })) r.server;
            accept = r.reply;
            is_reply = r.is_reply;
            one = r.one;
            accepts = accepted_code r.reply y.verdict (says_yes y.answer.arrival.octets r.reply r.one y.verdict y.is_verdict y.yes).told y.yes;
            verdict = y.verdict;
            is_verdict = y.is_verdict;
            yes = y.yes;
            same = r.same;
            signed = r.signed;
          };
          drawn = record { put = r.put; is = is; ask = refl; request = refl };
          reply_is = λ m x at here.
              let made : y.made ≡ m = same_Some y.made m (sym y.at ∙ at) in
              let answer : y.answer ≡ x = same_Some y.answer x (sym y.here ∙ ap (λ (z : Made). slice_get (answers_in z.turn) p) made ∙ here) in
              ap (λ (z : Answered). z.arrival.octets) answer;
          answered = refl;
          place = refl;
          number = r.number;
          is_open = r.is_open;
          turn = suc r.asked;
          before = next;
          was_open = open_before r.asked k y.made opened y.at (asking_from r.put.ask) r.is_open;
        },
      )
