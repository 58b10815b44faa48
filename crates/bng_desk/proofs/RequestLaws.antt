-- Requests that are sent again, and questions that are asked, one after the other.
use Rattle.std.proofs.Common.{◌≡◌, ◌⊎◌, inl, inr, ℕ, zero, suc, ◌+◌, ◌/◌, ◌<◌, ◌≤◌, Bool, List, [], ◌∷◌, ◌++◌, Option, None, Some, map, fold, length, take, drop, slice_get, get_or, set, is_some, cond, refl, sym, ap, subst, ◌∙◌, append_assoc, append-nil, arith}
use Rattle.std.specs.Prelude.{IfNone}
use Rattle.std.specs.List.{All, range_with_len}
use Rattle.std.proofs.lemmas.List.{map-append, length-map, length-append, length-set, get_or-set_same, get_or-set_other, set-get_or, set-set, take_all}
use Rattle.std.proofs.lemmas.List.Elements.{All-nil, All-cons, All-head, All-tail, All-append}
use Rattle.std.proofs.lemmas.List.FromFn.{map-range_with_len_more}
use Rattle.std.proofs.lemmas.List.Sums.{fold-append, sum_by-cons}
use Rattle.std.proofs.Math.Seq.{take-append_seam}
use Rattle.bng_base.specs.declared.address.Peer.{Peer}
use Rattle.bng_base.specs.declared.outside.Role.TheVariants.{Auth}
use Rattle.bng_base.specs.Chain.{Chain}
use Rattle.bng_base.specs.Stretch.{ExtendsPlant}
use Rattle.bng_base.specs.Told.{PlantTold}
use Rattle.bng_base.proofs.ChainLaws.{chain_more, chain_append, chain_keeps}
use Rattle.bng_lane.specs.Asking.{IsAskedBy}
use Rattle.bng_lane.specs.Due.{IsResentBy, NoneToResend}
use Rattle.bng_lane.specs.Sends.{LaneAsk, LaneSend, Asks, Resends}
use Rattle.bng_lane.specs.State.{LaneState, noted}
use Rattle.bng_rad_client.specs.declared.pending.Pending.{Pending}
use Rattle.bng_rad_client.specs.Table.{request_of, taken}
use Rattle.bng_steps.specs.Questions.{Asking, asking_from, handed_after, waiting}
use Rattle.bng_steps.specs.State.{State}
use Rattle.bng_sessions.specs.Sessions.{IsNumberOf}
use Rattle.bng_verdict.specs.declared.question.QuestionNo.{QuestionNo}
use Rattle.bng_desk.specs.Intake.{SendsAgain, AsksSome, AsksAll, SendsRequests}
use Rattle.bng_desk.specs.Logins.{hand_out, handed_over, lane_stretch, waiting_in}
use Rattle.bng_desk.specs.Random.{Drawn, draw}
use Rattle.bng_desk.specs.Reading.{sending}
use Rattle.bng_desk.specs.Taking.{Shown, AreInOrder}
use Rattle.bng_desk.proofs.RadiusSends.{sent_join, sent_more}

abbrev server_of : LaneState → Peer
server_of l = l.client.auth_server

abbrev taken_of : LaneState → ℕ
taken_of l = taken l.client.auth.places

-- Sent again ------------------------------------------------------------------------------------------------------------

-- the octets of a request that is out
pub resent_size : (l m : LaneState) (now id : ℕ) (octets : List ℕ) → IsResentBy l now id octets m → length octets ≤ 4096
resent_size l m now id octets by =
    let r = by.resent.sent.before in
    omega (arith, ap (λ (os : List ℕ). length os) by.payload, ap (λ (os : List ℕ). length os) by.resent.sent.payload, r.most)

pub resent_server : (l m : LaneState) (now id : ℕ) (octets : List ℕ) → IsResentBy l now id octets m → server_of m ≡ server_of l
resent_server l m now id octets by = ap (λ (x : LaneState). server_of x) by.others

-- one more
pub resent_more : (now id : ℕ) (octets : List ℕ) (l₀ l₁ m l₂ : LaneState) (sent : Bool) (ss : List LaneSend) → Chain (Resends now) l₀ ss l₁ → IsResentBy l₁ now id octets m → l₂ ≡ noted id sent m
    → Chain (Resends now) l₀ (ss ++ record { id = id; octets = octets; sent = sent } ∷ []) l₂
resent_more now id octets l₀ l₁ m l₂ sent ss so_far by same =
    chain_more (Resends now) l₀ l₁ l₂ ss (record { id = id; octets = octets; sent = sent }) so_far (m, by, same)

-- none is left
pub all_resent : {X : Type 0} (now : ℕ) (p p' : PlantTold) (l m l' : LaneState) (result : Option X) (ss : List LaneSend) → Chain (Resends now) l ss m → ExtendsPlant p p' (lane_stretch (server_of l) ss)
    → IfNone result (NoneToResend m now) → IfNone result (l' ≡ m) → result ≡ None → SendsAgain now p p' l l'
all_resent {X} now p p' l m l' result ss sends told none kept is =
    let same : l' ≡ m = subst (λ (r : Option X). IfNone r (l' ≡ m)) is kept in
    let done : NoneToResend m now = subst (λ (r : Option X). IfNone r (NoneToResend m now)) is none in
    record {
      resent = ss;
      resends = (subst (λ (x : LaneState). Chain (Resends now) l ss x) (sym same) sends, subst (λ (x : LaneState). NoneToResend x now) (sym same) done);
      told = told;
    }

-- Asked -----------------------------------------------------------------------------------------------------------------

-- one identifier more is taken
taken_set : (places : List (Option Pending)) (id : ℕ) (r : Pending) → get_or places id None ≡ None → get_or (set places id (Some r)) id None ≡ Some r → taken (set places id (Some r)) ≡ taken places + 1
taken_set [] id r free there = absurd cc
taken_set (x ∷ places) zero r free there =
    let f : Option Pending → ℕ = λ (y : Option Pending). cond (is_some y) 1 0 in
    sum_by-cons f (Some r) places ∙ omega (arith, sum_by-cons f x places, ap f free)
taken_set (x ∷ places) (suc id) r free there =
    let f : Option Pending → ℕ = λ (y : Option Pending). cond (is_some y) 1 0 in
    omega (arith, sum_by-cons f x (set places id (Some r)), sum_by-cons f x places, taken_set places id r free there)

asked_taken : (l m : LaneState) (now id : ℕ) (a : LaneAsk) → IsAskedBy l now a.ask a.authenticator id a.send.octets m → taken_of m ≡ taken_of l + 1
asked_taken l m now id a by =
    let set_is = by.asked.places in
    let there : get_or (set l.client.auth.places id (Some by.asked.made)) id None ≡ Some by.asked.made = sym (ap (λ (ps : List (Option Pending)). request_of ps id) set_is) ∙ by.pending in
    ap (λ (ps : List (Option Pending)). taken ps) set_is ∙ taken_set l.client.auth.places id by.asked.made by.asked.next.free there

ask_server : (now : ℕ) (l l' : LaneState) (a : LaneAsk) → Asks now l a l' → server_of l' ≡ server_of l
ask_server now l l' a (m, by, same) = ap (λ (x : LaneState). server_of x) same ∙ ap (λ (x : LaneState). server_of x) by.others

asks_server : (now : ℕ) (l l' : LaneState) (asked : List LaneAsk) → Chain (Asks now) l asked l' → server_of l' ≡ server_of l
asks_server now l l' asked asks = chain_keeps (Asks now) (λ (m : LaneState). server_of m ≡ server_of l) (λ m n a x same. ask_server now m n a x ∙ same) l l' asked asks refl

abbrev IsOf : ℕ → LaneAsk → Type 0
IsOf shard a = a.ask.number.session.0 / 1024 ≡ shard

pub of_shard : (shard n : ℕ) → IsNumberOf shard n → n / 1024 ≡ shard
of_shard shard n (from, to) = omega (arith, from, to)

-- none was asked so far
pub asked_none : (now shard : ℕ) (slots : State) (p : PlantTold) (l : LaneState) (h : List ℕ) (d : Drawn) → ExtendsPlant p p (lane_stretch (server_of l) []) → AsksSome now shard slots p p l l h h d d
asked_none now shard slots p l h d stays = record {
  asked = [];
  asks = refl;
  questions = refl;
  own = All-nil (IsOf shard);
  handed_is = refl;
  authenticators = refl;
  told = stays;
  draws_are = ap (λ (n : ℕ). record d { drawn = n }) (omega arith);
  counted = omega arith;
  few = inl refl;
}

-- one more was asked
pub asked_more : (now shard : ℕ) (slots : State) (p₀ p₁ p₂ : PlantTold) (l₀ l₁ m l₂ : LaneState) (h₀ h₁ h₂ : List ℕ) (d₀ d₁ d₂ : Drawn) (a : LaneAsk)
    → AsksSome now shard slots p₀ p₁ l₀ l₁ h₀ h₁ d₀ d₁ → IsAskedBy l₁ now a.ask a.authenticator a.send.id a.send.octets m → l₂ ≡ noted a.send.id a.send.sent m → taken_of l₁ < 256
    → waiting slots h₁ ≡ asking_from a.ask ∷ waiting slots h₂ → h₂ ≡ handed_after h₁ a.ask.number → IsNumberOf shard a.ask.number.session.0
    → a.authenticator ≡ draw d₁.seed d₁.drawn → d₂ ≡ record d₁ { drawn = d₁.drawn + 1 } → ExtendsPlant p₁ p₂ (sending Auth (server_of m) a.send.octets a.send.sent)
    → AsksSome now shard slots p₀ p₂ l₀ l₂ h₀ h₂ d₀ d₂
asked_more now shard slots p₀ p₁ p₂ l₀ l₁ m l₂ h₀ h₁ h₂ d₀ d₁ d₂ a x by same room first handed own drawn draws told =
    let xs = x.asked in
    let one = length-append xs (a ∷ []) in
    let server : server_of m ≡ server_of l₀ = ap (λ (y : LaneState). server_of y) by.others ∙ asks_server now l₀ l₁ xs x.asks in
    let count : taken_of l₂ ≡ taken_of l₁ + 1 = ap (λ (y : LaneState). taken_of y) same ∙ asked_taken l₁ m now a.send.id a by in
    let seed = d₀.seed in
    let n = d₀.drawn in
    record {
      asked = xs ++ a ∷ [];
      asks = chain_more (Asks now) l₀ l₁ l₂ xs a x.asks (m, by, same);
      questions = x.questions ∙ ap (λ (qs : List Asking). map (λ (b : LaneAsk). asking_from b.ask) xs ++ qs) first
          ∙ sym (append_assoc (map (λ (b : LaneAsk). asking_from b.ask) xs) (asking_from a.ask ∷ []) (waiting slots h₂))
          ∙ ap (λ (qs : List Asking). qs ++ waiting slots h₂) (sym (map-append (λ (b : LaneAsk). asking_from b.ask) xs (a ∷ [])));
      own = All-append (IsOf shard) xs (a ∷ []) x.own (All-cons (IsOf shard) a [] (of_shard shard a.ask.number.session.0 own) (All-nil (IsOf shard)));
      handed_is = handed ∙ ap (λ (h : List ℕ). handed_after h a.ask.number) x.handed_is
          ∙ sym (fold-append handed_after h₀ (map (λ (b : LaneAsk). b.ask.number) xs) (a.ask.number ∷ []))
          ∙ ap (λ (qs : List QuestionNo). fold handed_after h₀ qs) (sym (map-append (λ (b : LaneAsk). b.ask.number) xs (a ∷ [])));
      authenticators = map-append (λ (b : LaneAsk). b.authenticator) xs (a ∷ [])
          ∙ ap (λ (os : List (List ℕ)). os ++ a.authenticator ∷ []) x.authenticators
          ∙ ap (λ (o : List ℕ). map (draw seed) (range_with_len n (length xs)) ++ o ∷ []) (drawn ∙ ap (λ (d : Drawn). draw d.seed d.drawn) x.draws_are)
          ∙ sym (map-range_with_len_more (draw seed) n (length xs) (n + length xs) refl)
          ∙ ap (λ (k : ℕ). map (draw seed) (range_with_len n k)) (sym one);
      told = subst (λ (ss : List LaneSend). ExtendsPlant p₀ p₂ (lane_stretch (server_of l₀) ss)) (sym (map-append (λ (b : LaneAsk). b.send) xs (a ∷ [])))
          (sent_more Auth (server_of l₀) (server_of m) p₀ p₁ p₂ (map (λ (b : LaneAsk). b.send) xs) a.send server x.told told);
      draws_are = draws ∙ ap (λ (d : Drawn). record d { drawn = d.drawn + 1 }) x.draws_are ∙ ap (λ (k : ℕ). record d₀ { drawn = k }) (omega (arith, one));
      counted = omega (arith, count, x.counted, one);
      few = inr (omega (arith, count, room));
    }

-- the first of what waits, and what waits then
pub waits_first : (was after : List Asking) (first : Asking) → slice_get was 0 ≡ Some first → after ≡ drop 1 was → was ≡ first ∷ after
waits_first [] after first e rest = absurd cc
waits_first (q ∷ was) after first e rest = let head : q ≡ first = cc in ap (λ (p : Asking). p ∷ was) head ∙ ap (λ (qs : List Asking). first ∷ qs) (sym rest)

pub waits_none : (was : List Asking) → slice_get was 0 ≡ None → was ≡ []
waits_none [] e = refl
waits_none (q ∷ was) e = absurd cc

-- All shards --------------------------------------------------------------------------------------------------------------

-- a shard's questions are handed out at its place alone
handed_at : (place : ℕ) (handed : List (List ℕ)) (xs : List LaneAsk) → place < length handed → All (IsOf place) xs
    → handed_over handed (map (λ (a : LaneAsk). a.ask.number) xs) ≡ set handed place (fold handed_after (get_or handed place []) (map (λ (a : LaneAsk). a.ask.number) xs))
handed_at place handed [] lt all = sym (set-get_or handed place [])
handed_at place handed (a ∷ xs) lt all =
    let qs = map (λ (b : LaneAsk). b.ask.number) xs in
    let here = handed_after (get_or handed place []) a.ask.number in
    let next = set handed place here in
    let first : hand_out handed a.ask.number ≡ next = ap (λ (k : ℕ). set handed k (handed_after (get_or handed k []) a.ask.number)) (All-head (IsOf place) a xs all) in
    ap (λ (hs : List (List ℕ)). handed_over hs qs) first
    ∙ handed_at place next xs (omega (arith, lt, length-set handed place here)) (All-tail (IsOf place) a xs all)
    ∙ ap (λ (h : List ℕ). set next place (fold handed_after h qs)) (get_or-set_same handed place here [] lt)
    ∙ set-set handed place here (fold handed_after here qs)

-- the questions of one shard more
waiting_next : (k : ℕ) (vs : List Shown) (handed : List (List ℕ)) (d : Shown) → k < length vs → length handed ≡ length vs
    → waiting_in (take (suc k) vs) handed ≡ waiting_in (take k vs) handed ++ waiting (get_or vs k d).state.slots (get_or handed k [])
waiting_next k [] handed d lt same = absurd (omega (arith, lt))
waiting_next k (v ∷ vs) [] d lt same = absurd (omega (arith, same))
waiting_next zero (v ∷ vs) (h ∷ hs) d lt same = append-nil (waiting v.state.slots h)
waiting_next (suc k) (v ∷ vs) (h ∷ hs) d lt same =
    ap (λ (xs : List Asking). waiting v.state.slots h ++ xs) (waiting_next k vs hs d (omega (arith, lt)) (omega (arith, same)))
    ∙ sym (append_assoc (waiting v.state.slots h) (waiting_in (take k vs) hs) (waiting (get_or vs k d).state.slots (get_or hs k [])))

-- The questions of the first so many shards were asked, in their order, as long as the lane had an identifier.
pub record Asked (now place : ℕ) (vs : List Shown) (old new : PlantTold) (lane lane' : LaneState) (handed handed' : List (List ℕ)) (draws draws' : Drawn) : Type 0 where
  pub asked : List LaneAsk
  pub rest : List Asking
  pub asks : Chain (Asks now) lane asked lane'
  pub questions : waiting_in (take place vs) handed ≡ map (λ (a : LaneAsk). asking_from a.ask) asked ++ rest
  pub all : (rest ≡ []) ⊎ (256 ≤ taken lane'.client.auth.places)
  pub authenticators : map (λ (a : LaneAsk). a.authenticator) asked ≡ map (draw draws.seed) (range_with_len draws.drawn (length asked))
  pub handed_is : handed' ≡ handed_over handed (map (λ (a : LaneAsk). a.ask.number) asked)
  pub untouched : (k : ℕ) → place ≤ k → get_or handed' k [] ≡ get_or handed k []
  pub count : length handed' ≡ length handed
  pub told : ExtendsPlant old new (lane_stretch lane.client.auth_server (map (λ (a : LaneAsk). a.send) asked))
  pub draws_are : draws' ≡ record draws { drawn = draws.drawn + length asked }
  pub low : length asked ≤ taken lane'.client.auth.places
  pub few : length asked ≤ 256

pub none_asked : (now : ℕ) (vs : List Shown) (p : PlantTold) (l : LaneState) (handed : List (List ℕ)) (d : Drawn) → ExtendsPlant p p (lane_stretch (server_of l) []) → Asked now 0 vs p p l l handed handed d d
none_asked now vs p l handed d stays = record {
  asked = [];
  rest = [];
  asks = refl;
  questions = refl;
  all = inl refl;
  authenticators = refl;
  handed_is = refl;
  untouched = λ k le. refl;
  count = refl;
  told = stays;
  draws_are = ap (λ (n : ℕ). record d { drawn = n }) (omega arith);
  low = omega arith;
  few = omega arith;
}

-- the ranges of numbers one after the other
draws_append : (seed : List ℕ) (n j k : ℕ) → map (draw seed) (range_with_len n (j + k)) ≡ map (draw seed) (range_with_len n j) ++ map (draw seed) (range_with_len (n + j) k)
draws_append seed n j zero = ap (λ (m : ℕ). map (draw seed) (range_with_len n m)) (omega arith) ∙ sym (append-nil (map (draw seed) (range_with_len n j)))
draws_append seed n j (suc k) =
    let f = draw seed in
    ap (λ (m : ℕ). map f (range_with_len n m)) (let e : j + suc k ≡ (j + k) + 1 = omega arith in e)
    ∙ map-range_with_len_more f n (j + k) (n + j + k) (omega arith)
    ∙ ap (λ (os : List (List ℕ)). os ++ f (n + j + k) ∷ []) (draws_append seed n j k)
    ∙ append_assoc (map f (range_with_len n j)) (map f (range_with_len (n + j) k)) (f (n + j + k) ∷ [])
    ∙ ap (λ (os : List (List ℕ)). map f (range_with_len n j) ++ os) (sym (map-range_with_len_more f (n + j) k (n + j + k) refl))
    ∙ ap (λ (m : ℕ). map f (range_with_len n j) ++ map f (range_with_len (n + j) m)) (let e : k + 1 ≡ suc k = omega arith in e)

-- nothing was asked where the lane had no identifier
none_if_full : (now shard : ℕ) (slots : State) (p p' : PlantTold) (l l' : LaneState) (h h' : List ℕ) (d d' : Drawn) (y : AsksSome now shard slots p p' l l' h h' d d') → 256 ≤ taken_of l → y.asked ≡ []
none_if_full now shard slots p p' l l' h h' d d' y full = elim y.few [ inl none ↦ none | inr low ↦ nil y.asked (omega (arith, full, low, y.counted)) ]
  where
    nil : (xs : List LaneAsk) → length xs ≡ 0 → xs ≡ []
    nil [] e = refl
    nil (a ∷ xs) e = absurd (omega (arith, e))

-- what was not asked yet
record Rests (asked : List LaneAsk) (questions : List Asking) (Full : Type 0) : Type 0 where
  rest : List Asking
  is : questions ≡ map (λ (a : LaneAsk). asking_from a.ask) asked ++ rest
  all : (rest ≡ []) ⊎ Full

rests_next : (xs bs : List LaneAsk) (rest w : List Asking) (F G : Type 0) → (F → G) → (rest ≡ []) ⊎ F → (F → bs ≡ []) → (w ≡ []) ⊎ G
    → Rests (xs ++ bs) ((map (λ (a : LaneAsk). asking_from a.ask) xs ++ rest) ++ (map (λ (a : LaneAsk). asking_from a.ask) bs ++ w)) G
rests_next xs bs rest w F G up (inl none) empty last =
    let asking = λ (a : LaneAsk). asking_from a.ask in
    record {
      rest = w;
      is = ap (λ (r : List Asking). (map asking xs ++ r) ++ (map asking bs ++ w)) none
          ∙ ap (λ (qs : List Asking). qs ++ (map asking bs ++ w)) (append-nil (map asking xs))
          ∙ sym (append_assoc (map asking xs) (map asking bs) w)
          ∙ ap (λ (qs : List Asking). qs ++ w) (sym (map-append asking xs bs));
      all = last;
    }
rests_next xs bs rest w F G up (inr full) empty last =
    let asking = λ (a : LaneAsk). asking_from a.ask in
    record {
      rest = rest ++ w;
      is = ap (λ (cs : List LaneAsk). (map asking xs ++ rest) ++ (map asking cs ++ w)) (empty full)
          ∙ append_assoc (map asking xs) rest w
          ∙ ap (λ (cs : List LaneAsk). map asking cs ++ (rest ++ w)) (sym (append-nil xs) ∙ ap (λ (cs : List LaneAsk). xs ++ cs) (sym (empty full)));
      all = inr (up full);
    }

-- one shard more
pub asked_next : (now k : ℕ) (vs : List Shown) (v : Shown) (p₀ p₁ p₂ : PlantTold) (l₀ l₁ l₂ : LaneState) (hs₀ hs₁ hs₂ : List (List ℕ)) (h h' : List ℕ) (d₀ d₁ d₂ : Drawn)
    → k < length vs → length hs₀ ≡ length vs → AreInOrder vs → v ≡ get_or vs k v → h ≡ get_or hs₁ k [] → hs₂ ≡ set hs₁ k h'
    → Asked now k vs p₀ p₁ l₀ l₁ hs₀ hs₁ d₀ d₁ → AsksAll now v.number v.state.slots p₁ p₂ l₁ l₂ h h' d₁ d₂
    → Asked now (k + 1) vs p₀ p₂ l₀ l₂ hs₀ hs₂ d₀ d₂
asked_next now k vs v p₀ p₁ p₂ l₀ l₁ l₂ hs₀ hs₁ hs₂ h h' d₀ d₁ d₂ lt same order is there set_is x y =
    let z = y.0 in
    let xs = x.asked in
    let bs = z.asked in
    let asking = λ (a : LaneAsk). asking_from a.ask in
    let number_of = λ (a : LaneAsk). a.ask.number in
    let authenticator_of = λ (a : LaneAsk). a.authenticator in
    let send_of = λ (a : LaneAsk). a.send in
    let seed = d₀.seed in
    let n = d₀.drawn in
    let one = length-append xs bs in
    let number : v.number ≡ k = ap (λ (u : Shown). u.number) is ∙ order k v lt in
    let own : All (IsOf k) bs = subst (λ (m : ℕ). All (IsOf m) bs) number z.own in
    let within : k < length hs₁ = omega (arith, lt, same, x.count) in
    let after : k + 1 ≡ suc k = omega arith in
    let next : waiting_in (take (k + 1) vs) hs₀ ≡ waiting_in (take k vs) hs₀ ++ waiting v.state.slots h =
    ap (λ (m : ℕ). waiting_in (take m vs) hs₀) after
    ∙ waiting_next k vs hs₀ v lt same
    ∙ ap (λ (u : Shown). waiting_in (take k vs) hs₀ ++ waiting u.state.slots (get_or hs₀ k [])) (sym is)
    ∙ ap (λ (g : List ℕ). waiting_in (take k vs) hs₀ ++ waiting v.state.slots g) (sym (x.untouched k (omega arith)) ∙ sym there) in
    let rests = rests_next xs bs x.rest (waiting v.state.slots h') (256 ≤ taken_of l₁) (256 ≤ taken_of l₂) (λ full. omega (arith, full, z.counted)) x.all
    (none_if_full now v.number v.state.slots p₁ p₂ l₁ l₂ h h' d₁ d₂ z) y.1 in
    record {
      asked = xs ++ bs;
      rest = rests.rest;
      asks = chain_append (Asks now) l₀ l₁ l₂ xs bs x.asks z.asks;
      questions = next ∙ ap (λ (qs : List Asking). qs ++ waiting v.state.slots h) x.questions
          ∙ ap (λ (qs : List Asking). (map asking xs ++ x.rest) ++ qs) z.questions
          ∙ rests.is;
      all = rests.all;
      authenticators = map-append authenticator_of xs bs
          ∙ ap (λ (os : List (List ℕ)). os ++ map authenticator_of bs) x.authenticators
          ∙ ap (λ (os : List (List ℕ)). map (draw seed) (range_with_len n (length xs)) ++ os) (z.authenticators ∙ ap (λ (d : Drawn). map (draw d.seed) (range_with_len d.drawn (length bs))) x.draws_are)
          ∙ sym (draws_append seed n (length xs) (length bs))
          ∙ ap (λ (m : ℕ). map (draw seed) (range_with_len n m)) (sym one);
      handed_is = set_is ∙ ap (λ (g : List ℕ). set hs₁ k g) (z.handed_is ∙ ap (λ (g : List ℕ). fold handed_after g (map number_of bs)) there)
          ∙ sym (handed_at k hs₁ bs within own)
          ∙ ap (λ (hs : List (List ℕ)). handed_over hs (map number_of bs)) x.handed_is
          ∙ sym (fold-append hand_out hs₀ (map number_of xs) (map number_of bs))
          ∙ ap (λ (qs : List QuestionNo). handed_over hs₀ qs) (sym (map-append number_of xs bs));
      untouched = λ j le. ap (λ (hs : List (List ℕ)). get_or hs j []) set_is ∙ get_or-set_other hs₁ k j h' [] (λ (e : j ≡ k). let no : ⊥ = omega (arith, e, le) in no) ∙ x.untouched j (omega (arith, le));
      count = ap (λ (hs : List (List ℕ)). length hs) set_is ∙ length-set hs₁ k h' ∙ x.count;
      told = subst (λ (ss : List LaneSend). ExtendsPlant p₀ p₂ (lane_stretch (server_of l₀) ss)) (sym (map-append send_of xs bs))
          (sent_join Auth (server_of l₀) (server_of l₁) p₀ p₁ p₂ (map send_of xs) (map send_of bs) (asks_server now l₀ l₁ xs x.asks) x.told z.told);
      draws_are = z.draws_are ∙ ap (λ (d : Drawn). record d { drawn = d.drawn + length bs }) x.draws_are ∙ ap (λ (m : ℕ). record d₀ { drawn = m }) (omega (arith, one));
      low = omega (arith, x.low, z.counted, one);
      few = elim z.few [ inl none ↦ omega (arith, one, ap (λ (cs : List LaneAsk). length cs) none, x.few) | inr less ↦ omega (arith, one, x.low, z.counted, less) ];
    }

resends_server : (now : ℕ) (l l' : LaneState) (s : LaneSend) → Resends now l s l' → server_of l' ≡ server_of l
resends_server now l l' s (m, by, same) = ap (λ (x : LaneState). server_of x) same ∙ ap (λ (x : LaneState). server_of x) by.others

-- what was sent again, and then what was asked
pub requests_sent : (now k : ℕ) (vs : List Shown) (p₀ p₁ p₂ : PlantTold) (l₀ l₁ l₂ : LaneState) (hs hs' : List (List ℕ)) (d d' : Drawn)
    → k ≡ length vs → SendsAgain now p₀ p₁ l₀ l₁ → Asked now k vs p₁ p₂ l₁ l₂ hs hs' d d' → SendsRequests now vs p₀ p₂ l₀ l₂ hs hs' d d'
requests_sent now k vs p₀ p₁ p₂ l₀ l₁ l₂ hs hs' d d' every s x =
    let xs = x.asked in
    let asking = λ (a : LaneAsk). asking_from a.ask in
    let whole : waiting_in vs hs ≡ map asking xs ++ x.rest = ap (λ (us : List Shown). waiting_in us hs) (sym (take_all k vs (omega (arith, every)))) ∙ x.questions in
    let server : server_of l₁ ≡ server_of l₀ =
    chain_keeps (Resends now) (λ (m : LaneState). server_of m ≡ server_of l₀) (λ m n a y same. resends_server now m n a y ∙ same) l₀ l₁ s.resent s.resends.0 refl in
    record {
      requests = record { resent = s.resent; asked = xs };
      settles = record {
        mid = l₁;
        resends = s.resends;
        asks = x.asks;
        questions = sym (take-append_seam (map asking xs) x.rest)
            ∙ ap (λ (m : ℕ). take m (map asking xs ++ x.rest)) (length-map xs asking)
            ∙ ap (λ (qs : List Asking). take (length xs) qs) (sym whole);
        all = elim x.all [
          | inl none ↦ inl (omega (arith, ap (λ (qs : List Asking). length qs) whole, length-append (map asking xs) x.rest, length-map xs asking, ap (λ (qs : List Asking). length qs) none))
          | inr full ↦ inr full
        ];
        authenticators = x.authenticators;
        handed_is = x.handed_is;
      };
      told = sent_join Auth (server_of l₀) (server_of l₁) p₀ p₁ p₂ s.resent (map (λ (a : LaneAsk). a.send) xs) server s.told x.told;
      draws_are = x.draws_are;
    }
