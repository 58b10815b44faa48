-- Each request in hand is that of an item that stays; so a round that is opened leaves none in hand.
use Rattle.std.proofs.Common.{◌≡◌, ◌⊎◌, inl, inr, ℕ, zero, suc, ◌+◌, ◌<◌, ◌≤◌, ◌==◌, Bool, true, false, cond, ltb, List, [], ◌∷◌, ◌++◌, map, length, Option, Some, None, slice_get, refl, sym, ap, subst, ◌∙◌, append_assoc, arith}
use Rattle.std.specs.Prelude.{filter, find, option_to_list, ◌^◌}
use Rattle.std.specs.List.{All, AllByRecursion, AllZip}
use Rattle.std.proofs.lemmas.Bool.Decides.{Decides-eqb}
use Rattle.std.proofs.lemmas.List.Elements.{recursion_from_All}
use Rattle.std.proofs.lemmas.Option.{same_Some, none-some}
use Rattle.bng_base.specs.declared.item.Entry.{Entry}
use Rattle.bng_base.specs.declared.item.Item.{Item}
use Rattle.bng_base.specs.declared.item.ItemKind.{ItemKind}
use Rattle.bng_base.specs.declared.item.ItemKind.TheVariants as kind
use Rattle.bng_base.specs.declared.item.Loose.{Loose}
use Rattle.bng_base.specs.Chain.{Chain}
use Rattle.bng_coa.specs.declared.request.ChangeRequest.{ChangeRequest}
use Rattle.bng_coa.specs.declared.request.RequestStage.{RequestStage}
use Rattle.bng_coa.specs.declared.request.RequestStage.TheVariants.{InHand, Answered}
use Rattle.bng_coa.specs.declared.rules.Admitted.{Admitted}
use Rattle.bng_coa.specs.declared.rules.Admitted.TheVariants.{New, Repeat, InHand as StillInHand, Ignored}
use Rattle.bng_coa.specs.Admission.{IsRequestIn, Keeps, WhenNew}
use Rattle.bng_coa.specs.Requests.{is_held, is_in_hand, is_in_hand_at, is_numbered, is_numbered_at, with_room}
use Rattle.bng_coa.specs.State.{State as CoaState}
use Rattle.bng_coa.proofs.Each.{appended, filtered}
use Rattle.bng_coa.proofs.Standing.{IsApart}
use Rattle.bng_engine.specs.Journals.{AreSteps}
use Rattle.bng_engine.specs.Lists.{AnyOf}
use Rattle.bng_engine.specs.Views.{ShardView}
use Rattle.bng_engine.proofs.Everywhere.{any_either, any_left, any_right}
use Rattle.bng_radius_wire.specs.Grammar.{Packet}
use Rattle.bng_steps.specs.declared.changes.ChangeAnswer.{ChangeAnswer}
use Rattle.bng_steps.specs.declared.rules.Rules.{Rules}
use Rattle.bng_steps.specs.declared.whose.Whose.{Whose}
use Rattle.bng_steps.specs.declared.whose.Whose.TheVariants.{Loose as IsLoose, Stands}
use Rattle.bng_steps.specs.Changes.{AnswersKind, AnswersRequest, answer_to, refusal_of, verdict_by}
use Rattle.bng_steps.specs.Protocol.{ShardState, Handled, entry_of, pppoe}
use Rattle.bng_steps.specs.State.{State}
use Rattle.bng_desk.specs.Coa.{AdmitsAll, AnswersLoose, AnswersLooseKind, AreLooseAnswers, CoaReplies, CoaReply, CoaSend, GivesAnswer, GivesTo, Given, Requested, SettlesCoa, answers_in, change_in, change_item, change_items, shard_answers}
use Rattle.bng_desk.specs.Items.{all_loose, drawn_from, ends_of, entries_in, kept_of, loose_in, loose_item, stands_in, stays, without_claim}
use Rattle.bng_desk.specs.Model.{Desk}
use Rattle.bng_desk.specs.Round.{IsPart, AreParts, Round, StandsWithin, entries_of, of_seat}
use Rattle.bng_desk.specs.Turn.{RoundOf, Turn, answers_of, ending_items, has_end, items_of, loose_of, new_items}
use Rattle.bng_gate.specs.Granted.{Held}
use Rattle.bng_gate.proofs.Answering.{NoneInHand}
use Rattle.bng_gate.proofs.AskedBy.{all_room, all_weaker, clash, settled_all}
use Rattle.bng_gate.proofs.AskedIn.{gives_apart}
use Rattle.bng_gate.proofs.Reaching.{IsMade, begun}

-- The items of what is in hand --------------------------------------------------------------------------------------------------------

-- the item is a request for a change, under this number
abbrev pub Asks : ℕ → Item → Type 0
Asks n i = (i.kind ≡ kind.Change) × (i.ask ≡ n) × ((p : Packet) × IsRequestIn p i.frame.payload)

-- a request in hand is that of one of these items
abbrev pub IsCovered : List Item → RequestStage → Type 0
IsCovered items (InHand n packet) = (n < 2 ^ 32) × AnyOf (Asks n) items
IsCovered items (Answered reply) = Unit {0}

abbrev pub Covers : CoaState → List Item → Type 0
Covers c items = AllByRecursion (λ (r : ChangeRequest). IsCovered items r.stage) c.requests

covered_more : (items more : List Item) → ((n : ℕ) → AnyOf (Asks n) items → AnyOf (Asks n) more) → (s : RequestStage) → IsCovered items s → IsCovered more s
covered_more items more on (InHand n packet) h = (h.0, on n h.1)
covered_more items more on (Answered reply) h = tt

covers_more : (c : CoaState) (items more : List Item) → ((n : ℕ) → AnyOf (Asks n) items → AnyOf (Asks n) more) → Covers c items → Covers c more
covers_more c items more on all = all_weaker (λ (r : ChangeRequest). IsCovered items r.stage) (λ (r : ChangeRequest). IsCovered more r.stage) (λ r h. covered_more items more on r.stage h) c.requests all

-- Admission --------------------------------------------------------------------------------------------------------------------------

admitted_covers : (now : ℕ) (c c' : CoaState) (q : Requested) (a : Admitted) (items : List Item) → Keeps c c' q.arrival.from q.arrival.octets now a → WhenNew a (λ n. n < 2 ^ 32) → Covers c items → Covers c' (items ++ change_in q.arrival a q.target)
admitted_covers now c c' q (New number) items h low all =
    let more = items ++ change_item q.arrival number q.target ∷ [] in
    let P = λ (r : ChangeRequest). IsCovered more r.stage in
    let held = filter (is_held now) c.requests in
    let old = covers_more c items more (λ n any. any_left (Asks n) items (change_item q.arrival number q.target ∷ []) any) all in
    let new : AnyOf (Asks number) more = any_right (Asks number) items (change_item q.arrival number q.target ∷ []) (inl (refl, refl, (h.packet, h.reads))) in
    subst (AllByRecursion P) (sym h.taken.list) (appended P (with_room held) _ (all_room P (ltb (length held) 256) held (filtered P (is_held now) c.requests old)) ((low, new), tt))
admitted_covers now c c' q (Repeat frame) items h low all = subst (λ (s : CoaState). Covers s (items ++ [])) (sym h) (covers_more c items (items ++ []) (λ n any. any_left (Asks n) items [] any) all)
admitted_covers now c c' q StillInHand items h low all = subst (λ (s : CoaState). Covers s (items ++ [])) (sym h) (covers_more c items (items ++ []) (λ n any. any_left (Asks n) items [] any) all)
admitted_covers now c c' q (Ignored cause) items h low all = subst (λ (s : CoaState). Covers s (items ++ [])) (sym h) (covers_more c items (items ++ []) (λ n any. any_left (Asks n) items [] any) all)

all_covered : (now wall : ℕ) (qs : List Requested) (c c' : CoaState) (items : List Item) → AdmitsAll now wall c qs c' → Covers c items → Covers c' (items ++ change_items qs)
all_covered now wall [] c c' items run all = subst (λ (s : CoaState). Covers s (items ++ [])) (sym run) (covers_more c items (items ++ []) (λ n any. any_left (Asks n) items [] any) all)
all_covered now wall (q ∷ qs) c c' items run all =
    let here = change_in q.arrival q.admitted q.target in
    subst (Covers c') (append_assoc items here (change_items qs))
    (all_covered now wall qs run.0 c' (items ++ here) run.2 (admitted_covers now c run.0 q q.admitted items run.1.keeps run.1.number all))

any_drawn : (n : ℕ) (seed : List ℕ) (m : ℕ) (items : List Item) → AnyOf (Asks n) items → AnyOf (Asks n) (drawn_from seed m items)
any_drawn n seed m [] h = h
any_drawn n seed m (i ∷ items) (inl here) = inl here
any_drawn n seed m (i ∷ items) (inr rest) = inr (any_drawn n seed (m + 1) items rest)

-- once a turn has taken its requests, each in hand is that of one of its items
pub turn_covers : (d : Desk) (t : Turn) (c : CoaState) → AdmitsAll t.moment t.wall d.coa t.requested c → Covers d.coa d.kept → Covers c (items_of d t)
turn_covers d t c admits all =
    let changes = change_items t.requested in
    covers_more c (d.kept ++ changes) (items_of d t)
    (λ n any. elim (any_either (Asks n) d.kept changes any) [
      | inl old ↦ any_left (Asks n) d.kept (drawn_from d.seed d.drawn (new_items d t)) old
      | inr new ↦ any_right (Asks n) d.kept (drawn_from d.seed d.drawn (new_items d t)) (any_drawn n d.seed d.drawn (new_items d t) (any_left (Asks n) changes _ new))
    ])
    (all_covered t.moment t.wall t.requested d.coa c d.kept admits all)

pub end_covers : (d : Desk) → Covers d.coa d.kept → Covers d.coa (ending_items d)
end_covers d all = by (has_end d.kept)
  where
    by : (b : Bool) → Covers d.coa (cond b d.kept (d.kept ++ drawn_from d.seed d.drawn (ends_of (length d.shards))))
    by true = all
    by false = covers_more d.coa d.kept (d.kept ++ drawn_from d.seed d.drawn (ends_of (length d.shards))) (λ n any. any_left (Asks n) d.kept (drawn_from d.seed d.drawn (ends_of (length d.shards))) any) all

any_passed : {X : Type 0} (P : X → Type 0) (p : X → Bool) → ((x : X) → P x → p x ≡ true) → (xs : List X) → AnyOf P xs → AnyOf P (filter p xs)
any_passed P p passes [] h = h
any_passed {X} P p passes (x ∷ xs) h = by (λ rest. any_passed P p passes xs rest) (p x) refl h
  where
    by : (AnyOf P xs → AnyOf P (filter p xs)) → (b : Bool) → p x ≡ b → P x ⊎ AnyOf P xs → AnyOf P (cond b (x ∷ filter p xs) (filter p xs))
    by later true e (inl here) = inl here
    by later true e (inr rest) = inr (later rest)
    by later false e (inl here) = absurd (clash (p x) (passes x here) e)
    by later false e (inr rest) = later rest

pub kept_covers : (c : CoaState) (items : List Item) → Covers c items → Covers c (kept_of items)
kept_covers c items all = covers_more c items (kept_of items) (λ n any. any_passed (Asks n) (λ (i : Item). stays i.kind) (λ i asks. ap stays asks.0) items any) all

none_covered : (s : RequestStage) → is_in_hand_at s ≡ false → IsCovered [] s
none_covered (InHand n packet) is = absurd (let no : true ≡ false = is in cc)
none_covered (Answered reply) is = tt

pub none_covers : (c : CoaState) → NoneInHand c → Covers c []
none_covers c none = all_weaker (λ (r : ChangeRequest). is_in_hand r ≡ false) (λ (r : ChangeRequest). IsCovered [] r.stage) (λ r is. none_covered r.stage is) c.requests none

-- What a round answers ------------------------------------------------------------------------------------------------------------------

-- a request is answered under its number
abbrev IsTo : ℕ → ChangeAnswer → Type 0
IsTo n a = a.number ≡ n

-- in a shard
shard_answers_it : (k : ItemKind) (r : Rules) (s : State) (e : Entry) (o : Option ChangeAnswer) → k ≡ kind.Change → AnswersKind k r s e o → (p : Packet) → IsRequestIn p e.item.frame.payload → (a : ChangeAnswer) × (o ≡ Some a) × (a.number ≡ e.item.ask)
shard_answers_it k r s e o change h p reads = by (subst (λ (x : ItemKind). AnswersKind x r s e o) change h)
  where
    by : AnswersRequest r s e o → (a : ChangeAnswer) × (o ≡ Some a) × (a.number ≡ e.item.ask)
    by (inl none) = absurd (none.0 p reads)
    by (inr some) = (answer_to r s e some.0, some.2, refl)

-- and loose
loose_answers_it : (k : ItemKind) (r : Rules) (i : Item) (o : Option ChangeAnswer) → k ≡ kind.Change → AnswersLooseKind k r i o → (p : Packet) → IsRequestIn p i.frame.payload → (a : ChangeAnswer) × (o ≡ Some a) × (a.number ≡ i.ask)
loose_answers_it k r i o change h p reads = by (subst (λ (x : ItemKind). AnswersLooseKind x r i o) change h)
  where
    by : AnswersLoose r i o → (a : ChangeAnswer) × (o ≡ Some a) × (a.number ≡ i.ask)
    by (inl none) = absurd (none.0 p reads)
    by (inr some) = (record { number = i.ask; verdict = verdict_by (refusal_of r some.0) None }, some.2, refl)

one_there : (n : ℕ) (o : Option ChangeAnswer) (a : ChangeAnswer) → o ≡ Some a → a.number ≡ n → AnyOf (IsTo n) (option_to_list o)
one_there n None a e is = absurd (none-some a e)
one_there n (Some b) a e is = inl (ap (λ (x : ChangeAnswer). x.number) (same_Some b a e) ∙ is)

journal_answers : (n : ℕ) (s : ShardState) (journal : List Handled) → AreSteps pppoe s journal → AnyOf (λ (h : Handled). Asks n h.deed.entry.item) journal → AnyOf (IsTo n) (answers_in journal)
journal_answers n s [] steps h = h
journal_answers n s (e ∷ journal) steps (inl asks) =
    let i = e.deed.entry.item in
    let its = shard_answers_it i.kind s.rules s.slots e.deed.entry e.answer asks.0 steps.0.answered asks.2.0 asks.2.1 in
    any_left (IsTo n) (option_to_list e.answer) (answers_in journal) (one_there n e.answer its.0 its.1 (its.2 ∙ asks.1))
journal_answers n s (e ∷ journal) steps (inr rest) = any_right (IsTo n) (option_to_list e.answer) (answers_in journal) (journal_answers n (pppoe.next s e) journal steps.1 rest)

all_answer : (n : ℕ) (shards : List (ShardView ShardState Handled)) (place : ℕ) (v : ShardView ShardState Handled) → slice_get shards place ≡ Some v → AnyOf (IsTo n) (answers_in v.journal) → AnyOf (IsTo n) (shard_answers shards)
all_answer n [] place v at h = absurd (none-some v at)
all_answer n (w ∷ shards) zero v at h = any_left (IsTo n) (answers_in w.journal) (shard_answers shards) (subst (λ (x : ShardView ShardState Handled). AnyOf (IsTo n) (answers_in x.journal)) (sym (same_Some w v at)) h)
all_answer n (w ∷ shards) (suc place) v at h = any_right (IsTo n) (answers_in w.journal) (shard_answers shards) (all_answer n shards place v at h)

loose_answer : (n : ℕ) (r : Rules) (loose : List Loose) (answers : List ChangeAnswer) → AreLooseAnswers r loose answers → AnyOf (λ (l : Loose). Asks n l.item) loose → AnyOf (IsTo n) answers
loose_answer n r [] answers are h = absurd h
loose_answer n r (l ∷ ls) answers are (inl asks) =
    let its = loose_answers_it l.item.kind r l.item are.0 asks.0 are.2 asks.2.0 asks.2.1 in
    subst (AnyOf (IsTo n)) (sym are.4) (any_left (IsTo n) (option_to_list are.0) are.1 (one_there n are.0 its.0 its.1 (its.2 ∙ asks.1)))
loose_answer n r (l ∷ ls) answers are (inr rest) = subst (AnyOf (IsTo n)) (sym are.4) (any_right (IsTo n) (option_to_list are.0) are.1 (loose_answer n r ls are.1 are.3 rest))

-- Where an item went --------------------------------------------------------------------------------------------------------------------

any_of_all : {X : Type 0} (P : X → Type 0) (p : X → Bool) (xs : List X) → AnyOf P (filter p xs) → AnyOf P xs
any_of_all P p [] h = h
any_of_all {X} P p (x ∷ xs) h = by (λ rest. any_of_all P p xs rest) (p x) h
  where
    by : (AnyOf P (filter p xs) → AnyOf P xs) → (b : Bool) → AnyOf P (cond b (x ∷ filter p xs) (filter p xs)) → AnyOf P (x ∷ xs)
    by later true (inl here) = inl here
    by later true (inr rest) = inr (later rest)
    by later false rest = inr (later rest)

any_mapped : {X Y : Type 0} (P : Y → Type 0) (f : X → Y) (xs : List X) → AnyOf P (map f xs) → AnyOf (λ x. P (f x)) xs
any_mapped P f [] h = h
any_mapped P f (x ∷ xs) (inl here) = inl here
any_mapped P f (x ∷ xs) (inr rest) = inr (any_mapped P f xs rest)

-- the part of a shard
record HasPart (items : List Item) (whose : List (List Whose)) (moment : ℕ) (vs : List (ShardView ShardState Handled)) (number place : ℕ) : Type 0 where
  shard : ShardView ShardState Handled
  at : slice_get vs place ≡ Some shard
  part : IsPart (items ∷ []) whose number moment (map without_claim (entries_of shard))

part_at : (items : List Item) (whose : List (List Whose)) (moment first : ℕ) (vs : List (ShardView ShardState Handled)) (place : ℕ) → AreParts (items ∷ []) whose first moment vs → place < length vs → HasPart items whose moment vs (first + place) place
part_at items whose moment first [] place parts lt = absurd (omega (arith, lt))
part_at items whose moment first (v ∷ vs) zero parts lt =
    let e : first ≡ first + 0 = omega arith in
    record { shard = v; at = refl; part = subst (λ (n : ℕ). IsPart (items ∷ []) whose n moment (map without_claim (entries_of v))) e parts.0 }
part_at items whose moment first (v ∷ vs) (suc place) parts lt =
    let rest = part_at items whose moment (first + 1) vs place parts.1 (omega (arith, lt)) in
    let e : first + 1 + place ≡ first + suc place = omega arith in
    record { shard = rest.shard; at = rest.at; part = subst (λ (n : ℕ). IsPart (items ∷ []) whose n moment (map without_claim (entries_of rest.shard))) e rest.part }

module _ (n moment shards : ℕ) where
  -- it is an entry of a shard
  record InShard (items : List Item) (ws : List Whose) (place : ℕ) : Type 0 where
    number : ℕ
    inside : number < shards
    entry : AnyOf (λ (e : Entry). Asks n e.item) (entries_in 0 number place moment items ws)

  -- or it is loose
  went : (R : Item → Whose → Type 0) (items : List Item) (ws : List Whose) (place : ℕ) → AllZip R items ws → AllByRecursion (StandsWithin shards) ws → AnyOf (Asks n) items
      → AnyOf (λ (l : Loose). Asks n l.item) (loose_in 0 place items ws) ⊎ InShard items ws place
  went R [] ws place zip all h = absurd h
  went R (i ∷ items) [] place zip all h = absurd zip
  went R (i ∷ items) (w ∷ ws) place zip all (inl asks) = by w all.0
    where
      by : (x : Whose) → StandsWithin shards x → AnyOf (λ (l : Loose). Asks n l.item) (loose_item 0 place i x ++ loose_in 0 (place + 1) items ws) ⊎ InShard (i ∷ items) (x ∷ ws) place
      by (IsLoose fate) lt = inl (inl asks)
      by (Stands s) lt = inr (record {
        number = s;
        inside = lt;
        entry = subst (λ (b : Bool). AnyOf (λ (e : Entry). Asks n e.item) (cond b (entry_of 0 place moment i ∷ []) [] ++ entries_in 0 s (place + 1) moment items ws)) (sym ((Decides-eqb s s).1 refl)) (inl asks);
      })
  went R (i ∷ items) (w ∷ ws) place zip all (inr rest) = elim (went R items ws (place + 1) zip.1 all.1 rest) [
    | inl loose ↦ inl (any_right (λ (l : Loose). Asks n l.item) (loose_item 0 place i w) (loose_in 0 (place + 1) items ws) loose)
    | inr x ↦ inr (record { number = x.number; inside = x.inside; entry = any_right (λ (e : Entry). Asks n e.item) (cond (stands_in x.number w) (entry_of 0 place moment i ∷ []) []) (entries_in 0 x.number (place + 1) moment items ws) x.entry })
  ]

module _ (n moment : ℕ) (d : Desk) (items : List Item) (round : Round) (is : RoundOf d moment items (Some round)) (R : Item → Whose → Type 0) where
  shard_there : (ws : List Whose) → AreParts (items ∷ []) (ws ∷ []) 0 moment round.shards → InShard n moment (length round.shards) items ws 0 → AnyOf (IsTo n) (shard_answers round.shards)
  shard_there ws parts x =
      let P = λ (e : Entry). Asks n e.item in
      let turn : Held = record { desk = d; items = items; round = Some round } in
      let made : IsMade turn = record { moment = moment; items = items; round = is } in
      let p = part_at items (ws ∷ []) moment 0 round.shards x.number parts x.inside in
      let v = p.shard in
      let same : x.number ≡ 0 + x.number = omega arith in
      let one : 0 < 1 = omega arith in
      let listed : AnyOf P (of_seat 0 (map without_claim (entries_of v))) =
      subst (AnyOf P) (sym (p.part.each 0 one)) (subst (λ (m : ℕ). AnyOf P (entries_in 0 m 0 moment items ws)) same x.entry) in
      let entries = any_mapped P without_claim (entries_of v) (any_of_all P (λ (e : Entry). e.seat == 0) (map without_claim (entries_of v)) listed) in
      let handled = any_mapped P (λ (h : Handled). h.deed.entry) v.journal entries in
      let b = begun turn round x.number v made refl p.at in
      all_answer n round.shards x.number v p.at (journal_answers n b.view.state v.journal b.steps handled)

  -- each request among the items has an answer
  answers_there : (of_loose : List ChangeAnswer) (whose : List (List Whose)) → AllZip (AllZip R) (items ∷ []) whose → AllByRecursion (All (StandsWithin (length round.shards))) whose → AreParts (items ∷ []) whose 0 moment round.shards
      → AreLooseAnswers d.rules (all_loose 0 (items ∷ []) whose) of_loose → AnyOf (Asks n) items → AnyOf (IsTo n) (of_loose ++ shard_answers round.shards)
  answers_there of_loose [] zip inside parts are asks = absurd zip
  answers_there of_loose (ws ∷ []) zip inside parts are asks =
      let each = recursion_from_All (StandsWithin (length round.shards)) ws inside.0 in
      elim (went n moment (length round.shards) R items ws 0 zip.0 each asks) [
        | inl loose ↦ any_left (IsTo n) of_loose (shard_answers round.shards)
            (loose_answer n d.rules (all_loose 0 (items ∷ []) (ws ∷ [])) of_loose are (any_left (λ (l : Loose). Asks n l.item) (loose_in 0 0 items ws) [] loose))
        | inr x ↦ any_right (IsTo n) of_loose (shard_answers round.shards) (shard_there ws parts x)
      ]
  answers_there of_loose (ws ∷ v ∷ whose) zip inside parts are asks = absurd zip.1

-- The answers of a settlement --------------------------------------------------------------------------------------------------------

-- a request in hand is among those that are answered
abbrev IsHandled : List Given → RequestStage → Type 0
IsHandled given (InHand n packet) = (n < 2 ^ 32) × AnyOf (λ (g : Given). g.answer.number ≡ n) given
IsHandled given (Answered reply) = Unit {0}

none_left : (s : RequestStage) → IsHandled [] s → is_in_hand_at s ≡ false
none_left (InHand n packet) h = absurd h.1
none_left (Answered reply) h = refl

others_stay : (g : Given) (given : List Given) (s : RequestStage) → is_numbered_at g.answer.number s ≡ false → IsHandled (g ∷ given) s → IsHandled given s
others_stay g given (InHand n packet) other (low, inl its) = absurd (clash (n == g.answer.number) ((Decides-eqb n g.answer.number).1 (sym its)) other)
others_stay g given (InHand n packet) other (low, inr rest) = (low, rest)
others_stay g given (Answered reply) other h = tt

-- no request has a number above
all_stay : (g : Given) (given : List Given) (s : RequestStage) → 2 ^ 32 ≤ g.answer.number → IsHandled (g ∷ given) s → IsHandled given s
all_stay g given (InHand n packet) high (low, inl its) = absurd (omega (arith, low, its, high))
all_stay g given (InHand n packet) high (low, inr rest) = (low, rest)
all_stay g given (Answered reply) high h = tt

all_other : (n : ℕ) (rs : List ChangeRequest) → find (is_numbered n) rs ≡ None → AllByRecursion (λ r. is_numbered n r ≡ false) rs
all_other n [] e = tt
all_other n (r ∷ rs) e = by (λ f. all_other n rs f) (is_numbered n r) refl e
  where
    by : (find (is_numbered n) rs ≡ None → AllByRecursion (λ (x : ChangeRequest). is_numbered n x ≡ false) rs) → (b : Bool) → is_numbered n r ≡ b → cond b (Some r) (find (is_numbered n) rs) ≡ None
        → AllByRecursion (λ (x : ChangeRequest). is_numbered n x ≡ false) (r ∷ rs)
    by later true is f = absurd (none-some r (sym f))
    by later false is f = (is, later f)

all_both : (P Q R : ChangeRequest → Type 0) → ((r : ChangeRequest) → P r → Q r → R r) → (rs : List ChangeRequest) → AllByRecursion P rs → AllByRecursion Q rs → AllByRecursion R rs
all_both P Q R f [] p q = tt
all_both P Q R f (r ∷ rs) p q = (f r p.0 q.0, all_both P Q R f rs p.1 q.1)

gives_one : (g : Given) (given : List Given) (o : Option CoaSend) (c c' : CoaState) → GivesTo c g.answer o c' → IsApart c.requests → AllByRecursion (λ (r : ChangeRequest). IsHandled (g ∷ given) r.stage) c.requests
    → AllByRecursion (λ (r : ChangeRequest). IsHandled given r.stage) c'.requests
gives_one g given None c c' h apart all = subst (λ (s : CoaState). AllByRecursion (λ (r : ChangeRequest). IsHandled given r.stage) s.requests) (sym h.1) (by h.0)
  where
    by : (2 ^ 32 ≤ g.answer.number) ⊎ (find (is_numbered g.answer.number) c.requests ≡ None) → AllByRecursion (λ (r : ChangeRequest). IsHandled given r.stage) c.requests
    by (inl high) = all_weaker (λ (r : ChangeRequest). IsHandled (g ∷ given) r.stage) (λ (r : ChangeRequest). IsHandled given r.stage) (λ r x. all_stay g given r.stage high x) c.requests all
    by (inr none) =
        all_both (λ (r : ChangeRequest). is_numbered g.answer.number r ≡ false) (λ (r : ChangeRequest). IsHandled (g ∷ given) r.stage) (λ (r : ChangeRequest). IsHandled given r.stage)
        (λ r other x. others_stay g given r.stage other x) c.requests (all_other g.answer.number c.requests none) all
gives_one g given (Some s) c c' h apart all =
    let settled = h.4.settled in
    let Q = λ (r : ChangeRequest). IsHandled given r.stage in
    subst (AllByRecursion Q) (sym settled.list)
    (settled_all (λ (r : ChangeRequest). IsHandled (g ∷ given) r.stage) Q g.answer.number (λ r other x. others_stay g given r.stage other x)
    c.requests settled.place settled.request (record settled.request { stage = Answered h.3.payload }) settled.stands settled.numbered apart.numbers all tt)

given_none : (given : List Given) (c c' : CoaState) → Chain GivesAnswer c given c' → IsApart c.requests → AllByRecursion (λ (r : ChangeRequest). IsHandled given r.stage) c.requests → NoneInHand c'
given_none [] c c' run apart all =
    subst NoneInHand (sym run) (all_weaker (λ (r : ChangeRequest). IsHandled [] r.stage) (λ (r : ChangeRequest). is_in_hand r ≡ false) (λ r h. none_left r.stage h) c.requests all)
given_none (g ∷ given) c c' run apart all =
    given_none given run.0 c' run.2 (gives_apart c.secret g g.send c run.0 run.1 apart) (gives_one g given g.send c run.0 run.1 apart all)

-- where a round was opened, none is in hand once it is settled
pub settled_none : (d : Desk) (moment : ℕ) (items : List Item) (round : Round) (repeats : List CoaReply) (middle c : CoaState) (q : CoaReplies) → RoundOf d moment items (Some round)
    → SettlesCoa d.rules repeats (loose_of items (Some round)) (answers_of (Some round)) middle q c → IsApart middle.requests → Covers middle items → NoneInHand c
settled_none d moment items round repeats middle c q is by apart all =
    given_none q.given middle c by.gives apart (all_weaker (λ (r : ChangeRequest). IsCovered items r.stage) (λ (r : ChangeRequest). IsHandled q.given r.stage) (λ r h. handled r.stage h) middle.requests all)
  where
    handled : (s : RequestStage) → IsCovered items s → IsHandled q.given s
    handled (InHand n packet) h = (
      h.0,
      any_mapped (IsTo n) (λ (g : Given). g.answer) q.given
          (subst (AnyOf (IsTo n)) (sym by.answers)
          (answers_there n moment d items round is _ by.of_loose round.whose is.dealt.whose (recursion_from_All (All (StandsWithin (length round.shards))) round.whose is.dealt.inside) is.dealt.parts by.are_loose h.1)),
    )
    handled (Answered reply) h = tt
