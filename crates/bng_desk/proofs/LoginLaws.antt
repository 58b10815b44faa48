-- Questions that are given up, and replies that are taken, one after the other.
use Rattle.std.proofs.Common.{◌≡◌, inl, inr, ℕ, ◌+◌, ◌≤◌, Bool, true, false, append-nil, List, [], ◌∷◌, ◌++◌, Option, None, Some, map, length, refl, sym, ap, subst, ◌∙◌, arith}
use Rattle.std.proofs.lemmas.List.{map-append, length-map, length-append}
use Rattle.std.proofs.lemmas.Grind.{flat_map-append}
use Rattle.bng_base.specs.declared.item.Item.{Item}
use Rattle.bng_base.specs.Chain.{Chain}
use Rattle.bng_base.proofs.ChainLaws.{chain_more}
use Rattle.bng_lane.specs.Due.{GivesUp}
use Rattle.bng_lane.specs.State.{LaneState}
use Rattle.bng_verdict.specs.declared.question.QuestionNo.{QuestionNo}
use Rattle.bng_base.specs.declared.address.Peer.{Peer}
use Rattle.bng_base.specs.declared.outside.Received.TheVariants.{Got}
use Rattle.bng_base.specs.declared.outside.Role.TheVariants.{Auth}
use Rattle.bng_base.specs.FateOf.{Arrival}
use Rattle.bng_base.specs.Stretch.{ExtendsPlant}
use Rattle.bng_base.specs.Told.{PlantTold}
use Rattle.bng_base.proofs.StretchLaws.{plant_more}
use Rattle.bng_lane.specs.Replies.{Takes as IsTaken}
use Rattle.bng_desk.specs.declared.reading.ReadEnd.{ReadEnd}
use Rattle.bng_desk.specs.Intake.{AddsReply, TakesReplies}
use Rattle.bng_desk.specs.Items.{drawn_from}
use Rattle.bng_desk.specs.Logins.{Answered, Hears, TimesOut, reply_in, reply_items, timeout_items, verdict_item, silence, verdicts_most}
use Rattle.bng_desk.specs.Random.{Drawn, draw}
use Rattle.bng_desk.specs.Reading.{EndsRight, is_empty, receiving, ending_stretch}
use Rattle.bng_desk.proofs.Drawing.{drawn_more, draws_more}
use Rattle.bng_desk.proofs.TakeLaws.{taking, one_taken}

-- one more was given up
abbrev pub GaveUp : ℕ → LaneState → List QuestionNo → LaneState → Type 0
GaveUp now l timed l' = Chain (λ a (q : QuestionNo) b. GivesUp a now (Some q) b) l timed l'

pub gave_up_more : (now : ℕ) (l m l' : LaneState) (timed : List QuestionNo) (result : Option QuestionNo) (q : QuestionNo) → GaveUp now l timed m → GivesUp m now result l' → result ≡ Some q → GaveUp now l (timed ++ q ∷ []) l'
gave_up_more now l m l' timed result q chain gives some =
    chain_more (λ a (x : QuestionNo) b. GivesUp a now (Some x) b) l m l' timed q chain (subst (λ (r : Option QuestionNo). GivesUp m now r l') some gives)

-- none was left
pub gave_up_all : (now most : ℕ) (l m l' : LaneState) (timed : List QuestionNo) (result : Option QuestionNo) → GaveUp now l timed m → GivesUp m now result l' → result ≡ None → length timed ≤ most → TimesOut now most l timed l'
gave_up_all now most l m l' timed result chain gives none few =
    let g : GivesUp m now None l' = subst (λ (r : Option QuestionNo). GivesUp m now r l') none gives in
    record {
      given_up = subst (λ (x : LaneState). GaveUp now l timed x) (sym g.1) chain;
      few = few;
      all = inr (subst (λ (x : LaneState). GivesUp x now None l') (sym g.1) g);
    }

-- as many as may be
pub gave_up_most : (now most : ℕ) (l l' : LaneState) (timed : List QuestionNo) → GaveUp now l timed l' → length timed ≡ most → TimesOut now most l timed l'
gave_up_most now most l l' timed chain all = record { given_up = chain; few = omega (arith, all); all = inl all }

pub timeouts_length : (timed : List QuestionNo) → length (timeout_items timed) ≡ length timed
timeouts_length timed = length-map timed (verdict_item silence)

pub timeouts_more : (timed : List QuestionNo) (q : QuestionNo) → timeout_items (timed ++ q ∷ []) ≡ timeout_items timed ++ verdict_item silence q ∷ []
timeouts_more timed q = map-append (verdict_item silence) timed (q ∷ [])

-- one more drew its octets
pub draws_one : {X : Type 0} (d₀ d₁ d₂ : Drawn) (xs : List X) (x : X) → d₁ ≡ record d₀ { drawn = d₀.drawn + length xs } → d₂ ≡ record d₁ { drawn = d₁.drawn + 1 } → d₂ ≡ record d₀ { drawn = d₀.drawn + length (xs ++ x ∷ []) }
draws_one d₀ d₁ d₂ xs x so_far draws =
    draws ∙ ap (λ (d : Drawn). record d { drawn = d.drawn + 1 }) so_far ∙ ap (λ (n : ℕ). record d₀ { drawn = n }) (omega (arith, length-append xs (x ∷ [])))

abbrev with_octets : Peer → Bool → QuestionNo → List ℕ → List ℕ → Item
with_octets from cut q octets random = record (verdict_item (record { from = from; cut = cut; octets = octets }) q) { random = random }

-- a verdict that was pushed, as an item that drew its octets
pub verdict_drawn : (items items' : List Item) (v : Item) (from : Peer) (cut : Bool) (q : QuestionNo) (was octets random drawn : List ℕ) → items' ≡ items ++ v ∷ [] → v ≡ with_octets from cut q was random → was ≡ octets → random ≡ drawn
    → items' ≡ items ++ with_octets from cut q octets drawn ∷ []
verdict_drawn items items' v from cut q was octets random drawn pushed is same here =
    pushed ∙ ap (λ (i : Item). items ++ i ∷ []) (is ∙ ap (λ (os : List ℕ). with_octets from cut q os random) same ∙ ap (λ (rs : List ℕ). with_octets from cut q octets rs) here)

-- Replies ---------------------------------------------------------------------------------------------------------------

-- a datagram that answers nothing
pub adds_none : (a : Arrival) (l l' : LaneState) (d : Drawn) (items : List Item) (found : Option QuestionNo) → IsTaken l a.from a.octets found l' → found ≡ None → AddsReply a l l' d d items items
adds_none a l l' d items found takes none = record {
  found = None;
  takes = subst (λ (f : Option QuestionNo). IsTaken l a.from a.octets f l') none takes;
  items_are = sym (append-nil items);
  draws_are = ap (λ (n : ℕ). record d { drawn = n }) (omega arith);
}

-- and one that is the reply to a question
pub adds_one : (a : Arrival) (q : QuestionNo) (l l' : LaneState) (d d' : Drawn) (items items' : List Item) (found : Option QuestionNo) → IsTaken l a.from a.octets found l' → found ≡ Some q
    → items' ≡ items ++ record (verdict_item a q) { random = draw d.seed d.drawn } ∷ [] → d' ≡ record d { drawn = d.drawn + 1 } → AddsReply a l l' d d' items items'
adds_one a q l l' d d' items items' found takes some added drawn = record {
  found = Some q;
  takes = subst (λ (f : Option QuestionNo). IsTaken l a.from a.octets f l') some takes;
  items_are = added;
  draws_are = drawn;
}

pub replies_more : (bs : List Answered) (b : Answered) → reply_items (bs ++ b ∷ []) ≡ reply_items bs ++ reply_in b.arrival b.found
replies_more bs b =
    let f = λ (x : Answered). reply_in x.arrival x.found in
    flat_map-append f bs (b ∷ []) ∙ ap (λ (is : List Item). reply_items bs ++ is) (append-nil (reply_in b.arrival b.found))

abbrev arrivals_of : List Answered → List Arrival
arrivals_of bs = map (λ (b : Answered). b.arrival) bs

-- what was heard of Auth so far
pub record HeardSome (old new : PlantTold) (l l' : LaneState) (draws draws' : Drawn) (items items' : List Item) (quiet : Bool) (answers : List Answered) : Type 0 where
  pub told : ExtendsPlant old new (taking Auth (arrivals_of answers))
  pub hears : Hears l answers l'
  pub items_are : items' ≡ items ++ drawn_from draws.seed draws.drawn (reply_items answers)
  pub draws_are : draws' ≡ record draws { drawn = draws.drawn + length (reply_items answers) }
  pub quiet_is : quiet ≡ is_empty answers

not_empty : {X : Type 0} (xs : List X) (x : X) → false ≡ is_empty (xs ++ x ∷ [])
not_empty [] x = refl
not_empty (y ∷ xs) x = refl

pub heard_none : (p : PlantTold) (l : LaneState) (d : Drawn) (items : List Item) → ExtendsPlant p p (taking Auth []) → HeardSome p p l l d d items items true []
heard_none p l d items stays = record {
  told = stays;
  hears = refl;
  items_are = sym (append-nil items);
  draws_are = ap (λ (n : ℕ). record d { drawn = n }) (omega arith);
  quiet_is = refl;
}

pub heard_more : (p₀ p₁ p₂ : PlantTold) (l₀ l₁ l₂ : LaneState) (d₀ d₁ d₂ : Drawn) (i₀ i₁ i₂ : List Item) (quiet : Bool) (bs : List Answered) (a : Arrival) → HeardSome p₀ p₁ l₀ l₁ d₀ d₁ i₀ i₁ quiet bs
    → ExtendsPlant p₁ p₂ (receiving Auth (Got a.from a.cut) a.octets) → (x : AddsReply a l₁ l₂ d₁ d₂ i₁ i₂)
    → HeardSome p₀ p₂ l₀ l₂ d₀ d₂ i₀ i₂ false (bs ++ record { arrival = a; found = x.found } ∷ [])
heard_more p₀ p₁ p₂ l₀ l₁ l₂ d₀ d₁ d₂ i₀ i₁ i₂ quiet bs a so_far told x =
    let b : Answered = record { arrival = a; found = x.found } in
    let was = reply_items bs in
    let here = reply_in a x.found in
    record {
      told = subst (λ (fs : List Arrival). ExtendsPlant p₀ p₂ (taking Auth fs)) (sym (map-append (λ (y : Answered). y.arrival) bs (b ∷ []))) (one_taken Auth p₀ p₁ p₂ (arrivals_of bs) a so_far.told told);
      hears = chain_more (λ l (y : Answered) l'. IsTaken l y.arrival.from y.arrival.octets y.found l') l₀ l₁ l₂ bs b so_far.hears x.takes;
      items_are = drawn_more d₀.seed d₀.drawn i₀ i₁ i₂ was here d₁ so_far.items_are so_far.draws_are x.items_are
          ∙ ap (λ (is : List Item). i₀ ++ drawn_from d₀.seed d₀.drawn is) (sym (replies_more bs b));
      draws_are = draws_more d₀.seed d₀.drawn (length here) d₁ d₂ was here so_far.draws_are x.draws_are refl
          ∙ ap (λ (is : List Item). record d₀ { drawn = d₀.drawn + length is }) (sym (replies_more bs b));
      quiet_is = not_empty bs b;
    }

-- and Auth was read
pub auth_read : (old was new : PlantTold) (l l' : LaneState) (draws draws' : Drawn) (items items' : List Item) (quiet : Bool) (answers : List Answered) (ended : ReadEnd)
    → EndsRight verdicts_most (length answers) ended → HeardSome old was l l' draws draws' items items' quiet answers → ExtendsPlant was new (ending_stretch Auth ended)
    → TakesReplies old new l l' draws draws' items items' quiet
auth_read old was new l l' draws draws' items items' quiet answers ended ends x last = record {
  answers = answers;
  ended = ended;
  ends = ends;
  told = plant_more old was new (taking Auth (arrivals_of answers)) (ending_stretch Auth ended) x.told last;
  hears = x.hears;
  items_are = x.items_are;
  draws_are = x.draws_are;
  quiet_is = x.quiet_is;
}
