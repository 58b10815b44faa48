-- A shard's outs are sent, one after the other.
use Rattle.std.proofs.Common.{◌≡◌, ℕ, ◌+◌, ◌<◌, ◌≤◌, Bool, true, false, ◌&&◌, not, cond, List, [], ◌∷◌, ◌++◌, map, Option, Some, None, is_some, length, length-append, refl, sym, ap, subst, ◌∙◌, arith, append-nil, append_assoc}
use Rattle.std.specs.List.{AllByRecursion, count_by, sum_by}
use Rattle.std.proofs.lemmas.List.{length-map, map-append}
use Rattle.std.proofs.lemmas.List.Sums.{sum_by-le-sum_by, sum_by_push, sum_by-append, sum_by-cons}
use Rattle.bng_base.specs.declared.book.Book.{Book}
use Rattle.bng_base.specs.declared.fate.DropCause.TheVariants.{LinkFailed}
use Rattle.bng_base.specs.declared.item.Charge.{Charge}
use Rattle.bng_base.specs.declared.item.Entry.{Entry}
use Rattle.bng_base.specs.declared.item.OutRecord.{OutRecord}
use Rattle.bng_base.specs.declared.outside.Datagram.{Datagram}
use Rattle.bng_base.specs.Stretch.{PlantStretch, plant_joined, ExtendsPlant}
use Rattle.bng_base.specs.Told.{PlantTold}
use Rattle.bng_base.proofs.StretchLaws.{plant_more, plant_stays}
use Rattle.bng_engine.specs.Books.{book_at, failed_under, BooksSoFar}
use Rattle.bng_engine.specs.Calls.{InTurn}
use Rattle.bng_engine.specs.Journals.{unsent, after, AreLimited}
use Rattle.bng_engine.specs.Lists.{one_if}
use Rattle.bng_engine.specs.Protocol.{IsOwned, IsUnsent}
use Rattle.bng_engine.specs.Quantities.{Quantity, in_book}
use Rattle.bng_engine.specs.Showing.{ChargesShown, with_lists}
use Rattle.bng_engine.specs.Sums.{part_of_charge, charge_if, is_any, is_directed, is_picked, sent_sum, passed_sum, failed_sum, sent_where}
use Rattle.bng_engine.specs.Terms.{keys}
use Rattle.bng_engine.specs.Views.{Row, ShardView, row_keys, rows_where}
use Rattle.bng_engine.specs.Wire.{datagram_of, went}
use Rattle.bng_engine.proofs.Adding.{sum_map}
use Rattle.bng_engine.proofs.Covering.{book_covers}
use Rattle.bng_engine.proofs.Journals.{run_owned, run_unsent, owned_same}
use Rattle.bng_engine.proofs.Progressing.{turn_sends}
use Rattle.bng_engine.proofs.SameLists.{same_back}
use Rattle.bng_engine.proofs.Wire.{went_append}
use Rattle.bng_steps.specs.declared.sums.Charged.{Charged}
use Rattle.bng_steps.specs.declared.sums.Charged.TheVariants.{Packet}
use Rattle.bng_steps.specs.Protocol.{ShardState, Handled, pppoe, terms_of}
use Rattle.bng_steps.specs.Sums.{charged_as, Has, IsMore, AreCovered, AreLow, RowsAreLow}
use Rattle.bng_steps.proofs.StepLaws.{pppoe_laws}
use Rattle.bng_desk.specs.declared.drops.Drops.{Drops}
use Rattle.bng_desk.specs.Counting.{plus, Within}
use Rattle.bng_desk.specs.Reading.{sending}
use Rattle.bng_desk.specs.Round.{is_failed, with_failed, not_sent, sends_stretch}
use Rattle.bng_desk.specs.Taking.{is_lost, lost_part, IsEmpty, IsLight, IsTurning, Turns, Covers, Falls, Sends}
use Rattle.bng_desk.proofs.DropLaws.{more_of_cause, most_of_cause, none_of_cause, plus_none, plus_plus, within_plus}
use Rattle.bng_desk.proofs.Going.{count_pushed}

-- some of its outs were sent, and these are left
pub record SendsSome (v w : ShardView ShardState Entry) (old new : PlantTold) (outs outs' : List OutRecord) (rest : List OutRecord) (drops drops' : Drops) (tally tally' : Book) : Type 0 where
  pub sends : List OutRecord
  pub are_outs : map unsent sends ++ map unsent rest ≡ map unsent v.outs
  pub turn : (was now : ShardView ShardState Handled) → IsTurning v was now → InTurn pppoe was (with_lists w now.journal now.outs sends)
  pub number : w.number ≡ v.number
  pub allowance : w.allowance ≡ v.allowance
  pub empty : IsEmpty w
  pub outs_are : outs' ≡ outs ++ sends
  pub told : ExtendsPlant old new (sends_stretch sends)
  pub drops_are : drops' ≡ plus drops (with_failed (count_by is_failed sends))
  pub falls : Falls tally sends tally'

-- Drops -----------------------------------------------------------------------------------------------------------------

pub failed_none : (d : Drops) → d ≡ plus d (with_failed 0)
failed_none d = sym (ap (plus d) (none_of_cause LinkFailed) ∙ plus_none d)

pub failed_more : (d : Drops) (a b : ℕ) → plus (plus d (with_failed a)) (with_failed b) ≡ plus d (with_failed (a + b))
failed_more d a b = plus_plus d (with_failed a) (with_failed b) ∙ ap (plus d) (more_of_cause LinkFailed a b)

-- each out more raises one count by at most one
pub failed_within : (m n k : ℕ) (d e : Drops) → m + n ≤ k → Within m d → e ≡ plus d (with_failed n) → Within k e
failed_within m n k d e le w is = within_plus m n k d e (with_failed n) le (most_of_cause LinkFailed n) w is

lost_is : (charge : Option Charge) (sent : Bool) (o : OutRecord) → o.charge ≡ charge → o.sent ≡ sent → is_lost (charged_as charge) sent ≡ is_failed o
lost_is None sent o e f = sym (ap (λ (x : Option Charge). is_some x && not o.sent) e)
lost_is (Some c) sent o e f = sym (ap (λ (x : Option Charge). is_some x && not o.sent) e ∙ ap not f)

-- What is told ----------------------------------------------------------------------------------------------------------

one_went : (r : OutRecord) (sent : Bool) → r.sent ≡ sent → cond sent (datagram_of r ∷ []) [] ≡ went (r ∷ [])
one_went r true e = sym (ap (λ (b : Bool). map datagram_of (cond b (r ∷ []) [])) e)
one_went r false e = sym (ap (λ (b : Bool). map datagram_of (cond b (r ∷ []) [])) e)

abbrev made : List Datagram → ℕ → PlantStretch
made sent failed = record { heard = []; taken = []; sent = sent; failed = failed }

stretch_more : (sends : List OutRecord) (r : OutRecord) → plant_joined (sends_stretch sends) (sending r.role r.to r.frame r.sent) ≡ sends_stretch (sends ++ r ∷ [])
stretch_more sends r =
    let sent : went sends ++ cond r.sent (datagram_of r ∷ []) [] ≡ went (sends ++ r ∷ []) =
    ap (λ (ds : List Datagram). went sends ++ ds) (one_went r r.sent refl) ∙ sym (went_append sends (r ∷ [])) in
    ap (λ (ds : List Datagram). made ds (count_by not_sent sends + one_if (not_sent r))) sent ∙ ap (λ (n : ℕ). made (went (sends ++ r ∷ [])) n) (count_pushed not_sent sends r)

-- What passed -----------------------------------------------------------------------------------------------------------

abbrev part : (Charge → ℕ) → OutRecord → ℕ
part f o = part_of_charge f o.charge

abbrev sent_part : (Charge → ℕ) → OutRecord → ℕ
sent_part f o = cond o.sent (part f o) 0

abbrev failed_part : (Charge → ℕ) → OutRecord → ℕ
failed_part f o = cond o.sent 0 (part f o)

sent_less : (b : Bool) (n : ℕ) → cond b n 0 ≤ n
sent_less true n = omega arith
sent_less false n = omega arith

failed_less : (b : Bool) (n : ℕ) → cond b 0 n ≤ n
failed_less true n = omega arith
failed_less false n = omega arith

pub sent_within : (f : Charge → ℕ) (sends : List OutRecord) → sent_sum f sends ≤ passed_sum f sends
sent_within f sends = sum_by-le-sum_by (sent_part f) (part f) sends (λ r. sent_less r.sent (part f r))

pub failed_least : (f : Charge → ℕ) (sends : List OutRecord) → failed_sum f sends ≤ passed_sum f sends
failed_least f sends = sum_by-le-sum_by (failed_part f) (part f) sends (λ r. failed_less r.sent (part f r))

pub passed_unsent : (f : Charge → ℕ) (outs : List OutRecord) → passed_sum f (map unsent outs) ≡ passed_sum f outs
passed_unsent f outs = sum_map unsent (part f) outs

-- what was sent so far and what is left are all outs
passed_parts : (f : Charge → ℕ) (sends rest outs : List OutRecord) → map unsent sends ++ map unsent rest ≡ map unsent outs → passed_sum f sends + passed_sum f rest ≡ passed_sum f outs
passed_parts f sends rest outs e =
    omega (arith, passed_unsent f sends, passed_unsent f rest, passed_unsent f outs, ap (passed_sum f) e, sum_by-append (part f) (map unsent sends) (map unsent rest))

-- how many were sent, and how many are left
pub sends_count : (sends rest outs : List OutRecord) → map unsent sends ++ map unsent rest ≡ map unsent outs → length sends + length rest ≡ length outs
sends_count sends rest outs e =
    omega (arith, ap (λ (xs : List OutRecord). length xs) e, length-append (map unsent sends) (map unsent rest), length-map sends unsent, length-map rest unsent, length-map outs unsent)

-- Tallies ---------------------------------------------------------------------------------------------------------------

part_by : (q : Quantity) (input : Bool) (charge : Option Charge) (sent : Bool) → lost_part q input (charged_as charge) sent ≡ cond sent 0 (part_of_charge (charge_if q (is_directed input)) charge)
part_by q input None true = refl
part_by q input None false = refl
part_by q input (Some c) sent = refl

-- the packet that is taken off is there
pub lost_there : (tally : Book) (input : Bool) (octets : ℕ) → ((q : Quantity) (way : Bool) → lost_part q way (Packet input octets) false ≤ in_book q way tally) → Has tally input octets
lost_there tally true octets there q = there q true
lost_there tally false octets there q = there q false

pub lost_taken : (tally tally' : Book) (input : Bool) (octets : ℕ) → IsMore tally' input octets tally → (q : Quantity) (way : Bool) → in_book q way tally' + lost_part q way (Packet input octets) false ≡ in_book q way tally
lost_taken tally tally' input octets more q way = sym (more q way)

-- what is taken off for one answer
part_is : (q : Quantity) (input : Bool) (r : OutRecord) (charged : Charged) (sent : Bool) → charged ≡ charged_as r.charge → r.sent ≡ sent → lost_part q input charged sent ≡ failed_sum (charge_if q (is_directed input)) (r ∷ [])
part_is q input r charged sent answer was =
    let f = charge_if q (is_directed input) in
    let here : lost_part q input charged sent ≡ failed_part f r =
    ap (λ (x : Charged). lost_part q input x sent) answer ∙ ap (lost_part q input (charged_as r.charge)) (sym was) ∙ part_by q input r.charge r.sent in
    omega (arith, here, sum_by-cons (failed_part f) r [])

-- the tally has it
pub still_covered : (v : ShardView ShardState Entry) (tally tally' : Book) (sends rest : List OutRecord) (o r : OutRecord) (charged : Charged) (sent : Bool) → Covers tally v.outs → Falls tally sends tally' → map unsent sends ++ map unsent (o ∷ rest) ≡ map unsent v.outs → r ≡ record o { sent = sent }
    → charged ≡ charged_as r.charge → (q : Quantity) (input : Bool) → lost_part q input charged sent ≤ in_book q input tally'
still_covered v tally tally' sends rest o r charged sent covers falls are is answer q input =
    let f = charge_if q (is_directed input) in
    let one : part f r ≡ part f o = ap (part f) is in
    omega (
      arith,
      covers q input,
      falls q input,
      passed_parts f sends (o ∷ rest) v.outs are,
      sum_by-cons (part f) o rest,
      failed_least f sends,
      part_is q input r charged sent answer (ap (λ (x : OutRecord). x.sent) is),
      sum_by-cons (failed_part f) r [],
      failed_less r.sent (part f r),
      one,
    )

-- Within its turn -------------------------------------------------------------------------------------------------------

-- once its lists were handed out, the engine's shard has them still
drained : (was x : ShardView ShardState Handled) (w : ShardView ShardState Entry) → InTurn pppoe was x → x.sends ≡ [] → w.number ≡ x.number → w.allowance ≡ x.allowance → w.state ≡ x.state → w.rows ≡ x.rows → w.books ≡ x.books → InTurn pppoe was (with_lists w x.journal x.outs [])
drained was x w t none number allowance state rows books = record {
  number = number ∙ t.number;
  steps = t.steps;
  limits = subst (λ (n : ℕ). AreLimited pppoe n 0 x.journal) (sym allowance) t.limits;
  state = state ∙ t.state;
  outs = t.outs;
  fit = λ f. ap (λ (rs : List Row). sum_by f (row_keys rs)) rows ∙ t.fit f ∙ sym (ap (λ (s : ShardState). sum_by f (keys (terms_of s))) state);
  rows = λ q pick input. omega (arith, ap (rows_where q pick input) rows, t.rows q pick input, ap (sent_where q pick input) none);
  books = subst (λ (bs : List Book). BooksSoFar was.books x.outs [] bs) (sym books) (subst (λ (rs : List OutRecord). BooksSoFar was.books x.outs rs x.books) none t.books);
}

unsent_is : (o : OutRecord) → o.sent ≡ false → unsent o ≡ o
unsent_is o e = ap (λ (b : Bool). let x : OutRecord = record o { sent = b } in x) (sym e)

unsent_same : (outs : List OutRecord) → AllByRecursion IsUnsent outs → map unsent outs ≡ outs
unsent_same [] h = refl
unsent_same (o ∷ outs) h = ap (λ (x : OutRecord). x ∷ map unsent outs) (unsent_is o h.0) ∙ ap (λ (xs : List OutRecord). o ∷ xs) (unsent_same outs h.1)

all_at : (P : OutRecord → Type 0) (xs : List OutRecord) (y : OutRecord) (ys : List OutRecord) → AllByRecursion P (xs ++ y ∷ ys) → P y
all_at P [] y ys h = h.0
all_at P (x ∷ xs) y ys h = all_at P xs y ys h.1

module _ (v : ShardView ShardState Entry) (was now : ShardView ShardState Handled) (t : IsTurning v was now) where
  outs_same : now.outs ≡ v.outs
  outs_same = ap (λ (x : ShardView ShardState Handled). x.outs) (sym t.shows.same)

  pub not_sent_yet : map unsent v.outs ≡ now.outs
  not_sent_yet =
      let all : AllByRecursion IsUnsent now.outs = subst (λ (os : List OutRecord). AllByRecursion IsUnsent os) (sym t.turn.outs) (run_unsent pppoe pppoe_laws was.state now.journal t.turn.steps) in
      ap (map unsent) (sym outs_same) ∙ unsent_same now.outs all

  module _ (w : ShardView ShardState Entry) (sends : List OutRecord) (x : InTurn pppoe was (with_lists w now.journal now.outs sends)) where
    -- the rows have what was sent
    pub sent_low : (rest : List OutRecord) → map unsent sends ++ map unsent rest ≡ map unsent v.outs → (most octets : ℕ) → RowsAreLow most v.rows → IsLight octets v.outs → RowsAreLow (most + octets) w.rows
    sent_low rest are most octets low light q input =
        let f = charge_if q (is_picked is_any input) in
        omega (
          arith,
          x.rows q is_any input,
          t.turn.rows q is_any input,
          ap (sent_where q is_any input) t.sends,
          ap (λ (y : ShardView ShardState Handled). rows_where q is_any input y.rows) t.shows.same,
          sent_within f sends,
          passed_parts f sends rest v.outs are,
          light q (is_picked is_any input),
          low q input,
        )

    -- the books have no more than what passed
    pub books_low : (most : ℕ) → AreLow most v.books → AreLow most w.books
    books_low most low i within q input =
        let same = ap (λ (y : ShardView ShardState Handled). y.books) t.shows.same in
        let inside : i < length was.books = omega (arith, within, x.books.count) in
        omega (
          arith,
          x.books.each q i input inside,
          t.turn.books.each q i input inside,
          ap (failed_under q i input) t.sends,
          ap (λ (bs : List Book). in_book q input (book_at i bs)) same,
          low i (omega (arith, inside, t.turn.books.count, ap (λ (bs : List Book). length bs) same)) q input,
        )

    module _ (rest : List OutRecord) (o r : OutRecord) (sent : Bool) (are : map unsent sends ++ map unsent (o ∷ rest) ≡ map unsent v.outs) (is : r ≡ record o { sent = sent }) where
      these : now.outs ≡ map unsent sends ++ unsent r ∷ map unsent rest
      these = sym (are ∙ not_sent_yet) ∙ ap (λ (y : OutRecord). map unsent sends ++ y ∷ map unsent rest) (sym (ap unsent is))

      pub book_has : AreCovered w.books r
      book_has q i input within = book_covers was.books w.books now.outs sends (map unsent rest) r x.books these q i input (omega (arith, within, x.books.count))

      pub row_has : IsOwned (row_keys w.rows) r
      row_has =
          let all : AllByRecursion (IsOwned (keys (terms_of w.state))) now.outs =
          subst (λ (s : ShardState). AllByRecursion (IsOwned (keys (terms_of s))) now.outs) (sym x.state) (subst (λ (os : List OutRecord). AllByRecursion (IsOwned (keys (terms_of (after pppoe was.state now.journal)))) os) (sym t.turn.outs)
          (run_owned pppoe pppoe_laws was.state now.journal t.turn.steps)) in
          owned_same (keys (terms_of w.state)) (row_keys w.rows) r (same_back (row_keys w.rows) (keys (terms_of w.state)) x.fit)
          (all_at (IsOwned (keys (terms_of w.state))) (map unsent sends) (unsent r) (map unsent rest) (subst (λ (os : List OutRecord). AllByRecursion (IsOwned (keys (terms_of w.state))) os) these all))

-- One after the other ---------------------------------------------------------------------------------------------------

pub sends_none : (v w : ShardView ShardState Entry) (told : PlantTold) (outs rest : List OutRecord) (drops : Drops) (tally : Book) → w ≡ record v { journal = []; outs = []; room = 0 } → rest ≡ v.outs → SendsSome v w told told outs outs rest drops drops tally tally
sends_none v w told outs rest drops tally drained_as all = record {
  sends = [];
  are_outs = ap (map unsent) all;
  turn = λ was now t.
      drained was now w t.turn t.sends
      (ap (λ (x : ShardView ShardState Entry). x.number) drained_as ∙ ap (λ (x : ShardView ShardState Handled). x.number) t.shows.same)
      (ap (λ (x : ShardView ShardState Entry). x.allowance) drained_as ∙ ap (λ (x : ShardView ShardState Handled). x.allowance) t.shows.same)
      (ap (λ (x : ShardView ShardState Entry). x.state) drained_as ∙ ap (λ (x : ShardView ShardState Handled). x.state) t.shows.same)
      (ap (λ (x : ShardView ShardState Entry). x.rows) drained_as ∙ ap (λ (x : ShardView ShardState Handled). x.rows) t.shows.same)
      (ap (λ (x : ShardView ShardState Entry). x.books) drained_as ∙ ap (λ (x : ShardView ShardState Handled). x.books) t.shows.same);
  number = ap (λ (x : ShardView ShardState Entry). x.number) drained_as;
  allowance = ap (λ (x : ShardView ShardState Entry). x.allowance) drained_as;
  empty = (ap (λ (x : ShardView ShardState Entry). x.journal) drained_as, ap (λ (x : ShardView ShardState Entry). x.outs) drained_as);
  outs_are = sym (append-nil outs);
  told = plant_stays told;
  drops_are = failed_none drops;
  falls = λ q input. omega arith;
}

module _ (v w w' : ShardView ShardState Entry) (old mid new : PlantTold) (outs outs' outs'' rest : List OutRecord) (o : OutRecord) (drops drops' drops'' : Drops) (tally tally' tally'' : Book) (sent : Bool) (charged : Charged) where
  pub sends_more : SendsSome v w old mid outs outs' (o ∷ rest) drops drops' tally tally' → (r : OutRecord) → r ≡ record o { sent = sent }
      → ExtendsPlant mid new (sending o.role o.to o.frame sent)
      → ChargesShown pppoe w r w' → outs'' ≡ outs' ++ r ∷ []
      → charged ≡ charged_as r.charge → drops'' ≡ plus drops' (with_failed (one_if (is_lost charged sent)))
      → ((q : Quantity) (input : Bool) → in_book q input tally'' + lost_part q input charged sent ≡ in_book q input tally')
      → SendsSome v w' old new outs outs'' rest drops drops'' tally tally''
  sends_more so_far r is told charges pushed answer counted taken =
      let rs = so_far.sends in
      let back : unsent r ≡ unsent o = ap unsent is in
      let was_sent : r.sent ≡ sent = ap (λ (x : OutRecord). x.sent) is in
      let sending_is : ExtendsPlant mid new (sending r.role r.to r.frame r.sent) = subst (λ (x : OutRecord). ExtendsPlant mid new (sending x.role x.to x.frame x.sent)) (sym is) told in
      let lost : is_lost charged sent ≡ is_failed r = ap (λ (x : Charged). is_lost x sent) answer ∙ lost_is r.charge sent r refl was_sent in
      let one = charges.charges [] [] [] in
      record {
        sends = rs ++ r ∷ [];
        are_outs =
            ap (λ (xs : List OutRecord). xs ++ map unsent rest) (map-append unsent rs (r ∷ []) ∙ ap (λ (x : OutRecord). map unsent rs ++ x ∷ []) back)
            ∙ append_assoc (map unsent rs) (unsent o ∷ []) (map unsent rest)
            ∙ so_far.are_outs;
        turn = λ was now t. turn_sends pppoe was (with_lists w now.journal now.outs rs) r (with_lists w' now.journal now.outs (rs ++ r ∷ [])) (so_far.turn was now t) (charges.charges now.journal now.outs rs);
        number = one.number ∙ so_far.number;
        allowance = one.allowance ∙ so_far.allowance;
        empty = (charges.journal ∙ so_far.empty.0, charges.outs ∙ so_far.empty.1);
        outs_are = pushed ∙ ap (λ (xs : List OutRecord). xs ++ r ∷ []) so_far.outs_are ∙ append_assoc outs rs (r ∷ []);
        told = subst (λ (s : PlantStretch). ExtendsPlant old new s) (stretch_more rs r) (plant_more old mid new (sends_stretch rs) (sending r.role r.to r.frame r.sent) so_far.told sending_is);
        drops_are = counted
            ∙ ap (λ (d : Drops). plus d (with_failed (one_if (is_lost charged sent)))) so_far.drops_are
            ∙ ap (λ (b : Bool). plus (plus drops (with_failed (count_by is_failed rs))) (with_failed (one_if b))) lost
            ∙ failed_more drops (count_by is_failed rs) (one_if (is_failed r))
            ∙ ap (λ (n : ℕ). plus drops (with_failed n)) (sym (sum_by_push (λ (x : OutRecord). one_if (is_failed x)) rs r));
        falls = λ q input.
            let f = charge_if q (is_directed input) in
            omega (arith, so_far.falls q input, taken q input, part_is q input r charged sent answer was_sent, sum_by-append (failed_part f) rs (r ∷ []));
      }

-- how much room there is is nothing to the engine once a round is over
aside : (was x : ShardView ShardState Handled) (n : ℕ) → InTurn pppoe was x → InTurn pppoe was (record x { room = n })
aside was x n h = record { number = h.number; steps = h.steps; limits = h.limits; state = h.state; outs = h.outs; fit = h.fit; rows = h.rows; books = h.books }

abbrev pub roomless : ShardView ShardState Entry → ShardView ShardState Entry
roomless w = record w { room = 0 }

module _ (v w w' : ShardView ShardState Entry) (old new : PlantTold) (first last rest : List OutRecord) (journal : List Entry) (drops drops' : Drops) (tally tally' : Book) where
  pub sends_all : Turns v → SendsSome v w old new first last rest drops drops' tally tally' → rest ≡ [] → journal ≡ v.journal → w' ≡ roomless w → Sends v w' old new first last journal drops drops' tally tally'
  sends_all turns s none is left =
      let are : map unsent s.sends ++ map unsent [] ≡ map unsent v.outs = ap (λ (xs : List OutRecord). map unsent s.sends ++ map unsent xs) (sym none) ∙ s.are_outs in
      let all : map unsent s.sends ≡ map unsent v.outs = sym (append-nil (map unsent s.sends)) ∙ are in
      let here = turns.turning in
      let turn = s.turn turns.was turns.now here in
      record {
        sends = s.sends;
        sent = record {
          are_outs = all;
          turn = λ was now t.
              subst (λ (y : ShardView ShardState Entry). InTurn pppoe was (with_lists y now.journal now.outs s.sends)) (sym left) (aside was (with_lists w now.journal now.outs s.sends) 0 (s.turn was now t));
          number = ap (λ (y : ShardView ShardState Entry). y.number) left ∙ s.number;
          allowance = ap (λ (y : ShardView ShardState Entry). y.allowance) left ∙ s.allowance;
          empty = (ap (λ (y : ShardView ShardState Entry). y.journal) left ∙ s.empty.0, ap (λ (y : ShardView ShardState Entry). y.outs) left ∙ s.empty.1);
          rows = λ most octets low light.
              subst (λ (y : ShardView ShardState Entry). RowsAreLow (most + octets) y.rows) (sym left) (sent_low v turns.was turns.now here w s.sends turn [] are most octets low light);
          books = λ most low. subst (λ (y : ShardView ShardState Entry). AreLow most y.books) (sym left) (books_low v turns.was turns.now here w s.sends turn most low);
        };
        outs_are = s.outs_are;
        journal_is = is;
        told = s.told;
        drops_are = s.drops_are;
        falls = s.falls;
      }
