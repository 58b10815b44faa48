-- What stays of a round that was not opened, and the items of a round of the ending.
use Rattle.std.proofs.Common.{◌≡◌, ◌⊎◌, inl, inr, ℕ, zero, suc, ◌+◌, ◌*◌, ◌<◌, ◌≤◌, Bool, true, false, ◌||◌, cond, List, [], ◌∷◌, ◌++◌, Option, None, Some, map, length, take, drop, get_or, append-nil, refl, sym, ap, subst, ◌∙◌, arith}
use Rattle.std.specs.List.{All, AllPairs, AllZip, count_by, filter, range_with_len}
use Rattle.std.proofs.lemmas.Bool.{false≢true}
use Rattle.std.proofs.lemmas.List.{get_or-map, length-append, length-map, take-append-drop, take_more}
use Rattle.std.proofs.lemmas.List.Elements.{All-nil, All-cons, All-head, All-tail, All-append, All-map, filter-append}
use Rattle.std.proofs.lemmas.List.Kept.{AllPairs-filter}
use Rattle.std.proofs.lemmas.List.Sums.{count_by-le-length, sum_by-append, sum_by-cons, sum_by-le}
use Rattle.bng_base.specs.declared.item.Entry.{Entry}
use Rattle.bng_base.specs.declared.item.Item.{Item}
use Rattle.bng_base.specs.declared.item.ItemKind.{ItemKind}
use Rattle.bng_base.specs.declared.item.ItemKind.TheVariants.{Access, Core, Tunnel, Verdict, Change, Tick, End}
use Rattle.bng_engine.specs.Lists.{one_if}
use Rattle.bng_engine.specs.Views.{ShardView}
use Rattle.bng_steps.specs.declared.rules.Rules.{Rules}
use Rattle.bng_steps.specs.Hearing.{outs_most}
use Rattle.bng_steps.specs.Protocol.{ShardState}
use Rattle.bng_shard.specs.Room.{is_end}
use Rattle.bng_verdict.specs.declared.question.QuestionNo.{QuestionNo}
use Rattle.bng_desk.specs.Items.{DataReading, drawn_from, ends_of, for_shard, is_change_item, is_change_kind, is_from_outside, is_verdict_item, is_verdict_kind, kept_of, stays, taken_items, ticks_of}
use Rattle.bng_desk.specs.Kept.{AreEndsOf, AreFewAsked, IsAsked, Stays, undrawn}
use Rattle.bng_desk.specs.Logins.{Answered, reply_in, reply_items, silence, timeout_items, verdict_item}
use Rattle.bng_desk.specs.Random.{draw}
use Rattle.bng_desk.specs.Round.{refused_of}
use Rattle.bng_desk.specs.Taking.{AreItems, is_once, outs_of_items}
use Rattle.bng_desk.specs.Turn.{data_roles, has_end}
use Rattle.bng_desk.proofs.Drawing.{drawn_all, ends_length}
use Rattle.bng_desk.proofs.ItemLaws.{IsWhole, HasFew, IsTaken, IsBelow, all_due, all_ends, ends_rise, none_kept}
use Rattle.bng_desk.proofs.RefusedLaws.{taken_goes}

abbrev does_stay : Item → Bool
does_stay i = stays i.kind

abbrev is_outside : Item → Bool
is_outside i = is_from_outside i.kind

-- Parting ---------------------------------------------------------------------------------------------------------------

pub not_outside : (k : ItemKind) → stays k ≡ true → is_from_outside k ≡ false
not_outside (Access number) e = absurd (false≢true e)
not_outside Core e = absurd (false≢true e)
not_outside Tunnel e = absurd (false≢true e)
not_outside Verdict e = refl
not_outside Change e = refl
not_outside Tick e = refl
not_outside End e = refl

pub kept_append : (xs ys : List Item) → kept_of (xs ++ ys) ≡ kept_of xs ++ kept_of ys
kept_append xs ys = filter-append does_stay xs ys

-- one item more
pub kept_next : (xs : List Item) (i : ℕ) (d : Item) → i < length xs → kept_of (take (i + 1) xs) ≡ kept_of (take i xs) ++ kept_of (get_or xs i d ∷ [])
kept_next xs i d lt = ap kept_of (take_more xs i d lt) ∙ kept_append (take i xs) (get_or xs i d ∷ [])

-- there is room for it
pub kept_room : (xs : List Item) (i : ℕ) (d : Item) → i < length xs → length (kept_of (take i xs)) + length (kept_of (get_or xs i d ∷ [])) ≤ length (kept_of xs)
kept_room xs i d lt =
    omega (
      arith,
      ap (λ (is : List Item). length is) (kept_next xs i d lt),
      length-append (kept_of (take i xs)) (kept_of (get_or xs i d ∷ [])),
      ap (λ (is : List Item). length (kept_of is)) (take-append-drop (i + 1) xs),
      ap (λ (is : List Item). length is) (kept_append (take (i + 1) xs) (drop (i + 1) xs)),
      length-append (kept_of (take (i + 1) xs)) (kept_of (drop (i + 1) xs)),
    )

-- what was moved off a list leaves the items of the outside
abbrev pub IsParted : Item → Item → Type 0
IsParted x y = refused_of (y ∷ []) ≡ refused_of (x ∷ [])

pub refused_same : (xs ys : List Item) → AllZip IsParted xs ys → refused_of ys ≡ refused_of xs
refused_same [] [] h = refl
refused_same [] (y ∷ ys) h = absurd h
refused_same (x ∷ xs) [] h = absurd h
refused_same (x ∷ xs) (y ∷ ys) h =
    filter-append is_outside (y ∷ []) ys ∙ ap (λ (is : List Item). is ++ refused_of ys) h.0 ∙ ap (λ (is : List Item). refused_of (x ∷ []) ++ is) (refused_same xs ys h.1) ∙ sym (filter-append is_outside (x ∷ []) xs)

pub stays_one : (i : Item) → stays i.kind ≡ true → kept_of (i ∷ []) ≡ i ∷ []
stays_one i e = ap (λ (b : Bool). cond b (i ∷ []) []) e

pub goes_one : (i : Item) → stays i.kind ≡ false → kept_of (i ∷ []) ≡ []
goes_one i e = ap (λ (b : Bool). cond b (i ∷ []) []) e

pub none_outside : (i : Item) → is_from_outside i.kind ≡ false → refused_of (i ∷ []) ≡ []
none_outside i e = ap (λ (b : Bool). cond b (i ∷ []) []) e

-- What stays --------------------------------------------------------------------------------------------------------------

pub none_stays : (is : List Item) → All (λ i. does_stay i ≡ false) is → kept_of is ≡ []
none_stays [] all = refl
none_stays (i ∷ is) all =
    ap (λ (b : Bool). cond b (i ∷ kept_of is) (kept_of is)) (All-head (λ (x : Item). does_stay x ≡ false) i is all) ∙ none_stays is (All-tail (λ (x : Item). does_stay x ≡ false) i is all)

pub all_stay : (is : List Item) → All (λ i. does_stay i ≡ true) is → kept_of is ≡ is
all_stay [] all = refl
all_stay (i ∷ is) all =
    ap (λ (b : Bool). cond b (i ∷ kept_of is) (kept_of is)) (All-head (λ (x : Item). does_stay x ≡ true) i is all) ∙ ap (λ (xs : List Item). i ∷ xs) (all_stay is (All-tail (λ (x : Item). does_stay x ≡ true) i is all))

abbrev Goes : Item → Type 0
Goes i = does_stay i ≡ false

-- a request or a verdict stays, once, and is no Tick and no End
pub asked_stays : (i : Item) → IsAsked i → does_stay i ≡ true
asked_stays i (inl e) = ap stays e
asked_stays i (inr e) = ap stays e

pub asked_taken : (i : Item) → IsAsked i → IsTaken i
asked_taken i (inl e) = ap is_once e
asked_taken i (inr e) = ap is_once e

pub asked_few : (i : Item) → IsAsked i → HasFew 10 i
asked_few i (inl e) = subst (λ (k : ItemKind). outs_most k ≤ 10) (sym e) (omega arith)
asked_few i (inr e) = subst (λ (k : ItemKind). outs_most k ≤ 10) (sym e) (omega arith)

asked_no_end : (i : Item) → IsAsked i → is_end i.kind ≡ false
asked_no_end i (inl e) = ap is_end e
asked_no_end i (inr e) = ap is_end e

asked_one : (i : Item) → IsAsked i → one_if (is_verdict_kind i.kind) + one_if (is_change_kind i.kind) ≡ 1
asked_one i (inl e) = ap (λ (k : ItemKind). one_if (is_verdict_kind k) + one_if (is_change_kind k)) e
asked_one i (inr e) = ap (λ (k : ItemKind). one_if (is_verdict_kind k) + one_if (is_change_kind k)) e

-- Counts ----------------------------------------------------------------------------------------------------------------------

-- how many are of such a kind
abbrev pub counted : (ItemKind → Bool) → List Item → ℕ
counted q is = count_by (λ (i : Item). q i.kind) is

counted_cons : (q : ItemKind → Bool) (i : Item) (is : List Item) → counted q (i ∷ is) ≡ one_if (q i.kind) + counted q is
counted_cons q i is = sum_by-cons (λ (x : Item). one_if (q x.kind)) i is

pub counted_append : (q : ItemKind → Bool) (xs ys : List Item) → counted q (xs ++ ys) ≡ counted q xs + counted q ys
counted_append q xs ys = sum_by-append (λ (x : Item). one_if (q x.kind)) xs ys

pub counted_drawn : (q : ItemKind → Bool) (seed : List ℕ) (n : ℕ) (is : List Item) → counted q (drawn_from seed n is) ≡ counted q is
counted_drawn q seed n [] = refl
counted_drawn q seed n (i ∷ is) =
    counted_cons q (record i { random = draw seed n }) (drawn_from seed (n + 1) is) ∙ ap (λ (k : ℕ). one_if (q i.kind) + k) (counted_drawn q seed (n + 1) is) ∙ sym (counted_cons q i is)

pub counted_none : (q : ItemKind → Bool) (is : List Item) → All (λ (i : Item). q i.kind ≡ false) is → counted q is ≡ 0
counted_none q [] all = refl
counted_none q (i ∷ is) all =
    let Not = λ (x : Item). q x.kind ≡ false in
    omega (arith, counted_cons q i is, ap one_if (All-head Not i is all), counted_none q is (All-tail Not i is all))

-- of what stays no more
counted_kept : (q : ItemKind → Bool) (is : List Item) → counted q (kept_of is) ≤ counted q is
counted_kept q [] = omega arith
counted_kept q (i ∷ is) =
    elim (does_stay i) as (λ b. counted q (cond b (i ∷ kept_of is) (kept_of is)) ≤ counted q (i ∷ is)) [
      | true ↦ omega (arith, counted_cons q i (kept_of is), counted_cons q i is, counted_kept q is)
      | false ↦ omega (arith, counted_cons q i is, counted_kept q is)
    ]

-- they are requests and verdicts, and so there are few
asked_length : (is : List Item) → All IsAsked is → length is ≡ counted is_verdict_kind is + counted is_change_kind is
asked_length [] all = refl
asked_length (i ∷ is) all =
    omega (arith, counted_cons is_verdict_kind i is, counted_cons is_change_kind i is, asked_one i (All-head IsAsked i is all), asked_length is (All-tail IsAsked i is all))

pub few_asked : (is : List Item) → All IsAsked is → AreFewAsked is → length is ≤ 160
few_asked is all few = omega (arith, asked_length is all, few.verdicts, few.changes)

-- beside so many verdicts
pub few_beside : (is : List Item) → All IsAsked is → AreFewAsked is → length is ≤ count_by is_verdict_item is + 32
few_beside is all few = omega (arith, asked_length is all, few.changes)

-- What stays of a turn while serving --------------------------------------------------------------------------------------------

-- a request or a verdict, or an item that does not stay
abbrev IsFine : Item → Type 0
IsFine i = IsAsked i ⊎ (does_stay i ≡ false)

fine_one : (i : Item) (rest : List Item) → IsFine i → All IsAsked rest → All IsAsked (cond (does_stay i) (i ∷ rest) rest)
fine_one i rest (inl v) all = subst (λ (b : Bool). All IsAsked (cond b (i ∷ rest) rest)) (sym (asked_stays i v)) (All-cons IsAsked i rest v all)
fine_one i rest (inr e) all = subst (λ (b : Bool). All IsAsked (cond b (i ∷ rest) rest)) (sym e) all

fine_stay : (is : List Item) → All IsFine is → All IsAsked (kept_of is)
fine_stay [] all = All-nil IsAsked
fine_stay (i ∷ is) all = fine_one i (kept_of is) (All-head IsFine i is all) (fine_stay is (All-tail IsFine i is all))

pub each_weaker : (P Q : Item → Type 0) → ((i : Item) → P i → Q i) → (is : List Item) → All P is → All Q is
each_weaker P Q f is all k d lt = f (get_or is k d) (all k d lt)

abbrev pub is_verdict : Item → Type 0
is_verdict i = i.kind ≡ Verdict

pub verdict_asked : (i : Item) → is_verdict i → IsAsked i
verdict_asked i v = inr v

reply_verdict : (a : Answered) → (found : Option QuestionNo) → All is_verdict (reply_in a.arrival found)
reply_verdict a None = All-nil is_verdict
reply_verdict a (Some q) = All-cons is_verdict _ [] refl (All-nil is_verdict)

replies_verdicts : (answers : List Answered) → All is_verdict (reply_items answers)
replies_verdicts [] = All-nil is_verdict
replies_verdicts (a ∷ answers) = All-append is_verdict (reply_in a.arrival a.found) (reply_items answers) (reply_verdict a a.found) (replies_verdicts answers)

timeouts_verdicts : (timed : List QuestionNo) → All is_verdict (timeout_items timed)
timeouts_verdicts timed = All-map is_verdict (verdict_item silence) timed (λ k d l. refl)

pub replies_asked : (answers : List Answered) → All IsAsked (reply_items answers)
replies_asked answers = each_weaker is_verdict IsAsked verdict_asked (reply_items answers) (replies_verdicts answers)

pub timeouts_asked : (timed : List QuestionNo) → All IsAsked (timeout_items timed)
timeouts_asked timed = each_weaker is_verdict IsAsked verdict_asked (timeout_items timed) (timeouts_verdicts timed)

-- a verdict is no request, and what does not stay is neither
verdict_no_change : (i : Item) → is_verdict i → is_change_kind i.kind ≡ false
verdict_no_change i v = ap is_change_kind v

goes_no_verdict : (k : ItemKind) → stays k ≡ false → is_verdict_kind k ≡ false
goes_no_verdict (Access number) e = refl
goes_no_verdict Core e = refl
goes_no_verdict Tunnel e = refl
goes_no_verdict Verdict e = e
goes_no_verdict Change e = refl
goes_no_verdict Tick e = refl
goes_no_verdict End e = refl

goes_no_change : (k : ItemKind) → stays k ≡ false → is_change_kind k ≡ false
goes_no_change (Access number) e = refl
goes_no_change Core e = refl
goes_no_change Tunnel e = refl
goes_no_change Verdict e = refl
goes_no_change Change e = e
goes_no_change Tick e = refl
goes_no_change End e = refl

-- of a turn while serving the requests and the verdicts alone stay
pub record IsStaying (is : List Item) : Type 0 where
  pub asked : All IsAsked (kept_of is)
  pub few : AreFewAsked (kept_of is)

module _ (r : Rules) (seed : List ℕ) (n moment : ℕ) (front : List Item) (answers : List Answered) (readings : List DataReading) (timed : List QuestionNo) (shards : List (ShardView ShardState Entry)) (roles : map (λ (x : DataReading). x.role) readings ≡ data_roles r) where
  abbrev rs : List Item
  rs = reply_items answers

  abbrev ts : List Item
  ts = taken_items readings

  abbrev qs : List Item
  qs = timeout_items timed

  abbrev ds : List Item
  ds = ticks_of moment shards

  abbrev new : List Item
  new = rs ++ ts ++ qs ++ ds

  goes : All Goes ts
  goes = taken_goes r readings roles

  waits : All Goes ds
  waits = all_due Goes (λ shard. refl) moment shards

  fine : All IsFine new
  fine =
      All-append IsFine (rs ++ ts ++ qs) ds
      (All-append IsFine (rs ++ ts) qs (All-append IsFine rs ts (each_weaker IsAsked IsFine (λ i v. inl v) rs (replies_asked answers)) (each_weaker Goes IsFine (λ i e. inr e) ts goes)) (each_weaker IsAsked IsFine (λ i v. inl v) qs (timeouts_asked timed)))
      (each_weaker Goes IsFine (λ i e. inr e) ds waits)

  counted_new : (q : ItemKind → Bool) → counted q (front ++ drawn_from seed n new) ≡ counted q front + (counted q rs + counted q ts + counted q qs + counted q ds)
  counted_new q = omega (arith, counted_append q front (drawn_from seed n new), counted_drawn q seed n new, counted_append q (rs ++ ts ++ qs) ds, counted_append q (rs ++ ts) qs, counted_append q rs ts)

  none_of : (q : ItemKind → Bool) → ((k : ItemKind) → stays k ≡ false → q k ≡ false) → (counted q ts ≡ 0) × (counted q ds ≡ 0)
  none_of q none = (
    counted_none q ts (each_weaker Goes (λ (i : Item). q i.kind ≡ false) (λ i e. none i.kind e) ts goes),
    counted_none q ds (each_weaker Goes (λ (i : Item). q i.kind ≡ false) (λ i e. none i.kind e) ds waits),
  )

  pub serving_stays : All IsAsked front → count_by is_change_item front ≤ 32 → count_by is_verdict_item front + length rs + length timed ≤ 128 → IsStaying (front ++ drawn_from seed n new)
  serving_stays asked changes verdicts =
      let Not = λ (i : Item). is_change_kind i.kind ≡ false in
      let no_verdicts = none_of is_verdict_kind goes_no_verdict in
      let no_changes = none_of is_change_kind goes_no_change in
      record {
        asked = fine_stay (front ++ drawn_from seed n new)
            (All-append IsFine front (drawn_from seed n new) (each_weaker IsAsked IsFine (λ i v. inl v) front asked) (drawn_all IsFine (λ i octets holds. holds) seed n new fine));
        few = record {
          verdicts = omega (
            arith,
            counted_kept is_verdict_kind (front ++ drawn_from seed n new),
            counted_new is_verdict_kind,
            count_by-le-length is_verdict_item rs,
            no_verdicts.0,
            count_by-le-length is_verdict_item qs,
            length-map timed (verdict_item silence),
            no_verdicts.1,
            verdicts,
          );
          changes = omega (
            arith,
            counted_kept is_change_kind (front ++ drawn_from seed n new),
            counted_new is_change_kind,
            counted_none is_change_kind rs (each_weaker is_verdict Not verdict_no_change rs (replies_verdicts answers)),
            no_changes.0,
            counted_none is_change_kind qs (each_weaker is_verdict Not verdict_no_change qs (timeouts_verdicts timed)),
            no_changes.1,
            changes,
          );
        };
      }

-- requests and verdicts are items of a round
no_pairs : (is : List Item) → is ≡ [] → AllPairs IsBelow is
no_pairs is e = subst (AllPairs IsBelow) (sym e) (λ i j d low high. absurd (omega arith))

pub asked_items : (is : List Item) → All IsAsked is → All IsWhole is → length is ≤ 1024 → AreItems is
asked_items is asked whole few = record {
  few = few;
  whole = whole;
  once = no_pairs (filter (λ (i : Item). is_once i.kind) is) (ap (filter (λ (i : Item). is_once i.kind)) (sym (append-nil is)) ∙ none_kept is (each_weaker IsAsked IsTaken asked_taken is asked) []);
}

pub asked_stay : (shards : ℕ) (is : List Item) → All IsAsked is → AreFewAsked is → Stays shards is
asked_stay shards is asked few = record { asked = is; ends = []; are = sym (append-nil is); all_asked = asked; few = few; one_each = inl refl }

-- Ends ------------------------------------------------------------------------------------------------------------------

undrawn_drawn : (seed : List ℕ) (n : ℕ) (is : List Item) → map undrawn (drawn_from seed n is) ≡ map undrawn is
undrawn_drawn seed n [] = refl
undrawn_drawn seed n (i ∷ is) = ap (λ (js : List Item). undrawn i ∷ js) (undrawn_drawn seed (n + 1) is)

undrawn_ends : (ns : List ℕ) → map undrawn (map (for_shard End) ns) ≡ map (for_shard End) ns
undrawn_ends [] = refl
undrawn_ends (n ∷ ns) = ap (λ (js : List Item). for_shard End n ∷ js) (undrawn_ends ns)

pub are_drawn_ends : (seed : List ℕ) (n shards : ℕ) → AreEndsOf shards (drawn_from seed n (ends_of shards))
are_drawn_ends seed n shards = undrawn_drawn seed n (ends_of shards) ∙ undrawn_ends (range_with_len 0 shards)

ends_count : (n : ℕ) (is : List Item) → AreEndsOf n is → length is ≡ n
ends_count n is ends = sym (length-map is undrawn) ∙ ap (λ (xs : List Item). length xs) ends ∙ ends_length n

-- what holds of an End whatever its random octets are
ends_all : (P : Item → Type 0) → ((i : Item) → P (undrawn i) → P i) → ((shard : ℕ) → P (for_shard End shard)) → (n : ℕ) (is : List Item) → AreEndsOf n is → All P is
ends_all P same holds n is ends k d lt =
    same (get_or is k d) (subst P (get_or-map undrawn is k d d lt) (subst (All P) (sym ends) (all_ends P holds n) k d (omega (arith, lt, length-map is undrawn))))

ends_below : (n : ℕ) (is : List Item) → AreEndsOf n is → AllPairs IsBelow is
ends_below n is ends i j d low high =
    let within : j < length (map undrawn is) = omega (arith, high, length-map is undrawn) in
    let there : IsBelow (get_or (map undrawn is) i d) (get_or (map undrawn is) j d) = subst (AllPairs IsBelow) (sym ends) (ends_rise n) i j d low within in
    omega (
      arith,
      there,
      ap (λ (x : Item). x.target) (get_or-map undrawn is i d d (omega (arith, low, high))),
      ap (λ (x : Item). x.target) (get_or-map undrawn is j d d high),
    )

-- the items of a round of the ending: requests and verdicts that stay, and an End for each shard
pub record AreEnds (shards : ℕ) (is : List Item) : Type 0 where
  pub asked : List Item
  pub ends : List Item
  pub are : is ≡ asked ++ ends
  pub all_asked : All IsAsked asked
  pub few : AreFewAsked asked
  pub each : AreEndsOf shards ends
  pub whole : All IsWhole is

pub items_of_ends : (n : ℕ) (is : List Item) → n ≤ 64 → AreEnds n is → AreItems is
items_of_ends n is low e =
    let once = λ (i : Item). is_once i.kind in
    let these : filter once is ≡ filter once e.ends = ap (filter once) e.are ∙ none_kept e.asked (each_weaker IsAsked IsTaken asked_taken e.asked e.all_asked) e.ends in
    record {
      few = omega (arith, low, few_asked e.asked e.all_asked e.few, ends_count n e.ends e.each, ap (λ (xs : List Item). length xs) e.are, length-append e.asked e.ends);
      whole = e.whole;
      once = subst (AllPairs IsBelow) (sym these) (AllPairs-filter IsBelow once e.ends (ends_below n e.ends e.each));
    }

pub outs_of_ending : (n : ℕ) (is : List Item) → AreEnds n is → outs_of_items is ≤ 8320 + 320 * n
outs_of_ending n is e =
    let f = λ (i : Item). outs_most i.kind in
    omega (
      arith,
      few_asked e.asked e.all_asked e.few,
      ap (λ (xs : List Item). outs_of_items xs) e.are,
      sum_by-append f e.asked e.ends,
      ends_count n e.ends e.each,
      sum_by-le f 10 e.asked (each_weaker IsAsked (HasFew 10) asked_few e.asked e.all_asked),
      sum_by-le f 320 e.ends (ends_all (HasFew 320) (λ i h. h) (λ shard. omega arith) n e.ends e.each),
    )

-- all of them stay
pub ending_stays : (n : ℕ) (is : List Item) → AreEnds n is → kept_of is ≡ is
ending_stays n is e =
    all_stay is
    (subst (λ (xs : List Item). All (λ i. does_stay i ≡ true) xs) (sym e.are)
    (All-append (λ (i : Item). does_stay i ≡ true) e.asked e.ends (each_weaker IsAsked (λ i. does_stay i ≡ true) asked_stays e.asked e.all_asked)
    (ends_all (λ (i : Item). does_stay i ≡ true) (λ i h. h) (λ shard. refl) n e.ends e.each)))

pub ending_kept : (n : ℕ) (is : List Item) → AreEnds n is → Stays n is
ending_kept n is e = record { asked = e.asked; ends = e.ends; are = e.are; all_asked = e.all_asked; few = e.few; one_each = inr e.each }

pub ending_few : (n : ℕ) (is : List Item) → n ≤ 64 → AreEnds n is → length is ≤ 224
ending_few n is low e = omega (arith, low, few_asked e.asked e.all_asked e.few, ends_count n e.ends e.each, ap (λ (xs : List Item). length xs) e.are, length-append e.asked e.ends)

-- Whether Ends are among what stays -----------------------------------------------------------------------------------------

end_later : (vs es : List Item) → All IsAsked vs → has_end (vs ++ es) ≡ has_end es
end_later [] es all = refl
end_later (v ∷ vs) es all = ap (λ (b : Bool). b || has_end (vs ++ es)) (asked_no_end v (All-head IsAsked v vs all)) ∙ end_later vs es (All-tail IsAsked v vs all)

end_there : (n : ℕ) (es : List Item) → 1 ≤ n → AreEndsOf n es → has_end es ≡ true
end_there zero es some each = absurd (omega (arith, some))
end_there (suc n) [] some each = let no : ⊥ = cc in absurd no
end_there (suc n) (e ∷ es) some each =
    let head : undrawn e ≡ for_shard End 0 = cc in
    ap (λ (i : Item). is_end i.kind || has_end es) head

-- what stays, by whether it has Ends
abbrev pub AreThere : Bool → ℕ → List Item → Type 0
AreThere true n ends = AreEndsOf n ends
AreThere false n ends = ends ≡ []

there_by : (b : Bool) (n : ℕ) (ends : List Item) → 1 ≤ n → has_end ends ≡ b → (ends ≡ []) ⊎ AreEndsOf n ends → AreThere b n ends
there_by true n ends some e (inl none) = absurd (false≢true (sym (ap has_end none) ∙ e))
there_by true n ends some e (inr each) = each
there_by false n ends some e (inl none) = none
there_by false n ends some e (inr each) = absurd (false≢true (sym e ∙ end_there n ends some each))

pub are_there : (n : ℕ) (is : List Item) → 1 ≤ n → (s : Stays n is) → AreThere (has_end is) n s.ends
are_there n is some s = there_by (has_end is) n s.ends some (sym (end_later s.asked s.ends s.all_asked) ∙ ap has_end (sym s.are)) s.one_each

-- where all that stays are requests and verdicts there are few
pub few_while : (n : ℕ) (is : List Item) → 1 ≤ n → Stays n is → All IsAsked is → AreFewAsked is
few_while n is some s all =
    let none : has_end is ≡ false = ap has_end (sym (append-nil is)) ∙ end_later is [] all in
    let ends : s.ends ≡ [] = subst (λ (b : Bool). AreThere b n s.ends) none (are_there n is some s) in
    subst AreFewAsked (sym (s.are ∙ ap (λ (xs : List Item). s.asked ++ xs) ends ∙ append-nil s.asked)) s.few

some_count : (n : ℕ) (ends : List Item) → (ends ≡ []) ⊎ AreEndsOf n ends → length ends ≤ n
some_count n ends (inl none) = omega (arith, ap (λ (xs : List Item). length xs) none)
some_count n ends (inr each) = omega (arith, ends_count n ends each)

pub stays_few : (n : ℕ) (is : List Item) → n ≤ 64 → Stays n is → length is ≤ 224
stays_few n is low s = omega (arith, low, few_asked s.asked s.all_asked s.few, some_count n s.ends s.one_each, ap (λ (xs : List Item). length xs) s.are, length-append s.asked s.ends)

-- the items of a round of the ending, by whether Ends stay
pub ends_by : (b : Bool) (n : ℕ) (kept : List Item) (seed : List ℕ) (drawn : ℕ) (s : Stays n kept) → AreItems kept → AreThere b n s.ends → AreEnds n (cond b kept (kept ++ drawn_from seed drawn (ends_of n)))
ends_by true n kept seed drawn s items there = record { asked = s.asked; ends = s.ends; are = s.are; all_asked = s.all_asked; few = s.few; each = there; whole = items.whole }
ends_by false n kept seed drawn s items there =
    let these : kept ≡ s.asked = s.are ∙ ap (λ (xs : List Item). s.asked ++ xs) there ∙ append-nil s.asked in
    let new = drawn_from seed drawn (ends_of n) in
    record {
      asked = s.asked;
      ends = new;
      are = ap (λ (xs : List Item). xs ++ new) these;
      all_asked = s.all_asked;
      few = s.few;
      each = are_drawn_ends seed drawn n;
      whole = All-append IsWhole kept new items.whole (drawn_all IsWhole (λ i octets holds. holds) seed drawn (ends_of n) (all_ends IsWhole (λ shard. refl) n));
    }
