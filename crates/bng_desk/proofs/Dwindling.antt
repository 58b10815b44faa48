-- A round leaves the shards' rules as they are, and a round of Ends leaves fewer sessions, or none.
use Rattle.std.proofs.Common.{◌≡◌, ◌≢◌, ◌⊎◌, inl, inr, ⊎_elim, ℕ, zero, suc, ◌+◌, ◌-◌, ◌*◌, ◌<◌, ◌≤◌, Bool, true, false, ◌||◌, cond, List, [], Option, Some, None, ◌∷◌, ◌++◌, map, length, if◌then◌else◌, eqb, refl, sym, ap, subst, ◌∙◌, arith}
use Rattle.std.specs.List.{All, AllByRecursion, AllZip, range_with_len, sum_by}
use Rattle.std.proofs.lemmas.Bool.Decides.{nat_tests}
use Rattle.std.proofs.lemmas.List.Elements.{All-nil, All-cons, All-head, All-tail, All-map, All-from_recursion, recursion_from_All}
use Rattle.std.proofs.lemmas.List.Sums.{sum_by-cons}
use Rattle.bng_base.specs.declared.address.Ip4.{Ip4}
use Rattle.bng_base.specs.declared.book.Book.{Book}
use Rattle.bng_base.specs.declared.item.Entry.{Entry}
use Rattle.bng_base.specs.declared.item.Item.{Item}
use Rattle.bng_base.specs.declared.item.ItemKind.{ItemKind}
use Rattle.bng_base.specs.declared.item.ItemKind.TheVariants.{Change, End, Verdict}
use Rattle.bng_base.specs.declared.item.OutRecord.{OutRecord}
use Rattle.bng_base.specs.declared.round.RoundRecord.{RoundRecord}
use Rattle.bng_base.specs.Told.{PlantTold}
use Rattle.bng_engine.specs.Calls.{Kept, Moves}
use Rattle.bng_engine.specs.Journals.{after, AreSteps}
use Rattle.bng_engine.specs.Views.{ShardView}
use Rattle.bng_engine.proofs.Everywhere.{all_weaker}
use Rattle.bng_pool.specs.Plain.{PlainView}
use Rattle.bng_pool.specs.Tables.{Table, entry}
use Rattle.bng_sessions.specs.Listed.{values}
use Rattle.bng_sessions.specs.Sessions.{value_at, with_value}
use Rattle.bng_steps.specs.declared.rules.Rules.{Rules}
use Rattle.bng_steps.specs.declared.whose.Whose.{Whose}
use Rattle.bng_steps.specs.declared.whose.Whose.TheVariants.{Stands}
use Rattle.bng_steps.specs.declared.session.Service.{Service}
use Rattle.bng_steps.specs.declared.session.Service.TheVariants.{Provisioned, Linked}
use Rattle.bng_steps.specs.declared.session.Session.{Session}
use Rattle.bng_coa.specs.Wants.{wanted}
use Rattle.bng_steps.specs.Changes.{HearsChange, lease_after, place_of}
use Rattle.bng_steps.specs.Deed.{Deed}
use Rattle.bng_steps.specs.Link.{Told, admin_reset}
use Rattle.bng_steps.specs.LinkService.{Question}
use Rattle.bng_steps.specs.Passing.{lapsed}
use Rattle.bng_steps.specs.Protocol.{ShardState, Handled, pppoe, entry_of, sessions_of}
use Rattle.bng_steps.specs.State.{Beside, State, count_in}
use Rattle.bng_steps.specs.Step.{Hears}
use Rattle.bng_steps.specs.Timers.{LosesTerm}
use Rattle.bng_steps.specs.Verdicts.{HearsVerdict, Judges, next_lease, settled_by}
use Rattle.bng_steps.specs.declared.destination.Destination.{Destination}
use Rattle.bng_steps.specs.Destinations.{IsForKind, IsForTarget}
use Rattle.bng_steps.specs.Whose.{IsFound}
use Rattle.bng_steps.proofs.Changing.{Comes, change_comes}
use Rattle.bng_steps.proofs.Fewer.{end_leaves_fewer}
use Rattle.bng_steps.proofs.Values.{sum_by-replaced}
use Rattle.bng_desk.specs.declared.drops.Drops.{Drops}
use Rattle.bng_desk.specs.declared.holding.Named.{Named}
use Rattle.bng_desk.specs.Items.{entries_in, for_shard, stands_in, without_claim}
use Rattle.bng_desk.specs.Kept.{rested, undrawn, AreEndsOf, IsAsked}
use Rattle.bng_desk.specs.Model.{sessions_in, unopened_most}
use Rattle.bng_desk.specs.Round.{AreParts, IsWhoseIn, entries_of, views_of}
use Rattle.bng_desk.specs.Taking.{Accounts, IsLeftBy, IsHeld, Holds}
use Rattle.bng_desk.proofs.Dealing.{Seens}
use Rattle.bng_desk.proofs.Joining.{OfSeat, all_kept}
use Rattle.bng_desk.proofs.Readying.{Shards, WorksBy, all_onward}
use Rattle.bng_desk.proofs.Resting.{kept_rested, sessions_rested}
use Rattle.bng_desk.proofs.RulesStay.{after_rules}
use Rattle.bng_desk.proofs.Staying.{AreEnds}
use Rattle.bng_desk.proofs.Zips.{zip_length}

-- Rules -----------------------------------------------------------------------------------------------------------------

pub rules_rested : (r : Rules) (vs : Shards) → All (WorksBy r) vs → All (WorksBy r) (map rested vs)
rules_rested r vs works = All-map (WorksBy r) rested vs (λ k d l. works k d l)

moved_rules : (r : Rules) (vs ws : Shards) (xs : Seens) → AllZip (Moves pppoe) (views_of vs) xs → AllZip IsLeftBy ws xs → AllByRecursion (WorksBy r) vs → AllByRecursion (WorksBy r) ws
moved_rules r [] [] [] moves left rules = tt
moved_rules r [] (w ∷ ws) [] moves left rules = absurd left
moved_rules r [] ws (x ∷ xs) moves left rules = absurd moves
moved_rules r (v ∷ vs) ws [] moves left rules = absurd moves
moved_rules r (v ∷ vs) [] (x ∷ xs) moves left rules = absurd left
moved_rules r (v ∷ vs) (w ∷ ws) (x ∷ xs) moves left rules =
    (ap (λ (s : ShardState). s.rules) left.0.state ∙ ap (λ (s : ShardState). s.rules) moves.0.state ∙ after_rules v.state x.journal ∙ rules.0, moved_rules r vs ws xs moves.1 left.1 rules.1)

-- Ends ------------------------------------------------------------------------------------------------------------------

same_number : (a n : ℕ) → eqb a n ≡ true → a ≡ n
same_number a n e = grind (arith, nat_tests)

other_number : (a n : ℕ) → (a ≡ n → ⊥) → eqb a n ≡ false
other_number a n f = grind (arith, nat_tests)

not_same : (a n : ℕ) → eqb a n ≡ false → a ≢ n
not_same a n e = grind (arith, nat_tests)

-- an End stands in the shard that it is for
end_whose : (r : Rules) (opening last : Table) (i : Item) (w : Whose) → IsWhoseIn r opening last i w → i.kind ≡ End → i.target < r.shards → w ≡ Stands i.target
end_whose r opening last i w is kind lt =
    let holder = entry is.table in
    let h : IsForTarget r i.target is.is.destination = subst (λ (k : ItemKind). IsForKind k r i is.is.destination) kind is.is.leads in
    ⊎_elim (λ h. subst (λ (d : Destination). IsFound holder d w) h.1 is.is.found) (λ h. absurd (omega (arith, h.0, lt))) h

-- one entry, of an End
record OneEnd (es : List Entry) : Type 0 where
  entry : Entry
  is : es ≡ entry ∷ []
  kind : entry.item.kind ≡ End

-- entries of requests and verdicts, and one of an End after them
abbrev OfAsked : Entry → Type 0
OfAsked e = IsAsked e.item

record EndLast (es : List Entry) : Type 0 where
  front : List Entry
  all : All OfAsked front
  last : Entry
  is : es ≡ front ++ last ∷ []
  kind : last.item.kind ≡ End

one_more : (b : Bool) (e : Entry) (es : List Entry) → OfAsked e → EndLast es → EndLast ((if b then e ∷ [] else []) ++ es)
one_more true e es v l = record { front = e ∷ l.front; all = All-cons OfAsked e l.front v l.all; last = l.last; is = ap (λ (xs : List Entry). e ∷ xs) l.is; kind = l.kind }
one_more false e es v l = l

module _ (r : Rules) (opening last : Table) (moment : ℕ) where
  abbrev Whoses : List Item → List Whose → Type 0
  Whoses = AllZip (IsWhoseIn r opening last)

  abbrev entry_if : ℕ → ℕ → Item → Whose → List Entry
  entry_if k place i w = if stands_in k w then entry_of 0 place moment i ∷ [] else []

  -- Ends for higher shards have no entry in this one
  none_before : (k m n place : ℕ) (is : List Item) (ws : List Whose) → k < m → m + n ≤ r.shards → map undrawn is ≡ map (for_shard End) (range_with_len m n) → Whoses is ws → entries_in 0 k place moment is ws ≡ []
  none_before k m n place [] ws lt few same are = refl
  none_before k m n place (i ∷ is) [] lt few same are = refl
  none_before k m zero place (i ∷ is) (w ∷ ws) lt few same are = let no : ⊥ = cc in absurd no
  none_before k m (suc n) place (i ∷ is) (w ∷ ws) lt few same are =
      let head : undrawn i ≡ for_shard End m = cc in
      let tail : map undrawn is ≡ map (for_shard End) (range_with_len (m + 1) n) = cc in
      let target : i.target ≡ m = ap (λ (x : Item). x.target) head in
      let stands : w ≡ Stands i.target = end_whose r opening last i w are.0 (ap (λ (x : Item). x.kind) head) (omega (arith, target, few)) in
      let here : stands_in k w ≡ false = ap (stands_in k) stands ∙ other_number i.target k (λ e. omega (arith, e, target, lt)) in
      ap (λ (b : Bool). (if b then entry_of 0 place moment i ∷ [] else []) ++ entries_in 0 k (place + 1) moment is ws) here
      ∙ none_before k (m + 1) n (place + 1) is ws (omega (arith, lt)) (omega (arith, few)) tail are.1

  -- the first of these Ends is for this shard, or a later one is
  one_by : (b : Bool) (k m n place : ℕ) (i : Item) (w : Whose) (is : List Item) (ws : List Whose) → eqb m k ≡ b → w ≡ Stands m → i.kind ≡ End → m ≤ k → m + suc n ≤ r.shards
      → map undrawn is ≡ map (for_shard End) (range_with_len (m + 1) n) → Whoses is ws → (m + 1 ≤ k → OneEnd (entries_in 0 k (place + 1) moment is ws)) → OneEnd (entry_if k place i w ++ entries_in 0 k (place + 1) moment is ws)
  one_by true k m n place i w is ws e stands kind low few tail are later =
      let here : stands_in k w ≡ true = ap (stands_in k) stands ∙ e in
      let rest = none_before k (m + 1) n (place + 1) is ws (omega (arith, same_number m k e)) (omega (arith, few)) tail are in
      record {
        entry = entry_of 0 place moment i;
        is = ap (λ (b : Bool). (if b then entry_of 0 place moment i ∷ [] else []) ++ entries_in 0 k (place + 1) moment is ws) here
            ∙ ap (λ (es : List Entry). entry_of 0 place moment i ∷ es) rest;
        kind = kind;
      }
  one_by false k m n place i w is ws e stands kind low few tail are later =
      let here : stands_in k w ≡ false = ap (stands_in k) stands ∙ e in
      let other : m ≢ k = not_same m k e in
      let more = later (omega (arith, low, other)) in
      record {
        entry = more.entry;
        is = ap (λ (b : Bool). (if b then entry_of 0 place moment i ∷ [] else []) ++ entries_in 0 k (place + 1) moment is ws) here ∙ more.is;
        kind = more.kind;
      }

  -- of an End for each shard, each shard has one
  one_at : (k m n place : ℕ) (is : List Item) (ws : List Whose) → m ≤ k → k < m + n → m + n ≤ r.shards → map undrawn is ≡ map (for_shard End) (range_with_len m n) → Whoses is ws → OneEnd (entries_in 0 k place moment is ws)
  one_at k m zero place [] ws low high few same are = absurd (omega (arith, low, high))
  one_at k m (suc n) place [] ws low high few same are = let no : ⊥ = cc in absurd no
  one_at k m n place (i ∷ is) [] low high few same are = absurd are
  one_at k m zero place (i ∷ is) (w ∷ ws) low high few same are = let no : ⊥ = cc in absurd no
  one_at k m (suc n) place (i ∷ is) (w ∷ ws) low high few same are =
      let head : undrawn i ≡ for_shard End m = cc in
      let tail : map undrawn is ≡ map (for_shard End) (range_with_len (m + 1) n) = cc in
      let target : i.target ≡ m = ap (λ (x : Item). x.target) head in
      let kind : i.kind ≡ End = ap (λ (x : Item). x.kind) head in
      let stands : w ≡ Stands m = end_whose r opening last i w are.0 kind (omega (arith, target, few)) ∙ ap Stands target in
      one_by (eqb m k) k m n place i w is ws refl stands kind low few tail are.1
      (λ later. one_at k (m + 1) n (place + 1) is ws later (omega (arith, high)) (omega (arith, few)) tail are.1)

  -- requests and verdicts, and one End after them
  end_last : (k n : ℕ) (vs es : List Item) → (place : ℕ) (ws : List Whose) → k < n → n ≤ r.shards → All IsAsked vs → AreEndsOf n es → Whoses (vs ++ es) ws → EndLast (entries_in 0 k place moment (vs ++ es) ws)
  end_last k n [] es place ws high few asked ends are =
      let one = one_at k 0 n place es ws (omega arith) (omega (arith, high)) (omega (arith, few)) ends are in
      record { front = []; all = All-nil OfAsked; last = one.entry; is = one.is; kind = one.kind }
  end_last k n (v ∷ vs) es place [] high few asked ends are = absurd are
  end_last k n (v ∷ vs) es place (w ∷ ws) high few asked ends are =
      one_more (stands_in k w) (entry_of 0 place moment v) (entries_in 0 k (place + 1) moment (vs ++ es) ws) (All-head IsAsked v vs asked)
      (end_last k n vs es (place + 1) ws high few (All-tail IsAsked v vs asked) ends are.1)

-- Fewer sessions --------------------------------------------------------------------------------------------------------

-- there are fewer, or there were none
abbrev pub Less : ℕ → ℕ → Type 0
Less was now = ((was ≡ 0) × (now ≡ 0)) ⊎ (now < was)

less_none : (was now : ℕ) → now ≡ 0 → Less was now
less_none zero now e = inl (refl, e)
less_none (suc was) now e = inr (omega (arith, e))

less_by : (was now : ℕ) → (now ≡ 0) ⊎ (now + 64 ≤ was) → Less was now
less_by was now (inl e) = less_none was now e
less_by was now (inr le) = inr (omega (arith, le))

less_sum : (a b c d : ℕ) → Less a b → Less c d → Less (a + c) (b + d)
less_sum a b c d (inl x) (inl y) = inl (omega (arith, x.0, y.0), omega (arith, x.1, y.1))
less_sum a b c d (inl x) (inr y) = inr (omega (arith, x.0, x.1, y))
less_sum a b c d (inr x) (inl y) = inr (omega (arith, x, y.0, y.1))
less_sum a b c d (inr x) (inr y) = inr (omega (arith, x, y))

-- the entries of a journal, without their claims
abbrev claimless : List Handled → List Entry
claimless es = map without_claim (map (λ (h : Handled). h.deed.entry) es)

one_step : (s : ShardState) (es : List Handled) (e : Entry) → claimless es ≡ e ∷ [] → e.item.kind ≡ End → AreSteps pppoe s es → Less (sessions_of s) (sessions_of (pppoe.settled (after pppoe s es)))
one_step s [] e is kind steps = let no : ⊥ = cc in absurd no
one_step s (h ∷ []) e is kind steps =
    let of : without_claim h.deed.entry ≡ e = cc in
    less_by (sessions_of s) (sessions_of (pppoe.settled (pppoe.next s h))) (end_leaves_fewer s h steps.0 (ap (λ (x : Entry). x.item.kind) of ∙ kind))
one_step s (h ∷ g ∷ es) e is kind steps = let no : ⊥ = cc in absurd no

ones : (xs : List Session) → sum_by (λ (x : Session). 1) xs ≡ length xs
ones [] = refl
ones (x ∷ xs) = omega (arith, sum_by-cons (λ (x : Session). 1) x xs, ones xs)

-- another session in the place of one
replaced_count : (s : State) (n : ℕ) (x y : Session) → value_at s.sessions n ≡ Some x → length (values (with_value s.sessions n y)) ≡ length (values s.sessions)
replaced_count s n x y found =
    omega (arith, sum_by-replaced (λ (z : Session). 1) s.sessions n x y found, ones (values s.sessions), ones (values (with_value s.sessions n y)))

-- a verdict leaves as many
settled_count : (s : State) (n : ℕ) (x : Session) (q : Question) (t : Told) (moment : ℕ) (y : Session) (beside : Beside) (address : Option Ip4) → value_at s.sessions n ≡ Some x
    → count_in (settled_by s n x q t moment y beside address) ≡ count_in s
settled_count s n x q t moment y beside None found = replaced_count s n x y found
settled_count s n x q t moment y beside (Some a) found = replaced_count s n x (record y { lease = Some (next_lease s t.plan t.limits moment a) }) found

judged : (s : State) (e : Entry) (d : Deed) (r : Rules) (t : Told) → Judges r s e t d → count_in d.next ≡ count_in s
judged s e d r t j = ap (λ (x : Deed). count_in x.next) j.done ∙ settled_count s e.item.target j.x j.question t e.moment j.after j.beside t.lease j.found

verdict_leaves_all : (s : ShardState) (h : Handled) → pppoe.is_step s h → h.deed.entry.item.kind ≡ Verdict → sessions_of (pppoe.next s h) ≡ sessions_of s
verdict_leaves_all s h is kind =
    let d = h.deed in
    let hears : HearsVerdict s.rules s.slots d.entry h.limited d = subst (λ (k : ItemKind). Hears k s.rules s.slots h.limited d.entry d) kind is.step.hears in
    ⊎_elim (λ told. judged s.slots d.entry d s.rules told.1 told.3)
    (λ none. ⊎_elim (λ silent. ap (λ (x : Deed). count_in x.next) silent.2) (λ other. ap (λ (x : Deed). count_in x.next) other.2) none) hears

-- and so does a request for a change
lost_count : (service : Service) (r : Rules) (e : Entry) (s : State) (n : ℕ) (x : Session) (outs : List OutRecord) (s' : State) → value_at s.sessions n ≡ Some x → LosesTerm service admin_reset r e s n x outs s' → count_in s' ≡ count_in s
lost_count (Provisioned over) r e s n x outs s' found (_, is) = ap count_in is ∙ replaced_count s n x (lapsed x) found
lost_count (Linked m) r e s n x outs s' found (after, _, beside, drives, is) = ap count_in is ∙ replaced_count s n x after found

changed_count : (r : Rules) (s : State) (e : Entry) (d : Deed) → Comes r s e d → count_in d.next ≡ count_in s
changed_count r s e d (inl is) = ap (λ (x : Deed). count_in x.next) is
changed_count r s e d (inr (inl (p, f, found, is))) =
    ap (λ (x : Deed). count_in x.next) is ∙ replaced_count s f.term.term.session.0 f.session (record f.session { lease = Some (lease_after f.lease (wanted r.profiles p) (place_of f.term.profile (wanted r.profiles p))) }) found.at
changed_count r s e d (inr (inr (p, f, found, outs, s', loses, is))) =
    ap (λ (x : Deed). count_in x.next) is ∙ lost_count f.session.service r e s f.term.term.session.0 f.session outs s' found.at loses

change_leaves_all : (s : ShardState) (h : Handled) → pppoe.is_step s h → h.deed.entry.item.kind ≡ Change → sessions_of (pppoe.next s h) ≡ sessions_of s
change_leaves_all s h is kind =
    let d = h.deed in
    let hears : HearsChange s.rules s.slots d.entry d = subst (λ (k : ItemKind). Hears k s.rules s.slots h.limited d.entry d) kind is.step.hears in
    changed_count s.rules s.slots d.entry d (change_comes s.rules s.slots d.entry d hears)

asked_leaves_all : (s : ShardState) (h : Handled) → pppoe.is_step s h → OfAsked h.deed.entry → sessions_of (pppoe.next s h) ≡ sessions_of s
asked_leaves_all s h is (inl kind) = change_leaves_all s h is kind
asked_leaves_all s h is (inr kind) = verdict_leaves_all s h is kind

last_step : (front : List Entry) (s : ShardState) (es : List Handled) (e : Entry) → claimless es ≡ front ++ e ∷ [] → All OfAsked front → e.item.kind ≡ End → AreSteps pppoe s es → Less (sessions_of s) (sessions_of (pppoe.settled (after pppoe s es)))
last_step [] s es e is all kind steps = one_step s es e is kind steps
last_step (f ∷ front) s [] e is all kind steps = let no : ⊥ = cc in absurd no
last_step (f ∷ front) s (h ∷ es) e is all kind steps =
    let first : without_claim h.deed.entry ≡ f = cc in
    let rest : claimless es ≡ front ++ e ∷ [] = cc in
    let same = asked_leaves_all s h steps.0 (subst (λ (k : ItemKind). (k ≡ Change) ⊎ (k ≡ Verdict)) (sym (ap (λ (x : Entry). x.item.kind) first)) (All-head OfAsked f front all)) in
    subst (λ (n : ℕ). Less n (sessions_of (pppoe.settled (after pppoe (pppoe.next s h) es)))) same (last_step front (pppoe.next s h) es e rest (All-tail OfAsked f front all) kind steps.1)

module _ (r : Rules) (opening last : Table) (moment : ℕ) (vs₀ es₀ : List Item) (whose : List Whose) (n : ℕ) (few : n ≤ r.shards) (asked : All IsAsked vs₀) (ends : AreEndsOf n es₀) (are : AllZip (IsWhoseIn r opening last) (vs₀ ++ es₀) whose) where
  abbrev items : List Item
  items = vs₀ ++ es₀

  dwindles : (k : ℕ) (vs ws : Shards) (xs : Seens) → k + length vs ≤ n → AreParts (items ∷ []) (whose ∷ []) k moment xs → AllZip (Moves pppoe) (views_of vs) xs → AllZip IsLeftBy ws xs → Less (sessions_in vs) (sessions_in ws)
  dwindles k [] [] [] within parts moves left = inl (refl, refl)
  dwindles k [] (w ∷ ws) [] within parts moves left = absurd left
  dwindles k [] ws (x ∷ xs) within parts moves left = absurd moves
  dwindles k (v ∷ vs) ws [] within parts moves left = absurd moves
  dwindles k (v ∷ vs) [] (x ∷ xs) within parts moves left = absurd left
  dwindles k (v ∷ vs) (w ∷ ws) (x ∷ xs) within parts moves left =
      let entries = map without_claim (entries_of x) in
      let seats : AllByRecursion OfSeat entries = all_weaker (λ (e : Entry). e.seat < 1) OfSeat (λ e lt. omega (arith, lt)) entries (recursion_from_All (λ (e : Entry). e.seat < 1) entries parts.0.seats) in
      let those : entries ≡ entries_in 0 k 0 moment items whose = sym (all_kept entries seats) ∙ parts.0.each 0 (omega arith) in
      let ends_last = end_last r opening last moment k n vs₀ es₀ 0 whose (omega (arith, within)) few asked ends are in
      let m = moves.0 in
      let state : w.state ≡ pppoe.settled (after pppoe v.state x.journal) = left.0.state ∙ m.state in
      let here : Less (sessions_of v.state) (sessions_of w.state) =
      subst (λ (s : ShardState). Less (sessions_of v.state) (sessions_of s)) (sym state) (last_step ends_last.front v.state x.journal ends_last.last (those ∙ ends_last.is) ends_last.all ends_last.kind m.steps) in
      let f = λ (y : ShardView ShardState Entry). sessions_of y.state in
      let more = dwindles (k + 1) vs ws xs (omega (arith, within)) parts.1 moves.1 left.1 in
      subst (λ (a : ℕ). Less a (sessions_in (w ∷ ws))) (sym (sum_by-cons f v vs))
      (subst (λ (b : ℕ). Less (sessions_of v.state + sessions_in vs) b) (sym (sum_by-cons f w ws)) (less_sum (sessions_of v.state) (sessions_of w.state) (sessions_in vs) (sessions_in ws) here more))

-- A round that was held or refused ------------------------------------------------------------------------------------------

-- by whether it was opened
abbrev pub Nears : Bool → ℕ → ℕ → Type 0
Nears true was now = Less was now
Nears false was now = now ≡ was

module _ (r : Rules) (pool pool' : PlainView) (accounts accounts' : Accounts) (named : Named) (items : List Item) (old new : PlantTold) (vs ws : Shards) (drops drops' : Drops) (tally tally' : Book) (record_is : RoundRecord) where
  kept_works : (by : Rules) (ready : Shards) → AllZip Kept vs ready → All (WorksBy by) vs → All (WorksBy by) ready
  kept_works by ready kept works = all_onward Kept (WorksBy by) (λ x y k here. ap (λ (s : ShardState). s.rules) k.state ∙ here) vs ready kept works

  held_works : (by : Rules) → IsHeld r pool pool' accounts accounts' named items old new vs ws drops drops' tally tally' record_is → All (WorksBy by) vs → All (WorksBy by) ws
  held_works by h works =
      All-from_recursion (WorksBy by) ws (moved_rules by h.ready ws h.held.round.shards h.held.is.turn.shards h.held.shards_are (recursion_from_All (WorksBy by) h.ready (kept_works by h.ready h.kept works)))

  pub all_work : (by : Rules) (opened : Bool) (kept : List Item) → Holds r pool pool' accounts accounts' named items old new vs ws drops drops' tally tally' record_is opened kept → All (WorksBy by) vs → All (WorksBy by) ws
  all_work by opened kept (inl h) works = held_works by h.2 works
  all_work by opened kept (inr h) works = kept_works by ws h.2.kept works

  same_sessions : (ready : Shards) → AllZip Kept vs ready → sessions_in ready ≡ sessions_in vs
  same_sessions ready kept = sym (sessions_rested ready) ∙ ap sessions_in (kept_rested vs ready kept) ∙ sessions_rested vs

  dwindled : (last : Table) (whose : List (List Whose)) (xs : Seens) (ready : Shards) (n : ℕ) → n ≤ r.shards → (e : AreEnds n items) → length ready ≤ n → AllZip (AllZip (IsWhoseIn r pool.table last)) (items ∷ []) whose → AreParts (items ∷ []) whose 0 named.moment xs
      → AllZip (Moves pppoe) (views_of ready) xs → AllZip IsLeftBy ws xs → Less (sessions_in ready) (sessions_in ws)
  dwindled last [] xs ready n few e within are parts moves left = absurd are
  dwindled last (w ∷ []) xs ready n few e within are parts moves left =
      dwindles r pool.table last named.moment e.asked e.ends w n few e.all_asked e.each (subst (λ (is : List Item). AllZip (IsWhoseIn r pool.table last) is w) e.are are.0) 0 ready ws xs (omega (arith, within))
      (subst (λ (is : List Item). AreParts (is ∷ []) (w ∷ []) 0 named.moment xs) e.are parts) moves left
  dwindled last (w ∷ x ∷ more) xs ready n few e within are parts moves left = absurd are.1

  held_dwindles : IsHeld r pool pool' accounts accounts' named items old new vs ws drops drops' tally tally' record_is → length vs ≡ r.shards → AreEnds (length vs) items → Less (sessions_in vs) (sessions_in ws)
  held_dwindles h count ends =
      let is = h.held.is in
      let same : length vs ≡ length h.ready = zip_length Kept vs h.ready h.kept in
      subst (λ (n : ℕ). Less n (sessions_in ws)) (same_sessions h.ready h.kept)
      (dwindled h.held.round.claimed.table h.held.round.whose h.held.round.shards h.ready (length vs) (omega (arith, count)) ends (omega (arith, same)) is.dealt.whose is.dealt.parts is.turn.shards h.held.shards_are)

  pub nears : (opened : Bool) (kept : List Item) → Holds r pool pool' accounts accounts' named items old new vs ws drops drops' tally tally' record_is opened kept → length vs ≡ r.shards → AreEnds (length vs) items → Nears opened (sessions_in vs) (sessions_in ws)
  nears opened kept (inl h) count ends = subst (λ (b : Bool). Nears b (sessions_in vs) (sessions_in ws)) (sym h.0) (held_dwindles h.2 count ends)
  nears opened kept (inr h) count ends = subst (λ (b : Bool). Nears b (sessions_in vs) (sessions_in ws)) (sym h.0) (same_sessions ws h.2.kept)

-- What is left ------------------------------------------------------------------------------------------------------------

abbrev open_round : Bool → ℕ
open_round closed = cond closed 0 1

-- of a desk that ends, a turn leaves less
pub less_left : (opened closed : Bool) (was now unopened : ℕ) → unopened < unopened_most → (closed ≡ true → 1 ≤ was) → Nears opened was now
    → unopened_most * (now + open_round (closed || opened)) + (unopened_most - cond opened 0 (unopened + 1)) < unopened_most * (was + open_round closed) + (unopened_most - unopened)
less_left true true was now unopened low some (inl e) = absurd (omega (arith, e.0, some refl))
less_left true true was now unopened low some (inr lt) = omega (arith, low, lt)
less_left true false was now unopened low some (inl e) = omega (arith, low, e.0, e.1)
less_left true false was now unopened low some (inr lt) = omega (arith, low, lt)
less_left false true was now unopened low some same = omega (arith, low, same)
less_left false false was now unopened low some same = omega (arith, low, same)

-- and no more turns are made than there were left at first
pub still_left : (opened closed : Bool) (was now unopened endings : ℕ) → unopened < unopened_most → (closed ≡ true → 1 ≤ was) → Nears opened was now
    → endings + unopened_most * (was + open_round closed) ≤ unopened_most * 65410 + unopened
    → endings + 1 + unopened_most * (now + open_round (closed || opened)) ≤ unopened_most * 65410 + cond opened 0 (unopened + 1)
still_left true true was now unopened endings low some (inl e) left = absurd (omega (arith, e.0, some refl))
still_left true true was now unopened endings low some (inr lt) left = omega (arith, low, lt, left)
still_left true false was now unopened endings low some (inl e) left = omega (arith, low, e.0, e.1, left)
still_left true false was now unopened endings low some (inr lt) left = omega (arith, low, lt, left)
still_left false true was now unopened endings low some same left = omega (arith, low, same, left)
still_left false false was now unopened endings low some same left = omega (arith, low, same, left)

pub unopened_low : (opened : Bool) (unopened : ℕ) → unopened < unopened_most → cond opened 0 (unopened + 1) ≤ unopened_most
unopened_low true unopened low = omega arith
unopened_low false unopened low = omega (arith, low)
