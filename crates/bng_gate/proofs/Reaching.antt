-- What holds of the shards at one turn, and is kept by each entry, by each settlement and where no round was opened, holds from then on.
use Rattle.std.proofs.Common.{◌≡◌, ◌⊎◌, inl, inr, ℕ, zero, suc, ◌+◌, ◌-◌, ◌≤◌, List, [], ◌∷◌, ◌++◌, Option, None, Some, map, append-nil, refl, sym, ap, subst, ◌∙◌, arith}
use Rattle.std.specs.Prelude.{slice_get}
use Rattle.std.specs.List.{AllZip}
use Rattle.std.specs.Option.{option_map}
use Rattle.std.proofs.lemmas.Option.{none-some, same_Some}
use Rattle.bng_base.specs.declared.item.Entry.{Entry}
use Rattle.bng_base.specs.declared.item.Item.{Item}
use Rattle.bng_engine.specs.Calls.{Moves}
use Rattle.bng_engine.specs.Journals.{after, AreSteps}
use Rattle.bng_engine.specs.Settlements.{AreStarts}
use Rattle.bng_engine.specs.Showing.{with_journal}
use Rattle.bng_engine.specs.Views.{ShardView}
use Rattle.bng_steps.specs.Granting.{IsSound}
use Rattle.bng_steps.specs.Protocol.{ShardState, Handled, pppoe, terms_of}
use Rattle.bng_steps.specs.Questions.{last_asking_at}
use Rattle.bng_steps.specs.Step.{Step}
use Rattle.bng_desk.specs.Model.{Desk}
use Rattle.bng_desk.specs.Round.{Round, left_by, views_of}
use Rattle.bng_desk.specs.Turn.{RoundOf, after_round}
use Rattle.bng_gate.specs.Granted.{Held, HandledIn}
use Rattle.bng_gate.proofs.Follows.{left_after}
use Rattle.bng_gate.proofs.HeldRuns.{HeldRun}

-- a shard that is new, at its place: no session of it has asked
pub record IsFresh (p : ℕ) (s : ShardState) : Type 0 where
  pub sound : IsSound s.slots
  pub shard : s.slots.sessions.shard ≡ p
  pub asked : s.slots.question_count ≡ 0
  pub silent : (n : ℕ) → last_asking_at s.slots n ≡ None

abbrev pub AreFresh : List (ShardView ShardState Entry) → Type 0
AreFresh shards = (p : ℕ) (v : ShardView ShardState Entry) → slice_get shards p ≡ Some v → IsFresh p v.state

-- Lists -------------------------------------------------------------------------------------------------------------------

pub mapped : {X Y : Type 0} (f : X → Y) (o : Option X) (y : Y) → option_map f o ≡ Some y → (x : X) × (o ≡ Some x) × (f x ≡ y)
mapped f None y e = absurd (none-some y e)
mapped f (Some x) y e = (x, refl, same_Some (f x) y e)

map_at : {X Y : Type 0} (f : X → Y) (xs : List X) (i : ℕ) (y : Y) → slice_get (map f xs) i ≡ Some y → (x : X) × (slice_get xs i ≡ Some x) × (f x ≡ y)
map_at f [] i y e = absurd (none-some y e)
map_at f (x ∷ xs) zero y e = (x, refl, same_Some (f x) y e)
map_at f (x ∷ xs) (suc i) y e = map_at f xs i y e

zip_at : {X Y : Type 0} (R : X → Y → Type 0) (xs : List X) (ys : List Y) (i : ℕ) (y : Y) → AllZip R xs ys → slice_get ys i ≡ Some y → (x : X) × (slice_get xs i ≡ Some x) × R x y
zip_at R [] [] i y h e = absurd (none-some y e)
zip_at R [] (z ∷ ys) i y h e = absurd h
zip_at R (x ∷ xs) [] i y h e = absurd h
zip_at R (x ∷ xs) (z ∷ ys) zero y h e = (x, refl, subst (R x) (same_Some z y e) h.0)
zip_at R (x ∷ xs) (z ∷ ys) (suc i) y h e = zip_at R xs ys i y h.1 e

one_before : {X : Type 0} (xs : List X) (i : ℕ) (y : X) → slice_get xs (suc i) ≡ Some y → (x : X) × (slice_get xs i ≡ Some x)
one_before [] i y e = absurd (none-some y e)
one_before (x ∷ xs) zero y e = (x, refl)
one_before (x ∷ xs) (suc i) y e = one_before xs i y e

push_next : {X : Type 0} (xs : List X) (y : X) (ys : List X) → xs ++ y ∷ ys ≡ xs ++ y ∷ [] ++ ys
push_next [] y ys = refl
push_next {X} (x ∷ xs) y ys = ap (λ (zs : List X). x ∷ zs) (push_next xs y ys)

after_push : (s : ShardState) (done : List Handled) (h : Handled) → after pppoe s (done ++ h ∷ []) ≡ (pppoe).next (after pppoe s done) h
after_push s [] h = refl
after_push s (g ∷ done) h = after_push ((pppoe).next s g) done h

-- Turns -------------------------------------------------------------------------------------------------------------------

pub record IsMade (t : Held) : Type 0 where
  pub moment : ℕ
  pub items : List Item
  pub round : RoundOf t.desk moment items t.round

pub left_is : (d : Desk) (items : List Item) (round : Option Round) → (after_round d items round).shards ≡ left_after d.shards round
left_is d items None = refl
left_is d items (Some round) = refl

pub first_turn : (d last : Desk) (held : List Held) (t : Held) → HeldRun d held last → slice_get held 0 ≡ Some t → t.desk ≡ d
first_turn d last [] t run e = absurd (none-some t e)
first_turn d last (h ∷ held) t run e = ap (λ (u : Held). u.desk) (sym (same_Some h t e)) ∙ run.1.desk

pub turn_made : (d last : Desk) (held : List Held) (k : ℕ) (t : Held) → HeldRun d held last → slice_get held k ≡ Some t → IsMade t
turn_made d last [] k t run e = absurd (none-some t e)
turn_made d last (h ∷ held) zero t run e =
    let holds = run.1 in
    subst (λ (u : Held). IsMade u) (same_Some h t e) (record {
      moment = holds.moment;
      items = holds.items;
      round = subst (λ (x : Desk). RoundOf x holds.moment holds.items h.round) (sym holds.desk) holds.round;
    })
turn_made d last (h ∷ held) (suc k) t run e = turn_made run.0 last held k t run.2 e

pub turn_next : (d last : Desk) (held : List Held) (k : ℕ) (t u : Held) → HeldRun d held last → slice_get held k ≡ Some t → slice_get held (suc k) ≡ Some u
    → u.desk.shards ≡ left_after t.desk.shards t.round
turn_next d last [] k t u run e f = absurd (none-some t e)
turn_next d last (h ∷ held) zero t u run e f =
    let holds = run.1 in
    let here : (after_round d holds.items h.round).shards ≡ left_after h.desk.shards h.round = left_is d holds.items h.round ∙ ap (λ (x : Desk). left_after x.shards h.round) (sym holds.desk) in
    ap (λ (x : Desk). x.shards) (first_turn run.0 last held u run.2 f) ∙ holds.shards ∙ here ∙ ap (λ (x : Held). left_after x.desk.shards x.round) (same_Some h t e)
turn_next d last (h ∷ held) (suc k) t u run e f = turn_next run.0 last held k t u run.2 e f

-- where a shard's round began, and of which terms it formed Starts
pub record IsBegun (t : Held) (p : ℕ) (w : ShardView ShardState Handled) : Type 0 where
  pub view : ShardView ShardState Entry
  pub at : slice_get t.desk.shards p ≡ Some view
  pub steps : AreSteps pppoe view.state w.journal
  state : w.state ≡ (pppoe).settled (after pppoe view.state w.journal)
  pub starts : AreStarts (terms_of view.state) (terms_of (after pppoe view.state w.journal)) w.starts

abbrev shown : ShardView ShardState Entry → ShardView ShardState Handled
shown v = with_journal v []

pub begun : (t : Held) (round : Round) (p : ℕ) (w : ShardView ShardState Handled) → IsMade t → t.round ≡ Some round → slice_get round.shards p ≡ Some w → IsBegun t p w
begun t round p w made opened there =
    let moves = (subst (λ (o : Option Round). RoundOf t.desk made.moment made.items o) opened made.round).turn.shards in
    let m = zip_at (Moves pppoe) (views_of t.desk.shards) round.shards p w moves there in
    let o = map_at shown t.desk.shards p m.0 m.1 in
    let start : m.0.state ≡ o.0.state = ap (λ (x : ShardView ShardState Handled). x.state) (sym o.2) in
    record {
      view = o.0;
      at = o.1;
      steps = subst (λ (s : ShardState). AreSteps pppoe s w.journal) start m.2.steps;
      state = m.2.state ∙ ap (λ (s : ShardState). (pppoe).settled (after pppoe s w.journal)) start;
      starts = subst (λ (s : ShardState). AreStarts (terms_of s) (terms_of (after pppoe s w.journal)) w.starts) start m.2.begun;
    }

-- Properties that stay ----------------------------------------------------------------------------------------------------

-- a state once a round is settled, and what was answered to requests for changes was told
abbrev pub rested : ShardState → ShardState
rested s = record ((pppoe).settled s) { changed = [] }

module _ (held : List Held) (P : ℕ → ℕ → ShardState → Type 0) where
  -- by the number of a turn and the place of a shard
  pub record IsKept : Type 0 where
    pub steps : (k : ℕ) (s : ShardState) (h : Handled) (i : HandledIn held k s h) → Step s.rules s.slots h.limited h.deed → P k i.place s → P k i.place ((pppoe).next s h)
    pub settles : (k p : ℕ) (s : ShardState) → P k p s → P (suc k) p (rested s)
    pub rests : (k p : ℕ) (s : ShardState) → P k p s → P (suc k) p s

  -- of all shards before a turn
  abbrev pub HoldsAt : ℕ → Type 0
  HoldsAt k = (t : Held) → slice_get held k ≡ Some t → (p : ℕ) (v : ShardView ShardState Entry) → slice_get t.desk.shards p ≡ Some v → P k p v.state

  -- what a turn leaves of a shard is what its entries left of it, settled and told, or what was there, where no round was opened
  pub record IsLeft (k p : ℕ) (s : ShardState) : Type 0 where
    pub before : ShardState
    pub holds : P k p before
    pub is : (s ≡ rested before) ⊎ (s ≡ before)

  module _ (keeps : IsKept) (k : ℕ) (turn : Held) (at : slice_get held k ≡ Some turn) (round : Round) (opened : turn.round ≡ Some round)
      (p : ℕ) (before : ShardState) (was : option_map (λ v. v.state) (slice_get turn.desk.shards p) ≡ Some before)
      (w : ShardView ShardState Handled) (there : slice_get round.shards p ≡ Some w) where
    here : (s : ShardState) (done : List Handled) (h : Handled) (rest : List Handled) → s ≡ after pppoe before done → w.journal ≡ done ++ h ∷ rest → HandledIn held k s h
    here s done h rest is journal = record {
      turn = turn;
      at = at;
      round = round;
      opened = opened;
      place = p;
      before = before;
      was = was;
      earlier = done;
      later = rest;
      journal = ap (option_map (λ (v : ShardView ShardState Handled). v.journal)) there ∙ ap (λ (es : List Handled). Some es) journal;
      state = is;
    }

    -- what follows some entries
    walk : (s : ShardState) (done es rest : List Handled) → s ≡ after pppoe before done → w.journal ≡ done ++ (es ++ rest) → AreSteps pppoe s (es ++ rest) → P k p s
        → P k p (after pppoe s es) × AreSteps pppoe (after pppoe s es) rest
    unfolding here
    walk s done [] rest is journal steps h = (h, steps)
    walk s done (e ∷ es) rest is journal steps h =
        walk ((pppoe).next s e) (done ++ e ∷ []) es rest
        (ap (λ (x : ShardState). (pppoe).next x e) is ∙ sym (after_push before done e))
        (journal ∙ push_next done e (es ++ rest))
        steps.1
        (keeps.steps k s e (here s done e (es ++ rest) is journal) steps.0.step h)

  module _ (keeps : IsKept) (opening last : Desk) (run : HeldRun opening held last) where
    by_round : (k : ℕ) (t : Held) → slice_get held k ≡ Some t → IsMade t → (round : Option Round) → t.round ≡ round
        → ((p : ℕ) (v : ShardView ShardState Entry) → slice_get t.desk.shards p ≡ Some v → P k p v.state)
        → (p : ℕ) (v : ShardView ShardState Entry) → slice_get (left_after t.desk.shards round) p ≡ Some v → IsLeft k p v.state
    by_round k t at made None opened h p v is = record { before = v.state; holds = h p v is; is = inr refl }
    by_round k t at made (Some round) opened h p v is =
        let w = map_at left_by round.shards p v is in
        let b = begun t round p w.0 made opened w.1 in
        let whole : w.0.journal ≡ w.0.journal ++ [] = sym (append-nil w.0.journal) in
        let went = walk keeps k t at round opened p b.view.state (ap (option_map (λ (x : ShardView ShardState Entry). x.state)) b.at) w.0 w.1
        b.view.state [] w.0.journal [] refl whole (subst (λ (es : List Handled). AreSteps pppoe b.view.state es) whole b.steps) (h p b.view b.at) in
        let ends : record w.0.state { changed = [] } ≡ v.state = ap (λ (x : ShardView ShardState Entry). x.state) w.2 in
        record { before = after pppoe b.view.state w.0.journal; holds = went.0; is = inl (sym ends ∙ ap (λ (s : ShardState). record s { changed = [] }) b.state) }

    -- what a turn leaves of the shards
    pub left : (k : ℕ) (t : Held) → slice_get held k ≡ Some t → HoldsAt k → (p : ℕ) (v : ShardView ShardState Entry) → slice_get (left_after t.desk.shards t.round) p ≡ Some v → IsLeft k p v.state
    left k t at h p v is = by_round k t at (turn_made opening last held k t run at) t.round refl (h t at) p v is

    next_at : (k : ℕ) → HoldsAt k → HoldsAt (suc k)
    next_at k h u at p v is =
        let t = one_before held k u at in
        let x = left k t.0 t.1 h p v (subst (λ (vs : List (ShardView ShardState Entry)). slice_get vs p ≡ Some v) (turn_next opening last held k t.0 u run t.1 at) is) in
        elim x.is [
          | inl settles ↦ subst (P (suc k) p) (sym settles) (keeps.settles k p x.before x.holds)
          | inr rests ↦ subst (P (suc k) p) (sym rests) (keeps.rests k p x.before x.holds)
        ]

    later : (j n : ℕ) → HoldsAt j → HoldsAt (n + j)
    later j zero h = let e : j ≡ zero + j = omega arith in subst HoldsAt e h
    later j (suc n) h = let e : suc (n + j) ≡ suc n + j = omega arith in subst HoldsAt e (next_at (n + j) (later j n h))

    pub from_then : (j k : ℕ) → j ≤ k → HoldsAt j → HoldsAt k
    from_then j k le h = let e : (k - j) + j ≡ k = omega (arith, le) in subst HoldsAt e (later j (k - j) h)

    -- before each entry, which is a step
    pub reached : (j k : ℕ) → j ≤ k → HoldsAt j → (s : ShardState) (h : Handled) (i : HandledIn held k s h) → P k i.place s × Step s.rules s.slots h.limited h.deed
    reached j k le from s h i =
        let w = mapped (λ (v : ShardView ShardState Handled). v.journal) (slice_get i.round.shards i.place) (i.earlier ++ h ∷ i.later) i.journal in
        let b = begun i.turn i.round i.place w.0 (turn_made opening last held k i.turn run i.at) i.opened w.1 in
        let start : b.view.state ≡ i.before = same_Some b.view.state i.before (ap (option_map (λ (x : ShardView ShardState Entry). x.state)) (sym b.at) ∙ i.was) in
        let steps = subst (λ (x : ShardState). AreSteps pppoe x (i.earlier ++ h ∷ i.later)) start (subst (λ (es : List Handled). AreSteps pppoe b.view.state es) w.2 b.steps) in
        let there : P k i.place i.before = subst (P k i.place) start (from_then j k le from i.turn i.at i.place b.view b.at) in
        let went = walk keeps k i.turn i.at i.round i.opened i.place i.before i.was w.0 w.1 i.before [] i.earlier (h ∷ i.later) refl w.2 steps there in (
          subst (P k i.place) (sym i.state) went.0,
          subst (λ (x : ShardState). Step x.rules x.slots h.limited h.deed) (sym i.state) went.1.0.step,
        )

    -- and so of what holds before the first turn
    pub at_first : ((p : ℕ) (v : ShardView ShardState Entry) → slice_get opening.shards p ≡ Some v → P 0 p v.state) → HoldsAt 0
    at_first h t at p v is = h p v (subst (λ (d : Desk). slice_get d.shards p ≡ Some v) (first_turn opening last held t run at) is)
