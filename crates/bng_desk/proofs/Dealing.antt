-- One item more is dealt.
use Rattle.std.proofs.Common.{◌≡◌, ℕ, zero, suc, ◌+◌, ◌<◌, ◌≤◌, Bool, true, false, cond, List, [], ◌∷◌, ◌++◌, map, length, get_or, set, if◌then◌else◌, refl, sym, ap, ◌∙◌, arith, eqb, add-zero, append-nil, append_assoc}
use Rattle.std.specs.List.{AllZip, count_by, flat_map, sum_by}
use Rattle.std.proofs.Math.Path.{fun_ext}
use Rattle.std.proofs.lemmas.Bool.Decides.{nat_tests}
use Rattle.std.proofs.lemmas.List.{map-append}
use Rattle.std.proofs.lemmas.List.Sums.{sum_by-append, sum_by-cons, sum_by-set, sum_by_push}
use Rattle.bng_base.specs.declared.fate.DropCause.{DropCause}
use Rattle.bng_base.specs.declared.fate.Fate.{Fate}
use Rattle.bng_base.specs.declared.item.Entry.{Entry}
use Rattle.bng_base.specs.declared.item.Item.{Item}
use Rattle.bng_base.specs.declared.item.Loose.{Loose}
use Rattle.bng_engine.specs.Views.{ShardView}
use Rattle.bng_steps.specs.declared.whose.Whose.{Whose}
use Rattle.bng_steps.specs.declared.whose.Whose.TheVariants.{Stands}
use Rattle.bng_steps.specs.Protocol.{ShardState, Handled, entry_of}
use Rattle.bng_desk.specs.declared.drops.Drops.{Drops}
use Rattle.bng_desk.specs.Counting.{with_fate, is_dropped, drops_of, plus}
use Rattle.bng_desk.specs.Items.{entries_in, loose_item, loose_in, stands_in, without_claim}
use Rattle.bng_desk.specs.Round.{entries_of}
use Rattle.bng_desk.specs.Taking.{AreDealt}
use Rattle.bng_desk.proofs.DropLaws.{drops_more}

abbrev pub Seens : Type 0
Seens = List (ShardView ShardState Handled)

-- Fates -----------------------------------------------------------------------------------------------------------------

abbrev pub fates_by : ShardView ShardState Handled → List Fate
fates_by v = map (λ (h : Handled). h.deed.fate) v.journal

abbrev pub all_fates : List Loose → Seens → List Fate
all_fates loose sights = map (λ l. l.fate) loose ++ flat_map fates_by sights

counts_append : (cause : DropCause) (a b : List Fate) → count_by (is_dropped cause) (a ++ b) ≡ count_by (is_dropped cause) a + count_by (is_dropped cause) b
counts_append cause a b = sum_by-append (λ (x : Fate). cond (is_dropped cause x) 1 0) a b

counts_push : (cause : DropCause) (a : List Fate) (f : Fate) → count_by (is_dropped cause) (a ++ f ∷ []) ≡ count_by (is_dropped cause) a + cond (is_dropped cause f) 1 0
counts_push cause a f = sum_by_push (λ (x : Fate). cond (is_dropped cause x) 1 0) a f

counts_flat : (cause : DropCause) (vs : Seens) → count_by (is_dropped cause) (flat_map fates_by vs) ≡ sum_by (λ (v : ShardView ShardState Handled). count_by (is_dropped cause) (fates_by v)) vs
counts_flat cause [] = refl
counts_flat cause (v ∷ vs) =
    omega (arith, counts_append cause (fates_by v) (flat_map fates_by vs), counts_flat cause vs, sum_by-cons (λ (v : ShardView ShardState Handled). count_by (is_dropped cause) (fates_by v)) v vs)

-- fates with the same counts
drops_same : (xs ys : List Fate) → ((cause : DropCause) → count_by (is_dropped cause) xs ≡ count_by (is_dropped cause) ys) → drops_of xs ≡ drops_of ys
drops_same xs ys h = fun_ext h

-- one fate more, wherever it stands
pub drops_with : (d e g : Drops) (xs ys : List Fate) (f : Fate) → e ≡ plus d (drops_of xs) → g ≡ with_fate e f
    → ((cause : DropCause) → count_by (is_dropped cause) ys ≡ count_by (is_dropped cause) xs + cond (is_dropped cause f) 1 0) → g ≡ plus d (drops_of ys)
drops_with d e g xs ys f so_far here more =
    drops_more d e g xs f so_far here ∙ ap (plus d) (drops_same (xs ++ f ∷ []) ys (λ cause. counts_push cause xs f ∙ sym (more cause)))

pub loose_fates : (loose : List Loose) (l : Loose) (vs : Seens) (cause : DropCause) → count_by (is_dropped cause) (all_fates (loose ++ l ∷ []) vs) ≡ count_by (is_dropped cause) (all_fates loose vs) + cond (is_dropped cause l.fate) 1 0
loose_fates loose l vs cause =
    let ls = map (λ (l : Loose). l.fate) loose in
    let more = ap (count_by (is_dropped cause)) (map-append (λ (l : Loose). l.fate) loose (l ∷ [])) in
    omega (arith, counts_append cause (map (λ (l : Loose). l.fate) (loose ++ l ∷ [])) (flat_map fates_by vs), counts_append cause ls (flat_map fates_by vs), more, counts_push cause ls l.fate)

pub shard_fates : (loose : List Loose) (vs : Seens) (n : ℕ) (d v : ShardView ShardState Handled) (done : Handled) (cause : DropCause) → n < length vs → v.journal ≡ (get_or vs n d).journal ++ done ∷ []
    → count_by (is_dropped cause) (all_fates loose (set vs n v)) ≡ count_by (is_dropped cause) (all_fates loose vs) + cond (is_dropped cause done.deed.fate) 1 0
shard_fates loose vs n d v done cause lt e =
    let ls = map (λ (l : Loose). l.fate) loose in
    let f = λ (v : ShardView ShardState Handled). count_by (is_dropped cause) (fates_by v) in
    let was = get_or vs n d in
    let more : count_by (is_dropped cause) (fates_by v) ≡ count_by (is_dropped cause) (fates_by was) + cond (is_dropped cause done.deed.fate) 1 0 =
    ap (λ (es : List Handled). count_by (is_dropped cause) (map (λ (x : Handled). x.deed.fate) es)) e
    ∙ ap (count_by (is_dropped cause)) (map-append (λ (x : Handled). x.deed.fate) was.journal (done ∷ [])) ∙ counts_push cause (fates_by was) done.deed.fate in
    omega (arith, counts_append cause ls (flat_map fates_by (set vs n v)), counts_append cause ls (flat_map fates_by vs), counts_flat cause (set vs n v), counts_flat cause vs, sum_by-set f vs n v d lt, more)

-- Entries and loose items -----------------------------------------------------------------------------------------------

-- what was handed to a shard: its entries, without their claims
abbrev pub handed_to : ShardView ShardState Handled → List Entry
handed_to v = map without_claim (entries_of v)

abbrev entry_if : ℕ → ℕ → ℕ → Item → Whose → List Entry
entry_if shard place moment i w = if stands_in shard w then entry_of 0 place moment i ∷ [] else []

next_place : (place n : ℕ) → place + 1 + n ≡ place + suc n
next_place place n = omega arith

module _ (R : Item → Whose → Type 0) (moment : ℕ) where
  pub entries_push : (shard place : ℕ) (is : List Item) (ws : List Whose) (i : Item) (w : Whose) → AllZip R is ws
      → entries_in 0 shard place moment (is ++ i ∷ []) (ws ++ w ∷ []) ≡ entries_in 0 shard place moment is ws ++ entry_if shard (place + length is) moment i w
  entries_push shard place [] [] i w h = append-nil (entry_if shard place moment i w) ∙ ap (λ (n : ℕ). entry_if shard n moment i w) (sym (add-zero place))
  entries_push shard place [] (x ∷ ws) i w h = absurd h
  entries_push shard place (x ∷ is) [] i w h = absurd h
  entries_push shard place (x ∷ is) (y ∷ ws) i w h =
      ap (λ (es : List Entry). entry_if shard place moment x y ++ es) (entries_push shard (place + 1) is ws i w h.1 ∙ ap (λ (n : ℕ). entries_in 0 shard (place + 1) moment is ws ++ entry_if shard n moment i w) (next_place place (length is)))
      ∙ sym (append_assoc (entry_if shard place moment x y) (entries_in 0 shard (place + 1) moment is ws) (entry_if shard (place + suc (length is)) moment i w))

  pub loose_push : (place : ℕ) (is : List Item) (ws : List Whose) (i : Item) (w : Whose) → AllZip R is ws
      → loose_in 0 place (is ++ i ∷ []) (ws ++ w ∷ []) ≡ loose_in 0 place is ws ++ loose_item 0 (place + length is) i w
  loose_push place [] [] i w h = append-nil (loose_item 0 place i w) ∙ ap (λ (n : ℕ). loose_item 0 n i w) (sym (add-zero place))
  loose_push place [] (x ∷ ws) i w h = absurd h
  loose_push place (x ∷ is) [] i w h = absurd h
  loose_push place (x ∷ is) (y ∷ ws) i w h =
      ap (λ (ls : List Loose). loose_item 0 place x y ++ ls) (loose_push (place + 1) is ws i w h.1 ∙ ap (λ (n : ℕ). loose_in 0 (place + 1) is ws ++ loose_item 0 n i w) (next_place place (length is)))
      ∙ sym (append_assoc (loose_item 0 place x y) (loose_in 0 (place + 1) is ws) (loose_item 0 (place + suc (length is)) i w))

  -- the shards in which the item does not stand
  pub dealt_others : (shard : ℕ) (is : List Item) (ws : List Whose) (i : Item) (w : Whose) (vs : Seens) → AllZip R is ws
      → ((k : ℕ) → shard ≤ k → stands_in k w ≡ false) → AreDealt shard moment is ws vs → AreDealt shard moment (is ++ i ∷ []) (ws ++ w ∷ []) vs
  dealt_others shard is ws i w [] h not_in so_far = tt
  dealt_others shard is ws i w (v ∷ vs) h not_in so_far =
      let none : entry_if shard (0 + length is) moment i w ≡ [] = ap (λ (b : Bool). if b then entry_of 0 (0 + length is) moment i ∷ [] else []) (not_in shard (omega arith)) in (
        so_far.0 ∙ sym (entries_push shard 0 is ws i w h ∙ ap (λ (es : List Entry). entries_in 0 shard 0 moment is ws ++ es) none ∙ append-nil (entries_in 0 shard 0 moment is ws)),
        dealt_others (shard + 1) is ws i w vs h (λ k le. not_in k (omega (arith, le))) so_far.1,
      )

  same_is : (a b : ℕ) → a ≡ b → eqb a b ≡ true
  same_is a b e = grind (arith, nat_tests)

  other_is : (a b : ℕ) → (a ≡ b → ⊥) → eqb a b ≡ false
  other_is a b e = grind (arith, nat_tests)

  -- the shard in which it stands has one entry more
  pub dealt_at : (shard n m : ℕ) (is : List Item) (ws : List Whose) (i : Item) (vs : Seens) (d v : ShardView ShardState Handled) → AllZip R is ws → n < length vs → m ≡ shard + n
      → handed_to v ≡ handed_to (get_or vs n d) ++ entry_of 0 (length is) moment i ∷ []
      → AreDealt shard moment is ws vs → AreDealt shard moment (is ++ i ∷ []) (ws ++ Stands m ∷ []) (set vs n v)
  dealt_at shard n m is ws i [] d v h lt at more so_far = absurd (omega (arith, lt))
  dealt_at shard zero m is ws i (x ∷ vs) d v h lt at more so_far =
      let here : stands_in shard (Stands m) ≡ true = same_is m shard (omega (arith, at)) in
      let one : entry_if shard (0 + length is) moment i (Stands m) ≡ entry_of 0 (length is) moment i ∷ [] =
      ap (λ (b : Bool). if b then entry_of 0 (0 + length is) moment i ∷ [] else []) here ∙ (let z : 0 + length is ≡ length is = omega arith in ap (λ (p : ℕ). entry_of 0 p moment i ∷ []) z) in (
        more ∙ ap (λ (es : List Entry). es ++ entry_of 0 (length is) moment i ∷ []) so_far.0 ∙ sym (entries_push shard 0 is ws i (Stands m) h ∙ ap (λ (es : List Entry). entries_in 0 shard 0 moment is ws ++ es) one),
        dealt_others (shard + 1) is ws i (Stands m) vs h (λ k le. other_is m k (λ e. omega (arith, e, at, le))) so_far.1,
      )
  dealt_at shard (suc n) m is ws i (x ∷ vs) d v h lt at more so_far =
      let none : entry_if shard (0 + length is) moment i (Stands m) ≡ [] = ap (λ (b : Bool). if b then entry_of 0 (0 + length is) moment i ∷ [] else []) (other_is m shard (λ e. omega (arith, e, at))) in (
        so_far.0 ∙ sym (entries_push shard 0 is ws i (Stands m) h ∙ ap (λ (es : List Entry). entries_in 0 shard 0 moment is ws ++ es) none ∙ append-nil (entries_in 0 shard 0 moment is ws)),
        dealt_at (shard + 1) n m is ws i vs d v h (omega (arith, lt)) (omega (arith, at)) more so_far.1,
      )

  -- the entries of one shard
  pub dealt_in : (shard n : ℕ) (is : List Item) (ws : List Whose) (vs : Seens) (d : ShardView ShardState Handled) → n < length vs → AreDealt shard moment is ws vs → handed_to (get_or vs n d) ≡ entries_in 0 (shard + n) 0 moment is ws
  dealt_in shard n is ws [] d lt so_far = absurd (omega (arith, lt))
  dealt_in shard zero is ws (v ∷ vs) d lt so_far = so_far.0 ∙ ap (λ (k : ℕ). entries_in 0 k 0 moment is ws) (sym (add-zero shard))
  dealt_in shard (suc n) is ws (v ∷ vs) d lt so_far = dealt_in (shard + 1) n is ws vs d (omega (arith, lt)) so_far.1 ∙ ap (λ (k : ℕ). entries_in 0 k 0 moment is ws) (next_place shard n)
