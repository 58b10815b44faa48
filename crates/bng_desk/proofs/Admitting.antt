-- A round has at most one Tick and one End for a shard.
use Rattle.std.proofs.Common.{◌≡◌, ℕ, ◌+◌, ◌<◌, Bool, true, false, ◌||◌, cond, List, [], ◌∷◌, ◌++◌, map, length, get_or, Option, if◌then◌else◌, ⊎_elim, refl, sym, ap, subst, ◌∙◌, arith, eqb}
use Rattle.std.specs.List.{AllByRecursion, AllPairs, AllZip, filter}
use Rattle.std.proofs.lemmas.Bool.{false≢true}
use Rattle.std.proofs.lemmas.Bool.Decides.{nat_tests}
use Rattle.std.proofs.lemmas.List.{get_or_append_left, get_or_at, length-append}
use Rattle.std.proofs.lemmas.List.Elements.{All-from_recursion, filter-append, recursion_from_All}
use Rattle.std.proofs.lemmas.List.Folds.{list_any_none}
use Rattle.bng_base.specs.declared.item.Entry.{Entry}
use Rattle.bng_base.specs.declared.item.Item.{Item}
use Rattle.bng_base.specs.declared.item.ItemKind.{ItemKind}
use Rattle.bng_base.specs.declared.item.ItemKind.TheVariants.{Access, Core, Tunnel, Verdict, Change, Tick, End}
use Rattle.bng_engine.specs.Views.{ShardView}
use Rattle.bng_engine.proofs.Everywhere.{all_append, all_mapped, all_weaker}
use Rattle.bng_base.specs.declared.fate.Fate.TheVariants.{Consumed}
use Rattle.bng_pool.specs.Tables.{Table, entry}
use Rattle.bng_steps.specs.declared.rules.Rules.{Rules}
use Rattle.bng_steps.specs.declared.whose.Whose.{Whose}
use Rattle.bng_steps.specs.declared.whose.Whose.TheVariants.{Loose as IsLoose, Stands}
use Rattle.bng_steps.specs.Protocol.{entry_of}
use Rattle.bng_shard.specs.Room.{Admits, is_tick, is_end}
use Rattle.bng_steps.specs.Protocol.{ShardState}
use Rattle.bng_steps.specs.declared.destination.Destination.{Destination}
use Rattle.bng_steps.specs.Destinations.{IsForKind, IsForTarget}
use Rattle.bng_steps.specs.Whose.{IsFound, IsWhose}
use Rattle.bng_desk.specs.Items.{entries_in, stands_in, without_claim}
use Rattle.bng_desk.specs.Taking.{is_once, AreOnce}

-- Lists -----------------------------------------------------------------------------------------------------------------

-- each element before one stands to it as the earlier of a pair
pairs_before : {X : Type 0} (R : X → X → Type 0) (xs : List X) (y : X) (ys : List X) → AllPairs R (xs ++ y ∷ ys) → AllByRecursion (λ x. R x y) xs
pairs_before R xs y ys h = recursion_from_All (λ x. R x y) xs (λ k d lt.
    let within : length xs < length (xs ++ y ∷ ys) = omega (arith, length-append xs (y ∷ ys)) in
    let pair = h k (length xs) d lt within in
    subst (λ x. R x y) (get_or_append_left xs (y ∷ ys) d k lt) (subst (λ x. R (get_or (xs ++ y ∷ ys) k d) x) (get_or_at xs y ys d (length xs) refl) pair))

unfilter_one : {X : Type 0} (p : X → Bool) (Q : X → Type 0) (x : X) (xs : List X) (b : Bool) → p x ≡ b → AllByRecursion Q (cond b (x ∷ filter p xs) (filter p xs)) → (p x ≡ true → Q x) × AllByRecursion Q (filter p xs)
unfilter_one p Q x xs true e h = (λ _. h.0, h.1)
unfilter_one p Q x xs false e h = (λ f. absurd (false≢true (sym e ∙ f)), h)

unfilter : {X : Type 0} (p : X → Bool) (Q : X → Type 0) (xs : List X) → AllByRecursion Q (filter p xs) → AllByRecursion (λ x. p x ≡ true → Q x) xs
unfilter p Q [] h = tt
unfilter p Q (x ∷ xs) h = let here = unfilter_one p Q x xs (p x) refl h in (here.0, unfilter p Q xs here.1)

-- the Ticks and Ends before one are for lower shards
abbrev pub IsLower : ℕ → Item → Type 0
IsLower n i = is_once i.kind ≡ true → i.target < n

pub once_before : (done : List Item) (item : Item) (left : List Item) → AreOnce (done ++ item ∷ left) → is_once item.kind ≡ true → AllByRecursion (IsLower item.target) done
once_before done item left once is =
    let p = λ (i : Item). is_once i.kind in
    let R = λ (a b : Item). a.target < b.target in
    let split : filter p (done ++ item ∷ left) ≡ filter p done ++ item ∷ filter p left =
    filter-append p done (item ∷ left) ∙ ap (λ (b : Bool). filter p done ++ cond b (item ∷ filter p left) (filter p left)) is in
    unfilter p (λ (i : Item). i.target < item.target) done (pairs_before R (filter p done) item (filter p left) (subst (λ (xs : List Item). AllPairs R xs) split once))

-- Entries ---------------------------------------------------------------------------------------------------------------

target_is : (r : Rules) (holder : ℕ → Option ℕ) (target n : ℕ) (d : Destination) → IsForTarget r target d → IsFound holder d (Stands n) → target ≡ n
target_is r holder target n d h found =
    ⊎_elim
    (λ h. let e : Stands n ≡ Stands target = subst (λ (x : Destination). IsFound holder x (Stands n)) h.1 found in cc)
    (λ h. let e : Stands n ≡ IsLoose Consumed = subst (λ (x : Destination). IsFound holder x (Stands n)) h.1 found in absurd (cc))
    h

-- a Tick or an End stands in the shard that it is for
once_target : (kind : ItemKind) (r : Rules) (holder : ℕ → Option ℕ) (item : Item) (n : ℕ) (d : Destination) → IsForKind kind r item d → IsFound holder d (Stands n) → is_once kind ≡ true → item.target ≡ n
once_target (Access number) r holder item n d h found e = absurd (false≢true e)
once_target Core r holder item n d h found e = absurd (false≢true e)
once_target Tunnel r holder item n d h found e = absurd (false≢true e)
once_target Verdict r holder item n d h found e = absurd (false≢true e)
once_target Change r holder item n d h found e = absurd (false≢true e)
once_target Tick r holder item n d h found e = target_is r holder item.target n d h found
once_target End r holder item n d h found e = target_is r holder item.target n d h found

abbrev NotOnce : Entry → Type 0
NotOnce e = is_once e.item.kind ≡ false

not_true : (b : Bool) → (b ≡ true → ⊥) → b ≡ false
not_true true f = absurd (f refl)
not_true false f = refl

same_number : (a n : ℕ) → eqb a n ≡ true → a ≡ n
same_number a n e = grind (arith, nat_tests)

-- the entries that a shard has of items for lower shards are neither Ticks nor Ends
none_in : (b : Bool) (n place moment : ℕ) (i : Item) → (b ≡ true → is_once i.kind ≡ false) → AllByRecursion NotOnce (if b then entry_of 0 place moment i ∷ [] else [])
none_in true n place moment i h = (h refl, tt)
none_in false n place moment i h = tt

-- each Tick and each End stands in the shard that it is for
abbrev pub StandsOnce : Item → Whose → Type 0
StandsOnce i w = (n : ℕ) → w ≡ Stands n → is_once i.kind ≡ true → i.target ≡ n

pub stands_once : (r : Rules) (table : Table) (i : Item) (w : Whose) → IsWhose r (entry table) i w → StandsOnce i w
stands_once r table i w is n at once = once_target i.kind r (entry table) i n is.destination is.leads (subst (IsFound (entry table) is.destination) at is.found) once

not_here : (n : ℕ) (i : Item) (w : Whose) → StandsOnce i w → IsLower n i → stands_in n w ≡ true → is_once i.kind ≡ false
not_here n i (IsLoose fate) is low e = absurd (false≢true e)
not_here n i (Stands m) is low e =
    let same : m ≡ n = same_number m n e in
    not_true (is_once i.kind) (λ (yes : is_once i.kind ≡ true). let target = is m refl yes in let lower = low yes in omega (arith, same, target, lower))

none_once : (n place moment : ℕ) (done : List Item) (whose : List Whose) → AllZip StandsOnce done whose → AllByRecursion (IsLower n) done → AllByRecursion NotOnce (entries_in 0 n place moment done whose)
none_once n place moment [] whose is low = tt
none_once n place moment (i ∷ done) [] is low = tt
none_once n place moment (i ∷ done) (w ∷ whose) is low =
    all_append NotOnce (if stands_in n w then entry_of 0 place moment i ∷ [] else []) (entries_in 0 n (place + 1) moment done whose)
    (none_in (stands_in n w) n place moment i (not_here n i w is.0 low.0))
    (none_once n (place + 1) moment done whose is.1 low.1)

tick_once : (kind : ItemKind) → is_tick kind ≡ true → is_once kind ≡ true
tick_once kind e = ap (λ (b : Bool). b || is_end kind) e

or_true : (a : Bool) → (a || true) ≡ true
or_true true = refl
or_true false = refl

end_once : (kind : ItemKind) → is_end kind ≡ true → is_once kind ≡ true
end_once kind e = ap (λ (b : Bool). is_tick kind || b) e ∙ or_true (is_tick kind)

not_tick : (e : Entry) → NotOnce e → is_tick e.item.kind ≡ false
not_tick e h = not_true (is_tick e.item.kind) (λ yes. false≢true (sym h ∙ tick_once e.item.kind yes))

not_end : (e : Entry) → NotOnce e → is_end e.item.kind ≡ false
not_end e h = not_true (is_end e.item.kind) (λ yes. false≢true (sym h ∙ end_once e.item.kind yes))

none_admits : (v : ShardView ShardState Entry) (kind : ItemKind) → (is_once kind ≡ true → AllByRecursion NotOnce v.journal) → Admits v kind
none_admits v kind h = record {
  tick = λ yes. list_any_none (λ (e : Entry). is_tick e.item.kind) v.journal (All-from_recursion (λ e. is_tick e.item.kind ≡ false) v.journal (all_weaker NotOnce (λ e. is_tick e.item.kind ≡ false) not_tick v.journal (h (tick_once kind yes))));
  end = λ yes. list_any_none (λ (e : Entry). is_end e.item.kind) v.journal (All-from_recursion (λ e. is_end e.item.kind ≡ false) v.journal (all_weaker NotOnce (λ e. is_end e.item.kind ≡ false) not_end v.journal (h (end_once kind yes))));
}

-- the shard of the next item admits it
pub admits_next : (r : Rules) (table : Table) (moment : ℕ) (done : List Item) (whose : List Whose) (item : Item) (left : List Item) (n : ℕ) (v : ShardView ShardState Entry)
    → AreOnce (done ++ item ∷ left) → AllZip StandsOnce done whose → IsWhose r (entry table) item (Stands n) → map without_claim v.journal ≡ entries_in 0 n 0 moment done whose → Admits v item.kind
admits_next r table moment done whose item left n v once are is journal = none_admits v item.kind (λ yes.
    let target : item.target ≡ n = stands_once r table item (Stands n) is n refl yes in
    let low : AllByRecursion (IsLower n) done = subst (λ (m : ℕ). AllByRecursion (IsLower m) done) target (once_before done item left once yes) in
    all_mapped NotOnce without_claim v.journal (subst (λ (es : List Entry). AllByRecursion NotOnce es) (sym journal) (none_once n 0 moment done whose are low)))
