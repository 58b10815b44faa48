-- Counts of drops, one item more.
use Rattle.std.proofs.Common.{◌≡◌, ℕ, zero, suc, ◌+◌, ◌<◌, ◌≤◌, Bool, true, false, cond, List, [], ◌∷◌, ◌++◌, map, drop, length, get_or, set, refl, sym, ap, subst, ◌∙◌, arith, eq-eqb, ne_eqb}
use Rattle.std.specs.List.{count_by, range_with_len}
use Rattle.std.proofs.Math.Path.{fun_ext}
use Rattle.std.proofs.lemmas.List.Sums.{sum_by-append}
use Rattle.bng_base.specs.declared.fate.DropCause.{DropCause}
use Rattle.bng_base.specs.declared.fate.Fate.{Fate}
use Rattle.bng_base.specs.declared.fate.Fate.TheVariants.{Forwarded, Consumed, Dropped}
use Rattle.bng_base.specs.CauseNumbers.{number_of}
use Rattle.bng_desk.specs.declared.drops.Drops.{Drops}
use Rattle.bng_desk.specs.Causes.{causes}
use Rattle.bng_desk.specs.Counting.{Amounts, Within, added, both, by_number, drops_of, is_cause, is_dropped, no_drops, no_items, of_cause, plus, with_fate}

abbrev pub Row : Type 0
Row = DropCause × List ℕ

abbrev made : List ℕ → Drops
made ns = record { counts = ns }

-- Amounts ---------------------------------------------------------------------------------------------------------------

if_none : (b : Bool) → ◌≡◌ {A = ℕ} (cond b 0 0) 0
if_none true = refl
if_none false = refl

if_both : (b : Bool) (m n : ℕ) → cond b m 0 + cond b n 0 ≡ cond b (m + n) 0
if_both true m n = refl
if_both false m n = refl

if_most : (b : Bool) (n : ℕ) → cond b n 0 ≤ n
if_most true n = omega arith
if_most false n = omega arith

-- no item of a cause is nothing, and some after others are all of them
pub none_of_cause : (cause : DropCause) → of_cause cause 0 ≡ no_items
none_of_cause cause = fun_ext (λ (other : DropCause). if_none (is_cause other cause))

pub more_of_cause : (cause : DropCause) (m n : ℕ) → both (of_cause cause m) (of_cause cause n) ≡ of_cause cause (m + n)
more_of_cause cause m n = fun_ext (λ (other : DropCause). if_both (is_cause other cause) m n)

pub most_of_cause : (cause : DropCause) (n : ℕ) (other : DropCause) → of_cause cause n other ≤ n
most_of_cause cause n other = if_most (is_cause other cause) n

counted : (cause : DropCause) (fates : List Fate) (f : Fate) → count_by (is_dropped cause) (fates ++ f ∷ []) ≡ count_by (is_dropped cause) fates + cond (is_dropped cause f) 1 0
counted cause fates f = omega (arith, sum_by-append (λ (x : Fate). cond (is_dropped cause x) 1 0) fates (f ∷ []))

-- What is added ---------------------------------------------------------------------------------------------------------

none_added : (ns : List ℕ) (cs : List Row) → added ns cs no_items ≡ ns
none_added [] cs = refl
none_added (n ∷ ns) [] = refl
none_added (n ∷ ns) (c ∷ cs) =
    let here : n + 0 ≡ n = omega arith in
    ap (λ (m : ℕ). m ∷ added ns cs no_items) here ∙ ap (λ (ms : List ℕ). n ∷ ms) (none_added ns cs)

added_twice : (ns : List ℕ) (cs : List Row) (a b : Amounts) → added (added ns cs a) cs b ≡ added ns cs (both a b)
added_twice [] cs a b = refl
added_twice (n ∷ ns) [] a b = refl
added_twice (n ∷ ns) (c ∷ cs) a b =
    let here : n + a c.0 + b c.0 ≡ n + (a c.0 + b c.0) = omega arith in
    ap (λ (m : ℕ). m ∷ added (added ns cs a) cs b) here ∙ ap (λ (ms : List ℕ). (n + (a c.0 + b c.0)) ∷ ms) (added_twice ns cs a b)

added_to_none : (cs : List Row) (a : Amounts) → added (map (λ (c : Row). no_items c.0) cs) cs a ≡ map (λ (c : Row). a c.0) cs
added_to_none [] a = refl
added_to_none (c ∷ cs) a =
    let here : 0 + a c.0 ≡ a c.0 = omega arith in
    ap (λ (m : ℕ). m ∷ added (map (λ (x : Row). no_items x.0) cs) cs a) here ∙ ap (λ (ms : List ℕ). a c.0 ∷ ms) (added_to_none cs a)

added_within : (m k : ℕ) (ns : List ℕ) (cs : List Row) (a : Amounts) → ((cause : DropCause) → a cause ≤ k) → ((i d : ℕ) → i < length ns → get_or ns i d ≤ m)
    → (i d : ℕ) → i < length (added ns cs a) → get_or (added ns cs a) i d ≤ m + k
added_within m k [] cs a few w i d lt = absurd (omega arith)
added_within m k (n ∷ ns) [] a few w i d lt = omega (arith, w i d lt)
added_within m k (n ∷ ns) (c ∷ cs) a few w zero d lt = omega (arith, few c.0, w zero d (omega arith))
added_within m k (n ∷ ns) (c ∷ cs) a few w (suc i) d lt = added_within m k ns cs a few (λ j e l. w (suc j) e (omega (arith, l))) i d (omega (arith, lt))

none_within : (m : ℕ) (cs : List Row) (i d : ℕ) → i < length (map (λ (c : Row). no_items c.0) cs) → get_or (map (λ (c : Row). no_items c.0) cs) i d ≤ m
none_within m [] i d lt = absurd (omega arith)
none_within m (c ∷ cs) zero d lt = omega arith
none_within m (c ∷ cs) (suc i) d lt = none_within m cs i d (omega (arith, lt))

-- Causes whose numbers are all higher get nothing. The one of a number gets all.
none_lower : (cause : DropCause) (n : ℕ) (ns : List ℕ) (cs : List Row) (s : ℕ) → number_of cause < s → map (λ (c : Row). number_of c.0) cs ≡ range_with_len s (length cs) → added ns cs (of_cause cause n) ≡ ns
none_lower cause n [] cs s lower numbers = refl
none_lower cause n (m ∷ ns) [] s lower numbers = refl
none_lower cause n (m ∷ ns) (c ∷ cs) s lower numbers =
    let here : number_of c.0 ≡ s = ap (λ (ms : List ℕ). get_or ms 0 0) numbers in
    let other : is_cause c.0 cause ≡ false = ne_eqb (number_of c.0) (number_of cause) (λ same. absurd (omega (arith, same, here, lower))) in
    let nothing : m + of_cause cause n c.0 ≡ m = omega (arith, ap (λ (b : Bool). cond b n 0) other) in
    ap (λ (x : ℕ). x ∷ added ns cs (of_cause cause n)) nothing
    ∙ ap (λ (xs : List ℕ). m ∷ xs) (none_lower cause n ns cs (s + 1) (omega (arith, lower)) (ap (drop 1) numbers))

at_number : (cause : DropCause) (n : ℕ) (ns : List ℕ) (cs : List Row) (s k : ℕ) → number_of cause ≡ s + k → map (λ (c : Row). number_of c.0) cs ≡ range_with_len s (length cs) → k < length ns → k < length cs
    → added ns cs (of_cause cause n) ≡ set ns k (get_or ns k 0 + n)
at_number cause n [] cs s k is numbers within known = absurd (omega arith)
at_number cause n (m ∷ ns) [] s k is numbers within known = absurd (omega arith)
at_number cause n (m ∷ ns) (c ∷ cs) s zero is numbers within known =
    let here : number_of c.0 ≡ s = ap (λ (ms : List ℕ). get_or ms 0 0) numbers in
    let same : is_cause c.0 cause ≡ true = eq-eqb (number_of c.0) (number_of cause) (omega (arith, here, is)) in
    let all : m + of_cause cause n c.0 ≡ m + n = omega (arith, ap (λ (b : Bool). cond b n 0) same) in
    ap (λ (x : ℕ). x ∷ added ns cs (of_cause cause n)) all
    ∙ ap (λ (xs : List ℕ). (m + n) ∷ xs) (none_lower cause n ns cs (s + 1) (omega (arith, is)) (ap (drop 1) numbers))
at_number cause n (m ∷ ns) (c ∷ cs) s (suc k) is numbers within known =
    let here : number_of c.0 ≡ s = ap (λ (ms : List ℕ). get_or ms 0 0) numbers in
    let other : is_cause c.0 cause ≡ false = ne_eqb (number_of c.0) (number_of cause) (λ same. absurd (omega (arith, same, here, is))) in
    let nothing : m + of_cause cause n c.0 ≡ m = omega (arith, ap (λ (b : Bool). cond b n 0) other) in
    ap (λ (x : ℕ). x ∷ added ns cs (of_cause cause n)) nothing
    ∙ ap (λ (xs : List ℕ). m ∷ xs) (at_number cause n ns cs (s + 1) k (omega (arith, is)) (ap (drop 1) numbers) (omega (arith, within)) (omega (arith, known)))

-- the causes stand in the order of their numbers
numbered : map (λ (c : Row). number_of c.0) causes ≡ range_with_len 0 (length causes)
numbered = refl

-- Drops -----------------------------------------------------------------------------------------------------------------

pub plus_none : (d : Drops) → plus d no_items ≡ d
plus_none d = ap made (none_added d.counts causes)

pub plus_plus : (d : Drops) (a b : Amounts) → plus (plus d a) b ≡ plus d (both a b)
plus_plus d a b = ap made (added_twice d.counts causes a b)

pub from_none : (a : Amounts) → (plus no_drops a).counts ≡ by_number a
from_none a = added_to_none causes a

-- the count of a cause stands at its number
pub plus_at : (d : Drops) (cause : DropCause) (n k : ℕ) → k ≡ number_of cause → k < length d.counts → k < length causes → record { counts = set d.counts k (get_or d.counts k 0 + n) } ≡ plus d (of_cause cause n)
plus_at d cause n k is within known = sym (ap made (at_number cause n d.counts causes 0 k (omega (arith, is)) numbered within known))

-- one fate more
at : (d : Drops) (fates : List Fate) (f : Fate) → with_fate (plus d (drops_of fates)) f ≡ plus d (drops_of (fates ++ f ∷ []))
at d fates Forwarded = ap (plus d) (fun_ext (λ (cause : DropCause). omega (arith, counted cause fates Forwarded)))
at d fates Consumed = ap (plus d) (fun_ext (λ (cause : DropCause). omega (arith, counted cause fates Consumed)))
at d fates (Dropped other) =
    plus_plus d (drops_of fates) (of_cause other 1)
    ∙ ap (plus d) (fun_ext (λ (cause : DropCause). sym (counted cause fates (Dropped other))))

-- counted one after the other, the drops are those of the list
pub drops_more : (d e g : Drops) (fates : List Fate) (f : Fate) → e ≡ plus d (drops_of fates) → g ≡ with_fate e f → g ≡ plus d (drops_of (fates ++ f ∷ []))
drops_more d e g fates f so_far here = here ∙ ap (λ (x : Drops). with_fate x f) so_far ∙ at d fates f

pub drops_none : (d : Drops) → d ≡ plus d (drops_of [])
drops_none d = sym (plus_none d)

-- no item was dropped yet
pub within_none : (m : ℕ) → Within m no_drops
within_none m i d lt = none_within m causes i d lt

-- what is within a number is within a higher one
pub within_wider : (m n : ℕ) (d : Drops) → m ≤ n → Within m d → Within n d
within_wider m n d le w i e lt = omega (arith, le, w i e lt)

-- so many items raise no count by more than their number
pub within_plus : (m n k : ℕ) (d e : Drops) (a : Amounts) → m + n ≤ k → ((cause : DropCause) → a cause ≤ n) → Within m d → e ≡ plus d a → Within k e
within_plus m n k d e a le few w is = within_wider (m + n) k e le (subst (λ (x : Drops). Within (m + n) x) (sym is) (added_within m n d.counts causes a few w))

-- one item raises no count by more than one
pub within_more : (n m : ℕ) (d e : Drops) (f : Fate) → n + 1 ≤ m → Within n d → e ≡ with_fate d f → Within m e
within_more n m d e Forwarded le w is = within_wider n m e (omega (arith, le)) (subst (λ (x : Drops). Within n x) (sym is) w)
within_more n m d e Consumed le w is = within_wider n m e (omega (arith, le)) (subst (λ (x : Drops). Within n x) (sym is) w)
within_more n m d e (Dropped cause) le w is = within_plus n 1 m d e (of_cause cause 1) le (most_of_cause cause 1) w is
