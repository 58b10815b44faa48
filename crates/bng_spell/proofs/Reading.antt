-- What is read stands there, and what is not read stands not there.
use Rattle.std.proofs.Common.{◌≡◌, ◌≢◌, ℕ, suc, ◌+◌, ◌<◌, ◌≤◌, ◌==◌, List, [], ◌∷◌, ◌++◌, Bool, true, false, not, cond, Some, None, inl, inr, length, take, drop, refl, sym, ap, subst, ◌∙◌, append_assoc, length-append, length-drop, arith}
use Rattle.std.specs.Prelude.{IsTrue, position, nat_lt}
use Rattle.std.specs.List.{flat_map, prefix_len}
use Rattle.std.proofs.lemmas.Bool.{eqb-true, ltb-true, cases_Bool, cond-true, cond-false}
use Rattle.std.proofs.lemmas.List.{take_at, drop-drop}
use Rattle.bng_base.proofs.PieceLaws.{flat_map-push}
use Rattle.bng_spell.specs.Plain.{is_separator, ArePlain}
use Rattle.bng_spell.specs.Standing.{Stands, Lacks}
use Rattle.bng_spell.specs.Codes.{plain_are_not, position_stop, until_is}

-- one text stands behind another
pub stands_both : (whole : List ℕ) (at mid next : ℕ) (s t : List ℕ) → Stands whole at s mid → Stands whole mid t next → Stands whole at (s ++ t) next
stands_both whole at mid next s t p q = record {
  is = p.is ∙ ap (λ (x : List ℕ). s ++ x) q.is ∙ sym (append_assoc s t (drop next whole));
  within = q.within;
}

pub stands_as : (whole : List ℕ) (at next : ℕ) (s t : List ℕ) → s ≡ t → Stands whole at s next → Stands whole at t next
stands_as whole at next s t e p = subst (λ (x : List ℕ). Stands whole at x next) e p

-- a text that is another's, where that one does not stand
pub lacks_by : {X Y : Type 0} (FX : X → Type 0) (tx : X → List ℕ) (FY : Y → Type 0) (ty : Y → List ℕ) (to : X → Y) (whole : List ℕ) (at : ℕ)
    → ((x : X) → FX x → FY (to x)) → ((x : X) → FX x → tx x ≡ ty (to x)) → Lacks FY ty whole at → Lacks FX tx whole at
lacks_by FX tx FY ty to whole at fits same lacks x rest fx e = lacks (to x) rest (fits x fx) (e ∙ ap (λ (t : List ℕ). t ++ rest) (same x fx))

-- where the first part does not stand, the whole does not
pub lacks_first : {X A : Type 0} (FX : X → Type 0) (tx : X → List ℕ) (FA : A → Type 0) (ta : A → List ℕ) (to : X → A) (more : X → List ℕ) (whole : List ℕ) (at : ℕ)
    → ((x : X) → FX x → FA (to x)) → ((x : X) → FX x → tx x ≡ ta (to x) ++ more x) → Lacks FA ta whole at → Lacks FX tx whole at
lacks_first FX tx FA ta to more whole at fits same lacks x rest fx e =
    lacks (to x) (more x ++ rest) (fits x fx) (e ∙ ap (λ (t : List ℕ). t ++ rest) (same x fx) ∙ append_assoc (ta (to x)) (more x) rest)

-- where the first part stands and the second does not, the pair does not
pub lacks_second : {A B : Type 0} (FA : A → Type 0) (ta : A → List ℕ) (FB : B → Type 0) (tb : B → List ℕ) (whole : List ℕ) (at mid : ℕ) (a : A)
    → ((v w : A) (x y : List ℕ) → FA v → FA w → ta v ++ x ≡ ta w ++ y → (v ≡ w) × (x ≡ y)) → FA a → Stands whole at (ta a) mid → Lacks FB tb whole mid
    → (p : A × B) (rest : List ℕ) → FA p.0 × FB p.1 → drop at whole ≢ (ta p.0 ++ tb p.1) ++ rest
lacks_second FA ta FB tb whole at mid a once fa stands lacks p rest f e =
    let r = once a p.0 (drop mid whole) (tb p.1 ++ rest) fa f.0 (sym stands.is ∙ e ∙ append_assoc (ta p.0) (tb p.1) rest) in
    lacks p.1 rest f.1 r.1

none_some : (n : ℕ) → None ≡ Some n → ⊥
none_some n e = cc

some_same : (m n : ℕ) → Some m ≡ Some n → m ≡ n
some_same m n e = cc

-- no separator is there, so no field is
pub until_no_stop : {V : Type 0} (FV : V → Type 0) (name : V → List ℕ) (stop : ℕ) → ((v : V) → FV v → ArePlain (name v)) → (d : List ℕ) → None ≡ position (λ (c : ℕ). c == stop) d
    → (v : V) (rest : List ℕ) → IsTrue (is_separator stop) → FV v → d ≢ (name v ++ stop ∷ []) ++ rest
until_no_stop FV name stop plain d none v rest s f e =
    none_some (length (name v))
    (none ∙ ap (position (λ (c : ℕ). c == stop)) (e ∙ until_is stop (name v) rest) ∙ position_stop stop (name v) rest (plain_are_not stop (name v) s (plain v f)))

-- what stands before the first separator is no field
pub until_no_value : {V : Type 0} (FV : V → Type 0) (name : V → List ℕ) (stop : ℕ) → ((v : V) → FV v → ArePlain (name v)) → (d : List ℕ) (n : ℕ) → Some n ≡ position (λ (c : ℕ). c == stop) d
    → ((v : V) → FV v → take n d ≢ name v) → (v : V) (rest : List ℕ) → IsTrue (is_separator stop) → FV v → d ≢ (name v ++ stop ∷ []) ++ rest
until_no_value FV name stop plain d n some never v rest s f e =
    let parted = e ∙ until_is stop (name v) rest in
    let at = some_same n (length (name v)) (some ∙ ap (position (λ (c : ℕ). c == stop)) parted ∙ position_stop stop (name v) rest (plain_are_not stop (name v) s (plain v f))) in
    never v f (ap (take n) parted ∙ take_at (name v) (stop ∷ rest) n (sym at))

-- the octets up to the first of one, and that one
abbrev Parts : ℕ → ℕ → List ℕ → Type 0
Parts stop n xs = xs ≡ take n xs ++ stop ∷ drop (suc n) xs

more_parts : (stop c n : ℕ) (xs : List ℕ) → Parts stop n xs → Parts stop (suc n) (c ∷ xs)
more_parts stop c n xs e = ap (λ (t : List ℕ). c ∷ t) e

parts_at : (stop c : ℕ) (xs : List ℕ) (b : Bool) → (b ≡ true → c ≡ stop) → (b ≡ false → prefix_len (λ (d : ℕ). not (d == stop)) xs < length xs → Parts stop (prefix_len (λ (d : ℕ). not (d == stop)) xs) xs)
    → cond (not b) (1 + prefix_len (λ (d : ℕ). not (d == stop)) xs) 0 < suc (length xs) → Parts stop (cond (not b) (1 + prefix_len (λ (d : ℕ). not (d == stop)) xs) 0) (c ∷ xs)
parts_at stop c xs true here later h = ap (λ (d : ℕ). d ∷ xs) (here refl)
parts_at stop c xs false here later h =
    let n = prefix_len (λ (d : ℕ). not (d == stop)) xs in
    let e : 1 + n ≡ suc n = omega arith in
    subst (λ (m : ℕ). Parts stop m (c ∷ xs)) (sym e) (more_parts stop c n xs (later refl (omega (arith, h))))

front_split : (stop : ℕ) (xs : List ℕ) → prefix_len (λ (c : ℕ). not (c == stop)) xs < length xs → Parts stop (prefix_len (λ (c : ℕ). not (c == stop)) xs) xs
front_split stop [] h = absurd (omega arith)
front_split stop (c ∷ xs) h = parts_at stop c xs (c == stop) (eqb-true c stop) (λ _. front_split stop xs) h

position_parts : (L m n : ℕ) → Some n ≡ cond (nat_lt L m) (Some L) None → (n ≡ L) × (L < m)
position_parts L m n e = elim (cases_Bool (nat_lt L m)) [
  | inl t ↦ (some_same n L (e ∙ cond-true (nat_lt L m) (Some L) None t), ltb-true L m t)
  | inr f ↦ absurd (none_some n (sym (e ∙ cond-false (nat_lt L m) (Some L) None f)))
]

-- a field stands up to the first separator
pub until_found : (stop : ℕ) (name whole : List ℕ) (at n : ℕ) → at ≤ length whole → Some n ≡ position (λ (c : ℕ). c == stop) (drop at whole) → take n (drop at whole) ≡ name
    → Stands whole at (name ++ stop ∷ []) (at + n + 1)
until_found stop name whole at n h some e =
    let d = drop at whole in
    let L = prefix_len (λ (c : ℕ). not (c == stop)) d in
    let p = position_parts L (length d) n some in
    let split : Parts stop n d = subst (λ (m : ℕ). Parts stop m d) (sym p.0) (front_split stop d p.1) in
    let behind : drop (suc n) d ≡ drop (at + n + 1) whole = drop-drop (suc n) at whole ∙ ap (λ (m : ℕ). drop m whole) (sum_is at n) in
    record {
      is = split ∙ ap (λ (x : List ℕ). x ++ stop ∷ drop (suc n) d) e ∙ ap (λ (x : List ℕ). name ++ stop ∷ x) behind ∙ sym (until_is stop name (drop (at + n + 1) whole));
      within = let l = p.1 in let s = p.0 in omega (arith, l, s, length-drop at whole);
    }
  where
    sum_is : (a m : ℕ) → a + suc m ≡ a + m + 1
    sum_is a m = omega arith

-- a word with which the rest begins stands there
pub literal_found : (whole word rest : List ℕ) (at : ℕ) → at ≤ length whole → rest ≡ drop at whole → length word ≤ length rest → rest ≡ word ++ drop (length word) rest → Stands whole at word (at + length word)
literal_found whole word rest at h is l e = record {
  is = sym is ∙ e ∙ ap (λ (x : List ℕ). word ++ drop (length word) x) is ∙ ap (λ (x : List ℕ). word ++ x) (drop-drop (length word) at whole);
  within = omega (arith, l, ap length is, length-drop at whole);
}

-- how far a text reaches
pub stands_on : (whole text : List ℕ) (at next : ℕ) → at ≤ length whole → Stands whole at text next → next ≡ at + length text
stands_on whole text at next h s =
    let within = s.within in
    omega (arith, h, within, ap length s.is, length-drop at whole, length-drop next whole, length-append text (drop next whole))

-- no line was read yet
pub lines_none : {X : Type 0} (text : X → List ℕ) (whole : List ℕ) (at : ℕ) → at ≤ length whole → Stands whole at (flat_map text []) at
lines_none text whole at h = record { is = refl; within = h }

-- one more line was read
pub lines_more : {X : Type 0} (Fits : X → Type 0) (text : X → List ℕ) (whole : List ℕ) (at mid next : ℕ) (lines : List X) (x : X) → Stands whole at (flat_map text lines) mid → Stands whole mid (text x) next
    → Stands whole at (flat_map text (lines ++ x ∷ [])) next
lines_more Fits text whole at mid next lines x p q = record {
  is = p.is ∙ ap (λ (t : List ℕ). flat_map text lines ++ t) q.is ∙ sym (flat_map-push Fits text lines x (drop next whole));
  within = q.within;
}
