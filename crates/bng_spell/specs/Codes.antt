-- Texts that are read in one way: a field up to its separator, one text behind another.
use Rattle.std.proofs.Common.{◌≡◌, ◌≢◌, ℕ, suc, ◌<◌, ◌==◌, List, [], ◌∷◌, ◌++◌, Bool, true, false, not, Some, length, refl, sym, subst, ◌∙◌, append_assoc, length-append, arith}
use Rattle.std.specs.Prelude.{IsTrue, position}
use Rattle.std.specs.List.{AllByRecursion, list_all, prefix_len}
use Rattle.std.proofs.lemmas.Bool.{eq-eqb, ne_eqb, and_parts, and_from, lt-ltb}
use Rattle.bng_spell.specs.Plain.{is_plain, is_separator, ArePlain}

head_same : (a b : ℕ) (xs ys : List ℕ) → a ∷ xs ≡ b ∷ ys → a ≡ b
head_same a b xs ys e = cc

tail_same : (a b : ℕ) (xs ys : List ℕ) → a ∷ xs ≡ b ∷ ys → xs ≡ ys
tail_same a b xs ys e = cc

more_same : (a b : ℕ) (xs ys : List ℕ) → a ≡ b → xs ≡ ys → a ∷ xs ≡ b ∷ ys
more_same a b xs ys e h = cc

-- no octet of a field is this one
abbrev pub AreNot : ℕ → List ℕ → Type 0
AreNot stop field = AllByRecursion (λ (c : ℕ). c ≢ stop) field

-- two fields up to the first of a separator are the same, and so is what follows
stop_once : (stop : ℕ) (f g x y : List ℕ) → AreNot stop f → AreNot stop g → f ++ stop ∷ x ≡ g ++ stop ∷ y → (f ≡ g) × (x ≡ y)
stop_once stop [] [] x y p q e = (refl, tail_same stop stop x y e)
stop_once stop [] (c ∷ g) x y p q e = absurd (q.0 (sym (head_same stop c x (g ++ stop ∷ y) e)))
stop_once stop (c ∷ f) [] x y p q e = absurd (p.0 (head_same c stop (f ++ stop ∷ x) y e))
stop_once stop (c ∷ f) (d ∷ g) x y p q e =
    let rest = stop_once stop f g x y p.1 q.1 (tail_same c d (f ++ stop ∷ x) (g ++ stop ∷ y) e) in
    (more_same c d f g (head_same c d (f ++ stop ∷ x) (g ++ stop ∷ y) e) rest.0, rest.1)

not_both : (b : Bool) → b ≡ true → not b ≡ true → ⊥
not_both true p q = cc
not_both false p q = cc

-- a separator stands in no field
pub plain_are_not : (stop : ℕ) (f : List ℕ) → IsTrue (is_separator stop) → ArePlain f → AreNot stop f
plain_are_not stop [] s p = tt
plain_are_not stop (c ∷ f) s p =
    let parts = and_parts (is_plain c) (list_all is_plain f) p in
    (λ e. not_both (is_separator c) (subst (λ (x : ℕ). is_separator x ≡ true) (sym e) s) parts.0, plain_are_not stop f s parts.1)

-- a field with its separator, and then the rest
pub until_is : (stop : ℕ) (f x : List ℕ) → (f ++ stop ∷ []) ++ x ≡ f ++ stop ∷ x
until_is stop f x = append_assoc f (stop ∷ []) x

pub until_once : (stop : ℕ) (f g x y : List ℕ) → IsTrue (is_separator stop) → ArePlain f → ArePlain g → (f ++ stop ∷ []) ++ x ≡ (g ++ stop ∷ []) ++ y → (f ≡ g) × (x ≡ y)
until_once stop f g x y s p q e =
    stop_once stop f g x y (plain_are_not stop f s p) (plain_are_not stop g s q) (sym (until_is stop f x) ∙ e ∙ until_is stop g y)

-- one text behind another
pub pair_once : {A B : Type 0} (FA : A → Type 0) (ta : A → List ℕ) (FB : B → Type 0) (tb : B → List ℕ)
    → ((v w : A) (x y : List ℕ) → FA v → FA w → ta v ++ x ≡ ta w ++ y → (v ≡ w) × (x ≡ y))
    → ((v w : B) (x y : List ℕ) → FB v → FB w → tb v ++ x ≡ tb w ++ y → (v ≡ w) × (x ≡ y))
    → (a c : A) (b d : B) (x y : List ℕ) → FA a → FA c → FB b → FB d → (ta a ++ tb b) ++ x ≡ (ta c ++ tb d) ++ y → (a ≡ c) × ((b ≡ d) × (x ≡ y))
pair_once FA ta FB tb sa sb a c b d x y fa fc fb fd e =
    let one = sa a c (tb b ++ x) (tb d ++ y) fa fc (sym (append_assoc (ta a) (tb b) x) ∙ e ∙ append_assoc (ta c) (tb d) y) in
    let two = sb b d x y fb fd one.1 in
    (one.0, (two.0, two.1))

front_len : (stop : ℕ) (f x : List ℕ) → AreNot stop f → prefix_len (λ (c : ℕ). not (c == stop)) (f ++ stop ∷ x) ≡ length f
front_len stop [] x p = rw (eq-eqb stop stop refl) refl
front_len stop (c ∷ f) x p = rw (ne_eqb c stop p.0, front_len stop f x p.1) (omega arith)

-- the first separator stands behind the field
pub position_stop : (stop : ℕ) (f x : List ℕ) → AreNot stop f → position (λ (c : ℕ). c == stop) (f ++ stop ∷ x) ≡ Some (length f)
position_stop stop f x p =
    let e = front_len stop f x p in
    let l : length f < length (f ++ stop ∷ x) = omega (arith, length-append f (stop ∷ x)) in
    rw (e, lt-ltb (length f) (length (f ++ stop ∷ x)) l) refl

pub plain_append : (xs ys : List ℕ) → ArePlain xs → ArePlain ys → ArePlain (xs ++ ys)
plain_append [] ys p q = q
plain_append (x ∷ xs) ys p q =
    let parts = and_parts (is_plain x) (list_all is_plain xs) p in
    and_from (is_plain x) (list_all is_plain (xs ++ ys)) parts.0 (plain_append xs ys parts.1 q)

pub some_suc : (n : ℕ) → 0 < suc n
some_suc n = omega arith

pub some_push : (f : List ℕ) (c : ℕ) → 0 < length (f ++ c ∷ [])
some_push f c = omega (arith, length-append f (c ∷ []))
