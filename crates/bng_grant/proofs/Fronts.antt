-- The Class attributes that are kept: the longest front of them that has room.
use Rattle.std.proofs.Common.{◌≡◌, ℕ, zero, suc, ◌+◌, ◌<◌, ◌≤◌, ◌⊎◌, inl, inr, Bool, true, false, ◌&&◌, cond, List, [], ◌∷◌, ◌++◌, length, take, drop, get_or, refl, sym, ap, subst, ◌∙◌, arith, length-append}
use Rattle.std.specs.Prelude.{filter, nat_lt, nat_le}
use Rattle.std.specs.List.{AllByRecursion}
use Rattle.std.proofs.lemmas.Bool.{cases_lt, and_cases, eqb-true, ltb-false, leb-false}
use Rattle.std.proofs.lemmas.List.{take_at, take_all}
use Rattle.std.proofs.lemmas.List.Elements.{filter-append}
use Rattle.bng_radius_wire.specs.declared.views.Attribute.{Attribute}
use Rattle.bng_radius_wire.specs.Attributes.{Field, Fits, field, fields}
use Rattle.bng_radius_wire.specs.Grammar.{attributes_text}
use Rattle.bng_grant.specs.Classes.{is_class, classes, HaveRoom, IsMost, AreKept, IsClass, AreClasses}

-- what stands behind an attribute is in no front without it
longer : (before : List Field) (f : Field) (after : List Field) (n : ℕ) → length before < n → length before < length (take n (before ++ f ∷ after))
longer [] f after zero lt = absurd (omega arith)
longer [] f after (suc n) lt = omega arith
longer (b ∷ before) f after zero lt = absurd (omega arith)
longer (b ∷ before) f after (suc n) lt = omega (arith, longer before f after n (omega arith))

heavier : (before : List Field) (f : Field) (after : List Field) (n : ℕ) → length before < n
    → length (attributes_text before) + (2 + length f.value) ≤ length (attributes_text (take n (before ++ f ∷ after)))
heavier [] f after zero lt = absurd (omega arith)
heavier [] f after (suc n) lt = omega (arith, length-append f.value (attributes_text (take n after)))
heavier (b ∷ before) f after zero lt = absurd (omega arith)
heavier (b ∷ before) f after (suc n) lt =
    omega (
      arith,
      heavier before f after n (omega arith),
      length-append b.value (attributes_text before),
      length-append b.value (attributes_text (take n (before ++ f ∷ after))),
    )

-- no room for one more
abbrev pub IsFull : List Field → Field → Type 0
IsFull fs f = (32 ≤ length fs) ⊎ (512 < length (attributes_text fs) + (2 + length f.value))

too_many : (before : List Field) (f : Field) (after : List Field) (n : ℕ) → IsFull before f → length before < n → HaveRoom (take n (before ++ f ∷ after)) → ⊥
too_many before f after n (inl many) lt room = omega (arith, many, room.few, longer before f after n lt)
too_many before f after n (inr large) lt room = omega (arith, large, room.short, heavier before f after n lt)

front_is_most : (before : List Field) (f : Field) (after : List Field) → HaveRoom before → IsFull before f → IsMost (length before) (before ++ f ∷ after)
front_is_most before f after room full = record {
  there = omega (arith, length-append before (f ∷ after));
  room = subst HaveRoom (sym (take_at before (f ∷ after) (length before) refl)) room;
  longest = λ n there fits.
      let split = cases_lt (length before) n in
      elim split [ inl lt ↦ absurd (too_many before f after n full lt fits) | inr le ↦ le ];
}

pub full_of : (fs : List Field) (f : Field) (count octets : ℕ) → count ≡ length fs → octets ≡ length (attributes_text fs) → (nat_lt count 32 && nat_le (octets + (2 + length f.value)) 512) ≡ false → IsFull fs f
full_of fs f count octets counted sized full =
    let split = and_cases (nat_lt count 32) (nat_le (octets + (2 + length f.value)) 512) full in
    elim split [ inl many ↦ inl (let m = ltb-false count 32 many in omega arith) | inr large ↦ inr (let l = leb-false (octets + (2 + length f.value)) 512 large in omega arith) ]

-- the first Class that has no room ends them
pub ends_at : (fs before after : List Field) (f : Field) → fs ≡ before ++ f ∷ after → is_class f ≡ true → HaveRoom (classes before) → IsFull (classes before) f
    → AreKept fs (attributes_text (classes before))
ends_at fs before after f are is room full =
    let split : classes fs ≡ classes before ++ f ∷ classes after =
    ap classes are ∙ filter-append is_class before (f ∷ after) ∙ ap (λ (b : Bool). classes before ++ cond b (f ∷ classes after) (classes after)) is in
    record {
      count = length (classes before);
      most = subst (IsMost (length (classes before))) (sym split) (front_is_most (classes before) f (classes after) room full);
      whole = ap attributes_text (sym (ap (take (length (classes before))) split ∙ take_at (classes before) (f ∷ classes after) (length (classes before)) refl));
    }

-- where each has room, all are kept
pub all_kept : (fs : List Field) → HaveRoom (classes fs) → AreKept fs (attributes_text (classes fs))
all_kept fs room = let all = take_all (length (classes fs)) (classes fs) (omega arith) in
    record {
      count = length (classes fs);
      most = record { there = omega arith; room = subst HaveRoom (sym all) room; longest = λ n there fits. there };
      whole = ap attributes_text (sym all);
    }

module _ {X : Type 0} (P : X → Type 0) where
  taken : (n : ℕ) (xs : List X) → AllByRecursion P xs → AllByRecursion P (take n xs)
  taken zero xs all = tt
  taken (suc n) [] all = tt
  taken (suc n) (x ∷ xs) all = (all.0, taken n xs all.1)

  filtered_cons : (b : Bool) (x : X) (xs : List X) → P x → AllByRecursion P xs → AllByRecursion P (cond b (x ∷ xs) xs)
  filtered_cons true x xs here rest = (here, rest)
  filtered_cons false x xs here rest = rest

  filtered : (p : X → Bool) (xs : List X) → AllByRecursion P xs → AllByRecursion P (filter p xs)
  filtered p [] all = tt
  filtered p (x ∷ xs) all = filtered_cons (p x) x (filter p xs) all.0 (filtered p xs all.1)

class_cons : (b : Bool) (f : Field) (fs : List Field) → is_class f ≡ b → AllByRecursion IsClass fs → AllByRecursion IsClass (cond b (f ∷ fs) fs)
class_cons true f fs is rest = (eqb-true f.kind 25 is, rest)
class_cons false f fs is rest = rest

all_classes : (fs : List Field) → AllByRecursion IsClass (classes fs)
all_classes [] = tt
all_classes (f ∷ fs) = class_cons (is_class f) f (classes fs) refl (all_classes fs)

-- the attributes before a place, the one there, and those behind it
pub fields_at : (list : List Attribute) (i : ℕ) (d : Attribute) → i < length list → fields list ≡ fields (take i list) ++ field (get_or list i d) ∷ fields (drop (suc i) list)
fields_at [] i d lt = absurd (omega arith)
fields_at (a ∷ list) zero d lt = refl
fields_at (a ∷ list) (suc i) d lt = ap (λ (r : List Field). field a ∷ r) (fields_at list i d (omega arith))

pub field_fits : (list : List Attribute) (i : ℕ) (d : Attribute) → AllByRecursion Fits (fields list) → i < length list → Fits (field (get_or list i d))
field_fits [] i d all lt = absurd (omega arith)
field_fits (a ∷ list) zero d all lt = all.0
field_fits (a ∷ list) (suc i) d all lt = field_fits list i d all.1 (omega arith)

-- what is kept is whole Class attributes
pub kept_are_classes : (fs : List Field) (octets : List ℕ) → AllByRecursion Fits fs → AreKept fs octets → (cs : List Field) × AreClasses cs octets
kept_are_classes fs octets fit kept = (
  take kept.count (classes fs),
  record {
    whole = record { fit = taken Fits kept.count (classes fs) (filtered Fits is_class fs fit); spelled = kept.whole };
    classes_all = taken IsClass kept.count (classes fs) (all_classes fs);
    few = kept.most.room.few;
  },
)
