-- What a reply repeats is no more than what its request has.
use Rattle.std.proofs.Common.{◌≡◌, ℕ, ◌+◌, ◌≤◌, Bool, true, false, cond, ◌||◌, eqb, List, [], ◌∷◌, ◌++◌, length, Option, Some, refl, sym, ap, subst, arith, length-append}
use Rattle.std.specs.Prelude.{filter, find, option_to_list}
use Rattle.std.specs.List.{AllByRecursion}
use Rattle.std.proofs.lemmas.Bool.Decides.{Decides-eqb}
use Rattle.bng_radius_wire.specs.Attributes.{Field, text}
use Rattle.bng_radius_wire.specs.Grammar.{Packet, attributes_text}
use Rattle.bng_radius_wire.specs.Digests.{zeros, HasRoom}
use Rattle.bng_coa.specs.Kinds.{has_kind, has_some}
use Rattle.bng_coa.specs.Replies.{state_of, repeated, signature}

module _ (w : Field → ℕ) where
  -- the weights of attributes together
  abbrev pub weight : List Field → ℕ
  weight [] = 0
  weight (f ∷ fs) = w f + weight fs

  pub weight-append : (fs gs : List Field) → weight (fs ++ gs) ≡ weight fs + weight gs
  weight-append [] gs = omega arith
  weight-append (f ∷ fs) gs = omega (arith, weight-append fs gs)

  -- a Message-Authenticator weighs what one with zeros does
  abbrev pub Weighs : Field → Type 0
  Weighs f = f.kind ≡ 80 → w f ≡ w (record { kind = 80; value = zeros })

  abbrev parts : List Field → ℕ
  parts fs = weight (filter (has_kind 33) fs) + weight (option_to_list (find (has_kind 24) fs)) + weight (signature (has_some 80 fs))

  unfoldable AtHead : ℕ → List ℕ → List Field → Type 0
  AtHead kind value fs = parts (record { kind = kind; value = value } ∷ fs) ≤ w (record { kind = kind; value = value }) + weight fs

  at_33 : (value : List ℕ) (fs : List Field) → parts fs ≤ weight fs → AtHead 33 value fs
  unfolding AtHead
  at_33 value fs le = omega (arith, le)

  at_24 : (value : List ℕ) (fs : List Field) → parts fs ≤ weight fs → AtHead 24 value fs
  unfolding AtHead
  at_24 value fs le = omega (arith, le)

  at_80 : (value : List ℕ) (fs : List Field) → Weighs (record { kind = 80; value = value }) → parts fs ≤ weight fs → AtHead 80 value fs
  unfolding AtHead
  at_80 value fs same le = omega (arith, le, same refl)

  at_other : (kind : ℕ) (value : List ℕ) (fs : List Field) → eqb kind 33 ≡ false → eqb kind 24 ≡ false → eqb kind 80 ≡ false → parts fs ≤ weight fs → AtHead kind value fs
  unfolding AtHead
  at_other kind value fs a b c le =
      let f : Field = record { kind = kind; value = value } in
      omega (
        arith,
        le,
        ap (λ (t : Bool). weight (cond t (f ∷ filter (has_kind 33) fs) (filter (has_kind 33) fs))) a,
        ap (λ (t : Bool). weight (option_to_list (cond t (Some f) (find (has_kind 24) fs)))) b,
        ap (λ (t : Bool). weight (signature (t || has_some 80 fs))) c,
      )

  at_head : (kind : ℕ) (value : List ℕ) (fs : List Field) → Weighs (record { kind = kind; value = value }) → parts fs ≤ weight fs → AtHead kind value fs
  at_head kind value fs same le = by_33 (eqb kind 33) refl
    where
      by_80 : (t : Bool) → eqb kind 80 ≡ t → eqb kind 33 ≡ false → eqb kind 24 ≡ false → AtHead kind value fs
      by_80 true e a b =
          let is : kind ≡ 80 = (Decides-eqb kind 80).0 e in
          subst (λ (k : ℕ). AtHead k value fs) (sym is) (at_80 value fs (subst (λ (k : ℕ). Weighs (record { kind = k; value = value })) is same) le)
      by_80 false e a b = at_other kind value fs a b e le

      by_24 : (t : Bool) → eqb kind 24 ≡ t → eqb kind 33 ≡ false → AtHead kind value fs
      by_24 true e a = subst (λ (k : ℕ). AtHead k value fs) (sym ((Decides-eqb kind 24).0 e)) (at_24 value fs le)
      by_24 false e a = by_80 (eqb kind 80) refl a e

      by_33 : (t : Bool) → eqb kind 33 ≡ t → AtHead kind value fs
      by_33 true e = subst (λ (k : ℕ). AtHead k value fs) (sym ((Decides-eqb kind 33).0 e)) (at_33 value fs le)
      by_33 false e = by_24 (eqb kind 24) refl e

  pub no_more : (fs : List Field) → AllByRecursion Weighs fs → parts fs ≤ weight fs
  unfolding AtHead
  no_more [] all = omega arith
  no_more (f ∷ fs) all = at_head f.kind f.value fs all.0 (no_more fs all.1)

  state_most : (t : Bool) (o : Option Field) → weight (cond t (option_to_list o) []) ≤ weight (option_to_list o)
  state_most true o = omega arith
  state_most false o = omega arith

  pub repeats_less : (p : Packet) → AllByRecursion Weighs p.attributes → weight (repeated p) + weight (signature (has_some 80 p.attributes)) ≤ weight p.attributes
  repeats_less p all =
      omega (arith, no_more p.attributes all, weight-append (filter (has_kind 33) p.attributes) (state_of p), state_most (eqb p.code 43) (find (has_kind 24) p.attributes))

abbrev pub each_one : Field → ℕ
each_one f = 1

abbrev pub size : Field → ℕ
size f = length (text f)

pub weight-one : (fs : List Field) → weight each_one fs ≡ length fs
weight-one [] = refl
weight-one (f ∷ fs) = omega (arith, weight-one fs)

pub weight-size : (fs : List Field) → weight size fs ≡ length (attributes_text fs)
weight-size [] = refl
weight-size (f ∷ fs) = omega (arith, weight-size fs, length-append (text f) (attributes_text fs))

all_ones : (fs : List Field) → AllByRecursion (Weighs each_one) fs
all_ones [] = tt
all_ones (f ∷ fs) = (λ _. refl, all_ones fs)

all_sized : (fs : List Field) → AllByRecursion HasRoom fs → AllByRecursion (Weighs size) fs
all_sized [] room = tt
all_sized (f ∷ fs) room = (λ is. let e : length f.value ≡ 16 = room.0 is in omega (arith, e), all_sized fs room.1)

-- the reply without an Error-Cause has no more attributes and octets than the request
pub repeats_fewer : (p : Packet) → length (repeated p) + length (signature (has_some 80 p.attributes)) ≤ length p.attributes
repeats_fewer p =
    omega (arith, repeats_less each_one p (all_ones p.attributes), weight-one (repeated p), weight-one (signature (has_some 80 p.attributes)), weight-one p.attributes)

pub repeats_shorter : (p : Packet) → AllByRecursion HasRoom p.attributes
    → length (attributes_text (repeated p)) + length (attributes_text (signature (has_some 80 p.attributes))) ≤ length (attributes_text p.attributes)
repeats_shorter p room =
    omega (arith, repeats_less size p (all_sized p.attributes room), weight-size (repeated p), weight-size (signature (has_some 80 p.attributes)), weight-size p.attributes)

-- a State beside the Proxy-States of a request
pub state_beside : (fs : List Field) (f : Field) → find (has_kind 24) fs ≡ Some f → length (filter (has_kind 33) fs) + 1 ≤ length fs
state_beside fs f is =
    omega (arith, no_more each_one fs (all_ones fs), weight-one (filter (has_kind 33) fs), weight-one fs, ap (λ (o : Option Field). weight each_one (option_to_list o)) is)
