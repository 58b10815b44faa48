-- A frame is put where it belongs, and a frame is taken out.
use Rattle.std.proofs.Common.{◌≡◌, ℕ, zero, suc, ◌+◌, ◌-◌, ◌^◌, ◌<◌, ◌≤◌, ◌==◌, ◌&&◌, ◌||◌, ◌⊎◌, inl, inr, Bool, true, false, not, cond, min, List, [], ◌∷◌, ◌++◌, Option, Some, None, refl, sym, ap, ap₂, subst, ◌∙◌, append-nil, length, length-append, set, map, get_or, filter, nat_le, arith}
use Rattle.std.specs.List.{slice_get, list_any, count_by}
use Rattle.std.specs.Option.{unwrap_or}
use Rattle.std.proofs.lemmas.Bool.Decides.{nat_tests}
use Rattle.std.proofs.lemmas.Bool.{cases_eq, cases_lt, eqb-true}
use Rattle.bng_vlan.specs.declared.map.VlanEntry.{VlanEntry}
use Rattle.bng_vlan.specs.declared.tag.Tags.{Tags}
use Rattle.bng_vlan.specs.Tags.{tags_of, without, width_of, vlan_at, has_pair, has_one, has_type}
use Rattle.bng_vlan.specs.Map.{Trunks, IsMap, tags_in}
use Rattle.bng_vlan.specs.Frames.{Came, has_tags, same_inner, is_of, is_whole, is_stray, frames_of}
use Rattle.bng_vlan.specs.Waiting.{Waiting, AreFew, Holds, IsHeldAt, Keeps, Gives, counted, frames_at}
use Rattle.bng_vlan.proofs.Lists.{any_none, any_some, get_at, get_below, by_test}

-- both parts of a test
and_left : (a b : Bool) → (a && b) ≡ true → a ≡ true
and_left true b e = refl
and_left false b e = absurd cc

and_right : (a b : Bool) → (a && b) ≡ true → b ≡ true
and_right true b e = e
and_right false b e = absurd cc

pub frames_at_same : (place : ℕ) (queues : List (List (List ℕ))) (q : List (List ℕ)) → place < length queues → frames_at place (set queues place q) ≡ q
frames_at_same place [] q below = absurd (omega arith)
frames_at_same zero (x ∷ queues) q below = refl
frames_at_same (suc place) (x ∷ queues) q below = frames_at_same place queues q (omega arith)

pub frames_at_other : (i place : ℕ) (queues : List (List (List ℕ))) (q : List (List ℕ)) → (i ≡ place → ⊥) → frames_at i (set queues place q) ≡ frames_at i queues
frames_at_other i place [] q other = refl
frames_at_other zero zero (x ∷ queues) q other = absurd (other refl)
frames_at_other zero (suc place) (x ∷ queues) q other = refl
frames_at_other (suc i) zero (x ∷ queues) q other = refl
frames_at_other (suc i) (suc place) (x ∷ queues) q other = frames_at_other i place queues q (λ same. other (ap suc same))

-- tags are equal where both inner ones are, or are not there
inner_same : (a b : Option ℕ) → same_inner a b ≡ true → a ≡ b
inner_same None None e = refl
inner_same None (Some b) e = absurd cc
inner_same (Some a) None e = absurd cc
inner_same (Some a) (Some b) e = ap Some (eqb-true a b e)

its_tags : (d : VlanEntry) (tags : Option Tags) → has_tags d tags ≡ true → tags ≡ Some (tags_in d)
its_tags d None e = absurd cc
its_tags d (Some t) e =
    let outer : d.outer ≡ t.outer = eqb-true d.outer t.outer (and_left (d.outer == t.outer) (same_inner d.inner t.inner) e) in
    let inner : d.inner ≡ t.inner = inner_same d.inner t.inner (and_right (d.outer == t.outer) (same_inner d.inner t.inner) e) in
    ap₂ (λ (o : ℕ) (i : Option ℕ). let x : Option Tags = Some (record { outer = o; inner = i }) in x) (sym outer) (sym inner)

module _ (m : Trunks) (c : Came) where
  of_trunk : (d : VlanEntry) → is_of m c d ≡ true → d.trunk ≡ c.trunk
  of_trunk d e = eqb-true d.trunk c.trunk (and_left (d.trunk == c.trunk) (has_tags d (tags_of c.octets)) (and_right (is_whole m c) ((d.trunk == c.trunk) && has_tags d (tags_of c.octets)) e))

  with_tags : (d : VlanEntry) → is_of m c d ≡ true → tags_of c.octets ≡ Some (tags_in d)
  with_tags d e = its_tags d (tags_of c.octets) (and_right (d.trunk == c.trunk) (has_tags d (tags_of c.octets)) (and_right (is_whole m c) ((d.trunk == c.trunk) && has_tags d (tags_of c.octets)) e))

  -- a frame is one entry's at most
  pub one_owner : IsMap m → (i j : ℕ) (d e : VlanEntry) → slice_get m.entries i ≡ Some d → slice_get m.entries j ≡ Some e → is_of m c d ≡ true → is_of m c e ≡ true → i ≡ j
  one_owner sound i j d e at there of_d of_e =
      let both : Some (tags_in d) ≡ Some (tags_in e) = sym (with_tags d of_d) ∙ with_tags e of_e in
      let same : tags_in d ≡ tags_in e = cc in
      sound.tags i j d e at there (of_trunk d of_d ∙ sym (of_trunk e of_e)) same

  pub frames_yes : (d : VlanEntry) → is_of m c d ≡ true → frames_of m d (c ∷ []) ≡ without d.inner c.octets ∷ []
  frames_yes d yes' = ap (λ b. map (λ (x : Came). without d.inner x.octets) (cond b (c ∷ []) [])) yes'

  pub frames_no : (d : VlanEntry) → is_of m c d ≡ false → frames_of m d (c ∷ []) ≡ []
  frames_no d no' = ap (λ b. map (λ (x : Came). without d.inner x.octets) (cond b (c ∷ []) [])) no'

  -- a stray is counted
  counts_none : (n : ℕ) → n ≡ counted n 0
  counts_none n = omega arith

  stray_count : (b : Bool) → list_any (is_of m c) m.entries ≡ b → count_by (is_stray m) (c ∷ []) ≡ cond (not b) 1 0
  stray_count b e = ap (λ a. 0 + cond (not a) 1 0) e ∙ zero_more (cond (not b) 1 0)
    where
      zero_more : (n : ℕ) → 0 + n ≡ n
      zero_more n = omega arith

  pub keeps_stray : (v : Waiting) (strays : ℕ) → strays ≡ counted v.strays 1
      → ((i : ℕ) (d : VlanEntry) → slice_get m.entries i ≡ Some d → is_of m c d ≡ false) → Keeps m v (c ∷ []) (record { frames = v.frames; strays = strays })
  keeps_stray v strays is none = record {
    each = λ i d at. ap (λ x. frames_at i v.frames ++ x) (frames_no d (none i d at)) ∙ append-nil (frames_at i v.frames);
    strays = is ∙ ap (counted v.strays) (sym (stray_count false (any_none (is_of m c) m.entries none)));
  }

  module _ (sound : IsMap m) (place : ℕ) (e : VlanEntry) (stands : slice_get m.entries place ≡ Some e) (of_e : is_of m c e ≡ true) (v : Waiting) (inside : place < length v.frames) where
    not_its : (i : ℕ) (d : VlanEntry) → slice_get m.entries i ≡ Some d → (i ≡ place → ⊥) → is_of m c d ≡ false
    not_its i d at other = by_test (is_of m c d) (λ of_d. absurd (other (one_owner sound i place d e at stands of_d of_e))) (λ no'. no')

    pub keeps_frame : (q : List (List ℕ)) → q ≡ frames_at place v.frames ++ without e.inner c.octets ∷ [] → Keeps m v (c ∷ []) (record { frames = set v.frames place q; strays = v.strays })
    keeps_frame q is = record {
      each = λ i d at. elim (cases_eq i place) [
        | inl here ↦
            let same : d ≡ e = (let both : Some d ≡ Some e = sym at ∙ ap (slice_get m.entries) here ∙ stands in cc) in
            ap (λ (k : VlanEntry). frames_at i v.frames ++ frames_of m k (c ∷ [])) same
            ∙ ap (λ x. frames_at i v.frames ++ x) (frames_yes e of_e)
            ∙ ap (λ n. frames_at n v.frames ++ without e.inner c.octets ∷ []) here
            ∙ sym is ∙ sym (frames_at_same place v.frames q inside) ∙ ap (λ n. frames_at n (set v.frames place q)) (sym here)
        | inr other ↦
            ap (λ x. frames_at i v.frames ++ x) (frames_no d (not_its i d at other)) ∙ append-nil (frames_at i v.frames) ∙ sym (frames_at_other i place v.frames q other)
      ];
      strays = counts_none v.strays ∙ ap (counted v.strays) (sym (stray_count true (any_some (is_of m c) m.entries place e stands of_e)));
    }

    -- there is room where no frame of the trunk is held
    pub has_room : (Holds m.entries v.frames c.trunk → ⊥) → length (frames_at place v.frames) < 17
    has_room free = elim (cases_lt 16 (length (frames_at place v.frames))) [
      | inl full ↦ absurd (free (record { place = place; entry = e; stands = stands; same = of_trunk e of_e; full = full }))
      | inr few ↦ omega arith
    ]

    pub stay_few : AreFew m.entries v.frames → (Holds m.entries v.frames c.trunk → ⊥) → (q : List (List ℕ)) → q ≡ frames_at place v.frames ++ without e.inner c.octets ∷ [] → AreFew m.entries (set v.frames place q)
    stay_few few free q is =
        let room = has_room free in
        let size : length q ≡ length (frames_at place v.frames) + 1 = ap length is ∙ length-append (frames_at place v.frames) (without e.inner c.octets ∷ []) in
        let here : length (frames_at place (set v.frames place q)) ≡ length q = ap length (frames_at_same place v.frames q inside) in
        record {
          few = λ i. elim (cases_eq i place) [
            | inl same ↦ subst (λ n. length (frames_at n (set v.frames place q)) ≤ 17) (sym same) (omega arith)
            | inr other ↦ subst (λ x. length x ≤ 17) (sym (frames_at_other i place v.frames q other)) (few.few i)
          ];
          one = λ i j d k at there same held_i held_j. elim (cases_eq i place) [
            | inl is_i ↦ elim (cases_eq j place) [
              | inl is_j ↦ is_i ∙ sym is_j
              | inr not_j ↦
                  let d_is : d ≡ e = (let both : Some d ≡ Some e = sym at ∙ ap (slice_get m.entries) is_i ∙ stands in cc) in
                  absurd (free (record { place = j; entry = k; stands = there; same = sym same ∙ ap (λ (x : VlanEntry). x.trunk) d_is ∙ of_trunk e of_e; full = subst (λ x. 16 < length x) (frames_at_other j place v.frames q not_j) held_j }))
            ]
            | inr not_i ↦ elim (cases_eq j place) [
              | inl is_j ↦
                  let k_is : k ≡ e = (let both : Some k ≡ Some e = sym there ∙ ap (slice_get m.entries) is_j ∙ stands in cc) in
                  absurd (free (record { place = i; entry = d; stands = at; same = same ∙ ap (λ (x : VlanEntry). x.trunk) k_is ∙ of_trunk e of_e; full = subst (λ x. 16 < length x) (frames_at_other i place v.frames q not_i) held_i }))
              | inr not_j ↦ few.one i j d k at there same (subst (λ x. 16 < length x) (frames_at_other i place v.frames q not_i) held_i) (subst (λ x. 16 < length x) (frames_at_other j place v.frames q not_j) held_j)
            ]
          ];
        }

-- what waits at a place
pub frames_at_get : (place : ℕ) (queues : List (List (List ℕ))) (d : List (List ℕ)) → place < length queues → frames_at place queues ≡ get_or queues place d
frames_at_get place queues d below = ap (λ (o : Option (List (List ℕ))). unwrap_or o []) (get_at queues place d below)

-- the entry at a place
pub entry_is : (entries : List VlanEntry) (place : ℕ) (d e : VlanEntry) → slice_get entries place ≡ Some e → get_or entries place d ≡ e
entry_is entries place d e stands = (let both : Some (get_or entries place d) ≡ Some e = sym (get_at entries place d (get_below entries place e stands)) ∙ stands in cc)

le_true : (a b : ℕ) → nat_le a b ≡ true → a ≤ b
le_true a b e = grind (arith, nat_tests)

-- which tags were read
choose : (a b c : Bool) (x y t : Tags) → cond a (cond b (Some x) None) (cond c (Some y) None) ≡ Some t → ((a ≡ true) × (b ≡ true) × (x ≡ t)) ⊎ ((c ≡ true) × (y ≡ t))
choose true true c x y t e = inl (refl, refl, (let same : x ≡ t = cc in same))
choose true false c x y t e = absurd cc
choose false b true x y t e = inr (refl, (let same : y ≡ t = cc in same))
choose false b false x y t e = absurd cc

-- tags that are read stand in the frame whole
pub whole_tags : (octets : List ℕ) (t : Tags) → tags_of octets ≡ Some t → 12 + width_of t.inner ≤ length octets
whole_tags octets t is =
    let pair : Tags = record { outer = vlan_at 14 octets; inner = Some (vlan_at 18 octets) } in
    let single : Tags = record { outer = vlan_at 14 octets; inner = None } in
    elim (choose (has_pair octets) (nat_le 20 (length octets)) (has_one octets) pair single t is) [
      | inl two ↦
          let long : 20 ≤ length octets = le_true 20 (length octets) two.1 in
          subst (λ (k : Tags). 12 + width_of k.inner ≤ length octets) two.2 (let l : 12 + 8 ≤ length octets = omega arith in l)
      | inr one ↦
          let long : 16 ≤ length octets = le_true 16 (length octets) (and_right (has_type 12 33024 octets) (nat_le 16 (length octets)) one.0) in
          subst (λ (k : Tags). 12 + width_of k.inner ≤ length octets) one.1 (let l : 12 + 4 ≤ length octets = omega arith in l)
    ]

-- an entry's frame has its tags whole
pub whole_frame : (m : Trunks) (c : Came) (e : VlanEntry) → is_of m c e ≡ true → 12 + width_of e.inner ≤ length c.octets
whole_frame m c e of_e = whole_tags c.octets (tags_in e) (with_tags m c e of_e)

-- the oldest of a queue was taken out
module _ (entries : List VlanEntry) (v : Waiting) (place : ℕ) (q : List (List ℕ)) (octets : List ℕ) (inside : place < length v.frames) (was : frames_at place v.frames ≡ octets ∷ q) where
  pub gives_oldest : Gives place v octets (record { frames = set v.frames place q; strays = v.strays })
  gives_oldest = record {
    here = was ∙ ap (λ x. octets ∷ x) (sym (frames_at_same place v.frames q inside));
    others = λ i other. frames_at_other i place v.frames q other;
    strays = refl;
  }

  fewer : (i : ℕ) → length (frames_at i (set v.frames place q)) ≤ length (frames_at i v.frames)
  fewer i = elim (cases_eq i place) [
    | inl same ↦ subst (λ n. length (frames_at n (set v.frames place q)) ≤ length (frames_at n v.frames)) (sym same) (
        let here : length (frames_at place (set v.frames place q)) ≡ length q = ap length (frames_at_same place v.frames q inside) in
        let before : length (frames_at place v.frames) ≡ length q + 1 = ap length was ∙ (let s : length (octets ∷ q) ≡ length q + 1 = omega arith in s) in
        omega arith
        )
    | inr other ↦ subst (λ x. length x ≤ length (frames_at i v.frames)) (sym (frames_at_other i place v.frames q other)) (let s : length (frames_at i v.frames) ≤ length (frames_at i v.frames) = omega arith in s)
  ]

  pub stay_fewer : AreFew entries v.frames → AreFew entries (set v.frames place q)
  stay_fewer few = record {
    few = λ i. let s = fewer i in let t = few.few i in omega arith;
    one = λ i j d k at there same held_i held_j. let s = fewer i in let t = fewer j in few.one i j d k at there same (omega arith) (omega arith);
  }
