-- Reading what is written.
use Rattle.std.proofs.Common.{◌≡◌, ℕ, ◌+◌, ◌-◌, ◌*◌, ◌/◌, ◌%◌, ◌≤◌, ◌==◌, ◌&&◌, ◌||◌, Bool, true, false, cond, List, [], ◌∷◌, ◌++◌, Option, Some, None, refl, sym, ap, ap₂, ◌∙◌, length, length-append, length-take, length-drop, take, drop, nat_le, arith, append_assoc}
use Rattle.std.specs.Prelude.{slice_index}
use Rattle.std.specs.List.{slice_get}
use Rattle.std.proofs.lemmas.Bool.{eq-eqb, le-leb}
use Rattle.std.proofs.lemmas.Bool.Decides.{nat_tests}
use Rattle.std.proofs.lemmas.List.{take_at, drop_at, take-append-drop, get_or-append_right}
use Rattle.bng_base.specs.declared.address.Peer.{Peer}
use Rattle.bng_vlan.specs.declared.map.VlanEntry.{VlanEntry}
use Rattle.bng_vlan.specs.declared.tag.Tags.{Tags}
use Rattle.bng_vlan.specs.Tags.{word_at, has_type, vlan_at, has_pair, has_one, tags_of, width_of, without, tag_octets, tagged}
use Rattle.bng_vlan.specs.Map.{Trunks, IsMap, IsVlan, AreVlans, tags_in}
use Rattle.bng_vlan.specs.Frames.{Came, same_inner, has_tags, is_of, is_whole, is_peer, frames_of}
use Rattle.bng_vlan.proofs.Putting.{frames_yes}

both : (x y : Bool) → x ≡ true → y ≡ true → (x && y) ≡ true
both true y e f = f
both false y e f = e

-- what stands behind the addresses of a frame
module _ (octets : List ℕ) (long : 12 ≤ length octets) where
  front_size : length (take 12 octets) ≡ 12
  front_size = omega (arith, length-take 12 octets)

  behind : (xs : List ℕ) (i : ℕ) → 12 ≤ i → slice_index (take 12 octets ++ xs) i ≡ slice_index xs (i - 12)
  behind xs i at = get_or-append_right (take 12 octets) xs 12 i 0 front_size at

  is_octets : take 12 octets ++ drop 12 octets ≡ octets
  is_octets = take-append-drop 12 octets

  size_behind : (xs : List ℕ) → length (take 12 octets ++ xs) ≡ 12 + length xs
  size_behind xs = omega (arith, length-append (take 12 octets) xs, front_size)

  -- the two octets at a place
  word_behind : (xs : List ℕ) (i j : ℕ) → i ≡ 12 + j → word_at i (take 12 octets ++ xs) ≡ 256 * slice_index xs j + slice_index xs (j + 1)
  word_behind xs i j is =
      let here : i - 12 ≡ j = omega (arith, is) in
      let next : (i + 1) - 12 ≡ j + 1 = omega (arith, is) in
      let first : slice_index (take 12 octets ++ xs) i ≡ slice_index xs j = behind xs i (omega (arith, is)) ∙ ap (slice_index xs) here in
      let second : slice_index (take 12 octets ++ xs) (i + 1) ≡ slice_index xs (j + 1) = behind xs (i + 1) (omega (arith, is)) ∙ ap (slice_index xs) next in
      ap₂ (λ (a b : ℕ). 256 * a + b) first second

  has_it : (xs : List ℕ) (i j kind : ℕ) → i ≡ 12 + j → j + 2 ≤ length xs → 256 * slice_index xs j + slice_index xs (j + 1) ≡ kind → has_type i kind (take 12 octets ++ xs) ≡ true
  has_it xs i j kind is fits word =
      both (nat_le (i + 2) (length (take 12 octets ++ xs))) (word_at i (take 12 octets ++ xs) == kind)
      (le-leb (i + 2) (length (take 12 octets ++ xs)) (omega (arith, size_behind xs, is, fits)))
      (eq-eqb (word_at i (take 12 octets ++ xs)) kind (word_behind xs i j is ∙ word))

-- an identifier is written and read
same_vlan : (vlan : ℕ) → IsVlan vlan → (256 * (vlan / 256) + vlan % 256) % 4096 ≡ vlan
same_vlan vlan is = omega (arith, is.0, is.1)

four_more : (n k : ℕ) → k ≡ 4 + n → nat_le 18 k ≡ nat_le 14 n
four_more n k is = grind (arith, nat_tests, is)

-- one tag
module _ (outer : ℕ) (octets : List ℕ) (long : 12 ≤ length octets) where
  abbrev one_tag : List ℕ
  one_tag = 129 ∷ 0 ∷ (outer / 256) ∷ (outer % 256) ∷ drop 12 octets

  abbrev with_one : List ℕ
  with_one = take 12 octets ++ one_tag

  -- what followed the addresses follows the tag
  later : has_type 16 33024 with_one ≡ has_type 12 33024 octets
  later =
      let rest = drop 12 octets in
      let sizes : nat_le 18 (length with_one) ≡ nat_le 14 (length octets) =
      four_more (length octets) (length with_one) (omega (arith, size_behind octets long one_tag, length-drop 12 octets, long))
      in
      let own : word_at 12 (take 12 octets ++ rest) ≡ 256 * slice_index rest 0 + slice_index rest 1 = word_behind octets long rest 12 0 refl in
      let moved : word_at 16 with_one ≡ 256 * slice_index rest 0 + slice_index rest 1 = word_behind octets long one_tag 16 4 refl in
      let words : word_at 16 with_one ≡ word_at 12 octets = moved ∙ sym own ∙ ap (word_at 12) (is_octets octets long) in
      ap₂ (λ (a : Bool) (n : ℕ). a && (n == 33024)) sizes words

  pub reads_one : IsVlan outer → has_type 12 33024 octets ≡ false → tags_of with_one ≡ Some (record { outer = outer; inner = None })
  reads_one vlan alone =
      let first : has_type 12 33024 with_one ≡ true = has_it octets long one_tag 12 0 33024 refl (omega arith) refl in
      let no_pair : has_pair with_one ≡ false = ap₂ (λ (a b : Bool). (a || has_type 12 34984 with_one) && b) first (later ∙ alone) in
      let one : has_one with_one ≡ true = both (has_type 12 33024 with_one) (nat_le 16 (length with_one)) first (le-leb 16 (length with_one) (omega (arith, size_behind octets long one_tag))) in
      let read : vlan_at 14 with_one ≡ outer = ap (λ (n : ℕ). n % 4096) (word_behind octets long one_tag 14 2 refl) ∙ same_vlan outer vlan in
      let of : ℕ → Option Tags = λ n. Some (record { outer = n; inner = None }) in
      let two : Option Tags = cond (nat_le 20 (length with_one)) (Some (record { outer = vlan_at 14 with_one; inner = Some (vlan_at 18 with_one) })) None in
      ap (λ (b : Bool). cond b two (cond (has_one with_one) (of (vlan_at 14 with_one)) None)) no_pair
      ∙ ap (λ (b : Bool). cond b (of (vlan_at 14 with_one)) None) one
      ∙ ap of read

-- two tags
module _ (outer inner : ℕ) (octets : List ℕ) (long : 12 ≤ length octets) where
  abbrev two_tags : List ℕ
  two_tags = 136 ∷ 168 ∷ (outer / 256) ∷ (outer % 256) ∷ 129 ∷ 0 ∷ (inner / 256) ∷ (inner % 256) ∷ drop 12 octets

  abbrev with_two : List ℕ
  with_two = take 12 octets ++ two_tags

  or_second : (x y : Bool) → y ≡ true → (x || y) ≡ true
  or_second true y e = refl
  or_second false y e = e

  pub reads_two : IsVlan outer → IsVlan inner → tags_of with_two ≡ Some (record { outer = outer; inner = Some inner })
  reads_two vlan vlan' =
      let first : has_type 12 34984 with_two ≡ true = has_it octets long two_tags 12 0 34984 refl (omega arith) refl in
      let second : has_type 16 33024 with_two ≡ true = has_it octets long two_tags 16 4 33024 refl (omega arith) refl in
      let pair : has_pair with_two ≡ true = both (has_type 12 33024 with_two || has_type 12 34984 with_two) (has_type 16 33024 with_two) (or_second (has_type 12 33024 with_two) (has_type 12 34984 with_two) first) second in
      let whole : nat_le 20 (length with_two) ≡ true = le-leb 20 (length with_two) (omega (arith, size_behind octets long two_tags)) in
      let read : vlan_at 14 with_two ≡ outer = ap (λ (n : ℕ). n % 4096) (word_behind octets long two_tags 14 2 refl) ∙ same_vlan outer vlan in
      let read' : vlan_at 18 with_two ≡ inner = ap (λ (n : ℕ). n % 4096) (word_behind octets long two_tags 18 6 refl) ∙ same_vlan inner vlan' in
      let of : ℕ → ℕ → Option Tags = λ n k. Some (record { outer = n; inner = Some k }) in
      let other : Option Tags = cond (has_one with_two) (Some (record { outer = vlan_at 14 with_two; inner = None })) None in
      ap (λ (b : Bool). cond b (cond (nat_le 20 (length with_two)) (of (vlan_at 14 with_two) (vlan_at 18 with_two)) None) other) pair
      ∙ ap (λ (b : Bool). cond b (of (vlan_at 14 with_two) (vlan_at 18 with_two)) None) whole
      ∙ ap₂ of read read'

abbrev of_tags : ℕ → Option ℕ → Tags
of_tags outer inner = record { outer = outer; inner = inner }

pub reads_tags : (t : Tags) (octets : List ℕ) → AreVlans t → 12 ≤ length octets → (t.inner ≡ None → has_type 12 33024 octets ≡ false) → tags_of (tagged t octets) ≡ Some t
reads_tags t octets vlans long alone = by_inner t.inner refl
  where
    by_inner : (i : Option ℕ) → t.inner ≡ i → tags_of (tagged t octets) ≡ Some t
    by_inner None is =
        ap (λ (i : Option ℕ). tags_of (tagged (of_tags t.outer i) octets)) is
        ∙ ap tags_of (append_assoc (take 12 octets) (tag_octets (of_tags t.outer None)) (drop 12 octets))
        ∙ reads_one t.outer octets long vlans.outer (alone is)
        ∙ ap (λ (i : Option ℕ). Some (of_tags t.outer i)) (sym is)
    by_inner (Some inner) is =
        ap (λ (i : Option ℕ). tags_of (tagged (of_tags t.outer i) octets)) is
        ∙ ap tags_of (append_assoc (take 12 octets) (tag_octets (of_tags t.outer (Some inner))) (drop 12 octets))
        ∙ reads_two t.outer inner octets long vlans.outer (vlans.inner inner is)
        ∙ ap (λ (i : Option ℕ). Some (of_tags t.outer i)) (sym is)

width_is : (outer : ℕ) (i : Option ℕ) → length (tag_octets (of_tags outer i)) ≡ width_of i
width_is outer None = refl
width_is outer (Some inner) = refl

pub reads_frame : (t : Tags) (octets : List ℕ) → 12 ≤ length octets → without t.inner (tagged t octets) ≡ octets
reads_frame t octets long =
    let tag = tag_octets t in
    let front : take 12 (tagged t octets) ≡ take 12 octets =
    ap (take 12) (append_assoc (take 12 octets) tag (drop 12 octets)) ∙ take_at (take 12 octets) (tag ++ drop 12 octets) 12 (front_size octets long)
    in
    let rest : drop (12 + width_of t.inner) (tagged t octets) ≡ drop 12 octets =
    drop_at (take 12 octets ++ tag) (drop 12 octets) (12 + width_of t.inner) (size_behind octets long tag ∙ ap (λ (n : ℕ). 12 + n) (width_is t.outer t.inner))
    in
    ap₂ (λ (a b : List ℕ). a ++ b) front rest ∙ is_octets octets long

pub reads_entry : (m : Trunks) (i : ℕ) (e : VlanEntry) (peer : Peer) (octets : List ℕ) (c : Came) → IsMap m → slice_get m.entries i ≡ Some e → slice_get m.peers (e.trunk - 1) ≡ Some peer → 12 ≤ length octets
    → (e.inner ≡ None → has_type 12 33024 octets ≡ false) → c ≡ record { trunk = e.trunk; from = peer; cut = false; octets = tagged (tags_in e) octets } → frames_of m e (c ∷ []) ≡ octets ∷ []
reads_entry m i e peer octets c sound stands peer_is long alone is =
    let entry = sound.each i e stands in
    let vlans : AreVlans (tags_in e) = record { outer = entry.outer; inner = entry.inner } in
    let read : tags_of (tagged (tags_in e) octets) ≡ Some (tags_in e) = reads_tags (tags_in e) octets vlans long alone in
    let one : Came = record { trunk = e.trunk; from = peer; cut = false; octets = tagged (tags_in e) octets } in
    let from : is_peer (slice_get m.peers (e.trunk - 1)) peer ≡ true =
    ap (λ (o : Option Peer). is_peer o peer) peer_is ∙ both (peer.ip.0 == peer.ip.0) (peer.port == peer.port) (eq-eqb peer.ip.0 peer.ip.0 refl) (eq-eqb peer.port peer.port refl)
    in
    let tags : has_tags e (tags_of (tagged (tags_in e) octets)) ≡ true =
    ap (has_tags e) read ∙ both (e.outer == e.outer) (same_inner e.inner e.inner) (eq-eqb e.outer e.outer refl) (its_inner e.inner)
    in
    let of : is_of m one e ≡ true =
    both (is_whole m one) ((e.trunk == e.trunk) && has_tags e (tags_of (tagged (tags_in e) octets))) from
    (both (e.trunk == e.trunk) (has_tags e (tags_of (tagged (tags_in e) octets))) (eq-eqb e.trunk e.trunk refl) tags)
    in
    ap (λ (x : Came). frames_of m e (x ∷ [])) is
    ∙ frames_yes m one e of
    ∙ ap (λ (o : List ℕ). o ∷ []) (reads_frame (tags_in e) octets long)
  where
    its_inner : (o : Option ℕ) → same_inner o o ≡ true
    its_inner None = refl
    its_inner (Some vlan) = eq-eqb vlan vlan refl
