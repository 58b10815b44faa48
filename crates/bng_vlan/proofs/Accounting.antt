-- Each frame that a trunk took is given, waits or is a stray, once.
use Rattle.std.proofs.Common.{◌≡◌, ℕ, suc, ◌+◌, ◌-◌, ◌^◌, ◌<◌, Bool, true, false, cond, not, List, [], ◌∷◌, ◌++◌, Some, refl, sym, ap, ◌∙◌, length, length-append, filter, arith}
use Rattle.std.specs.Prelude.{is_some}
use Rattle.std.specs.List.{slice_get, list_any, sum_by, count_by}
use Rattle.std.proofs.lemmas.Bool.{eqb-true}
use Rattle.std.proofs.lemmas.List.{length-map}
use Rattle.std.proofs.lemmas.List.Sums.{sum_by-cons, length-filter}
use Rattle.bng_base.specs.declared.outside.Datagram.{Datagram}
use Rattle.bng_base.specs.declared.outside.Role.{Role}
use Rattle.bng_base.specs.declared.outside.Role.TheVariants.{Access, Core, Tunnel, Auth, Acct, Coa, Control}
use Rattle.bng_base.specs.Roles.{is_port}
use Rattle.bng_base.specs.Stretch.{PlantStretch}
use Rattle.bng_vlan.specs.declared.map.VlanEntry.{VlanEntry}
use Rattle.bng_vlan.specs.Tags.{without}
use Rattle.bng_vlan.specs.Map.{Trunks, IsMap, is_trunk, entry_of}
use Rattle.bng_vlan.specs.Frames.{Came, is_of, is_stray, frames_of, datagram_of}
use Rattle.bng_vlan.specs.Once.{number_of, AreParted, AreOnce, taken_of_trunks, given_to_entries}
use Rattle.bng_vlan.specs.Untagged.{Untagged, gift, gifts, given_to}
use Rattle.bng_vlan.specs.Waiting.{Waiting, counted, frames_at}
use Rattle.bng_vlan.proofs.Putting.{one_owner}
use Rattle.bng_vlan.proofs.Sums.{sum_plus, sum_same, sum_none, count_all, single, find_any}

module _ (m : Trunks) (sound : IsMap m) where
  -- one frame
  module _ (test : Came → Bool) (c : Came) (came : List Came) where
    abbrev weight : ℕ
    weight = cond (test c) 1 0

    -- a frame more of a filter
    more : (b : Bool) (rest : List Came) → count_by test (cond b (c ∷ rest) rest) ≡ cond b weight 0 + count_by test rest
    more true rest = sum_by-cons (λ (x : Came). cond (test x) 1 0) c rest
    more false rest = omega arith

    entries_more : sum_by (number_of m test (c ∷ came)) m.entries ≡ cond (list_any (is_of m c) m.entries) weight 0 + sum_by (number_of m test came) m.entries
    entries_more =
        let each = sum_same (number_of m test (c ∷ came)) (λ e. cond (is_of m c e) weight 0 + number_of m test came e) m.entries (λ e. more (is_of m c e) (filter (λ (x : Came). is_of m x e) came)) in
        let split = sum_plus (λ e. cond (is_of m c e) weight 0) (number_of m test came) m.entries in
        let one = single (is_of m c) weight m.entries (λ i j d e at there hit also. one_owner m c sound i j d e at there hit also) in
        each ∙ split ∙ ap (λ n. n + sum_by (number_of m test came) m.entries) one

    either : (b : Bool) → cond b weight 0 + cond (not b) weight 0 ≡ weight
    either true = omega arith
    either false = omega arith

  pub parted : (came : List Came) → AreParted m came
  parted [] test =
      let none = sum_none m.entries in omega (arith, none)
  parted (c ∷ came) test =
      let strays = more test c came (not (list_any (is_of m c) m.entries)) (filter (is_stray m) came) in
      omega (
        arith,
        sum_by-cons (λ (x : Came). cond (test x) 1 0) c came,
        parted came test,
        entries_more test c came,
        strays,
        either test c came (list_any (is_of m c) m.entries),
      )

  -- a datagram is given to one entry at most
  one_port : (a b : ℕ) (role : Role) → is_port a role ≡ true → is_port b role ≡ true → a ≡ b
  one_port a b (Access n) hit also = sym (eqb-true n a hit) ∙ eqb-true n b also
  one_port a b Core hit also = absurd (let miss : false ≡ true = hit in cc)
  one_port a b Tunnel hit also = absurd (let miss : false ≡ true = hit in cc)
  one_port a b Auth hit also = absurd (let miss : false ≡ true = hit in cc)
  one_port a b Acct hit also = absurd (let miss : false ≡ true = hit in cc)
  one_port a b Coa hit also = absurd (let miss : false ≡ true = hit in cc)
  one_port a b Control hit also = absurd (let miss : false ≡ true = hit in cc)

  given_more : (d : Datagram) (b : Bool) (rest : List Datagram) → length (cond b (d ∷ rest) rest) ≡ cond b 1 0 + length rest
  given_more d true rest = omega arith
  given_more d false rest = omega arith

  pub given : (taken : List Datagram) → given_to_entries m taken ≡ sum_by (λ e. length (given_to e taken)) m.entries
  given [] = sym (sum_none m.entries)
  given (d ∷ taken) =
      let each = sum_same (λ e. length (given_to e (d ∷ taken))) (λ (e : VlanEntry). cond (is_port e.access d.role) 1 0 + length (given_to e taken)) m.entries (λ e. given_more d (is_port e.access d.role) (given_to e taken)) in
      let split = sum_plus (λ (e : VlanEntry). cond (is_port e.access d.role) 1 0) (λ e. length (given_to e taken)) m.entries in
      let one = single (λ (e : VlanEntry). is_port e.access d.role) 1 m.entries (λ i j x y at there hit also. sound.ports i j x y at there (one_port x.access y.access d.role hit also)) in
      let bit : Bool → ℕ = λ b. cond b 1 0 in
      let found : bit (is_some (entry_of m d.role)) ≡ bit (list_any (λ (e : VlanEntry). is_port e.access d.role) m.entries) = ap bit (find_any (λ (e : VlanEntry). is_port e.access d.role) m.entries) in
      omega (arith, sum_by-cons (λ (x : Datagram). cond (is_some (entry_of m x.role)) 1 0) d taken, given taken, each, split, one, found)

abbrev Frames : Type 0
Frames = List (List (List ℕ))

abbrev size : List (List ℕ) → ℕ
size q = length q

-- entry by entry
along : (es : List VlanEntry) (vs ws : Frames) (f g : VlanEntry → ℕ) → length vs ≡ length es → length ws ≡ length es
    → ((i : ℕ) (e : VlanEntry) → slice_get es i ≡ Some e → length (frames_at i vs) + f e ≡ g e + length (frames_at i ws))
    → sum_by (λ (q : List (List ℕ)). length q) vs + sum_by f es ≡ sum_by g es + sum_by (λ (q : List (List ℕ)). length q) ws
along [] [] [] f g few as_few each = refl
along [] (v ∷ vs) ws f g few as_few each = absurd (omega (arith, few))
along [] [] (w ∷ ws) f g few as_few each = absurd (omega (arith, as_few))
along (e ∷ es) [] ws f g few as_few each = absurd (omega (arith, few))
along (e ∷ es) (v ∷ vs) [] f g few as_few each = absurd (omega (arith, as_few))
along (e ∷ es) (v ∷ vs) (w ∷ ws) f g few as_few each =
    let here : length v + f e ≡ g e + length w = each 0 e refl in
    let rest = along es vs ws f g (omega (arith, few)) (omega (arith, as_few)) (λ i d at. each (suc i) d at) in
    omega (
      arith,
      here,
      rest,
      sum_by-cons (λ (q : List (List ℕ)). length q) v vs,
      sum_by-cons (λ (q : List (List ℕ)). length q) w ws,
      sum_by-cons f e es,
      sum_by-cons g e es,
    )

module _ (m : Trunks) (v w : Waiting) (below above : PlantStretch) (h : Untagged m v below above w) where
  each_size : (i : ℕ) (e : VlanEntry) → slice_get m.entries i ≡ Some e → length (frames_at i v.frames) + length (frames_of m e h.came) ≡ length (given_to e above.taken) + length (frames_at i w.frames)
  each_size i e at =
      omega (
        arith,
        ap length (h.each i e at),
        length-append (gifts m e (frames_at i v.frames)) (gifts m e (frames_of m e h.came)),
        length-append (given_to e above.taken) (gifts m e (frames_at i w.frames)),
        length-map (frames_at i v.frames) (gift m e),
        length-map (frames_of m e h.came) (gift m e),
        length-map (frames_at i w.frames) (gift m e),
      )

  -- all that came are the entries' and the strays
  all_came : IsMap m → length h.came ≡ sum_by (λ e. length (frames_of m e h.came)) m.entries + count_by (is_stray m) h.came
  all_came sound =
      let each = sum_same (number_of m (λ c. true) h.came) (λ e. length (frames_of m e h.came)) m.entries
      (λ e. count_all (filter (λ (c : Came). is_of m c e) h.came) ∙ sym (length-map (filter (λ (c : Came). is_of m c e) h.came) (λ (c : Came). without e.inner c.octets))) in
      omega (arith, parted m sound h.came (λ c. true), count_all h.came, each, count_all (filter (is_stray m) h.came), length-filter (is_stray m) h.came)

  came_are : taken_of_trunks m below.taken ≡ length h.came
  came_are = sym (length-filter (λ (d : Datagram). is_trunk m d.role) below.taken) ∙ ap length h.are.taken ∙ length-map h.came datagram_of

  pub once : IsMap m → length v.frames ≡ length m.entries → length w.frames ≡ length m.entries → AreOnce m v below above w
  once sound few as_few small =
      let sums = along m.entries v.frames w.frames (λ e. length (frames_of m e h.came)) (λ e. length (given_to e above.taken)) few as_few each_size in
      let strays : w.strays ≡ v.strays + count_by (is_stray m) h.came = not_full v.strays (count_by (is_stray m) h.came) w.strays h.strays small in
      omega (arith, sums, strays, all_came sound, came_are, given m sound above.taken)
    where
      not_full : (count more now : ℕ) → now ≡ counted count more → now < 2 ^ 64 - 1 → now ≡ count + more
      not_full count more now is small = omega (arith, is, small)

  -- where nothing waited, what was given is a front
  pub front : ((i : ℕ) → frames_at i v.frames ≡ []) → (i : ℕ) (e : VlanEntry) → slice_get m.entries i ≡ Some e → gifts m e (frames_of m e h.came) ≡ given_to e above.taken ++ gifts m e (frames_at i w.frames)
  front none i e at = ap (λ (q : List (List ℕ)). gifts m e q ++ gifts m e (frames_of m e h.came)) (sym (none i)) ∙ h.each i e at
