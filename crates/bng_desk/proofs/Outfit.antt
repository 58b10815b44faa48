-- What a desk is opened with: what its ports offer, its pools and profiles, and the circuits of each shard.
use Rattle.std.proofs.Common.{◌≡◌, ◌≢◌, ⊎_elim, ℕ, zero, suc, ◌+◌, ◌<◌, ◌≤◌, ◌==◌, Bool, true, false, cond, if◌then◌else◌, List, [], ◌∷◌, ◌++◌, Some, None, option_map, map, filter, length, take, get_or, slice_get, set, eqb, refl, sym, ap, subst, ◌∙◌, arith, append-nil, length-set, get_or-set_same, get_or-set_other}
use Rattle.std.specs.List.{All, AllPairs, range_with_len}
use Rattle.std.proofs.lemmas.Bool.{cases_lt, false≢true}
use Rattle.std.proofs.lemmas.Bool.Decides.{nat_tests}
use Rattle.std.proofs.lemmas.List.{get_or-map, get_or_at, length-append, length-map, length-take-le, take_more}
use Rattle.std.proofs.lemmas.List.Elements.{All-filter, filter-append, filter_passes}
use Rattle.std.proofs.lemmas.List.FromFn.{fill_by_all, get_or-map-range_with_len, length-map-range_with_len}
use Rattle.std.proofs.lemmas.List.Kept.{AllPairs-filter}
use Rattle.std.proofs.lemmas.Option.{same_Some}
use Rattle.arrayvec.specs.ArrayVec.{ArrayVec}
use Rattle.bng_base.specs.declared.book.Profile.{Profile}
use Rattle.bng_base.specs.declared.settings.AccessPort.{AccessPort}
use Rattle.bng_base.specs.declared.settings.NamedRange.{NamedRange}
use Rattle.bng_base.specs.declared.settings.Static.{Static}
use Rattle.bng_discovery.specs.declared.port.PortRules.{PortRules}
use Rattle.bng_profile.specs.Books.{AreDifferent, names_of}
use Rattle.bng_steps.specs.declared.rules.Rules.{Rules}
use Rattle.bng_shard.specs.Handling.{HasPools}
use Rattle.bng_sessions.specs.Sessions.{IsNumberOf}
use Rattle.bng_desk.specs.Opening.{AreOffersOf, AreServed, IsOfferOf, shard_of}

-- Offers ----------------------------------------------------------------------------------------------------------------

-- one port more
pub offers_more : (name : List ℕ) (services : List (ArrayVec ℕ)) (key : List ℕ) (number : ℕ) (ports : List AccessPort) (port : AccessPort) (offers : List PortRules) (offer : PortRules)
    → AreOffersOf name services key number ports offers → IsOfferOf name services key (number + length ports) port offer → AreOffersOf name services key number (ports ++ port ∷ []) (offers ++ offer ∷ [])
offers_more name services key number [] port offers offer are one =
    let same : number + length {A = AccessPort} [] ≡ number = omega arith in
    subst (λ (os : List PortRules). AreOffersOf name services key number (port ∷ []) (os ++ offer ∷ [])) (sym are)
    (subst (λ (n : ℕ). IsOfferOf name services key n port offer) same one, refl)
offers_more name services key number (p ∷ ports) port [] offer are one = absurd are
offers_more name services key number (p ∷ ports) port (o ∷ offers) offer are one =
    let same : number + length (p ∷ ports) ≡ number + 1 + length ports = omega arith in
    (are.0, offers_more name services key (number + 1) ports port offers offer are.1 (subst (λ (n : ℕ). IsOfferOf name services key n port offer) same one))

-- the next port
pub offers_next : (name : List ℕ) (services : List (ArrayVec ℕ)) (key : List ℕ) (access : List AccessPort) (n : ℕ) (d : AccessPort) (offer : PortRules) (offers offers' : List PortRules) → n < length access
    → AreOffersOf name services key 1 (take n access) offers → offers' ≡ offers ++ offer ∷ [] → IsOfferOf name services key (n + 1) (get_or access n d) offer → AreOffersOf name services key 1 (take (n + 1) access) offers'
offers_next name services key access n d offer offers offers' lt are more one =
    let same : n + 1 ≡ 1 + length (take n access) = omega (arith, lt, length-take-le n access (omega (arith, lt))) in
    subst (λ (os : List PortRules). AreOffersOf name services key 1 (take (n + 1) access) os) (sym more)
    (subst (λ (ports : List AccessPort). AreOffersOf name services key 1 ports (offers ++ offer ∷ [])) (sym (take_more access n d lt))
    (offers_more name services key 1 (take n access) (get_or access n d) offers offer are (subst (λ (k : ℕ). IsOfferOf name services key k (get_or access n d) offer) same one)))

-- Pools -----------------------------------------------------------------------------------------------------------------

-- the ranges are those of the pools, in their order
pub ranges_of : (pools : List NamedRange) → HasPools pools (map (λ (p : NamedRange). p.range) pools)
ranges_of [] k p e = absurd cc
ranges_of (x ∷ pools) zero p e = ap (option_map (λ (q : NamedRange). q.range)) e
ranges_of (x ∷ pools) (suc k) p e = ranges_of pools k p e

-- Profiles --------------------------------------------------------------------------------------------------------------

-- the name at a place is that of the profile there
name_at : (ps : List Profile) (k : ℕ) (name : List ℕ) (d : Profile) → slice_get (names_of ps) k ≡ Some name → (k < length ps) × ((get_or ps k d).name.items ≡ name)
name_at [] k name d e = absurd cc
name_at (p ∷ ps) zero name d e = (omega arith, same_Some _ _ e)
name_at (p ∷ ps) (suc k) name d e =
    let rest = name_at ps k name d e in
    (omega (arith, rest.0), rest.1)

-- profiles of which no two have the same name have different names
pub names_differ : (ps : List Profile) → AllPairs (λ a b. a.name.items ≢ b.name.items) ps → AreDifferent (names_of ps)
names_differ ps apart i j name e f =
    let d : Profile = record { name = record { items = [] }; up = None; down = None } in
    let one = name_at ps i name d e in
    let other = name_at ps j name d f in
    ⊎_elim (λ (lt : i < j). absurd (apart i j d lt other.0 (one.1 ∙ sym other.1)))
    (λ (le : j ≤ i). ⊎_elim (λ (lt : j < i). absurd (apart j i d lt one.0 (other.1 ∙ sym one.1))) (λ (low : i ≤ j). omega (arith, le, low)) (cases_lt j i))
    (cases_lt i j)

-- Circuits --------------------------------------------------------------------------------------------------------------

abbrev pub of_shard : List Static → ℕ → List Static
of_shard circuits n = filter (λ (c : Static). shard_of c == n) circuits

same_number : (a n : ℕ) → eqb a n ≡ true → a ≡ n
same_number a n e = grind (arith, nat_tests)

other_number : (a n : ℕ) → eqb a n ≡ false → n ≢ a
other_number a n e = grind (arith, nat_tests)

-- what the circuits of one shard keep
pub record AreOf (r : Rules) (n : ℕ) (circuits : List Static) : Type 0 where
  pub own : All (λ c. IsNumberOf n c.session.0) circuits
  pub sessions : AllPairs (λ a b. a.session ≢ b.session) circuits
  pub addresses : AllPairs (λ a b. a.address ≢ b.address) circuits
  pub ports : All (λ c. (1 ≤ c.port) × (c.port ≤ length r.access)) circuits
  pub profiles : All (λ c. c.profile < length r.profiles) circuits

pub are_of : (r : Rules) (circuits : List Static) (n : ℕ) → AreServed r circuits → AreOf r n (of_shard circuits n)
are_of r circuits n are =
    let p = λ (c : Static). shard_of c == n in
    record {
      own = λ k d lt.
          let c = get_or (of_shard circuits n) k d in
          let number : IsNumberOf (shard_of c) c.session.0 = All-filter p (λ (x : Static). IsNumberOf (shard_of x) x.session.0) circuits are.own k d lt in
          subst (λ (m : ℕ). IsNumberOf m c.session.0) (same_number (shard_of c) n (filter_passes p circuits k d lt)) number;
      sessions = AllPairs-filter (λ (a b : Static). a.session ≢ b.session) p circuits are.sessions;
      addresses = AllPairs-filter (λ (a b : Static). a.address ≢ b.address) p circuits are.addresses;
      ports = All-filter p (λ (x : Static). (1 ≤ x.port) × (x.port ≤ length r.access)) circuits are.ports;
      profiles = All-filter p (λ (x : Static). x.profile < length r.profiles) circuits are.profiles;
    }

module _ {V : Type 0} (f : V → List Static) where
  -- one circuit more is put to its shard's list
  placed : (circuits : List Static) (c : Static) (k i : ℕ) (lists : List V) (v w : V) (b : Bool) → i ≡ shard_of c → i < length lists → f w ≡ f (get_or lists i v) ++ c ∷ [] → f (get_or lists k v) ≡ of_shard circuits k
      → eqb (shard_of c) k ≡ b → f (get_or (set lists i w) k v) ≡ of_shard circuits k ++ cond b (c ∷ []) []
  placed circuits c k i lists v w true at within here was e =
      let same : i ≡ k = at ∙ same_number (shard_of c) k e in
      ap (λ (j : ℕ). f (get_or (set lists i w) j v)) (sym same) ∙ ap f (get_or-set_same lists i w v within) ∙ here ∙ ap (λ (j : ℕ). f (get_or lists j v) ++ c ∷ []) same ∙ ap (λ (xs : List Static). xs ++ c ∷ []) was
  placed circuits c k i lists v w false at within here was e =
      let other : k ≢ i = λ x. other_number (shard_of c) k e (x ∙ at) in
      ap f (get_or-set_other lists i k w v other) ∙ was ∙ sym (append-nil (of_shard circuits k))

  pub list_count : (g : ℕ → List Static) (lists : List V) (n : ℕ) → map f lists ≡ map g (range_with_len 0 n) → length lists ≡ n
  list_count g lists n same = sym (length-map lists f) ∙ ap (λ (xs : List (List Static)). length xs) same ∙ length-map-range_with_len g 0 n

  -- the list at one place
  pub list_at : (g : ℕ → List Static) (lists : List V) (n k : ℕ) (v : V) → map f lists ≡ map g (range_with_len 0 n) → k < length lists → f (get_or lists k v) ≡ g k
  list_at g lists n k v same lt =
      let count : length lists ≡ n = list_count g lists n same in
      sym (get_or-map f lists k v [] lt) ∙ ap (λ (xs : List (List Static)). get_or xs k []) same ∙ get_or-map-range_with_len g 0 n k k [] (omega (arith, lt, count)) (omega arith)

  -- the next list is that of the next number
  pub list_next : (g : ℕ → List Static) (done left rest : List V) (next : V) (n k : ℕ) → map f (done ++ rest) ≡ map g (range_with_len 0 n) → rest ≡ next ∷ left → length done ≡ k → (k < n) × (f next ≡ g k)
  list_next g done left rest next n k same is count =
      let whole : map f (done ++ next ∷ left) ≡ map g (range_with_len 0 n) = ap (λ (xs : List V). map f (done ++ xs)) (sym is) ∙ same in
      let within : length done < length (done ++ next ∷ left) = omega (arith, length-append done (next ∷ left)) in (
        omega (arith, within, count, list_count g (done ++ next ∷ left) n whole),
        ap f (sym (get_or_at done next left next (length done) refl)) ∙ list_at g (done ++ next ∷ left) n (length done) next whole within ∙ ap g count,
      )

  -- it may be a shard's
  pub next_are : (r own : Rules) (circuits xs : List Static) (done left rest : List V) (next : V) (k : ℕ) → AreServed r circuits → map f (done ++ rest) ≡ map (of_shard circuits) (range_with_len 0 r.shards) → rest ≡ next ∷ left → length done ≡ k
      → own ≡ r → xs ≡ f next → AreOf own k xs
  next_are r own circuits xs done left rest next k are same is count own_is xs_are =
      let at = list_next (of_shard circuits) done left rest next r.shards k same is count in
      subst (λ (o : Rules). AreOf o k xs) (sym own_is) (subst (λ (cs : List Static). AreOf r k cs) (sym (xs_are ∙ at.1)) (are_of r circuits k are))

  pub dealt_more : (circuits : List Static) (c : Static) (n i : ℕ) (lists : List V) (v w : V) → map f lists ≡ map (of_shard circuits) (range_with_len 0 n) → i ≡ shard_of c → i < length lists
      → f w ≡ f (get_or lists i v) ++ c ∷ [] → map f (set lists i w) ≡ map (of_shard (circuits ++ c ∷ [])) (range_with_len 0 n)
  dealt_more circuits c n i lists v w so_far at within here =
      let count : length lists ≡ n = list_count (of_shard circuits) lists n so_far in
      fill_by_all (of_shard (circuits ++ c ∷ [])) (map f (set lists i w)) n [] (length-map (set lists i w) f ∙ length-set lists i w ∙ count)
      (λ k lt.
      get_or-map f (set lists i w) k v [] (omega (arith, lt, count, length-set lists i w))
      ∙ placed circuits c k i lists v w (eqb (shard_of c) k) at within here (list_at (of_shard circuits) lists n k v so_far (omega (arith, lt, count))) refl
      ∙ sym (filter-append (λ (x : Static). shard_of x == k) circuits (c ∷ [])))

-- the next circuit's shard is one of so many
pub circuit_low : (circuits done left rest : List Static) (c : Static) (n : ℕ) → All (λ (x : Static). shard_of x < n) circuits → circuits ≡ done ++ rest → rest ≡ c ∷ left → shard_of c < n
circuit_low circuits done left rest c n low whole is =
    let all : circuits ≡ done ++ c ∷ left = whole ∙ ap (λ (xs : List Static). done ++ xs) is in
    let within : length done < length circuits = omega (arith, ap (λ (xs : List Static). length xs) all, length-append done (c ∷ left)) in
    subst (λ (x : Static). shard_of x < n) (ap (λ (xs : List Static). get_or xs (length done) c) all ∙ get_or_at done c left c (length done) refl) (low (length done) c within)

pub if_true : (b : Bool) (xs ys zs : List Static) → zs ≡ (if b then xs else ys) → b ≡ true → zs ≡ xs
if_true true xs ys zs is e = is
if_true false xs ys zs is e = absurd (false≢true e)

-- each port has its offer
pub offers_count : (name : List ℕ) (services : List (ArrayVec ℕ)) (key : List ℕ) (number : ℕ) (ports : List AccessPort) (offers : List PortRules) → AreOffersOf name services key number ports offers → length offers ≡ length ports
offers_count name services key number [] offers are = ap (λ (os : List PortRules). length os) are
offers_count name services key number (p ∷ ports) [] are = absurd are
offers_count name services key number (p ∷ ports) (o ∷ offers) are = ap suc (offers_count name services key (number + 1) ports offers are.1)
