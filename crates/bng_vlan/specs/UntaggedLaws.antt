-- What a plant over trunks adds, one stretch after another.
use Rattle.std.proofs.Common.{◌≡◌, ℕ, ◌+◌, ◌^◌, ◌-◌, ◌≤◌, Bool, List, [], ◌∷◌, ◌++◌, None, min, refl, not, is_some, sym, ap, subst, ◌∙◌, append_assoc, append-nil, arith, map, filter}
use Rattle.std.specs.List.{AllByRecursion, flat_map, sum_by, count_by}
use Rattle.std.proofs.lemmas.List.{map-append}
use Rattle.std.proofs.lemmas.List.Concat.{flat_map-append}
use Rattle.std.proofs.lemmas.List.Elements.{filter-append}
use Rattle.std.proofs.lemmas.List.Sums.{sum_by-append}
use Rattle.bng_base.specs.declared.outside.Datagram.{Datagram}
use Rattle.bng_base.specs.declared.outside.Heard.{Heard}
use Rattle.bng_base.specs.Told.{PlantTold}
use Rattle.bng_base.specs.Stretch.{PlantStretch, plant_none, plant_joined, ExtendsPlant}
use Rattle.bng_vlan.specs.Stretches.{told_over}
use Rattle.bng_vlan.specs.declared.map.VlanEntry.{VlanEntry}
use Rattle.bng_vlan.specs.Map.{Trunks, is_trunk, entry_of}
use Rattle.bng_vlan.specs.Frames.{Came, frames_of, is_of, is_stray, receive_of, datagram_of}
use Rattle.bng_vlan.specs.Tags.{without}
use Rattle.bng_vlan.specs.Waiting.{Waiting, counted, frames_at}
use Rattle.bng_vlan.specs.Hearing.{Hears, HearsPart, Part}
use Rattle.bng_vlan.specs.Untagged.{Untagged, AreOf, took_of_trunk, gifts, given_to, tagged_by}

-- a homomorphism of lists at two equations, one after the other
joins : {X Y : Type 0} (f : List X → List Y) → ((a b : List X) → f (a ++ b) ≡ f a ++ f b) → (a b : List X) (s t : List Y) → f a ≡ s → f b ≡ t → f (a ++ b) ≡ s ++ t
joins f hom a b s t p q = hom a b ∙ ap (λ x. x ++ f b) p ∙ ap (λ x. s ++ x) q

-- what waited and came is what was given and waits
passes : {X : Type 0} (u v w a b s t : List X) → u ++ a ≡ s ++ v → v ++ b ≡ t ++ w → u ++ (a ++ b) ≡ (s ++ t) ++ w
passes u v w a b s t p q =
    sym (append_assoc u a b) ∙ ap (λ x. x ++ b) p ∙ append_assoc s v b ∙ ap (λ x. s ++ x) q ∙ sym (append_assoc s t w)

-- a count that stands still at its end
pub counts : (u v w a b : ℕ) → v ≡ counted u a → w ≡ counted v b → w ≡ counted u (a + b)
counts u v w a b p q = omega arith

pub all_join : {X : Type 0} (P : X → Type 0) (xs ys : List X) → AllByRecursion P xs → AllByRecursion P ys → AllByRecursion P (xs ++ ys)
all_join P [] ys p q = q
all_join P (x ∷ xs) ys p q = (p.0, all_join P xs ys p.1 q)

pub frames_of_append : (m : Trunks) (e : VlanEntry) (a b : List Came) → frames_of m e (a ++ b) ≡ frames_of m e a ++ frames_of m e b
frames_of_append m e a b =
    ap (map (λ (c : Came). without e.inner c.octets)) (filter-append (λ (c : Came). is_of m c e) a b)
    ∙ map-append (λ (c : Came). without e.inner c.octets) (filter (λ (c : Came). is_of m c e) a) (filter (λ (c : Came). is_of m c e) b)

pub strays_append : (m : Trunks) (a b : List Came) → count_by (is_stray m) (a ++ b) ≡ count_by (is_stray m) a + count_by (is_stray m) b
strays_append m a b = sum_by-append _ a b

pub hears_none : (m : Trunks) → Hears m [] []
hears_none m = record { parts = []; aboves = refl; belows = refl; each = tt }

pub hears_more : (m : Trunks) (a b s t : List Heard) → Hears m s a → Hears m t b → Hears m (s ++ t) (a ++ b)
hears_more m a b s t x y = record {
  parts = x.parts ++ y.parts;
  aboves = joins (map (λ (p : Part). p.above)) (map-append (λ (p : Part). p.above)) x.parts y.parts s t x.aboves y.aboves;
  belows = joins (flat_map (λ (p : Part). p.below)) (flat_map-append (λ (p : Part). p.below)) x.parts y.parts a b x.belows y.belows;
  each = all_join (λ (p : Part). HearsPart m p.above p.below) x.parts y.parts x.each y.each;
}

are_more : (m : Trunks) (c d : List Came) (a b : PlantStretch) → AreOf m c a → AreOf m d b → AreOf m (c ++ d) (plant_joined a b)
are_more m c d a b x y = record {
  heard = joins (filter (took_of_trunk m)) (filter-append (took_of_trunk m)) a.heard b.heard (map receive_of c) (map receive_of d) x.heard y.heard ∙ sym (map-append receive_of c d);
  taken = joins (filter (λ (d : Datagram). is_trunk m d.role)) (filter-append (λ (d : Datagram). is_trunk m d.role)) a.taken b.taken (map datagram_of c) (map datagram_of d) x.taken y.taken ∙ sym (map-append datagram_of c d);
}

gifts_of_append : (m : Trunks) (e : VlanEntry) (a b : List Came) → gifts m e (frames_of m e (a ++ b)) ≡ gifts m e (frames_of m e a) ++ gifts m e (frames_of m e b)
gifts_of_append m e a b = ap (gifts m e) (frames_of_append m e a b) ∙ map-append _ (frames_of m e a) (frames_of m e b)

given_append : (e : VlanEntry) (s t : List Datagram) → given_to e (s ++ t) ≡ given_to e s ++ given_to e t
given_append e s t = filter-append _ s t

pub untagged_none : (m : Trunks) (v : Waiting) → Untagged m v plant_none plant_none v
untagged_none m v = record {
  came = [];
  are = record { heard = refl; taken = refl };
  each = λ i e stands. append-nil (gifts m e (frames_at i v.frames));
  strays = omega arith;
  others = refl;
  sent = refl;
  heard = hears_none m;
  failed = refl;
}

more_at : (m : Trunks) (u v w : Waiting) (a b s t : PlantStretch) → Untagged m u a s v → Untagged m v b t w → Untagged m u (plant_joined a b) (plant_joined s t) w
more_at m u v w a b s t x y = record {
  came = x.came ++ y.came;
  are = are_more m x.came y.came a b x.are y.are;
  each = λ i e stands.
      ap (λ z. gifts m e (frames_at i u.frames) ++ z) (gifts_of_append m e x.came y.came)
      ∙ passes (gifts m e (frames_at i u.frames)) (gifts m e (frames_at i v.frames)) (gifts m e (frames_at i w.frames)) (gifts m e (frames_of m e x.came)) (gifts m e (frames_of m e y.came)) (given_to e s.taken) (given_to e t.taken) (x.each i e stands) (y.each i e stands)
      ∙ ap (λ z. z ++ gifts m e (frames_at i w.frames)) (sym (given_append e s.taken t.taken));
  strays = counts u.strays v.strays w.strays (count_by (is_stray m) x.came) (count_by (is_stray m) y.came) x.strays y.strays ∙ ap (counted u.strays) (sym (strays_append m x.came y.came));
  others =
      filter-append (λ (d : Datagram). not (is_trunk m d.role)) a.taken b.taken
      ∙ ap (λ z. z ++ filter (λ (d : Datagram). not (is_trunk m d.role)) b.taken) x.others
      ∙ ap (λ z. filter (λ (d : Datagram). not (is_some (entry_of m d.role))) s.taken ++ z) y.others
      ∙ sym (filter-append (λ (d : Datagram). not (is_some (entry_of m d.role))) s.taken t.taken);
  sent = ap (λ z. z ++ b.sent) x.sent ∙ ap (λ z. map (tagged_by m) s.sent ++ z) y.sent ∙ sym (map-append (tagged_by m) s.sent t.sent);
  heard = hears_more m a.heard b.heard s.heard t.heard x.heard y.heard;
  failed = ap (λ n. n + b.failed) x.failed ∙ ap (λ n. s.failed + n) y.failed;
}

pub untagged_more : (m n : Trunks) (u v w : Waiting) (a b s t : PlantStretch) → m ≡ n → Untagged m u a s v → Untagged n v b t w → Untagged m u (plant_joined a b) (plant_joined s t) w
untagged_more m n u v w a b s t same x y =
    let y' : Untagged m v b t w = subst (λ (k : Trunks). Untagged k v b t w) (sym same) y in more_at m u v w a b s t x y'

pub untagged_tells : (p q : PlantTold) (below above : PlantStretch) → ExtendsPlant p q below → below.failed ≡ above.failed → ExtendsPlant (told_over p) (told_over q) above
untagged_tells p q below above x same = record {
  bound = x.bound;
  heard = λ _. refl;
  taken = refl;
  sent = refl;
  causes = record { later = x.causes.later; rose = omega (arith, x.causes.rose, same) };
}
