-- One datagram more, of a role that is read.
use Rattle.std.proofs.Common.{◌≡◌, ℕ, ◌+◌, arith, Bool, true, false, ◌||◌, ◌&&◌, not, List, [], ◌∷◌, ◌++◌, map, cond, refl, sym, ap, subst, ◌∙◌}
use Rattle.std.specs.List.{count_by, filter, list_any}
use Rattle.std.proofs.lemmas.List.{map-append}
use Rattle.std.proofs.lemmas.List.Elements.{filter-append}
use Rattle.std.proofs.lemmas.List.Folds.{list_any-append}
use Rattle.std.proofs.lemmas.List.Sums.{sum_by_push}
use Rattle.bng_base.specs.declared.outside.Role.{Role}
use Rattle.bng_base.specs.declared.outside.Role.TheVariants.{Control}
use Rattle.bng_base.specs.declared.outside.Received.TheVariants.{Got}
use Rattle.bng_base.specs.declared.outside.Datagram.{Datagram}
use Rattle.bng_base.specs.declared.outside.Heard.{Heard}
use Rattle.bng_base.specs.declared.outside.Heard.TheVariants.{Receive}
use Rattle.bng_base.specs.FateOf.{Arrival}
use Rattle.bng_base.specs.Told.{PlantTold}
use Rattle.bng_base.specs.Stretch.{PlantStretch, plant_joined, ExtendsPlant}
use Rattle.bng_base.proofs.StretchLaws.{plant_more, plant_stays}
use Rattle.bng_engine.specs.Lists.{one_if}
use Rattle.bng_desk.specs.Reading.{is_empty, receiving, sending}
use Rattle.bng_desk.specs.Control.{Heeded, is_near, is_answered, is_unanswered, reply_text, reply, heeding, answering}

abbrev made : List Heard → List Datagram → List Datagram → ℕ → PlantStretch
made h t s f = record { heard = h; taken = t; sent = s; failed = f }

same : (a b : PlantStretch) → a.heard ≡ b.heard → a.taken ≡ b.taken → a.sent ≡ b.sent → a.failed ≡ b.failed → a ≡ b
same a b h t s f =
    ap (λ (x : List Heard). made x a.taken a.sent a.failed) h
    ∙ ap (λ (x : List Datagram). made b.heard x a.sent a.failed) t
    ∙ ap (λ (x : List Datagram). made b.heard b.taken x a.failed) s
    ∙ ap (λ (n : ℕ). made b.heard b.taken b.sent n) f

abbrev as_datagram : Role → Arrival → Datagram
as_datagram role a = record { role = role; peer = a.from; octets = a.octets }

or_end : (b : Bool) → b ≡ (b || false)
or_end true = refl
or_end false = refl

map_kept : {X : Type 0} (f : X → Datagram) (x : X) (b : Bool) → cond b (f x ∷ []) [] ≡ map f (cond b (x ∷ []) [])
map_kept f x true = refl
map_kept f x false = refl

mapped_more : {X Y Z : Type 0} (f : Y → Z) (a : X → Y) (xs : List X) (x : X) → map f (map a xs) ++ f (a x) ∷ [] ≡ map f (map a (xs ++ x ∷ []))
mapped_more f a xs x = sym (ap (map f) (map-append a xs (x ∷ [])) ∙ map-append f (map a xs) (a x ∷ []))

kept_more : {X : Type 0} (f : X → Datagram) (p : X → Bool) (xs : List X) (x : X) → map f (filter p xs) ++ cond (p x) (f x ∷ []) [] ≡ map f (filter p (xs ++ x ∷ []))
kept_more f p xs x =
    ap (λ (ds : List Datagram). map f (filter p xs) ++ ds) (map_kept f x (p x))
    ∙ sym (ap (map f) (filter-append p xs (x ∷ [])) ∙ map-append f (filter p xs) (cond (p x) (x ∷ []) []))

any_more : {X : Type 0} (p : X → Bool) (xs : List X) (x : X) → (list_any p xs || p x) ≡ list_any p (xs ++ x ∷ [])
any_more p xs x = ap (λ (b : Bool). list_any p xs || b) (or_end (p x)) ∙ sym (list_any-append p xs (x ∷ []))

pub any_pushed : {X : Type 0} (p : X → Bool) (xs : List X) (x : X) → list_any p (xs ++ x ∷ []) ≡ (list_any p xs || p x)
any_pushed p xs x = sym (any_more p xs x)

-- how many of them, with one more
pub count_pushed : {X : Type 0} (p : X → Bool) (xs : List X) (x : X) → count_by p xs + one_if (p x) ≡ count_by p (xs ++ x ∷ [])
count_pushed p xs x = sym (sum_by_push (λ y. one_if (p y)) xs x)

-- the receive that took it did not fail
heeded_failed : (hs : List Heeded) (h : Heeded) → count_by is_unanswered hs + (0 + one_if (is_unanswered h)) ≡ count_by is_unanswered (hs ++ h ∷ [])
heeded_failed hs h = omega (arith, count_pushed is_unanswered hs h)

heeding_more : (stats : List ℕ) (hs : List Heeded) (h : Heeded)
    → plant_joined (heeding stats hs) (plant_joined (receiving Control (Got h.arrival.from h.arrival.cut) h.arrival.octets) (answering stats h)) ≡ heeding stats (hs ++ h ∷ [])
heeding_more stats hs h = same _ _
    (mapped_more (λ (a : Arrival). Receive Control (Got a.from a.cut)) (λ (k : Heeded). k.arrival) hs h)
    (mapped_more (λ (a : Arrival). as_datagram Control a) (λ (k : Heeded). k.arrival) hs h)
    (kept_more (reply stats) is_answered hs h)
    (heeded_failed hs h)

-- a datagram of Control was taken and answered
pub one_heeded : (stats : List ℕ) (p₀ p₁ p₂ p₃ : PlantTold) (hs : List Heeded) (h : Heeded) → ExtendsPlant p₀ p₁ (heeding stats hs)
    → ExtendsPlant p₁ p₂ (receiving Control (Got h.arrival.from h.arrival.cut) h.arrival.octets) → ExtendsPlant p₂ p₃ (answering stats h) → ExtendsPlant p₀ p₃ (heeding stats (hs ++ h ∷ []))
one_heeded stats p₀ p₁ p₂ p₃ hs h so_far taken answered =
    subst (λ (s : PlantStretch). ExtendsPlant p₀ p₃ s) (heeding_more stats hs h)
    (plant_more p₀ p₁ p₃ (heeding stats hs) (plant_joined (receiving Control (Got h.arrival.from h.arrival.cut) h.arrival.octets) (answering stats h)) so_far
    (plant_more p₁ p₂ p₃ (receiving Control (Got h.arrival.from h.arrival.cut) h.arrival.octets) (answering stats h) taken answered))

-- a datagram of Control from elsewhere is not answered
pub unanswered : (stats : List ℕ) (p : PlantTold) (a : Arrival) → is_near a ≡ false → ExtendsPlant p p (answering stats (record { arrival = a; answered = false }))
unanswered stats p a far = subst (λ (b : Bool). ExtendsPlant p p (made [] [] (cond (b && false) (reply stats (record { arrival = a; answered = false }) ∷ []) []) (one_if (b && not false)))) (sym far) (plant_stays p)

-- the answer to one from 127.0.0.0/8
pub answered_as : (stats : List ℕ) (p p' : PlantTold) (a : Arrival) (sent : Bool) → is_near a ≡ true → ExtendsPlant p p' (sending Control a.from (reply_text stats a) sent) → ExtendsPlant p p' (answering stats (record { arrival = a; answered = sent }))
answered_as stats p p' a sent near told = subst (λ (b : Bool). ExtendsPlant p p' (made [] [] (cond (b && sent) (reply stats (record { arrival = a; answered = sent }) ∷ []) []) (one_if (b && not sent)))) (sym near) told

pub never_empty : {X : Type 0} (xs : List X) (x : X) → false ≡ is_empty (xs ++ x ∷ [])
never_empty [] x = refl
never_empty (y ∷ xs) x = refl
