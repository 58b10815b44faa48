-- A search in a list of attributes and in what they are without where they lie in memory.
use Rattle.std.proofs.Common.{◌≡◌, Bool, true, false, cond, sym, List, [], ◌∷◌, Option, Some, None, refl, ap, ◌∙◌}
use Rattle.std.specs.Prelude.{map, find}
use Rattle.std.specs.Option.{option_map}

found-map : {A B : Type 0} (f : A → B) (b : Bool) (x : A) (rest : Option A) → option_map f (cond b (Some x) rest) ≡ cond b (Some (f x)) (option_map f rest)
found-map f true x rest = refl
found-map f false x rest = refl

pub find-map : {A B : Type 0} (f : A → B) (p : B → Bool) (xs : List A) → find p (map f xs) ≡ option_map f (find (λ x. p (f x)) xs)
find-map f p [] = refl
find-map {A} {B} f p (x ∷ xs) =
    ap (λ (o : Option B). cond (p (f x)) (Some (f x)) o) (find-map f p xs)
    ∙ sym (found-map f (p (f x)) x (find (λ x. p (f x)) xs))

pub map_same : {A : Type 0} {y : Option A} (o : Option A) → option_map (λ x. x) o ≡ y → o ≡ y
map_same None e = e
map_same (Some x) e = e
