-- One packet more.
use Rattle.std.proofs.Common.{◌≡◌, List, [], ◌∷◌, ◌++◌, refl, ap}
use Rattle.bng_meter.specs.Bucket.{Buckets, Offer, filled, colour_of, taken, after, colours}

pub after-append : (b : Buckets) (xs : List Offer) (x : Offer) → after b (xs ++ x ∷ []) ≡ taken (after b xs) x
after-append b [] x = refl
after-append b (y ∷ ys) x = after-append (taken b y) ys x

pub colours-append : (b : Buckets) (xs : List Offer) (x : Offer) → colours b (xs ++ x ∷ []) ≡ colours b xs ++ colour_of (filled (after b xs) x.0) x.1 ∷ []
colours-append b [] x = refl
colours-append b (y ∷ ys) x = ap (λ z. colour_of (filled b y.0) y.1 ∷ z) (colours-append (taken b y) ys x)
