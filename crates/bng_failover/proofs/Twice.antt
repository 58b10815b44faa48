-- Lists of one and of two servers have none twice.
use Rattle.std.proofs.Common.{◌≡◌, ◌≢◌, zero, suc, [], ◌∷◌, Some, None, refl}
use Rattle.bng_base.specs.declared.address.Peer.{Peer}
use Rattle.bng_failover.specs.State.{NoneTwice}

pub one_once : (p : Peer) → NoneTwice (p ∷ [])
one_once p zero zero x e f = refl
one_once p zero (suc j) x e f = absurd (let both : None ≡ Some x = f in cc)
one_once p (suc i) j x e f = absurd (let both : None ≡ Some x = e in cc)

pub two_once : (p q : Peer) → p ≢ q → NoneTwice (p ∷ q ∷ [])
two_once p q differ zero zero x e f = refl
two_once p q differ zero (suc zero) x e f = absurd (let same : p ≡ q = cc in differ same)
two_once p q differ zero (suc (suc j)) x e f = absurd (let both : None ≡ Some x = f in cc)
two_once p q differ (suc zero) zero x e f = absurd (let same : p ≡ q = cc in differ same)
two_once p q differ (suc zero) (suc zero) x e f = refl
two_once p q differ (suc zero) (suc (suc j)) x e f = absurd (let both : None ≡ Some x = f in cc)
two_once p q differ (suc (suc i)) j x e f = absurd (let both : None ≡ Some x = e in cc)
