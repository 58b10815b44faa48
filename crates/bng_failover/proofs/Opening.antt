-- Servers with no request.
use Rattle.std.proofs.Common.{◌≡◌, ℕ, zero, suc, ◌<◌, Bool, false, cond, List, [], ◌∷◌, length, map, replicate, Option, Some, None, refl, sym, ap, subst, ◌∙◌, arith}
use Rattle.std.specs.Prelude.{is_some, slice_get, count_by}
use Rattle.std.specs.Option.{option_map}
use Rattle.std.proofs.lemmas.List.Sums.{sum_by-cons}
use Rattle.std.proofs.lemmas.Option.{slice_get-map}
use Rattle.bng_base.specs.declared.address.Peer.{Peer}
use Rattle.bng_rad_client.specs.declared.pending.Pending.{Pending}
use Rattle.bng_rad_client.specs.Table.{request_of}
use Rattle.bng_failover.specs.declared.server.Server.{Server}
use Rattle.bng_failover.specs.Servers.{new_server, number, in_hand, is_of, held, IsSoundServer, AreSound}
use Rattle.bng_rad_client.specs.declared.rules.Owner.{Owner}

abbrev none : ℕ → List (Option Pending)
none n = replicate n None

no_request : (n id : ℕ) (r : Pending) → request_of (none n) id ≡ Some r → ⊥
no_request zero id r e = let both : None ≡ Some r = e in cc
no_request (suc n) zero r e = let both : None ≡ Some r = e in cc
no_request (suc n) (suc id) r e = no_request n id r e

no_count : (test : Option Pending → Bool) → test None ≡ false → (n : ℕ) → count_by test (none n) ≡ 0
no_count test e zero = refl
no_count test e (suc n) =
    let of : Bool → ℕ = λ b. cond b 1 0 in
    let one : of (test None) ≡ of false = ap of e in
    omega (arith, no_count test e n, one, sum_by-cons (λ (p : Option Pending). cond (test p) 1 0) None (none n))

no_number : (test : Option Pending → Bool) → test None ≡ false → (peers : List Peer) → number test (map new_server peers) ≡ 0
no_number test e [] = refl
no_number test e (p ∷ peers) =
    omega (arith, no_number test e peers, no_count test e 256, sum_by-cons (λ (s : Server). count_by test s.requests.places) (new_server p) (map new_server peers))

pub opened_none : (peers : List Peer) → in_hand (map new_server peers) ≡ 0
opened_none peers = no_number is_some refl peers

pub opened_held : (test : Owner → Bool) (peers : List Peer) → held test (map new_server peers) ≡ 0
opened_held test peers = no_number (is_of test) refl peers

new_is_sound : (p : Peer) → IsSoundServer (new_server p)
new_is_sound p = record { size = refl; requests = λ id r e. absurd (no_request 256 id r e) }

from_peer : (s : Server) (p : Option Peer) → option_map new_server p ≡ Some s → IsSoundServer s
from_peer s None e = absurd cc
from_peer s (Some p) e = let one : new_server p ≡ s = cc in subst IsSoundServer one (new_is_sound p)

new_length : (peers : List Peer) → length (map new_server peers) ≡ length peers
new_length [] = refl
new_length (p ∷ peers) = ap suc (new_length peers)

pub opened_sound : (peers : List Peer) → 0 < length peers → AreSound (map new_server peers)
opened_sound peers some = record {
  some = omega (arith, some, new_length peers);
  most = omega (arith, opened_none peers);
  each = λ at s is. from_peer s (slice_get peers at) (sym (slice_get-map new_server peers at) ∙ is);
}
