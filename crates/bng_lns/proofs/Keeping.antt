-- What is kept of the places as one of them is written, and which tunnel a number has.
use Rattle.std.proofs.Common.{◌≡◌, ℕ, ◌+◌, ◌<◌, true, Option, None, Some, List, [], ◌∷◌, ◌++◌, length, option_map, slice_get, set, sym, ap, subst, ◌∙◌, arith, length-append}
use Rattle.std.specs.Prelude.{find, position, IsSome, is_some}
use Rattle.std.proofs.lemmas.Bool.{false≢true}
use Rattle.std.proofs.Math.ListN.{length-set}
use Rattle.bng_l2tp_tunnel.specs.TunnelState.{TunnelState}
use Rattle.bng_l2tp_tunnel.specs.Steps.{stands}
use Rattle.bng_lns.specs.declared.place.TunnelPlace.{TunnelPlace}
use Rattle.bng_lns.specs.Places.{number_at, is_numbered, place_of, IsPlace, IsKept}
use Rattle.bng_lns.specs.Tunnels.{TunnelsState, tunnel_at, with_step}
use Rattle.bng_lns.proofs.Finding.{found_at}
use Rattle.bng_lns.proofs.Numbered.{place_at, places_set, places_push, set_stepped}

module _ (shard room : ℕ) (places : List TunnelPlace) (was : IsKept shard places room) where
  pub place_in : (k : ℕ) (p : TunnelPlace) → slice_get places k ≡ Some p → IsPlace (number_at shard k) p
  place_in k p e =
      let add : number_at shard 0 + k ≡ number_at shard k = omega arith in
      subst (λ (n : ℕ). IsPlace n p) add (place_at (number_at shard 0) places k p was.are e)

  pub kept_set : (k : ℕ) (q : TunnelPlace) → IsPlace (number_at shard k) q → IsKept shard (set places k q) room
  kept_set k q is =
      let add : number_at shard k ≡ number_at shard 0 + k = omega arith in
      record {
        low = was.low;
        few = omega (arith, was.few, length-set places k q);
        fits = was.fits;
        are = places_set (number_at shard 0) places k q was.are (subst (λ (n : ℕ). IsPlace n q) add is);
      }

  pub kept_push : (q : TunnelPlace) → length places < 16 → IsPlace (number_at shard (length places)) q → IsKept shard (places ++ q ∷ []) room
  kept_push q few is =
      let add : number_at shard (length places) ≡ number_at shard 0 + length places = omega arith in
      record {
        low = was.low;
        few = omega (arith, few, length-append places (q ∷ []));
        fits = was.fits;
        are = places_push (number_at shard 0) places q was.are (subst (λ (n : ℕ). IsPlace n q) add is);
      }

-- no tunnel stands that is not found
pub none_stands : (t : TunnelsState) (number : ℕ) → find (is_numbered number) t.places ≡ None → IsSome (tunnel_at t number) → ⊥
none_stands t number none stands =
    false≢true (sym (ap (λ (o : Option TunnelPlace). is_some (option_map (λ (q : TunnelPlace). q.tunnel) o)) none) ∙ stands)

module _ (t : TunnelsState) (number k : ℕ) (p : TunnelPlace) (at : position (is_numbered number) t.places ≡ Some k) (there : slice_get t.places k ≡ Some p) where
  pub found_tunnel : tunnel_at t number ≡ Some p.tunnel
  found_tunnel = ap (λ (o : Option TunnelPlace). option_map (λ (q : TunnelPlace). q.tunnel) o) (found_at (is_numbered number) t.places k at ∙ there)

  -- it is the one that was asked for
  pub same_tunnel : (x : TunnelState) → tunnel_at t number ≡ Some x → p.tunnel ≡ x
  same_tunnel x e = let found = found_tunnel in cc

  -- the place is written as the tunnel takes a step
  pub tunnel_stepped : (room now : ℕ) (after : TunnelState) (q : TunnelPlace) → IsKept t.shard t.places room → is_numbered number p ≡ true → q ≡ place_of now after
      → record t { places = set t.places k q } ≡ with_step now t number after
  tunnel_stepped room now after q was is e =
      ap (λ (x : TunnelPlace). let s : TunnelsState = record t { places = set t.places k x } in s) e
      ∙ ap (λ (ps : List TunnelPlace). let s : TunnelsState = record t { places = ps } in s) (set_stepped now number after (number_at t.shard 0) t.places k p was.are there is)
