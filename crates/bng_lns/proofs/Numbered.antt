-- Places with their numbers: each stands as many places on as its number is higher.
use Rattle.std.proofs.Common.{◌≡◌, ℕ, zero, suc, ◌+◌, ◌<◌, ◌≤◌, ◌==◌, Bool, true, false, ◌&&◌, cond, Option, None, Some, List, [], ◌∷◌, ◌++◌, length, option_map, slice_get, set, refl, sym, ap, subst, ◌∙◌, arith}
use Rattle.std.specs.Prelude.{IsSome, find}
use Rattle.std.proofs.lemmas.Bool.{eqb-true, eq-eqb, ne_eqb, and_parts, and_from, and_right, lt-ltb, le-ltb}
use Rattle.bng_l2tp_tunnel.specs.TunnelState.{TunnelState, Lasting, lasting_of}
use Rattle.bng_l2tp_tunnel.specs.Steps.{stands}
use Rattle.bng_l2tp_tunnel.specs.Sound.{IsTunnel}
use Rattle.bng_lns.specs.declared.place.TunnelPlace.{TunnelPlace}
use Rattle.bng_base.specs.declared.address.Peer.{Peer}
use Rattle.bng_lns.specs.Places.{is_numbered, same_peer, is_named, is_number, is_again, place_of, stepped, put_at, IsPlace, ArePlaces}
use Rattle.bng_lns.specs.Tunnels.{tunnel_at}
use Rattle.bng_lns.proofs.Finding.{some_found}

pub place_at : (n : ℕ) (places : List TunnelPlace) (k : ℕ) (p : TunnelPlace) → ArePlaces n places → slice_get places k ≡ Some p → IsPlace (n + k) p
place_at n [] k p h e = absurd cc
place_at n (q ∷ places) zero p h e =
    let same : q ≡ p = cc in
    let add : n ≡ n + 0 = omega arith in
    subst (λ (m : ℕ). IsPlace m p) add (subst (λ (x : TunnelPlace). IsPlace n x) same h.0)
place_at n (q ∷ places) (suc k) p h e =
    let add : n + 1 + k ≡ n + suc k = omega arith in
    subst (λ (m : ℕ). IsPlace m p) add (place_at (n + 1) places k p h.1 e)

pub places_set : (n : ℕ) (places : List TunnelPlace) (k : ℕ) (p : TunnelPlace) → ArePlaces n places → IsPlace (n + k) p → ArePlaces n (set places k p)
places_set n [] k p h is = h
places_set n (q ∷ places) zero p h is = let add : n + 0 ≡ n = omega arith in (subst (λ (m : ℕ). IsPlace m p) add is, h.1)
places_set n (q ∷ places) (suc k) p h is =
    let add : n + suc k ≡ n + 1 + k = omega arith in (h.0, places_set (n + 1) places k p h.1 (subst (λ (m : ℕ). IsPlace m p) add is))

pub places_push : (n : ℕ) (places : List TunnelPlace) (p : TunnelPlace) → ArePlaces n places → IsPlace (n + length places) p → ArePlaces n (places ++ p ∷ [])
places_push n [] p h is = let add : n + 0 ≡ n = omega arith in (subst (λ (m : ℕ). IsPlace m p) add is, tt)
places_push n (q ∷ places) p h is =
    let add : n + length (q ∷ places) ≡ n + 1 + length places = omega arith in (h.0, places_push (n + 1) places p h.1 (subst (λ (m : ℕ). IsPlace m p) add is))

-- a tunnel keeps its place, since it keeps its number
pub keeps_place : (old new : TunnelPlace) → lasting_of new.tunnel ≡ lasting_of old.tunnel → (IsTunnel old.tunnel → IsTunnel new.tunnel) → (number : ℕ) → IsPlace number old → IsPlace number new
keeps_place old new e h number is = record { number_is = ap (λ (l : Lasting). l.number) e ∙ is.number_is; sound = h is.sound }

-- The tunnel with a number ----------------------------------------------------------------------------------------------------------------

pub numbered_self : (p : TunnelPlace) → stands p.tunnel.phase ≡ true → is_numbered p.tunnel.number p ≡ true
numbered_self p e = and_from (stands p.tunnel.phase) (p.tunnel.number == p.tunnel.number) e (eq-eqb p.tunnel.number p.tunnel.number refl)

pub its_number : (number : ℕ) (p : TunnelPlace) → is_numbered number p ≡ true → p.tunnel.number ≡ number
its_number number p e = eqb-true p.tunnel.number number (and_parts (stands p.tunnel.phase) (p.tunnel.number == number) e).1

pub it_stands : (number : ℕ) (p : TunnelPlace) → is_numbered number p ≡ true → stands p.tunnel.phase ≡ true
it_stands number p e = (and_parts (stands p.tunnel.phase) (p.tunnel.number == number) e).0

other_number : (number : ℕ) (p : TunnelPlace) → (p.tunnel.number ≡ number → ⊥) → is_numbered number p ≡ false
other_number number p other = and_right (stands p.tunnel.phase) (p.tunnel.number == number) (ne_eqb p.tunnel.number number other)

-- places of higher numbers stay as they are
higher_stay : (now number : ℕ) (after : TunnelState) (n : ℕ) (places : List TunnelPlace) → number < n → ArePlaces n places → stepped now number after places ≡ places
higher_stay now number after n [] few h = refl
higher_stay now number after n (p ∷ places) few h =
    let other = other_number number p (λ e. omega (arith, few, h.0.number_is, e)) in
    ap (λ (b : Bool). cond b (place_of now after) p ∷ stepped now number after places) other
    ∙ ap (λ (ps : List TunnelPlace). p ∷ ps) (higher_stay now number after (n + 1) places (omega (arith, few)) h.1)

-- the place of a number is written: its tunnel took a step
pub set_stepped : (now number : ℕ) (after : TunnelState) (n : ℕ) (places : List TunnelPlace) (k : ℕ) (p : TunnelPlace) → ArePlaces n places → slice_get places k ≡ Some p → is_numbered number p ≡ true
    → set places k (place_of now after) ≡ stepped now number after places
set_stepped now number after n [] k p h e q = absurd cc
set_stepped now number after n (x ∷ places) zero p h e q =
    let same : x ≡ p = cc in
    let yes : is_numbered number x ≡ true = ap (is_numbered number) same ∙ q in
    ap (λ (ps : List TunnelPlace). place_of now after ∷ ps) (sym (higher_stay now number after (n + 1) places (omega (arith, its_number number x yes, h.0.number_is)) h.1))
    ∙ ap (λ (b : Bool). cond b (place_of now after) x ∷ stepped now number after places) (sym yes)
set_stepped now number after n (x ∷ places) (suc k) p h e q =
    let at = place_at (n + 1) places k p h.1 e in
    let other = other_number number x (λ same. omega (arith, h.0.number_is, at.number_is, its_number number p q, same)) in
    ap (λ (ps : List TunnelPlace). x ∷ ps) (set_stepped now number after (n + 1) places k p h.1 e q)
    ∙ ap (λ (b : Bool). cond b (place_of now after) x ∷ stepped now number after places) (sym other)

get_set : (places : List TunnelPlace) (k : ℕ) (p q : TunnelPlace) → slice_get places k ≡ Some p → slice_get (set places k q) k ≡ Some q
get_set [] k p q e = absurd cc
get_set (x ∷ places) zero p q e = refl
get_set (x ∷ places) (suc k) p q e = get_set places k p q e

map_some : (o : Option TunnelPlace) → IsSome o → IsSome (option_map (λ (p : TunnelPlace). p.tunnel) o)
map_some None e = e
map_some (Some p) e = refl

-- a tunnel that stands at a place is found by its number
pub stands_there : (shard : ℕ) (places : List TunnelPlace) (k : ℕ) (p q : TunnelPlace) → slice_get places k ≡ Some p → stands q.tunnel.phase ≡ true
    → IsSome (tunnel_at (record { shard = shard; places = set places k q }) q.tunnel.number)
stands_there shard places k p q e f =
    map_some (find (is_numbered q.tunnel.number) (set places k q)) (some_found (is_numbered q.tunnel.number) (set places k q) k q (get_set places k p q e) (numbered_self q f))

-- A place that is taken --------------------------------------------------------------------------------------------------------------------

pub put_within : (k : ℕ) (p : TunnelPlace) (places : List TunnelPlace) → k < length places → put_at k p places ≡ set places k p
put_within k p places within = ap (λ (b : Bool). cond b (set places k p) (places ++ p ∷ [])) (lt-ltb k (length places) within)

pub put_next : (k : ℕ) (p : TunnelPlace) (places : List TunnelPlace) → length places ≤ k → put_at k p places ≡ places ++ p ∷ []
put_next k p places past = ap (λ (b : Bool). cond b (set places k p) (places ++ p ∷ [])) (le-ltb k (length places) past)

pub named_stands : (from : Peer) (number : ℕ) (p : TunnelPlace) → is_named from number p ≡ true → stands p.tunnel.phase ≡ true
named_stands from number p e = it_stands number p (and_parts (is_numbered number p) (same_peer p.tunnel.peer from) e).0

pub again_stands : (from : Peer) (id : Option ℕ) (p : TunnelPlace) → is_again from id p ≡ true → stands p.tunnel.phase ≡ true
again_stands from None p e = absurd cc
again_stands from (Some id) p e =
    (and_parts (stands p.tunnel.phase) (same_peer p.tunnel.peer from) (and_parts (stands p.tunnel.phase && same_peer p.tunnel.peer from) (is_number p.tunnel.peer_number id) e).0).0
