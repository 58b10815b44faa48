-- A queue in a ring of places.
use Rattle.std.specs.Prelude.{◌≡◌, ◌<◌, ◌≤◌, ℕ, List, ◌++◌, map, take, drop, length}
use Rattle.bng_base.specs.Packet.{Packet}

-- so many places from one on, and on from the first after the last
abbrev pub window : {X : Type 0} → (from size : ℕ) → List X → List X
window from size places = take size (drop from places ++ take from places)

abbrev pub payloads : List Packet → List (List ℕ)
payloads frames = map (λ f. f.payload) frames

-- each place has a frame with all its headroom
abbrev pub HaveHeadroom : List Packet → Type 0
HaveHeadroom frames = map (λ f. f.headroom) frames ≡ map (λ _. 64) frames
