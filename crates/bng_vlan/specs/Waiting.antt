-- The frames that wait for their entries.
use Rattle.std.specs.Prelude.{◌≡◌, ◌<◌, ◌≤◌, ℕ, ◌+◌, ◌-◌, ◌^◌, List, [], ◌∷◌, ◌++◌, Option, Some, unwrap_or, count_by, length, min, slice_get}
use Rattle.bng_vlan.specs.declared.map.VlanEntry.{VlanEntry}
use Rattle.bng_vlan.specs.Map.{Trunks}
use Rattle.bng_vlan.specs.Frames.{Came, frames_of, is_stray}

-- for each entry, in the order of the map, the frames that wait for it, the oldest first and without their tags; and how many
-- frames were strays, a count that stands still at the end of its type
pub record Waiting : Type 0 where
  pub frames : List (List (List ℕ))
  pub strays : ℕ

-- so many more are counted
abbrev pub counted : (count more : ℕ) → ℕ
counted count more = count + min more (2 ^ 64 - 1 - count)

-- those that wait for the entry at a place
abbrev pub frames_at : ℕ → List (List (List ℕ)) → List (List ℕ)
frames_at place frames = unwrap_or (slice_get frames place) []

-- Sixteen frames are kept for the entry at a place, and one more of it is held on its trunk.
abbrev pub IsHeldAt : ℕ → List (List (List ℕ)) → Type 0
IsHeldAt place frames = 16 < length (frames_at place frames)

-- a frame of this trunk is held, whose entry has 16 frames
pub record Holds (entries : List VlanEntry) (frames : List (List (List ℕ))) (trunk : ℕ) : Type 0 where
  pub place : ℕ
  pub entry : VlanEntry
  pub stands : slice_get entries place ≡ Some entry
  pub same : entry.trunk ≡ trunk
  pub full : IsHeldAt place frames

-- at most 16 frames are kept for an entry, and at most one frame of a trunk is held
pub record AreFew (entries : List VlanEntry) (frames : List (List (List ℕ))) : Type 0 where
  pub few : (i : ℕ) → length (frames_at i frames) ≤ 17
  pub one : (i j : ℕ) (d e : VlanEntry) → slice_get entries i ≡ Some d → slice_get entries j ≡ Some e → d.trunk ≡ e.trunk → IsHeldAt i frames → IsHeldAt j frames → i ≡ j

-- These came, and nothing was given: each is behind those that wait for its entry, or was counted.
pub record Keeps (m : Trunks) (v : Waiting) (came : List Came) (w : Waiting) : Type 0 where
  pub each : (i : ℕ) (e : VlanEntry) → slice_get m.entries i ≡ Some e → frames_at i v.frames ++ frames_of m e came ≡ frames_at i w.frames
  pub strays : w.strays ≡ counted v.strays (count_by (is_stray m) came)

-- the oldest frame that waited for an entry was given
pub record Gives (place : ℕ) (v : Waiting) (octets : List ℕ) (w : Waiting) : Type 0 where
  pub here : frames_at place v.frames ≡ octets ∷ frames_at place w.frames
  pub others : (i : ℕ) → ¬ (i ≡ place) → frames_at i w.frames ≡ frames_at i v.frames
  pub strays : w.strays ≡ v.strays
