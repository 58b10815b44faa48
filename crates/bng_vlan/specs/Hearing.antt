-- What a plant over trunks hears, and what the plant below hears for it.
use Rattle.std.specs.Prelude.{◌≡◌, ◌≤◌, ℕ, ◌-◌, ◌&&◌, Bool, true, false, List, [], ◌∷◌, ◌++◌, Option, Some, None, map, length, slice_get, if◌then◌else◌}
use Rattle.std.specs.List.{flat_map, AllByRecursion}
use Rattle.bng_base.specs.declared.address.Peer.{Peer}
use Rattle.bng_base.specs.declared.outside.Role.{Role}
use Rattle.bng_base.specs.declared.outside.Heard.{Heard}
use Rattle.bng_base.specs.declared.outside.Heard.TheVariants.{Receive, Wait}
use Rattle.bng_base.specs.declared.outside.Received.{Received}
use Rattle.bng_base.specs.declared.outside.Received.TheVariants.{Got, Empty, Failed}
use Rattle.bng_base.specs.Stretch.{PlantStretch}
use Rattle.bng_vlan.specs.declared.map.VlanEntry.{VlanEntry}
use Rattle.bng_vlan.specs.declared.ending.Ending.{Ending}
use Rattle.bng_vlan.specs.declared.ending.Ending.TheVariants.{Stopped, Dry, Broken}
use Rattle.bng_vlan.specs.Map.{Trunks, role_of, is_trunk, entry_of}
use Rattle.bng_vlan.specs.Frames.{Came, receive_of, datagram_of}

-- the receive that ended the reading of a trunk, if one did
abbrev pub ending_heard : ℕ → Ending → List Heard
ending_heard trunk Stopped = []
ending_heard trunk Dry = Receive (role_of trunk) Empty ∷ []
ending_heard trunk Broken = Receive (role_of trunk) Failed ∷ []

abbrev pub ending_failed : Ending → ℕ
ending_failed Stopped = 0
ending_failed Dry = 0
ending_failed Broken = 1

-- a trunk was read: these came, and then it ended so
abbrev pub trunk_heard : ℕ → List Came → Ending → List Heard
trunk_heard trunk came ending = map receive_of came ++ ending_heard trunk ending

abbrev pub trunk_stretch : ℕ → List Came → Ending → PlantStretch
trunk_stretch trunk came ending = record { heard = trunk_heard trunk came ending; taken = map datagram_of came; sent = []; failed = ending_failed ending }

-- A receive for an entry is answered after at most 224 receives of its trunk: Failed exactly where one of them failed, and a
-- frame is whole and the trunk's peer sent it.
abbrev pub Fits : Trunks → VlanEntry → Received → Ending → Type 0
Fits m e (Got from cut) ending = (ending ≡ Stopped) × (cut ≡ false) × (slice_get m.peers (e.trunk - 1) ≡ Some from)
Fits m e Empty Stopped = Unit {0}
Fits m e Empty Dry = Unit {0}
Fits m e Empty Broken = ⊥
Fits m e Failed ending = ending ≡ Broken

pub record Reads (m : Trunks) (e : VlanEntry) (answer : Received) (below : List Heard) : Type 0 where
  pub came : List Came
  pub ending : Ending
  pub are : below ≡ trunk_heard e.trunk came ending
  pub of_trunk : AllByRecursion (λ c. c.trunk ≡ e.trunk) came
  pub most : length below ≤ 224
  pub fits : Fits m e answer ending

-- a receive or a wait, and what the plant below heard for it
pub record Part : Type 0 where
  pub above : Heard
  pub below : List Heard

-- for a receive of a trunk itself, which is never given anything, and of another role
abbrev pub ReadsOther : Role → Received → List Heard → Bool → Type 0
ReadsOther role answer below true = (answer ≡ Empty) × (below ≡ [])
ReadsOther role answer below false = below ≡ Receive role answer ∷ []

-- for a receive of an entry, and of any other role
abbrev pub ReadsRole : Trunks → Role → Received → List Heard → Option VlanEntry → Type 0
ReadsRole m role answer below (Some e) = Reads m e answer below
ReadsRole m role answer below None = ReadsOther role answer below (is_trunk m role)

abbrev pub HearsPart : Trunks → Heard → List Heard → Type 0
HearsPart m (Receive role answer) below = ReadsRole m role answer below (entry_of m role)
HearsPart m (Wait ms) below = below ≡ Wait ms ∷ []

-- one after the other
pub record Hears (m : Trunks) (above below : List Heard) : Type 0 where
  pub parts : List Part
  pub aboves : map (λ p. p.above) parts ≡ above
  pub belows : flat_map (λ p. p.below) parts ≡ below
  pub each : AllByRecursion (λ p. HearsPart m p.above p.below) parts
