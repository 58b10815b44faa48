-- What each call adds to what a plant tells.
use Rattle.std.specs.Prelude.{ℕ, List, [], ◌∷◌, None}
use Rattle.bng_base.specs.declared.address.Peer.{Peer}
use Rattle.bng_base.specs.declared.outside.Role.{Role}
use Rattle.bng_base.specs.declared.outside.Heard.{Heard}
use Rattle.bng_base.specs.declared.outside.Heard.TheVariants.{Receive, Wait}
use Rattle.bng_base.specs.declared.outside.Received.{Received}
use Rattle.bng_base.specs.declared.outside.Received.TheVariants.{Got, Empty, Failed}
use Rattle.bng_base.specs.Told.{PlantTold, taken_by}
use Rattle.bng_base.specs.Stretch.{PlantStretch}
use Rattle.bng_plant.specs.declared.answers.Sending.{Sending}
use Rattle.bng_plant.specs.declared.answers.Sending.TheVariants.{Sent, Failed as SendingFailed}
use Rattle.bng_plant.specs.Calls.{sends}

-- how many calls failed of one
abbrev pub receive_failed : Received → ℕ
receive_failed (Got from cut) = 0
receive_failed Empty = 0
receive_failed Failed = 1

abbrev pub send_failed : Sending → ℕ
send_failed Sent = 0
send_failed SendingFailed = 1

-- a receive
abbrev pub receiving : Role → Received → List ℕ → PlantStretch
receiving role answer octets = record { heard = Receive role answer ∷ []; taken = taken_by role answer octets; sent = []; failed = receive_failed answer }

-- a send
abbrev pub sending : Role → Peer → List ℕ → Sending → PlantStretch
sending role to octets answer = record { heard = []; taken = []; sent = sends role to octets answer; failed = send_failed answer }

-- a wait
abbrev pub waiting : ℕ → PlantStretch
waiting ms = record { heard = Wait ms ∷ []; taken = []; sent = []; failed = 0 }

-- what a plant over trunks tells of what the plant below tells: its binds and its count of faults
abbrev pub told_over : PlantTold → PlantTold
told_over p = record { bound = p.bound; heard = None; taken = None; sent = None; faults = p.faults }
