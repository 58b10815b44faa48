-- How many octets the SCCRQ has.
use Rattle.std.proofs.Common.{◌≡◌, ℕ, ◌≤◌, Option, List, length, arith}
use Rattle.bng_l2tp_wire.specs.Avps.{avps_text}
use Rattle.bng_l2tp_wire.specs.declared.message.TheConstants.{SCCRQ}
use Rattle.bng_l2tp_tunnel.specs.Spelling.{front, challenge_avps}
use Rattle.bng_l2tp_tunnel.proofs.Sizes.{length-both, challenge_size, front_size}
use Rattle.bng_lac.specs.Spelling.{sccrq}

pub sccrq_size : (name : List ℕ) (number : ℕ) (secret : Option (List ℕ)) (challenge : List ℕ) → length name ≤ 64 → length challenge ≡ 16
    → length (avps_text (sccrq name number secret challenge).avps) ≤ 134
sccrq_size name number secret challenge few sixteen =
    omega (arith, few, front_size SCCRQ name number, challenge_size secret challenge sixteen, length-both (front SCCRQ name number) (challenge_avps secret challenge))
