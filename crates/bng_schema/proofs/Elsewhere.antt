-- Keys and tables of which a rule says nothing.
use Rattle.std.proofs.Common.{◌≢◌, ℕ, List, refl}
use Rattle.toml.specs.Data.{Data}
use Rattle.bng_schema.specs.declared.keys.Table.{Table}
use Rattle.bng_schema.specs.declared.keys.Table.TheVariants.{Lac, Static}
use Rattle.bng_schema.specs.declared.keys.Field.{Field}
use Rattle.bng_schema.specs.declared.keys.Field.TheVariants.{ControlLocal, AccessLocal, RadiusAuthLocal, RadiusAcctLocal, TunnelLocal, CoaLocal, LacIp, PoolName, PoolLast, ProfileName, ProfileUpCir, ProfileUpCbs, ProfileUpEbs, ProfileDownCir, ProfileDownCbs, ProfileDownEbs, StaticSession, StaticAddress, StaticProfile}
use Rattle.bng_schema.specs.declared.keys.Key.TheVariants.{Whole, Of}
use Rattle.bng_schema.specs.Repeats.{StandsEarlier}
use Rattle.bng_schema.specs.Ranges.{HasBadRange}
use Rattle.bng_schema.specs.Rates.{IsPartial}
use Rattle.bng_schema.specs.Lacs.{IsUntunnelled}
use Rattle.bng_schema.specs.Circuits.{IsBadCircuit}

module _ (document : Data) where
  pub no_range : (field : Field) (place : ℕ) → field ≢ PoolLast → HasBadRange document (Of field place) → ⊥
  no_range PoolLast place another h = another refl
  no_range field place another h = h

  pub no_tunnel : (t : Table) → t ≢ Lac → IsUntunnelled document (Whole t) → ⊥
  no_tunnel Lac another h = another refl
  no_tunnel t another h = h

  pub no_room : (t : Table) → t ≢ Static → IsBadCircuit document (Whole t) → ⊥
  no_room Static another h = another refl
  no_room t another h = h

  pub no_circuit : (field : Field) (place : ℕ) → field ≢ StaticSession → field ≢ StaticAddress → field ≢ StaticProfile → IsBadCircuit document (Of field place) → ⊥
  no_circuit StaticSession place a b c h = a refl
  no_circuit StaticAddress place a b c h = b refl
  no_circuit StaticProfile place a b c h = c refl
  no_circuit field place a b c h = h

  pub no_rate : (field : Field) (place : ℕ) → field ≢ ProfileUpCir → field ≢ ProfileUpCbs → field ≢ ProfileUpEbs → field ≢ ProfileDownCir → field ≢ ProfileDownCbs → field ≢ ProfileDownEbs
      → IsPartial document (Of field place) → ⊥
  no_rate ProfileUpCir place a b c d e f h = a refl
  no_rate ProfileUpCbs place a b c d e f h = b refl
  no_rate ProfileUpEbs place a b c d e f h = c refl
  no_rate ProfileDownCir place a b c d e f h = d refl
  no_rate ProfileDownCbs place a b c d e f h = e refl
  no_rate ProfileDownEbs place a b c d e f h = f refl
  no_rate field place a b c d e f h = h

  pub no_repeat : (field : Field) (place : ℕ) (text : List ℕ) → field ≢ ControlLocal → field ≢ AccessLocal → field ≢ RadiusAuthLocal → field ≢ RadiusAcctLocal → field ≢ TunnelLocal
      → field ≢ LacIp → field ≢ CoaLocal → field ≢ PoolName → field ≢ ProfileName → StandsEarlier document field place text → ⊥
  no_repeat ControlLocal place text a b c d e f g i j h = a refl
  no_repeat AccessLocal place text a b c d e f g i j h = b refl
  no_repeat RadiusAuthLocal place text a b c d e f g i j h = c refl
  no_repeat RadiusAcctLocal place text a b c d e f g i j h = d refl
  no_repeat TunnelLocal place text a b c d e f g i j h = e refl
  no_repeat LacIp place text a b c d e f g i j h = f refl
  no_repeat CoaLocal place text a b c d e f g i j h = g refl
  no_repeat PoolName place text a b c d e f g i j h = i refl
  no_repeat ProfileName place text a b c d e f g i j h = j refl
  no_repeat field place text a b c d e f g i j h = h
