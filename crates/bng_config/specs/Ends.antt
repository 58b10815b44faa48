-- The ends of the sockets to the core and to Control.
use Rattle.toml.specs.Data.{Data}
use Rattle.bng_schema.specs.declared.keys.Field.TheVariants.{CoreLocal, CorePeer, ControlLocal}
use Rattle.bng_schema.specs.declared.keys.Key.TheVariants.{Of}
use Rattle.bng_schema.specs.Forms.{StandsAt, IsPeer}
use Rattle.bng_config.specs.declared.ends.Ends.{Ends}

-- the ends are what stands at their keys
pub record AreEnds (document : Data) (e : Ends) : Type 0 where
  pub core_local : StandsAt document (Of CoreLocal 0) (λ d. IsPeer d e.core_local)
  pub core_peer : StandsAt document (Of CorePeer 0) (λ d. IsPeer d e.core_peer)
  pub control_local : StandsAt document (Of ControlLocal 0) (λ d. IsPeer d e.control_local)
