use Rattle.toml.specs.View.{view}
use Rattle.bng_base.specs.declared.address.Ip4.{Ip4}
use Rattle.bng_schema.specs.declared.keys.Field.TheVariants.{GatewayAddress}
use Rattle.bng_schema.specs.declared.keys.Key.TheVariants.{Of}
use Rattle.bng_schema.specs.Forms.{StandsAt, IsAddress}
use Rattle.bng_base.specs.Ranges.{InRange}
use Rattle.bng_schema.proofs.Once.{address_at_once, one_at}
use Rattle.bng_schema.proofs.Such.{one_such, none_such}
use Rattle.bng_schema.proofs.ranges.has_own.Goals as goal

pub returns-in-Some : goal.returns-in-Some
returns-in-Some c =
    one_such (λ (a : Ip4). StandsAt (view c.args.document.now) (Of GatewayAddress 0) (λ d. IsAddress d a)) (λ a. InRange c.args.range a.0) (one_at IsAddress address_at_once) c.in-Some.own c.contains.result
    c.in-Some.ensures.found c.contains.ensures

pub returns-in-None : goal.returns-in-None
returns-in-None c =
    none_such (λ (a : Ip4). StandsAt (view c.args.document.now) (Of GatewayAddress 0) (λ d. IsAddress d a)) (λ a. InRange c.args.range a.0) c.in-None.ensures.none
