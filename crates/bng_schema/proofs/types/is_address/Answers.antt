use Rattle.toml.specs.View.{view}
use Rattle.bng_schema.specs.Forms.{IsAddress}
use Rattle.bng_schema.proofs.Tests.{read_some}
use Rattle.bng_schema.proofs.types.is_address.Goals as goal

pub returns : goal.returns
returns c =
    let both = read_some (IsAddress (view c.args.value.now)) c.address_in.result c.is_some.result c.is_some.ensures c.address_in.ensures.found c.address_in.ensures.none in
    (λ t. let some = both.0 t in record { address = some.0; is = some.1 }, λ h. both.1 (h.address, h.is))
