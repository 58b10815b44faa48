-- What stands in the table of the gateway itself.
use Rattle.std.specs.Prelude.{◌≡◌, [], ◌∷◌}
use Rattle.toml.specs.Data.{Data}
use Rattle.bng_base.specs.declared.settings.AuthKind.TheVariants.{Chap, Pap}
use Rattle.bng_schema.specs.declared.keys.Field.TheVariants.{GatewayName, GatewayAddress, GatewayNasIp, GatewayShards, GatewayWorkers, GatewayTerms, GatewayServices, GatewayDns, GatewayAuth, GatewayEcho}
use Rattle.bng_schema.specs.declared.keys.Key.TheVariants.{Of}
use Rattle.bng_schema.specs.Forms.{StandsAt, StandsOr, IsName, IsAddress, IsNumber, AreServices, AreAddresses, AreKinds}
use Rattle.bng_config.specs.declared.gateway.Gateway.{Gateway}

-- the gateway is what stands at its keys, with the defaults of those at which nothing stands
pub record IsGateway (document : Data) (g : Gateway) : Type 0 where
  pub name : StandsAt document (Of GatewayName 0) (λ d. IsName d g.name)
  pub address : StandsAt document (Of GatewayAddress 0) (λ d. IsAddress d g.address)
  pub nas_ip : StandsAt document (Of GatewayNasIp 0) (λ d. IsAddress d g.nas_ip)
  pub shards : StandsOr document (Of GatewayShards 0) (λ d. IsNumber 1 64 d g.shards) (g.shards ≡ 4)
  pub workers : StandsOr document (Of GatewayWorkers 0) (λ d. IsNumber 1 16 d g.workers) (g.workers ≡ 2)
  pub terms : StandsOr document (Of GatewayTerms 0) (λ d. IsNumber 64 262144 d g.terms) (g.terms ≡ 8192)
  pub services : StandsOr document (Of GatewayServices 0) (λ d. AreServices d g.services) (g.services.items ≡ [])
  pub dns : StandsOr document (Of GatewayDns 0) (λ d. AreAddresses 0 2 d g.dns) (g.dns.items ≡ [])
  pub auth : StandsOr document (Of GatewayAuth 0) (λ d. AreKinds d g.auth) (g.auth.items ≡ Chap ∷ Pap ∷ [])
  pub echo : StandsOr document (Of GatewayEcho 0) (λ d. IsNumber 0 3600 d g.echo) (g.echo ≡ 30)
