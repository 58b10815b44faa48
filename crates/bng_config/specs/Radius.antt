-- What stands at the keys of authentication and accounting.
use Rattle.std.specs.Prelude.{◌≡◌}
use Rattle.toml.specs.Data.{Data}
use Rattle.bng_schema.specs.declared.keys.Field.TheVariants.{RadiusAuthLocal, RadiusAuthServer, RadiusAcctLocal, RadiusAcctServer, RadiusSecret, RadiusTries}
use Rattle.bng_schema.specs.declared.keys.Key.TheVariants.{Of}
use Rattle.bng_schema.specs.Forms.{StandsAt, StandsOr, IsPeer, IsOctets, IsNumber}
use Rattle.bng_config.specs.declared.radius.RadiusKeys.{RadiusKeys}

-- it is what stands at the keys, with the default of the tries where nothing stands there
pub record IsRadius (document : Data) (r : RadiusKeys) : Type 0 where
  pub auth_local : StandsAt document (Of RadiusAuthLocal 0) (λ d. IsPeer d r.auth_local)
  pub auth_server : StandsAt document (Of RadiusAuthServer 0) (λ d. IsPeer d r.auth_server)
  pub acct_local : StandsAt document (Of RadiusAcctLocal 0) (λ d. IsPeer d r.acct_local)
  pub acct_server : StandsAt document (Of RadiusAcctServer 0) (λ d. IsPeer d r.acct_server)
  pub secret : StandsAt document (Of RadiusSecret 0) (λ d. IsOctets 64 d r.secret)
  pub tries : StandsOr document (Of RadiusTries 0) (λ d. IsNumber 1 10 d r.tries) (r.tries ≡ 4)
