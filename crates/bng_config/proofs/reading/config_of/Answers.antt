use Rattle.std.proofs.Common.{◌≡◌, List, subst, arith}
use Rattle.toml.specs.View.{view}
use Rattle.bng_base.specs.declared.book.Profile.{Profile}
use Rattle.bng_schema.specs.declared.keys.Table.TheVariants.{Static as Circuits}
use Rattle.bng_config.specs.Configuration.{AreEntries, IsCircuit}
use Rattle.bng_config.proofs.Defaults.{known_shards, range_or}
use Rattle.bng_config.proofs.reading.config_of.Goals as goal

pub circuits_of-requires-clause-shards : goal.circuits_of-requires-clause-shards
circuits_of-requires-clause-shards c = known_shards (view c.args.document.now) c.gateway_of-gateway.result.shards c.gateway_of-gateway.ensures.shards

pub circuits_of-requires-clause-few : goal.circuits_of-requires-clause-few
circuits_of-requires-clause-few c = (range_or 1 64 4 c.gateway_of-gateway.result.shards (omega arith) (omega arith) c.gateway_of-gateway.ensures.shards).1

pub returns-clause-found : goal.returns-clause-found
returns-clause-found c =
    let document = view c.args.document.now in
    let gateway = c.gateway_of-gateway.ensures in
    let ends = c.ends_of-ends.ensures in
    let radius = c.radius_of-radius.ensures in
    let ports : c.of.result ≡ c.in_ok-access.access.items = c.of.ensures in
    let circuits : c.of-2.result ≡ c.in_ok-statics.statics.items = c.of-2.ensures in
    let pools : c.of-3.result ≡ c.in_ok-pools.pools.items = c.of-3.ensures in
    let profiles : c.of-4.result ≡ c.in_ok-profiles.profiles.items = c.of-4.ensures in
    let lacs : c.of-5.result ≡ c.in_ok-lacs.lacs.items = c.of-5.ensures in
    rw (ports, circuits, pools, profiles, lacs) record {
      known = c.requires.known;
      sound = c.requires.sound;
      name = gateway.name;
      address = gateway.address;
      nas_ip = gateway.nas_ip;
      shards = gateway.shards;
      workers = gateway.workers;
      terms = gateway.terms;
      services = gateway.services;
      dns = gateway.dns;
      auth = gateway.auth;
      echo = gateway.echo;
      core_local = ends.core_local;
      core_peer = ends.core_peer;
      control_local = ends.control_local;
      access = c.in_ok-access.ensures.found;
      auth_local = radius.auth_local;
      auth_server = radius.auth_server;
      acct_local = radius.acct_local;
      acct_server = radius.acct_server;
      secret = radius.secret;
      tries = radius.tries;
      tunnel_local = c.tunnel_of-tunnel_local.ensures;
      lacs = c.in_ok-lacs.ensures.found;
      coa = c.coa_of-coa.ensures;
      pools = c.in_ok-pools.ensures.found;
      profiles = c.in_ok-profiles.ensures.found;
      statics = subst (λ (ps : List Profile). AreEntries document Circuits (IsCircuit document ps) c.in_ok-statics.statics.items) c.as_slice.ensures.value c.in_ok-statics.ensures.found;
    }
