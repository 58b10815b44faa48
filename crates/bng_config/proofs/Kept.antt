-- A configuration that is read keeps the rules.
use Rattle.std.proofs.Common.{◌≢◌, ℕ, ◌<◌, ◌≤◌, pos, List, length, get_or, Option, Some, None, IfSome, IsSome, refl, sym, ap, subst, ◌∙◌, arith, inl, inr}
use Rattle.std.specs.List.{AllPairs, All}
use Rattle.arrayvec.specs.ArrayVec.{ArrayVec}
use Rattle.toml.specs.Data.{Data, table}
use Rattle.bng_base.specs.declared.address.Ip4.{Ip4}
use Rattle.bng_base.specs.declared.address.Peer.{Peer}
use Rattle.bng_base.specs.declared.settings.CoaPart.{CoaPart}
use Rattle.bng_schema.specs.declared.keys.Table.TheVariants.{Lac as Lacs, Pool as Pools, Static as Circuits}
use Rattle.bng_schema.specs.declared.keys.Field.TheVariants.{LacIp, LacSecret, PoolName, StaticSession, StaticAddress, RadiusSecret}
use Rattle.bng_schema.specs.declared.keys.Key.{Key}
use Rattle.bng_schema.specs.declared.keys.Key.TheVariants.{Of}
use Rattle.bng_schema.specs.declared.rule.Rule.TheVariants.{C10, C13, C14}
use Rattle.bng_schema.specs.Address.{address_text}
use Rattle.bng_schema.specs.Names.{IsShortText, IsSessionOf}
use Rattle.bng_schema.specs.Keys.{entries}
use Rattle.bng_schema.specs.Forms.{StandsAt, StandsOr, IsAddress, IsOctets}
use Rattle.bng_schema.specs.Repeats.{HasText}
use Rattle.bng_schema.specs.Ranges.{HasAddress}
use Rattle.bng_schema.specs.Circuits.{HasNumber, terms_of}
use Rattle.bng_schema.proofs.Sound.{sound_whole, sound_field}
use Rattle.bng_config.specs.declared.config.Config.{Config}
use Rattle.bng_config.specs.Pools.{ranges_of}
use Rattle.bng_config.specs.Rules.{IsPlaced, IsCoaRules, KeepsRules}
use Rattle.bng_config.specs.Configuration.{IsSecretOrNone, IsTunnel, IsCoa, IsProfilePlace, Configures, IsRead}
use Rattle.bng_config.proofs.Apart.{are_pools, own_free, pooled}
use Rattle.bng_config.proofs.Defaults.{known_shards, known_terms, range_or, services_kept, servers_kept, kinds_kept}
use Rattle.bng_config.proofs.Sockets.{ends_apart}
use Rattle.bng_config.proofs.Held.{ports_between, pools_between, few_lacs, few_circuits}
use Rattle.bng_config.proofs.Metered.{profile_names, different_profiles, all_metered}
use Rattle.bng_config.proofs.Names.{some, few}

-- the text of an address
address_at : {document : Data} {key : Key} (a : Ip4) → StandsAt document key (λ d. IsAddress d a) → HasText document key (address_text a)
address_at a s = s.found ∙ ap Some s.is.text

secret_kept : (document : Data) (key : Key) (o : Option (ArrayVec ℕ)) → IsSecretOrNone document key o → IfSome o (λ s. IsShortText 64 s.items)
secret_kept document key None is = tt
secret_kept document key (Some s) is = is.is.is

part_secret : {document : Data} {key : Key} (s : ArrayVec ℕ) → StandsOr document key (λ d. IsOctets 64 d s) (StandsAt document (Of RadiusSecret 0) (λ d. IsOctets 64 d s)) → IsShortText 64 s.items
part_secret s (inl h) = h.1.is.is
part_secret s (inr h) = h.is.is

coa_kept : (document : Data) (o : Option CoaPart) → IsCoa document o → IfSome o IsCoaRules
coa_kept document None is = tt
coa_kept document (Some part) is = record { some_peer = is.peers.is.some; few_peers = is.peers.is.few; secret = part_secret part.secret is.secret }

tunnelled_by : (document : Data) (o : Option Peer) → IsTunnel document o → 1 ≤ entries document Lacs → (1 ≤ entries document Lacs → IsTunnel document None → ⊥) → IsSome o
tunnelled_by document None is lacs never = absurd (never lacs is)
tunnelled_by document (Some p) is lacs never = refl

module _ (document : Data) (c : Config) (h : Configures document c) where
  lac_within : (i : ℕ) → i < length c.lacs → i < entries document Lacs
  lac_within i less = subst (λ n. i < n) h.lacs.all less

  pool_within : (i : ℕ) → i < length c.pools → i < entries document Pools
  pool_within i less = subst (λ n. i < n) h.pools.all less

  circuit_within : (i : ℕ) → i < length c.statics → i < entries document Circuits
  circuit_within i less = subst (λ n. i < n) h.statics.all less

  different_pools : AllPairs (λ a b. a.name.items ≢ b.name.items) c.pools
  different_pools i j d less long same =
      let here = (h.pools.are j d long).name in
      let there = (h.pools.are i d (omega arith)).name in
      sound_field document h.sound C10 PoolName j (pool_within j long)
      ((get_or c.pools j d).name.items, here.found ∙ ap Some here.is.text, (i, less, subst (λ t. HasText document (Of PoolName i) t) same (there.found ∙ ap Some there.is.text)))

  different_lacs : AllPairs (λ a b. a.ip ≢ b.ip) c.lacs
  different_lacs i j d less long same =
      sound_field document h.sound C10 LacIp j (lac_within j long) (
        address_text (get_or c.lacs j d).ip,
        address_at (get_or c.lacs j d).ip (h.lacs.are j d long).ip,
        (i, less, subst (λ a. HasText document (Of LacIp i) (address_text a)) same (address_at (get_or c.lacs i d).ip (h.lacs.are i d (omega arith)).ip)),
      )

  session_at : (i : ℕ) (d : _) → i < length c.statics → HasNumber document StaticSession i (pos (get_or c.statics i d).session.0)
  session_at i d less = let is = (h.statics.are i d less).session in is.found ∙ ap Some is.is.number

  sessions : AllPairs (λ a b. a.session ≢ b.session) c.statics
  sessions i j d less long same =
      sound_field document h.sound C14 StaticSession j (circuit_within j long)
      (pos (get_or c.statics j d).session.0, session_at j d long, (i, less, subst (λ s. HasNumber document StaticSession i (pos s.0)) same (session_at i d (omega arith))))

  addresses : AllPairs (λ a b. a.address ≢ b.address) c.statics
  addresses i j d less long same =
      sound_field document h.sound C14 StaticAddress j (circuit_within j long)
      (inl (
        address_text (get_or c.statics j d).address,
        address_at (get_or c.statics j d).address (h.statics.are j d long).address,
        (i, less, subst (λ a. HasText document (Of StaticAddress i) (address_text a)) same (address_at (get_or c.statics i d).address (h.statics.are i d (omega arith)).address)),
      ))

  pooled_all : All (λ s. HasAddress (ranges_of c.pools) s.address.0) c.statics
  pooled_all i d less =
      let a = (get_or c.statics i d).address in
      pooled document h.sound c.pools h.pools a
      (λ none. sound_field document h.sound C14 StaticAddress i (circuit_within i less) (inr (a, (h.statics.are i d less).address, none)))

  shards : (1 ≤ c.shards) × (c.shards ≤ 64)
  shards = range_or 1 64 4 c.shards (omega arith) (omega arith) h.shards

  workers : (1 ≤ c.workers) × (c.workers ≤ 16)
  workers = range_or 1 16 2 c.workers (omega arith) (omega arith) h.workers

  terms : (64 ≤ c.terms) × (c.terms ≤ 262144)
  terms = range_or 64 262144 8192 c.terms (omega arith) (omega arith) h.terms

  enough : length c.statics ≤ c.terms
  enough =
      let never : terms_of document < entries document Circuits → ⊥ = λ high. sound_whole document h.sound C14 Circuits high in
      let same = h.statics.all in
      let known = known_terms document c.terms h.terms in
      omega (arith, never)

  sharded : All (λ s. IsSessionOf c.shards s.session.0) c.statics
  sharded i d less =
      let is = (h.statics.are i d less).session.is.is in
      let shard = is.shard in
      let known = known_shards document c.shards h.shards in
      record { shard = omega arith; low = is.low; high = is.high }

  placed : All (IsPlaced (length c.access)) c.statics
  placed i d less =
      let port = (h.statics.are i d less).port.is in
      let high = port.high in
      let same = h.access.all in
      let is = sharded i d less in
      let shard = is.shard in
      let few_shards = shards.1 in
      record { low = port.low; high = omega arith; number = record { shard = omega arith; low = is.low; high = is.high } }

  profile_within : (place k : ℕ) → IsProfilePlace document c.profiles place k → k < length c.profiles
  profile_within place k (inl (none, first)) = let there = some document h.sound c.profiles h.profiles in omega arith
  profile_within place k (inr (name, at, is)) = is.within

  tunnelled : 1 ≤ length c.lacs → IsSome c.tunnel_local
  tunnelled there =
      tunnelled_by document c.tunnel_local h.tunnel_local (subst (λ n. 1 ≤ n) h.lacs.all there) (λ lacs none. sound_whole document h.sound C13 Lacs (lacs, none))

  services : (length c.services.items ≤ 8) × All (λ s. IsShortText 64 s.items) c.services.items
  services = services_kept c.services h.services

  auth : (1 ≤ length c.auth.items) × (length c.auth.items ≤ 2) × AllPairs (λ a b. a ≢ b) c.auth.items
  auth = kinds_kept c.auth h.auth

  echo : (0 ≤ c.echo) × (c.echo ≤ 3600)
  echo = range_or 0 3600 30 c.echo (omega arith) (omega arith) h.echo

  tries : (1 ≤ c.tries) × (c.tries ≤ 10)
  tries = range_or 1 10 4 c.tries (omega arith) (omega arith) h.tries

  ports : (1 ≤ length c.access) × (length c.access ≤ 16)
  ports = subst (λ n. (1 ≤ n) × (n ≤ 16)) (sym h.access.all) (ports_between document h.sound)

  pub kept : KeepsRules c
  kept = record {
    name = h.name.is.is;
    some_shard = shards.0;
    few_shards = shards.1;
    some_worker = workers.0;
    few_workers = workers.1;
    some_terms = terms.0;
    few_terms = terms.1;
    few_services = services.0;
    services = services.1;
    few_dns = servers_kept c.dns h.dns;
    some_auth = auth.0;
    few_auth = auth.1;
    auth = auth.2;
    echo = echo.1;
    some_port = ports.0;
    few_ports = ports.1;
    some_pool = subst (λ n. 1 ≤ n) (sym h.pools.all) (pools_between document h.sound).0;
    pools = are_pools document h.sound c.pools h.pools;
    address = own_free document h.sound c.pools h.pools c.address h.address;
    pool_names = λ i d less. (h.pools.are i d less).name.is.is;
    different_pools = different_pools;
    few_lacs = subst (λ n. n ≤ 16) (sym h.lacs.all) (few_lacs document h.sound);
    lacs = λ i d less. secret_kept document (Of LacSecret i) (get_or c.lacs i d).secret (h.lacs.are i d less).secret;
    different_lacs = different_lacs;
    tunnelled = tunnelled;
    coa = coa_kept document c.coa h.coa;
    some_profile = some document h.sound c.profiles h.profiles;
    few_profiles = few document h.sound c.profiles h.profiles;
    profile_names = profile_names document h.sound c.profiles h.profiles;
    different_profiles = different_profiles document h.sound c.profiles h.profiles;
    metered = all_metered document h.sound c.profiles h.profiles;
    few_statics = subst (λ n. n ≤ 1024) (sym h.statics.all) (few_circuits document h.sound);
    enough_terms = enough;
    placed = placed;
    sharded = sharded;
    pooled = pooled_all;
    users = λ i d less. (h.statics.are i d less).user.is.is;
    profiled = λ i d less. profile_within i (get_or c.statics i d).profile (h.statics.are i d less).profile;
    secret = h.secret.is.is;
    some_tries = tries.0;
    few_tries = tries.1;
    ends = ends_apart document c h;
    sessions = sessions;
    addresses = addresses;
  }

pub read_keeps : (text : List ℕ) (c : Config) → IsRead text c → KeepsRules c
read_keeps text c h = kept (table h.members) c h.configures
