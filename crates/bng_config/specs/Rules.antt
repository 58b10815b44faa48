-- What a configuration keeps, for a desk to be opened over it.
use Rattle.std.specs.Prelude.{◌≢◌, ℕ, ◌<◌, ◌≤◌, ◌⊎◌, List, [], ◌∷◌, ◌++◌, All, Option, Some, None, IfSome, IsSome, length, map}
use Rattle.std.specs.List.{AllPairs}
use Rattle.bng_base.specs.declared.address.Peer.{Peer}
use Rattle.bng_base.specs.declared.book.Profile.{Profile}
use Rattle.bng_base.specs.declared.book.Rate.{Rate}
use Rattle.bng_base.specs.declared.settings.CoaPart.{CoaPart}
use Rattle.bng_base.specs.declared.settings.Lac.{Lac}
use Rattle.bng_base.specs.declared.settings.Static.{Static}
use Rattle.bng_schema.specs.Names.{IsGatewayName, IsLabelName, IsShortText, IsSessionOf}
use Rattle.bng_schema.specs.Ranges.{HasAddress}
use Rattle.bng_config.specs.declared.config.Config.{Config}
use Rattle.bng_config.specs.Pools.{ArePools, ranges_of}

-- a number of a session of one of the shards that there can be
abbrev pub IsSessionNumber : ℕ → Type 0
IsSessionNumber number = IsSessionOf 64 number

-- the end of a socket that there may be
abbrev pub end_if : Option Peer → List Peer
end_if None = []
end_if (Some p) = p ∷ []

abbrev pub coa_end : Option CoaPart → List Peer
coa_end None = []
coa_end (Some part) = part.local ∷ []

-- the gateway's ends of the sockets, in the order of their tables
abbrev pub ends_of : Config → List Peer
ends_of c =
    c.core_local ∷ c.control_local ∷ [] ++ map (λ a. a.local) c.access ++ c.auth_local ∷ [] ++ c.acct_local ∷ [] ++ end_if c.tunnel_local ++ coa_end c.coa

-- the circuit is on one of this many ports, with a number that a session may have
pub record IsPlaced (ports : ℕ) (s : Static) : Type 0 where
  pub low : 1 ≤ s.port
  pub high : s.port ≤ ports
  pub number : IsSessionNumber s.session.0

-- a LAC that shares a secret shares one of 1 to 64 octets
abbrev pub IsLac : Lac → Type 0
IsLac lac = IfSome lac.secret (λ s. IsShortText 64 s.items)

-- who may ask for changes: 1 to 16 addresses, and a secret
pub record IsCoaRules (part : CoaPart) : Type 0 where
  pub some_peer : 1 ≤ length part.peers.items
  pub few_peers : length part.peers.items ≤ 16
  pub secret : IsShortText 64 part.secret.items

-- the numbers of a meter: 1 to 10^12 octets a second, and bursts below 2^32 octets, one of which at least is not 0
pub record IsMetered (r : Rate) : Type 0 where
  pub some_rate : 1 ≤ r.cir
  pub low_rate : r.cir ≤ 1000000000000
  pub committed : r.cbs ≤ 4294967295
  pub excess : r.ebs ≤ 4294967295
  pub burst : (1 ≤ r.cbs) ⊎ (1 ≤ r.ebs)

-- a profile with such numbers for each direction that it meters
pub record HasRates (p : Profile) : Type 0 where
  pub up : IfSome p.up IsMetered
  pub down : IfSome p.down IsMetered

-- a name, 1 to 64 shards, 1 to 16 workers, room for 64 to 262,144 terms, at most 8 services, at most 2 servers of names, one or
-- two ways to authenticate, none twice, and at most 3,600 s between Echo-Requests; 1 to 16 ports, and 1 to 16 pools with different
-- names, whose ranges are apart and without the gateway's own address; at most 16 LACs with different addresses, and none without
-- the gateway's end for them; 1 to 16 profiles with different names; at most 1,024 circuits and no more than there is room for
-- terms, each on a port, with a session of one of the shards, an address of a pool, a name of its user and one of the profiles; a
-- secret, and 1 to 10 sends of an Access-Request; no two sockets have one end, and no two circuits one session or address
pub record KeepsRules (c : Config) : Type 0 where
  pub name : IsGatewayName c.name.items
  pub some_shard : 1 ≤ c.shards
  pub few_shards : c.shards ≤ 64
  pub some_worker : 1 ≤ c.workers
  pub few_workers : c.workers ≤ 16
  pub some_terms : 64 ≤ c.terms
  pub few_terms : c.terms ≤ 262144
  pub few_services : length c.services.items ≤ 8
  pub services : All (λ s. IsShortText 64 s.items) c.services.items
  pub few_dns : length c.dns.items ≤ 2
  pub some_auth : 1 ≤ length c.auth.items
  pub few_auth : length c.auth.items ≤ 2
  pub auth : AllPairs (λ a b. a ≢ b) c.auth.items
  pub echo : c.echo ≤ 3600
  pub some_port : 1 ≤ length c.access
  pub few_ports : length c.access ≤ 16
  pub some_pool : 1 ≤ length c.pools
  pub pools : ArePools (ranges_of c.pools)
  pub address : ¬ HasAddress (ranges_of c.pools) c.address.0
  pub pool_names : All (λ p. IsLabelName p.name.items) c.pools
  pub different_pools : AllPairs (λ a b. a.name.items ≢ b.name.items) c.pools
  pub few_lacs : length c.lacs ≤ 16
  pub lacs : All IsLac c.lacs
  pub different_lacs : AllPairs (λ a b. a.ip ≢ b.ip) c.lacs
  pub tunnelled : 1 ≤ length c.lacs → IsSome c.tunnel_local
  pub coa : IfSome c.coa IsCoaRules
  pub some_profile : 1 ≤ length c.profiles
  pub few_profiles : length c.profiles ≤ 16
  pub profile_names : All (λ p. IsLabelName p.name.items) c.profiles
  pub different_profiles : AllPairs (λ a b. a.name.items ≢ b.name.items) c.profiles
  pub metered : All HasRates c.profiles
  pub few_statics : length c.statics ≤ 1024
  pub enough_terms : length c.statics ≤ c.terms
  pub placed : All (IsPlaced (length c.access)) c.statics
  pub sharded : All (λ s. IsSessionOf c.shards s.session.0) c.statics
  pub pooled : All (λ s. HasAddress (ranges_of c.pools) s.address.0) c.statics
  pub users : All (λ s. IsShortText 128 s.user.items) c.statics
  pub profiled : All (λ s. s.profile < length c.profiles) c.statics
  pub secret : IsShortText 64 c.secret.items
  pub some_tries : 1 ≤ c.tries
  pub few_tries : c.tries ≤ 10
  pub ends : AllPairs (λ a b. a ≢ b) (ends_of c)
  pub sessions : AllPairs (λ a b. a.session ≢ b.session) c.statics
  pub addresses : AllPairs (λ a b. a.address ≢ b.address) c.statics
