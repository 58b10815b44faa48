-- What a configuration is: what stands at each key of a document that breaks no rule, or its default.
use Rattle.std.specs.Prelude.{⊤, ◌≡◌, ◌≢◌, ℕ, ◌<◌, ◌≤◌, List, [], ◌∷◌, length, slice_index_or, Option, None, Some, IsUtf8, codes, ◌⊎◌}
use Rattle.arrayvec.specs.ArrayVec.{ArrayVec}
use Rattle.toml.specs.Data.{Data, Members, table}
use Rattle.toml.specs.Parse.{parse_document}
use Rattle.bng_base.specs.declared.address.Peer.{Peer}
use Rattle.bng_base.specs.declared.book.Profile.{Profile}
use Rattle.bng_base.specs.declared.book.Rate.{Rate}
use Rattle.bng_base.specs.declared.settings.AccessPort.{AccessPort}
use Rattle.bng_base.specs.declared.settings.AuthKind.TheVariants.{Chap, Pap}
use Rattle.bng_base.specs.declared.settings.CoaPart.{CoaPart}
use Rattle.bng_base.specs.declared.settings.Lac.{Lac}
use Rattle.bng_base.specs.declared.settings.NamedRange.{NamedRange}
use Rattle.bng_base.specs.declared.settings.Static.{Static}
use Rattle.bng_schema.specs.declared.keys.Table.{Table}
use Rattle.bng_schema.specs.declared.keys.Table.TheVariants.{Access as Ports, Tunnel as Tunnels, Lac as Lacs, Coa as Changes, Pool as Pools, Profile as Profiles, Static as Circuits}
use Rattle.bng_schema.specs.declared.keys.Field.{Field}
use Rattle.bng_schema.specs.declared.keys.Field.TheVariants.{GatewayName, GatewayAddress, GatewayNasIp, GatewayShards, GatewayWorkers, GatewayTerms, GatewayServices, GatewayDns, GatewayAuth, GatewayEcho, CoreLocal, CorePeer, ControlLocal, AccessLocal, AccessPeer, AccessMac, RadiusAuthLocal, RadiusAuthServer, RadiusAcctLocal, RadiusAcctServer, RadiusSecret, RadiusTries, TunnelLocal, LacIp, LacSecret, CoaLocal, CoaPeers, CoaSecret, PoolName, PoolFirst, PoolLast, ProfileName, ProfileUpCir, ProfileUpCbs, ProfileUpEbs, ProfileDownCir, ProfileDownCbs, ProfileDownEbs, StaticPort, StaticMac, StaticSession, StaticAddress, StaticUser, StaticProfile}
use Rattle.bng_schema.specs.declared.keys.Key.{Key}
use Rattle.bng_schema.specs.declared.keys.Key.TheVariants.{Whole, Of}
use Rattle.bng_schema.specs.declared.rule.Rule.{Rule}
use Rattle.bng_schema.specs.Keys.{path_of, value_at, entries}
use Rattle.bng_schema.specs.Forms.{StandsAt, StandsOr, EachPlace, IsName, IsLabel, IsOctets, IsNumber, AreServices, AreKinds, IsPeer, IsAddress, AreAddresses, IsMac, IsSession, shards_of}
use Rattle.bng_schema.specs.Repeats.{HasText}
use Rattle.bng_schema.specs.Checks.{Mention, IsFirstUnknown, IsKnown, IsFirstBroken, IsSound}
use Rattle.bng_schema.specs.Texts.{unknown_text}
use Rattle.bng_config.specs.declared.config.Config.{Config}
use Rattle.bng_config.specs.declared.fault.Fault.{Fault}
use Rattle.bng_config.specs.declared.fault.Fault.TheVariants.{TooLong, NotToml, Unknown, Broken}
use Rattle.bng_config.specs.declared.fault.ConfigError.{ConfigError}
use Rattle.bng_config.specs.declared.fault.ConfigError.TheVariants.{Refused, OutOfMemory}

-- the longest text that is read, in octets
abbrev pub longest_text : ℕ
longest_text = 1048576

-- they are what stands at the entries of the table, place by place, and there are no more
pub record AreEntries {X : Type 0} (document : Data) (t : Table) (P : ℕ → X → Type 0) (xs : List X) : Type 0 where
  pub all : length xs ≡ entries document t
  pub are : EachPlace P xs

-- the port is what stands at the entry of this place
pub record IsPort (document : Data) (place : ℕ) (port : AccessPort) : Type 0 where
  pub local : StandsAt document (Of AccessLocal place) (λ d. IsPeer d port.local)
  pub peer : StandsAt document (Of AccessPeer place) (λ d. IsPeer d port.peer)
  pub mac : StandsAt document (Of AccessMac place) (λ d. IsMac d port.mac)

-- the secret that stands at the key, where one does
abbrev pub IsSecretOrNone : Data → Key → Option (ArrayVec ℕ) → Type 0
IsSecretOrNone document key None = value_at (path_of key) document ≡ None
IsSecretOrNone document key (Some secret) = StandsAt document key (λ d. IsOctets 64 d secret)

-- the LAC is what stands at the entry of this place
pub record IsLacAt (document : Data) (place : ℕ) (lac : Lac) : Type 0 where
  pub ip : StandsAt document (Of LacIp place) (λ d. IsAddress d lac.ip)
  pub secret : IsSecretOrNone document (Of LacSecret place) lac.secret

-- the gateway's end of L2TP, where there is a tunnel
abbrev pub IsTunnel : Data → Option Peer → Type 0
IsTunnel document None = value_at (path_of (Whole Tunnels)) document ≡ None
IsTunnel document (Some local) = StandsAt document (Of TunnelLocal 0) (λ d. IsPeer d local)

-- who may ask for changes; the secret is by default that of RADIUS
pub record IsCoaPart (document : Data) (part : CoaPart) : Type 0 where
  pub local : StandsAt document (Of CoaLocal 0) (λ d. IsPeer d part.local)
  pub peers : StandsAt document (Of CoaPeers 0) (λ d. AreAddresses 1 16 d part.peers)
  pub secret : StandsOr document (Of CoaSecret 0) (λ d. IsOctets 64 d part.secret) (StandsAt document (Of RadiusSecret 0) (λ d. IsOctets 64 d part.secret))

abbrev pub IsCoa : Data → Option CoaPart → Type 0
IsCoa document None = value_at (path_of (Whole Changes)) document ≡ None
IsCoa document (Some part) = IsCoaPart document part

-- the pool is what stands at the entry of this place
pub record IsPool (document : Data) (place : ℕ) (pool : NamedRange) : Type 0 where
  pub name : StandsAt document (Of PoolName place) (λ d. IsLabel d pool.name)
  pub first : StandsAt document (Of PoolFirst place) (λ d. IsAddress d pool.range.first)
  pub last : StandsAt document (Of PoolLast place) (λ d. IsAddress d pool.range.last)

-- the numbers of a direction that stand at the fields; without the first the direction is unmetered
pub record AreRates (document : Data) (place : ℕ) (rate committed excess : Field) (r : Rate) : Type 0 where
  pub cir : StandsAt document (Of rate place) (λ d. IsNumber 1 1000000000000 d r.cir)
  pub cbs : StandsAt document (Of committed place) (λ d. IsNumber 0 4294967295 d r.cbs)
  pub ebs : StandsAt document (Of excess place) (λ d. IsNumber 0 4294967295 d r.ebs)

abbrev pub IsRate : Data → ℕ → Field → Field → Field → Option Rate → Type 0
IsRate document place cir cbs ebs None = value_at (path_of (Of cir place)) document ≡ None
IsRate document place cir cbs ebs (Some r) = AreRates document place cir cbs ebs r

-- the profile is what stands at the entry of this place
pub record IsProfile (document : Data) (place : ℕ) (p : Profile) : Type 0 where
  pub name : StandsAt document (Of ProfileName place) (λ d. IsLabel d p.name)
  pub up : IsRate document place ProfileUpCir ProfileUpCbs ProfileUpEbs p.up
  pub down : IsRate document place ProfileDownCir ProfileDownCbs ProfileDownEbs p.down

-- the one profile that there is without a list of profiles, or with an empty one: it meters nothing
abbrev pub default_profile : Profile
default_profile = record { name = record { items = codes "default" }; up = None; down = None }

-- the profiles are the entries of their list, or the one by default
abbrev pub AreProfiles : Data → List Profile → Type 0
AreProfiles document profiles =
    ((entries document Profiles ≡ 0) × (profiles ≡ default_profile ∷ [])) ⊎ ((1 ≤ entries document Profiles) × AreEntries document Profiles (IsProfile document) profiles)

-- the first profile of this name stands at this place
pub record IsPlaceOf (profiles : List Profile) (name : List ℕ) (k : ℕ) : Type 0 where
  pub within : k < length profiles
  pub named : (d : Profile) → (slice_index_or profiles k d).name.items ≡ name
  pub first : (i : ℕ) (d : Profile) → i < k → (slice_index_or profiles i d).name.items ≢ name

-- the place of the profile that the circuit names, or the first
abbrev pub IsProfilePlace : Data → List Profile → ℕ → ℕ → Type 0
IsProfilePlace document profiles place k =
    ((value_at (path_of (Of StaticProfile place)) document ≡ None) × (k ≡ 0))
    ⊎ ((name : List ℕ) × HasText document (Of StaticProfile place) name × IsPlaceOf profiles name k)

-- the circuit is what stands at the entry of this place
pub record IsCircuit (document : Data) (profiles : List Profile) (place : ℕ) (circuit : Static) : Type 0 where
  pub port : StandsAt document (Of StaticPort place) (λ d. IsNumber 1 (entries document Ports) d circuit.port)
  pub mac : StandsAt document (Of StaticMac place) (λ d. IsMac d circuit.mac)
  pub session : StandsAt document (Of StaticSession place) (λ d. IsSession (shards_of document) d circuit.session)
  pub address : StandsAt document (Of StaticAddress place) (λ d. IsAddress d circuit.address)
  pub user : StandsAt document (Of StaticUser place) (λ d. IsOctets 128 d circuit.user)
  pub profile : IsProfilePlace document profiles place circuit.profile

-- no name of the document is unknown and no rule is broken, and the configuration is what stands at the keys
pub record Configures (document : Data) (c : Config) : Type 0 where
  pub known : IsKnown document
  pub sound : IsSound document
  pub name : StandsAt document (Of GatewayName 0) (λ d. IsName d c.name)
  pub address : StandsAt document (Of GatewayAddress 0) (λ d. IsAddress d c.address)
  pub nas_ip : StandsAt document (Of GatewayNasIp 0) (λ d. IsAddress d c.nas_ip)
  pub shards : StandsOr document (Of GatewayShards 0) (λ d. IsNumber 1 64 d c.shards) (c.shards ≡ 4)
  pub workers : StandsOr document (Of GatewayWorkers 0) (λ d. IsNumber 1 16 d c.workers) (c.workers ≡ 2)
  pub terms : StandsOr document (Of GatewayTerms 0) (λ d. IsNumber 64 262144 d c.terms) (c.terms ≡ 8192)
  pub services : StandsOr document (Of GatewayServices 0) (λ d. AreServices d c.services) (c.services.items ≡ [])
  pub dns : StandsOr document (Of GatewayDns 0) (λ d. AreAddresses 0 2 d c.dns) (c.dns.items ≡ [])
  pub auth : StandsOr document (Of GatewayAuth 0) (λ d. AreKinds d c.auth) (c.auth.items ≡ Chap ∷ Pap ∷ [])
  pub echo : StandsOr document (Of GatewayEcho 0) (λ d. IsNumber 0 3600 d c.echo) (c.echo ≡ 30)
  pub core_local : StandsAt document (Of CoreLocal 0) (λ d. IsPeer d c.core_local)
  pub core_peer : StandsAt document (Of CorePeer 0) (λ d. IsPeer d c.core_peer)
  pub control_local : StandsAt document (Of ControlLocal 0) (λ d. IsPeer d c.control_local)
  pub access : AreEntries document Ports (IsPort document) c.access
  pub auth_local : StandsAt document (Of RadiusAuthLocal 0) (λ d. IsPeer d c.auth_local)
  pub auth_server : StandsAt document (Of RadiusAuthServer 0) (λ d. IsPeer d c.auth_server)
  pub acct_local : StandsAt document (Of RadiusAcctLocal 0) (λ d. IsPeer d c.acct_local)
  pub acct_server : StandsAt document (Of RadiusAcctServer 0) (λ d. IsPeer d c.acct_server)
  pub secret : StandsAt document (Of RadiusSecret 0) (λ d. IsOctets 64 d c.secret)
  pub tries : StandsOr document (Of RadiusTries 0) (λ d. IsNumber 1 10 d c.tries) (c.tries ≡ 4)
  pub tunnel_local : IsTunnel document c.tunnel_local
  pub lacs : AreEntries document Lacs (IsLacAt document) c.lacs
  pub coa : IsCoa document c.coa
  pub pools : AreEntries document Pools (IsPool document) c.pools
  pub profiles : AreProfiles document c.profiles
  pub statics : AreEntries document Circuits (IsCircuit document c.profiles) c.statics

-- the text is UTF-8, and is TOML for these members
pub record IsDocument (text : List ℕ) (members : Members) : Type 0 where
  pub utf8 : IsUtf8 text
  pub parsed : parse_document text ≡ Some members

-- the configuration is what the text says
pub record IsRead (text : List ℕ) (c : Config) : Type 0 where
  pub members : Members
  pub short : length text ≤ longest_text
  pub document : IsDocument text members
  pub configures : Configures (table members) c

-- the name is what is written of the first unknown name
pub record IsUnknownName (document : Data) (name : List ℕ) : Type 0 where
  pub mention : Mention
  pub first : IsFirstUnknown document mention
  pub written : name ≡ unknown_text mention

-- all names are known, and this is the lowest rule that is broken, and the first key at which it is
pub record IsFirstFault (document : Data) (r : Rule) (k : Key) : Type 0 where
  pub known : IsKnown document
  pub first : IsFirstBroken document r k

-- the text is TOML, and this holds of the document
pub record HasDocument (text : List ℕ) (P : Data → Type 0) : Type 0 where
  pub members : Members
  pub short : length text ≤ longest_text
  pub document : IsDocument text members
  pub holds : P (table members)

-- the text is short enough, and stands for no document
pub record IsNoDocument (text : List ℕ) : Type 0 where
  pub short : length text ≤ longest_text
  pub none : (members : Members) → ¬ IsDocument text members

-- the text has this fault, and none of an earlier rule
abbrev pub HasFault : List ℕ → Fault → Type 0
HasFault text TooLong = longest_text < length text
HasFault text NotToml = IsNoDocument text
HasFault text (Unknown name) = HasDocument text (λ d. IsUnknownName d name)
HasFault text (Broken r k) = HasDocument text (λ d. IsFirstFault d r k)

-- this fault is told, or that memory ran out
abbrev pub IsFaultOrMemory : Fault → ConfigError → Type 0
IsFaultOrMemory fault e = (e ≡ Refused fault) ⊎ (e ≡ OutOfMemory)

-- what is told is the fault of the document, or that memory ran out
abbrev pub IsToldOf : Data → ConfigError → Type 0
IsToldOf document (Refused TooLong) = ⊥
IsToldOf document (Refused NotToml) = ⊥
IsToldOf document (Refused (Unknown name)) = IsUnknownName document name
IsToldOf document (Refused (Broken r k)) = IsFirstFault document r k
IsToldOf document OutOfMemory = ⊤
