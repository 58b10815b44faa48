-- A text stands for one configuration.
use Rattle.std.proofs.Common.{◌≡◌, ℕ, ◌<◌, List, [], ◌∷◌, Option, Some, None, option_and_then, codes, refl, sym, ap, subst, ◌∙◌, arith, inl, inr}
use Rattle.std.proofs.lemmas.Option.{same_Some}
use Rattle.arrayvec.specs.ArrayVec.{ArrayVec}
use Rattle.toml.specs.Data.{Data, table, get}
use Rattle.bng_base.specs.declared.address.Peer.{Peer}
use Rattle.bng_base.specs.declared.book.Profile.{Profile}
use Rattle.bng_base.specs.declared.book.Rate.{Rate}
use Rattle.bng_base.specs.declared.settings.AccessPort.{AccessPort}
use Rattle.bng_base.specs.declared.settings.AuthKind.TheVariants.{Chap, Pap}
use Rattle.bng_base.specs.declared.settings.CoaPart.{CoaPart}
use Rattle.bng_base.specs.declared.settings.Lac.{Lac}
use Rattle.bng_base.specs.declared.settings.NamedRange.{NamedRange}
use Rattle.bng_base.specs.declared.settings.Static.{Static}
use Rattle.bng_schema.specs.declared.keys.Table.{Table}
use Rattle.bng_schema.specs.declared.keys.Table.TheVariants.{Access as Ports, Lac as Lacs, Pool as Pools, Profile as Profiles, Static as Circuits}
use Rattle.bng_schema.specs.declared.keys.Field.{Field}
use Rattle.bng_schema.specs.declared.keys.Field.TheVariants.{ProfileUpCir, ProfileUpCbs, ProfileUpEbs, ProfileDownCir, ProfileDownCbs, ProfileDownEbs, LacSecret, RadiusSecret}
use Rattle.bng_schema.specs.declared.keys.Key.{Key}
use Rattle.bng_schema.specs.declared.keys.Key.TheVariants.{Of}
use Rattle.bng_schema.specs.Keys.{named, path_of, value_at, entries}
use Rattle.bng_schema.specs.Forms.{StandsAt, IsName, IsLabel, IsOctets, IsNumber, AreServices, AreKinds, IsPeer, IsAddress, AreAddresses, IsMac, IsSession, shards_of}
use Rattle.bng_schema.proofs.Spellings.{same_items, string_once, name_once, label_once, octets_once, number_once, services_once, kinds_once}
use Rattle.bng_schema.proofs.Once.{address_at_once, peer_once, mac_once, session_once, addresses_once, one_at, one_or, one_list}
use Rattle.bng_config.specs.declared.config.Config.{Config}
use Rattle.bng_config.specs.Configuration.{AreEntries, IsPort, IsSecretOrNone, IsLacAt, IsTunnel, IsCoaPart, IsCoa, IsPool, AreRates, IsRate, IsProfile, default_profile, AreProfiles, IsPlaceOf, IsProfilePlace, IsCircuit, Configures, IsRead}
use Rattle.bng_config.proofs.Exclusive.{one_document}

-- something stands at the key, or nothing
there_or_not : {document : Data} {key : Key} {P : Data → Type 0} → value_at (path_of key) document ≡ None → StandsAt document key P → ⊥
there_or_not none s = let both = sym none ∙ s.found in cc

entries_once : {X : Type 0} (document : Data) (t : Table) (P : ℕ → X → Type 0) → ((i : ℕ) (x y : X) → P i x → P i y → x ≡ y) → (xs ys : List X)
    → AreEntries document t P xs → AreEntries document t P ys → xs ≡ ys
entries_once document t P once xs ys p q = one_list P once xs ys (p.all ∙ sym q.all) p.are q.are

port_once : (document : Data) (place : ℕ) (a b : AccessPort) → IsPort document place a → IsPort document place b → a ≡ b
port_once document place a b p q =
    let locals : a.local ≡ b.local = one_at IsPeer peer_once a.local b.local p.local q.local in
    let peers : a.peer ≡ b.peer = one_at IsPeer peer_once a.peer b.peer p.peer q.peer in
    let macs : a.mac ≡ b.mac = one_at IsMac mac_once a.mac b.mac p.mac q.mac in
    λ i. record { local = locals i; peer = peers i; mac = macs i }

secret_once : (document : Data) (key : Key) (a b : Option (ArrayVec ℕ)) → IsSecretOrNone document key a → IsSecretOrNone document key b → a ≡ b
secret_once document key None None p q = refl
secret_once document key None (Some t) p q = absurd (there_or_not p q)
secret_once document key (Some s) None p q = absurd (there_or_not q p)
secret_once document key (Some s) (Some t) p q = ap Some (one_at (IsOctets 64) (octets_once 64) s t p q)

lac_once : (document : Data) (place : ℕ) (a b : Lac) → IsLacAt document place a → IsLacAt document place b → a ≡ b
lac_once document place a b p q =
    let ips : a.ip ≡ b.ip = one_at IsAddress address_at_once a.ip b.ip p.ip q.ip in
    let secrets : a.secret ≡ b.secret = secret_once document (Of LacSecret place) a.secret b.secret p.secret q.secret in
    λ i. record { ip = ips i; secret = secrets i }

-- a key of a table that is not there
tableless : (o : Option Data) (name : List ℕ) → option_and_then (value_at []) o ≡ None → option_and_then (value_at (named name ∷ [])) o ≡ None
tableless None name e = refl
tableless (Some d) name e = cc

tunnel_once : (document : Data) (a b : Option Peer) → IsTunnel document a → IsTunnel document b → a ≡ b
tunnel_once document None None p q = refl
tunnel_once document None (Some l) p q = absurd (there_or_not (tableless (get (codes "tunnel") document) (codes "local") p) q)
tunnel_once document (Some k) None p q = absurd (there_or_not (tableless (get (codes "tunnel") document) (codes "local") q) p)
tunnel_once document (Some k) (Some l) p q = ap Some (one_at IsPeer peer_once k l p q)

part_once : (document : Data) (a b : CoaPart) → IsCoaPart document a → IsCoaPart document b → a ≡ b
part_once document a b p q =
    let locals : a.local ≡ b.local = one_at IsPeer peer_once a.local b.local p.local q.local in
    let peers : a.peers ≡ b.peers = one_at (AreAddresses 1 16) (addresses_once 1 16) a.peers b.peers p.peers q.peers in
    let secrets : a.secret ≡ b.secret = one_or (IsOctets 64) (λ s. StandsAt document (Of RadiusSecret 0) (λ d. IsOctets 64 d s)) (octets_once 64)
    (λ x y e f. one_at (IsOctets 64) (octets_once 64) x y e f) a.secret b.secret p.secret q.secret in
    λ i. record { local = locals i; peers = peers i; secret = secrets i }

coa_once : (document : Data) (a b : Option CoaPart) → IsCoa document a → IsCoa document b → a ≡ b
coa_once document None None p q = refl
coa_once document None (Some l) p q = absurd (there_or_not (tableless (get (codes "coa") document) (codes "local") p) q.local)
coa_once document (Some k) None p q = absurd (there_or_not (tableless (get (codes "coa") document) (codes "local") q) p.local)
coa_once document (Some k) (Some l) p q = ap Some (part_once document k l p q)

pub pool_once : (document : Data) (place : ℕ) (a b : NamedRange) → IsPool document place a → IsPool document place b → a ≡ b
pool_once document place a b p q =
    let names : a.name ≡ b.name = one_at IsLabel label_once a.name b.name p.name q.name in
    let firsts : a.range.first ≡ b.range.first = one_at IsAddress address_at_once a.range.first b.range.first p.first q.first in
    let lasts : a.range.last ≡ b.range.last = one_at IsAddress address_at_once a.range.last b.range.last p.last q.last in
    let ranges : a.range ≡ b.range = λ i. record { first = firsts i; last = lasts i } in
    λ i. record { name = names i; range = ranges i }

rates_once : (document : Data) (place : ℕ) (cir cbs ebs : Field) (a b : Rate) → AreRates document place cir cbs ebs a → AreRates document place cir cbs ebs b → a ≡ b
rates_once document place cir cbs ebs a b p q =
    let rates : a.cir ≡ b.cir = one_at (IsNumber 1 1000000000000) (number_once 1 1000000000000) a.cir b.cir p.cir q.cir in
    let committed : a.cbs ≡ b.cbs = one_at (IsNumber 0 4294967295) (number_once 0 4294967295) a.cbs b.cbs p.cbs q.cbs in
    let excess : a.ebs ≡ b.ebs = one_at (IsNumber 0 4294967295) (number_once 0 4294967295) a.ebs b.ebs p.ebs q.ebs in
    λ i. record { cir = rates i; cbs = committed i; ebs = excess i }

rate_once : (document : Data) (place : ℕ) (cir cbs ebs : Field) (a b : Option Rate) → IsRate document place cir cbs ebs a → IsRate document place cir cbs ebs b → a ≡ b
rate_once document place cir cbs ebs None None p q = refl
rate_once document place cir cbs ebs None (Some s) p q = absurd (there_or_not p q.cir)
rate_once document place cir cbs ebs (Some r) None p q = absurd (there_or_not q p.cir)
rate_once document place cir cbs ebs (Some r) (Some s) p q = ap Some (rates_once document place cir cbs ebs r s p q)

profile_once : (document : Data) (place : ℕ) (a b : Profile) → IsProfile document place a → IsProfile document place b → a ≡ b
profile_once document place a b p q =
    let names : a.name ≡ b.name = one_at IsLabel label_once a.name b.name p.name q.name in
    let ups : a.up ≡ b.up = rate_once document place ProfileUpCir ProfileUpCbs ProfileUpEbs a.up b.up p.up q.up in
    let downs : a.down ≡ b.down = rate_once document place ProfileDownCir ProfileDownCbs ProfileDownEbs a.down b.down p.down q.down in
    λ i. record { name = names i; up = ups i; down = downs i }

profiles_once : (document : Data) (xs ys : List Profile) → AreProfiles document xs → AreProfiles document ys → xs ≡ ys
profiles_once document xs ys (inl p) (inl q) = p.1 ∙ sym q.1
profiles_once document xs ys (inl (none, p)) (inr (some, q)) = absurd (omega arith)
profiles_once document xs ys (inr (some, p)) (inl (none, q)) = absurd (omega arith)
profiles_once document xs ys (inr p) (inr q) = entries_once document Profiles (IsProfile document) (profile_once document) xs ys p.1 q.1

-- the first profile of a name stands at one place
place_once : (profiles : List Profile) (name : List ℕ) (k l : ℕ) → IsPlaceOf profiles name k → IsPlaceOf profiles name l → k ≡ l
place_once profiles name k l p q =
    let low : k < l → ⊥ = λ less. q.first k default_profile less (p.named default_profile) in
    let high : l < k → ⊥ = λ less. p.first l default_profile less (q.named default_profile) in
    omega (arith, low, high)

profile_place_once : (document : Data) (profiles : List Profile) (place k l : ℕ) → IsProfilePlace document profiles place k → IsProfilePlace document profiles place l → k ≡ l
profile_place_once document profiles place k l (inl p) (inl q) = p.1 ∙ sym q.1
profile_place_once document profiles place k l (inl (none, p)) (inr (name, at, q)) = let both = sym none ∙ at in cc
profile_place_once document profiles place k l (inr (name, at, p)) (inl (none, q)) = let both = sym none ∙ at in cc
profile_place_once document profiles place k l (inr (name, at, p)) (inr (other, there, q)) =
    let same : name ≡ other = string_once name other (same_Some _ _ (sym at ∙ there)) in
    place_once profiles other k l (subst (λ n. IsPlaceOf profiles n k) same p) q

circuit_once : (document : Data) (profiles : List Profile) (place : ℕ) (a b : Static) → IsCircuit document profiles place a → IsCircuit document profiles place b → a ≡ b
circuit_once document profiles place a b p q =
    let most : ℕ = entries document Ports in
    let ports : a.port ≡ b.port = one_at (IsNumber 1 most) (number_once 1 most) a.port b.port p.port q.port in
    let macs : a.mac ≡ b.mac = one_at IsMac mac_once a.mac b.mac p.mac q.mac in
    let sessions : a.session ≡ b.session = one_at (IsSession (shards_of document)) (session_once (shards_of document)) a.session b.session p.session q.session in
    let addresses : a.address ≡ b.address = one_at IsAddress address_at_once a.address b.address p.address q.address in
    let users : a.user ≡ b.user = one_at (IsOctets 128) (octets_once 128) a.user b.user p.user q.user in
    let places : a.profile ≡ b.profile = profile_place_once document profiles place a.profile b.profile p.profile q.profile in
    λ i. record { port = ports i; mac = macs i; session = sessions i; address = addresses i; user = users i; profile = places i }

one_configuration : (document : Data) (a b : Config) → Configures document a → Configures document b → a ≡ b
one_configuration document a b p q =
    let names : a.name ≡ b.name = one_at IsName name_once a.name b.name p.name q.name in
    let owns : a.address ≡ b.address = one_at IsAddress address_at_once a.address b.address p.address q.address in
    let nas : a.nas_ip ≡ b.nas_ip = one_at IsAddress address_at_once a.nas_ip b.nas_ip p.nas_ip q.nas_ip in
    let shards : a.shards ≡ b.shards = one_or (IsNumber 1 64) (λ n. n ≡ 4) (number_once 1 64) (λ x y e f. e ∙ sym f) a.shards b.shards p.shards q.shards in
    let workers : a.workers ≡ b.workers = one_or (IsNumber 1 16) (λ n. n ≡ 2) (number_once 1 16) (λ x y e f. e ∙ sym f) a.workers b.workers p.workers q.workers in
    let terms : a.terms ≡ b.terms = one_or (IsNumber 64 262144) (λ n. n ≡ 8192) (number_once 64 262144) (λ x y e f. e ∙ sym f) a.terms b.terms p.terms q.terms in
    let services : a.services ≡ b.services = one_or AreServices (λ s. s.items ≡ []) services_once (λ x y e f. same_items x y (e ∙ sym f)) a.services b.services p.services q.services in
    let servers_of_names : a.dns ≡ b.dns = one_or (AreAddresses 0 2) (λ s. s.items ≡ []) (addresses_once 0 2) (λ x y e f. same_items x y (e ∙ sym f)) a.dns b.dns p.dns q.dns in
    let kinds : a.auth ≡ b.auth = one_or AreKinds (λ k. k.items ≡ Chap ∷ Pap ∷ []) kinds_once (λ x y e f. same_items x y (e ∙ sym f)) a.auth b.auth p.auth q.auth in
    let echos : a.echo ≡ b.echo = one_or (IsNumber 0 3600) (λ n. n ≡ 30) (number_once 0 3600) (λ x y e f. e ∙ sym f) a.echo b.echo p.echo q.echo in
    let locals : a.core_local ≡ b.core_local = one_at IsPeer peer_once a.core_local b.core_local p.core_local q.core_local in
    let peers : a.core_peer ≡ b.core_peer = one_at IsPeer peer_once a.core_peer b.core_peer p.core_peer q.core_peer in
    let controls : a.control_local ≡ b.control_local = one_at IsPeer peer_once a.control_local b.control_local p.control_local q.control_local in
    let ports : a.access ≡ b.access = entries_once document Ports (IsPort document) (port_once document) a.access b.access p.access q.access in
    let auths : a.auth_local ≡ b.auth_local = one_at IsPeer peer_once a.auth_local b.auth_local p.auth_local q.auth_local in
    let servers : a.auth_server ≡ b.auth_server = one_at IsPeer peer_once a.auth_server b.auth_server p.auth_server q.auth_server in
    let accounts : a.acct_local ≡ b.acct_local = one_at IsPeer peer_once a.acct_local b.acct_local p.acct_local q.acct_local in
    let accountants : a.acct_server ≡ b.acct_server = one_at IsPeer peer_once a.acct_server b.acct_server p.acct_server q.acct_server in
    let secrets : a.secret ≡ b.secret = one_at (IsOctets 64) (octets_once 64) a.secret b.secret p.secret q.secret in
    let tries : a.tries ≡ b.tries = one_or (IsNumber 1 10) (λ n. n ≡ 4) (number_once 1 10) (λ x y e f. e ∙ sym f) a.tries b.tries p.tries q.tries in
    let tunnels : a.tunnel_local ≡ b.tunnel_local = tunnel_once document a.tunnel_local b.tunnel_local p.tunnel_local q.tunnel_local in
    let lacs : a.lacs ≡ b.lacs = entries_once document Lacs (IsLacAt document) (lac_once document) a.lacs b.lacs p.lacs q.lacs in
    let changes : a.coa ≡ b.coa = coa_once document a.coa b.coa p.coa q.coa in
    let pools : a.pools ≡ b.pools = entries_once document Pools (IsPool document) (pool_once document) a.pools b.pools p.pools q.pools in
    let profiles : a.profiles ≡ b.profiles = profiles_once document a.profiles b.profiles p.profiles q.profiles in
    let circuits : a.statics ≡ b.statics = entries_once document Circuits (IsCircuit document b.profiles) (circuit_once document b.profiles) a.statics b.statics
    (subst (λ (ps : List Profile). AreEntries document Circuits (IsCircuit document ps) a.statics) profiles p.statics) q.statics in
    λ i. record {
      name = names i;
      shards = shards i;
      services = services i;
      auth = kinds i;
      echo = echos i;
      control_local = controls i;
      core_local = locals i;
      core_peer = peers i;
      access = ports i;
      statics = circuits i;
      nas_ip = nas i;
      auth_local = auths i;
      auth_server = servers i;
      secret = secrets i;
      tries = tries i;
      terms = terms i;
      acct_local = accounts i;
      acct_server = accountants i;
      address = owns i;
      dns = servers_of_names i;
      pools = pools i;
      profiles = profiles i;
      workers = workers i;
      tunnel_local = tunnels i;
      lacs = lacs i;
      coa = changes i;
    }

-- a text says one configuration
pub one_reading : (text : List ℕ) (a b : Config) → IsRead text a → IsRead text b → a ≡ b
one_reading text a b p q =
    let same = one_document text p.members q.members p.document q.document in
    one_configuration (table q.members) a b (subst (λ ms. Configures (table ms) a) same p.configures) q.configures
