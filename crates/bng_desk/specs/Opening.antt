-- A desk that was opened over a configuration.
use Rattle.std.specs.Prelude.{◌≡◌, ◌≢◌, ℕ, ◌+◌, ◌/◌, ◌<◌, ◌≤◌, ◌==◌, false, List, [], ◌∷◌, Option, Some, None, find, is_some, length, map, filter, option_map, slice_get}
use Rattle.std.specs.List.{All, AllPairs, AllZip, range_with_len}
use Rattle.arrayvec.specs.ArrayVec.{ArrayVec}
use Rattle.bng_acct.specs.declared.held.Held.{Held}
use Rattle.bng_acct.specs.Roster.{of_term}
use Rattle.bng_base.specs.declared.address.Ip4.{Ip4}
use Rattle.bng_base.specs.declared.circuit.TermId.{TermId}
use Rattle.bng_base.specs.declared.item.Entry.{Entry}
use Rattle.bng_base.specs.declared.settings.AccessPort.{AccessPort}
use Rattle.bng_base.specs.declared.settings.CoaPart.{CoaPart}
use Rattle.bng_base.specs.declared.settings.NamedRange.{NamedRange}
use Rattle.bng_base.specs.declared.settings.Static.{Static}
use Rattle.bng_coa.specs.State.{State as CoaState}
use Rattle.bng_config.specs.declared.config.Config.{Config}
use Rattle.bng_discovery.specs.declared.port.PortRules.{PortRules}
use Rattle.bng_base.specs.Books.{empty_book}
use Rattle.bng_engine.specs.Lists.{AnyOf}
use Rattle.bng_engine.specs.Terms.{Key}
use Rattle.bng_engine.specs.Views.{ShardView}
use Rattle.bng_billing.specs.declared.rules.BillingRules.{BillingRules}
use Rattle.bng_billing.specs.State.{BillingState, IsNewBilling}
use Rattle.bng_lane.specs.declared.rules.LaneRules.{LaneRules}
use Rattle.bng_lane.specs.State.{LaneState, IsNewLane}
use Rattle.bng_pool.specs.Plain.{PlainView}
use Rattle.bng_pool.specs.Tables.{entry}
use Rattle.bng_steps.specs.declared.rules.Rules.{Rules}
use Rattle.bng_steps.specs.Interims.{Reports, no_reports}
use Rattle.bng_steps.specs.Protocol.{ShardState, opened}
use Rattle.bng_steps.specs.Questions.{none_handed}
use Rattle.bng_sessions.specs.Sessions.{IsNumberOf}
use Rattle.bng_desk.specs.declared.line.CircuitLine.{CircuitLine}
use Rattle.bng_desk.specs.Accounting.{AreBilled, FormedRecord, Forms, IsStartOf}
use Rattle.bng_desk.specs.Counting.{no_drops}
use Rattle.bng_desk.specs.Model.{Desk, keys_in, no_traffic}
use Rattle.bng_desk.specs.Random.{draw}
use Rattle.bng_desk.specs.Round.{terms_in}
use Rattle.bng_desk.specs.Taking.{Accounts, BooksStarts, no_stops, states_of}

-- what the access port with this number offers: its MAC, this key of its cookies, this name and these services
pub record IsOfferOf (name : List ℕ) (services : List (ArrayVec ℕ)) (key : List ℕ) (number : ℕ) (port : AccessPort) (offer : PortRules) : Type 0 where
  pub number_is : offer.port ≡ number
  pub mac : offer.mac ≡ port.mac
  pub key_is : offer.key ≡ key
  pub name_is : offer.name.items ≡ name
  pub services_are : map (λ (s : ArrayVec ℕ). s.items) offer.services.items ≡ map (λ (s : ArrayVec ℕ). s.items) services

-- of the ports from this number on
abbrev pub AreOffersOf : List ℕ → List (ArrayVec ℕ) → List ℕ → ℕ → List AccessPort → List PortRules → Type 0
AreOffersOf name services key number [] offers = offers ≡ []
AreOffersOf name services key number (port ∷ ports) [] = ⊥
AreOffersOf name services key number (port ∷ ports) (offer ∷ offers) = IsOfferOf name services key number port offer × AreOffersOf name services key (number + 1) ports offers

-- the gateway's name and services, and the first sixteen random octets of the seed as the key
abbrev pub AreOffers : Config → List ℕ → List AccessPort → List PortRules → Type 0
AreOffers config seed ports offers = AreOffersOf config.name.items config.services.items (draw seed 0) 1 ports offers

-- the DNS servers that it offers: at most two (RFC 1877 sections 1.1 and 1.3)
abbrev pub dns_of : List Ip4 → List (Option Ip4)
dns_of servers = slice_get servers 0 ∷ slice_get servers 1 ∷ []

-- by what the shards work, where the run opened at this second on the wall
pub record AreRules (config : Config) (seed : List ℕ) (wall : ℕ) (r : Rules) : Type 0 where
  pub shards : r.shards ≡ config.shards
  pub core_peer : r.core_peer ≡ config.core_peer
  pub access : r.access ≡ config.access
  pub offers : AreOffers config seed config.access r.offers
  pub pools : r.pools ≡ config.pools
  pub profiles : r.profiles ≡ config.profiles
  pub lacs : r.lacs ≡ config.lacs
  pub serves_tunnels : r.serves_tunnels ≡ is_some config.tunnel_local
  pub nas_ip : r.nas_ip ≡ config.nas_ip
  pub opened_at : r.wall ≡ wall
  pub serves_changes : r.serves_changes ≡ is_some config.coa
  pub name : r.link.name.items ≡ config.name.items
  pub address : r.link.address ≡ config.address
  pub dns : r.link.dns ≡ dns_of config.dns.items
  pub auth : r.link.auth.items ≡ config.auth.items
  pub echo : r.link.echo ≡ config.echo

abbrev pub line_of : Static → CircuitLine
line_of c = record { session = c.session; address = c.address; stopped = no_traffic }

-- the shard of a session number
abbrev pub shard_of : Static → ℕ
shard_of c = c.session.0 / 1024

-- the circuit with an address, and the shard of it
abbrev pub circuit_with : List Static → ℕ → Option Static
circuit_with circuits a = find (λ (c : Static). c.address.0 == a) circuits

-- The addresses of the configured pools, of which each circuit's is held by the circuit's shard, and no other is held.
pub record IsOpenedPool (config : Config) (pool : PlainView) : Type 0 where
  pub ranges : pool.ranges ≡ map (λ (p : NamedRange). p.range) config.pools
  pub shards : pool.shards ≡ config.shards
  pub table : (a : ℕ) → entry pool.table a ≡ option_map shard_of (circuit_with config.statics a)

-- The circuits are of the shards and on the ports that there are, each with a profile that there is, and no two have the same session
-- number or the same address.
pub record AreServed (r : Rules) (circuits : List Static) : Type 0 where
  pub inside : All (λ c. shard_of c < r.shards) circuits
  pub own : All (λ c. IsNumberOf (shard_of c) c.session.0) circuits
  pub sessions : AllPairs (λ a b. a.session ≢ b.session) circuits
  pub addresses : AllPairs (λ a b. a.address ≢ b.address) circuits
  pub ports : All (λ c. (1 ≤ c.port) × (c.port ≤ length r.access)) circuits
  pub profiles : All (λ c. c.profile < length r.profiles) circuits

-- the circuits of a shard, in the order of the configuration
abbrev pub statics_of : Config → ℕ → List Static
statics_of config shard = filter (λ c. shard_of c == shard) config.statics

abbrev pub opened_shards : Config → Rules → ℕ → List (ShardView ShardState Entry)
opened_shards config rules now = map (λ n. opened n rules (statics_of config n) now) (range_with_len 0 config.shards)

-- what the lane of questions is opened with: what an Access-Request says of the gateway, the server, the secret and how often a request
-- is sent
abbrev pub lane_rules : Config → LaneRules
lane_rules config = record { nas = record { name = config.name; nas_ip = config.nas_ip }; server = config.auth_server; secret = config.secret; tries = config.tries }

-- what accounting is opened with: for how many terms there is room, the second on the wall at which the run opened, what a record says of
-- the gateway, the server, and the secret
abbrev pub billing_rules : Config → ℕ → BillingRules
billing_rules config wall = record {
  acct = record { terms = config.terms; wall = wall; name = config.name; nas_ip = config.nas_ip };
  server = config.acct_server;
  secret = config.secret;
}

-- who may ask for changes, and by which secret; nobody may where the configuration has no such part
abbrev pub coa_of : Option CoaPart → CoaState
coa_of None = record { peers = []; secret = []; requests = [] }
coa_of (Some c) = record { peers = c.peers.items; secret = c.secret.items; requests = [] }

-- Accounting was opened by these rules over these lines, and of each of the terms of these shards a Start was formed, at this moment, in
-- their order; each of them is live in accounting from then on, and it knows of no other.
pub record OpensAccounts (rules : BillingRules) (lines : List CircuitLine) (reports : List Reports) (shards : List (ShardView ShardState Entry)) (now : ℕ) (a : Accounts) : Type 0 where
  pub new_billing : BillingState
  pub is_new : IsNewBilling rules new_billing
  pub booked : BooksStarts (terms_in (states_of shards)) now rules.acct.wall (keys_in shards) (record { lines = lines; stopped = no_stops; billing = new_billing; reports = reports }) a
  pub billed : AreBilled (keys_in shards) a.billing
  pub known : (t : TermId) (h : Held) → of_term t a.billing.spool.held ≡ Some h → AnyOf (λ (k : Key). k.term ≡ t) (keys_in shards)

-- Each shard works by the same rules. Each provisioned circuit has its term in the shard of its number and holds its address; there is no
-- session, and nothing has passed. No request for a change is in hand. Of each term a Start was formed, at this moment and this second of
-- the wall, by rising session number.
pub record IsOpened (config : Config) (rounds : ℕ) (seed : List ℕ) (now wall : ℕ) (d : Desk) : Type 0 where
  pub rules : Rules
  pub are_rules : AreRules config seed wall rules
  pub lane : LaneState
  pub new_lane : IsNewLane (lane_rules config) lane
  pub pool : PlainView
  pub is_pool : IsOpenedPool config pool
  pub new_billing : BillingState
  pub is_new : IsNewBilling (billing_rules config wall) new_billing
  pub starts : List FormedRecord
  pub are_starts : AllZip (IsStartOf (terms_in (states_of (opened_shards config rules now))) now wall) (keys_in (opened_shards config rules now)) starts
  pub billing : BillingState
  pub forms : Forms new_billing starts billing
  pub desk : d ≡ record {
    rules = rules;
    lines = map line_of config.statics;
    stopped_book = empty_book;
    stops = 0;
    rounds = rounds;
    turns = 0;
    stopped = false;
    shards = opened_shards config rules now;
    pool = pool;
    tallies = empty_book ∷ [];
    seed = seed;
    drawn = 1;
    drops = no_drops;
    moment = now;
    told = 0;
    lane = lane;
    handed = map (λ n. none_handed) (range_with_len 0 config.shards);
    billing = billing;
    reports = map (λ n. no_reports) (range_with_len 0 config.shards);
    coa = coa_of config.coa;
    endings = 0;
    unopened = 0;
    closed = false;
    closing = now;
    graces = 0;
    kept = [];
  }
