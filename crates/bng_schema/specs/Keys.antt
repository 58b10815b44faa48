-- The tables of the configuration and their keys: what each is called, whether it must be there, what may stand there, and
-- where.
use Rattle.std.specs.Prelude.{ℕ, zero, suc, Bool, true, false, List, [], ◌∷◌, ◌++◌, map, Option, None, Some, option_and_then, codes}
use Rattle.std.specs.List.{flat_map}
use Rattle.toml.specs.Data.{Data, Items, no_items, item, get, at, as_array}
use Rattle.bng_schema.specs.declared.keys.Table.{Table}
use Rattle.bng_schema.specs.declared.keys.Table.TheVariants.{Gateway, Core, Control, Access, Radius, Tunnel, Lac, Coa, Pool, Profile, Static}
use Rattle.bng_schema.specs.declared.keys.Field.{Field}
use Rattle.bng_schema.specs.declared.keys.Field.TheVariants.{GatewayName, GatewayAddress, GatewayNasIp, GatewayShards, GatewayWorkers, GatewayTerms, GatewayServices, GatewayDns, GatewayAuth, GatewayEcho, CoreLocal, CorePeer, ControlLocal, AccessLocal, AccessPeer, AccessMac, RadiusAuthLocal, RadiusAuthServer, RadiusAcctLocal, RadiusAcctServer, RadiusSecret, RadiusTries, TunnelLocal, LacIp, LacSecret, CoaLocal, CoaPeers, CoaSecret, PoolName, PoolFirst, PoolLast, ProfileName, ProfileUpCir, ProfileUpCbs, ProfileUpEbs, ProfileDownCir, ProfileDownCbs, ProfileDownEbs, StaticPort, StaticMac, StaticSession, StaticAddress, StaticUser, StaticProfile}
use Rattle.bng_schema.specs.declared.keys.Key.{Key}
use Rattle.bng_schema.specs.declared.keys.Key.TheVariants.{Whole, Of}
use Rattle.bng_schema.specs.declared.keys.Form.{Form}
use Rattle.bng_schema.specs.declared.keys.Form.TheVariants.{OneTable, TableList, PrintableText, LabelText, OctetText, AnyText, AddressText, PeerText, MacText, Number, PortNumber, SessionNumber, ServiceList, KindList, AddressList}

-- what the table of keys says of a key: in which table it stands, under which name, whether it must be there, and its form
pub record KeyRow : Type 0 where
  pub table : Table
  pub name : List ℕ
  pub needed : Bool
  pub form : Form

-- a key that must be there, and one that may be absent
abbrev pub needed_row : Table → List ℕ → Form → KeyRow
needed_row t name form = record { table = t; name = name; needed = true; form = form }

abbrev pub other_row : Table → List ℕ → Form → KeyRow
other_row t name form = record { table = t; name = name; needed = false; form = form }

-- the tables
abbrev pub table_row : Table → KeyRow
table_row Gateway = needed_row Gateway (codes "gateway") OneTable
table_row Core = needed_row Core (codes "core") OneTable
table_row Control = needed_row Control (codes "control") OneTable
table_row Access = needed_row Access (codes "access") (TableList 1 16)
table_row Radius = needed_row Radius (codes "radius") OneTable
table_row Tunnel = other_row Tunnel (codes "tunnel") OneTable
table_row Lac = other_row Lac (codes "lac") (TableList 0 16)
table_row Coa = other_row Coa (codes "coa") OneTable
table_row Pool = needed_row Pool (codes "pool") (TableList 1 16)
table_row Profile = other_row Profile (codes "profile") (TableList 0 16)
table_row Static = other_row Static (codes "static") (TableList 0 1024)

-- which tables are lists
abbrev pub is_list : Table → Bool
is_list Gateway = false
is_list Core = false
is_list Control = false
is_list Access = true
is_list Radius = false
is_list Tunnel = false
is_list Lac = true
is_list Coa = false
is_list Pool = true
is_list Profile = true
is_list Static = true

-- the keys of the tables
abbrev pub field_row : Field → KeyRow
field_row GatewayName = needed_row Gateway (codes "name") PrintableText
field_row GatewayAddress = needed_row Gateway (codes "address") AddressText
field_row GatewayNasIp = needed_row Gateway (codes "nas_ip") AddressText
field_row GatewayShards = other_row Gateway (codes "shards") (Number 1 64)
field_row GatewayWorkers = other_row Gateway (codes "workers") (Number 1 16)
field_row GatewayTerms = other_row Gateway (codes "terms") (Number 64 262144)
field_row GatewayServices = other_row Gateway (codes "services") ServiceList
field_row GatewayDns = other_row Gateway (codes "dns") (AddressList 0 2)
field_row GatewayAuth = other_row Gateway (codes "auth") KindList
field_row GatewayEcho = other_row Gateway (codes "echo") (Number 0 3600)
field_row CoreLocal = needed_row Core (codes "local") PeerText
field_row CorePeer = needed_row Core (codes "peer") PeerText
field_row ControlLocal = needed_row Control (codes "local") PeerText
field_row AccessLocal = needed_row Access (codes "local") PeerText
field_row AccessPeer = needed_row Access (codes "peer") PeerText
field_row AccessMac = needed_row Access (codes "mac") MacText
field_row RadiusAuthLocal = needed_row Radius (codes "auth_local") PeerText
field_row RadiusAuthServer = needed_row Radius (codes "auth_server") PeerText
field_row RadiusAcctLocal = needed_row Radius (codes "acct_local") PeerText
field_row RadiusAcctServer = needed_row Radius (codes "acct_server") PeerText
field_row RadiusSecret = needed_row Radius (codes "secret") (OctetText 64)
field_row RadiusTries = other_row Radius (codes "tries") (Number 1 10)
field_row TunnelLocal = needed_row Tunnel (codes "local") PeerText
field_row LacIp = needed_row Lac (codes "ip") AddressText
field_row LacSecret = other_row Lac (codes "secret") (OctetText 64)
field_row CoaLocal = needed_row Coa (codes "local") PeerText
field_row CoaPeers = needed_row Coa (codes "peers") (AddressList 1 16)
field_row CoaSecret = other_row Coa (codes "secret") (OctetText 64)
field_row PoolName = needed_row Pool (codes "name") LabelText
field_row PoolFirst = needed_row Pool (codes "first") AddressText
field_row PoolLast = needed_row Pool (codes "last") AddressText
field_row ProfileName = needed_row Profile (codes "name") LabelText
field_row ProfileUpCir = other_row Profile (codes "up_cir") (Number 1 1000000000000)
field_row ProfileUpCbs = other_row Profile (codes "up_cbs") (Number 0 4294967295)
field_row ProfileUpEbs = other_row Profile (codes "up_ebs") (Number 0 4294967295)
field_row ProfileDownCir = other_row Profile (codes "down_cir") (Number 1 1000000000000)
field_row ProfileDownCbs = other_row Profile (codes "down_cbs") (Number 0 4294967295)
field_row ProfileDownEbs = other_row Profile (codes "down_ebs") (Number 0 4294967295)
field_row StaticPort = needed_row Static (codes "port") PortNumber
field_row StaticMac = needed_row Static (codes "mac") MacText
field_row StaticSession = needed_row Static (codes "session") SessionNumber
field_row StaticAddress = needed_row Static (codes "address") AddressText
field_row StaticUser = needed_row Static (codes "user") (OctetText 128)
field_row StaticProfile = other_row Static (codes "profile") AnyText

-- the order of the tables, and of the keys of a table
abbrev pub tables : List Table
tables = Gateway ∷ Core ∷ Control ∷ Access ∷ Radius ∷ Tunnel ∷ Lac ∷ Coa ∷ Pool ∷ Profile ∷ Static ∷ []

abbrev pub fields : Table → List Field
fields Gateway = GatewayName ∷ GatewayAddress ∷ GatewayNasIp ∷ GatewayShards ∷ GatewayWorkers ∷ GatewayTerms ∷ GatewayServices ∷ GatewayDns ∷ GatewayAuth ∷ GatewayEcho ∷ []
fields Core = CoreLocal ∷ CorePeer ∷ []
fields Control = ControlLocal ∷ []
fields Access = AccessLocal ∷ AccessPeer ∷ AccessMac ∷ []
fields Radius = RadiusAuthLocal ∷ RadiusAuthServer ∷ RadiusAcctLocal ∷ RadiusAcctServer ∷ RadiusSecret ∷ RadiusTries ∷ []
fields Tunnel = TunnelLocal ∷ []
fields Lac = LacIp ∷ LacSecret ∷ []
fields Coa = CoaLocal ∷ CoaPeers ∷ CoaSecret ∷ []
fields Pool = PoolName ∷ PoolFirst ∷ PoolLast ∷ []
fields Profile = ProfileName ∷ ProfileUpCir ∷ ProfileUpCbs ∷ ProfileUpEbs ∷ ProfileDownCir ∷ ProfileDownCbs ∷ ProfileDownEbs ∷ []
fields Static = StaticPort ∷ StaticMac ∷ StaticSession ∷ StaticAddress ∷ StaticUser ∷ StaticProfile ∷ []

abbrev pub row : Key → KeyRow
row (Whole t) = table_row t
row (Of f place) = field_row f

-- a step into a value: the member of a name, or the item at a place from 0
pub data Step : Type 0 where
  named : List ℕ → Step
  placed : ℕ → Step

-- where the entry of a table at a place stands: a table that is no list is its own entry
abbrev pub path_if : Bool → List ℕ → ℕ → List Step
path_if true name place = named name ∷ placed place ∷ []
path_if false name place = named name ∷ []

abbrev pub entry_path : Table → ℕ → List Step
entry_path t place = path_if (is_list t) (table_row t).name place

-- where a key stands
abbrev pub path_of : Key → List Step
path_of (Whole t) = named (table_row t).name ∷ []
path_of (Of f place) = entry_path (field_row f).table place ++ named (field_row f).name ∷ []

-- the value to which the steps lead
abbrev pub value_at : List Step → Data → Option Data
value_at [] d = Some d
value_at (named name ∷ more) d = option_and_then (value_at more) (get name d)
value_at (placed place ∷ more) d = option_and_then (value_at more) (at place d)

abbrev pub item_count : Items → ℕ
item_count no_items = 0
item_count (item d ds) = suc (item_count ds)

-- how many items the value has, if it is a list
abbrev pub count_of : Option Items → ℕ
count_of None = 0
count_of (Some items) = item_count items

-- how many entries the table has: as many as items where it is to be a list, and else one where something stands there
abbrev pub entry_count : Bool → Option Data → ℕ
entry_count listed None = 0
entry_count true (Some d) = count_of (as_array d)
entry_count false (Some d) = 1

abbrev pub entries : Data → Table → ℕ
entries document t = entry_count (is_list t) (value_at (path_of (Whole t)) document)

-- what there is of this many entries, one after the other
abbrev pub of_entries : {X : Type 0} → (ℕ → List X) → ℕ → List X
of_entries at_place zero = []
of_entries at_place (suc n) = of_entries at_place n ++ at_place n

-- the keys of an entry, of a table, which itself comes before its entries, and of the document, in their order
abbrev pub entry_keys : Table → ℕ → List Key
entry_keys t place = map (λ f. Of f place) (fields t)

abbrev pub table_keys : Data → Table → List Key
table_keys document t = Whole t ∷ of_entries (entry_keys t) (entries document t)

unfoldable pub keys : Data → List Key
keys document = flat_map (table_keys document) tables
