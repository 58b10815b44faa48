-- A shard at its opening: the sessions of its provisioned circuits, and no tunnel.
use Rattle.std.specs.Prelude.{ℕ, ◌+◌, ◌*◌, ◌==◌, false, List, [], ◌∷◌, Some, None, length, filter, map, replicate}
use Rattle.std.specs.List.{flat_map, range_with_len}
use Rattle.std.specs.FinMap.{from_sorted}
use Rattle.bng_base.specs.declared.circuit.Circuit.TheVariants.{Pppoe}
use Rattle.bng_base.specs.declared.book.Profile.{Profile}
use Rattle.bng_base.specs.declared.settings.Static.{Static}
use Rattle.bng_lns.specs.Tunnels.{TunnelsState}
use Rattle.bng_steps.specs.declared.meters.Meters.{Meters}
use Rattle.bng_steps.specs.declared.session.Lease.{Lease}
use Rattle.bng_steps.specs.declared.session.Service.TheVariants.{Provisioned}
use Rattle.bng_steps.specs.declared.session.Session.{Session}
use Rattle.bng_steps.specs.declared.way.Way.TheVariants.{Port}
use Rattle.bng_steps.specs.Metered.{meters_of, no_meters, plan_at}
use Rattle.bng_steps.specs.State.{State}
use Rattle.bng_steps.specs.Tenures.{Tenure}
use Rattle.bng_steps.specs.Limits.{no_limits}
use Rattle.bng_term.specs.Lifetimes.{leased}

-- what a circuit leases from this moment on, by a term with this number; it has no timeouts
abbrev pub lease_from : ℕ → Static → ℕ → Lease
lease_from now c serial = record { serial = serial; address = c.address; profile = c.profile; life = leased no_limits now }

-- the session of a provisioned circuit, whose term has this number and began at this moment
abbrev pub provisioned : ℕ → Static → ℕ → Session
provisioned now c serial = record {
  number = c.session;
  way = Port c.port c.mac;
  service = Provisioned false;
  lease = Some (lease_from now c serial);
}

-- these, by their session numbers, with their terms numbered on after n
abbrev pub numbered_after : ℕ → ℕ → List Static → List (ℕ × Session)
numbered_after now n [] = []
numbered_after now n (c ∷ cs) = (c.session.0, provisioned now c (n + 1)) ∷ numbered_after now (n + 1) cs

-- the circuit with this session number, if there is one
abbrev pub circuit_at : List Static → ℕ → List Static
circuit_at circuits n = filter (λ c. c.session.0 == n) circuits

-- those of a shard's session numbers, by rising number
abbrev pub in_order : ℕ → List Static → List Static
in_order shard circuits = flat_map (circuit_at circuits) (range_with_len (shard * 1024 + 1) 1022)

-- the term of a provisioned circuit, with this number, which began at this moment; no Access-Accept gave it a Class
abbrev pub tenure_from : ℕ → Static → ℕ → Tenure
tenure_from now c serial = record {
  term = record { session = c.session; serial = serial };
  circuit = Pppoe c.port c.mac c.session;
  address = c.address;
  profile = c.profile;
  user = c.user.items;
  class = [];
  began = now;
  cause = None;
}

-- those of these circuits, numbered on after n
abbrev pub tenures_after : ℕ → ℕ → List Static → List Tenure
tenures_after now n [] = []
tenures_after now n (c ∷ cs) = tenure_from now c (n + 1) ∷ tenures_after now (n + 1) cs

-- no packet passed yet
abbrev pub none_passed : List ℕ
none_passed = replicate 1024 0

-- the meters of the term of this circuit, if there is one: they start full at this moment
abbrev pub circuit_meters : List Profile → ℕ → List Static → Meters
circuit_meters profiles now [] = no_meters
circuit_meters profiles now (c ∷ cs) = meters_of (plan_at profiles c.profile) now

-- Those of a shard's session numbers, by rising number. The first and the last of the 1,024 are no session's.
unfoldable pub opened_meters : ℕ → List Profile → List Static → ℕ → List Meters
opened_meters shard profiles circuits now = map (λ n. circuit_meters profiles now (circuit_at circuits n)) (range_with_len (shard * 1024) 1024)

-- no tunnel was made yet
abbrev pub no_tunnels : ℕ → TunnelsState
no_tunnels number = record { shard = number; places = [] }

-- what stands in a shard at its opening, which is at this moment: of each term a Start is formed then
abbrev pub opened_slots : ℕ → List Profile → List Static → ℕ → State
opened_slots number profiles circuits now = record {
  sessions = record { shard = number; by_number = from_sorted (numbered_after now 0 (in_order number circuits)) };
  begun = length circuits;
  question_count = 0;
  terms = tenures_after now 0 (in_order number circuits);
  news = [];
  passed = none_passed;
  meters = opened_meters number profiles circuits now;
  tunnels = no_tunnels number;
}
