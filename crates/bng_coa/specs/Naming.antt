-- Whether a request names a term: by the attributes that identify its session (RFC 5176 section 3), with the values that the term's
-- records have.
use Rattle.std.specs.Prelude.{◌==◌, ℕ, Bool, true, false, not, List, if◌then◌else◌}
use Rattle.std.specs.List.{list_any}
use Rattle.std.specs.Str.{bytes_eq}
use Rattle.byteorder.specs.Endian.{big_bytes}
use Rattle.bng_base.specs.declared.address.Ip4.{Ip4}
use Rattle.bng_base.specs.declared.circuit.Circuit.{Circuit}
use Rattle.bng_base.specs.declared.circuit.Circuit.TheVariants.{Pppoe, L2tp}
use Rattle.bng_base.specs.declared.circuit.TermId.{TermId}
use Rattle.bng_acct.specs.Texts.{session_id, station_id, port_id}
use Rattle.bng_radius_wire.specs.Attributes.{Field}
use Rattle.bng_coa.specs.declared.naming.Identity.{Identity}

-- a term, by what its records say of it: the second at which the run opened, its session and its number, its circuit, its address, and
-- its User-Name
pub record Named : Type 0 where
  pub wall : ℕ
  pub term : TermId
  pub circuit : Circuit
  pub address : Ip4
  pub user : List ℕ

-- without where the name lies in memory
abbrev pub named : Identity → Named
named i = record { wall = i.wall; term = i.term; circuit = i.circuit; address = i.address; user = i.user.now }

-- a Calling-Station-Id is the MAC of a PPPoE circuit; a call has none
abbrev pub is_other_station : Circuit → List ℕ → Bool
is_other_station (Pppoe port mac session) value = not (bytes_eq value (station_id mac.0))
is_other_station (L2tp peer tunnel session) value = true

-- The attribute is one that identifies a session, and its value is another than the term's: User-Name, NAS-Port, Framed-IP-Address,
-- Calling-Station-Id, Acct-Session-Id, NAS-Port-Id.
abbrev pub differs : Named → Field → Bool
differs t f =
    if f.kind == 1 then not (bytes_eq f.value t.user)
    else if f.kind == 5 then not (bytes_eq f.value (big_bytes 4 t.term.session.0))
    else if f.kind == 8 then not (bytes_eq f.value (big_bytes 4 t.address.0))
    else if f.kind == 31 then is_other_station t.circuit f.value
    else if f.kind == 44 then not (bytes_eq f.value (session_id t.wall t.term))
    else if f.kind == 87 then not (bytes_eq f.value (port_id t.circuit))
    else false

-- the term has all the values that are named
abbrev pub is_named : Named → List Field → Bool
is_named t fs = not (list_any (differs t) fs)
