use Rattle.std.proofs.Common.{refl}
use Rattle.toml.specs.View.{view}
use Rattle.bng_schema.specs.declared.keys.Field.TheVariants.{StaticPort, StaticMac, StaticSession, StaticAddress, StaticUser}
use Rattle.bng_schema.specs.declared.keys.Form.TheVariants.{PortNumber, MacText, SessionNumber, AddressText, OctetText}
use Rattle.bng_config.proofs.Held.{there_as, ports_between}
use Rattle.bng_config.proofs.circuits.circuit_at.Goals as goal

pub port_of-port-requires-clause-there : goal.port_of-port-requires-clause-there
port_of-port-requires-clause-there c =
    let document = view c.args.document.now in
    there_as document c.requires.sound StaticPort c.args.place PortNumber c.requires.there refl refl

pub mac_of-mac-requires : goal.mac_of-mac-requires
mac_of-mac-requires c =
    let document = view c.args.document.now in
    there_as document c.requires.sound StaticMac c.args.place MacText c.requires.there refl refl

pub session_of-session-requires-clause-there : goal.session_of-session-requires-clause-there
session_of-session-requires-clause-there c =
    let document = view c.args.document.now in
    there_as document c.requires.sound StaticSession c.args.place SessionNumber c.requires.there refl refl

pub address_of-address-requires : goal.address_of-address-requires
address_of-address-requires c =
    let document = view c.args.document.now in
    there_as document c.requires.sound StaticAddress c.args.place AddressText c.requires.there refl refl

pub user_of-user-requires : goal.user_of-user-requires
user_of-user-requires c =
    let document = view c.args.document.now in
    there_as document c.requires.sound StaticUser c.args.place (OctetText 128) c.requires.there refl refl

pub port_of-port-requires-clause-few : goal.port_of-port-requires-clause-few
port_of-port-requires-clause-few c = (ports_between (view c.args.document.now) c.requires.sound).1
