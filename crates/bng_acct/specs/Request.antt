-- A record as an Accounting-Request (RFC 2866 section 4.1) that is still to be numbered and signed.
use Rattle.std.specs.Prelude.{◌≡◌, ℕ, ◌≤◌, List, length, replicate}
use Rattle.std.specs.List.{AllByRecursion}
use Rattle.bng_base.specs.Packet.{Packet as Bytes}
use Rattle.bng_radius_wire.specs.Attributes.{Field, AreAttributes}
use Rattle.bng_radius_wire.specs.Grammar.{Packet, IsRadius}
use Rattle.bng_radius_wire.specs.Digests.{CanBeSigned}
use Rattle.bng_acct.specs.declared.facts.Record.{Record}
use Rattle.bng_acct.specs.declared.rules.AcctRules.{AcctRules}
use Rattle.bng_acct.specs.Attributes.{attributes}

abbrev pub IsClass : Field → Type 0
IsClass f = f.kind ≡ 25

-- the octets are these Class attributes, whole and in order
pub record AreClasses (classes : List Field) (octets : List ℕ) : Type 0 where
  pub whole : AreAttributes classes octets
  pub classes_all : AllByRecursion IsClass classes
  pub few : length classes ≤ 32

-- the packet is the record's: an Accounting-Request with identifier 0, no authenticator, and the record's attributes
pub record IsRequest (rules : AcctRules) (r : Record) (p : Packet) : Type 0 where
  pub code : p.code ≡ 4
  pub id : p.id ≡ 0
  pub authenticator : p.authenticator ≡ replicate 16 0
  pub classes : List Field
  pub are : AreClasses classes r.facts.class.items
  pub attributes_are : p.attributes ≡ attributes rules r classes

-- the frame holds the record's packet, which can be signed, and nothing else
pub record HoldsRequest (rules : AcctRules) (r : Record) (frame : Bytes) : Type 0 where
  pub packet : Packet
  pub is : IsRequest rules r packet
  pub reads : IsRadius packet frame.payload
  pub can_be_signed : CanBeSigned packet
  pub few : length packet.attributes ≤ 64
  pub small : length frame.payload ≤ 1024
  pub headroom : frame.headroom ≡ 64
