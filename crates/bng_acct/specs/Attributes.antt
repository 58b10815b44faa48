-- The attributes of a record, by RFC 2866 section 5 and RFC 2869 section 5.
use Rattle.std.specs.Prelude.{◌≡◌, ◌≢◌, ℕ, ◌-◌, ◌/◌, ◌%◌, ◌^◌, min, List, [], ◌∷◌, ◌++◌}
use Rattle.std.specs.List.{AllByRecursion}
use Rattle.byteorder.specs.Endian.{big_bytes}
use Rattle.bng_base.specs.declared.circuit.Circuit.{Circuit}
use Rattle.bng_base.specs.declared.circuit.Circuit.TheVariants.{Pppoe, L2tp}
use Rattle.bng_base.specs.declared.book.Book.{Book}
use Rattle.bng_radius_wire.specs.Attributes.{Field, Fits}
use Rattle.bng_radius_wire.specs.Grammar.{attributes_text}
use Rattle.bng_acct.specs.declared.facts.StatusType.{StatusType}
use Rattle.bng_acct.specs.declared.facts.StatusType.TheVariants.{Start, Interim, Stop}
use Rattle.bng_acct.specs.declared.facts.TermFacts.{TermFacts}
use Rattle.bng_acct.specs.declared.facts.Moment.{Moment}
use Rattle.bng_acct.specs.declared.facts.Record.{Record}
use Rattle.bng_acct.specs.declared.rules.AcctRules.{AcctRules}
use Rattle.bng_acct.specs.Texts.{session_id, station_id, port_id}

abbrev pub octets : ℕ → List ℕ → Field
octets kind value = record { kind = kind; value = value }

-- a value of four octets (RFC 2865 section 5)
abbrev pub number : ℕ → ℕ → Field
number kind n = octets kind (big_bytes 4 n)

-- Acct-Status-Type (RFC 2866 section 5.1)
abbrev pub status_code : StatusType → ℕ
status_code Start = 1
status_code Stop = 2
status_code Interim = 3

-- what Interims and Stops have, and Starts have not
abbrev pub unless_start : StatusType → List Field → List Field
unless_start Start fields = []
unless_start Interim fields = fields
unless_start Stop fields = fields

-- what Stops alone have
abbrev pub in_stop : StatusType → List Field → List Field
in_stop Start fields = []
in_stop Interim fields = []
in_stop Stop fields = fields

-- User-Name, NAS-IP-Address, NAS-Port, Service-Type Framed, Framed-Protocol PPP, Framed-IP-Address
abbrev pub identity : AcctRules → TermFacts → List Field
identity rules facts =
    octets 1 facts.user.items ∷ number 4 rules.nas_ip.0 ∷ number 5 facts.term.session.0 ∷ number 6 2 ∷ number 7 1 ∷ number 8 facts.address.0 ∷ []

-- Calling-Station-Id, where there is a MAC
abbrev pub station : Circuit → List Field
station (Pppoe port mac session) = octets 31 (station_id mac.0) ∷ []
station (L2tp peer tunnel session) = []

-- NAS-Identifier, Acct-Status-Type
abbrev pub sender : AcctRules → StatusType → List Field
sender rules status = octets 32 rules.name.items ∷ number 40 (status_code status) ∷ []

-- Acct-Input-Octets, Acct-Output-Octets: the sums modulo 2^32
abbrev pub low_octets : Book → List Field
low_octets book = number 42 (book.input % 2 ^ 32) ∷ number 43 (book.output % 2 ^ 32) ∷ []

-- whole seconds since the term began, of which a record tells 2^32 - 1 at most
abbrev pub seconds : TermFacts → Moment → ℕ
seconds facts moment = min 4294967295 ((moment.now - facts.began) / 1000)

-- Acct-Session-Time, Acct-Input-Packets, Acct-Output-Packets
abbrev pub usage : TermFacts → Moment → List Field
usage facts moment =
    number 46 (seconds facts moment) ∷ number 47 (facts.carried.input_packets % 2 ^ 32) ∷ number 48 (facts.carried.output_packets % 2 ^ 32) ∷ []

-- Acct-Terminate-Cause
abbrev pub cause : Moment → List Field
cause moment = number 49 moment.cause ∷ []

-- Acct-Input-Gigawords, Acct-Output-Gigawords: how often the sums hold 2^32
abbrev pub gigawords : Book → List Field
gigawords book = number 52 (book.input / 2 ^ 32) ∷ number 53 (book.output / 2 ^ 32) ∷ []

-- Event-Timestamp, NAS-Port-Type Virtual, NAS-Port-Id
abbrev pub port : TermFacts → Moment → List Field
port facts moment = number 55 (moment.wall % 2 ^ 32) ∷ number 61 5 ∷ octets 87 (port_id facts.circuit) ∷ []

-- a record's attributes up to its status type, with these Classes
abbrev pub front : AcctRules → Record → List Field → List Field
front rules r classes = identity rules r.facts ++ classes ++ station r.facts.circuit ++ sender rules r.status

-- and those after it
abbrev pub rest : AcctRules → Record → List Field
rest rules r =
    unless_start r.status (low_octets r.facts.carried)
    ++ octets 44 (session_id rules.wall r.facts.term) ∷ []
    ++ unless_start r.status (usage r.facts r.moment)
    ++ in_stop r.status (cause r.moment)
    ++ unless_start r.status (gigawords r.facts.carried)
    ++ port r.facts r.moment

-- a record's attributes, by rising type, with these Classes
abbrev pub attributes : AcctRules → Record → List Field → List Field
attributes rules r classes = front rules r classes ++ rest rules r

-- an attribute other than a Message-Authenticator, with a value that fits
pub record IsPlain (f : Field) : Type 0 where
  pub fits : Fits f
  pub other : f.kind ≢ 80

-- the octets go on with these attributes
pub record GoesOn (old new : List ℕ) (fields : List Field) : Type 0 where
  pub text : new ≡ old ++ attributes_text fields
  pub plain : AllByRecursion IsPlain fields
