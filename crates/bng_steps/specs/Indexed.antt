-- What a session is found by, beside its circuit and its deadline.
use Rattle.std.specs.Prelude.{Option}
use Rattle.std.specs.Option.{option_map}
use Rattle.bng_base.specs.declared.address.Ip4.{Ip4}
use Rattle.bng_base.specs.declared.circuit.TermId.{TermId}
use Rattle.bng_steps.specs.declared.session.Lease.{Lease}
use Rattle.bng_steps.specs.declared.session.Session.{Session}

-- the address of its live term, and that term
abbrev pub address_of : Session → Option Ip4
address_of x = option_map (λ (l : Lease). l.address) x.lease

abbrev pub term_of : Session → Option TermId
term_of x = option_map (λ (l : Lease). record { session = x.number; serial = l.serial }) x.lease
