-- The options of the gateway's own Configure-Request, by RFC 1332 section 3.3.
use Rattle.std.specs.Prelude.{List, [], ◌∷◌, Option, Some, None}
use Rattle.byteorder.specs.Endian.{big_bytes}
use Rattle.bng_base.specs.declared.address.Ip4.{Ip4}
use Rattle.bng_base.specs.PppGrammar.{PppOption}
use Rattle.bng_ipcp.specs.Options.{ip_address}
use Rattle.bng_ipcp.specs.declared.configure_request.IpcpOptions.{IpcpOptions}

abbrev pub address_option : Option Ip4 → List PppOption
address_option None = []
address_option (Some a) = record { kind = ip_address; value = big_bytes 4 a.0 } ∷ []

abbrev pub asked : IpcpOptions → List PppOption
asked w = address_option w.address
