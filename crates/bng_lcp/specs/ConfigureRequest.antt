-- The options of the gateway's own Configure-Request, by RFC 1661 sections 6.1, 6.2 and 6.4 and RFC 1994 section 3.
use Rattle.std.specs.Prelude.{ℕ, List, [], ◌∷◌, ◌++◌, Option, Some, None}
use Rattle.byteorder.specs.Endian.{big_bytes}
use Rattle.bng_base.specs.PppGrammar.{PppOption}
use Rattle.bng_base.specs.declared.settings.AuthKind.{AuthKind}
use Rattle.bng_base.specs.declared.settings.AuthKind.TheVariants.{Chap, Pap}
use Rattle.bng_ppp_wire.specs.Protocols as protocol
use Rattle.bng_lcp.specs.Options.{maximum_receive_unit, authentication_protocol, magic_number, chap_with_md5}
use Rattle.bng_lcp.specs.declared.configure_request.LcpOptions.{LcpOptions}

-- the data of an Authentication-Protocol: a protocol, and for CHAP its algorithm
abbrev pub auth_value : AuthKind → List ℕ
auth_value Chap = big_bytes 2 protocol.chap ++ chap_with_md5 ∷ []
auth_value Pap = big_bytes 2 protocol.pap

abbrev pub mru_option : Option ℕ → List PppOption
mru_option None = []
mru_option (Some mru) = record { kind = maximum_receive_unit; value = big_bytes 2 mru } ∷ []

abbrev pub auth_option : AuthKind → PppOption
auth_option auth = record { kind = authentication_protocol; value = auth_value auth }

abbrev pub magic_option : Option ℕ → List PppOption
magic_option None = []
magic_option (Some magic) = record { kind = magic_number; value = big_bytes 4 magic } ∷ []

-- the options in the order in which they are asked for
abbrev pub asked : LcpOptions → List PppOption
asked w = mru_option w.mru ++ auth_option w.auth ∷ [] ++ magic_option w.magic
