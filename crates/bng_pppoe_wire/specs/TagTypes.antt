-- TAG_TYPEs of discovery frames. Those of Service-Name and Host-Uniq stand with the grammar.
use Rattle.std.specs.Prelude.{ℕ}
pub use Rattle.bng_base.specs.PppoeGrammar.{service_name, host_uniq}

-- RFC 2516 appendix A
abbrev pub end_of_list : ℕ
end_of_list = 0x0000

abbrev pub ac_name : ℕ
ac_name = 0x0102

abbrev pub ac_cookie : ℕ
ac_cookie = 0x0104

abbrev pub vendor_specific : ℕ
vendor_specific = 0x0105

abbrev pub relay_session_id : ℕ
relay_session_id = 0x0110

abbrev pub service_name_error : ℕ
service_name_error = 0x0201

abbrev pub ac_system_error : ℕ
ac_system_error = 0x0202

abbrev pub generic_error : ℕ
generic_error = 0x0203
