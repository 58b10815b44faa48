-- Codes of packets.
use Rattle.std.specs.Prelude.{ℕ}

-- RFC 1661 section 5.1, and of IPCP by RFC 1332 section 2
abbrev pub configure_request : ℕ
configure_request = 1

-- RFC 1661 section 5.2
abbrev pub configure_ack : ℕ
configure_ack = 2

-- RFC 1661 section 5.3
abbrev pub configure_nak : ℕ
configure_nak = 3

-- RFC 1661 section 5.4
abbrev pub configure_reject : ℕ
configure_reject = 4

-- RFC 1661 section 5.5
abbrev pub terminate_request : ℕ
terminate_request = 5

abbrev pub terminate_ack : ℕ
terminate_ack = 6

-- RFC 1661 section 5.6
abbrev pub code_reject : ℕ
code_reject = 7

-- RFC 1661 section 5.7
abbrev pub protocol_reject : ℕ
protocol_reject = 8

-- RFC 1661 section 5.8
abbrev pub echo_request : ℕ
echo_request = 9

abbrev pub echo_reply : ℕ
echo_reply = 10

-- RFC 1661 section 5.9
abbrev pub discard_request : ℕ
discard_request = 11

-- PAP, RFC 1334 section 2.2.1
abbrev pub authenticate_request : ℕ
authenticate_request = 1

-- PAP, RFC 1334 section 2.2.2
abbrev pub authenticate_ack : ℕ
authenticate_ack = 2

abbrev pub authenticate_nak : ℕ
authenticate_nak = 3

-- CHAP, RFC 1994 section 4.1
abbrev pub challenge : ℕ
challenge = 1

abbrev pub response : ℕ
response = 2

-- CHAP, RFC 1994 section 4.2
abbrev pub success : ℕ
success = 3

abbrev pub failure : ℕ
failure = 4
