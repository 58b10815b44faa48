-- Echo-Requests and Echo-Replies, by RFC 1661 section 5.8.
use Rattle.std.specs.Prelude.{ℕ, unwrap_or, ◌++◌, take, drop, ◌≤◌, IsSomeAnd, ◌+◌, []}
use Rattle.byteorder.specs.Endian.{big_bytes}
use Rattle.bng_base.specs.PppGrammar.{ControlPacket}
use Rattle.bng_ppp_wire.specs.declared.code.TheConstants.{ECHO_REPLY, ECHO_REQUEST}
use Rattle.bng_ppp_wire.specs.declared.protocol.TheConstants as protocol
use Rattle.bng_ppp.specs.Automaton.{Doing}
use Rattle.bng_ppp.specs.Counters.{echo_after}
use Rattle.bng_ppp.specs.Encapsulation.{sent}
use Rattle.bng_ppp.specs.Identifiers.{next_of}
use Rattle.bng_ppp.specs.LcpState.{LcpState}
use Rattle.bng_ppp.specs.MaximumReceiveUnit.{body_most}
use Rattle.bng_ppp.specs.Said.{quiet}

-- the gateway's magic number, 0 where the peer rejected it
abbrev pub own_magic : LcpState → ℕ
own_magic s = unwrap_or s.ask.wanted.magic 0

-- an Echo-Reply has the gateway's magic number and the request's data, cut to the peer's MRU
abbrev pub echo_reply : LcpState → ControlPacket → ControlPacket
echo_reply s p = record { code = ECHO_REPLY; id = p.id; body = take (body_most s.kept) (big_bytes 4 (own_magic s) ++ drop 4 p.body) }

-- an Echo-Request is due
abbrev pub EchoIsDue : LcpState → ℕ → Type 0
EchoIsDue s now = IsSomeAnd s.kept.next_echo (λ t. t ≤ now)

-- an Echo-Request goes out
abbrev pub echoes : ℕ → ℕ → LcpState → Doing
echoes echo now s = record {
  link = record s { kept = record s.kept { ids = record s.kept.ids { next = next_of s.kept.ids.next }; unanswered = s.kept.unanswered + 1; next_echo = echo_after echo now } };
  said = record quiet { outs = sent protocol.LCP (record { code = ECHO_REQUEST; id = s.kept.ids.next; body = big_bytes 4 (own_magic s) }) [] };
}
