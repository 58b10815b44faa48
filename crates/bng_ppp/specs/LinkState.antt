-- What a contract sees of a whole link, from LCP to IPCP.
use Rattle.std.specs.Prelude.{◌≡◌, ℕ, Bool, false, ◌&&◌, ◌==◌, Option, None, ⊤}
use Rattle.bng_auth.specs.Questions.{pap_is_open, chap_is_open, is_yes}
use Rattle.bng_ppp_wire.specs.declared.protocol.TheConstants as protocol
use Rattle.bng_ppp.specs.declared.authentication.Authentication.{Authentication}
use Rattle.bng_ppp.specs.declared.authentication.Authentication.TheVariants as auth
use Rattle.bng_ppp.specs.LcpState.{LcpState, is_opened}
use Rattle.bng_ppp.specs.IpcpState.{IpcpState}

pub record LinkState : Type 0 where
  -- LCP, by RFC 1661
  pub lcp : LcpState
  -- how far the peer's authentication has come, by RFC 1334 and RFC 1994
  pub auth : Authentication
  -- when the Challenge goes out again, or the wait for the peer ends, in milliseconds, where that timer runs
  pub auth_due : Option ℕ
  -- IPCP, by RFC 1332
  pub ipcp : IpcpState
  -- the identifier of CHAP's next Challenge
  pub next_challenge : ℕ
  -- a term is live: the peer was accepted with an address, and neither LCP left Opened nor IPCP finished since
  pub live : Bool

-- authentication's timer runs only once authentication has begun
abbrev pub IsTimed : Authentication → Option ℕ → Type 0
IsTimed auth.Idle due = due ≡ None
IsTimed (auth.Pap q) due = ⊤
IsTimed (auth.Chap q sent) due = ⊤

-- a question is open: it was asked, and the verdict is not there yet
abbrev pub is_open : Authentication → Bool
is_open auth.Idle = false
is_open (auth.Pap q) = pap_is_open q
is_open (auth.Chap q sent) = chap_is_open q

-- the verdict is there, and is yes
abbrev pub is_accepted : Authentication → Bool
is_accepted auth.Idle = false
is_accepted (auth.Pap q) = is_yes q.verdict
is_accepted (auth.Chap q sent) = is_yes q.verdict

-- whether authentication takes frames of this protocol
abbrev pub takes_protocol : Authentication → ℕ → Bool
takes_protocol auth.Idle n = false
takes_protocol (auth.Pap q) n = n == protocol.PAP
takes_protocol (auth.Chap q sent) n = n == protocol.CHAP

-- Whose a frame of a protocol is, while LCP is Opened: authentication's, where that protocol was agreed; IPCP's, once the
-- peer was accepted. Every other frame is LCP's, which passes over or rejects what is not its own.
abbrev pub is_for_auth : LinkState → ℕ → Bool
is_for_auth s n = is_opened s.lcp.lcp.state && takes_protocol s.auth n

abbrev pub is_for_ipcp : LinkState → ℕ → Bool
is_for_ipcp s n = is_opened s.lcp.lcp.state && is_accepted s.auth && n == protocol.IPCP

-- data passes: LCP and IPCP are Opened
abbrev pub passes : LinkState → Bool
passes s = is_opened s.lcp.lcp.state && is_opened s.ipcp.machine.state
