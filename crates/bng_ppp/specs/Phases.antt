-- The phases of a link, by RFC 1661 section 3.2: which layer is up where.
use Rattle.std.specs.Prelude.{◌≡◌, Bool, true, false}
use Rattle.bng_ppp.specs.declared.authentication.Authentication.{Authentication}
use Rattle.bng_ppp.specs.declared.authentication.Authentication.TheVariants as auth
use Rattle.bng_ppp.specs.LcpState.{is_down, is_opened}
use Rattle.bng_ppp.specs.LinkState.{LinkState, is_accepted}

-- the peer's authentication has begun
abbrev pub is_begun : Authentication → Bool
is_begun auth.Idle = false
is_begun (auth.Pap q) = true
is_begun (auth.Chap q sent) = true

-- The Authentication phase is entered as LCP comes to Opened and left as LCP leaves it. IPCP's lower layer is up, and a term
-- is live, only for a peer that was accepted.
pub record KeepsPhases (s : LinkState) : Type 0 where
  pub authenticates : is_begun s.auth ≡ is_opened s.lcp.lcp.state
  pub network : is_down s.ipcp.machine.state ≡ false → is_accepted s.auth ≡ true
  pub term : s.live ≡ true → is_accepted s.auth ≡ true
