-- What a contract sees of a link, and of one that was told nothing.
use Rattle.std.specs.Prelude.{ℕ, None, true, false, List, [], ◌∷◌, ◌≡◌, Some, slice_get, Bool}
use Rattle.byteorder.specs.Endian.{big_number}
use Rattle.bng_automaton.specs.Machine.{Machine}
use Rattle.bng_automaton.specs.declared.state.State.{State}
use Rattle.bng_automaton.specs.declared.state.State.TheVariants.{Initial, Starting, Closed, Stopped, Closing, Stopping, ReqSent, AckRcvd, AckSent, Opened}
use Rattle.bng_base.specs.declared.settings.AuthKind.{AuthKind}
use Rattle.bng_lcp.specs.Ask.{Ask}
use Rattle.bng_lcp.specs.Judgement.{magic_from}
use Rattle.bng_ppp.specs.Identifiers.{first_ids}
use Rattle.bng_ppp.specs.declared.counters.Kept.{Kept}
use Rattle.bng_ppp.specs.declared.rules.LinkKind.{LinkKind}
use Rattle.bng_ppp.specs.declared.rules.LinkKind.TheVariants.{Pppoe, L2tp}

pub record LcpState : Type 0 where
  -- the automaton of LCP, by RFC 1661 section 4
  pub lcp : Machine
  -- the gateway's own side of LCP, by RFC 1661 section 5
  pub ask : Ask
  pub kept : Kept

-- The largest Maximum-Receive-Unit that a link asks for and takes: RFC 2516 section 7 and RFC 1661 section 6.1.
abbrev pub limit_of : LinkKind → ℕ
limit_of Pppoe = 1492
limit_of L2tp = 1500

-- the automaton of a link that was told nothing: Max-Configure 10, Max-Terminate 2 and Max-Failure 5
abbrev pub unused : Machine
unused = record { state = Initial; counter = 0; started = None; max_configure = 10; max_terminate = 2; max_failure = 5 }

-- what such a link keeps
abbrev pub kept_first : ℕ → Kept
kept_first limit = record {
  limit = limit;
  ids = first_ids;
  mru = limit;
  naks = 0;
  was_opened = false;
  unanswered = 0;
  next_echo = None;
}

-- the ways to authenticate, of which one alone is kept twice
abbrev pub ways : List AuthKind → List AuthKind
ways [] = []
ways (a ∷ []) = a ∷ a ∷ []
ways (a ∷ b ∷ rest) = a ∷ b ∷ []

-- The gateway's side of LCP that has asked for nothing yet. It asks for the limit, for the first of the ways to authenticate
-- and for a magic number made of the first four random octets.
pub record IsFirstAsk (limit : ℕ) (auth : List AuthKind) (random : List ℕ) (ask : Ask) : Type 0 where
  pub limited : ask.limit ≡ limit
  pub allowed : ask.allowed ≡ ways auth
  pub mru : ask.wanted.mru ≡ Some limit
  pub first : slice_get auth 0 ≡ Some ask.wanted.auth
  pub magic : ask.wanted.magic ≡ Some (magic_from (big_number 4 random))
  pub unsent : ask.sent ≡ None

-- the states in which the lower layer is down
abbrev pub is_down : State → Bool
is_down Initial = true
is_down Starting = true
is_down Closed = false
is_down Stopped = false
is_down Closing = false
is_down Stopping = false
is_down ReqSent = false
is_down AckRcvd = false
is_down AckSent = false
is_down Opened = false

abbrev pub is_opened : State → Bool
is_opened Initial = false
is_opened Starting = false
is_opened Closed = false
is_opened Stopped = false
is_opened Closing = false
is_opened Stopping = false
is_opened ReqSent = false
is_opened AckRcvd = false
is_opened AckSent = false
is_opened Opened = true
