-- The verdict on a peer, and what it is to the layers.
use Rattle.std.specs.Prelude.{ℕ, false, List, Option, Some, None, true, [], ◌≡◌, Bool}
use Rattle.bng_automaton.specs.declared.event.Event.TheVariants.{Up, Open}
use Rattle.bng_base.specs.declared.address.Ip4.{Ip4}
use Rattle.bng_auth.specs.Replying.{Said as Reply}
use Rattle.bng_ppp.specs.Authentication.{AuthSettles, reply_sent}
use Rattle.bng_ppp.specs.IpcpAutomaton.{ipcp_plain}
use Rattle.bng_ppp.specs.IpcpState.{first_ask}
use Rattle.bng_ppp.specs.Layers.{Turn, LcpCloses, with_auth_until, begun, IpcpMoves}
use Rattle.bng_ppp.specs.LinkState.{LinkState}
use Rattle.bng_ppp.specs.declared.authentication.Authentication.{Authentication}
use Rattle.bng_ppp.specs.declared.rules.LinkRules.{LinkRules}

-- a refusal: the reply goes out, and LCP does Close
pub record Refuses (r : LinkRules) (now : ℕ) (random : List ℕ) (text : List ℕ) (t after : Turn) : Type 0 where
  pub reply : Option Reply
  pub settled : Authentication
  pub settles : AuthSettles t.link.auth false text reply settled
  pub closes : LcpCloses r now random (record (with_auth_until t settled None) { outs = reply_sent reply t.outs }) after

-- A term begins: IPCP does Open and Up for this lease.
pub record Begins (r : LinkRules) (lease : Ip4) (now : ℕ) (t after : Turn) : Type 0 where
  pub opened : Turn
  pub on_open : IpcpMoves Open (ipcp_plain t.link.ipcp.kept 0) now (record t {
    link = record t.link {
      ipcp = record t.link.ipcp { ask = first_ask r.address; kept = record t.link.ipcp.kept { lease = lease } };
      live = true;
    };
  }) opened
  pub on_up : IpcpMoves Up (ipcp_plain opened.link.ipcp.kept 0) now opened after

-- An accepted peer's term begins where it has an address. Where none is given to it yet, IPCP and the term stay as they are.
abbrev pub BeginsFor : Option Ip4 → LinkRules → ℕ → Turn → Turn → Type 0
BeginsFor None r now t after = after ≡ t
BeginsFor (Some lease) r now t after = Begins r lease now t after

-- the peer is accepted: the reply goes out, and a term begins where there is a lease
pub record Accepts (r : LinkRules) (lease : Option Ip4) (text : List ℕ) (now : ℕ) (old : LinkState) (after : Turn) : Type 0 where
  pub reply : Option Reply
  pub settled : Authentication
  pub settles : AuthSettles old.auth true text reply settled
  pub begins : BeginsFor lease r now (record (with_auth_until (begun old) settled None) { outs = reply_sent reply [] }) after

-- A verdict counts while a question is open. Another one changes nothing.
abbrev pub Settles : Bool → Bool → LinkRules → Option Ip4 → List ℕ → ℕ → List ℕ → LinkState → Turn → Type 0
Settles true true r lease text now random old after = Accepts r lease text now old after
Settles true false r lease text now random old after = Refuses r now random text (begun old) after
Settles false found r lease text now random old after = after ≡ begun old
