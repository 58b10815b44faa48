-- The lower layer of a link is ready, or gone, by RFC 1661 section 4.3.
use Rattle.std.specs.Prelude.{◌≡◌, ℕ, Bool, true, false, List}
use Rattle.bng_automaton.specs.declared.event.Event.TheVariants.{Up, Open, Down}
use Rattle.bng_base.specs.declared.settings.AuthKind.{AuthKind}
use Rattle.bng_lcp.specs.Ask.{Ask}
use Rattle.bng_ppp.specs.Automaton.{plain, Doing, Follows}
use Rattle.bng_ppp.specs.LcpState.{LcpState, IsFirstAsk, is_down}
use Rattle.bng_ppp.specs.Said.{Said, quiet}

-- Where the lower layer is down the gateway's side begins anew, by the rules and the random octets; else it is as before.
abbrev pub Asks : Bool → List AuthKind → List ℕ → LcpState → Ask → Type 0
Asks true auth random old ask = IsFirstAsk old.kept.limit auth random ask
Asks false auth random old ask = ask ≡ old.ask

-- Open, and then Up
pub record Starts (auth : List AuthKind) (random : List ℕ) (echo now : ℕ) (old : LcpState) (says : Said) (new : LcpState) : Type 0 where
  pub ask : Ask
  pub asks : Asks (is_down old.lcp.state) auth random old ask
  pub opened : Doing
  pub on_open : Follows Open (plain old.kept 0) echo now (record { link = record old { ask = ask }; said = quiet }) opened
  pub on_up : Follows Up (plain opened.link.kept 0) echo now opened (record { link = new; said = says })

abbrev pub finishes : Doing → Doing
finishes d = record d { said = record d.said { finished = true } }

-- the lower layer is gone: Down, which finishes the link
pub record Loses (echo now : ℕ) (old : LcpState) (says : Said) (new : LcpState) : Type 0 where
  pub down : Doing
  pub follows : Follows Down (plain old.kept 0) echo now (record { link = old; said = quiet }) down
  pub done : record { link = new; said = says } ≡ finishes down
