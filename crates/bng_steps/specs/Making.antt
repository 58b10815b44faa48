-- A session that was just made.
use Rattle.std.specs.Prelude.{◌≡◌, ℕ, List, Option}
use Rattle.bng_base.specs.declared.address.Mac.{Mac}
use Rattle.bng_ppp.specs.LinkState.{LinkState}
use Rattle.bng_steps.specs.declared.session.Session.{Session}
use Rattle.bng_steps.specs.Discovery.{IsNewLink, new_session}

-- its link was told nothing
abbrev pub IsNewSession : ℕ → ℕ → Mac → Option (List ℕ) → List ℕ → Session → Type 0
IsNewSession number port mac host_uniq random x =
    (link : LinkState) × IsNewLink 1492 random link × (x ≡ new_session number port mac host_uniq link)
