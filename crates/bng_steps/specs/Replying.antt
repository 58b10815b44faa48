-- What a discovery frame is answered, with the session that is made or that was made before.
use Rattle.std.specs.Prelude.{◌≡◌, ◌⊎◌, ℕ, List, Option, Some, is_some}
use Rattle.bng_base.specs.PppoeGrammar.{PppoeTag, PppoeFrame}
use Rattle.bng_discovery.specs.declared.answers.Answer.{Answer}
use Rattle.bng_discovery.specs.declared.answers.Answer.TheVariants as answer
use Rattle.bng_discovery.specs.declared.port.PortRules.{PortRules}
use Rattle.bng_discovery.specs.Table.{table, first_row}
use Rattle.bng_steps.specs.declared.answering.DiscoveryReply.{DiscoveryReply}
use Rattle.bng_steps.specs.declared.answering.DiscoveryReply.TheVariants.{Offer, Make, Again, Refuse, Nothing}
use Rattle.bng_steps.specs.declared.session.Session.{Session}
use Rattle.bng_steps.specs.State.{State}
use Rattle.bng_steps.specs.Discovery.{IsVacancy, repeated, host_uniq_of}

-- the answer of the first case that holds of a frame that came to the port with this number, where this is the number of a new
-- session
abbrev pub IsAnswer : State → ℕ → PortRules → PppoeFrame → List PppoeTag → Option ℕ → Answer → Type 0
IsAnswer s number offers p tags vacancy a =
    IsVacancy s vacancy × (Some a ≡ first_row (table offers p tags (is_some (repeated s number p.src (host_uniq_of tags))) (is_some vacancy)))

abbrev pub IsDiscoveryReply : DiscoveryReply → State → ℕ → PortRules → PppoeFrame → List PppoeTag → Type 0
IsDiscoveryReply Offer s number offers p tags = (v : Option ℕ) × IsAnswer s number offers p tags v answer.Offer
IsDiscoveryReply (Make session) s number offers p tags = IsAnswer s number offers p tags (Some session.0) answer.Make
IsDiscoveryReply (Again session) s number offers p tags = (v : Option ℕ) × IsAnswer s number offers p tags v answer.Again
    × (x : Session) × (repeated s number p.src (host_uniq_of tags) ≡ Some x) × (x.number ≡ session)
IsDiscoveryReply (Refuse error) s number offers p tags = (v : Option ℕ) × IsAnswer s number offers p tags v (answer.Refuse error)
IsDiscoveryReply Nothing s number offers p tags = (v : Option ℕ) × (IsAnswer s number offers p tags v answer.Ended
    ⊎ (IsAnswer s number offers p tags v answer.NoSession ⊎ IsAnswer s number offers p tags v answer.Ignore))
