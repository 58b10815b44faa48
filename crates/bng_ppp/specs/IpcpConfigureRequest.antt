-- A Configure-Request of IPCP, by RFC 1332 and RFC 1661 sections 4.6 and 5.1.
use Rattle.std.specs.Prelude.{nat_le, List, Option, ℕ, false, Some, ◌≤◌, length, ◌≡◌, ◌⊎◌, ◌<◌}
use Rattle.bng_base.specs.PppGrammar.{ControlPacket, PppOption, AreOptions}
use Rattle.bng_base.specs.declared.address.Ip4.{Ip4}
use Rattle.bng_ppp_wire.specs.declared.judgement.Judged.{Judged}
use Rattle.bng_ipcp.specs.Judgement.{IsJudgement}
use Rattle.bng_ipcp.specs.declared.judgement.IpcpRules.{IpcpRules}
use Rattle.bng_ppp.specs.IpcpAutomaton.{IpcpWhy, IpcpDoing, IpcpFollows}
use Rattle.bng_ppp.specs.Judgement.{event_of, answer_to, naks_after}
use Rattle.bng_ppp.specs.declared.ipcp_counters.IpcpKept.{IpcpKept}

-- By what a Configure-Request is judged: the lease, the servers, and whether five Configure-Naks went out without a
-- Configure-Ack between (Max-Failure, RFC 1661 section 4.6).
abbrev pub ipcp_rules_of : List (Option Ip4) → IpcpKept → IpcpRules
ipcp_rules_of dns k = record { lease = k.lease; dns = dns; no_more_naks = nat_le 5 k.naks }

-- how it is answered
abbrev pub ipcp_answer_of : IpcpKept → ControlPacket → Judged → IpcpWhy
ipcp_answer_of k p j = record { timed = false; id = p.id; answer = Some (answer_to p j); naks = naks_after k.naks j }

-- A Configure-Request is judged. One whose options are malformed, or more than 64, is ignored.
abbrev pub IpcpJudges : ControlPacket → List (Option Ip4) → ℕ → IpcpDoing → IpcpDoing → Type 0
IpcpJudges p dns now d after =
    ((options : List PppOption) × (judged : Judged) × AreOptions options p.body × (length options ≤ 64) × IsJudgement (ipcp_rules_of dns d.ipcp.kept) options judged
    × IpcpFollows (event_of judged) (ipcp_answer_of d.ipcp.kept p judged) now d after)
    ⊎ (((options : List PppOption) → AreOptions options p.body → 64 < length options) × (after ≡ d))
