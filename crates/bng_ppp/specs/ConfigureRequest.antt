-- A Configure-Request of the peer, by RFC 1661 sections 4.6 and 5.1.
use Rattle.std.specs.Prelude.{ℕ, nat_le, List, false, Some, ◌≤◌, length, ◌⊎◌, ◌<◌}
use Rattle.byteorder.specs.Endian.{big_number}
use Rattle.bng_base.specs.PppGrammar.{ControlPacket, PppOption, AreOptions}
use Rattle.bng_ppp_wire.specs.declared.judgement.Judged.{Judged}
use Rattle.bng_ppp_wire.specs.declared.judgement.Judged.TheVariants as judged
use Rattle.bng_lcp.specs.Judgement.{IsJudgement}
use Rattle.bng_lcp.specs.declared.judgement.LcpRules.{LcpRules}
use Rattle.bng_ppp.specs.Automaton.{Why, Moves, Rests}
use Rattle.bng_ppp.specs.Echo.{own_magic}
use Rattle.bng_ppp.specs.Judgement.{event_of, answer_to, naks_after}
use Rattle.bng_ppp.specs.LcpState.{LcpState}
use Rattle.bng_ppp.specs.MaximumReceiveUnit.{mru_of}
use Rattle.bng_ppp.specs.Said.{Said}
use Rattle.bng_ppp.specs.declared.counters.Kept.{Kept}

-- By what a Configure-Request is judged. After five Configure-Naks without a Configure-Ack between there are no more
-- (Max-Failure, RFC 1661 section 4.6).
abbrev pub rules_of : LcpState → List ℕ → LcpRules
rules_of s random = record {
  limit = s.kept.limit;
  own_magic = own_magic s;
  fresh_magic = big_number 4 random;
  no_more_naks = nat_le 5 s.kept.naks;
}

-- the peer's Maximum-Receive-Unit once its request is answered
abbrev pub mru_after : Kept → List PppOption → Judged → ℕ
mru_after k options judged.Ack = mru_of k.limit options
mru_after k options (judged.Nak made) = k.mru
mru_after k options (judged.Reject rejected) = k.mru

-- how it is answered
abbrev pub answer_of : Kept → ControlPacket → List PppOption → Judged → Why
answer_of k p options j = record { timed = false; id = p.id; answer = Some (answer_to p j); mru = mru_after k options j; naks = naks_after k.naks j }

-- A Configure-Request is judged. One whose options are malformed, or more than 64, is ignored.
abbrev pub Judges : ControlPacket → ℕ → ℕ → List ℕ → LcpState → Said → LcpState → Type 0
Judges p echo now random old says new =
    ((options : List PppOption) × (judged : Judged) × AreOptions options p.body × (length options ≤ 64) × IsJudgement (rules_of old random) options judged
    × Moves (event_of judged) (answer_of old.kept p options judged) echo now old says new)
    ⊎ (((options : List PppOption) → AreOptions options p.body → 64 < length options) × Rests old says new)
