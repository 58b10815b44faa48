-- How a Configure-Request that was judged is answered, for LCP and IPCP alike, by RFC 1661 sections 4.3 and 5.2 to 5.4.
use Rattle.std.specs.Prelude.{ℕ, List, length, ◌≤◌, ⊤}
use Rattle.std.specs.List.{All}
use Rattle.bng_automaton.specs.declared.event.Event.{Event}
use Rattle.bng_automaton.specs.declared.event.Event.TheVariants.{RcrPlus, RcrMinus}
use Rattle.bng_base.specs.PppGrammar.{ControlPacket, OptionFits, options_text}
use Rattle.bng_ppp_wire.specs.declared.code.TheConstants.{CONFIGURE_ACK, CONFIGURE_NAK, CONFIGURE_REJECT}
use Rattle.bng_ppp_wire.specs.declared.judgement.Judged.{Judged}
use Rattle.bng_ppp_wire.specs.declared.judgement.Judged.TheVariants as judged
use Rattle.bng_ppp_wire.specs.declared.view.Opt.{Opt}
use Rattle.bng_ppp_wire.specs.MadeOption.{all_made_of}
use Rattle.bng_ppp_wire.specs.View.{option_of, options_of}
use Rattle.bng_ppp.specs.Counters.{more_naks}

-- the event of the request
abbrev pub event_of : Judged → Event
event_of judged.Ack = RcrPlus
event_of (judged.Nak made) = RcrMinus
event_of (judged.Reject rejected) = RcrMinus

-- the code of the answer
abbrev pub code_of : Judged → ℕ
code_of judged.Ack = CONFIGURE_ACK
code_of (judged.Nak made) = CONFIGURE_NAK
code_of (judged.Reject rejected) = CONFIGURE_REJECT

-- its options: all those of the request, those that are suggested, or those of the request that are rejected
abbrev pub body_of : List ℕ → Judged → List ℕ
body_of request judged.Ack = request
body_of request (judged.Nak made) = options_text (all_made_of made.items)
body_of request (judged.Reject rejected) = options_text (options_of rejected.items)

-- the answer
abbrev pub answer_to : ControlPacket → Judged → ControlPacket
answer_to p j = record { code = code_of j; id = p.id; body = body_of p.body j }

-- the Configure-Naks without a Configure-Ack between, once it is out
abbrev pub naks_after : ℕ → Judged → ℕ
naks_after naks judged.Ack = 0
naks_after naks (judged.Nak made) = more_naks naks
naks_after naks (judged.Reject rejected) = naks

-- the options of a Configure-Reject can be written, and fit a packet
abbrev pub IsSpellable : Judged → Type 0
IsSpellable judged.Ack = ⊤
IsSpellable (judged.Nak made) = ⊤
IsSpellable (judged.Reject rejected) = All (λ (o : Opt). OptionFits (option_of o)) rejected.items × (length (options_text (options_of rejected.items)) ≤ 4090)
