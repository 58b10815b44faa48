-- Why a message of a call is refused, by RFC 2661 sections 4.1, 4.3, 4.4.2 and 5.4: a list of cases, of which the first that holds counts.
use Rattle.std.specs.Prelude.{◌≡◌, ℕ, Bool, true, ◌==◌, ◌&&◌, ◌||◌, List, [], ◌∷◌, Option, Some}
use Rattle.std.specs.List.{list_any}
use Rattle.bng_l2tp_wire.specs.Avps.{L2tpAvp}
use Rattle.bng_l2tp_wire.specs.Messages.{ControlMessage}
use Rattle.bng_l2tp_call.specs.declared.refusal.CallRefusal.{CallRefusal}
use Rattle.bng_l2tp_call.specs.declared.refusal.CallRefusal.TheVariants.{UnknownAvp, WrongAvp, SequencingRequired, NoSlot}
use Rattle.bng_l2tp_wire.specs.declared.message.TheConstants.{ICRQ, ICCN}
use Rattle.bng_l2tp_wire.specs.declared.kind.TheConstants.{SEQUENCING_REQUIRED}
use Rattle.bng_l2tp_wire.specs.Values.{is_of, message_type, has_unreadable}
use Rattle.bng_l2tp_wire.specs.Judge.{is_type, has_unknown, Case, if_so, first_of}
use Rattle.bng_l2tp_call.specs.Messages.{is_taken, lacks_needed}
use Rattle.bng_l2tp_call.specs.CallState.{CallState}

-- an AVP that must be there is missing or has a wrong length, or a hidden one cannot be read
abbrev pub has_wrong_avp : Option (List ℕ) → Option ℕ → List L2tpAvp → Bool
has_wrong_avp secret type avps = lacks_needed secret type avps || has_unreadable secret avps

-- an ICCN that wants sequence numbers in the data of its call (section 4.4.6)
abbrev pub asks_for_sequencing : Option ℕ → List L2tpAvp → Bool
asks_for_sequencing type avps = is_type type ICCN && list_any (is_of SEQUENCING_REQUIRED) avps

-- an ICRQ for which no session may be taken
abbrev pub lacks_slot : ℕ → Option ℕ → Bool
lacks_slot session type = is_type type ICRQ && session == 0

-- the cases of a message of this type with these AVPs
abbrev pub cases : CallState → Option ℕ → List L2tpAvp → List (Case CallRefusal)
cases s type avps =
    if_so (has_unknown avps) UnknownAvp
    ∷ if_so (has_wrong_avp s.secret type avps) WrongAvp
    ∷ if_so (asks_for_sequencing type avps) SequencingRequired
    ∷ if_so (lacks_slot s.session type) NoSlot
    ∷ []

-- why a message that is taken is refused, where it is
unfoldable pub refusal_of : CallState → List L2tpAvp → Option CallRefusal
refusal_of s avps = first_of (cases s (message_type avps) avps)

-- the call takes the message in its phase, and refuses it for this cause
pub record IsRefused (s : CallState) (m : ControlMessage) (cause : CallRefusal) : Type 0 where
  pub taken : is_taken s.phase (message_type m.avps) ≡ true
  pub first : refusal_of s m.avps ≡ Some cause
