-- The control messages that a tunnel of an access concentrator takes, by RFC 2661 sections 6 and 7.2, and those of its calls, by section 7.4.1.
use Rattle.std.specs.Prelude.{ℕ, Bool, true, false, ◌&&◌, ◌||◌, List, [], ◌∷◌, Option, is_none}
use Rattle.std.specs.List.{list_any}
use Rattle.bng_l2tp_wire.specs.Avps.{L2tpAvp}
use Rattle.bng_l2tp_wire.specs.Judge.{is_type, lacks_one_of}
use Rattle.bng_l2tp_wire.specs.declared.message.TheConstants.{ICRP, CDN, WEN, SLI, SCCRP, STOP_CCN, HELLO}
use Rattle.bng_l2tp_wire.specs.declared.kind.TheConstants.{RESULT_CODE, ASSIGNED_SESSION_ID, PROTOCOL_VERSION, FRAMING_CAPABILITIES, HOST_NAME, ASSIGNED_TUNNEL_ID}
use Rattle.bng_lac.specs.declared.phase.LacPhase.{LacPhase}
use Rattle.bng_lac.specs.declared.phase.LacPhase.TheVariants.{Idle, WaitReply, Established}
use Rattle.bng_lac.specs.declared.call.LacCall.{LacCall}

-- the messages of a call that come from a network server (section 3.2), and WEN, which it has no cause to send (section 6.13)
abbrev pub is_of_call : Option ℕ → Bool
is_of_call type = list_any (is_type type) (ICRP ∷ CDN ∷ WEN ∷ SLI ∷ [])

-- a message of a tunnel: in which phases of the tunnel it is taken
pub record Row : Type 0 where
  pub type : ℕ
  pub taken : List LacPhase

abbrev pub row : ℕ → List LacPhase → Row
row type taken = record { type = type; taken = taken }

abbrev pub rows : List Row
rows = row SCCRP (WaitReply ∷ []) ∷ row STOP_CCN (WaitReply ∷ Established ∷ []) ∷ row HELLO (Established ∷ []) ∷ []

abbrev pub same_phase : LacPhase → LacPhase → Bool
same_phase Idle Idle = true
same_phase WaitReply WaitReply = true
same_phase Established Established = true
same_phase _ _ = false

-- a message that the tunnel takes in this phase
abbrev pub is_taken : LacPhase → Option ℕ → Bool
is_taken phase type = list_any (λ r. is_type type r.type && list_any (same_phase phase) r.taken) rows

-- A call takes an ICRP where it waits for one, and the others always.
abbrev pub is_taken_by : LacCall → Option ℕ → Bool
is_taken_by c type =
    is_type type ICRP && is_none c.peer || list_any (is_type type) (CDN ∷ WEN ∷ SLI ∷ [])

-- the AVPs that a message must have
pub record Needs : Type 0 where
  pub type : ℕ
  pub kinds : List ℕ

abbrev pub needs : ℕ → List ℕ → Needs
needs type kinds = record { type = type; kinds = kinds }

abbrev pub all_needs : List Needs
all_needs =
    needs SCCRP (PROTOCOL_VERSION ∷ FRAMING_CAPABILITIES ∷ HOST_NAME ∷ ASSIGNED_TUNNEL_ID ∷ [])
    ∷ needs STOP_CCN (RESULT_CODE ∷ ASSIGNED_TUNNEL_ID ∷ [])
    ∷ needs ICRP (ASSIGNED_SESSION_ID ∷ [])
    ∷ needs CDN (RESULT_CODE ∷ ASSIGNED_SESSION_ID ∷ [])
    ∷ []

-- an AVP that the message must have is not there, or has a wrong length
abbrev pub lacks_needed : Option (List ℕ) → Option ℕ → List L2tpAvp → Bool
lacks_needed secret type avps = list_any (λ r. is_type type r.type && lacks_one_of secret r.kinds avps) all_needs
