-- The control messages that a call takes, by RFC 2661 sections 6.6 to 6.14 and 7.4.2: a table, with a row for each message.
use Rattle.std.specs.Prelude.{ℕ, Bool, true, false, ◌&&◌, List, [], ◌∷◌, Option}
use Rattle.std.specs.List.{list_any}
use Rattle.bng_l2tp_wire.specs.Avps.{L2tpAvp}
use Rattle.bng_l2tp_call.specs.declared.phase.CallPhase.{CallPhase}
use Rattle.bng_l2tp_call.specs.declared.phase.CallPhase.TheVariants.{Idle, WaitConnect, Established, Ended}
use Rattle.bng_l2tp_wire.specs.declared.message.TheConstants.{ICRQ, ICCN, CDN, WEN, SLI}
use Rattle.bng_l2tp_wire.specs.declared.kind.TheConstants.{RESULT_CODE, ASSIGNED_SESSION_ID, CALL_SERIAL_NUMBER, FRAMING_TYPE, TX_CONNECT_SPEED}
use Rattle.bng_l2tp_wire.specs.Judge.{is_type, lacks_one_of}

-- a message of a call: in which phases of the call it is taken, and which AVPs it must have
pub record Row : Type 0 where
  pub type : ℕ
  pub taken : List CallPhase
  pub needs : List ℕ

abbrev pub row : ℕ → List CallPhase → List ℕ → Row
row type taken needs = record { type = type; taken = taken; needs = needs }

abbrev pub rows : List Row
rows =
    row ICRQ (Idle ∷ []) (ASSIGNED_SESSION_ID ∷ CALL_SERIAL_NUMBER ∷ [])
    ∷ row ICCN (WaitConnect ∷ []) (FRAMING_TYPE ∷ TX_CONNECT_SPEED ∷ [])
    ∷ row CDN (WaitConnect ∷ Established ∷ []) (RESULT_CODE ∷ ASSIGNED_SESSION_ID ∷ [])
    ∷ row WEN (WaitConnect ∷ Established ∷ []) []
    ∷ row SLI (WaitConnect ∷ Established ∷ []) []
    ∷ []

abbrev pub same_phase : CallPhase → CallPhase → Bool
same_phase Idle Idle = true
same_phase WaitConnect WaitConnect = true
same_phase Established Established = true
same_phase Ended Ended = true
same_phase _ _ = false

-- a message that the call takes in this phase
abbrev pub is_taken : CallPhase → Option ℕ → Bool
is_taken phase type = list_any (λ r. is_type type r.type && list_any (same_phase phase) r.taken) rows

-- an AVP that the message must have is not there, or has a wrong length
abbrev pub lacks_needed : Option (List ℕ) → Option ℕ → List L2tpAvp → Bool
lacks_needed secret type avps = list_any (λ r. is_type type r.type && lacks_one_of secret r.needs avps) rows
