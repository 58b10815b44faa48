-- The control messages that a tunnel takes, by RFC 2661 sections 5.1, 6 and 7.2: a table, with a row for each message.
use Rattle.std.specs.Prelude.{ℕ, Bool, true, false, ◌&&◌, List, [], ◌∷◌, Option}
use Rattle.std.specs.List.{list_any}
use Rattle.bng_l2tp_wire.specs.Avps.{L2tpAvp}
use Rattle.bng_l2tp_wire.specs.declared.kind.TheConstants.{RESULT_CODE, PROTOCOL_VERSION, FRAMING_CAPABILITIES, HOST_NAME, ASSIGNED_TUNNEL_ID}
use Rattle.bng_l2tp_wire.specs.declared.message.TheConstants.{SCCRQ, SCCCN, STOP_CCN, HELLO, ICRQ, ICCN, CDN, WEN, SLI}
use Rattle.bng_l2tp_tunnel.specs.declared.phase.TunnelPhase.{TunnelPhase}
use Rattle.bng_l2tp_tunnel.specs.declared.phase.TunnelPhase.TheVariants.{Idle, Replied, Established, Cleared}
use Rattle.bng_l2tp_wire.specs.Judge.{is_type, lacks_one_of}

-- the messages of a call (section 3.2)
abbrev pub is_of_call : Option ℕ → Bool
is_of_call type = list_any (is_type type) (ICRQ ∷ ICCN ∷ CDN ∷ WEN ∷ SLI ∷ [])

-- a message of a tunnel: in which phases of the tunnel it is taken, and which AVPs it must have
pub record Row : Type 0 where
  pub type : ℕ
  pub taken : List TunnelPhase
  pub needs : List ℕ

abbrev pub row : ℕ → List TunnelPhase → List ℕ → Row
row type taken needs = record { type = type; taken = taken; needs = needs }

abbrev pub rows : List Row
rows =
    row SCCRQ (Idle ∷ []) (PROTOCOL_VERSION ∷ FRAMING_CAPABILITIES ∷ HOST_NAME ∷ ASSIGNED_TUNNEL_ID ∷ [])
    ∷ row SCCCN (Replied ∷ []) []
    ∷ row STOP_CCN (Replied ∷ Established ∷ []) (RESULT_CODE ∷ ASSIGNED_TUNNEL_ID ∷ [])
    ∷ row HELLO (Established ∷ []) []
    ∷ []

abbrev pub same_phase : TunnelPhase → TunnelPhase → Bool
same_phase Idle Idle = true
same_phase Replied Replied = true
same_phase Established Established = true
same_phase Cleared Cleared = true
same_phase _ _ = false

-- a message that the tunnel takes in this phase
abbrev pub is_taken : TunnelPhase → Option ℕ → Bool
is_taken phase type = list_any (λ r. is_type type r.type && list_any (same_phase phase) r.taken) rows

-- an AVP that the message must have is not there, or has a wrong length
abbrev pub lacks_needed : Option (List ℕ) → Option ℕ → List L2tpAvp → Bool
lacks_needed secret type avps = list_any (λ r. is_type type r.type && lacks_one_of secret r.needs avps) rows
