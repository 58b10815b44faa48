-- The control messages that an access concentrator sends, by RFC 2661 sections 4.4 and 6. Numbers have their most significant octet first.
use Rattle.std.specs.Prelude.{ℕ, List, [], ◌∷◌, ◌++◌, Option}
use Rattle.byteorder.specs.Endian.{big_bytes}
use Rattle.bng_l2tp_wire.specs.Messages.{ControlMessage}
use Rattle.bng_l2tp_wire.specs.Spelling.{avp, number_avp, unsent}
use Rattle.bng_l2tp_tunnel.specs.Spelling.{front, challenge_avps, response_avps}
use Rattle.bng_l2tp_wire.specs.declared.message.TheConstants.{ICRQ, ICCN, SCCRQ, SCCCN}
use Rattle.bng_l2tp_wire.specs.declared.kind.TheConstants.{MESSAGE_TYPE, ASSIGNED_SESSION_ID, CALL_SERIAL_NUMBER, FRAMING_TYPE, TX_CONNECT_SPEED}

-- the Start-Control-Connection-Request of a tunnel with this number (section 6.1)
abbrev pub sccrq : (name : List ℕ) (number : ℕ) (secret : Option (List ℕ)) (challenge : List ℕ) → ControlMessage
sccrq name number secret challenge = unsent 0 (front SCCRQ name number ++ challenge_avps secret challenge)

-- the Start-Control-Connection-Connected to a server that sent this Challenge, if one (section 6.3)
abbrev pub scccn : (secret asked : Option (List ℕ)) → ControlMessage
scccn secret asked = unsent 0 (number_avp MESSAGE_TYPE SCCCN ∷ response_avps SCCCN secret asked)

-- the Incoming-Call-Request of a session, with this Call Serial Number (section 6.6)
abbrev pub icrq : (session serial : ℕ) → ControlMessage
icrq session serial =
    unsent 0 (number_avp MESSAGE_TYPE ICRQ ∷ number_avp ASSIGNED_SESSION_ID session ∷ avp CALL_SERIAL_NUMBER (big_bytes 4 serial) ∷ [])

-- ten million bits a second (section 4.4.6)
abbrev pub connect_speed : ℕ
connect_speed = 10000000

-- synchronous framing (section 4.4.6)
abbrev pub synchronous : ℕ
synchronous = 1

-- the Incoming-Call-Connected for a session of the server (section 6.8)
abbrev pub iccn : (session : ℕ) → ControlMessage
iccn session =
    unsent session (number_avp MESSAGE_TYPE ICCN ∷ avp TX_CONNECT_SPEED (big_bytes 4 connect_speed) ∷ avp FRAMING_TYPE (big_bytes 4 synchronous) ∷ [])
