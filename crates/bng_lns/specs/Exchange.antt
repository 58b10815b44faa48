-- What passes between a tunnel and a call of it: the call takes a message that the tunnel handed over, and what it answers goes out over the
-- tunnel (RFC 2661 sections 3.1, 5.8 and 6.6 to 6.14).
use Rattle.std.specs.Prelude.{◌≤◌, ℕ, Bool, false, List, [], ◌∷◌, ◌++◌, length}
use Rattle.bng_l2tp_wire.specs.Messages.{ControlMessage}
use Rattle.bng_l2tp_tunnel.specs.Outs.{zlb, or_zlb}
use Rattle.bng_l2tp_tunnel.specs.Sound.{IsSpelled}
use Rattle.bng_l2tp_tunnel.specs.Steps.{Step, to_peer, send_step}
use Rattle.bng_l2tp_wire.specs.View.{sends, Said}
use Rattle.bng_l2tp_tunnel.specs.TunnelState.{TunnelState}
use Rattle.bng_l2tp_call.specs.CallState.{CallState}
use Rattle.bng_l2tp_call.specs.Cases.{message_step}
use Rattle.bng_l2tp_call.specs.Steps.{end_step}

-- what the tunnel said, with what the call told and these datagrams
abbrev pub joined : Said → Said → Bool → List (List ℕ) → Said
joined heard told left_out outs = record heard { outs = outs; opened = told.opened; ended = told.ended; left_out = left_out }

-- A call's answer goes out after what the window let out, and acknowledges as well; where nothing goes out, a ZLB does. A message without an
-- answer gets a ZLB. The texts are those that the call told, one at most.
abbrev pub answered_by : TunnelState → Said → Said → ℕ → List (List ℕ) → Step
answered_by t heard told now [] =
    record { said = joined heard told false (heard.outs ++ zlb (to_peer t) t.channel ∷ []); after = t }
answered_by t heard told now (text ∷ texts) =
    let sent = send_step t text now in
    record { said = joined heard told sent.said.left_out (or_zlb (to_peer sent.after) sent.after.channel (heard.outs ++ sent.said.outs)); after = sent.after }

-- what goes out over a tunnel where a call of it takes a message that the tunnel handed over with these words
abbrev pub exchanged : TunnelState → Said → CallState → ControlMessage → ℕ → Step
exchanged t heard call m now =
    answered_by t heard (message_step call m.avps).said now (message_step call m.avps).said.outs

abbrev pub parted_by : TunnelState → Said → ℕ → List (List ℕ) → Step
parted_by t told now [] = record { said = joined (sends []) told false []; after = t }
parted_by t told now (text ∷ texts) =
    let sent = send_step t text now in
    record { said = joined sent.said told sent.said.left_out sent.said.outs; after = sent.after }

-- what goes out over a tunnel where the gateway ends a call of it
abbrev pub parted : TunnelState → CallState → ℕ → Step
parted t call now = parted_by t (end_step call).said now (end_step call).said.outs

-- a control message that is short enough for a tunnel to send
pub record IsCallText (octets : List ℕ) : Type 0 where
  pub spelled : IsSpelled octets
  pub short : length octets ≤ 512
