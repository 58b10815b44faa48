-- What the views and the steps of tunnels and calls say, without where it lies in memory.
use Rattle.std.specs.Prelude.{ℕ, Bool, false, List, map, Option, option_map}
use Rattle.arrayvec.specs.ArrayVec.{ArrayVec}
use Rattle.bng_base.specs.declared.tunnel_step.TunnelStep.{TunnelStep}
use Rattle.bng_base.specs.Packet.{Packet}
use Rattle.bng_l2tp_wire.specs.Avps.{L2tpAvp}
use Rattle.bng_l2tp_wire.specs.Messages.{ControlMessage, DataMessage}
use Rattle.bng_l2tp_wire.specs.Values.{PlacedAvp}
use Rattle.bng_l2tp_wire.specs.declared.placed.Placed.{Placed}
use Rattle.bng_l2tp_wire.specs.declared.view.Avp.{Avp}
use Rattle.bng_l2tp_wire.specs.declared.view.Control.{Control}
use Rattle.bng_l2tp_wire.specs.declared.view.Data.{Data}

abbrev pub avp_of : Avp → L2tpAvp
avp_of a = record { mandatory = a.mandatory; hidden = a.hidden; reserved = a.reserved; vendor = a.vendor; kind = a.kind; value = a.value.now }

abbrev pub avps_of : List Avp → List L2tpAvp
avps_of avps = map avp_of avps

abbrev pub placed_of : Placed → PlacedAvp
placed_of p = record { avp = avp_of p.avp; vector = option_map avp_of p.vector }

abbrev pub control_of : Control → ControlMessage
control_of m = record { tunnel = m.tunnel; session = m.session; ns = m.ns; nr = m.nr; avps = avps_of m.avps.items }

abbrev pub data_of : Data → DataMessage
data_of d = record { tunnel = d.tunnel; session = d.session; ppp = d.ppp.now }

-- the octets of a text that may be there
abbrev pub octets_of : Option (ArrayVec ℕ) → Option (List ℕ)
octets_of text = option_map (λ (t : ArrayVec ℕ). t.items) text

abbrev pub payloads : List Packet → List (List ℕ)
payloads frames = map (λ (f : Packet). f.payload) frames

-- what a step of a tunnel or of a call says
pub record Said : Type 0 where
  pub outs : List (List ℕ)
  pub established : Bool
  pub cleared : Bool
  pub call : Bool
  pub opened : Bool
  pub ended : Bool
  pub left_out : Bool

abbrev pub said : TunnelStep → Said
said s = record {
  outs = payloads s.outs.items;
  established = s.established;
  cleared = s.cleared;
  call = s.call;
  opened = s.opened;
  ended = s.ended;
  left_out = s.left_out;
}

-- what goes out, and nothing else
abbrev pub sends : List (List ℕ) → Said
sends outs = record { outs = outs; established = false; cleared = false; call = false; opened = false; ended = false; left_out = false }
