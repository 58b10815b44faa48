-- What a call answers goes out over its tunnel, and acknowledges.
use Rattle.std.proofs.Common.{◌≡◌, ℕ, ◌<◌, ◌≤◌, List, [], ◌∷◌, ◌++◌, length, refl, ap, arith, length-append}
use Rattle.std.specs.List.{AllByRecursion}
use Rattle.bng_l2tp_reliable.specs.ChannelState.{ChannelState}
use Rattle.bng_l2tp_tunnel.specs.Outs.{zlb, or_zlb}
use Rattle.bng_l2tp_tunnel.specs.Sound.{IsTunnel, IsSpelled}
use Rattle.bng_l2tp_tunnel.specs.Steps.{to_peer, send_step}
use Rattle.bng_l2tp_tunnel.specs.TunnelState.{TunnelState}
use Rattle.bng_l2tp_wire.specs.View.{Said}
use Rattle.bng_l2tp_tunnel.proofs.Few.{any_few, send_one}
use Rattle.bng_l2tp_tunnel.proofs.Answered.{any_some}
use Rattle.bng_l2tp_tunnel.proofs.Soundness.{send_sound}
use Rattle.bng_l2tp_tunnel.proofs.Texts.{AllByRecursion-append}
use Rattle.bng_l2tp_wire.specs.Messages.{ControlMessage}
use Rattle.bng_l2tp_call.specs.CallState.{CallState}
use Rattle.bng_l2tp_call.specs.Sound.{IsSentTo as IsCallSentTo}
use Rattle.bng_l2tp_call.specs.Steps.{Step as CallStep, Hears}
use Rattle.bng_l2tp_call.proofs.Table.{hears_is}
use Rattle.bng_lns.specs.Exchange.{answered_by, exchanged, parted_by, IsCallText}
use Rattle.bng_lns.proofs.Hearing.{sent_spelled}

-- what a call tells is short enough for its tunnel
pub call_texts : (session : ℕ) (outs : List (List ℕ)) → AllByRecursion (IsCallSentTo session) outs → AllByRecursion IsCallText outs
call_texts session [] h = tt
call_texts session (o ∷ outs) h = (record { spelled = (h.0.message, h.0.text); short = h.0.short }, call_texts session outs h.1)

zlb_spelled : (tunnel : ℕ) (c : ChannelState) → IsSpelled (zlb tunnel c)
zlb_spelled tunnel c = (record { tunnel = tunnel; session = 0; ns = c.ns; nr = c.nr; avps = [] }, refl)

any_spelled : (tunnel : ℕ) (c : ChannelState) (outs : List (List ℕ)) → AllByRecursion IsSpelled outs → AllByRecursion IsSpelled (or_zlb tunnel c outs)
any_spelled tunnel c [] h = (zlb_spelled tunnel c, tt)
any_spelled tunnel c (o ∷ outs) h = h

module _ (t : TunnelState) (heard : Said) (told : Said) (now : ℕ) where
  pub answered_some : (texts : List (List ℕ)) → 0 < length (answered_by t heard told now texts).said.outs
  answered_some [] = omega (arith, length-append heard.outs (zlb (to_peer t) t.channel ∷ []))
  answered_some (text ∷ texts) =
      let sent = send_step t text now in any_some (to_peer sent.after) sent.after.channel (heard.outs ++ sent.said.outs)

  pub answered_few : (texts : List (List ℕ)) → IsTunnel t → length heard.outs ≤ 8 → length (answered_by t heard told now texts).said.outs ≤ 9
  answered_few [] tunnel few = omega (arith, few, length-append heard.outs (zlb (to_peer t) t.channel ∷ []))
  answered_few (text ∷ texts) tunnel few =
      let sent = send_step t text now in
      any_few 9 (to_peer sent.after) sent.after.channel (heard.outs ++ sent.said.outs) (omega arith)
      (omega (arith, few, send_one t text now tunnel, length-append heard.outs sent.said.outs))

  pub answered_spelled : (texts : List (List ℕ)) → IsTunnel t → AllByRecursion IsCallText texts → AllByRecursion IsSpelled heard.outs → AllByRecursion IsSpelled (answered_by t heard told now texts).said.outs
  answered_spelled [] tunnel are h = AllByRecursion-append IsSpelled heard.outs (zlb (to_peer t) t.channel ∷ []) h (zlb_spelled (to_peer t) t.channel, tt)
  answered_spelled (text ∷ texts) tunnel are h =
      let sent = send_step t text now in
      let sound = send_sound t text now tunnel are.0.spelled in
      any_spelled (to_peer sent.after) sent.after.channel (heard.outs ++ sent.said.outs)
      (AllByRecursion-append IsSpelled heard.outs sent.said.outs h (sent_spelled _ _ sent.said.outs sound.outs))

module _ (t : TunnelState) (told : Said) (now : ℕ) where
  pub parted_one : (texts : List (List ℕ)) → IsTunnel t → length (parted_by t told now texts).said.outs ≤ 1
  parted_one [] tunnel = omega arith
  parted_one (text ∷ texts) tunnel = send_one t text now tunnel

  pub parted_spelled : (texts : List (List ℕ)) → IsTunnel t → AllByRecursion IsCallText texts → AllByRecursion IsSpelled (parted_by t told now texts).said.outs
  parted_spelled [] tunnel are = tt
  parted_spelled (text ∷ texts) tunnel are =
      let sent = send_step t text now in sent_spelled _ _ sent.said.outs (send_sound t text now tunnel are.0.spelled).outs

-- What a call told is what the table of its messages says.
pub as_exchanged : (t : TunnelState) (heard : Said) (call : CallState) (m : ControlMessage) (now : ℕ) (told : Said) (after : CallState) → Hears call m (record { said = told; after = after })
    → answered_by t heard told now told.outs ≡ exchanged t heard call m now
as_exchanged t heard call m now told after h = ap (λ (s : CallStep). answered_by t heard s.said now s.said.outs) (hears_is call m h)
