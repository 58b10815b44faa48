-- Each frame that a step of a link sends is one of LCP.
use Rattle.std.proofs.Common.{◌≡◌, inl, inr, ℕ, Bool, true, false, List, [], ◌∷◌, ◌++◌, Option, Some, None, refl, sym, subst}
use Rattle.std.specs.List.{AllByRecursion}
use Rattle.byteorder.specs.Endian.{big_bytes}
use Rattle.bng_automaton.specs.declared.action.Action.{Action}
use Rattle.bng_automaton.specs.declared.action.Action.TheVariants.{Tlu, Tld, Tls, Tlf, Irc, Zrc, Scr, Sca, Scn, Str, Sta, Scj, Ser}
use Rattle.bng_automaton.specs.declared.event.Event.{Event}
use Rattle.bng_base.specs.PppGrammar.{ControlPacket, PppOption, packet_text, options_text, ppp_text}
use Rattle.bng_ppp_wire.specs.declared.judgement.Judged.{Judged}
use Rattle.bng_ppp_wire.specs.declared.judgement.Judged.TheVariants as judged
use Rattle.bng_lcp.specs.declared.configure_reply.Taken.{Taken}
use Rattle.bng_lcp.specs.declared.configure_reply.Taken.TheVariants.{Accepted, Changed, Ignored, Unwilling}
use Rattle.bng_lcp.specs.Ask.{Ask}
use Rattle.bng_lcp.specs.ConfigureRequest.{asked}
use Rattle.bng_ppp_wire.specs.View.{packet_of}
use Rattle.bng_ppp_wire.specs.declared.code.TheConstants.{CONFIGURE_REQUEST, TERMINATE_REQUEST, TERMINATE_ACK, ECHO_REQUEST}
use Rattle.bng_ppp_wire.specs.declared.protocol.TheConstants as protocol
use Rattle.bng_ppp.specs.declared.counters.Kept.{Kept}
use Rattle.bng_ppp.specs.declared.codes.Kind.{Kind}
use Rattle.bng_ppp.specs.declared.codes.Kind.TheVariants.{Request, Reply, Plain, Echo, Mute, EchoReply, Unknown}
use Rattle.bng_ppp.specs.declared.frame.FrameKind.{FrameKind}
use Rattle.bng_ppp.specs.declared.frame.FrameKind.TheVariants.{NoFrame, NoPacket, Long, Lcp, Other}
use Rattle.bng_ppp.specs.declared.rules.LcpInput.{LcpInput}
use Rattle.bng_ppp.specs.declared.rules.LcpInput.TheVariants as input
use Rattle.bng_ppp.specs.declared.rules.LinkRules.{LinkRules}
use Rattle.bng_ppp.specs.LcpState.{LcpState}
use Rattle.bng_ppp.specs.Said.{Said, quiet}
use Rattle.bng_ppp.specs.Encapsulation.{sent, sent_some}
use Rattle.bng_ppp.specs.Automaton.{Why, Doing, acted, all_acted, Follows, Moves, Rests}
use Rattle.bng_ppp.specs.Identifiers.{requested, ending}
use Rattle.bng_ppp.specs.Messages.{is_lcp_code}
use Rattle.bng_ppp.specs.LowerLayer.{Loses}
use Rattle.bng_ppp.specs.Codes.{kind_of}
use Rattle.bng_ppp.specs.Echo.{own_magic}
use Rattle.bng_ppp.specs.ProtocolReject.{protocol_reject, hears_other, is_rejected}
use Rattle.bng_ppp.specs.ConfigureRequest.{answer_of, Judges}
use Rattle.bng_ppp.specs.ConfigureReply.{AfterReply}
use Rattle.bng_ppp.specs.LcpRelation.{HearsKind, Hears, HearsFrame, LcpLinkSteps}
use Rattle.bng_ppp.specs.Timers.{Reminds}

-- a frame of LCP, and the packet that it is the text of
pub record IsLcp (octets : List ℕ) : Type 0 where
  pub info : List ℕ
  pub spelled : octets ≡ ppp_text (record { protocol = protocol.LCP; info = info })
  pub packet : ControlPacket
  pub info_is : info ≡ packet_text packet
  pub code : is_lcp_code packet.code ≡ true

abbrev pub AreLcp : List (List ℕ) → Type 0
AreLcp outs = AllByRecursion IsLcp outs

-- an answer is a packet that LCP writes
abbrev pub IsLcpAnswer : Option ControlPacket → Type 0
IsLcpAnswer None = Unit {0}
IsLcpAnswer (Some p) = is_lcp_code p.code ≡ true

judged_answer : (k : Kept) (p : ControlPacket) (os : List PppOption) (j : Judged) → IsLcpAnswer (answer_of k p os j).answer
judged_answer k p os judged.Ack = refl
judged_answer k p os (judged.Nak made) = refl
judged_answer k p os (judged.Reject options) = refl

-- What holds of each frame of LCP, and of what went out before, holds of all that goes out.
module _ (P : List ℕ → Type 0) (of_lcp : (octets : List ℕ) → IsLcp octets → P octets) where
  abbrev All : List (List ℕ) → Type 0
  All outs = AllByRecursion P outs

  abbrev Says : Doing → Type 0
  Says d = All d.said.outs

  all_append : (xs ys : List (List ℕ)) → All xs → All ys → All (xs ++ ys)
  all_append [] ys h i = i
  all_append (x ∷ xs) ys h i = (h.0, all_append xs ys h.1 i)

  packet_sent : (p : ControlPacket) (outs : List (List ℕ)) → is_lcp_code p.code ≡ true → All outs → All (sent protocol.LCP p outs)
  packet_sent p outs code h =
      let octets = ppp_text (record { protocol = protocol.LCP; info = packet_text p }) in
      all_append outs (octets ∷ []) h (of_lcp octets (record { info = packet_text p; spelled = refl; packet = p; info_is = refl; code = code }), tt)

  some_sent : (p : Option ControlPacket) (outs : List (List ℕ)) → IsLcpAnswer p → All outs → All (sent_some protocol.LCP p outs)
  some_sent None outs code h = h
  some_sent (Some p) outs code h = packet_sent p outs code h

  one_acted : (c : Why) (echo now : ℕ) (d : Doing) (a : Action) → IsLcpAnswer c.answer → Says d → Says (acted c echo now d a)
  one_acted c echo now d Tlu is h = h
  one_acted c echo now d Tld is h = h
  one_acted c echo now d Tls is h = h
  one_acted c echo now d Tlf is h = h
  one_acted c echo now d Irc is h = h
  one_acted c echo now d Zrc is h = h
  one_acted c echo now d Scr is h = packet_sent (record { code = CONFIGURE_REQUEST; id = (requested c.timed d.link.kept.ids).request; body = options_text (asked d.link.ask.wanted) }) d.said.outs refl h
  one_acted c echo now d Sca is h = some_sent c.answer d.said.outs is h
  one_acted c echo now d Scn is h = some_sent c.answer d.said.outs is h
  one_acted c echo now d Str is h = packet_sent (record { code = TERMINATE_REQUEST; id = (ending c.timed d.link.kept.ids).terminate; body = [] }) d.said.outs refl h
  one_acted c echo now d Sta is h = packet_sent (record { code = TERMINATE_ACK; id = c.id; body = [] }) d.said.outs refl h
  one_acted c echo now d Scj is h = some_sent c.answer d.said.outs is h
  one_acted c echo now d Ser is h = some_sent c.answer d.said.outs is h

  each_acted : (c : Why) (echo now : ℕ) (d : Doing) (actions : List Action) → IsLcpAnswer c.answer → Says d → Says (all_acted c echo now d actions)
  each_acted c echo now d [] is h = h
  each_acted c echo now d (a ∷ actions) is h = each_acted c echo now (acted c echo now d a) actions is (one_acted c echo now d a is h)

  pub follows_says : (event : Event) (c : Why) (echo now : ℕ) (before after : Doing) → IsLcpAnswer c.answer → Says before → Follows event c echo now before after → Says after
  follows_says event c echo now before after is h f =
      subst (λ (d : Doing). Says d) (sym f.done) (each_acted c echo now (record before { link = record before.link { lcp = f.machine } }) f.actions is h)

-- Events ----------------------------------------------------------------------------------------------------------------

follows_lcp : (event : Event) (c : Why) (echo now : ℕ) (before after : Doing) → IsLcpAnswer c.answer → AreLcp before.said.outs → Follows event c echo now before after → AreLcp after.said.outs
follows_lcp event c echo now before after is h f = follows_says IsLcp (λ octets x. x) event c echo now before after is h f

one_packet : (p : ControlPacket) → is_lcp_code p.code ≡ true → AreLcp (sent protocol.LCP p [])
one_packet p code = packet_sent IsLcp (λ octets x. x) p [] code tt

-- Steps -----------------------------------------------------------------------------------------------------------------

module _ (echo now : ℕ) (old : LcpState) (says : Said) (new : LcpState) where
  moves_lcp : (event : Event) (c : Why) (from : LcpState) → IsLcpAnswer c.answer → Moves event c echo now from says new → AreLcp says.outs
  moves_lcp event c from is m = follows_lcp event c echo now (record { link = from; said = quiet }) (record { link = new; said = says }) is tt m

  rests_lcp : Rests old says new → AreLcp says.outs
  rests_lcp h = subst (λ (s : Said). AreLcp s.outs) (sym h.0) tt

  loses_lcp : Loses echo now old says new → AreLcp says.outs
  loses_lcp h =
      let down = follows_lcp _ _ echo now (record { link = old; said = quiet }) h.down tt tt h.follows in
      subst (λ (d : Doing). AreLcp d.said.outs) (sym h.done) down

  judges_lcp : (p : ControlPacket) (random : List ℕ) → Judges p echo now random old says new → AreLcp says.outs
  judges_lcp p random (inl (options, j, are, few, is, m)) = moves_lcp _ _ old (judged_answer old.kept p options j) m
  judges_lcp p random (inr (long, h)) = rests_lcp h

  reply_lcp : (answer : Taken) (p : ControlPacket) (ask : Ask) → AfterReply answer p echo now old ask says new → AreLcp says.outs
  reply_lcp Accepted p ask m = moves_lcp _ _ _ tt m
  reply_lcp Changed p ask m = moves_lcp _ _ _ tt m
  reply_lcp Unwilling p ask m = moves_lcp _ _ _ tt m
  reply_lcp Ignored p ask h = rests_lcp h

  kind_lcp : (kind : Kind) (p : ControlPacket) (random : List ℕ) → HearsKind kind p echo now random old says new → AreLcp says.outs
  kind_lcp Request p random h = judges_lcp p random h
  kind_lcp Reply p random h = reply_lcp h.answer p h.ask h.after
  kind_lcp (Plain event) p random m = moves_lcp _ _ _ tt m
  kind_lcp Echo p random m = moves_lcp _ _ _ refl m
  kind_lcp Mute p random h = rests_lcp h
  kind_lcp EchoReply p random m = moves_lcp _ _ _ tt m
  kind_lcp Unknown p random m = moves_lcp _ _ _ refl m

  rejects_lcp : (b : Bool) (octets : List ℕ) → says ≡ (hears_other b octets old).said → AreLcp says.outs
  rejects_lcp false octets e = subst (λ (s : Said). AreLcp s.outs) (sym e) tt
  rejects_lcp true octets e = subst (λ (s : Said). AreLcp s.outs) (sym e) (one_packet (protocol_reject old octets) refl)

  heard_lcp : (heard : FrameKind) (octets random : List ℕ) → Hears heard octets echo now random old says new → AreLcp says.outs
  heard_lcp NoFrame octets random h = rests_lcp h
  heard_lcp NoPacket octets random h = rests_lcp h
  heard_lcp Long octets random h = rests_lcp h
  heard_lcp (Lcp p) octets random h = kind_lcp (kind_of (packet_of p)) (packet_of p) random h
  heard_lcp (Other n) octets random h = rejects_lcp (is_rejected old n) octets h.0

  -- a frame was heard
  pub hears_lcp : (octets random : List ℕ) → HearsFrame octets echo now random old says new → AreLcp says.outs
  hears_lcp octets random h = heard_lcp h.heard octets random h.hears

  reminds_lcp : Reminds echo now old says new → AreLcp says.outs
  reminds_lcp (inl (out, some, m)) = moves_lcp _ _ _ tt m
  reminds_lcp (inr (inl (out, none, m))) = moves_lcp _ _ _ tt m
  reminds_lcp (inr (inr (inl (runs, due, many, h)))) = loses_lcp h
  reminds_lcp (inr (inr (inr (inl (runs, due, few, said, link))))) = subst (λ (s : Said). AreLcp s.outs) (sym said) (one_packet (record { code = ECHO_REQUEST; id = old.kept.ids.next; body = big_bytes 4 (own_magic old) }) refl)
  reminds_lcp (inr (inr (inr (inr (runs, early, h))))) = rests_lcp h

-- a step of a link, whatever it is told
pub steps_lcp : (r : LinkRules) (told : LcpInput) (now : ℕ) (random : List ℕ) (old : LcpState) (says : Said) (new : LcpState) → LcpLinkSteps r told now random old says new → AreLcp says.outs
steps_lcp r input.Start now random old says new h =
    follows_lcp _ _ r.echo now h.opened (record { link = new; said = says }) tt (follows_lcp _ _ r.echo now (record { link = record old { ask = h.ask }; said = quiet }) h.opened tt tt h.on_open) h.on_up
steps_lcp r (input.Frame octets) now random old says new h = hears_lcp r.echo now old says new octets.now random h
steps_lcp r input.Timer now random old says new h = reminds_lcp r.echo now old says new h
steps_lcp r input.Close now random old says new m = moves_lcp r.echo now old says new _ _ _ tt m
steps_lcp r input.Lost now random old says new h = loses_lcp r.echo now old says new h
