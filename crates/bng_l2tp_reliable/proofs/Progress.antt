-- Where nothing is lost, the oldest message in flight comes to count as acknowledged.
use Rattle.std.proofs.Common.{◌≡◌, ℕ, ◌-◌, ◌%◌, ◌<◌, ◌≤◌, Bool, true, false, List, [], ◌∷◌, ◌++◌, Option, Some, None, length, get_or, refl, sym, ap, subst, ◌∙◌, arith, length-append, length-drop}
use Rattle.std.specs.Prelude.{◌==◌, if◌then◌else◌, option_map}
use Rattle.std.specs.List.{slice_get}
use Rattle.std.proofs.lemmas.List.{length-take}
use Rattle.std.proofs.lemmas.Option.{slice_get-get_or}
use Rattle.std.proofs.lemmas.Bool.{eqb-false}
use Rattle.bng_l2tp_reliable.specs.declared.answers.Heard.TheVariants.{Deliver, Repeat, Ahead}
use Rattle.bng_l2tp_reliable.specs.declared.outgoing.Outgoing.{Outgoing}
use Rattle.bng_l2tp_reliable.specs.Numbers.{steps_on}
use Rattle.bng_l2tp_reliable.specs.ChannelState.{ChannelState, Message, in_flight}
use Rattle.bng_l2tp_reliable.specs.Calls.{numbered, flight_at, oldest_ns, acknowledged}
use Rattle.bng_l2tp_reliable.specs.World.{End, Packet, acts, Acknowledges, sends_out, hears, gone_out, with_delivered, acknowledged_of}
use Rattle.bng_l2tp_reliable.proofs.Flows.{Both, turned, acked, gone_out-is}
use Rattle.bng_l2tp_reliable.proofs.Acts.{IsAgain, IsAgainOf, again_by, sends_again_by}
use Rattle.bng_l2tp_reliable.proofs.Hearing.{heard_by, acknowledged_by}

-- the last item
last_of : {A : Type 0} (xs : List A) (x : A) → slice_get (xs ++ x ∷ []) (length xs) ≡ Some x
last_of [] x = refl
last_of (y ∷ ys) x = last_of ys x

-- a message that goes out again, and a ZLB
abbrev packet_of : End → End → Outgoing → Packet
packet_of e other out = record { ns = out.ns; nr = out.nr; message = Some out.message; from_sender = gone_out e; from_other = gone_out other }

abbrev zlb_of : End → End → Packet
zlb_of e other = record { ns = e.channel.ns; nr = e.channel.nr; message = None; from_sender = gone_out e; from_other = gone_out other }

delivered_by : (a : ℕ) (delivered : List Message) (message : Message) (ns nr : ℕ) (next repeated : Bool) → (ns == nr) ≡ next → ns ≡ a % 65536 → nr ≡ length delivered % 65536 → a ≤ length delivered → a < length (with_delivered delivered (Some message) (if next then Deliver else (if repeated then Repeat else Ahead)))
delivered_by a delivered message ns nr true repeated is ns_is nr_is told = omega (arith, length-append delivered (message ∷ []))
delivered_by a delivered message ns nr false true is ns_is nr_is told = omega (arith, eqb-false _ _ is)
delivered_by a delivered message ns nr false false is ns_is nr_is told = omega (arith, eqb-false _ _ is)

-- The oldest message in flight goes out again and arrives, and a ZLB comes back.
module _ (e other : End) (out : Outgoing) (arrived arrived' : ℕ) (h : Both e other) (again : IsAgain e.channel 0 out) where
  abbrev p : Packet
  p = packet_of e other out

  abbrev after_out : End
  after_out = sends_out e other e.channel (Some out)

  abbrev after_heard : End
  after_heard = hears other (Some p) arrived

  abbrev z : Packet
  z = zlb_of after_heard after_out

  out_again : Both after_out other
  out_again = sends_again_by e other 0 (Some out) again h

  it_came : Both after_heard after_out
  it_came = heard_by other after_out (length e.packets) arrived (Some p) (last_of e.packets p) (omega arith, omega arith) (turned after_out other out_again)

  it_was_delivered : acked e < length after_heard.delivered
  it_was_delivered =
      let number = gone_out-is e other h.there in
      let few = h.there.sound.flying in
      delivered_by (acked e) other.delivered out.message out.ns other.channel.nr (out.ns == other.channel.nr) _ refl (again.ns ∙ omega (arith, number, h.there.ns, few, h.there.sound.window)) h.there.nr h.there.told

  more_acknowledged : acked e < acked (hears after_out (Some z) arrived')
  more_acknowledged =
      let t = h.there in
      let c = e.channel in
      let n = length c.sends in
      let number = gone_out-is e other t in
      let few : n ≤ 8 = omega (arith, t.sound.flying, t.sound.window) in
      let got = it_was_delivered in
      let gone = it_came.back.gone in
      let count = acknowledged c z.nr in
      let counted : count ≡ length after_heard.delivered - acked e = acknowledged_by (acked e) n (length after_heard.delivered) z.nr c.ns _ few (omega (arith, t.ns)) it_came.back.nr (omega arith) (omega arith) refl in
      omega (arith, length-drop count c.messages, t.fits, t.sound.known)

-- which message goes out again
oldest_again : (c : ChannelState) → 0 < length c.sends → length c.sends ≤ length c.messages → (out : Outgoing) × (flight_at c 0 ≡ Some out)
oldest_again c flying known =
    let blank : Message = record { items = [] } in
    let found = slice_get-get_or (in_flight c) 0 blank (omega (arith, length-take (length c.sends) c.messages)) in
    (numbered c (steps_on (oldest_ns c) 0) (get_or (in_flight c) 0 blank), ap (λ o. option_map (numbered c (steps_on (oldest_ns c) 0)) o) found)

module _ (e other : End) (arrived arrived' : ℕ) where
  -- the end after the exchange, by what goes out, what arrives at the other end and what comes back
  abbrev end_by : Option Outgoing → End
  end_by o =
      let sender = sends_out e other e.channel o in
      let hearer = acts (hears other (slice_get sender.packets (length e.packets)) arrived) sender Acknowledges in
      hears sender (slice_get hearer.packets (length other.packets)) arrived'

  more_by : (out : Outgoing) → IsAgain e.channel 0 out → Both e other → acked e < acked (end_by (Some out))
  more_by out again h =
      let sender = after_out e other out arrived arrived' h again in
      let P : Option Packet → Type 0 = λ q. acked e < acked (hears sender (slice_get (acts (hears other q arrived) sender Acknowledges).packets (length other.packets)) arrived') in
      let Q : Option Packet → Type 0 = λ q. acked e < acked (hears sender q arrived') in
      let sent = last_of e.packets (packet_of e other out) in
      let back = last_of other.packets (z e other out arrived arrived' h again) in
      subst P (sym sent) (subst Q (sym back) (more_acknowledged e other out arrived arrived' h again))

  pub acknowledged_more : Both e other → 0 < length e.channel.sends → length (acknowledged_of e) < length (acknowledged_of (end_by (flight_at e.channel 0)))
  acknowledged_more h flying =
      let oldest = oldest_again e.channel flying h.there.sound.known in
      let R : Option Outgoing → Type 0 = λ o. IsAgainOf e.channel 0 o in
      let P : Option Outgoing → Type 0 = λ o. acked e < acked (end_by o) in
      let again = subst R oldest.1 (again_by e.channel 0 _ refl) in
      let more = subst P (sym oldest.1) (more_by oldest.0 again h) in
      let after = end_by (flight_at e.channel 0) in
      omega (arith, more, length-take (acked e) e.sent, length-take (acked after) after.sent)
