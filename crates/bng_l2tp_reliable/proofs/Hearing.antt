-- A packet that arrives keeps what holds of the messages in both directions, if it is recent.
use Rattle.std.proofs.Common.{◌≡◌, ℕ, ◌+◌, ◌-◌, ◌%◌, ◌<◌, ◌≤◌, Bool, true, false, List, [], ◌∷◌, ◌++◌, Option, Some, None, length, take, drop, refl, sym, ap, subst, ◌∙◌, arith, length-append, length-drop, drop-drop, eqb-true}
use Rattle.std.specs.Prelude.{nat_le, ◌==◌, if◌then◌else◌, is_none}
use Rattle.std.specs.List.{slice_get}
use Rattle.std.proofs.lemmas.Bool.{leb-true, leb-false}
use Rattle.bng_l2tp_reliable.specs.declared.answers.Heard.TheVariants.{Deliver, Repeat, Ahead}
use Rattle.bng_l2tp_reliable.specs.Numbers.{steps_on, steps_back, steps_to}
use Rattle.bng_l2tp_reliable.specs.ChannelState.{Message}
use Rattle.bng_l2tp_reliable.specs.Calls.{acknowledged, received, heard_of, nr_after}
use Rattle.bng_l2tp_reliable.specs.World.{End, Packet, acts, Hears, hears, gone_out, with_delivered, IsRecentPacket}
use Rattle.bng_l2tp_reliable.proofs.Items.{IsAt, taken_on}
use Rattle.bng_l2tp_reliable.proofs.Packets.{IsOf, HasNumber, IsNumbered, all_on, one_of}
use Rattle.bng_l2tp_reliable.proofs.Flows.{Flows, Both, acked, gone_out-is}

-- An Nr acknowledges the messages in flight that had been delivered when it was sent: by number, those before it. An older one
-- acknowledges none.
pub acknowledged_by : (a n r nr ns : ℕ) (b : Bool) → n ≤ 8 → ns ≡ (a + n) % 65536 → nr ≡ r % 65536 → r ≤ a + n → a + n ≤ r + 32775 → nat_le (steps_to (steps_back ns n) nr) n ≡ b → (if b then steps_to (steps_back ns n) nr else 0) ≡ r - a
acknowledged_by a n r nr ns true few ns_is nr_is not_ahead near is = omega (arith, leb-true _ _ is)
acknowledged_by a n r nr ns false few ns_is nr_is not_ahead near is = omega (arith, leb-false _ _ is)

-- what follows where the other end hears, of the messages that come to it
record IsGiven (other e : End) (nr : ℕ) (delivered : List Message) : Type 0 where
  nr_is : nr ≡ length delivered % 65536
  first : delivered ≡ take (length delivered) other.sent
  gone : length delivered ≤ gone_out other
  more : length e.delivered ≤ length delivered

-- the message that is delivered is the next one
next_given : (e other : End) (p : Packet) (message : Message) → Both e other → HasNumber other.sent p message → p.from_sender ≤ gone_out other → gone_out other ≤ p.from_sender + 32767 → p.ns ≡ e.channel.nr → IsGiven other e (steps_on e.channel.nr 1) (e.delivered ++ message ∷ [])
next_given e other p message h number counted recent same =
    let b = h.back in
    let out = gone_out-is other e b in
    let got = length e.delivered in
    let more = length-append e.delivered (message ∷ []) in
    let it : number.number ≡ got = omega (arith, number.shown, number.gone, number.late, b.nr, b.gone, b.told, b.sound.flying, b.sound.window) in
    let P : ℕ → Type 0 = λ n. IsAt other.sent n message in
    let longer : got + 1 ≡ length (e.delivered ++ message ∷ []) = omega arith in
    record {
      nr_is = omega (arith, b.nr);
      first = ap (λ xs. xs ++ message ∷ []) b.first ∙ sym (taken_on other.sent got message (subst P it number.here)) ∙ ap (λ n. take n other.sent) longer;
      gone = omega (arith, number.gone);
      more = omega arith;
    }

-- nothing is delivered
nothing_given : (e other : End) → Both e other → IsGiven other e e.channel.nr e.delivered
nothing_given e other h = record { nr_is = h.back.nr; first = h.back.first; gone = h.back.gone; more = omega arith }

given_by : (e other : End) (p : Packet) (message : Message) (next repeated : Bool) → (p.ns == e.channel.nr) ≡ next → Both e other → HasNumber other.sent p message → p.from_sender ≤ gone_out other → gone_out other ≤ p.from_sender + 32767 → IsGiven other e (if next then steps_on e.channel.nr 1 else e.channel.nr) (with_delivered e.delivered (Some message) (if next then Deliver else (if repeated then Repeat else Ahead)))
given_by e other p message true repeated is h number counted recent = next_given e other p message h number counted recent (eqb-true _ _ is)
given_by e other p message false true is h number counted recent = nothing_given e other h
given_by e other p message false false is h number counted recent = nothing_given e other h

given_of : (e other : End) (p : Packet) (message : Option Message) → Both e other → IsNumbered other.sent p message → p.from_sender ≤ gone_out other → gone_out other ≤ p.from_sender + 32767 → IsGiven other e (nr_after e.channel.nr p.ns (is_none message)) (with_delivered e.delivered message (heard_of e.channel.nr p.ns (is_none message)))
given_of e other p None h number counted recent = nothing_given e other h
given_of e other p (Some message) h number counted recent = given_by e other p message (p.ns == e.channel.nr) _ refl h number counted recent

-- the other end's messages, after this was given
given_back : (e other e' : End) → Both e other → IsGiven other e e'.channel.nr e'.delivered → Flows other e'
given_back e other e' h given = record {
  sound = h.back.sound;
  fits = h.back.fits;
  kept = h.back.kept;
  ns = h.back.ns;
  nr = given.nr_is;
  first = given.first;
  gone = given.gone;
  told = omega (arith, h.back.told, given.more);
  packets = h.back.packets;
}

-- an end's own messages, after so many in flight were acknowledged
acknowledged_there : (e other : End) (p : Packet) (moment : ℕ) (delivered : List Message) → Both e other → IsOf other.sent (gone_out other) (length other.delivered) p → gone_out e ≤ p.from_other + 32767 → nr_after e.channel.nr p.ns (is_none p.message) < 65536 → length e.delivered ≤ length delivered → Flows (record e { channel = received e.channel p.ns p.nr (is_none p.message) moment; delivered = delivered }) other
acknowledged_there e other p moment delivered h is recent nr more =
    let t = h.there in
    let c = e.channel in
    let n = length c.sends in
    let out = gone_out-is e other t in
    let count = acknowledged c p.nr in
    let known = t.sound.known in
    let fits = t.fits in
    let few : n ≤ 8 = omega (arith, t.sound.flying, t.sound.window) in
    let counted : count ≡ is.delivered - acked e = acknowledged_by (acked e) n is.delivered p.nr c.ns _ few (omega (arith, t.ns)) is.shown (omega (arith, is.known, t.gone)) (omega (arith, is.near)) refl in
    let within : count ≤ n = omega (arith, is.known, t.gone) in
    let left = length-drop count c.messages in
    let flying = length-drop count c.sends in
    let waits = length-drop (length (drop count c.sends)) (drop count c.messages) in
    let waits_before = length-drop n c.messages in
    let same_out : gone_out e ≡ length e.sent - length (drop (length (drop count c.sends)) (drop count c.messages)) = omega arith in
    let acked_on : acked e + count ≡ length e.sent - length (drop count c.messages) = omega arith in
    record {
      sound = record {
        window = t.sound.window;
        flying = omega (arith, t.sound.flying);
        known = omega arith;
        few = omega (arith, t.sound.few);
        ns = t.sound.ns;
        nr = nr;
      };
      fits = omega arith;
      kept = ap (drop count) t.kept ∙ drop-drop count (acked e) e.sent ∙ ap (λ k. drop k e.sent) acked_on;
      ns = t.ns ∙ ap (λ k. k % 65536) same_out;
      nr = t.nr;
      first = t.first;
      gone = omega (arith, t.gone);
      told = omega (arith, t.told, is.known);
      packets = all_on e.sent _ _ _ _ e.packets (omega arith) more t.packets;
    }

pub heard_by : (e other : End) (which moment : ℕ) (o : Option Packet) → slice_get other.packets which ≡ o → IsRecentPacket e other o → Both e other → Both (hears e o moment) other
heard_by e other which moment None found recent h = h
heard_by e other which moment (Some p) found recent h =
    let is : IsOf other.sent (gone_out other) (length other.delivered) p = one_of (IsOf other.sent (gone_out other) (length other.delivered)) other.packets which p h.back.packets found in
    let given = given_of e other p p.message h is.numbered is.counted recent.0 in
    let low : nr_after e.channel.nr p.ns (is_none p.message) < 65536 = omega (arith, given.nr_is) in
    record {
      there = acknowledged_there e other p moment _ h is recent.1 low given.more;
      back = given_back e other (hears e (Some p) moment) h given;
    }

pub heard : (e other : End) (which moment : ℕ) → IsRecentPacket e other (slice_get other.packets which) → Both e other → Both (acts e other (Hears which moment)) other
heard e other which moment recent h = heard_by e other which moment (slice_get other.packets which) refl recent h
