-- What holds at any moment of the messages from one end to the other.
use Rattle.std.proofs.Common.{◌≡◌, ℕ, ◌+◌, ◌-◌, ◌%◌, ◌≤◌, List, ◌++◌, length, take, drop, refl, sym, ap, subst, ◌∙◌, arith, length-drop, take-add}
use Rattle.std.specs.List.{AllByRecursion}
use Rattle.std.proofs.lemmas.List.{take-append-drop}
use Rattle.bng_l2tp_reliable.specs.ChannelState.{Message, IsChannel}
use Rattle.bng_l2tp_reliable.specs.World.{End, gone_out, new_end, IsReliable}
use Rattle.bng_l2tp_reliable.proofs.Packets.{IsOf}

-- how many messages count as acknowledged
abbrev pub acked : End → ℕ
acked e = length e.sent - length e.channel.messages

pub record Flows (e other : End) : Type 0 where
  pub sound : IsChannel e.channel
  -- the channel keeps the messages that do not count as acknowledged
  pub fits : length e.channel.messages ≤ length e.sent
  pub kept : e.channel.messages ≡ drop (acked e) e.sent
  -- the numbers of the two channels are those of the world, modulo 65,536
  pub ns : e.channel.ns ≡ gone_out e % 65536
  pub nr : other.channel.nr ≡ length other.delivered % 65536
  -- the other end was given the first messages that went out
  pub first : other.delivered ≡ take (length other.delivered) e.sent
  pub gone : length other.delivered ≤ gone_out e
  pub told : acked e ≤ length other.delivered
  pub packets : AllByRecursion (IsOf e.sent (gone_out e) (length e.delivered)) e.packets

-- of both directions
pub record Both (e other : End) : Type 0 where
  pub there : Flows e other
  pub back : Flows other e

pub turned : (e other : End) → Both e other → Both other e
turned e other h = record { there = h.back; back = h.there }

-- how many messages have gone out: those acknowledged, and those in flight
pub gone_out-is : (e other : End) → Flows e other → gone_out e ≡ acked e + length e.channel.sends
gone_out-is e other h = omega (arith, length-drop (length e.channel.sends) e.channel.messages, h.sound.known, h.fits)

pub new : (window window' moment moment' : ℕ) → Flows (new_end window moment) (new_end window' moment')
new window window' moment moment' = record {
  sound = record { window = omega arith; flying = omega arith; known = omega arith; few = omega arith; ns = omega arith; nr = omega arith };
  fits = omega arith;
  kept = refl;
  ns = refl;
  nr = refl;
  first = refl;
  gone = omega arith;
  told = omega arith;
  packets = tt;
}

pub reliable : (e other : End) → Flows e other → IsReliable e other
reliable e other h =
    let n = length other.delivered in
    let whole = take-append-drop n e.sent in
    record {
      in_order = (drop n e.sent, ap (λ xs. xs ++ drop n e.sent) h.first ∙ whole);
      acknowledged = (take (n - acked e) (drop (acked e) e.sent), sym (take-add (acked e) (n - acked e) e.sent) ∙ ap (λ k. take k e.sent) (omega (arith, h.told)) ∙ sym h.first);
    }

-- Where an end acts and is given no message, what comes to it is as before.
pub back_as_before : (e other e' : End) → e'.channel.nr ≡ e.channel.nr → e'.delivered ≡ e.delivered → Flows other e → Flows other e'
back_as_before e other e' nr delivered b = record {
  sound = b.sound;
  fits = b.fits;
  kept = b.kept;
  ns = b.ns;
  nr = nr ∙ b.nr ∙ ap (λ xs. length xs % 65536) (sym delivered);
  first = let P : List Message → Type 0 = λ xs. xs ≡ take (length xs) other.sent in subst P (sym delivered) b.first;
  gone = omega (arith, b.gone, ap length delivered);
  told = omega (arith, b.told, ap length delivered);
  packets = b.packets;
}
