-- Each act of an end that hears nothing keeps what holds of the messages in both directions.
use Rattle.std.proofs.Common.{◌≡◌, ℕ, ◌+◌, ◌-◌, ◌%◌, ◌<◌, ◌≤◌, Bool, true, false, List, [], ◌∷◌, ◌++◌, Option, Some, None, length, drop, refl, sym, ap, subst, ◌∙◌, arith, length-append, length-drop}
use Rattle.std.specs.Prelude.{nat_lt, if◌then◌else◌, option_map}
use Rattle.std.specs.List.{slice_get}
use Rattle.std.proofs.lemmas.Bool.{ltb-true}
use Rattle.std.proofs.lemmas.List.{drop-append-le, take-append-le, length-map}
use Rattle.bng_l2tp_reliable.specs.declared.answers.Queued.TheVariants.{Ok, WindowQueueFull}
use Rattle.bng_l2tp_reliable.specs.declared.answers.Due.{Due}
use Rattle.bng_l2tp_reliable.specs.declared.answers.Due.TheVariants.{Nothing, Resend, Hello, GiveUp}
use Rattle.bng_l2tp_reliable.specs.declared.outgoing.Outgoing.{Outgoing}
use Rattle.bng_l2tp_reliable.specs.Numbers.{steps_on}
use Rattle.bng_l2tp_reliable.specs.ChannelState.{ChannelState, Message, waiting, in_flight, with_window}
use Rattle.bng_l2tp_reliable.specs.Flight.{sent_first, sent_again}
use Rattle.bng_l2tp_reliable.specs.Calls.{next_out, after_next, flight_at, numbered, oldest_ns}
use Rattle.bng_l2tp_reliable.specs.Timers.{after_due, due_of}
use Rattle.bng_l2tp_reliable.specs.World.{End, Packet, acts, SetsWindow, Sends, LetsOut, SendsAgain, Acknowledges, IsDue, gone_out, with_sent, sends_out}
use Rattle.bng_l2tp_reliable.proofs.Items.{IsAt, at_place, at_dropped, at_taken}
use Rattle.bng_l2tp_reliable.proofs.Packets.{IsOf, IsNumbered, all_sent, all_on, all_and}
use Rattle.bng_l2tp_reliable.proofs.Flows.{Both, acked, gone_out-is, back_as_before}

-- The channel is as before, but for its window, its moments and for how often its messages in flight went out.
pub moved : (e other : End) (c : ChannelState) → c.window ≤ 8 → c.messages ≡ e.channel.messages → length c.sends ≡ length e.channel.sends → c.ns ≡ e.channel.ns → c.nr ≡ e.channel.nr → Both e other → Both (record e { channel = c }) other
moved e other c window messages sends ns nr h =
    let t = h.there in
    let lengths = ap length messages in
    let few = length-drop (length c.sends) c.messages in
    let few_before = length-drop (length e.channel.sends) e.channel.messages in
    let same_acked : length e.sent - length e.channel.messages ≡ length e.sent - length c.messages = omega arith in
    let same_out : length e.sent - length (waiting e.channel) ≡ length e.sent - length (waiting c) = omega arith in
    record {
      there = record {
        sound = record {
          window = window;
          flying = omega (arith, t.sound.flying);
          known = omega (arith, t.sound.known);
          few = omega (arith, t.sound.few);
          ns = omega (arith, t.sound.ns);
          nr = omega (arith, t.sound.nr);
        };
        fits = omega (arith, t.fits);
        kept = messages ∙ t.kept ∙ ap (λ n. drop n e.sent) same_acked;
        ns = ns ∙ t.ns ∙ ap (λ n. n % 65536) same_out;
        nr = t.nr;
        first = t.first;
        gone = omega (arith, t.gone);
        told = omega (arith, t.told);
        packets = all_on e.sent _ _ _ _ e.packets (omega arith) (omega arith) t.packets;
      };
      back = back_as_before e other (record e { channel = c }) nr refl h.back;
    }

-- a message is handed to the channel
sends_by : (e other : End) (message : Message) (moment : ℕ) (b : Bool) → nat_lt (length (waiting e.channel)) 64 ≡ b → Both e other → Both (record e { channel = record e.channel { messages = if b then e.channel.messages ++ message ∷ [] else e.channel.messages; moment = moment }; sent = with_sent e.sent message (if b then Ok else WindowQueueFull) }) other
sends_by e other message moment false is h = moved e other (record e.channel { moment = moment }) h.there.sound.window refl refl refl refl h
sends_by e other message moment true is h =
    let t = h.there in
    let c = e.channel in
    let room = ltb-true _ _ is in
    let more = length-append c.messages (message ∷ []) in
    let more_sent = length-append e.sent (message ∷ []) in
    let few = length-drop (length c.sends) (c.messages ++ message ∷ []) in
    let few_before = length-drop (length c.sends) c.messages in
    let fits = t.fits in
    let known = t.sound.known in
    let same_acked : length e.sent - length c.messages ≡ length (e.sent ++ message ∷ []) - length (c.messages ++ message ∷ []) = omega arith in
    let same_out : gone_out e ≡ length (e.sent ++ message ∷ []) - length (drop (length c.sends) (c.messages ++ message ∷ [])) = omega arith in
    record {
      there = record {
        sound = record {
          window = t.sound.window;
          flying = t.sound.flying;
          known = omega arith;
          few = omega arith;
          ns = t.sound.ns;
          nr = t.sound.nr;
        };
        fits = omega arith;
        kept = ap (λ xs. xs ++ message ∷ []) t.kept ∙ sym (drop-append-le (acked e) e.sent (message ∷ []) (omega arith)) ∙ ap (λ n. drop n (e.sent ++ message ∷ [])) same_acked;
        ns = t.ns ∙ ap (λ n. n % 65536) same_out;
        nr = t.nr;
        first = t.first ∙ sym (take-append-le (length other.delivered) e.sent (message ∷ []) (omega (arith, t.gone)));
        gone = omega (arith, t.gone);
        told = omega (arith, t.told);
        packets = all_sent e.sent (message ∷ []) _ _ e.packets (all_on e.sent _ _ _ _ e.packets (omega arith) (omega arith) t.packets);
      };
      back = back_as_before e other _ refl refl h.back;
    }

-- what is due is told
due_by : (e other : End) (moment : ℕ) (due : Due) → Both e other → Both (record e { channel = after_due e.channel moment due }) other
due_by e other moment Nothing h = moved e other _ h.there.sound.window refl refl refl refl h
due_by e other moment Resend h = moved e other _ h.there.sound.window refl (length-map e.channel.sends (sent_again moment)) refl refl h
due_by e other moment Hello h = moved e other _ h.there.sound.window refl refl refl refl h
due_by e other moment GiveUp h = moved e other _ h.there.sound.window refl refl refl refl h

-- A packet goes out that has the numbers of the world; the messages and the channel are as before.
packet_out : (e other : End) (p : Packet) → IsNumbered e.sent p p.message → p.from_sender ≡ gone_out e → p.from_other ≡ gone_out other → p.nr ≡ e.channel.nr → Both e other → Both (record e { packets = e.packets ++ p ∷ [] }) other
packet_out e other p number sender from_other nr h =
    let t = h.there in
    let out = gone_out-is other e h.back in
    record {
      there = record {
        sound = t.sound;
        fits = t.fits;
        kept = t.kept;
        ns = t.ns;
        nr = t.nr;
        first = t.first;
        gone = t.gone;
        told = t.told;
        packets = all_and (IsOf e.sent (gone_out e) (length e.delivered)) e.packets p t.packets (record {
          numbered = number;
          counted = omega (arith, sender);
          delivered = length e.delivered;
          shown = nr ∙ h.back.nr;
          known = omega arith;
          near = omega (arith, out, from_other, h.back.told, h.back.sound.flying, h.back.sound.window);
        });
      };
      back = back_as_before e other _ refl refl h.back;
    }

-- what a channel lets out for the first time
record IsNext (c : ChannelState) (out : Outgoing) : Type 0 where
  window : length c.sends < c.window
  ns : out.ns ≡ c.ns
  nr : out.nr ≡ c.nr
  here : IsAt c.messages (length c.sends) out.message

-- one more message counts as gone out
one_more_out : (e other : End) (out : Outgoing) → IsNext e.channel out → Both e other → Both (record e { channel = after_next e.channel (Some out) }) other
one_more_out e other out next h =
    let t = h.there in
    let c = e.channel in
    let more = length-append c.sends (sent_first c.moment ∷ []) in
    let few = length-drop (length (c.sends ++ sent_first c.moment ∷ [])) c.messages in
    let few_before = length-drop (length c.sends) c.messages in
    let within = next.here.within in
    let fits = t.fits in
    let one_more : length e.sent - length (drop (length (c.sends ++ sent_first c.moment ∷ [])) c.messages) ≡ gone_out e + 1 = omega arith in
    record {
      there = record {
        sound = record {
          window = t.sound.window;
          flying = omega (arith, next.window, t.sound.window);
          known = omega arith;
          few = omega (arith, t.sound.few);
          ns = omega arith;
          nr = t.sound.nr;
        };
        fits = t.fits;
        kept = t.kept;
        ns = omega (arith, t.ns, one_more);
        nr = t.nr;
        first = t.first;
        gone = omega (arith, t.gone);
        told = t.told;
        packets = all_on e.sent _ _ _ _ e.packets (omega arith) (omega arith) t.packets;
      };
      back = back_as_before e other _ refl refl h.back;
    }

-- the world's number of the message in flight at a place
number_at : (e other : End) (place : ℕ) (message : Message) → IsAt e.channel.messages place message → Both e other → IsAt e.sent (acked e + place) message
number_at e other place message here h =
    let P : List Message → Type 0 = λ xs. IsAt xs place message in at_dropped (acked e) e.sent place message (subst P h.there.kept here)

abbrev IsNextOf : ChannelState → Option Outgoing → Type 0
IsNextOf c None = Unit {0}
IsNextOf c (Some out) = IsNext c out

next_by : (c : ChannelState) (b : Bool) (o : Option Message) → nat_lt (length c.sends) c.window ≡ b → slice_get c.messages (length c.sends) ≡ o → IsNextOf c (if b then option_map (numbered c c.ns) o else None)
next_by c false o is found = tt
next_by c true None is found = tt
next_by c true (Some message) is found = record { window = ltb-true _ _ is; ns = refl; nr = refl; here = at_place c.messages (length c.sends) message found }

-- the next message that the window lets out goes out
lets_out_by : (e other : End) (out : Option Outgoing) → IsNextOf e.channel out → Both e other → Both (sends_out e other (after_next e.channel out) out) other
lets_out_by e other None next h = h
lets_out_by e other (Some out) next h =
    let c = e.channel in
    let after : End = record e { channel = after_next c (Some out) } in
    let number = gone_out-is e other h.there in
    let more = length-append c.sends (sent_first c.moment ∷ []) in
    let few = length-drop (length (c.sends ++ sent_first c.moment ∷ [])) c.messages in
    let within = next.here.within in
    let fits = h.there.fits in
    let one_more : gone_out after ≡ gone_out e + 1 = omega (arith, length-drop (length c.sends) c.messages) in
    let P : ℕ → Type 0 = λ n. IsAt e.sent n out.message in
    packet_out after other _ (record {
      number = gone_out e;
      shown = next.ns ∙ h.there.ns;
      here = subst P (sym number) (number_at e other (length c.sends) out.message next.here h);
      gone = omega arith;
      late = omega arith;
    }) refl refl next.nr (one_more_out e other out next h)

-- what a channel lets out again
pub record IsAgain (c : ChannelState) (place : ℕ) (out : Outgoing) : Type 0 where
  pub below : place < length c.sends
  pub ns : out.ns ≡ steps_on (oldest_ns c) place
  pub nr : out.nr ≡ c.nr
  pub here : IsAt c.messages place out.message

abbrev pub IsAgainOf : ChannelState → ℕ → Option Outgoing → Type 0
IsAgainOf c place None = Unit {0}
IsAgainOf c place (Some out) = IsAgain c place out

pub again_by : (c : ChannelState) (place : ℕ) (o : Option Message) → slice_get (in_flight c) place ≡ o → IsAgainOf c place (option_map (numbered c (steps_on (oldest_ns c) place)) o)
again_by c place None found = tt
again_by c place (Some message) found =
    let taken = at_taken (length c.sends) c.messages place message (at_place (in_flight c) place message found) in
    record { below = taken.0; ns = refl; nr = refl; here = taken.1 }

-- a message in flight goes out again
pub sends_again_by : (e other : End) (place : ℕ) (out : Option Outgoing) → IsAgainOf e.channel place out → Both e other → Both (sends_out e other e.channel out) other
sends_again_by e other place None again h = h
sends_again_by e other place (Some out) again h =
    let number = gone_out-is e other h.there in
    packet_out e other _ (record {
      number = acked e + place;
      shown = again.ns ∙ omega (arith, number, h.there.ns, again.below, h.there.sound.flying, h.there.sound.window);
      here = number_at e other place out.message again.here h;
      gone = omega (arith, again.below);
      late = omega (arith, h.there.sound.flying, h.there.sound.window);
    }) refl refl again.nr h

pub sets_window : (e other : End) (window : ℕ) → Both e other → Both (acts e other (SetsWindow window)) other
sets_window e other window h = moved e other (with_window e.channel window) (omega arith) refl refl refl refl h

pub sends : (e other : End) (message : Message) (moment : ℕ) → Both e other → Both (acts e other (Sends message moment)) other
sends e other message moment h = sends_by e other message moment (nat_lt (length (waiting e.channel)) 64) refl h

pub lets_out : (e other : End) → Both e other → Both (acts e other LetsOut) other
lets_out e other h = lets_out_by e other (next_out e.channel) (next_by e.channel _ _ refl refl) h

pub sends_again : (e other : End) (place : ℕ) → Both e other → Both (acts e other (SendsAgain place)) other
sends_again e other place h = sends_again_by e other place (flight_at e.channel place) (again_by e.channel place _ refl) h

pub acknowledges : (e other : End) → Both e other → Both (acts e other Acknowledges) other
acknowledges e other h = packet_out e other _ tt refl refl refl h

pub is_due : (e other : End) (moment : ℕ) → Both e other → Both (acts e other (IsDue moment)) other
is_due e other moment h = due_by e other moment (due_of e.channel moment) h
