-- What the packets that went out from an end say of it.
use Rattle.std.proofs.Common.{◌≡◌, ℕ, zero, suc, subst, ◌+◌, ◌%◌, ◌<◌, ◌≤◌, List, [], ◌∷◌, ◌++◌, Option, Some, None, arith}
use Rattle.std.specs.List.{slice_get, AllByRecursion}
use Rattle.bng_l2tp_reliable.specs.ChannelState.{Message}
use Rattle.bng_l2tp_reliable.specs.World.{Packet}
use Rattle.bng_l2tp_reliable.proofs.Items.{IsAt, at_front}

-- the number of the packet's message, counted without end
pub record HasNumber (sent : List Message) (p : Packet) (message : Message) : Type 0 where
  pub number : ℕ
  pub shown : p.ns ≡ number % 65536
  pub here : IsAt sent number message
  pub gone : number < p.from_sender
  pub late : p.from_sender ≤ number + 8

-- its Ns is the number of its message, if it has one
abbrev pub IsNumbered : List Message → Packet → Option Message → Type 0
IsNumbered sent p None = Unit {0}
IsNumbered sent p (Some message) = HasNumber sent p message

-- The packet went out from an end that has sent these messages, of which so many have gone out, and to which so many were delivered.
pub record IsOf (sent : List Message) (out got : ℕ) (p : Packet) : Type 0 where
  pub numbered : IsNumbered sent p p.message
  pub counted : p.from_sender ≤ out
  -- how many messages had been delivered to the end
  pub delivered : ℕ
  pub shown : p.nr ≡ delivered % 65536
  pub known : delivered ≤ got
  pub near : p.from_other ≤ delivered + 8

-- more was sent
numbered_on : (sent more : List Message) (p : Packet) (message : Option Message) → IsNumbered sent p message → IsNumbered (sent ++ more) p message
numbered_on sent more p None h = tt
numbered_on sent more p (Some message) h = record {
  number = h.number;
  shown = h.shown;
  here = at_front sent more h.number message h.here;
  gone = h.gone;
  late = h.late;
}

pub all_sent : (sent more : List Message) (out got : ℕ) (ps : List Packet) → AllByRecursion (IsOf sent out got) ps → AllByRecursion (IsOf (sent ++ more) out got) ps
all_sent sent more out got [] h = tt
all_sent sent more out got (p ∷ ps) h = (
  record {
    numbered = numbered_on sent more p p.message h.0.numbered;
    counted = h.0.counted;
    delivered = h.0.delivered;
    shown = h.0.shown;
    known = h.0.known;
    near = h.0.near;
  },
  all_sent sent more out got ps h.1,
)

-- more went out, or was delivered
pub all_on : (sent : List Message) (out out' got got' : ℕ) (ps : List Packet) → out ≤ out' → got ≤ got' → AllByRecursion (IsOf sent out got) ps → AllByRecursion (IsOf sent out' got') ps
all_on sent out out' got got' [] more_out more_got h = tt
all_on sent out out' got got' (p ∷ ps) more_out more_got h = (
  record {
    numbered = h.0.numbered;
    counted = omega (arith, h.0.counted);
    delivered = h.0.delivered;
    shown = h.0.shown;
    known = omega (arith, h.0.known);
    near = h.0.near;
  },
  all_on sent out out' got got' ps more_out more_got h.1,
)

-- one packet more
pub all_and : (P : Packet → Type 0) (ps : List Packet) (p : Packet) → AllByRecursion P ps → P p → AllByRecursion P (ps ++ p ∷ [])
all_and P [] p h last = (last, tt)
all_and P (q ∷ ps) p h last = (h.0, all_and P ps p h.1 last)

-- of what holds of each, at one of them
pub one_of : (P : Packet → Type 0) (ps : List Packet) (i : ℕ) (p : Packet) → AllByRecursion P ps → slice_get ps i ≡ Some p → P p
one_of P [] i p h found = cc
one_of P (q ∷ ps) zero p h found = let same : q ≡ p = cc in subst P same h.0
one_of P (q ∷ ps) (suc i) p h found = one_of P ps i p h.1 found
