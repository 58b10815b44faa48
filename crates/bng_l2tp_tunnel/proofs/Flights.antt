-- The messages that a channel lets out, and those in flight, one more at a time.
use Rattle.std.proofs.Common.{◌≡◌, ◌≤◌, ◌+◌, ◌++◌, ℕ, zero, suc, Option, None, Some, List, [], ◌∷◌, length, map, option_to_list, refl, sym, ap, subst, ◌∙◌, inl, inr, ◌⊎◌, arith, add-one, length-append, cond, nat_lt, slice_get, option_map}
use Rattle.std.proofs.lemmas.Bool.Decides.{nat_tests}
use Rattle.std.proofs.lemmas.List.{map-append}
use Rattle.bng_l2tp_reliable.specs.declared.outgoing.Outgoing.{Outgoing}
use Rattle.bng_l2tp_reliable.specs.declared.sent.Sent.{Sent}
use Rattle.bng_l2tp_reliable.specs.ChannelState.{ChannelState}
use Rattle.bng_l2tp_reliable.specs.Calls.{numbered, next_out, after_next, flight_at}
use Rattle.bng_base.specs.Packet.{Packet}
use Rattle.bng_l2tp_wire.specs.View.{payloads}
use Rattle.bng_l2tp_tunnel.specs.Outs.{datagram, let_out, after_out, flight_before}

pub after_out-none : (c : ChannelState) → after_out 0 c ≡ c
unfolding after_out
after_out-none c = refl

pub after_out-next : (n : ℕ) (c : ChannelState) → after_out (n + 1) c ≡ after_next (after_out n c) (next_out (after_out n c))
unfolding after_out
after_out-next n c = rw add-one

pub let_out-none : (c : ChannelState) → let_out 0 c ≡ []
unfolding let_out
let_out-none c = refl

let_out-next : (n : ℕ) (c : ChannelState) → let_out (n + 1) c ≡ let_out n c ++ option_to_list (next_out (after_out n c))
unfolding let_out
let_out-next n c = rw add-one

pub flight_before-none : (c : ChannelState) → flight_before 0 c ≡ []
unfolding flight_before
flight_before-none c = refl

flight_before-next : (n : ℕ) (c : ChannelState) → flight_before (n + 1) c ≡ flight_before n c ++ option_to_list (flight_at c n)
unfolding flight_before
flight_before-next n c = rw add-one

no_room : (sends window : ℕ) (out : Option Outgoing) → window ≤ sends → cond (nat_lt sends window) out None ≡ None
no_room sends window out full = grind (arith, nat_tests)

module _ (tunnel : ℕ) (c : ChannelState) (n : ℕ) where
  -- the datagrams of one message more
  pub more_out : (before after : List (List ℕ)) (out : Option Outgoing) → before ≡ map (datagram tunnel) (let_out n c) → out ≡ next_out (after_out n c)
      → after ≡ before ++ map (datagram tunnel) (option_to_list out) → after ≡ map (datagram tunnel) (let_out (n + 1) c)
  more_out before after out e f g =
      let step = ap (map (datagram tunnel)) (let_out-next n c) ∙ map-append (datagram tunnel) (let_out n c) (option_to_list (next_out (after_out n c))) in cc

  pub more_flight : (before after : List (List ℕ)) (out : Option Outgoing) → before ≡ map (datagram tunnel) (flight_before n c) → out ≡ flight_at c n
      → after ≡ before ++ map (datagram tunnel) (option_to_list out) → after ≡ map (datagram tunnel) (flight_before (n + 1) c)
  more_flight before after out e f g =
      let step = ap (map (datagram tunnel)) (flight_before-next n c) ∙ map-append (datagram tunnel) (flight_before n c) (option_to_list (flight_at c n)) in cc

-- nothing is left to let out, or one message more is in flight
pub goes_on : (n : ℕ) (c d : ChannelState) (out : Option Outgoing) → out ≡ next_out c → d ≡ after_next c out → (next_out c ≡ None) ⊎ (n ≤ length c.sends)
    → (next_out d ≡ None) ⊎ (n + 1 ≤ length d.sends)
goes_on n c d None e f h = inl (ap next_out f ∙ sym e)
goes_on n c d (Some out) e f (inl none) = absurd (let no = sym none ∙ sym e in cc)
goes_on n c d (Some out) e f (inr few) = inr (omega (arith, ap (λ (x : ChannelState). length x.sends) f, few, length-append {A = Sent}))

-- a full window lets out none
pub full_window : (n : ℕ) (c : ChannelState) → c.window ≤ 8 → 8 ≤ n → (next_out c ≡ None) ⊎ (n ≤ length c.sends) → next_out c ≡ None
full_window n c few all (inl none) = none
full_window n c few all (inr many) = no_room (length c.sends) c.window (option_map (numbered c c.ns) (slice_get c.messages (length c.sends))) (omega arith)

after_next-window : (c : ChannelState) (out : Option Outgoing) → (after_next c out).window ≡ c.window
after_next-window c None = refl
after_next-window c (Some out) = refl

pub after_out-window : (n : ℕ) (c : ChannelState) → (after_out n c).window ≡ c.window
unfolding after_out
after_out-window zero c = refl
after_out-window (suc n) c = after_next-window (after_out n c) (next_out (after_out n c)) ∙ after_out-window n c

goes_so_far : (n : ℕ) (c : ChannelState) → (next_out (after_out n c) ≡ None) ⊎ (n ≤ length (after_out n c).sends)
unfolding after_out
goes_so_far zero c = inr (omega arith)
goes_so_far (suc n) c =
    let P : ℕ → Type 0 = λ k. (next_out (after_next (after_out n c) (next_out (after_out n c))) ≡ None) ⊎ (k ≤ length (after_next (after_out n c) (next_out (after_out n c))).sends) in
    subst P (add-one n) (goes_on n (after_out n c) (after_next (after_out n c) (next_out (after_out n c))) (next_out (after_out n c)) refl refl (goes_so_far n c))

-- after so many the window lets out none
pub drained : (c : ChannelState) → c.window ≤ 8 → next_out (after_out 8 c) ≡ None
drained c few = full_window 8 (after_out 8 c) (omega (arith, after_out-window 8 c)) (omega arith) (goes_so_far 8 c)

-- the octets of one datagram more
pub payloads-push : (before after : List Packet) (last : Packet) (octets : List ℕ) → after ≡ before ++ last ∷ [] → last.payload ≡ octets → payloads after ≡ payloads before ++ octets ∷ []
payloads-push before after last octets e f =
    ap payloads e ∙ map-append (λ (p : Packet). p.payload) before (last ∷ []) ∙ ap (λ (o : List ℕ). payloads before ++ o ∷ []) f
