-- What goes out of a channel that holds control messages.
use Rattle.std.proofs.Common.{◌≡◌, ℕ, zero, suc, ◌≤◌, true, false, cond, nat_lt, Option, None, Some, List, [], ◌∷◌, ◌++◌, length, take, drop, map, option_map, option_to_list, slice_get, refl, sym, ap, subst, ◌∙◌, arith, length-append}
use Rattle.std.specs.List.{AllByRecursion}
use Rattle.std.proofs.lemmas.List.{map-append}
use Rattle.std.proofs.lemmas.Bool.Decides.{nat_tests}
use Rattle.bng_l2tp_reliable.specs.declared.outgoing.Outgoing.{Outgoing}
use Rattle.bng_l2tp_reliable.specs.ChannelState.{ChannelState, Message}
use Rattle.bng_l2tp_reliable.specs.Numbers.{steps_on}
use Rattle.bng_l2tp_reliable.specs.Calls.{numbered, next_out, after_next, flight_at, oldest_ns}
use Rattle.bng_l2tp_wire.specs.Messages.{ControlMessage, control_header, control_text}
use Rattle.bng_l2tp_wire.specs.Avps.{avps_text}
use Rattle.bng_l2tp_tunnel.specs.Outs.{datagram, with_numbers, let_out, after_out, flight_before}
use Rattle.bng_l2tp_tunnel.specs.Sound.{IsSpelled, AreSpelled, IsSentTo}

-- the three fields are filled in
pub with_numbers-control_text : (tunnel ns nr : ℕ) (m : ControlMessage) → with_numbers tunnel ns nr (control_text m) ≡ control_text (record m { tunnel = tunnel; ns = ns; nr = nr })
with_numbers-control_text tunnel ns nr m = refl

long_enough : (n : ℕ) (short long : List ℕ) → 12 ≤ n → cond (nat_lt n 12) short long ≡ long
long_enough n short long h = grind (arith, nat_tests)

header_long : (m : ControlMessage) → 12 ≤ length (control_text m)
header_long m = omega (arith, length-append (control_header m) (avps_text m.avps))

pub datagram-spelled : (tunnel : ℕ) (o : Outgoing) (m : ControlMessage) → o.message.items ≡ control_text m
    → datagram tunnel o ≡ control_text (record m { tunnel = tunnel; ns = o.ns; nr = o.nr })
unfolding datagram
datagram-spelled tunnel o m e =
    long_enough (length o.message.items) o.message.items (with_numbers tunnel o.ns o.nr o.message.items) (omega (arith, header_long m, ap length e))
    ∙ ap (with_numbers tunnel o.ns o.nr) e ∙ with_numbers-control_text tunnel o.ns o.nr m

is_sent : (tunnel : ℕ) (o : Outgoing) → IsSpelled o.message.items → IsSentTo tunnel o.nr (datagram tunnel o)
is_sent tunnel o h = record {
  message = record h.0 { tunnel = tunnel; ns = o.ns; nr = o.nr };
  text = datagram-spelled tunnel o h.0 h.1;
  tunnel_is = refl;
  nr_is = refl;
}

module _ {X : Type 0} (P : X → Type 0) where
  pub AllByRecursion-append : (xs ys : List X) → AllByRecursion P xs → AllByRecursion P ys → AllByRecursion P (xs ++ ys)
  AllByRecursion-append [] ys h k = k
  AllByRecursion-append (x ∷ xs) ys h k = (h.0, AllByRecursion-append xs ys h.1 k)

  pub AllByRecursion-drop : (n : ℕ) (xs : List X) → AllByRecursion P xs → AllByRecursion P (drop n xs)
  AllByRecursion-drop zero xs h = h
  AllByRecursion-drop (suc n) [] h = tt
  AllByRecursion-drop (suc n) (x ∷ xs) h = AllByRecursion-drop n xs h.1

  pub AllByRecursion-take : (n : ℕ) (xs : List X) → AllByRecursion P xs → AllByRecursion P (take n xs)
  AllByRecursion-take zero xs h = tt
  AllByRecursion-take (suc n) [] h = tt
  AllByRecursion-take (suc n) (x ∷ xs) h = (h.0, AllByRecursion-take n xs h.1)

  -- what is found at a place is one of them
  pub AllByRecursion-get : (xs : List X) (i : ℕ) → AllByRecursion P xs → AllByRecursion P (option_to_list (slice_get xs i))
  AllByRecursion-get [] i h = tt
  AllByRecursion-get (x ∷ xs) zero h = (h.0, tt)
  AllByRecursion-get (x ∷ xs) (suc i) h = AllByRecursion-get xs i h.1

-- a message with its number is sent, if it is there
module _ (tunnel : ℕ) (c : ChannelState) (ns : ℕ) where
  numbered_sent : (found : Option Message) → AreSpelled (option_to_list found) → AllByRecursion (IsSentTo tunnel c.nr) (map (datagram tunnel) (option_to_list (option_map (numbered c ns) found)))
  numbered_sent None h = tt
  numbered_sent (Some t) h = (is_sent tunnel (numbered c ns t) h.0, tt)

next_sent : (tunnel : ℕ) (c : ChannelState) → AreSpelled c.messages → AllByRecursion (IsSentTo tunnel c.nr) (map (datagram tunnel) (option_to_list (next_out c)))
next_sent tunnel c h =
    elim (nat_lt (length c.sends) c.window) as (λ b. AllByRecursion (IsSentTo tunnel c.nr) (map (datagram tunnel) (option_to_list (cond b (option_map (numbered c c.ns) (slice_get c.messages (length c.sends))) None))))
    [ true ↦ numbered_sent tunnel c c.ns (slice_get c.messages (length c.sends)) (AllByRecursion-get (λ (t : Message). IsSpelled t.items) c.messages (length c.sends) h) | false ↦ tt ]

after_next-keeps : (c : ChannelState) (out : Option Outgoing) → ((after_next c out).messages ≡ c.messages) × ((after_next c out).nr ≡ c.nr)
after_next-keeps c None = (refl, refl)
after_next-keeps c (Some out) = (refl, refl)

-- letting out changes neither the messages nor the number that is expected
pub after_out-keeps : (n : ℕ) (c : ChannelState) → ((after_out n c).messages ≡ c.messages) × ((after_out n c).nr ≡ c.nr)
unfolding after_out
after_out-keeps zero c = (refl, refl)
after_out-keeps (suc n) c =
    let step = after_next-keeps (after_out n c) (next_out (after_out n c)) in
    let before = after_out-keeps n c in (step.0 ∙ before.0, step.1 ∙ before.1)

module _ (tunnel : ℕ) (c : ChannelState) (h : AreSpelled c.messages) where
  one_sent : (d : ChannelState) → d.messages ≡ c.messages → d.nr ≡ c.nr → AllByRecursion (IsSentTo tunnel c.nr) (map (datagram tunnel) (option_to_list (next_out d)))
  one_sent d e f =
      subst (λ (nr : ℕ). AllByRecursion (IsSentTo tunnel nr) (map (datagram tunnel) (option_to_list (next_out d)))) f
      (next_sent tunnel d (subst (λ (ms : List Message). AreSpelled ms) (sym e) h))

  pub let_out_sent : (n : ℕ) → AllByRecursion (IsSentTo tunnel c.nr) (map (datagram tunnel) (let_out n c))
  unfolding let_out
  let_out_sent zero = tt
  let_out_sent (suc n) =
      let keeps = after_out-keeps n c in
      subst (λ (os : List (List ℕ)). AllByRecursion (IsSentTo tunnel c.nr) os) (sym (map-append (datagram tunnel) (let_out n c) (option_to_list (next_out (after_out n c)))))
      (AllByRecursion-append (IsSentTo tunnel c.nr) (map (datagram tunnel) (let_out n c)) (map (datagram tunnel) (option_to_list (next_out (after_out n c)))) (let_out_sent n) (one_sent (after_out n c) keeps.0 keeps.1))

  pub flight_sent : (n : ℕ) → AllByRecursion (IsSentTo tunnel c.nr) (map (datagram tunnel) (flight_before n c))
  unfolding flight_before
  flight_sent zero = tt
  flight_sent (suc n) =
      subst (λ (os : List (List ℕ)). AllByRecursion (IsSentTo tunnel c.nr) os) (sym (map-append (datagram tunnel) (flight_before n c) (option_to_list (flight_at c n))))
      (AllByRecursion-append (IsSentTo tunnel c.nr) (map (datagram tunnel) (flight_before n c)) (map (datagram tunnel) (option_to_list (flight_at c n))) (flight_sent n)
      (numbered_sent tunnel c (steps_on (oldest_ns c) n) (slice_get (take (length c.sends) c.messages) n) (AllByRecursion-get (λ (t : Message). IsSpelled t.items) (take (length c.sends) c.messages) n (AllByRecursion-take (λ (t : Message). IsSpelled t.items) (length c.sends) c.messages h))))
