-- The window lets out the first of the messages that wait.
use Rattle.std.proofs.Common.{◌≡◌, ℕ, zero, suc, ◌+◌, ◌<◌, ◌≤◌, Bool, true, false, cond, nat_lt, Option, None, Some, List, [], ◌∷◌, ◌++◌, length, take, drop, option_map, option_to_list, slice_get, refl, sym, ap, subst, ◌∙◌, arith, length-append}
use Rattle.std.proofs.lemmas.List.{append-nil, length-take-le}
use Rattle.std.proofs.lemmas.Option.{slice_get_within}
use Rattle.bng_l2tp_reliable.specs.declared.outgoing.Outgoing.{Outgoing}
use Rattle.bng_l2tp_reliable.specs.ChannelState.{ChannelState, Message, waiting}
use Rattle.bng_l2tp_reliable.specs.Flight.{sent_first}
use Rattle.bng_l2tp_reliable.specs.Numbers.{steps_on}
use Rattle.bng_l2tp_reliable.specs.Calls.{numbered, next_out, after_next}
use Rattle.bng_l2tp_tunnel.specs.Outs.{let_out, after_out, numbered_on, AreFirstWaiting}
use Rattle.bng_l2tp_tunnel.proofs.Texts.{after_out-keeps}

take-more : (ms : List Message) (l : ℕ) (m : Message) → slice_get ms l ≡ Some m → take (suc l) ms ≡ take l ms ++ m ∷ []
take-more [] l m e = absurd cc
take-more (x ∷ ms) zero m e = cc
take-more (x ∷ ms) (suc l) m e = ap (λ (ys : List Message). x ∷ ys) (take-more ms l m e)

slice_get-drop : (ms : List Message) (k l : ℕ) → slice_get (drop k ms) l ≡ slice_get ms (k + l)
slice_get-drop ms zero l = let e : l ≡ 0 + l = omega arith in ap (slice_get ms) e
slice_get-drop [] (suc k) l = refl
slice_get-drop (x ∷ ms) (suc k) l = let e : suc (k + l) ≡ suc k + l = omega arith in slice_get-drop ms k l ∙ ap (slice_get (x ∷ ms)) e

numbered_on-push : (c : ChannelState) (i : ℕ) (ms : List Message) (m : Message) → numbered_on c i (ms ++ m ∷ []) ≡ numbered_on c i ms ++ numbered c (steps_on c.ns (i + length ms)) m ∷ []
numbered_on-push c i [] m = let e : i ≡ i + 0 = omega arith in ap (λ (n : ℕ). numbered c (steps_on c.ns n) m ∷ []) e
numbered_on-push c i (x ∷ ms) m =
    let e : i + 1 + length ms ≡ i + suc (length ms) = omega arith in
    ap (λ (os : List Outgoing). numbered c (steps_on c.ns i) x ∷ os) (numbered_on-push c (i + 1) ms m ∙ ap (λ (n : ℕ). numbered_on c (i + 1) ms ++ numbered c (steps_on c.ns n) m ∷ []) e)

one_on : (n l : ℕ) → steps_on (steps_on n l) 1 ≡ steps_on n (l + 1)
one_on n l = omega arith

none_on : (n : ℕ) → n < 65536 → n ≡ steps_on n 0
none_on n few = omega arith

-- what was let out is the message at the place after those in flight
pub record IsNext (d : ChannelState) (o : Outgoing) : Type 0 where
  pub message : Message
  pub found : slice_get d.messages (length d.sends) ≡ Some message
  pub is : o ≡ numbered d d.ns message

module _ (d : ChannelState) (o : Outgoing) where
  from_found : (found : Option Message) → slice_get d.messages (length d.sends) ≡ found → option_map (numbered d d.ns) found ≡ Some o → IsNext d o
  from_found None e q = absurd cc
  from_found (Some m) e q = record { message = m; found = e; is = cc }

  pub next_some : next_out d ≡ Some o → IsNext d o
  next_some q =
      by (nat_lt (length d.sends) d.window) q
    where
      by : (b : Bool) → cond b (option_map (numbered d d.ns) (slice_get d.messages (length d.sends))) None ≡ Some o → IsNext d o
      by true q = from_found (slice_get d.messages (length d.sends)) refl q
      by false q = absurd cc

-- how far a channel has come that was asked so often
record ComesSoFar (c d : ChannelState) (outs : List Outgoing) : Type 0 where
  are : AreFirstWaiting c outs
  few : length outs ≤ length (waiting c)
  sends : length d.sends ≡ length c.sends + length outs
  ns : d.ns ≡ steps_on c.ns (length outs)

one_more : (c d : ChannelState) (outs : List Outgoing) (o : Option Outgoing) → d.messages ≡ c.messages → d.nr ≡ c.nr → next_out d ≡ o → ComesSoFar c d outs → ComesSoFar c (after_next d o) (outs ++ option_to_list o)
one_more c d outs None e f q h = subst (λ (os : List Outgoing). ComesSoFar c d os) (sym (append-nil outs)) h
one_more c d outs (Some o) e f q h =
    let next = next_some d o q in
    let l = length outs in
    let size : length (outs ++ o ∷ []) ≡ l + 1 = length-append outs (o ∷ []) in
    let at : slice_get (waiting c) l ≡ Some next.message =
    slice_get-drop c.messages (length c.sends) l ∙ ap (slice_get c.messages) (sym h.sends) ∙ ap (λ (ms : List Message). slice_get ms (length d.sends)) (sym e) ∙ next.found in
    let more = take-more (waiting c) l next.message at in
    let m = next.message in
    let front = numbered_on c 0 (take l (waiting c)) in
    let same : o ≡ numbered c (steps_on c.ns l) m = next.is ∙ ap (λ (n : ℕ). numbered d n m) h.ns ∙ ap (λ (r : ℕ). record { ns = steps_on c.ns l; nr = r; message = m }) f in
    let place : l ≡ 0 + length (take l (waiting c)) = omega (arith, length-take-le l (waiting c) h.few) in
    let all : suc l ≡ length (outs ++ o ∷ []) = omega (arith, size) in
    record {
      are = ap (λ (os : List Outgoing). os ++ o ∷ []) h.are ∙ ap (λ (x : Outgoing). front ++ x ∷ []) same
          ∙ ap (λ (n : ℕ). front ++ numbered c (steps_on c.ns n) m ∷ []) place ∙ sym (numbered_on-push c 0 (take l (waiting c)) m)
          ∙ ap (numbered_on c 0) (sym more) ∙ ap (λ (n : ℕ). numbered_on c 0 (take n (waiting c))) all;
      few = omega (arith, size, slice_get_within (waiting c) l next.message at);
      sends = omega (arith, size, h.sends, length-append d.sends (sent_first d.moment ∷ []));
      ns = ap (λ (n : ℕ). steps_on n 1) h.ns ∙ one_on c.ns l ∙ ap (steps_on c.ns) (sym size);
    }

comes : (n : ℕ) (c : ChannelState) → c.ns < 65536 → ComesSoFar c (after_out n c) (let_out n c)
unfolding after_out let_out
comes zero c few = record { are = refl; few = omega arith; sends = omega arith; ns = none_on c.ns few }
comes (suc n) c few =
    let keeps = after_out-keeps n c in
    one_more c (after_out n c) (let_out n c) (next_out (after_out n c)) keeps.0 keeps.1 refl (comes n c few)

pub first_waiting : (n : ℕ) (c : ChannelState) → c.ns < 65536 → AreFirstWaiting c (let_out n c)
first_waiting n c few = (comes n c few).are
