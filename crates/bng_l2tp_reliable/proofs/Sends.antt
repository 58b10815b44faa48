-- Lists of what was sent, entry by entry.
use Rattle.std.proofs.Common.{◌≡◌, ℕ, zero, suc, ◌+◌, ◌<◌, ◌≤◌, Bool, true, false, List, [], ◌∷◌, ◌++◌, length, get_or, take, drop, set, map, refl, ap, subst, sym, ◌∙◌, arith, length-drop, get_or-drop}
use Rattle.std.specs.Prelude.{◌↔◌, nat_lt, unwrap_or, if◌then◌else◌}
use Rattle.std.specs.List.{AllPairs, Any}
use Rattle.std.proofs.lemmas.Bool.{leb-true, le-leb, ltb-false, le-ltb}
use Rattle.std.proofs.lemmas.List.{take_more, take_more_set, drop_more, drop-set-lt, map-append, length-map, get_or-map}
use Rattle.std.proofs.lemmas.List.Quantifiers.{all_pairs_push}
use Rattle.std.proofs.lemmas.Option.{slice_get_past}
use Rattle.bng_l2tp_reliable.specs.declared.sent.Sent.{Sent}
use Rattle.bng_l2tp_reliable.specs.declared.answers.Due.{Due}
use Rattle.bng_l2tp_reliable.specs.declared.answers.Due.TheVariants.{Nothing, Resend, Hello, GiveUp}
use Rattle.bng_l2tp_reliable.specs.ChannelState.{ChannelState}
use Rattle.bng_l2tp_reliable.specs.Timers.{or_else, due_of}
use Rattle.bng_l2tp_reliable.specs.Flight.{IsOlder, IsUnanswered, sent_first, sent_again, flight_due, waits, wait, is_over}

-- one entry more is mapped in place
pub mapped_more : {A : Type 0} (f : A → A) (xs ys : List A) (i : ℕ) (d y : A) → i < length xs → i < length ys → take i xs ≡ map f (take i ys) → drop i xs ≡ drop i ys → y ≡ f (get_or xs i d) → (take (i + 1) (set xs i y) ≡ map f (take (i + 1) ys)) × (drop (i + 1) (set xs i y) ≡ drop (i + 1) ys)
mapped_more f xs ys i d y in_xs in_ys done rest new =
    let from_xs = drop_more xs i d in_xs in
    let from_ys = drop_more ys i d in_ys in
    let same : get_or xs i d ≡ get_or ys i d = cc in
    let tails : drop (i + 1) xs ≡ drop (i + 1) ys = cc in
    let written = take_more_set xs i y in_xs in
    let taken = ap (map f) (take_more ys i d in_ys) in
    let joined = map-append f (take i ys) (get_or ys i d ∷ []) in
    (cc, drop-set-lt (i + 1) xs i y (omega arith) ∙ tails)

-- Older entries stay older than the younger ones: where the oldest are forgotten,
pub pairs_dropped : (n : ℕ) (xs ys : List Sent) → ys ≡ drop n xs → AllPairs IsOlder xs → AllPairs IsOlder ys
pairs_dropped n xs ys is h =
    subst (AllPairs IsOlder) (sym is) (λ i j d before within.
    rw (get_or-drop n xs i d, get_or-drop n xs j d) (h (n + i) (n + j) d (omega arith) (omega (arith, length-drop n xs))))

-- where another goes out for the first time,
pub pairs_pushed : (moment : ℕ) (xs ys : List Sent) → ys ≡ xs ++ sent_first moment ∷ [] → AllPairs IsOlder xs → AllPairs IsOlder ys
pairs_pushed moment xs ys is h =
    subst (AllPairs IsOlder) (sym is) (all_pairs_push IsOlder xs (sent_first moment) h (λ k d within. record { resends = omega arith; together = λ again. absurd (omega arith) }))

-- and where all go out again.
pub pairs_again : (moment : ℕ) (xs ys : List Sent) → ys ≡ map (sent_again moment) xs → AllPairs IsOlder xs → AllPairs IsOlder ys
pairs_again moment xs ys is h =
    subst (AllPairs IsOlder) (sym is) (λ i j d before within.
    let in_xs : j < length xs = omega (arith, length-map xs (sent_again moment)) in
    let fewer = (h i j d before in_xs).resends in
    rw (get_or-map (sent_again moment) xs i d d (omega arith), get_or-map (sent_again moment) xs j d d in_xs) (record { resends = omega arith; together = λ again. refl }))

-- after the fifth time
wait_last : (n : ℕ) → 5 ≤ n → wait n ≡ 8000
wait_last n late = ap (λ o. unwrap_or o 8000) (slice_get_past waits n late)

both_tests : (over few : Bool) → (if over then (if few then Resend else GiveUp) else Nothing) ≡ GiveUp → (over ≡ true) × (few ≡ false)
both_tests false few is = cc
both_tests true true is = cc
both_tests true false is = (refl, refl)

tests_of : (over few : Bool) → over ≡ true → few ≡ false → (if over then (if few then Resend else GiveUp) else Nothing) ≡ GiveUp
tests_of over few is_over is_late = rw (is_over, is_late) refl

-- where some message is unanswered, the oldest is
oldest_too : (moment : ℕ) (oldest : Sent) (others : List Sent) (k : ℕ) (x : Sent) → AllPairs IsOlder (oldest ∷ others) → k < length (oldest ∷ others) → get_or (oldest ∷ others) k x ≡ x → IsUnanswered moment x → IsUnanswered moment oldest
oldest_too moment oldest others zero x h within here late = subst (IsUnanswered moment) (sym here) late
oldest_too moment oldest others (suc k) x h within here late =
    let P : Sent → Type 0 = λ young. IsOlder oldest young in
    let older = subst P here (h 0 (suc k) x (omega arith) within) in
    (omega (arith, older.resends), omega (arith, older.together (omega arith)))

-- The oldest is to be given up exactly where some message is unanswered.
pub given_up : (moment : ℕ) (xs : List Sent) → AllPairs IsOlder xs → (flight_due xs moment ≡ GiveUp) ↔ Any (IsUnanswered moment) xs
given_up moment [] h = (λ is. cc, λ any. absurd (omega (arith, any.2)))
given_up moment (oldest ∷ others) h = (
  λ is.
      let tests = both_tests (is_over oldest moment) (nat_lt oldest.resends 5) is in
      let late = ltb-false oldest.resends 5 tests.1 in
      let over = leb-true (oldest.moment + wait oldest.resends) moment tests.0 in
      (0, oldest, omega arith, refl, (late, omega (arith, wait_last oldest.resends late))),
  λ any.
      let late = oldest_too moment oldest others any.0 any.1 h any.2 any.3 any.4 in
      let over : is_over oldest moment ≡ true = le-leb _ _ (omega (arith, wait_last oldest.resends late.0)) in
      let few : nat_lt oldest.resends 5 ≡ false = le-ltb _ _ late.0 in
      tests_of _ _ over few,
)

-- a silence never asks to give up
only_flight : (flight : Due) (silent : Bool) → (or_else flight (if silent then Hello else Nothing) ≡ GiveUp) ↔ (flight ≡ GiveUp)
only_flight Nothing true = (λ is. cc, λ is. cc)
only_flight Nothing false = (λ is. cc, λ is. cc)
only_flight Resend silent = (λ is. cc, λ is. cc)
only_flight Hello silent = (λ is. cc, λ is. cc)
only_flight GiveUp silent = (λ is. refl, λ is. refl)

-- The channel is given up exactly where some message is unanswered.
pub channel_given_up : (c : ChannelState) (moment : ℕ) → AllPairs IsOlder c.sends → (due_of c moment ≡ GiveUp) ↔ Any (IsUnanswered moment) c.sends
channel_given_up c moment h =
    let alone = only_flight (flight_due c.sends moment) _ in
    let flight = given_up moment c.sends h in
    (λ is. flight.0 (alone.0 is), λ any. alone.1 (flight.1 any))
