-- A term over a list of events.
use Rattle.std.proofs.Common.{◌≡◌, ℕ, ◌<◌, ◌≤◌, true, false, cond, rules, List, [], ◌∷◌, ◌++◌, All, Option, Some, IsSome, IsSomeAnd, is_some, refl, sym, ap, ◌∙◌, arith}
use mathlib.Core.Logic.{◌↔◌}
use Rattle.std.proofs.lemmas.List.Elements.{All-nil, All-cons, All-head, All-tail}
use Rattle.std.proofs.lemmas.Bool.Decides.{nat_tests}
use Rattle.bng_term.specs.declared.limits.Limits.{Limits}
use Rattle.bng_term.specs.Lifetimes.{Life, leased, cause_of, deadline_of, seen, changed, reported, seconds_after}
use Rattle.bng_term.specs.Runs.{Event, Packet, Look, Report, Change, after, cause_after, last_of, limits_in, looked, packets, Rises, IsIdle, IsAged}

pub after-look : (t : Life) (lease now : ℕ) (events : List Event) → after t lease (events ++ Look now ∷ []) ≡ looked (after t lease events) (last_of lease (packets events)) now
after-look t lease now [] = refl
after-look t lease now (Packet m ∷ events) = after-look t m now events
after-look t lease now (Look m ∷ events) = after-look (looked t lease m) lease now events
after-look t lease now (Report m ∷ events) = after-look (reported t m) lease now events
after-look t lease now (Change limits ∷ events) = after-look (changed t limits) lease now events

pub after-packet : (t : Life) (lease moment : ℕ) (events : List Event) → after t lease (events ++ Packet moment ∷ []) ≡ after t lease events
after-packet t lease moment [] = refl
after-packet t lease moment (Packet m ∷ events) = after-packet t m moment events
after-packet t lease moment (Look m ∷ events) = after-packet (looked t lease m) lease moment events
after-packet t lease moment (Report m ∷ events) = after-packet (reported t m) lease moment events
after-packet t lease moment (Change limits ∷ events) = after-packet (changed t limits) lease moment events

pub after-report : (t : Life) (lease now : ℕ) (events : List Event) → after t lease (events ++ Report now ∷ []) ≡ reported (after t lease events) now
after-report t lease now [] = refl
after-report t lease now (Packet m ∷ events) = after-report t m now events
after-report t lease now (Look m ∷ events) = after-report (looked t lease m) lease now events
after-report t lease now (Report m ∷ events) = after-report (reported t m) lease now events
after-report t lease now (Change limits ∷ events) = after-report (changed t limits) lease now events

pub after-change : (t : Life) (lease : ℕ) (others : Limits) (events : List Event) → after t lease (events ++ Change others ∷ []) ≡ changed (after t lease events) others
after-change t lease others [] = refl
after-change t lease others (Packet m ∷ events) = after-change t m others events
after-change t lease others (Look m ∷ events) = after-change (looked t lease m) lease others events
after-change t lease others (Report m ∷ events) = after-change (reported t m) lease others events
after-change t lease others (Change limits ∷ events) = after-change (changed t limits) lease others events

-- one look more, after which the term goes on, or has ended
pub goes_on : (old new t : Life) (lease passed now : ℕ) (events : List Event) (found : Option ℕ) → found ≡ cause_of old.limits old.began passed now → is_some found ≡ false
    → new ≡ seen old passed → old ≡ after t lease events → passed ≡ last_of lease (packets events) → new ≡ after t lease (events ++ Look now ∷ [])
goes_on old new t lease passed now events found is none sees at last =
    sees ∙ (ap (λ b. cond b old (seen old passed)) (sym none ∙ ap is_some is) ∙ ((λ i. looked (at i) (last i) now) ∙ sym (after-look t lease now events)))

pub ends : (old t : Life) (lease passed now : ℕ) (events : List Event) (found : Option ℕ) → found ≡ cause_of old.limits old.began passed now → is_some found ≡ true
    → old ≡ after t lease events → passed ≡ last_of lease (packets events) → old ≡ after t lease (events ++ Look now ∷ [])
ends old t lease passed now events found is some at last =
    ap (λ b. cond b old (seen old passed)) (sym some ∙ ap is_some is) ∙ ((λ i. looked (at i) (last i) now) ∙ sym (after-look t lease now events))

-- a look changes neither the limits nor the moment of the lease
limits-looked : (t : Life) (passed now : ℕ) → (looked t passed now).limits ≡ t.limits
limits-looked t passed now = elim (is_some (cause_of t.limits t.began passed now)) as (λ b. (let u : Life = cond b t (seen t passed) in u.limits) ≡ t.limits) [ true ↦ refl | false ↦ refl ]

began-looked : (t : Life) (passed now : ℕ) → (looked t passed now).began ≡ t.began
began-looked t passed now = elim (is_some (cause_of t.limits t.began passed now)) as (λ b. (let u : Life = cond b t (seen t passed) in u.began) ≡ t.began) [ true ↦ refl | false ↦ refl ]

limits-after : (t : Life) (lease : ℕ) (events : List Event) → (after t lease events).limits ≡ limits_in t.limits events
limits-after t lease [] = refl
limits-after t lease (Packet m ∷ events) = limits-after t m events
limits-after t lease (Look m ∷ events) = limits-after (looked t lease m) lease events ∙ ap (λ l. limits_in l events) (limits-looked t lease m)
limits-after t lease (Report m ∷ events) = limits-after (reported t m) lease events
limits-after t lease (Change limits ∷ events) = limits-after (changed t limits) lease events

began-after : (t : Life) (lease : ℕ) (events : List Event) → (after t lease events).began ≡ t.began
began-after t lease [] = refl
began-after t lease (Packet m ∷ events) = began-after t m events
began-after t lease (Look m ∷ events) = began-after (looked t lease m) lease events ∙ began-looked t lease m
began-after t lease (Report m ∷ events) = began-after (reported t m) lease events
began-after t lease (Change limits ∷ events) = began-after (changed t limits) lease events

-- so looks answer by the limits, the lease and the last packet
pub cause_after-is : (limits : Limits) (lease now : ℕ) (events : List Event) → cause_after limits lease events now ≡ cause_of (limits_in limits events) lease (last_of lease (packets events)) now
cause_after-is limits lease now events =
    λ i. cause_of (limits-after (leased limits lease) lease events i) (began-after (leased limits lease) lease events i) (last_of lease (packets events)) now

-- where moments never fall, no packet is later than the last
last-above : (passed floor now : ℕ) (events : List Event) → passed ≤ floor → Rises floor events now → passed ≤ last_of passed (packets events)
last-above passed floor now [] low rises = omega arith
last-above passed floor now (Packet m ∷ events) low rises = let h = last-above m m now events (omega arith) rises.1 in let f = rises.0 in omega arith
last-above passed floor now (Look m ∷ events) low rises = let f = rises.0 in last-above passed m now events (omega arith) rises.1
last-above passed floor now (Report m ∷ events) low rises = let f = rises.0 in last-above passed m now events (omega arith) rises.1
last-above passed floor now (Change limits ∷ events) low rises = last-above passed floor now events low rises

silent_since_last : (seconds passed floor now : ℕ) (events : List Event) → passed ≤ floor → Rises floor events now → seconds_after seconds (last_of passed (packets events)) ≤ now
    → All (λ m. seconds_after seconds m ≤ now) (passed ∷ packets events)
silent_since_last seconds passed floor now [] low rises over = All-cons (λ m. seconds_after seconds m ≤ now) passed [] over (All-nil (λ m. seconds_after seconds m ≤ now))
silent_since_last seconds passed floor now (Packet m ∷ events) low rises over =
    let f = rises.0 in let h = last-above m m now events (omega arith) rises.1 in
    All-cons (λ m. seconds_after seconds m ≤ now) passed (m ∷ packets events) (omega arith) (silent_since_last seconds m m now events (omega arith) rises.1 over)
silent_since_last seconds passed floor now (Look m ∷ events) low rises over = let f = rises.0 in silent_since_last seconds passed m now events (omega arith) rises.1 over
silent_since_last seconds passed floor now (Report m ∷ events) low rises over = let f = rises.0 in silent_since_last seconds passed m now events (omega arith) rises.1 over
silent_since_last seconds passed floor now (Change limits ∷ events) low rises over = silent_since_last seconds passed floor now events low rises over

last_is_among : (P : ℕ → Type 0) (first : ℕ) (ms : List ℕ) → All P (first ∷ ms) → P (last_of first ms)
last_is_among P first [] all = All-head P first [] all
last_is_among P first (m ∷ ms) all = last_is_among P m ms (All-tail P first (m ∷ ms) all)

-- the causes one by one
four : (limits : Limits) (began passed now : ℕ) → (cause_of limits began passed now ≡ Some 4) ↔ ((0 < limits.idle_timeout) × (seconds_after limits.idle_timeout passed ≤ now))
four limits began passed now = (λ h. grind (arith, nat_tests), λ h. grind (arith, nat_tests))

five : (limits : Limits) (began passed now : ℕ) → cause_of limits began passed now ≡ Some 5 → (0 < limits.session_timeout) × (seconds_after limits.session_timeout began ≤ now)
five limits began passed now h = grind (arith, nat_tests)

five_from : (limits : Limits) (began passed now : ℕ) → 0 < limits.session_timeout → seconds_after limits.session_timeout began ≤ now
    → ¬ ((0 < limits.idle_timeout) × (seconds_after limits.idle_timeout passed ≤ now)) → cause_of limits began passed now ≡ Some 5
five_from limits began passed now set over not = grind (arith, nat_tests)

pub idle_told : (limits : Limits) (lease now : ℕ) (events : List Event) → Rises lease events now → (cause_after limits lease events now ≡ Some 4) ↔ IsIdle limits lease events now
idle_told limits lease now events rises = let last : ℕ = last_of lease (packets events) in let granted : Limits = limits_in limits events in (
  λ says. let h = (four granted lease last now).0 (sym (cause_after-is limits lease now events) ∙ says) in
      record { set = h.0; silent = silent_since_last granted.idle_timeout lease lease now events (omega arith) rises h.1 },
  λ idle. cause_after-is limits lease now events ∙ (four granted lease last now).1 (idle.set, last_is_among (λ m. seconds_after granted.idle_timeout m ≤ now) lease (packets events) idle.silent),
)

pub session_told : (limits : Limits) (lease now : ℕ) (events : List Event) → Rises lease events now
    → (cause_after limits lease events now ≡ Some 5) ↔ (IsAged limits lease events now × ¬ IsIdle limits lease events now)
session_told limits lease now events rises = let last : ℕ = last_of lease (packets events) in let granted : Limits = limits_in limits events in (
  λ says. let h = five granted lease last now (sym (cause_after-is limits lease now events) ∙ says) in
      (record { set = h.0; passed = h.1 }, λ idle. let e : cause_after limits lease events now ≡ Some 4 = (idle_told limits lease now events rises).1 idle in absurd cc),
  λ aged. cause_after-is limits lease now events ∙ five_from granted lease last now aged.0.set aged.0.passed
      (λ h. aged.1 (record { set = h.0; silent = silent_since_last granted.idle_timeout lease lease now events (omega arith) rises h.1 })),
)

-- a term knows of no packet later than the last
knows_looked : (t : Life) (passed now : ℕ) → t.idle_from ≤ passed → (looked t passed now).idle_from ≤ passed
knows_looked t passed now low = elim (is_some (cause_of t.limits t.began passed now)) as (λ b. (let u : Life = cond b t (seen t passed) in u.idle_from) ≤ passed) [ true ↦ low | false ↦ omega arith ]

pub knows_no_later : (t : Life) (passed floor now : ℕ) (events : List Event) → t.idle_from ≤ passed → passed ≤ floor → Rises floor events now
    → (after t passed events).idle_from ≤ last_of passed (packets events)
knows_no_later t passed floor now [] known low rises = known
knows_no_later t passed floor now (Packet m ∷ events) known low rises = let f = rises.0 in knows_no_later t m m now events (omega arith) (omega arith) rises.1
knows_no_later t passed floor now (Look m ∷ events) known low rises = let f = rises.0 in
    knows_no_later (looked t passed m) passed m now events (knows_looked t passed m known) (omega arith) rises.1
knows_no_later t passed floor now (Report m ∷ events) known low rises = let f = rises.0 in knows_no_later (reported t m) passed m now events known (omega arith) rises.1
knows_no_later t passed floor now (Change limits ∷ events) known low rises = knows_no_later (changed t limits) passed floor now events known low rises

pub not_late : (t : Life) (passed now : ℕ) → t.idle_from ≤ passed → IsSome (cause_of t.limits t.began passed now) → IsSomeAnd (deadline_of t) (λ at. at ≤ now)
not_late t passed now low some = search rules

pub deadline_told : (limits : Limits) (lease now : ℕ) (events : List Event) → Rises lease events now → IsSome (cause_after limits lease events now)
    → IsSomeAnd (deadline_of (after (leased limits lease) lease events)) (λ at. at ≤ now)
deadline_told limits lease now events rises some =
    not_late (after (leased limits lease) lease events) (last_of lease (packets events)) now (knows_no_later (leased limits lease) lease lease now events (omega arith) (omega arith) rises) some
