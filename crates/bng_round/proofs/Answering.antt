-- What the answers of the words say of a shard's seat.
use Rattle.std.proofs.Common.{◌≡◌, ℕ, zero, suc, ◌+◌, ◌-◌, ◌<◌, ◌==◌, ◌&&◌, ⊎_elim, Bool, true, List, [], ◌∷◌, length, slice_get, Some, None, sym, refl, ap, ◌∙◌, subst, arith}
use Rattle.bng_base.specs.declared.address.Ip4.{Ip4}
use Rattle.bng_base.specs.declared.book.Range.{Range}
use Rattle.bng_base.specs.declared.item.Claim.{Claim}
use Rattle.bng_base.specs.declared.item.Claim.TheVariants.{Claimed, Exhausted}
use Rattle.bng_base.specs.Ranges.{InRange}
use Rattle.bng_pool.specs.Seats.{SeatView, Note, Notes, IsInRound, AgreesWith, Claims, Looks, Scans, claim_answer, holder_in, claimed_at, looked_at, passed_over, notes_now, notes_after}
use Rattle.bng_pool.proofs.Scanning.{notes_stay}
use Rattle.bng_base.specs.declared.item.Claim.TheVariants.{NoClaim, Held}
use Rattle.bng_base.specs.declared.settings.NamedRange.{NamedRange}
use Rattle.bng_pool.specs.Ranges.{HasAddress}
use Rattle.bng_pool.specs.Seats.{LookSays}
use Rattle.bng_round.specs.Asking.{Goes, Asks, IsAskedFor, HasPools}
use Rattle.bng_steps.specs.declared.wish.Wish.{Wish}
use Rattle.bng_steps.specs.declared.wish.Wish.TheVariants.{Nothing, Address, Pool}
use Rattle.bng_steps.specs.Wished.{MayWish}
use Rattle.bng_steps.specs.Wishes.{IsAnswerTo, is_within}
use Rattle.std.proofs.Common.{Option, ◌⊎◌, inl, inr, ◌||◌, false, nat_le}
use Rattle.std.proofs.lemmas.Bool.{false≢true}
use Rattle.std.proofs.lemmas.Bool.Decides.{nat_tests}
use Rattle.std.specs.List.{list_any}

some_at : {A : Type 0} (xs : List A) (i : ℕ) → i < length xs → (x : A) × (slice_get xs i ≡ Some x)
some_at [] i low = absurd (omega (arith, low))
some_at (x ∷ xs) zero low = (x, refl)
some_at (x ∷ xs) (suc i) low = some_at xs i (omega (arith, low))

-- a seat in a round notes what it finds
round_notes : (q : SeatView) → IsInRound q → notes_now q.full q.phase ≡ true
round_notes q r = λ i. (r.1 i) && ((r.0 i) == 0)

noted_now : (may : Bool) (a w p : ℕ) (notes : List Note) → may ≡ true → Notes (notes_after may a (suc w) p notes) a w p
noted_now may a w p notes e = subst (λ b. Notes (notes_after b a (suc w) p notes) a w p) (sym e) (0, refl)

pub goes_same : (q : SeatView) → Goes q q
goes_same q = record { pool = refl; number = refl; phase = refl; full = refl; notes = λ a k p n. n }

pub goes_on : (q r s : SeatView) → Goes q r → Goes r s → Goes q s
goes_on q r s f g = record { pool = g.pool ∙ f.pool; number = g.number ∙ f.number; phase = g.phase ∙ f.phase; full = g.full ∙ f.full; notes = λ a k p n. g.notes a k p (f.notes a k p n) }

claims_by : (a : Ip4) (word : ℕ) (q : SeatView) → IsInRound q → AgreesWith q a.0 word → Asks (claim_answer a word) q (claimed_at q a.0 word)
claims_by a zero q round agrees = record {
  goes = record { pool = refl; number = refl; phase = refl; full = refl; notes = λ b k p n. n };
  held = refl;
  free = λ h. let e = agrees.mine h in omega arith;
  unnoted = λ k n. let e = agrees.noted k n in omega arith;
}
claims_by a (suc w) q round agrees = (
  record {
    goes = record { pool = refl; number = refl; phase = refl; full = refl; notes = λ b k p n. notes_stay (notes_now q.full q.phase) a.0 (suc w) q.phase q.notes b k p n };
    held = refl;
  },
  (w, (let low = agrees.shard in omega arith), noted_now (notes_now q.full q.phase) a.0 w q.phase q.notes (round_notes q round)),
)

pub claims_ask : (a : Ip4) (answer : Claim) (q q' : SeatView) → IsInRound q → Claims a answer q q' → Asks answer q q'
claims_ask a answer q q' round c = subst (λ (z : Claim × SeatView). Asks z.0 q z.1) (λ i. (sym c.answered i, sym c.left i)) (claims_by a c.word q round c.agrees)

look_goes : (q : SeatView) (a w : ℕ) → Goes q (looked_at q a w)
look_goes q a w = record { pool = refl; number = refl; phase = refl; full = refl; notes = λ b k p n. notes_stay (notes_now q.full q.phase) a w q.phase q.notes b k p n }

pass_goes : (q : SeatView) (a : ℕ) (ws : List ℕ) → Goes q (passed_over q a ws)
pass_goes q a [] = goes_same q
pass_goes q a (w ∷ ws) = goes_on q (looked_at q a w) (passed_over (looked_at q a w) (suc a) ws) (look_goes q a w) (pass_goes (looked_at q a w) (suc a) ws)

pass_held : (q : SeatView) (a : ℕ) (ws : List ℕ) → (passed_over q a ws).held ≡ q.held
pass_held q a [] = refl
pass_held q a (w ∷ ws) = pass_held (looked_at q a w) (suc a) ws

-- each word that a scan passed is noted
pass_notes : (q : SeatView) (a : ℕ) (ws : List ℕ) (i w : ℕ) → IsInRound q → slice_get ws i ≡ Some (suc w) → (b : ℕ) → b ≡ a + i → Notes (passed_over q a ws).notes b w q.phase
pass_notes q a [] i w round e b at = absurd (cc)
pass_notes q a (v ∷ ws) zero w round e b at =
    let is : v ≡ suc w = cc in let here : b ≡ a = omega (arith, at) in
    let first : Notes (looked_at q a v).notes b w q.phase = subst (λ (z : ℕ × ℕ). Notes (looked_at q z.0 z.1).notes b w q.phase) (λ j. (here j, sym is j)) (noted_now (notes_now q.full q.phase) b w q.phase q.notes (round_notes q round)) in
    (pass_goes (looked_at q a v) (suc a) ws).notes b w q.phase first
pass_notes q a (v ∷ ws) (suc i) w round e b at = pass_notes (looked_at q a v) (suc a) ws i w round e b (omega (arith, at))

above_none : (w : ℕ) → 0 < w → (k : ℕ) × (w ≡ suc k)
above_none zero some = absurd (omega (arith, some))
above_none (suc k) some = (k, refl)

same_range : (ranges : List Range) (n : ℕ) (r s : Range) → slice_get ranges n ≡ Some r → slice_get ranges n ≡ Some s → r ≡ s
same_range ranges n r s e f = let both : Some r ≡ Some s = sym e ∙ f in cc

pub scans_ask : (r : Range) (n : ℕ) (answer : Claim) (q q' : SeatView) → IsInRound q → slice_get q.pool.ranges n ≡ Some r → Scans r n answer q q' → Asks answer q q'
scans_ask r n answer q q' round at s = let ws : List ℕ = s.words in ⊎_elim
    (λ h.
    let all : Asks (Exhausted n) q (passed_over q r.first.0 ws) = (
      record { goes = pass_goes q r.first.0 ws; held = pass_held q r.first.0 ws },
      λ r' at' a within.
          let is : r' ≡ r = same_range q.pool.ranges n r' r at' at in
          let inside : InRange r a = subst (λ z. InRange z a) is within in
          let i : ℕ = a - r.first.0 in
          let low : i < length ws = omega (arith, h.0, inside.0, inside.1) in
          let w = some_at ws i low in let t = s.taken i w.0 w.1 in let k = above_none w.0 t.0 in
          let here : a ≡ r.first.0 + i = omega (arith, inside.0) in (
            k.0,
            (let few = t.1.shard in let same = k.1 in let shards : k.0 < q.pool.shards = omega arith in subst (λ (z : ℕ). k.0 < z) (ap (λ (z : _). z.shards) (sym (pass_goes q r.first.0 ws).pool)) shards),
            subst (λ (z : ℕ). Notes (passed_over q r.first.0 ws).notes a k.0 z) (sym (pass_goes q r.first.0 ws).phase) (pass_notes q r.first.0 ws i k.0 round (w.1 ∙ ap Some k.1) a here),
          ),
    ) in
    subst (λ (z : Claim × SeatView). Asks z.0 q z.1) (λ i. (sym h.1 i, sym h.2 i)) all)
    (λ h.
    let x : ℕ = r.first.0 + length ws in
    let mid : SeatView = passed_over q r.first.0 ws in
    let took : Asks (Claimed record { 0 = x }) q (claimed_at mid x 0) = record {
      goes = goes_on q mid (claimed_at mid x 0) (pass_goes q r.first.0 ws) (record { pool = refl; number = refl; phase = refl; full = refl; notes = λ b k p m. m });
      held = ap (λ l. x ∷ l) (pass_held q r.first.0 ws);
      free = λ held. let e = h.3.mine held in omega arith;
      unnoted = λ k m. let e = h.3.noted k m in omega arith;
    } in
    subst (λ (z : Claim × SeatView). Asks z.0 q z.1) (λ i. (sym h.1 i, sym h.2 i)) took) s.ended

found_some_by : (q : SeatView) (a w n : ℕ) → IsInRound q → Some n ≡ holder_in w → Notes (looked_at q a w).notes a n q.phase
found_some_by q a zero n round e = absurd (cc)
found_some_by q a (suc k) n round e = let is : n ≡ k = cc in subst (λ (z : ℕ). Notes (looked_at q a (suc k)).notes a z q.phase) (sym is) (noted_now (notes_now q.full q.phase) a k q.phase q.notes (round_notes q round))

-- a look that found a holder notes it
pub found_some : (q q' : SeatView) (a n : ℕ) → IsInRound q → Looks a (Some n) q q' → Goes q q' × Notes q'.notes a n q'.phase
found_some q q' a n round l =
    subst (λ (z : SeatView). Goes q z × Notes z.notes a n z.phase) (sym l.left) (look_goes q a l.word, found_some_by q a l.word n round l.answered)

found_none_by : (w k : ℕ) → None ≡ holder_in w → w ≡ k + 1 → ⊥
found_none_by zero k e f = omega (arith, f)
found_none_by (suc w) k e f = absurd (cc)

-- a look that found none had noted none
pub found_none : (q q' : SeatView) (a : ℕ) → Looks a None q q' → Goes q q' × ((k : ℕ) → Notes q.notes a k q.phase → ⊥)
found_none q q' a l = (subst (λ (z : SeatView). Goes q z) (sym l.left) (look_goes q a l.word), λ k n. found_none_by l.word k l.answered (l.agrees.noted k n))

-- a look leaves a seat all that it knew
pub goes_looked : (a : ℕ) (answer : Option ℕ) (q q' : SeatView) → q' ≡ record q { notes = q'.notes; found = q'.found } → LookSays a answer q q' → Goes q q'
goes_looked a answer q q' rest says = record {
  pool = ap (λ (z : SeatView). z.pool) rest;
  number = ap (λ (z : SeatView). z.number) rest;
  phase = ap (λ (z : SeatView). z.phase) rest;
  full = ap (λ (z : SeatView). z.full) rest;
  notes = says.noted;
}

-- What is asked for a wish ------------------------------------------------------------------------------------------------------

-- what one ask tells, whatever it was for
pub asks_of : (wish : Wish) (claim : Claim) (q q' : SeatView) → IsInRound q → IsAskedFor wish claim q q' → Asks claim q q'
asks_of Nothing claim q q' round asked = subst (λ (c : Claim). Asks c q q') (sym asked.0) asked.1
asks_of (Address a) claim q q' round asked = claims_ask a claim q q' round asked
asks_of (Pool k) claim q q' round asked = scans_ask asked.0 k claim q q' round asked.1 asked.2

pub asks_goes : (c : Claim) (q q' : SeatView) → Asks c q q' → Goes q q'
asks_goes NoClaim q q' asks = subst (λ (z : SeatView). Goes q z) (sym asks) (goes_same q)
asks_goes (Claimed a) q q' asks = asks.goes
asks_goes (Held a) q q' asks = asks.0.goes
asks_goes (Exhausted n) q q' asks = asks.0.goes

pub asked_goes : (wish : Wish) (claim : Claim) (q q' : SeatView) → IsInRound q → IsAskedFor wish claim q q' → Goes q q'
asked_goes wish claim q q' round asked = asks_goes claim q q' (asks_of wish claim q q' round asked)

claim_is : (a : Ip4) (word : ℕ) → (claim_answer a word ≡ Claimed a) ⊎ (claim_answer a word ≡ Held a)
claim_is a zero = inl refl
claim_is a (suc k) = inr refl

claim_answers : (a : Ip4) (claim : Claim) (q q' : SeatView) → Claims a claim q q' → (claim ≡ Claimed a) ⊎ (claim ≡ Held a)
claim_answers a claim q q' c = ⊎_elim (λ e. inl (c.answered ∙ e)) (λ e. inr (c.answered ∙ e)) (claim_is a c.word)

scan_answers : (pools : List NamedRange) (k : ℕ) (p : NamedRange) (r : Range) (claim : Claim) (q q' : SeatView) → slice_get pools k ≡ Some p → r ≡ p.range → Scans r k claim q q' → IsAnswerTo pools (Pool k) claim
scan_answers pools k p r claim q q' at same s = ⊎_elim
    (λ h. inr h.1)
    (λ h. let x : ℕ = r.first.0 + length s.words in let inside : InRange r x = (omega arith, let low = h.0 in omega (arith, low)) in
    inl ((record { 0 = x }), p, at, subst (λ (z : Range). InRange z x) same inside, h.1))
    s.ended

-- an answer to a wish of a shard whose pools are ranges of the words
pub answers_of : (pools : List NamedRange) (wish : Wish) (claim : Claim) (q q' : SeatView) → HasPools pools q.pool.ranges → MayWish pools wish → IsAskedFor wish claim q q' → IsAnswerTo pools wish claim
answers_of pools Nothing claim q q' has may asked = asked.0
answers_of pools (Address a) claim q q' has may asked = claim_answers a claim q q' asked
answers_of pools (Pool k) claim q q' has may asked =
    let p : NamedRange = may.0 in
    scan_answers pools k p asked.0 claim q q' may.1 (same_range q.pool.ranges k asked.0 p.range asked.1 (has k p may.1)) asked.2

any_there : {X : Type 0} (test : X → Bool) (xs : List X) → list_any test xs ≡ true → (k : ℕ) × (x : X) × (slice_get xs k ≡ Some x) × (test x ≡ true)
any_there test [] e = absurd (false≢true e)
any_there {X} test (x ∷ xs) e =
    elim (test x) as (λ b. test x ≡ b → (b || list_any test xs) ≡ true → (k : ℕ) × (y : X) × (slice_get (x ∷ xs) k ≡ Some y) × (test y ≡ true)) [
      | true ↦ λ is f. (0, x, refl, is)
      | false ↦ λ is f. let (k, y, at, passes) = any_there test xs f in (suc k, y, at, passes)
    ] refl e

both : (b c : Bool) → (b && c) ≡ true → (b ≡ true) × (c ≡ true)
both true c e = (refl, e)
both false c e = absurd (false≢true e)

within_range : (a : ℕ) (p : NamedRange) → is_within a p ≡ true → InRange p.range a
within_range a p e =
    let parts = both (nat_le p.range.first.0 a) (nat_le a p.range.last.0) e in
    (grind (arith, nat_tests, parts.0), grind (arith, nat_tests, parts.1))

-- a pool that has an address is a range of the words
pub has_address : (pools : List NamedRange) (ranges : List Range) (a : Ip4) → HasPools pools ranges → list_any (is_within a.0) pools ≡ true → HasAddress ranges a.0
has_address pools ranges a has any =
    let (k, p, at, within) = any_there (is_within a.0) pools any in
    (k, p.range, has k p at, within_range a.0 p within)
