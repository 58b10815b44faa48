-- What an entry asks of the table of addresses, as the engine sees it, and what the table keeps.
use Rattle.std.proofs.Common.{◌≡◌, ◌≢◌, ⊎_elim, ℕ, zero, suc, ◌+◌, ◌<◌, ◌≤◌, Bool, true, false, ◌||◌, cond, eqb, List, [], ◌∷◌, ◌++◌, Option, Some, None, is_some, length, get_or, set, slice_get, refl, sym, ap, subst, ◌∙◌, arith, append-nil, length-set, get_or-set_same, get_or-set_other}
use Rattle.std.specs.List.{AllByRecursion, Contains, range_with_len}
use Rattle.std.proofs.lemmas.Bool.Decides.{nat_tests}
use Rattle.std.proofs.lemmas.List.Concat.{flat_map-append}
use Rattle.std.proofs.lemmas.List.Elements.{All-contains, All-from_recursion, Contains-append_cases}
use Rattle.std.proofs.lemmas.List.Sums.{sum_by-cons}
use Rattle.bng_base.specs.declared.book.Range.{Range}
use Rattle.bng_base.specs.declared.item.Claim.{Claim}
use Rattle.bng_base.specs.declared.item.Claim.TheVariants.{NoClaim, Claimed, Held, Exhausted}
use Rattle.bng_base.specs.declared.item.Entry.{Entry}
use Rattle.bng_base.specs.declared.settings.NamedRange.{NamedRange}
use Rattle.bng_engine.specs.Claims.{is_held, times_in}
use Rattle.bng_engine.specs.Journals.{claims_of}
use Rattle.bng_engine.specs.Lists.{one_if}
use Rattle.bng_engine.specs.Pool.{Asks, ClaimsSoFar}
use Rattle.bng_engine.specs.Turns.{journals_in}
use Rattle.bng_engine.specs.Views.{ShardView}
use Rattle.bng_pool.specs.Plain.{PlainView}
use Rattle.bng_base.specs.Ranges.{InRange, size_of}
use Rattle.bng_pool.specs.Tables.{Table, IsTaken, Puts, entry}
use Rattle.bng_steps.specs.Protocol.{ShardState, Handled, addresses_in, claimed_by, refused_by, pppoe, terms_of}
use Rattle.bng_shard.specs.Handling.{AnswersClaim, HasPools}
use Rattle.bng_steps.proofs.Values.{none_some}
use Rattle.bng_desk.specs.Round.{AreClaimed, HasAll, held_by}
use Rattle.bng_desk.proofs.Dealing.{Seens}
use Rattle.bng_desk.proofs.Returning.{HoldsOwn, held_in}

-- Tables ------------------------------------------------------------------------------------------------------------------

pub all_itself : (t : Table) → HasAll t t
all_itself t a k e = e

pub all_more : (t t' t'' : Table) → HasAll t t' → HasAll t' t'' → HasAll t t''
all_more t t' t'' f g a k e = g a k (f a k e)

-- what was held is held, and the table is of the same ranges and shards
pub record Grows (pool pool' : PlainView) : Type 0 where
  pub keeps : HasAll pool.table pool'.table
  pub ranges : pool'.ranges ≡ pool.ranges
  pub places : pool'.shards ≡ pool.shards

grown_same : (pool pool' : PlainView) → pool' ≡ pool → Grows pool pool'
grown_same pool pool' e = record {
  keeps = λ a k is. ap (λ (p : PlainView). entry p.table a) e ∙ is;
  ranges = ap (λ (p : PlainView). p.ranges) e;
  places = ap (λ (p : PlainView). p.shards) e;
}

puts_keeps : (t t' : Table) (a k : ℕ) → Puts t a k t' → HasAll t t'
puts_keeps t t' a k puts b n e =
    let other : b ≢ a = λ same. none_some n (sym puts.free ∙ ap (entry t) (sym same) ∙ e) in
    puts.elsewhere b other ∙ e

pub grows : (shard : ℕ) (claim : Claim) (pool pool' : PlainView) → AnswersClaim shard claim pool pool' → Grows pool pool'
grows shard NoClaim pool pool' h = grown_same pool pool' h
grows shard (Claimed a) pool pool' h = record { keeps = puts_keeps pool.table pool'.table a.0 shard h.0; ranges = h.1.0; places = h.1.1 }
grows shard (Held a) pool pool' h = grown_same pool pool' h.1
grows shard (Exhausted k) pool pool' h = grown_same pool pool' h.1

-- a shard holds what it held
pub held_on : (t t' : Table) → HasAll t t' → (v : ShardView ShardState Entry) → HoldsOwn t v → HoldsOwn t' v
held_on t t' keeps v held k d lt = keeps (get_or (terms_of v.state) k d).key.address.0 v.number (held k d lt)

-- One address -------------------------------------------------------------------------------------------------------------

-- the table has the address: so it is held
taken_held : (t : Table) (pool : PlainView) (a : ℕ) → t ≡ pool.table → IsTaken t a → is_held a (held_by pool) ≡ true
taken_held t pool a e taken = held_in pool.table a ∙ ap (λ (x : Table). is_some (entry x a)) (sym e) ∙ ap is_some taken.1

times_one : (x a : ℕ) → times_in a (x ∷ []) ≡ cond (eqb x a) 1 0
times_one x a = omega (arith, sum_by-cons (λ (y : ℕ). cond (eqb y a) 1 0) x [])

one_most : (b : Bool) → cond b 1 0 ≤ 1
one_most true = omega arith
one_most false = omega arith

some_true : (b : Bool) → 1 ≤ cond b 1 0 → b ≡ true
some_true true some = refl
some_true false some = absurd (omega (arith, some))

same_number : (x a : ℕ) → eqb x a ≡ true → x ≡ a
same_number x a e = grind (arith, nat_tests)

other_number : (x a : ℕ) → eqb x a ≡ false → a ≢ x
other_number x a e = grind (arith, nat_tests)

-- it is the one that is spoken of
that_one : (x a : ℕ) → 1 ≤ times_in a (x ∷ []) → x ≡ a
that_one x a some = same_number x a (some_true (eqb x a) (omega (arith, some, times_one x a)))

or_false : (b : Bool) → b ≡ (b || false)
or_false true = refl
or_false false = refl

or_true : (b : Bool) → true ≡ (b || true)
or_true true = refl
or_true false = refl

-- Ranges ------------------------------------------------------------------------------------------------------------------

within : (a first n : ℕ) → 1 ≤ times_in a (range_with_len first n) → (first ≤ a) × (a < first + n)
within a first zero some = absurd (omega (arith, some))
within a first (suc n) some =
    elim (eqb first a) as (λ b. eqb first a ≡ b → (first ≤ a) × (a < first + suc n)) [
      | true ↦ λ e. let same = same_number first a e in (omega (arith, same), omega (arith, same))
      | false ↦ λ e.
          let later : 1 ≤ times_in a (range_with_len (first + 1) n) =
          omega (arith, some, sum_by-cons (λ (y : ℕ). cond (eqb y a) 1 0) first (range_with_len (first + 1) n), ap one_if e) in
          let rest = within a (first + 1) n later in
          (omega (arith, rest.0), omega (arith, rest.1))
    ] refl

in_range : (r : Range) (a : ℕ) → 1 ≤ times_in a (range_with_len r.first.0 (size_of r)) → InRange r a
in_range r a some = let w = within a r.first.0 (size_of r) some in (w.0, omega (arith, w.0, w.1))

all_taken : (pool : PlainView) (o : Option NamedRange) → ((p : NamedRange) → o ≡ Some p → (b : ℕ) → InRange p.range b → IsTaken pool.table b) → (a : ℕ) → 1 ≤ times_in a (addresses_in o) → is_held a (held_by pool) ≡ true
all_taken pool None taken a some = absurd (omega (arith, some))
all_taken pool (Some p) taken a some = taken_held pool.table pool a refl (taken p refl a (in_range p.range a some))

-- What an entry asks ------------------------------------------------------------------------------------------------------

module _ (h : Handled) (pool pool' : PlainView) where
  asks_none : pppoe.claimed h ≡ [] → pool' ≡ pool → ((a : ℕ) → 1 ≤ times_in a (pppoe.refused h) → is_held a (held_by pool) ≡ true) → Asks pppoe h (held_by pool) (held_by pool')
  asks_none none same refused =
      let claims = λ (a : ℕ). ap (times_in a) none in
      record {
        once = λ a. omega (arith, claims a);
        free = λ a some. absurd (omega (arith, some, claims a));
        refused = refused;
        after = λ a. ap (λ (p : PlainView). is_held a (held_by p)) same ∙ or_false (is_held a (held_by pool)) ∙ ap (λ (n : ℕ). is_held a (held_by pool) || eqb 1 n) (sym (claims a));
      }

  held_after : (x shard a : ℕ) (b : Bool) → eqb x a ≡ b → Puts pool.table x shard pool'.table → is_held a (held_by pool') ≡ (is_held a (held_by pool) || eqb 1 (cond b 1 0))
  held_after x shard a true e puts =
      held_in pool'.table a ∙ ap (λ (y : ℕ). is_some (entry pool'.table y)) (sym (same_number x a e)) ∙ ap is_some puts.put ∙ or_true (is_held a (held_by pool))
  held_after x shard a false e puts =
      held_in pool'.table a ∙ ap is_some (puts.elsewhere a (other_number x a e)) ∙ sym (held_in pool.table a) ∙ or_false (is_held a (held_by pool))

  asks_one : (x shard : ℕ) → pppoe.claimed h ≡ x ∷ [] → pppoe.refused h ≡ [] → Puts pool.table x shard pool'.table → Asks pppoe h (held_by pool) (held_by pool')
  asks_one x shard one none puts =
      let claims = λ (a : ℕ). ap (times_in a) one ∙ times_one x a in
      record {
        once = λ a. omega (arith, claims a, one_most (eqb x a));
        free = λ a some.
            let same = same_number x a (some_true (eqb x a) (omega (arith, some, claims a))) in
            held_in pool.table a ∙ ap (λ (y : ℕ). is_some (entry pool.table y)) (sym same) ∙ ap is_some puts.free;
        refused = λ a some. absurd (omega (arith, some, ap (times_in a) none));
        after = λ a. held_after x shard a (eqb x a) refl puts ∙ ap (λ (n : ℕ). is_held a (held_by pool) || eqb 1 n) (sym (claims a));
      }

  asks_by : (pools : List NamedRange) (shard : ℕ) (claim : Claim) → HasPools pools pool.ranges → pppoe.claimed h ≡ claimed_by claim → pppoe.refused h ≡ refused_by pools claim → AnswersClaim shard claim pool pool' → Asks pppoe h (held_by pool) (held_by pool')
  asks_by pools shard NoClaim has claimed refused answers = asks_none claimed answers (λ a some. absurd (omega (arith, some, ap (times_in a) refused)))
  asks_by pools shard (Claimed x) has claimed refused answers = asks_one x.0 shard claimed refused answers.0
  asks_by pools shard (Held x) has claimed refused answers =
      asks_none claimed answers.1
      (λ a some. let same = that_one x.0 a (omega (arith, some, ap (times_in a) refused)) in
      taken_held pool.table pool a refl (subst (IsTaken pool.table) same answers.0))
  asks_by pools shard (Exhausted k) has claimed refused answers =
      asks_none claimed answers.1
      (λ a some. all_taken pool (slice_get pools k) (λ p at b inside. answers.0 p.range (has k p at) b inside) a (omega (arith, some, ap (times_in a) refused)))

-- what an entry claims is free and then held, and what it was told to be held is held
pub asks_it : (s : ShardState) (h : Handled) (shard : ℕ) (claim : Claim) (pool pool' : PlainView) → pppoe.is_step s h → h.deed.entry.claim ≡ claim → HasPools s.rules.pools pool.ranges → AnswersClaim shard claim pool pool' → Asks pppoe h (held_by pool) (held_by pool')
asks_it s h shard claim pool pool' is says has answers =
    asks_by h pool pool' s.rules.pools shard claim has (ap claimed_by says) (is.refused ∙ ap (λ (c : Claim). refused_by s.rules.pools c) says) answers

-- Who holds what was claimed ----------------------------------------------------------------------------------------------

claimed_all : (shard : ℕ) (claim : Claim) (pool pool' : PlainView) → AnswersClaim shard claim pool pool' → AllByRecursion (λ (a : ℕ). entry pool'.table a ≡ Some shard) (claimed_by claim)
claimed_all shard NoClaim pool pool' h = tt
claimed_all shard (Claimed a) pool pool' h = (h.0.put, tt)
claimed_all shard (Held a) pool pool' h = tt
claimed_all shard (Exhausted k) pool pool' h = tt

module _ (pool mid pool' : PlainView) (seen : Seens) (n : ℕ) (d v' : ShardView ShardState Handled) (h : Handled) (shard : ℕ) (claim : Claim) where
  abbrev Claims : ShardView ShardState Handled → ℕ → Type 0
  Claims v a = Contains (claims_of pppoe v.journal) a

  -- the shard that handled the entry
  holds_here : n < length seen → shard ≡ n → v'.journal ≡ (get_or seen n d).journal ++ h ∷ [] → h.deed.entry.claim ≡ claim → AnswersClaim shard claim mid pool' → AreClaimed pool mid seen → (a : ℕ) → Claims v' a → entry pool'.table a ≡ Some n
  holds_here lt number journal says answers so_far a in_journal =
      let v = get_or seen n d in
      let split : claims_of pppoe v'.journal ≡ claims_of pppoe v.journal ++ claimed_by claim =
      ap (claims_of pppoe) journal
      ∙ flat_map-append pppoe.claimed v.journal (h ∷ [])
      ∙ ap (λ (xs : List ℕ). claims_of pppoe v.journal ++ xs) (append-nil (pppoe.claimed h) ∙ ap claimed_by says) in
      let new : Contains (claimed_by claim) a → entry pool'.table a ≡ Some n = λ among.
      All-contains (λ (x : ℕ). entry pool'.table x ≡ Some shard) (claimed_by claim) a (All-from_recursion (λ (x : ℕ). entry pool'.table x ≡ Some shard) (claimed_by claim) (claimed_all shard claim mid pool' answers)) among
      ∙ ap Some number in
      ⊎_elim
      (λ (among : Contains (claims_of pppoe v.journal) a). (grows shard claim mid pool' answers).keeps a n (so_far.holders n d a lt among))
      new (Contains-append_cases (claims_of pppoe v.journal) (claimed_by claim) a (subst (λ (xs : List ℕ). Contains xs a) split in_journal))

  holds_at : n < length seen → ((a : ℕ) → Claims v' a → entry pool'.table a ≡ Some n) → HasAll mid.table pool'.table → AreClaimed pool mid seen
      → (k : ℕ) (e : ShardView ShardState Handled) (a : ℕ) (b : Bool) → eqb n k ≡ b → k < length (set seen n v') → Claims (get_or (set seen n v') k e) a → entry pool'.table a ≡ Some k
  holds_at lt here keeps so_far k e a true is inside claims =
      let same : n ≡ k = same_number n k is in
      let at : get_or (set seen n v') k e ≡ v' = ap (λ (j : ℕ). get_or (set seen n v') j e) (sym same) ∙ get_or-set_same seen n v' e lt in
      here a (subst (λ (v : ShardView ShardState Handled). Claims v a) at claims) ∙ ap Some same
  holds_at lt here keeps so_far k e a false is inside claims =
      let other : k ≢ n = other_number n k is in
      let at : get_or (set seen n v') k e ≡ get_or seen k e = get_or-set_other seen n k v' e other in
      keeps a k (so_far.holders k e a (omega (arith, inside, length-set seen n v')) (subst (λ (v : ShardView ShardState Handled). Claims v a) at claims))

  -- and with it the claims so far
  pub claimed_more : n < length seen → shard ≡ n → v'.journal ≡ (get_or seen n d).journal ++ h ∷ [] → h.deed.entry.claim ≡ claim → AnswersClaim shard claim mid pool'
      → ClaimsSoFar pppoe (held_by pool) (journals_in (set seen n v')) (held_by pool') → AreClaimed pool mid seen → AreClaimed pool pool' (set seen n v')
  claimed_more lt number journal says answers claims so_far =
      let g = grows shard claim mid pool' answers in
      let here = holds_here lt number journal says answers so_far in
      record {
        keeps = all_more pool.table mid.table pool'.table so_far.keeps g.keeps;
        claims = claims;
        holders = λ k e a inside among. holds_at lt here g.keeps so_far k e a (eqb n k) refl inside among;
        ranges = g.ranges ∙ so_far.ranges;
        places = g.places ∙ so_far.places;
      }
