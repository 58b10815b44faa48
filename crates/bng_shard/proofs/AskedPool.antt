-- What an item asks of the pools, and what is answered.
use Rattle.std.proofs.Common.{◌≡◌, ◌⊎◌, inl, inr, ℕ, suc, ◌&&◌, ◌||◌, Bool, true, false, List, [], ◌∷◌, Option, Some, None, refl, sym, ap, subst, ◌∙◌, arith}
use Rattle.std.specs.Prelude.{get_or, slice_get, if◌then◌else◌, nat_le}
use Rattle.std.specs.List.{list_any}
use Rattle.std.proofs.lemmas.Bool.{false≢true}
use Rattle.std.proofs.lemmas.List.Quantifiers.{position-Some}
use Rattle.std.proofs.lemmas.Option.{slice_get-get_or}
use Rattle.std.proofs.lemmas.Bool.Decides.{nat_tests}
use Rattle.bng_base.specs.declared.address.Ip4.{Ip4}
use Rattle.bng_base.specs.declared.book.Range.{Range}
use Rattle.bng_base.specs.declared.item.Claim.{Claim}
use Rattle.bng_base.specs.declared.item.Claim.TheVariants.{NoClaim, Claimed, Held}
use Rattle.bng_base.specs.declared.item.Item.{Item}
use Rattle.bng_base.specs.declared.item.ItemKind.{ItemKind}
use Rattle.bng_base.specs.declared.item.ItemKind.TheVariants.{Access, Core, Tunnel, Verdict, Change, Tick, End}
use Rattle.bng_base.specs.declared.settings.NamedRange.{NamedRange}
use Rattle.bng_grant.specs.Grants.{Gift}
use Rattle.bng_pool.specs.Plain.{PlainView}
use Rattle.bng_base.specs.Ranges.{InRange}
use Rattle.bng_pool.specs.Ranges.{HasAddress}
use Rattle.bng_pool.specs.Tables.{TableClaims, TableScans}
use Rattle.bng_steps.specs.declared.meters.Plan.{Plan}
use Rattle.bng_steps.specs.declared.rules.Rules.{Rules}
use Rattle.bng_steps.specs.declared.wish.Wish.{Wish}
use Rattle.bng_steps.specs.declared.wish.Wish.TheVariants.{Nothing, Address, Pool}
use Rattle.bng_steps.specs.Metered.{plan_for}
use Rattle.bng_shard.specs.Handling.{AnswersClaim, HasPools}
use Rattle.bng_steps.specs.State.{State}
use Rattle.bng_steps.specs.Wished.{IsAnswered, IsWished, MayWish, WishesFor}
use Rattle.bng_steps.specs.Wishes.{IsAnswerTo, Wishes, is_named, is_within, pool_for, wish_among, wish_at, wish_if, wish_in, wish_of}
use Rattle.bng_steps.proofs.Values.{same_some}

-- What is asked -----------------------------------------------------------------------------------------------------------------

pool_there : (p : NamedRange) (ps : List NamedRange) (name : Option (List ℕ)) (k : ℕ) → pool_for (p ∷ ps) name ≡ Some k → (q : NamedRange) × (slice_get (p ∷ ps) k ≡ Some q)
pool_there p ps None k e = (p, ap (slice_get (p ∷ ps)) (sym (same_some 0 k e)))
pool_there p ps (Some name) k e =
    let within = (position-Some (is_named name) (p ∷ ps) k p e).0 in
    (get_or (p ∷ ps) k p, slice_get-get_or (p ∷ ps) k p within)

address_may : (pools : List NamedRange) (a : ℕ) (b : Bool) → list_any (is_within a) pools ≡ b → MayWish pools (if b then Address (record { 0 = a }) else Nothing)
address_may pools a true e = e
address_may pools a false e = tt

in_may : (pools : List NamedRange) (address : Option ℕ) (k : ℕ) → (p : NamedRange) × (slice_get pools k ≡ Some p) → MayWish pools (wish_in pools address k)
in_may pools None k at = at
in_may pools (Some a) k at = address_may pools a (list_any (is_within a) pools) refl

at_may : (pools : List NamedRange) (limited : Bool) (address : Option ℕ) (o : Option ℕ) → ((k : ℕ) → o ≡ Some k → (p : NamedRange) × (slice_get pools k ≡ Some p)) → MayWish pools (wish_at pools limited address o)
at_may pools limited address None there = tt
at_may pools true address (Some k) there = tt
at_may pools false address (Some k) there = in_may pools address k (there k refl)

among_may : (pools : List NamedRange) (limited : Bool) (g : Gift) → MayWish pools (wish_among pools limited g)
among_may [] limited g = tt
among_may (p ∷ ps) limited g = at_may (p ∷ ps) limited g.address (pool_for (p ∷ ps) g.pool) (λ k e. pool_there p ps g.pool k e)

if_may : (pools : List NamedRange) (o : Option Plan) (wish : Wish) → MayWish pools wish → MayWish pools (wish_if o wish)
if_may pools None wish may = tt
if_may pools (Some plan) wish may = may

gift_may : (r : Rules) (limited : Bool) (g : Gift) → MayWish r.pools (wish_of r limited g)
gift_may r limited g = if_may r.pools (plan_for r.profiles g.profile) (wish_among r.pools limited g) (among_may r.pools limited g)

nothing_may : (pools : List NamedRange) (wish : Wish) → wish ≡ Nothing → MayWish pools wish
nothing_may pools wish e = subst (MayWish pools) (sym e) tt

octets_may : (r : Rules) (limited : Bool) (octets : List ℕ) (wish : Wish) → Wishes r limited octets wish → MayWish r.pools wish
octets_may r limited octets wish (inl (says, e)) = nothing_may r.pools wish e
octets_may r limited octets wish (inr (inl (v, says, refused, e))) = nothing_may r.pools wish e
octets_may r limited octets wish (inr (inr (v, says, accepted, g, grants, e))) = subst (MayWish r.pools) (sym e) (gift_may r limited g)

kind_may : (kind : ItemKind) (r : Rules) (s : State) (item : Item) (limited : Bool) (wish : Wish) → WishesFor kind r s item limited wish → MayWish r.pools wish
kind_may (Access number) r s item limited wish e = nothing_may r.pools wish e
kind_may Core r s item limited wish e = nothing_may r.pools wish e
kind_may Tunnel r s item limited wish e = nothing_may r.pools wish e
kind_may Verdict r s item limited wish (inl (asks, h)) = octets_may r limited item.frame.payload wish h
kind_may Verdict r s item limited wish (inr (other, e)) = nothing_may r.pools wish e
kind_may Change r s item limited wish e = nothing_may r.pools wish e
kind_may Tick r s item limited wish e = nothing_may r.pools wish e
kind_may End r s item limited wish e = nothing_may r.pools wish e

-- it is an address that a pool has, or a pool that is there
pub wished_may : (r : Rules) (s : State) (item : Item) (limited : Bool) (wish : Wish) → IsWished r s item limited wish → MayWish r.pools wish
wished_may r s item limited wish h = kind_may item.kind r s item limited wish h

-- Where the allowance is used up ------------------------------------------------------------------------------------------------

at_limited : (pools : List NamedRange) (address : Option ℕ) (o : Option ℕ) → wish_at pools true address o ≡ Nothing
at_limited pools address None = refl
at_limited pools address (Some k) = refl

among_limited : (pools : List NamedRange) (g : Gift) → wish_among pools true g ≡ Nothing
among_limited [] g = refl
among_limited (p ∷ ps) g = at_limited (p ∷ ps) g.address (pool_for (p ∷ ps) g.pool)

if_limited : (o : Option Plan) (wish : Wish) → wish ≡ Nothing → wish_if o wish ≡ Nothing
if_limited None wish e = refl
if_limited (Some plan) wish e = e

gift_limited : (r : Rules) (g : Gift) → wish_of r true g ≡ Nothing
gift_limited r g = if_limited (plan_for r.profiles g.profile) (wish_among r.pools true g) (among_limited r.pools g)

octets_limited : (r : Rules) (octets : List ℕ) (wish : Wish) → Wishes r true octets wish → wish ≡ Nothing
octets_limited r octets wish (inl (says, e)) = e
octets_limited r octets wish (inr (inl (v, says, refused, e))) = e
octets_limited r octets wish (inr (inr (v, says, accepted, g, grants, e))) = e ∙ gift_limited r g

kind_limited : (kind : ItemKind) (r : Rules) (s : State) (item : Item) (wish : Wish) → WishesFor kind r s item true wish → wish ≡ Nothing
kind_limited (Access number) r s item wish e = e
kind_limited Core r s item wish e = e
kind_limited Tunnel r s item wish e = e
kind_limited Verdict r s item wish (inl (asks, h)) = octets_limited r item.frame.payload wish h
kind_limited Verdict r s item wish (inr (other, e)) = e
kind_limited Change r s item wish e = e
kind_limited Tick r s item wish e = e
kind_limited End r s item wish e = e

no_claim : (a : Ip4) → ◌≡◌ {A = Claim} NoClaim (Claimed a) → ⊥
no_claim a e = absurd (let never : ⊥ = cc in never)

-- an address is claimed only where a term may begin
pub claimed_within : (r : Rules) (s : State) (item : Item) (limited : Bool) (claim : Claim) → IsAnswered r s item limited claim → (a : Ip4) → claim ≡ Claimed a → limited ≡ false
claimed_within r s item true claim h a e =
    let none = subst (λ (w : Wish). IsAnswerTo r.pools w claim) (kind_limited item.kind r s item h.wish h.is_wished) h.answers in
    absurd (no_claim a (sym none ∙ e))
claimed_within r s item false claim h a e = refl

-- What is answered -----------------------------------------------------------------------------------------------------------------

any_there : {X : Type 0} (test : X → Bool) (xs : List X) → list_any test xs ≡ true → (k : ℕ) × (x : X) × (slice_get xs k ≡ Some x) × (test x ≡ true)
any_there test [] e = absurd (false≢true e)
any_there {X} test (x ∷ xs) e =
    elim (test x) as (λ b. test x ≡ b → (b || list_any test xs) ≡ true → (k : ℕ) × (y : X) × (slice_get (x ∷ xs) k ≡ Some y) × (test y ≡ true)) [
      | true ↦ λ is f. (0, x, refl, is)
      | false ↦ λ is f. let (k, y, at, passes) = any_there test xs f in (suc k, y, at, passes)
    ] refl e

both : (b c : Bool) → (b && c) ≡ true → (b ≡ true) × (c ≡ true)
both true c e = (refl, e)
both false c e = absurd (false≢true e)

within_range : (a : ℕ) (p : NamedRange) → is_within a p ≡ true → InRange p.range a
within_range a p e =
    let parts = both (nat_le p.range.first.0 a) (nat_le a p.range.last.0) e in
    (grind (arith, nat_tests, parts.0), grind (arith, nat_tests, parts.1))

-- a pool that has an address is a range of the table
pub has_address : (pools : List NamedRange) (ranges : List Range) (a : Ip4) → HasPools pools ranges → list_any (is_within a.0) pools ≡ true → HasAddress ranges a.0
has_address pools ranges a has any =
    let (k, p, at, within) = any_there (is_within a.0) pools any in
    (k, p.range, has k p at, within_range a.0 p within)

same_view : (pool pool' : PlainView) → pool'.table ≡ pool.table → pool'.ranges ≡ pool.ranges → pool'.shards ≡ pool.shards → pool' ≡ pool
same_view pool pool' table ranges shards = λ i. record { ranges = ranges i; shards = shards i; table = table i }

module _ (shard : ℕ) (pool pool' : PlainView) (ranges : pool'.ranges ≡ pool.ranges) (shards : pool'.shards ≡ pool.shards) where
  pub claim_answers : (a : Ip4) (claim : Claim) → TableClaims pool.table shard a claim pool'.table → ((claim ≡ Claimed a) ⊎ (claim ≡ Held a)) × AnswersClaim shard claim pool pool'
  claim_answers a claim (inl (e, puts)) = (inl e, subst (λ (c : Claim). AnswersClaim shard c pool pool') (sym e) (puts, (ranges, shards)))
  claim_answers a claim (inr (e, taken, same)) = (inr e, subst (λ (c : Claim). AnswersClaim shard c pool pool') (sym e) (taken, same_view pool pool' same ranges shards))

  pub scan_answers : (pools : List NamedRange) (k : ℕ) (p : NamedRange) (r : Range) (claim : Claim) → HasPools pools pool.ranges → slice_get pools k ≡ Some p → slice_get pool.ranges k ≡ Some r → TableScans pool.table shard r k claim pool'.table
      → IsAnswerTo pools (Pool k) claim × AnswersClaim shard claim pool pool'
  scan_answers pools k p r claim has at is (inl (a, e, within, lower, puts)) =
      let same : r ≡ p.range = same_some r p.range (sym is ∙ has k p at) in (
        inl (a, p, at, subst (λ (q : Range). InRange q a.0) same within, e),
        subst (λ (c : Claim). AnswersClaim shard c pool pool') (sym e) (puts, (ranges, shards)),
      )
  scan_answers pools k p r claim has at is (inr (e, all, same)) = (
    inr e,
    subst (λ (c : Claim). AnswersClaim shard c pool pool') (sym e) ((λ q found b within. all b (subst (λ (x : Range). InRange x b) (sym (same_some r q (sym is ∙ found))) within)), same_view pool pool' same ranges shards),
  )
