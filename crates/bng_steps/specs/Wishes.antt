-- What an Access-Accept asks of the pools of addresses, and what comes of the answer.
use Rattle.std.specs.Prelude.{◌≡◌, ◌⊎◌, ℕ, Bool, true, false, ◌&&◌, List, [], ◌∷◌, Option, Some, None, nat_le, IsTrue, IsFalse, codes, slice_get, if◌then◌else◌}
use Rattle.std.specs.List.{list_any, position}
use Rattle.std.specs.Str.{bytes_eq}
use Rattle.bng_base.specs.declared.address.Ip4.{Ip4}
use Rattle.bng_base.specs.declared.item.Claim.{Claim}
use Rattle.bng_base.specs.declared.item.Claim.TheVariants.{NoClaim, Claimed, Held, Exhausted}
use Rattle.bng_base.specs.declared.settings.NamedRange.{NamedRange}
use Rattle.bng_grant.specs.Grants.{Gift, IsGrant}
use Rattle.bng_base.specs.Ranges.{InRange}
use Rattle.bng_verdict.specs.Verdicts.{Saying, IsVerdict}
use Rattle.bng_steps.specs.declared.meters.Plan.{Plan}
use Rattle.bng_steps.specs.declared.rules.Rules.{Rules}
use Rattle.bng_steps.specs.declared.wish.Wish.{Wish}
use Rattle.bng_steps.specs.declared.wish.Wish.TheVariants.{Nothing, Address, Pool}
use Rattle.bng_steps.specs.Limits.{limits_of, no_limits}
use Rattle.bng_steps.specs.Link.{Told}
use Rattle.bng_steps.specs.Metered.{plan_for, unmetered}

abbrev pub is_named : List ℕ → NamedRange → Bool
is_named name p = bytes_eq p.name.items name

-- the place of the pool that an Accept names (Framed-Pool, RFC 2869 section 5.18), and of the first where it names none
abbrev pub pool_for : List NamedRange → Option (List ℕ) → Option ℕ
pool_for pools None = Some 0
pool_for pools (Some name) = position (is_named name) pools

abbrev pub is_within : ℕ → NamedRange → Bool
is_within a p = nat_le p.range.first.0 a && nat_le a p.range.last.0

-- A Framed-IP-Address is asked for itself (RFC 2865 section 5.8), where a pool has it; else any address of the pool is.
abbrev pub wish_in : List NamedRange → Option ℕ → ℕ → Wish
wish_in pools None k = Pool k
wish_in pools (Some a) k = if list_any (is_within a) pools then Address (record { 0 = a }) else Nothing

abbrev pub wish_at : List NamedRange → Bool → Option ℕ → Option ℕ → Wish
wish_at pools limited address None = Nothing
wish_at pools true address (Some k) = Nothing
wish_at pools false address (Some k) = wish_in pools address k

abbrev pub has_none : List NamedRange → Bool
has_none [] = true
has_none (p ∷ ps) = false

-- What an Accept that gives this asks of the pools. A gateway without pools has no address to give; and an Accept that names no pool that
-- is there, or that found the shard's allowance of new terms used up, asks for none.
abbrev pub wish_among : List NamedRange → Bool → Gift → Wish
wish_among pools limited g = if has_none pools then Nothing else wish_at pools limited g.address (pool_for pools g.pool)

abbrev pub wish_if : Option Plan → Wish → Wish
wish_if None wish = Nothing
wish_if (Some plan) wish = wish

-- What it asks by these rules: one that names no profile that is there asks for none.
abbrev pub wish_of : Rules → Bool → Gift → Wish
wish_of r limited g = wish_if (plan_for r.profiles g.profile) (wish_among r.pools limited g)

-- an answer to a wish
abbrev pub IsAnswerTo : List NamedRange → Wish → Claim → Type 0
IsAnswerTo pools Nothing claim = claim ≡ NoClaim
IsAnswerTo pools (Address a) claim = (claim ≡ Claimed a) ⊎ (claim ≡ Held a)
IsAnswerTo pools (Pool k) claim = ((a : Ip4) × (p : NamedRange) × (slice_get pools k ≡ Some p) × InRange p.range a.0 × (claim ≡ Claimed a)) ⊎ (claim ≡ Exhausted k)

-- the peer is refused with this text, and has no term
abbrev pub refused_with : List ℕ → Told
refused_with text = record { yes = false; lease = None; text = text; class = []; limits = no_limits; plan = unmetered }

-- it is accepted, with this address if there is one, and is metered by this plan
abbrev pub accepted_with : Plan → Option Ip4 → List ℕ → Gift → Told
accepted_with plan lease text g = record { yes = true; lease = lease; text = text; class = g.class; limits = limits_of g; plan = plan }

-- what comes of the answer to a wish
abbrev pub told_by : Plan → Claim → List ℕ → Gift → Told
told_by plan NoClaim text g = refused_with (codes "no address")
told_by plan (Claimed a) text g = accepted_with plan (Some a) text g
told_by plan (Held a) text g = refused_with (codes "no address")
told_by plan (Exhausted k) text g = refused_with (codes "no address")

abbrev pub told_at : Plan → Bool → Option ℕ → Claim → List ℕ → Gift → Told
told_at plan limited None claim text g = refused_with (codes "no pool")
told_at plan true (Some k) claim text g = refused_with (codes "no record")
told_at plan false (Some k) claim text g = told_by plan claim text g

abbrev pub told_in : Plan → List NamedRange → Bool → Claim → List ℕ → Gift → Told
told_in plan pools limited claim text g = if has_none pools then accepted_with plan None text g else told_at plan limited (pool_for pools g.pool) claim text g

abbrev pub told_if : Option Plan → List NamedRange → Bool → Claim → List ℕ → Gift → Told
told_if None pools limited claim text g = refused_with (codes "no profile")
told_if (Some plan) pools limited claim text g = told_in plan pools limited claim text g

-- What an Accept comes to. The first check that fails makes it a refusal, with a text of the gateway's own: the profile is there, the pool
-- is there, a term may begin, and there is the address. A gateway without pools accepts the peer without an address, where its profile is
-- there.
abbrev pub told_of : Rules → Bool → Claim → List ℕ → Gift → Told
told_of r limited claim text g = told_if (plan_for r.profiles g.profile) r.pools limited claim text g

-- What the octets of a reply come to, where what they ask of the pools was answered by this claim: nothing, where they say nothing; a
-- refusal, where they say no; and what the Accept comes to, where they say yes.
abbrev pub Decides : Rules → Bool → List ℕ → Claim → Option Told → Type 0
Decides r limited octets claim told =
    (IsVerdict octets None × (claim ≡ NoClaim) × (told ≡ None))
    ⊎ (((v : Saying) × IsVerdict octets (Some v) × IsFalse v.yes × (claim ≡ NoClaim) × (told ≡ Some (refused_with v.text)))
    ⊎ ((v : Saying) × IsVerdict octets (Some v) × IsTrue v.yes × (g : Gift) × IsGrant octets (Some g)
    × IsAnswerTo r.pools (wish_of r limited g) claim × (told ≡ Some (told_of r limited claim v.text g))))

-- what the octets of a reply ask of the pools
abbrev pub Wishes : Rules → Bool → List ℕ → Wish → Type 0
Wishes r limited octets wish =
    (IsVerdict octets None × (wish ≡ Nothing))
    ⊎ (((v : Saying) × IsVerdict octets (Some v) × IsFalse v.yes × (wish ≡ Nothing))
    ⊎ ((v : Saying) × IsVerdict octets (Some v) × IsTrue v.yes × (g : Gift) × IsGrant octets (Some g) × (wish ≡ wish_of r limited g)))
