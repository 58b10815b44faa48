-- What the octets of a reply ask of the pools of addresses, and what they come to.
use Rattle.std.proofs.Common.{◌≡◌, ◌≤◌, ℕ, max, Bool, true, false, not, List, [], ◌∷◌, Option, Some, None, option_map, inl, inr, refl, sym, ap, subst, ◌∙◌, arith}
use Rattle.bng_base.specs.declared.item.Claim.{Claim}
use Rattle.bng_base.specs.declared.item.Claim.TheVariants.{NoClaim, Claimed, Held, Exhausted}
use Rattle.bng_base.specs.declared.settings.NamedRange.{NamedRange}
use Rattle.bng_grant.specs.Grants.{Gift, IsGrant}
use Rattle.bng_grant.specs.Grants.IsGrant.{Replied as Given, NoReply as NotGiven}
use Rattle.bng_grant.proofs.One.{one_grant}
use Rattle.bng_term.specs.Lifetimes.{HasAllowedInterval}
use Rattle.bng_verdict.specs.Verdicts.{Saying, IsVerdict}
use Rattle.bng_verdict.proofs.One.{one_verdict}
use Rattle.bng_steps.specs.declared.meters.Plan.{Plan}
use Rattle.bng_steps.specs.declared.rules.Rules.{Rules}
use Rattle.bng_steps.specs.declared.wish.Wish.{Wish}
use Rattle.bng_steps.specs.declared.wish.Wish.TheVariants.{Nothing}
use Rattle.bng_steps.specs.Limits.{limits_of, no_limits}
use Rattle.bng_steps.specs.Link.{Told}
use Rattle.bng_steps.specs.Metered.{plan_for}
use Rattle.bng_steps.specs.Wishes.{Decides, IsAnswerTo, Wishes, pool_for, refused_with, told_at, told_by, told_if, told_in, told_of, wish_of}

same : {A : Type 0} (a b : A) → Some a ≡ Some b → a ≡ b
same a b e = cc

never : {A : Type 0} (a : A) → None ≡ Some a → ⊥
never a e = cc

both : (b : Bool) → b ≡ true → b ≡ false → ⊥
both b e f = cc

pub not_false : (b : Bool) → not b ≡ false → b ≡ true
not_false true e = refl
not_false false e = absurd (let absent : ⊥ = cc in absent)

pub not_so : (b : Bool) → not b ≡ true → b ≡ false
not_so true e = absurd (let absent : ⊥ = cc in absent)
not_so false e = refl

at_least : (o : Option ℕ) (v : ℕ) → option_map (λ (n : ℕ). max n 60) o ≡ Some v → 60 ≤ v
at_least None v e = absurd (never v e)
at_least (Some n) v e =
    let is : max n 60 ≡ v = same (max n 60) v e in
    omega (arith, is)

-- what is given leaves a minute between Interims
pub allowed : (octets : List ℕ) (g : Gift) → IsGrant octets (Some g) → HasAllowedInterval (limits_of g)
allowed octets g (Given p reply h gives is) seconds e = at_least _ seconds (sym gives.interim ∙ ap (λ (k : Gift). k.interim) (sym (same g h is)) ∙ e)
allowed octets g (NotGiven other none) seconds e = absurd (never g (sym none))

none_allowed : HasAllowedInterval no_limits
none_allowed seconds e = absurd (never seconds e)

module _ (text : List ℕ) (g : Gift) (minute : HasAllowedInterval (limits_of g)) where
  by_allowed : (plan : Plan) (claim : Claim) → HasAllowedInterval (told_by plan claim text g).limits
  by_allowed plan NoClaim = none_allowed
  by_allowed plan (Claimed a) = minute
  by_allowed plan (Held a) = none_allowed
  by_allowed plan (Exhausted k) = none_allowed

  at_allowed : (plan : Plan) (limited : Bool) (o : Option ℕ) (claim : Claim) → HasAllowedInterval (told_at plan limited o claim text g).limits
  at_allowed plan true None claim = none_allowed
  at_allowed plan false None claim = none_allowed
  at_allowed plan true (Some k) claim = none_allowed
  at_allowed plan false (Some k) claim = by_allowed plan claim

  in_allowed : (plan : Plan) (pools : List NamedRange) (limited : Bool) (claim : Claim) → HasAllowedInterval (told_in plan pools limited claim text g).limits
  in_allowed plan [] limited claim = minute
  in_allowed plan (p ∷ ps) limited claim = at_allowed plan limited (pool_for (p ∷ ps) g.pool) claim

  if_allowed : (o : Option Plan) (pools : List NamedRange) (limited : Bool) (claim : Claim) → HasAllowedInterval (told_if o pools limited claim text g).limits
  if_allowed None pools limited claim = none_allowed
  if_allowed (Some plan) pools limited claim = in_allowed plan pools limited claim

  of_allowed : (r : Rules) (limited : Bool) (claim : Claim) → HasAllowedInterval (told_of r limited claim text g).limits
  of_allowed r limited claim = if_allowed (plan_for r.profiles g.profile) r.pools limited claim

-- so does what a reply comes to
pub decides_allowed : (r : Rules) (limited : Bool) (octets : List ℕ) (claim : Claim) (t : Told) → Decides r limited octets claim (Some t) → HasAllowedInterval t.limits
decides_allowed r limited octets claim t (inl (silent, none, e)) = absurd (never t (sym e))
decides_allowed r limited octets claim t (inr (inl (v, says, refused, none, e))) = subst (λ (u : Told). HasAllowedInterval u.limits) (sym (same t (refused_with v.text) e)) none_allowed
decides_allowed r limited octets claim t (inr (inr (v, says, accepted, g, grants, answers, e))) =
    subst (λ (u : Told). HasAllowedInterval u.limits) (sym (same t (told_of r limited claim v.text g) e)) (of_allowed v.text g (allowed octets g grants) r limited claim)

-- what was asked was answered by this claim
abbrev pub Answered : Rules → Bool → List ℕ → Claim → Type 0
Answered r limited octets claim = (wish : Wish) × Wishes r limited octets wish × IsAnswerTo r.pools wish claim

module _ (r : Rules) (limited : Bool) (octets : List ℕ) (claim : Claim) (answered : Answered r limited octets claim) where
  answered_by : (wish : Wish) → answered.0 ≡ wish → IsAnswerTo r.pools wish claim
  answered_by wish e = subst (λ (w : Wish). IsAnswerTo r.pools w claim) e answered.2

  -- octets that say nothing, or no, asked nothing
  claims_nothing : ((v : Saying) → IsVerdict octets (Some v) → v.yes ≡ false) → Wishes r limited octets answered.0 → claim ≡ NoClaim
  claims_nothing refused (inl none) = answered_by Nothing none.1
  claims_nothing refused (inr (inl refuses)) = answered_by Nothing refuses.3
  claims_nothing refused (inr (inr accepts)) = absurd (both accepts.0.yes accepts.2 (refused accepts.0 accepts.1))

  pub decides_nothing : IsVerdict octets None → Decides r limited octets claim None
  decides_nothing is = inl (is, claims_nothing (λ v said. absurd (never v (one_verdict octets None (Some v) is said))) answered.1, refl)

  pub decides_no : (v : Saying) → IsVerdict octets (Some v) → v.yes ≡ false → Decides r limited octets claim (Some (refused_with v.text))
  decides_no v is refused =
      inr (inl (v, is, refused, claims_nothing (λ u said. ap (λ (s : Saying). s.yes) (same u v (one_verdict octets (Some u) (Some v) said is)) ∙ refused) answered.1, refl))

  -- and what an Accept asked was answered
  accept_answered : (v : Saying) (g : Gift) → IsVerdict octets (Some v) → v.yes ≡ true → IsGrant octets (Some g) → Wishes r limited octets answered.0 → IsAnswerTo r.pools (wish_of r limited g) claim
  accept_answered v g is accepted gives (inl none) = absurd (never v (one_verdict octets None (Some v) none.0 is))
  accept_answered v g is accepted gives (inr (inl refuses)) =
      absurd (both v.yes accepted (ap (λ (s : Saying). s.yes) (same v refuses.0 (one_verdict octets (Some v) (Some refuses.0) is refuses.1)) ∙ refuses.2))
  accept_answered v g is accepted gives (inr (inr accepts)) =
      subst (λ (h : Gift). IsAnswerTo r.pools (wish_of r limited h) claim) (same accepts.3 g (one_grant octets (Some accepts.3) (Some g) accepts.4 gives)) (answered_by (wish_of r limited accepts.3) accepts.5)

  pub decides_yes : (v : Saying) (g : Gift) → IsVerdict octets (Some v) → v.yes ≡ true → IsGrant octets (Some g) → Decides r limited octets claim (Some (told_of r limited claim v.text g))
  decides_yes v g is accepted gives = inr (inr (v, is, accepted, g, gives, accept_answered v g is accepted gives answered.1, refl))
