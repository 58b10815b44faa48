-- The profile of a term that begins is one of the rules.
use Rattle.std.proofs.Common.{◌≡◌, inl, inr, ℕ, ◌<◌, Bool, true, false, List, [], ◌∷◌, Option, Some, None, length, refl, sym, ap, subst, ◌∙◌, arith}
use Rattle.std.specs.Option.{option_map}
use Rattle.std.specs.Prelude.{position, slice_get}
use Rattle.std.proofs.lemmas.List.Quantifiers.{position-Some}
use Rattle.bng_base.specs.declared.address.Ip4.{Ip4}
use Rattle.bng_base.specs.declared.book.Profile.{Profile}
use Rattle.bng_base.specs.declared.item.Claim.{Claim}
use Rattle.bng_base.specs.declared.item.Claim.TheVariants.{NoClaim, Claimed, Held, Exhausted}
use Rattle.bng_base.specs.declared.settings.NamedRange.{NamedRange}
use Rattle.bng_grant.specs.Grants.{Gift}
use Rattle.bng_steps.specs.declared.meters.Plan.{Plan}
use Rattle.bng_steps.specs.declared.rules.Rules.{Rules}
use Rattle.bng_steps.specs.Link.{Told}
use Rattle.bng_steps.specs.Metered.{is_called, place_for, plan_at, plan_for, plan_in}
use Rattle.bng_steps.specs.Wishes.{Decides, pool_for, refused_with, told_at, told_by, told_if, told_in, told_of}
use Rattle.bng_steps.proofs.Values.{none_some, same_some}

-- Plans ------------------------------------------------------------------------------------------------------------------

-- what was found stands in the list
pub placed_within : (test : Profile → Bool) (profiles : List Profile) (k : ℕ) → position test profiles ≡ Some k → k < length profiles
placed_within test [] k e = absurd (none_some k e)
placed_within test (p ∷ ps) k e = (position-Some test (p ∷ ps) k p e).0

place_within : (profiles : List Profile) (name : Option (List ℕ)) (k : ℕ) → place_for profiles name ≡ Some k → k < length profiles
place_within [] None k e = absurd (none_some k e)
place_within [] (Some name) k e = absurd (none_some k e)
place_within (p ∷ ps) None k e = let first : 0 ≡ k = same_some 0 k e in omega (arith, first)
place_within (p ∷ ps) (Some name) k e = placed_within (is_called name) (p ∷ ps) k e

profile_of : (place : ℕ) (o : Option Profile) → (plan_in place o).profile ≡ place
profile_of place None = refl
profile_of place (Some p) = refl

planned_at : (profiles : List Profile) (o : Option ℕ) (plan : Plan) → ((k : ℕ) → o ≡ Some k → k < length profiles) → option_map (plan_at profiles) o ≡ Some plan → plan.profile < length profiles
planned_at profiles None plan within e = absurd (none_some plan e)
planned_at profiles (Some k) plan within e =
    let is : k ≡ plan.profile = sym (profile_of k (slice_get profiles k)) ∙ ap (λ (q : Plan). q.profile) (same_some (plan_at profiles k) plan e) in
    subst (λ (n : ℕ). n < length profiles) is (within k refl)

plan_within : (profiles : List Profile) (name : Option (List ℕ)) (plan : Plan) → plan_for profiles name ≡ Some plan → plan.profile < length profiles
plan_within profiles name plan e = planned_at profiles (place_for profiles name) plan (place_within profiles name) e

-- What an Accept comes to --------------------------------------------------------------------------------------------------

by_plan : (plan : Plan) (claim : Claim) (text : List ℕ) (g : Gift) (a : Ip4) → (told_by plan claim text g).lease ≡ Some a → (told_by plan claim text g).plan ≡ plan
by_plan plan NoClaim text g a e = absurd (none_some a e)
by_plan plan (Claimed b) text g a e = refl
by_plan plan (Held b) text g a e = absurd (none_some a e)
by_plan plan (Exhausted k) text g a e = absurd (none_some a e)

at_plan : (plan : Plan) (limited : Bool) (o : Option ℕ) (claim : Claim) (text : List ℕ) (g : Gift) (a : Ip4) → (told_at plan limited o claim text g).lease ≡ Some a → (told_at plan limited o claim text g).plan ≡ plan
at_plan plan true None claim text g a e = absurd (none_some a e)
at_plan plan false None claim text g a e = absurd (none_some a e)
at_plan plan true (Some k) claim text g a e = absurd (none_some a e)
at_plan plan false (Some k) claim text g a e = by_plan plan claim text g a e

pub in_plan : (plan : Plan) (pools : List NamedRange) (limited : Bool) (claim : Claim) (text : List ℕ) (g : Gift) (a : Ip4) → (told_in plan pools limited claim text g).lease ≡ Some a → (told_in plan pools limited claim text g).plan ≡ plan
in_plan plan [] limited claim text g a e = refl
in_plan plan (p ∷ ps) limited claim text g a e = at_plan plan limited (pool_for (p ∷ ps) g.pool) claim text g a e

if_within : (o : Option Plan) (pools : List NamedRange) (limited : Bool) (claim : Claim) (text : List ℕ) (g : Gift) (a : Ip4) (count : ℕ) → ((plan : Plan) → o ≡ Some plan → plan.profile < count)
    → (told_if o pools limited claim text g).lease ≡ Some a → (told_if o pools limited claim text g).plan.profile < count
if_within None pools limited claim text g a count within e = absurd (none_some a e)
if_within (Some plan) pools limited claim text g a count within e =
    subst (λ (q : Plan). q.profile < count) (sym (in_plan plan pools limited claim text g a e)) (within plan refl)

-- a peer with an address has a profile that is there
pub decided_placed : (r : Rules) (limited : Bool) (octets : List ℕ) (claim : Claim) (t : Told) (a : Ip4) → Decides r limited octets claim (Some t) → t.lease ≡ Some a → t.plan.profile < length r.profiles
decided_placed r limited octets claim t a (inl (silent, none, e)) leased = absurd (none_some t (sym e))
decided_placed r limited octets claim t a (inr (inl (v, says, refused, none, e))) leased =
    absurd (none_some a (sym (ap (λ (u : Told). u.lease) (same_some t (refused_with v.text) e)) ∙ leased))
decided_placed r limited octets claim t a (inr (inr (v, says, accepted, g, grants, answers, e))) leased =
    let is = same_some t (told_of r limited claim v.text g) e in
    subst (λ (u : Told). u.plan.profile < length r.profiles) (sym is)
    (if_within (plan_for r.profiles g.profile) r.pools limited claim v.text g a (length r.profiles) (plan_within r.profiles g.profile) (sym (ap (λ (u : Told). u.lease) is) ∙ leased))
