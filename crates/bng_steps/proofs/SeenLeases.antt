-- A session whose live term was looked at and goes on: it has the lease of before, but for what is known of when its packets passed.
use Rattle.std.proofs.Common.{◌≡◌, ℕ, Option, Some, None, refl, sym}
use Rattle.bng_term.specs.Lifetimes.{seen}
use Rattle.bng_steps.specs.declared.session.Lease.{Lease}
use Rattle.bng_steps.specs.Passing.{last_passed, looked_on}
use Rattle.bng_steps.proofs.Values.{none_some, same_some}

-- that lease
abbrev pub seen_at : ℕ → Lease → Lease
seen_at at l = record l { life = seen l.life (last_passed at l) }

pub looked_was : (at : ℕ) (lease : Option Lease) (l : Lease) → looked_on at lease ≡ Some l → (k : Lease) × (lease ≡ Some k) × (l ≡ seen_at at k)
looked_was at None l e = absurd (none_some l e)
looked_was at (Some k) l e = (k, refl, sym (same_some (seen_at at k) l e))
