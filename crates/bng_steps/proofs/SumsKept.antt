-- The sums of terms say the same where terms end, and where none is touched.
use Rattle.std.proofs.Common.{◌≡◌, ℕ, List, map, Option, refl, sym, ap, subst, ◌∙◌, arith}
use Rattle.bng_engine.specs.Views.{Row, rows_where}
use Rattle.bng_steps.specs.declared.session.Lease.{Lease}
use Rattle.bng_steps.specs.TermRows.{KeepSums, SumsStay, TermsView, closed_rows, row_recast_by}
use Rattle.bng_steps.proofs.Closing.{closed_same}
use Rattle.bng_steps.proofs.Recasting.{recast_rows}

pub keeps_same : (t : TermsView) → KeepSums t t
keeps_same t = record { sums = λ q pick input. refl; room = refl }

pub keeps_then : (t u v : TermsView) → KeepSums t u → KeepSums u v → KeepSums t v
keeps_then t u v h k = record { sums = λ q pick input. k.sums q pick input ∙ h.sums q pick input; room = k.room ∙ h.room }

pub closed_keeps : (t t' : TermsView) (lease : Option Lease) (cause : Option ℕ) → t' ≡ record t { rows = closed_rows lease cause t.rows } → KeepSums t t'
closed_keeps t t' lease cause is = subst (λ (u : TermsView). KeepSums t u) (sym is) (record { sums = closed_same lease cause t.rows; room = refl })

pub recast_keeps : (t t' : TermsView) (serial place : ℕ) → t' ≡ record t { rows = map (row_recast_by serial place) t.rows } → KeepSums t t'
recast_keeps t t' serial place is = subst (λ (u : TermsView). KeepSums t u) (sym is) (record { sums = λ q pick input. ap (λ (rs : List Row). rows_where q pick input rs) (recast_rows serial place t.rows); room = refl })

pub keeps_stay : (t u : TermsView) → KeepSums t u → SumsStay t u
keeps_stay t u h =
    let room = h.room in
    record { sums = h.sums; room = omega (arith, room) }
