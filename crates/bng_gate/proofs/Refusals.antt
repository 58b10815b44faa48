-- The statuses of refusals.
use Rattle.std.proofs.Common.{◌≡◌, ◌≤◌, ◌⊎◌, inl, inr, ℕ, [], arith}
use Rattle.bng_base.specs.Told.{SinkTold}
use Rattle.bng_desk.specs.Model.{Desk}
use Rattle.bng_gate.specs.declared.texts.Refusal.{Refusal}
use Rattle.bng_gate.specs.declared.texts.Refusal.TheVariants.{Usage, Refused, CannotOpen, OutOfMemory, TraceFailed, OutputFailed}
use Rattle.bng_gate.specs.Run.{Concludes, Told}
use Rattle.bng_gate.specs.Texts.{status_of}
use Rattle.bng_gate.specs.Unanswered.{unanswered_of}

-- a refusal has a status of its own
refused_status : (refusal : Refusal) → (1 ≤ status_of refusal) × (status_of refusal ≤ 5)
refused_status Usage = (omega arith, omega arith)
refused_status (Refused fault) = (omega arith, omega arith)
refused_status (CannotOpen what) = (omega arith, omega arith)
refused_status OutOfMemory = (omega arith, omega arith)
refused_status TraceFailed = (omega arith, omega arith)
refused_status OutputFailed = (omega arith, omega arith)

pub not_told : (old new : SinkTold) (refusal : Refusal) (status : ℕ) → Told old new refusal status → (status ≡ 0) ⊎ (status ≡ 6) → ⊥
not_told old new refusal status (inl t) (inl s) = let r = refused_status refusal in omega (arith, t.0, s, r.0)
not_told old new refusal status (inl t) (inr s) = let r = refused_status refusal in omega (arith, t.0, s, r.1)
not_told old new refusal status (inr t) (inl s) = omega (arith, t.0, s)
not_told old new refusal status (inr t) (inr s) = omega (arith, t.0, s)

-- with status 0 no Stop is left
pub none_left : (d : Desk) (old new : SinkTold) (status : ℕ) → Concludes d old new status → status ≡ 0 → unanswered_of d ≡ []
none_left d old new status (inl c) s = c.1
none_left d old new status (inr (inl c)) s = absurd (omega (arith, c.0, s))
none_left d old new status (inr (inr (inl c))) s = absurd (omega (arith, c.0, s))
none_left d old new status (inr (inr (inr t))) s = absurd (not_told old new OutOfMemory status t (inl s))
