-- An exercise, from its turns.
use Rattle.std.proofs.Common.{◌≡◌, ◌≤◌, ◌⊎◌, inl, inr, ℕ, None, subst, arith}
use Rattle.bng_base.specs.Causes.{Rose}
use Rattle.bng_base.specs.Stretch.{Outside}
use Rattle.bng_base.specs.Told.{ClockTold, TraceTold, SinkTold, Grows}
use Rattle.bng_config.specs.declared.config.Config.{Config}
use Rattle.bng_desk.specs.Model.{Desk}
use Rattle.bng_gate.specs.declared.texts.Unopened.{Unopened}
use Rattle.bng_gate.specs.declared.texts.Unopened.TheVariants.{Configuration, Seed, Control, Core, Access, Auth, Acct, Tunnel, Coa}
use Rattle.bng_gate.specs.declared.texts.Refusal.{Refusal}
use Rattle.bng_gate.specs.declared.texts.Refusal.TheVariants.{Usage, Refused, CannotOpen, OutOfMemory, TraceFailed, OutputFailed}
use Rattle.bng_gate.specs.Commands.{ExerciseEnds}
use Rattle.bng_gate.specs.Exercise.{IsExercise, exercise_seed, among_peers, peers_beside, IsPlayed, IsUnplayed, TellsLine, Exercises, records_told, Exercised, SafelyExercised}
use Rattle.bng_gate.specs.Run.{World, outside, turns_most, FailsAt, Course, CompletesTo, IsUnserved, WantsToServe}
use Rattle.bng_gate.proofs.Exercising.{keeps_rules}
use Rattle.bng_gate.proofs.Headlines.{exercised_of, safe_of}
use Rattle.bng_gate.proofs.Refusals.{not_told}

-- No call of the peers fails ------------------------------------------------------------------------------------------------

no_rise : ¬ Rose 0 0
no_rise r = omega (arith, r)

module _ (config : Config) (trace trace' : TraceTold) (last : ℕ) where
  all_bound : (what : Unopened) → ¬ FailsAt config (among_peers 0 trace).plant (among_peers last trace').plant what
  all_bound Configuration f = f
  all_bound Seed f = f
  all_bound Control f = no_rise f.rose
  all_bound Core f = no_rise f.rose
  all_bound (Access number) f = no_rise f.fails.rose
  all_bound Auth f = no_rise f.rose
  all_bound Acct f = no_rise f.rose
  all_bound Tunnel f = no_rise f.fails.rose
  all_bound Coa f = no_rise f.fails.rose

  -- so an exercise is not served to its end for want of memory or for its trace alone
  unplayed_at : (workers : ℕ) → IsExercise workers config → (refusal : Refusal) → ((out : SinkTold) → IsUnserved config turns_most exercise_seed (among_peers 0 trace) (among_peers last trace') out out refusal) → IsUnplayed workers trace trace' refusal
  unplayed_at workers is Usage w = absurd (w (record { bytes = None; faults = 0 }))
  unplayed_at workers is (Refused fault) w = absurd (w (record { bytes = None; faults = 0 }))
  unplayed_at workers is (CannotOpen what) w = absurd (all_bound what (w (record { bytes = None; faults = 0 })).0)
  unplayed_at workers is OutOfMemory w = inr (record { config = config; is_exercise = is; last = last; wants = (w (record { bytes = None; faults = 0 })).0 })
  unplayed_at workers is TraceFailed w = record { config = config; is_exercise = is; last = last; fails = (w (record { bytes = None; faults = 0 })).0 }
  unplayed_at workers is OutputFailed w = absurd (no_rise (w (record { bytes = None; faults = 0 })).fails.fails.rose)

-- what is told before and after, where the clock begins at the moment 0
abbrev pub before_peers : ClockTold → TraceTold → Outside
before_peers clock trace = record { plant = (among_peers 0 trace).plant; clock = clock; trace = trace }

module _ (workers : ℕ) (config : Config) (is : IsExercise workers config) (clock : ClockTold) (starts : clock ≡ record { answers = None; last = 0 }) (trace trace' : TraceTold) (last : ℕ) where
  pub played : (d : Desk) → CompletesTo config turns_most exercise_seed (before_peers clock trace) (among_peers last trace') d → IsPlayed workers trace trace' d
  played d c = record {
    config = config;
    is_exercise = is;
    last = last;
    completes = subst (λ (k : ClockTold). CompletesTo config turns_most exercise_seed (before_peers k trace) (among_peers last trace') d) starts c;
  }

  pub unplayed : (refusal : Refusal) → ((out : SinkTold) → IsUnserved config turns_most exercise_seed (before_peers clock trace) (among_peers last trace') out out refusal) → IsUnplayed workers trace trace' refusal
  unplayed refusal w =
      unplayed_at config trace trace' last workers is refusal (subst (λ (k : ClockTold). (out : SinkTold) → IsUnserved config turns_most exercise_seed (before_peers k trace) (among_peers last trace') out out refusal) starts w)

-- What it comes to ----------------------------------------------------------------------------------------------------------

by_line : (subscribers workers : ℕ) → 1 ≤ workers → workers ≤ 16 → (old new : World) (status : ℕ) → (status ≡ 0) ⊎ (status ≡ 6) → (d : Desk) → IsPlayed workers old.trace new.trace d → TellsLine subscribers d old.out new.out old.err new.err status
    → Exercised subscribers workers status old new
by_line subscribers workers some few old new status s d played (inl t) = exercised_of subscribers workers some few old new status d played t.0 t.1
by_line subscribers workers some few old new status s d played (inr t) = absurd (not_told old.err new.err t.0 status t.2 s)

by_end : (subscribers workers : ℕ) → 1 ≤ workers → workers ≤ 16 → (old new : World) (status : ℕ) → (status ≡ 0) ⊎ (status ≡ 6) → Exercises subscribers workers old.trace new.trace old.out new.out old.err new.err status → Exercised subscribers workers status old new
by_end subscribers workers some few old new status s (inl t) = by_line subscribers workers some few old new status s t.0 t.1 t.2
by_end subscribers workers some few old new status s (inr t) = absurd (not_told old.err new.err t.0 status t.3 s)

-- with status 0 or 6
pub exercised : (subscribers workers : ℕ) → 1 ≤ workers → workers ≤ 16 → (old new : World) (status : ℕ) → ExerciseEnds subscribers workers old new status → (status ≡ 0) ⊎ (status ≡ 6) → Exercised subscribers workers status old new
exercised subscribers workers some few old new status e s = by_end subscribers workers some few old new status s e.exercises

-- The turns that were made ----------------------------------------------------------------------------------------------------

module _ (workers : ℕ) (some : 1 ≤ workers) (few : workers ≤ 16) (old new : World) where
  abbrev UntoldOrSafe : Type 0
  UntoldOrSafe = (new.trace ≡ old.trace) ⊎ SafelyExercised workers old new

  turned_safe : (config : Config) → IsExercise workers config → (last : ℕ) → Course config turns_most exercise_seed (outside (peers_beside 0 old)) (outside (peers_beside last new)) → UntoldOrSafe
  turned_safe config is last course =
      inr (record {
        config = config;
        is_exercise = is;
        last = last;
        course = course;
        traced = subst (λ (t : TraceTold). Grows t.rounds new.trace.rounds (records_told course.turns course.endings)) course.untraced course.told.rounds;
        safe = safe_of config (keeps_rules workers some few config is) turns_most exercise_seed (peers_beside 0 old) (peers_beside last new) course;
      })

  wants_safe : (config : Config) → IsExercise workers config → (last : ℕ) → WantsToServe config turns_most exercise_seed (among_peers 0 old.trace) (among_peers last new.trace) → UntoldOrSafe
  wants_safe config is last (inl w) = inl w.1
  wants_safe config is last (inr c) = turned_safe config is last c.course

  unplayed_safe : (refusal : Refusal) → IsUnplayed workers old.trace new.trace refusal → UntoldOrSafe
  unplayed_safe Usage w = absurd w
  unplayed_safe (Refused fault) w = absurd w
  unplayed_safe (CannotOpen what) w = absurd w
  unplayed_safe OutOfMemory (inl same) = inl same
  unplayed_safe OutOfMemory (inr w) = wants_safe w.config w.is_exercise w.last w.wants
  unplayed_safe TraceFailed w = turned_safe w.config w.is_exercise w.last w.fails.course
  unplayed_safe OutputFailed w = absurd w

  all_safe : (subscribers status : ℕ) → Exercises subscribers workers old.trace new.trace old.out new.out old.err new.err status → UntoldOrSafe
  all_safe subscribers status (inl e) = turned_safe e.1.config e.1.is_exercise e.1.last e.1.completes.completes.course
  all_safe subscribers status (inr e) = unplayed_safe e.0 e.1

  -- with whatever status
  pub safely_exercised : (subscribers status : ℕ) → ExerciseEnds subscribers workers old new status → (new.trace ≡ old.trace) ⊎ SafelyExercised workers old new
  safely_exercised subscribers status e = all_safe subscribers status e.exercises
