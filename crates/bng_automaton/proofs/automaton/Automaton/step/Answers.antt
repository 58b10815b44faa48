use Rattle.std.proofs.Common.{◌^◌, rules}
use Rattle.bng_automaton.specs.Machine.{Machine}
use Rattle.bng_automaton.proofs.TimerLaws.{is_some-started_after, started_after-below, IsSome-iff}
use Rattle.bng_automaton.proofs.StepLaws.{Steps-one}
use Rattle.bng_automaton.proofs.automaton.Automaton.step.Goals as goal

pub invariant_of-self-2 : goal.invariant_of-self-2
invariant_of-self-2 c =
    let inside = c.self.inside in
    let was : Machine = record { state = inside.state; counter = inside.counter; started = inside.started; max_configure = inside.max_configure; max_terminate = inside.max_terminate; max_failure = inside.max_failure } in
    rw c.started_after-self-inside.ensures (
      is_some-started_after was c.args.event c.cell-next.result.0.now c.cell-next.result.1 c.args.now c.self.invariant.0 c.cell-next.ensures.transition,
      started_after-below was c.cell-next.result.0.now c.cell-next.result.1 c.args.now (2 ^ 60) c.requires c.self.invariant.1,
    )

pub returns-clause-steps : goal.returns-clause-steps
returns-clause-steps c = search rules

pub returns-clause-only : goal.returns-clause-only
returns-clause-only c = λ actions other steps. Steps-one _ _ _ _ _ _ _ steps (returns-clause-steps c)

pub returns-clause-runs : goal.returns-clause-runs
returns-clause-runs c = IsSome-iff _ _ (invariant_of-self-2 c).0
