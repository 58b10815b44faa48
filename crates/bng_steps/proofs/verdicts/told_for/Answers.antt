use Rattle.std.proofs.Common.{false, List, ℕ, None, Some, subst, sym}
use Rattle.bng_grant.specs.Grants.{gift}
use Rattle.bng_verdict.specs.Verdicts.{said}
use Rattle.bng_steps.specs.Limits.{no_limits}
use Rattle.bng_steps.specs.Link.{Told}
use Rattle.bng_steps.specs.Metered.{unmetered}
use Rattle.bng_steps.specs.Wishes.{Decides}
use Rattle.bng_steps.proofs.Wishing.{allowed, decides_no, decides_nothing, decides_yes, not_false, not_so}
use Rattle.bng_steps.proofs.verdicts.told_for.Goals as goal

pub returns-in_err-verdict : goal.returns-in_err-verdict
returns-in_err-verdict c =
    subst (Decides c.args.rules.now c.args.limited c.args.octets.now c.args.claim) (sym c.from_residual.ensures)
    (decides_nothing c.args.rules.now c.args.limited c.args.octets.now c.args.claim c.requires.answered c.in_err-verdict.ensures)

pub returns-then-not-verdict : goal.returns-then-not-verdict
returns-then-not-verdict c =
    let v = said c.in_ok-verdict.verdict in
    subst (λ (class : List ℕ). Decides c.args.rules.now c.args.limited c.args.octets.now c.args.claim (Some (record { yes = false; lease = None; text = v.text; class = class; limits = no_limits; plan = unmetered }))) (sym c.new.ensures)
    (decides_no c.args.rules.now c.args.limited c.args.octets.now c.args.claim c.requires.answered v c.in_ok-verdict.ensures (not_so v.yes c.if-not-verdict.true))

pub returns : goal.returns
returns c =
    let v = said c.in_ok-verdict.verdict in
    subst (λ (t : Told). Decides c.args.rules.now c.args.limited c.args.octets.now c.args.claim (Some t)) (sym c.told_of.ensures)
    (decides_yes c.args.rules.now c.args.limited c.args.octets.now c.args.claim c.requires.answered v (gift c.in-Some.grant) c.in_ok-verdict.ensures (not_false v.yes c.if-not-verdict.false) c.in-Some.ensures.grant)

pub told_of-requires-clause-interval : goal.told_of-requires-clause-interval
told_of-requires-clause-interval c = allowed c.args.octets.now (gift c.in-Some.grant) c.in-Some.ensures.grant
