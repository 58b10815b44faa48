use Rattle.std.proofs.Common.{◌==◌, rules, tests}
use Rattle.std.proofs.lemmas.Iterator.{YieldsList-from_slice}
use Rattle.std.proofs.lemmas.Iterator.Search.{find_from_yields_List}
use Rattle.bng_base.specs.declared.settings.Static.{Static}
use Rattle.bng_steps.proofs.Circuits.{circuit_some, circuit_absent}
use Rattle.bng_steps.proofs.served.circuit_with.Goals as goal

pub returns-clause-found : goal.returns-clause-found
returns-clause-found c =
    let test = λ (d : Static). d.session.0 == c.args.session.0 in
    let found = find_from_yields_List test _ _ c.find.result c.find.ensures.ran (YieldsList-from_slice c.args.circuits.now cc) (λ x b q k. search (rules, tests)) in
    circuit_some (λ b. b.now) c.args.circuits.now c.args.session.0 c.find.result c.requires.apart found

pub returns-clause-none : goal.returns-clause-none
returns-clause-none c =
    let test = λ (d : Static). d.session.0 == c.args.session.0 in
    let found = find_from_yields_List test _ _ c.find.result c.find.ensures.ran (YieldsList-from_slice c.args.circuits.now cc) (λ x b q k. search (rules, tests)) in
    circuit_absent (λ b. b.now) c.args.circuits.now c.args.session.0 c.find.result c.requires.apart found
