use Rattle.std.proofs.Common.{◌+◌, List, length, refl, subst, arith}
use Rattle.bng_base.specs.declared.settings.AccessPort.{AccessPort}
use Rattle.bng_gate.specs.Run.{BindsPorts, FailsAtPort}
use Rattle.bng_gate.proofs.Binding.{ports_after, fails_after, auth_after, next_fails}
use Rattle.bng_gate.proofs.top.bind_access.Goals as goal

pub returns-in-Err-bind_ports-clause-failed : goal.returns-in-Err-bind_ports-clause-failed
returns-in-Err-bind_ports-clause-failed g c =
    let told = g.P.Plant.told in
    let number = c.in-Err-bind_ports.number in
    let p₁ = told c.bind_ends.new.plant in
    let p₂ = told c.bind_ports.new.plant in
    fails_after c.args.config.now number (told c.args.plant.now) p₁ p₂ c.in_default.ensures.bound
    (subst (λ (ps : List AccessPort). FailsAtPort number ps p₁ p₂) c.as_slice.ensures c.in-Err-bind_ports.ensures.failed)

pub returns-in-Ok-clause-bound : goal.returns-in-Ok-clause-bound
returns-in-Ok-clause-bound g c =
    let told = g.P.Plant.told in
    let config = c.args.config.now in
    let p₀ = told c.args.plant.now in
    let p₁ = told c.bind_ends.new.plant in
    let p₂ = told c.bind_ports.new.plant in
    auth_after config p₀ p₂ (told c.bind.new.self)
    (ports_after config (length config.access) (2 + length config.access) p₀ p₁ p₂ refl (omega arith) c.in_default.ensures.bound
    (subst (λ (ps : List AccessPort). BindsPorts (length ps) ps p₁ p₂) c.as_slice.ensures c.in_default-bind_ports.ensures.bound))
    c.in-Ok.ensures.bound c.bind.ensures.heard c.bind.ensures.taken c.bind.ensures.sent c.bind.ensures.cause.later

pub returns-in-Failed-clause-failed : goal.returns-in-Failed-clause-failed
returns-in-Failed-clause-failed g c =
    let told = g.P.Plant.told in
    let config = c.args.config.now in
    let p₀ = told c.args.plant.now in
    let p₁ = told c.bind_ends.new.plant in
    let p₂ = told c.bind_ports.new.plant in
    next_fails config (2 + length config.access) p₀ p₂ (told c.bind.new.self)
    (ports_after config (length config.access) (2 + length config.access) p₀ p₁ p₂ refl (omega arith) c.in_default.ensures.bound
    (subst (λ (ps : List AccessPort). BindsPorts (length ps) ps p₁ p₂) c.as_slice.ensures c.in_default-bind_ports.ensures.bound))
    c.in-Failed.ensures.bound c.bind.ensures.heard c.bind.ensures.taken c.bind.ensures.sent c.bind.ensures.cause.later (c.bind.ensures.cause.cause c.in-Failed.is)
