use Rattle.std.proofs.Common.{Bool, ◌&&◌, [], ◌∷◌, ◌++◌, length, refl, sym, ap, subst, ◌∙◌, arith}
use Rattle.bng_base.specs.declared.outside.Role.TheVariants.{Core}
use Rattle.bng_desk.specs.Intake.{Takes}
use Rattle.bng_desk.specs.Turn.{most_of, tunnel_roles, ports_up_to, data_roles}
use Rattle.bng_desk.proofs.TakeLaws.{roles_more, role_as, takes_drawn, takes_length}
use Rattle.bng_desk.proofs.intake.take_data.Goals as goal

pub take_role-core-requires-clause-room : goal.take_role-core-requires-clause-room
take_role-core-requires-clause-room g c =
    let told = g.P.Plant.told in
    let rules = c.args.rules.now in
    omega (
      arith,
      c.requires.room,
      c.take_tunnel-tunnel.ensures.few,
      c.take_tunnel-tunnel.ensures.capacity,
      c.take_ports-ports.ensures.capacity,
      takes_length (ports_up_to (length rules.access)) (most_of rules) 224 (told c.take_tunnel-tunnel.new.plant) (told c.take_ports-ports.new.plant) c.take_tunnel-tunnel.new.draws c.take_ports-ports.new.draws c.take_tunnel-tunnel.new.items.items c.take_ports-ports.new.items.items c.take_ports-ports.result c.take_ports-ports.ensures.takes,
    )

pub take_role-core-requires-clause-drawn : goal.take_role-core-requires-clause-drawn
take_role-core-requires-clause-drawn g c =
    let told = g.P.Plant.told in
    let rules = c.args.rules.now in
    omega (
      arith,
      c.requires.drawn,
      c.take_tunnel-tunnel.ensures.few_drawn,
      takes_drawn (ports_up_to (length rules.access)) (most_of rules) 224 (told c.take_tunnel-tunnel.new.plant) (told c.take_ports-ports.new.plant) c.take_tunnel-tunnel.new.draws c.take_ports-ports.new.draws c.take_tunnel-tunnel.new.items.items c.take_ports-ports.new.items.items c.take_ports-ports.result c.take_ports-ports.ensures.takes,
    )

pub returns-clause-takes : goal.returns-clause-takes
returns-clause-takes g c =
    let told = g.P.Plant.told in
    let rules = c.args.rules.now in
    let ports = ports_up_to (length rules.access) in
    let p₀ = told c.args.plant.now in
    let p₁ = told c.take_tunnel-tunnel.new.plant in
    let p₂ = told c.take_ports-ports.new.plant in
    let p₃ = told c.take_role-core.new.plant in
    let d₀ = c.args.draws.now in
    let d₁ = c.take_tunnel-tunnel.new.draws in
    let d₂ = c.take_ports-ports.new.draws in
    let d₃ = c.take_role-core.new.draws in
    let i₀ = c.args.items.now.items in
    let i₁ = c.take_tunnel-tunnel.new.items.items in
    let i₂ = c.take_ports-ports.new.items.items in
    let i₃ = c.take_role-core.new.items.items in
    let tunnel : Takes (tunnel_roles rules.serves_tunnels) (most_of rules) 224 p₀ p₁ d₀ d₁ i₀ i₁ c.take_tunnel-tunnel.result = c.take_tunnel-tunnel.ensures.takes (most_of rules) refl in
    let core = role_as Core 224 224 (most_of rules) p₂ p₃ d₂ d₃ i₂ i₃ c.take_role-core.result refl c.take_role-core.ensures.takes in
    let others = roles_more ports (Core ∷ []) (most_of rules) 224 224 p₁ p₂ p₃ d₁ d₂ d₃ i₁ i₂ i₃ c.take_ports-ports.result c.take_role-core.result c.take_ports-ports.ensures.takes core in
    let all = roles_more (tunnel_roles rules.serves_tunnels) (ports ++ Core ∷ []) (most_of rules) 224 448 p₀ p₁ p₃ d₀ d₁ d₃ i₀ i₁ i₃ c.take_tunnel-tunnel.result (c.take_ports-ports.result && c.take_role-core.result) tunnel others in
    subst (λ (b : Bool). Takes (data_roles rules) (most_of rules) 672 p₀ p₃ d₀ d₃ i₀ i₃ b) (sym (c.both.ensures ∙ ap (λ (b : Bool). c.take_tunnel-tunnel.result && b) c.both-others.ensures)) all

pub returns-clause-few : goal.returns-clause-few
returns-clause-few g c =
    let told = g.P.Plant.told in
    let rules = c.args.rules.now in
    omega (
      arith,
      c.take_tunnel-tunnel.ensures.few,
      takes_length (ports_up_to (length rules.access)) (most_of rules) 224 (told c.take_tunnel-tunnel.new.plant) (told c.take_ports-ports.new.plant) c.take_tunnel-tunnel.new.draws c.take_ports-ports.new.draws c.take_tunnel-tunnel.new.items.items c.take_ports-ports.new.items.items c.take_ports-ports.result c.take_ports-ports.ensures.takes,
      takes_length (Core ∷ []) (λ _. 224) 224 (told c.take_ports-ports.new.plant) (told c.take_role-core.new.plant) c.take_ports-ports.new.draws c.take_role-core.new.draws c.take_ports-ports.new.items.items c.take_role-core.new.items.items c.take_role-core.result c.take_role-core.ensures.takes,
    )

pub returns-clause-few_drawn : goal.returns-clause-few_drawn
returns-clause-few_drawn g c =
    let told = g.P.Plant.told in
    let rules = c.args.rules.now in
    omega (
      arith,
      c.take_tunnel-tunnel.ensures.few_drawn,
      takes_drawn (ports_up_to (length rules.access)) (most_of rules) 224 (told c.take_tunnel-tunnel.new.plant) (told c.take_ports-ports.new.plant) c.take_tunnel-tunnel.new.draws c.take_ports-ports.new.draws c.take_tunnel-tunnel.new.items.items c.take_ports-ports.new.items.items c.take_ports-ports.result c.take_ports-ports.ensures.takes,
      takes_drawn (Core ∷ []) (λ _. 224) 224 (told c.take_ports-ports.new.plant) (told c.take_role-core.new.plant) c.take_ports-ports.new.draws c.take_role-core.new.draws c.take_ports-ports.new.items.items c.take_role-core.new.items.items c.take_role-core.result c.take_role-core.ensures.takes,
    )
