use Rattle.std.proofs.Common.{Bool, true, [], ◌∷◌, sym, subst}
use Rattle.bng_base.specs.declared.outside.Role.TheVariants.{Tunnel}
use Rattle.bng_desk.specs.Intake.{Takes}
use Rattle.bng_desk.specs.Turn.{tunnel_roles}
use Rattle.bng_desk.proofs.TakeLaws.{role_as, roles_none, takes_drawn, takes_length}
use Rattle.bng_desk.proofs.intake.take_tunnel.Goals as goal

pub returns-then-serves-clause-takes : goal.returns-then-serves-clause-takes
returns-then-serves-clause-takes g c = λ most same.
    let told = g.P.Plant.told in
    subst (λ (b : Bool). Takes (tunnel_roles b) most 224 (told c.args.plant.now) (told c.take_role.new.plant) c.args.draws.now c.take_role.new.draws c.args.items.now.items c.take_role.new.items.items c.take_role.result) (sym c.if-serves.true)
    (role_as Tunnel 224 224 most (told c.args.plant.now) (told c.take_role.new.plant) c.args.draws.now c.take_role.new.draws c.args.items.now.items c.take_role.new.items.items c.take_role.result same c.take_role.ensures.takes)

pub returns-then-serves-clause-few : goal.returns-then-serves-clause-few
returns-then-serves-clause-few g c =
    let told = g.P.Plant.told in
    takes_length (Tunnel ∷ []) (λ _. 224) 224 (told c.args.plant.now) (told c.take_role.new.plant) c.args.draws.now c.take_role.new.draws c.args.items.now.items c.take_role.new.items.items c.take_role.result c.take_role.ensures.takes

pub returns-then-serves-clause-few_drawn : goal.returns-then-serves-clause-few_drawn
returns-then-serves-clause-few_drawn g c =
    let told = g.P.Plant.told in
    takes_drawn (Tunnel ∷ []) (λ _. 224) 224 (told c.args.plant.now) (told c.take_role.new.plant) c.args.draws.now c.take_role.new.draws c.args.items.now.items c.take_role.new.items.items c.take_role.result c.take_role.ensures.takes

pub returns-else-serves-clause-takes : goal.returns-else-serves-clause-takes
returns-else-serves-clause-takes g c = λ most same.
    let told = g.P.Plant.told in
    subst (λ (b : Bool). Takes (tunnel_roles b) most 224 (told c.args.plant.now) (told c.args.plant.now) c.args.draws.now c.args.draws.now c.args.items.now.items c.args.items.now.items true) (sym c.if-serves.false)
    (roles_none most 224 (told c.args.plant.now) c.args.draws.now c.args.items.now.items)
