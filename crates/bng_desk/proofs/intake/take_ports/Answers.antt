use Rattle.std.proofs.Common.{◌≡◌, ◌+◌, ◌*◌, ◌/◌, ◌^◌, ◌≤◌, ◌<◌, ℕ, Bool, ◌&&◌, List, [], ◌∷◌, ◌++◌, length, suc, arith, refl, sym, ap, subst, ◌∙◌}
use Rattle.std.proofs.Math.Nat.{mul-suc, div-mul-le_self, mul-le-mul_left}
use Rattle.std.proofs.lemmas.List.FromFn.{map-range_with_len_more}
use Rattle.bng_base.specs.declared.outside.Role.{Role}
use Rattle.bng_base.specs.declared.outside.Role.TheVariants.{Access}
use Rattle.bng_base.specs.declared.settings.AccessPort.{AccessPort}
use Rattle.bng_desk.specs.Intake.{Takes}
use Rattle.bng_desk.specs.Turn.{most_of, ports_up_to}
use Rattle.bng_desk.proofs.TakeLaws.{roles_none, roles_wider, roles_more, role_as, takes_length, takes_drawn}
use Rattle.bng_desk.proofs.intake.take_ports.Goals as goal

-- the share of each port, so many times, is within what all may have
shares : (ports place : ℕ) → place < ports → 224 / ports * place + 224 / ports ≤ 224
shares ports place l =
    let up : suc place ≡ place + 1 = omega arith in
    let next : 224 / ports * (place + 1) ≡ 224 / ports * place + 224 / ports = ap (λ (n : ℕ). 224 / ports * n) (sym up) ∙ mul-suc (224 / ports) place in
    let most : place + 1 ≤ ports = omega (arith, l) in
    omega (arith, next, mul-le-mul_left (224 / ports) most, div-mul-le_self 224 ports)

pub loop-place-init : goal.loop-place-init
loop-place-init g c = record {
  takes = roles_none (most_of c.args.rules.now) (224 / length c.as_slice-ports.result.now * 0) (g.P.Plant.told c.args.plant.now) c.args.draws.now c.args.items.now.items;
  capacity = refl;
}

pub take_role-read-requires-clause-room : goal.take_role-read-requires-clause-room
take_role-read-requires-clause-room g c =
    let told = g.P.Plant.told in
    let ports = length c.as_slice-ports.result.now in
    let place = c.loop-place.place in
    let so_far = c.loop-place.invariant in
    let room : length c.loop-place.items.items + 224 / ports ≤ c.loop-place.items.room =
    omega (
      arith,
      c.requires.room,
      so_far.capacity,
      shares ports place c.loop-place-test.true,
      takes_length (ports_up_to place) (most_of c.args.rules.now) (224 / ports * place) (told c.args.plant.now) (told c.loop-place.plant) c.args.draws.now c.loop-place.draws c.args.items.now.items c.loop-place.items.items c.loop-place.quiet so_far.takes,
    ) in
    room

pub take_role-read-requires-clause-drawn : goal.take_role-read-requires-clause-drawn
take_role-read-requires-clause-drawn g c =
    let told = g.P.Plant.told in
    let ports = length c.as_slice-ports.result.now in
    let place = c.loop-place.place in
    let so_far = c.loop-place.invariant in
    let low : c.loop-place.draws.drawn < 2 ^ 61 =
    omega (
      arith,
      c.requires.drawn,
      shares ports place c.loop-place-test.true,
      takes_drawn (ports_up_to place) (most_of c.args.rules.now) (224 / ports * place) (told c.args.plant.now) (told c.loop-place.plant) c.args.draws.now c.loop-place.draws c.args.items.now.items c.loop-place.items.items c.loop-place.quiet so_far.takes,
    ) in
    low

pub loop-place-preserved : goal.loop-place-preserved
loop-place-preserved g c =
    let told = g.P.Plant.told in
    let rules = c.args.rules.now in
    let place = c.loop-place.place in
    let ports = length c.as_slice-ports.result.now in
    let so_far = c.loop-place.invariant in
    let same : length rules.access ≡ ports = sym (ap (λ (ps : List AccessPort). length ps) c.as_slice-ports.ensures) in
    let most : 224 / length rules.access ≡ 224 / ports = ap (λ (n : ℕ). 224 / n) same in
    let more : ports_up_to place ++ Access (place + 1) ∷ [] ≡ ports_up_to (place + 1) = sym (map-range_with_len_more Access 1 place (place + 1) (omega arith)) in
    let up : suc place ≡ place + 1 = omega arith in
    let count : 224 / ports * place + 224 / ports ≡ 224 / ports * (place + 1) = sym (mul-suc (224 / ports) place) ∙ ap (λ (n : ℕ). 224 / ports * n) up in
    let p₀ = told c.args.plant.now in
    let p₁ = told c.loop-place.plant in
    let p₂ = told c.take_role-read.new.plant in
    let d₀ = c.args.draws.now in
    let d₂ = c.take_role-read.new.draws in
    let i₀ = c.args.items.now.items in
    let i₂ = c.take_role-read.new.items.items in
    let one = role_as (Access (place + 1)) (224 / ports) (224 / ports) (most_of rules) p₁ p₂ c.loop-place.draws d₂ c.loop-place.items.items i₂ c.take_role-read.result most c.take_role-read.ensures.takes in
    let read = roles_more (ports_up_to place) (Access (place + 1) ∷ []) (most_of rules) (224 / ports * place) (224 / ports) p₀ p₁ p₂ d₀ c.loop-place.draws d₂ i₀ c.loop-place.items.items i₂ c.loop-place.quiet c.take_role-read.result so_far.takes one in
    record {
      takes = subst (λ (b : Bool). Takes (ports_up_to (place + 1)) (most_of rules) (224 / ports * (place + 1)) p₀ p₂ d₀ d₂ i₀ i₂ b) (sym c.both-quiet.ensures)
          (subst (λ (roles : List Role). Takes roles (most_of rules) (224 / ports * (place + 1)) p₀ p₂ d₀ d₂ i₀ i₂ (c.loop-place.quiet && c.take_role-read.result)) more
          (subst (λ (n : ℕ). Takes (ports_up_to place ++ Access (place + 1) ∷ []) (most_of rules) n p₀ p₂ d₀ d₂ i₀ i₂ (c.loop-place.quiet && c.take_role-read.result)) count read));
      capacity = c.take_role-read.ensures.capacity ∙ so_far.capacity;
    }

pub returns-clause-takes : goal.returns-clause-takes
returns-clause-takes g c =
    let told = g.P.Plant.told in
    let rules = c.args.rules.now in
    let ports = length c.as_slice-ports.result.now in
    let same : length rules.access ≡ ports = sym (ap (λ (ps : List AccessPort). length ps) c.as_slice-ports.ensures) in
    let all : c.loop-place.place ≡ length rules.access = omega (arith, same, c.loop-place.auto.place-end, c.loop-place-test.false) in
    let read = roles_wider (ports_up_to c.loop-place.place) (most_of rules) (224 / ports * c.loop-place.place) 224 (told c.args.plant.now) (told c.loop-place.plant) c.args.draws.now c.loop-place.draws c.args.items.now.items c.loop-place.items.items c.loop-place.quiet
    (omega (arith, mul-le-mul_left (224 / ports) c.loop-place.auto.place-end, div-mul-le_self 224 ports)) c.loop-place.invariant.takes in
    subst (λ (n : ℕ). Takes (ports_up_to n) (most_of rules) 224 (told c.args.plant.now) (told c.loop-place.plant) c.args.draws.now c.loop-place.draws c.args.items.now.items c.loop-place.items.items c.loop-place.quiet) all read
