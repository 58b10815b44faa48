use Rattle.std.proofs.Common.{◌≡◌, ℕ, ◌+◌, ◌-◌, ◌≤◌, List, ◌++◌, length, sym, ap, subst, ◌∙◌, arith}
use Rattle.bng_base.specs.declared.item.Item.{Item}
use Rattle.bng_desk.specs.declared.settlement.Works.{Works}
use Rattle.bng_desk.specs.Items.{drawn_from, ticks_of}
use Rattle.bng_desk.specs.Random.{Drawn}
use Rattle.bng_desk.specs.Taking.{AreInOrder}
use Rattle.bng_desk.proofs.GatherLaws.{Gathered, auth_bounds, gathered}
use Rattle.bng_desk.proofs.Readying.{Shards}
use Rattle.bng_desk.proofs.Staying.{few_asked}
use Rattle.bng_desk.proofs.gathering.gather.Given.{Over}
use Rattle.bng_desk.proofs.gathering.gather.Goals as goal
use Rattle.bng_desk.proofs.gathering.gather.Goals.{After-both, After-take_if-silent, Start}

-- few stand first
few : (g : Over) (c : Start g) → length c.args.items.now.items ≤ 160
few g c = few_asked c.args.items.now.items c.requires.first.all_asked c.requires.first.few

-- and with what Auth gave there are few verdicts still
module _ (g : Over) (c : After-take_if-silent g) where
  bounds : (c.args.front.verdicts + (length c.take_if-silent.new.items.items - length c.args.items.now.items) ≤ 128) × (length c.args.items.now.items ≤ length c.take_if-silent.new.items.items) × (c.take_if-silent.new.draws.drawn ≤ c.args.works.now.draws.drawn + 128)
  bounds =
      auth_bounds c.args.front.reads c.args.front.verdicts c.args.items.now.items (g.P.Plant.told c.args.plant.now) (g.P.Plant.told c.take_if-silent.new.plant) c.args.works.now.lane c.take_if-silent.new.lane c.args.works.now.draws c.take_if-silent.new.draws c.take_if-silent.new.items.items c.take_if-silent.result
      c.take_if-silent.ensures.takes (omega (arith, c.requires.first.count, c.requires.first.few.verdicts)) c.requires.first.none

pub take_if-silent-requires-clause-room : goal.take_if-silent-requires-clause-room
take_if-silent-requires-clause-room g c = omega (arith, few g (goal.at.take_if-silent-requires-clause-room g c).Start, c.requires.room)

pub overflow_add-verdicts : goal.overflow_add-verdicts
overflow_add-verdicts g c = omega (arith, (bounds g (goal.at.overflow_add-verdicts g c).After-take_if-silent).0, c.len.ensures, c.len-before.ensures)

pub take_data-quiet-requires-clause-room : goal.take_data-quiet-requires-clause-room
take_data-quiet-requires-clause-room g c =
    let b = bounds g (goal.at.take_data-quiet-requires-clause-room g c).After-take_if-silent in
    omega (arith, b.0, b.1, few g (goal.at.take_data-quiet-requires-clause-room g c).Start, c.requires.room, c.take_if-silent.ensures.capacity)

pub take_data-quiet-requires-clause-drawn : goal.take_data-quiet-requires-clause-drawn
take_data-quiet-requires-clause-drawn g c = omega (arith, (bounds g (goal.at.take_data-quiet-requires-clause-drawn g c).After-take_if-silent).2, c.requires.drawn)

pub overflow_sub-most : goal.overflow_sub-most
overflow_sub-most g c = omega (arith, (bounds g (goal.at.overflow_sub-most g c).After-take_if-silent).0, c.len.ensures, c.len-before.ensures)

pub add_timeouts-requires-clause-room : goal.add_timeouts-requires-clause-room
add_timeouts-requires-clause-room g c =
    let b = bounds g (goal.at.add_timeouts-requires-clause-room g c).After-take_if-silent in
    omega (arith, b.0, b.1, few g (goal.at.add_timeouts-requires-clause-room g c).Start, c.requires.room, c.take_if-silent.ensures.capacity, c.take_data-quiet.ensures.few, c.take_data-quiet.ensures.capacity)

pub add_timeouts-requires-clause-drawn : goal.add_timeouts-requires-clause-drawn
add_timeouts-requires-clause-drawn g c = omega (arith, (bounds g (goal.at.add_timeouts-requires-clause-drawn g c).After-take_if-silent).2, c.take_data-quiet.ensures.few_drawn, c.requires.drawn)

pub add_ticks-requires-clause-numbers : goal.add_ticks-requires-clause-numbers
add_ticks-requires-clause-numbers g c = subst AreInOrder (sym c.as_slice.ensures.value) c.requires.numbers

pub add_ticks-requires-clause-few : goal.add_ticks-requires-clause-few
add_ticks-requires-clause-few g c = omega (arith, ap (λ (vs : Shards). length vs) c.as_slice.ensures.value, c.requires.few_shards)

pub add_ticks-requires-clause-room : goal.add_ticks-requires-clause-room
add_ticks-requires-clause-room g c =
    let b = bounds g (goal.at.add_ticks-requires-clause-room g c).After-take_if-silent in
    omega (arith, b.0, b.1, few g (goal.at.add_ticks-requires-clause-room g c).Start, c.requires.room, c.take_if-silent.ensures.capacity, c.take_data-quiet.ensures.few, c.take_data-quiet.ensures.capacity, c.add_timeouts.ensures.few, c.add_timeouts.ensures.capacity, ap (λ (vs : Shards). length vs) c.as_slice.ensures.value, c.requires.few_shards)

pub add_ticks-requires-clause-drawn : goal.add_ticks-requires-clause-drawn
add_ticks-requires-clause-drawn g c = omega (arith, (bounds g (goal.at.add_ticks-requires-clause-drawn g c).After-take_if-silent).2, c.take_data-quiet.ensures.few_drawn, c.add_timeouts.ensures.few_drawn, c.requires.drawn)

module _ (g : Over) (c : After-both g) where
  abbrev was : Works
  was = c.args.works.now

  -- the shards are those before
  shards_are : c.as_slice.result.now ≡ was.shards.items
  shards_are = c.as_slice.ensures.value

  abbrev ticked : List Item → Drawn → Type 0
  ticked items draws = (items ≡ c.add_timeouts.new.items.items ++ drawn_from c.add_timeouts.new.draws.seed c.add_timeouts.new.draws.drawn (ticks_of c.args.now was.shards.items)) × (draws ≡ record c.add_timeouts.new.draws { drawn = c.add_timeouts.new.draws.drawn + length (ticks_of c.args.now was.shards.items) })

  ticks : ticked c.add_ticks.new.items.items c.add_ticks.new.draws
  ticks = (
    c.add_ticks.ensures.items ∙ ap (λ (vs : Shards). c.add_timeouts.new.items.items ++ drawn_from c.add_timeouts.new.draws.seed c.add_timeouts.new.draws.drawn (ticks_of c.args.now vs)) shards_are,
    c.add_ticks.ensures.drawn ∙ ap (λ (vs : Shards). let x : Drawn = record c.add_timeouts.new.draws { drawn = c.add_timeouts.new.draws.drawn + length (ticks_of c.args.now vs) } in x) shards_are,
  )

  is_gathered : Gathered c.args.rules.now was.shards.items c.args.now c.args.front.reads c.args.front.verdicts c.args.items.now.items (g.P.Plant.told c.args.plant.now) (g.P.Plant.told c.take_data-quiet.new.plant) was.lane c.add_timeouts.new.lane was.draws c.add_ticks.new.draws c.add_ticks.new.items.items c.both.result
  is_gathered =
      gathered c.args.rules.now was.shards.items c.args.now (128 - (c.args.front.verdicts + (c.len.result - c.len-before.result))) c.args.front.reads c.args.front.verdicts c.args.items.now.items (g.P.Plant.told c.args.plant.now) (g.P.Plant.told c.take_if-silent.new.plant) (g.P.Plant.told c.take_data-quiet.new.plant)
      was.lane c.take_if-silent.new.lane c.add_timeouts.new.lane was.draws c.take_if-silent.new.draws c.take_data-quiet.new.draws c.add_timeouts.new.draws c.add_ticks.new.draws
      c.take_if-silent.new.items.items c.take_data-quiet.new.items.items c.add_timeouts.new.items.items c.add_ticks.new.items.items c.take_if-silent.result c.take_data-quiet.result c.both.result
      c.requires.first c.requires.few_shards c.requires.numbers c.take_if-silent.ensures.takes c.take_data-quiet.ensures.takes
      (ap (λ (k : ℕ). 128 - (c.args.front.verdicts + (k - c.len-before.result))) c.len.ensures ∙ ap (λ (k : ℕ). 128 - (c.args.front.verdicts + (length c.take_if-silent.new.items.items - k))) c.len-before.ensures) c.add_timeouts.ensures.adds ticks.0 ticks.1 c.both.ensures

pub returns-clause-gathers : goal.returns-clause-gathers
returns-clause-gathers g c = (is_gathered g c).gathers

pub returns-clause-items : goal.returns-clause-items
returns-clause-items g c = (is_gathered g c).items

pub returns-clause-few_outs : goal.returns-clause-few_outs
returns-clause-few_outs g c = (is_gathered g c).few_outs

pub returns-clause-few_drawn : goal.returns-clause-few_drawn
returns-clause-few_drawn g c = (is_gathered g c).few_drawn
