use Rattle.std.proofs.Common.{◌++◌, Bool, ◌&&◌, List, [], count_by, length, ap, ◌∙◌, arith}
use Rattle.bng_base.specs.declared.item.Item.{Item}
use Rattle.bng_desk.specs.Coa.{has_places, replies_in}
use Rattle.bng_desk.specs.Intake.{TakesCoa}
use Rattle.bng_desk.specs.Items.{is_verdict_item}
use Rattle.bng_desk.specs.Reading.{is_empty}
use Rattle.bng_desk.proofs.CoaLaws.{begun_with, first_drawn, places_left, stands_first}
use Rattle.bng_desk.proofs.Staying.{few_asked}
use Rattle.bng_desk.proofs.gathering.begin.Given.{Over}
use Rattle.bng_desk.proofs.gathering.begin.Goals as goal
use Rattle.bng_desk.proofs.gathering.begin.Goals.{After-take_if-quiet}

pub move_all-requires : goal.move_all-requires
move_all-requires g c = record { room = omega (arith, few_asked c.args.works.now.kept.items c.requires.asked c.requires.few_kept, c.requires.room, ap (λ (xs : List Item). length xs) c.requires.empty) }

pub take_if-quiet-requires-clause-in_hand : goal.take_if-quiet-requires-clause-in_hand
take_if-quiet-requires-clause-in_hand g c reads = places_left c.args.rules.now.serves_changes c.both-may_read.result c.is_none-reads.result c.has_places.result c.both.result c.args.works.now.coa c.both.ensures c.both-may_read.ensures c.has_places.ensures reads

pub take_if-quiet-requires-clause-room : goal.take_if-quiet-requires-clause-room
take_if-quiet-requires-clause-room g c =
    omega (arith, few_asked c.args.works.now.kept.items c.requires.asked c.requires.few_kept, c.requires.room, c.move_all.ensures.to_room, ap (λ (xs : List Item). length xs) (c.move_all.ensures.moved ∙ ap (λ (xs : List Item). xs ++ c.args.works.now.kept.items) c.requires.empty))

module _ (g : Over) (c : After-take_if-quiet g) where
  abbrev reads : Bool
  reads = c.args.rules.now.serves_changes && (is_empty c.args.works.now.kept.items && has_places c.args.works.now.coa)

  begun : TakesCoa reads c.args.named.moment c.args.named.wall (g.P.Plant.told c.args.plant.now) (g.P.Plant.told c.take_if-quiet.new.plant) c.args.works.now.coa c.take_if-quiet.new.coa c.args.works.now.draws c.take_if-quiet.new.draws c.args.works.now.kept.items c.take_if-quiet.new.lists.items.items [] (replies_in c.take_if-quiet.new.lists.repeats.items) c.take_if-quiet.result
  begun =
      begun_with c.both.result reads c.args.named.moment c.args.named.wall (g.P.Plant.told c.args.plant.now) (g.P.Plant.told c.take_if-quiet.new.plant) c.args.works.now.coa c.take_if-quiet.new.coa c.args.works.now.draws c.take_if-quiet.new.draws
      c.move_all.new.to.items c.args.works.now.kept.items c.take_if-quiet.new.lists.items.items (replies_in c.args.lists.now.repeats.items) [] (replies_in c.take_if-quiet.new.lists.repeats.items) c.take_if-quiet.result
      (c.both.ensures ∙ ap (λ (b : Bool). c.args.rules.now.serves_changes && b) (c.both-may_read.ensures ∙ ap (λ (b : Bool). b && c.has_places.result) (c.is_none-reads.ensures ∙ ap is_empty c.as_slice.ensures.value) ∙ ap (λ (b : Bool). is_empty c.args.works.now.kept.items && b) c.has_places.ensures))
      (c.move_all.ensures.moved ∙ ap (λ (xs : List Item). xs ++ c.args.works.now.kept.items) c.requires.empty) (ap replies_in c.requires.none) c.take_if-quiet.ensures.takes

pub returns-clause-takes : goal.returns-clause-takes
returns-clause-takes g c = begun g c

pub returns-clause-first : goal.returns-clause-first
returns-clause-first g c =
    stands_first c.args.rules.now.serves_changes (has_places c.args.works.now.coa) c.args.named.moment c.args.named.wall (g.P.Plant.told c.args.plant.now) (g.P.Plant.told c.take_if-quiet.new.plant) c.args.works.now.coa c.take_if-quiet.new.coa c.args.works.now.draws c.take_if-quiet.new.draws
    c.args.works.now.kept.items c.take_if-quiet.new.lists.items.items [] (replies_in c.take_if-quiet.new.lists.repeats.items) c.take_if-quiet.result (begun g c)
    c.is_none-reads.result c.verdicts_in-verdicts.result (c.is_none-reads.ensures ∙ ap is_empty c.as_slice.ensures.value) (c.verdicts_in-verdicts.ensures ∙ ap (λ (xs : List Item). count_by is_verdict_item xs) c.as_slice-2.ensures.value) c.requires.asked c.requires.few_kept c.requires.kept.whole

pub returns-clause-few_drawn : goal.returns-clause-few_drawn
returns-clause-few_drawn g c =
    first_drawn c.args.rules.now.serves_changes (has_places c.args.works.now.coa) c.args.named.moment c.args.named.wall (g.P.Plant.told c.args.plant.now) (g.P.Plant.told c.take_if-quiet.new.plant) c.args.works.now.coa c.take_if-quiet.new.coa c.args.works.now.draws c.take_if-quiet.new.draws
    c.args.works.now.kept.items c.take_if-quiet.new.lists.items.items [] (replies_in c.take_if-quiet.new.lists.repeats.items) c.take_if-quiet.result (begun g c) c.requires.few_kept.changes
