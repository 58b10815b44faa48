use Rattle.bng_plant.proofs.RoundLaws.{rounds_more_cut}
use Rattle.bng_plant.proofs.rounds.Rounds.push.Goals as goal
use Rattle.bng_plant.specs.Parts.{parts_of}

pub returns-clause-rounds : goal.returns-clause-rounds
returns-clause-rounds c =
    let old = c.args.self.now in
    let round = c.args.round.now in
    rw (c.push_reserved-2.ensures.items, c.push.ensures.parts, c.push_reserved.ensures.items, c.push_all.ensures.parts, c.push-2.ensures.parts, c.push-3.ensures.parts, c.push-4.ensures.parts, c.as_slice.ensures, c.as_slice-2.ensures, c.as_slice-3.ensures, c.as_slice-4.ensures, c.as_slice-5.ensures, c.as_slice-6.ensures)
    (rounds_more_cut old.heads.items (record { number = round.number; moment = round.moment; wall = round.wall }) (parts_of old.allowances) round.allowances old.counts.items (parts_of old.journals) round.journals (parts_of old.loose) round.loose (parts_of old.outs) round.outs (parts_of old.refused) round.refused
    old.allowances_column.0 old.counts_column.0 old.counted old.loose_column.0 old.outs_column.0 old.refused_column.0)
