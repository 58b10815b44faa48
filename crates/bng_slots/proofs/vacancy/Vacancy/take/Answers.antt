use Rattle.std.proofs.Common.{rules, ◌/◌, ◌<◌, length}
use Rattle.bng_slots.proofs.BitLaws.{taken}
use Rattle.bng_slots.proofs.vacancy.Vacancy.take.Goals as goal

pub returns : goal.returns
returns c =
    let long : c.args.place / 64 < length c.args.self.now.words = search rules in
    taken _ c.args.place long
