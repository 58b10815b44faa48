use Rattle.std.proofs.Common.{rules, ◌/◌, ◌<◌, length}
use Rattle.bng_slots.proofs.BitLaws.{given_back}
use Rattle.bng_slots.proofs.vacancy.Vacancy.give_back.Goals as goal

pub returns : goal.returns
returns c =
    let long : c.args.place / 64 < length c.args.self.now.words = search rules in
    given_back _ c.args.place long
