use Rattle.bng_spell.proofs.Repeats.{numbers_from}
use Rattle.bng_spell.proofs.parts.put_numbers.Goals as goal

pub returns : goal.returns
returns g c = numbers_from c.from.result c.args.numbers.now c.in-len1-up.len_at_least c.from.ensures c.put_number.ensures c.put_more_numbers.ensures
