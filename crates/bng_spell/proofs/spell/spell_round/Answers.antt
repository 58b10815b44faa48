use Rattle.bng_spell.proofs.Spellings.{spells}
use Rattle.bng_spell.proofs.spell.spell_round.Goals as goal

pub returns : goal.returns
returns g c =
    let told = g.O.Sink.told in
    spells (told c.args.out.now) (told c.put_round.new.out) (told c.close.new.out) c.new-block.result c.put_round.new.block _ c.close.result c.new-block.ensures.octets c.new-block.ensures.failed c.put_round.ensures c.close.ensures
