use Rattle.bng_spell.proofs.Spellings.{spells}
use Rattle.bng_spell.proofs.spell.spell_opening.Goals as goal

pub returns : goal.returns
returns g c =
    let told = g.O.Sink.told in
    spells (told c.args.out.now) (told c.put_opening.new.out) (told c.close.new.out) c.new-block.result c.put_opening.new.block _ c.close.result c.new-block.ensures.octets c.new-block.ensures.failed c.put_opening.ensures c.close.ensures
