-- An opening as it is read.
use Rattle.bng_spell.specs.declared.opening.ReadOpening.{ReadOpening}
use Rattle.bng_spell.specs.Texts.{OpeningView}

abbrev pub read_view : ReadOpening → OpeningView
read_view o = record { now = o.now; wall = o.wall; seed = o.seed; configuration = o.configuration.items }
