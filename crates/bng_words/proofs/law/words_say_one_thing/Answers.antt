use Rattle.bng_words.proofs.MeaningLaws.{one_saying}
use Rattle.bng_words.proofs.law.words_say_one_thing.Goals as goal

pub returns : goal.returns
returns c = one_saying
