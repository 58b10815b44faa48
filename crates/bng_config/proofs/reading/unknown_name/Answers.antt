use Rattle.bng_schema.specs.Checks.{mention_of}
use Rattle.bng_config.proofs.reading.unknown_name.Goals as goal

pub returns-in-Ok : goal.returns-in-Ok
returns-in-Ok c = record { mention = mention_of c.args.unknown; first = c.requires; written = c.in-Ok.ensures }
