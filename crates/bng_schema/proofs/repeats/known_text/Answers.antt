use Rattle.toml.specs.View.{view}
use Rattle.bng_schema.specs.Keys.{path_of, value_at}
use Rattle.bng_schema.proofs.Lookups.{text_found, text_not_found}
use Rattle.bng_schema.proofs.repeats.known_text.Goals as goal

pub returns-clause-found : goal.returns-clause-found
returns-clause-found c = text_found (λ s. s.now) c.text_at.result (value_at (path_of c.args.key) (view c.args.document.now)) c.text_at.ensures

pub returns-clause-none : goal.returns-clause-none
returns-clause-none c = text_not_found (λ s. s.now) c.text_at.result (value_at (path_of c.args.key) (view c.args.document.now)) c.text_at.ensures
