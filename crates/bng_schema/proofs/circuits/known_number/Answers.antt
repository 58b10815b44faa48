use Rattle.toml.specs.View.{view}
use Rattle.bng_schema.specs.declared.keys.Key.TheVariants.{Of}
use Rattle.bng_schema.specs.Keys.{path_of, value_at}
use Rattle.bng_schema.proofs.Lookups.{number_found, number_not_found}
use Rattle.bng_schema.proofs.circuits.known_number.Goals as goal

pub returns-clause-found : goal.returns-clause-found
returns-clause-found c = number_found c.integer_at.result (value_at (path_of (Of c.args.field c.args.place)) (view c.args.document.now)) c.integer_at.ensures

pub returns-clause-none : goal.returns-clause-none
returns-clause-none c = number_not_found c.integer_at.result (value_at (path_of (Of c.args.field c.args.place)) (view c.args.document.now)) c.integer_at.ensures
