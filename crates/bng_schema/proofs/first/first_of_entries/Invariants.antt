use Rattle.toml.specs.View.{view}
use Rattle.bng_schema.specs.First.{NoneOf}
use Rattle.bng_schema.specs.Keys.{entry_keys, of_entries}
use Rattle.bng_schema.specs.Rules.{Breaks}
use Rattle.bng_schema.proofs.first.first_of_entries.Given as goal

-- nor at one of the entries so far
abbrev pub invariant-loop-place : goal.invariant-loop-place
invariant-loop-place l = NoneOf (Breaks (view l.document) l.rule) (of_entries (entry_keys l.fn.table) l.place)
