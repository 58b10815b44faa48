use Rattle.toml.specs.View.{view}
use Rattle.bng_schema.specs.First.{NoneOf}
use Rattle.bng_schema.specs.Keys.{of_entries}
use Rattle.bng_schema.specs.Checks.{entry_mentions, IsUnknown}
use Rattle.bng_schema.proofs.unknown.unknown_in_table.Given as goal

-- those of the entries so far are known
abbrev pub invariant-loop-place : goal.invariant-loop-place
invariant-loop-place l = NoneOf IsUnknown (of_entries (entry_mentions (view l.document) l.table) l.place)
