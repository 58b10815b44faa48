use Rattle.std.proofs.Common.{take, flat_map}
use Rattle.toml.specs.View.{view}
use Rattle.bng_schema.specs.First.{NoneOf}
use Rattle.bng_schema.specs.Checks.{table_mentions, IsUnknown}
use Rattle.bng_schema.proofs.unknown.unknown_in_tables.Given as goal

-- the names of the tables so far are known
abbrev pub invariant-loop-table : goal.invariant-loop-table
invariant-loop-table l = NoneOf IsUnknown (flat_map (table_mentions (view l.document)) (take l.table-index l.tables))
