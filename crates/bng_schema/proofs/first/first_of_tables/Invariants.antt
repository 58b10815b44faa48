use Rattle.std.proofs.Common.{take, flat_map}
use Rattle.toml.specs.View.{view}
use Rattle.bng_schema.specs.First.{NoneOf}
use Rattle.bng_schema.specs.Keys.{table_keys}
use Rattle.bng_schema.specs.Rules.{Breaks}
use Rattle.bng_schema.proofs.first.first_of_tables.Given as goal

-- the rule is broken at no key of the tables so far
abbrev pub invariant-loop-table : goal.invariant-loop-table
invariant-loop-table l = NoneOf (Breaks (view l.document) l.rule) (flat_map (table_keys (view l.document)) (take l.table-index l.tables))
