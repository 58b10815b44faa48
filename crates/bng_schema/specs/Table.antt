-- The rows of the code.
use Rattle.bng_schema.specs.declared.table.KeyEntry.{KeyEntry}
use Rattle.bng_schema.specs.Keys.{KeyRow}

-- what a row of the code says
abbrev pub row_view : KeyEntry → KeyRow
row_view r = record { table = r.table; name = r.name.now; needed = r.needed; form = r.form }
