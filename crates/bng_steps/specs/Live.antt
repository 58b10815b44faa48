-- What the terms that have no Stop yet carried, in all.
use Rattle.std.specs.Prelude.{true, false, List}
use Rattle.bng_base.specs.declared.book.Book.{Book}
use Rattle.bng_engine.specs.Quantities.{Octets, Packets}
use Rattle.bng_engine.specs.Sums.{is_any}
use Rattle.bng_engine.specs.Views.{Row, rows_where}

abbrev pub live_in : List Row → Book
live_in rows = record {
  input = rows_where Octets is_any true rows;
  output = rows_where Octets is_any false rows;
  input_packets = rows_where Packets is_any true rows;
  output_packets = rows_where Packets is_any false rows;
}
