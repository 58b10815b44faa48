use Rattle.bng_automaton.proofs.TableLaws.{in_table}
use Rattle.bng_automaton.specs.Table.{column}
use Rattle.bng_automaton.proofs.table.cell.Goals as goal

pub returns-clause-transition : goal.returns-clause-transition
returns-clause-transition c = in_table c.args.event (column c.args.state) _ c.cell_in_rows.ensures.cell
