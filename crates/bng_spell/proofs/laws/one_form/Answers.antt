use Rattle.bng_spell.proofs.OneForm.{opening_once, round_once, trace_once}
use Rattle.bng_spell.proofs.laws.one_form.Goals as goal

pub returns-clause-openings : goal.returns-clause-openings
returns-clause-openings c = opening_once

pub returns-clause-rounds : goal.returns-clause-rounds
returns-clause-rounds c = round_once

pub returns-clause-traces : goal.returns-clause-traces
returns-clause-traces c = trace_once
