use Rattle.std.proofs.Common.{arith}
use Rattle.bng_config.proofs.Answered.{answer_keeps, answer_refused, answer_same, answer_read, answer_faulty}
use Rattle.bng_config.proofs.reading.read.Goals as goal

pub returns-clause-keeps : goal.returns-clause-keeps
returns-clause-keeps c =
    answer_keeps c.args.text.now c.in-Ok.table (omega arith) c.in-Ok.ensures.ok c.judged.result c.judged.ensures.found

pub returns-clause-refused : goal.returns-clause-refused
returns-clause-refused c =
    answer_refused c.args.text.now c.in-Ok.table (omega arith) c.in-Ok.ensures.ok c.judged.result c.judged.ensures.refused

pub returns-clause-same : goal.returns-clause-same
returns-clause-same c =
    answer_same c.args.text.now c.in-Ok.table (omega arith) c.in-Ok.ensures.ok c.judged.result c.judged.ensures.found

pub returns-clause-read : goal.returns-clause-read
returns-clause-read c =
    answer_read c.args.text.now c.in-Ok.table (omega arith) c.in-Ok.ensures.ok c.judged.result c.judged.ensures.refused

pub returns-clause-faulty : goal.returns-clause-faulty
returns-clause-faulty c =
    answer_faulty c.args.text.now c.in-Ok.table (omega arith) c.in-Ok.ensures.ok c.judged.result c.judged.ensures.found c.judged.ensures.refused
