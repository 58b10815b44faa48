use Rattle.bng_l2tp_reliable.proofs.Runs.{to_right, to_left}
use Rattle.bng_l2tp_reliable.proofs.law.delivers_in_order.Goals as goal

pub returns-clause-to_right : goal.returns-clause-to_right
returns-clause-to_right c events window window' moment moment' recent = to_right events window window' moment moment' recent

pub returns-clause-to_left : goal.returns-clause-to_left
returns-clause-to_left c events window window' moment moment' recent = to_left events window window' moment moment' recent
