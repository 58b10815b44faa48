use Rattle.bng_l2tp_reliable.proofs.Runs.{more_to_right, more_to_left}
use Rattle.bng_l2tp_reliable.proofs.law.goes_on.Goals as goal

pub returns-clause-to_right : goal.returns-clause-to_right
returns-clause-to_right c events window window' moment moment' arrived arrived' recent flying =
    more_to_right events window window' moment moment' recent arrived arrived' flying

pub returns-clause-to_left : goal.returns-clause-to_left
returns-clause-to_left c events window window' moment moment' arrived arrived' recent flying =
    more_to_left events window window' moment moment' recent arrived arrived' flying
