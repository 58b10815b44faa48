use Rattle.std.proofs.Common.{sym, ◌∙◌}
use Rattle.std.proofs.lemmas.Bool.{false≢true}
use Rattle.bng_steps.proofs.served.Served.none_stays.Goals as goal

pub returns-in-Some-clause-no : goal.returns-in-Some-clause-no
returns-in-Some-clause-no g c = λ e none. false≢true (sym (none _) ∙ c.in-Some.ensures.found.stays)

pub returns-in-None-clause-yes : goal.returns-in-None-clause-yes
returns-in-None-clause-yes g c = λ e. c.in-None.ensures.none
