use Rattle.bng_sessions.proofs.SessionLaws.{same-with_value, same-without, sum-with_value, sum-without, used-with_value, used-without}
use Rattle.bng_sessions.proofs.laws.lists_change_by_one.Goals as goal

pub returns-clause-put : goal.returns-clause-put
returns-clause-put g c = λ s n v none. same-with_value s n v none

pub returns-clause-removed : goal.returns-clause-removed
returns-clause-removed g c = λ s n v some. same-without s n v some

pub returns-clause-sum_put : goal.returns-clause-sum_put
returns-clause-sum_put g c = λ s n v f none. sum-with_value s n f v none

pub returns-clause-sum_removed : goal.returns-clause-sum_removed
returns-clause-sum_removed g c = λ s n v f some. sum-without s n f v some

pub returns-clause-used_put : goal.returns-clause-used_put
returns-clause-used_put g c = λ s n v none. used-with_value s n v none

pub returns-clause-used_removed : goal.returns-clause-used_removed
returns-clause-used_removed g c = λ s n v some. used-without s n v some
