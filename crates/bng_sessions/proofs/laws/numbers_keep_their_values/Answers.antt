use Rattle.bng_sessions.proofs.SessionLaws.{value_at-with_value, value_at-with_other, value_at-without, value_at-without_other, with_value-without}
use Rattle.bng_sessions.proofs.laws.numbers_keep_their_values.Goals as goal

pub returns-clause-put : goal.returns-clause-put
returns-clause-put g c = λ s n v. value_at-with_value s n v

pub returns-clause-others_put : goal.returns-clause-others_put
returns-clause-others_put g c = λ s n v m differ. value_at-with_other s n v m differ

pub returns-clause-removed : goal.returns-clause-removed
returns-clause-removed g c = λ s n. value_at-without s n

pub returns-clause-others_removed : goal.returns-clause-others_removed
returns-clause-others_removed g c = λ s n m differ. value_at-without_other s n m differ

pub returns-clause-replaced : goal.returns-clause-replaced
returns-clause-replaced g c = λ s n v. with_value-without s n v
