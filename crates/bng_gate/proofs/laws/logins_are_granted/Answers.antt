use Rattle.bng_gate.proofs.LoginsGranted.{logins_granted}
use Rattle.bng_gate.proofs.laws.logins_are_granted.Goals as goal

pub returns : goal.returns
returns c = logins_granted
