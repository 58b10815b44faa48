use Rattle.bng_lac.proofs.Soundness.{unused_lac, opened_lac, called_lac, ended_lac, lac_sound, due_sound, stop_sound}
use Rattle.bng_lac.proofs.Up.{lac_number}
use Rattle.bng_lac.proofs.law.a_tunnel_is_sound.Goals as goal

pub returns-clause-made : goal.returns-clause-made
returns-clause-made c = λ rules. unused_lac rules

pub returns-clause-opened : goal.returns-clause-opened
returns-clause-opened c = λ s lns number random now. opened_lac s lns number random now

pub returns-clause-called : goal.returns-clause-called
returns-clause-called c = λ s session now t e. called_lac s session now t e

pub returns-clause-parted : goal.returns-clause-parted
returns-clause-parted c = λ s session now t. ended_lac s session now t

pub returns-clause-heard : goal.returns-clause-heard
returns-clause-heard c = λ s m random now t e. lac_sound s m random now t e

pub returns-clause-due : goal.returns-clause-due
returns-clause-due c = λ s now t e. due_sound s now t e

pub returns-clause-stopped : goal.returns-clause-stopped
returns-clause-stopped c = λ s now t. stop_sound s now t

pub returns-clause-number : goal.returns-clause-number
returns-clause-number c = λ s m random now. lac_number s m random now
