use Rattle.bng_term.proofs.Looks.{after-packet, idle_told, session_told, deadline_told}
use Rattle.bng_term.proofs.law.looks_tell_silence.Goals as goal

pub returns-clause-idle : goal.returns-clause-idle
returns-clause-idle c = idle_told

pub returns-clause-session : goal.returns-clause-session
returns-clause-session c = session_told

pub returns-clause-deadline : goal.returns-clause-deadline
returns-clause-deadline c = deadline_told

pub returns-clause-packet : goal.returns-clause-packet
returns-clause-packet c = after-packet
