use Rattle.bng_ppp.proofs.LinkPhases.{phases_kept, heard_phases, settled_phases}
use Rattle.bng_ppp.proofs.laws.steps_keep_phases.Goals as goal

pub returns : goal.returns
returns c = record {
  steps = λ r now random what old says new h keeps. phases_kept r now random what old says new keeps h;
  heard = λ r octets now random old turn h keeps. heard_phases r now random octets old turn keeps h;
  settled = λ r found lease text now random old turn h keeps. settled_phases r now random found lease text old turn keeps h;
}
