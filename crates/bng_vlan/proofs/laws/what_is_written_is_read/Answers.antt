use Rattle.bng_vlan.proofs.Putting.{one_owner}
use Rattle.bng_vlan.proofs.ReadBack.{reads_tags, reads_frame, reads_entry}
use Rattle.bng_vlan.proofs.laws.what_is_written_is_read.Goals as goal

pub returns-clause-tags : goal.returns-clause-tags
returns-clause-tags c = λ t octets vlans long alone. reads_tags t octets vlans long alone

pub returns-clause-frame : goal.returns-clause-frame
returns-clause-frame c = λ t octets long. reads_frame t octets long

pub returns-clause-entry : goal.returns-clause-entry
returns-clause-entry c = λ m i e peer octets came sound stands peer_is long alone is. reads_entry m i e peer octets came sound stands peer_is long alone is

pub returns-clause-none_else : goal.returns-clause-none_else
returns-clause-none_else c = λ m came i j d e sound at there hit also. one_owner m came sound i j d e at there hit also
