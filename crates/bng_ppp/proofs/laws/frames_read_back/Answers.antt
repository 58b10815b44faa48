use Rattle.bng_ppp.proofs.MessageLaws.{frame_back, packet_back, message_one}
use Rattle.bng_ppp.proofs.laws.frames_read_back.Goals as goal

pub returns : goal.returns
returns c = record { frame = frame_back; packet = packet_back; one = message_one }
