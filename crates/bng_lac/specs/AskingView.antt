-- How far the ICRQs were handed to a channel.
use Rattle.bng_l2tp_reliable.specs.ChannelState.{ChannelState}
use Rattle.bng_lac.specs.declared.sending.SentCalls.{SentCalls}
use Rattle.bng_lac.specs.Steps.{Asking}

abbrev pub asking_of : ChannelState → SentCalls → Asking
asking_of c a = record { channel = c; serial = a.serial; left_out = a.left_out }
