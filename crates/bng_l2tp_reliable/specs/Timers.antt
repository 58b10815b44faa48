-- The timers of a channel, by RFC 2661 sections 5.5 and 5.8. Moments are in milliseconds.
use Rattle.std.specs.Prelude.{ℕ, ◌+◌, ◌-◌, ◌^◌, true, ◌&&◌, not, nat_le, min, Option, Some, None, unwrap_or, map, if◌then◌else◌}
use Rattle.bng_l2tp_reliable.specs.declared.answers.Due.{Due}
use Rattle.bng_l2tp_reliable.specs.declared.answers.Due.TheVariants.{Nothing, Resend, Hello, GiveUp}
use Rattle.bng_l2tp_reliable.specs.ChannelState.{ChannelState}
use Rattle.bng_l2tp_reliable.specs.Flight.{flight_due, flight_deadline, sent_again}

-- how long no message comes before a HELLO is asked for
abbrev pub silence : ℕ
silence = 60000

-- what a silence asks for: a HELLO, once in each
abbrev pub silence_due : ChannelState → ℕ → Due
silence_due c moment = if not c.greeted && nat_le (c.heard + silence) moment then Hello else Nothing

-- the first of the two that asks for something
abbrev pub or_else : Due → Due → Due
or_else Nothing other = other
or_else Resend other = Resend
or_else Hello other = Hello
or_else GiveUp other = GiveUp

-- what is due: what the messages in flight ask for comes before what a silence asks for
abbrev pub due_of : ChannelState → ℕ → Due
due_of c moment = or_else (flight_due c.sends moment) (silence_due c moment)

-- the channel after that was told
abbrev pub after_due : ChannelState → ℕ → Due → ChannelState
after_due c moment Nothing = record c { moment = moment }
after_due c moment Resend = record c { sends = map (sent_again moment) c.sends; moment = moment }
after_due c moment Hello = record c { greeted = true; moment = moment }
after_due c moment GiveUp = record c { moment = moment }

-- the last moment that there is
abbrev pub never : ℕ
never = 2 ^ 64 - 1

-- when a HELLO is due
abbrev pub silence_deadline : ChannelState → Option ℕ
silence_deadline c = if c.greeted then None else Some (c.heard + silence)

-- the first moment at which something is due
abbrev pub deadline_of : ChannelState → ℕ
deadline_of c = min (min (unwrap_or (flight_deadline c.sends) never) (unwrap_or (silence_deadline c) never)) never
