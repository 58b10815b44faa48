-- The causes of drops by number, in the order in which they are looked for.
use Rattle.std.specs.Prelude.{ℕ}
use Rattle.bng_base.specs.declared.fate.DropCause.{DropCause}
use Rattle.bng_base.specs.declared.fate.DropCause.TheVariants.{Malformed, NoSession, NotOpen, Expired, Spoofed, TooBig, Exceeded, LinkFailed, WantOfMemory}

abbrev pub number_of : DropCause → ℕ
number_of Malformed = 0
number_of NoSession = 1
number_of NotOpen = 2
number_of Expired = 3
number_of Spoofed = 4
number_of TooBig = 5
number_of Exceeded = 6
number_of LinkFailed = 7
number_of WantOfMemory = 8
