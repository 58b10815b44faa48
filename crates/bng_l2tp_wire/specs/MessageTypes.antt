-- Message Types of control messages.
use Rattle.std.specs.Prelude.{ℕ}

-- RFC 2661 section 3.2, of the control connection
abbrev pub sccrq : ℕ
sccrq = 1

abbrev pub sccrp : ℕ
sccrp = 2

abbrev pub scccn : ℕ
scccn = 3

abbrev pub stop_ccn : ℕ
stop_ccn = 4

abbrev pub hello : ℕ
hello = 6

-- of calls
abbrev pub ocrq : ℕ
ocrq = 7

abbrev pub ocrp : ℕ
ocrp = 8

abbrev pub occn : ℕ
occn = 9

abbrev pub icrq : ℕ
icrq = 10

abbrev pub icrp : ℕ
icrp = 11

abbrev pub iccn : ℕ
iccn = 12

abbrev pub cdn : ℕ
cdn = 14

-- of errors and of the session
abbrev pub wen : ℕ
wen = 15

abbrev pub sli : ℕ
sli = 16
