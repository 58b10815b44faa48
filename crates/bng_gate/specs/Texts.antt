-- What is written where a run fails.
use Rattle.std.specs.Prelude.{ℕ, List, ◌++◌, codes}
use Rattle.std.specs.Fmt.{decimal}
use Rattle.bng_config.specs.declared.fault.Fault.{Fault}
use Rattle.bng_config.specs.Texts.{fault_text}
use Rattle.bng_gate.specs.declared.texts.Line.{Line}
use Rattle.bng_gate.specs.declared.texts.Unopened.{Unopened}
use Rattle.bng_gate.specs.declared.texts.Unopened.TheVariants.{Configuration, Seed, Control, Core, Access, Auth, Acct, Tunnel, Coa}
use Rattle.bng_gate.specs.declared.texts.Refusal.{Refusal}
use Rattle.bng_gate.specs.declared.texts.Refusal.TheVariants.{Usage, Refused, CannotOpen, OutOfMemory, TraceFailed, OutputFailed}

abbrev pub usage_text : List ℕ
usage_text =
    codes "usage: bng serve CONFIG [--trace FILE] [--rounds N] | check CONFIG | exercise N [--workers W] | audit FILE\n"

abbrev pub refused_text : Fault → List ℕ
refused_text fault = codes "bng: config: " ++ fault_text fault ++ codes "\n"

-- an access port is named by its number
abbrev pub opening_name : Unopened → List ℕ
opening_name Configuration = codes "configuration"
opening_name Seed = codes "seed"
opening_name Control = codes "control"
opening_name Core = codes "core"
opening_name (Access number) = codes "access " ++ decimal number
opening_name Auth = codes "auth"
opening_name Acct = codes "acct"
opening_name Tunnel = codes "tunnel"
opening_name Coa = codes "coa"

abbrev pub cannot_open_text : Unopened → List ℕ
cannot_open_text what = codes "bng: cannot open " ++ opening_name what ++ codes "\n"

abbrev pub refusal_text : Refusal → List ℕ
refusal_text Usage = usage_text
refusal_text (Refused fault) = refused_text fault
refusal_text (CannotOpen what) = cannot_open_text what
refusal_text OutOfMemory = codes "bng: out of memory\n"
refusal_text TraceFailed = codes "bng: trace failed\n"
refusal_text OutputFailed = codes "bng: output failed\n"

abbrev pub status_of : Refusal → ℕ
status_of Usage = 1
status_of (Refused fault) = 2
status_of (CannotOpen what) = 3
status_of OutOfMemory = 4
status_of TraceFailed = 5
status_of OutputFailed = 5

-- the four parts of a line, one after the other
abbrev pub line_text : Line → List ℕ
line_text l = l.front.now ++ (l.middle.bytes ++ (l.name.now ++ l.back.now))
