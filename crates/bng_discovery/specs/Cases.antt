-- The answers to a PADI and to a PADR, as the cases are looked at one after the other (RFC 2516 sections 5.1 and 5.3).
use Rattle.std.specs.Prelude.{Bool, if◌then◌else◌}
use Rattle.bng_discovery.specs.declared.answers.Answer.{Answer}
use Rattle.bng_discovery.specs.declared.answers.Answer.TheVariants.{Offer, Make, Again, Refuse, Ignore}
use Rattle.bng_discovery.specs.declared.answers.ErrorTag.TheVariants.{ServiceNameError, AcSystemError}

abbrev pub padi_answer : (served fits : Bool) → Answer
padi_answer served fits = if served then (if fits then Offer else Ignore) else Ignore

abbrev pub padr_answer : (cookie known served room : Bool) → Answer
padr_answer cookie known served room =
    if cookie then (if known then Again else (if served then (if room then Make else Refuse AcSystemError) else Refuse ServiceNameError)) else Ignore
