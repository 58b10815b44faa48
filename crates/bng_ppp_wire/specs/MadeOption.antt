-- What an option that was made here says, without where it lies in memory.
use Rattle.std.specs.Prelude.{List, map}
use Rattle.bng_base.specs.PppGrammar.{PppOption}
use Rattle.bng_ppp_wire.specs.declared.made_option.MadeOpt.{MadeOpt}

abbrev pub made_of : MadeOpt → PppOption
made_of o = record { kind = o.kind; value = o.value.items }

abbrev pub all_made_of : List MadeOpt → List PppOption
all_made_of os = map made_of os
