-- What is written of a fault.
use Rattle.std.specs.Prelude.{ℕ, List, ◌++◌, codes}
use Rattle.bng_schema.specs.declared.rule.Rule.{Rule}
use Rattle.bng_schema.specs.declared.rule.Rule.TheVariants.{C4, C5, C6, C7, C8, C9, C10, C11, C12, C13, C14}
use Rattle.bng_schema.specs.Texts.{key_text}
use Rattle.bng_config.specs.declared.fault.Fault.{Fault}
use Rattle.bng_config.specs.declared.fault.Fault.TheVariants.{TooLong, NotToml, Unknown, Broken}

abbrev pub rule_text : Rule → List ℕ
rule_text C4 = codes "C4 "
rule_text C5 = codes "C5 "
rule_text C6 = codes "C6 "
rule_text C7 = codes "C7 "
rule_text C8 = codes "C8 "
rule_text C9 = codes "C9 "
rule_text C10 = codes "C10 "
rule_text C11 = codes "C11 "
rule_text C12 = codes "C12 "
rule_text C13 = codes "C13 "
rule_text C14 = codes "C14 "

-- the rule that is broken, and the key or the name that breaks it
abbrev pub fault_text : Fault → List ℕ
fault_text TooLong = codes "C1 text"
fault_text NotToml = codes "C2 text"
fault_text (Unknown name) = codes "C3 " ++ name
fault_text (Broken r k) = rule_text r ++ key_text k
