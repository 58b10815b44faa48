use Rattle.std.proofs.Common.{◌≡◌, List, Result, Err, subst}
use Rattle.std.specs.Prelude.{String}
use Rattle.std.specs.declared.alloc.Global.{Global}
use Rattle.bng_words.specs.declared.command.Command.{Command}
use Rattle.bng_words.specs.declared.command.WordsError.{WordsError}
use Rattle.bng_words.specs.declared.command.WordsError.TheVariants.{Refused, OutOfMemory}
use Rattle.bng_words.specs.Words.{texts}
use Rattle.bng_words.specs.Meaning.{Meaning, Says}
use Rattle.bng_words.specs.Rows.{Commands}
use Rattle.bng_words.proofs.grammar.read.Goals as goal

never_refused : (m : Meaning) (r : Result Command WordsError) → Commands m r → r ≡ Err Refused → ⊥
never_refused m r h e = let P : Result Command WordsError → Type 0 = λ q. Commands m q in let bad : Refused ≡ OutOfMemory = subst P e h in cc

pub returns-then-is_command-clause-refused : goal.returns-then-is_command-clause-refused
returns-then-is_command-clause-refused c =
    let P : List (String Global) → Type 0 = λ ws. (m : Meaning) → Says (texts ws) m → Commands m c.parse.result in
    let reads = subst P c.as_slice-then-is_command.ensures.value c.parse.ensures in
    let said = c.is_command.ensures.0 c.if-is_command.true in
    let Q : List (String Global) → Type 0 = λ ws. Says (texts ws) said.0 in
    let says = subst Q c.as_slice.ensures.value said.1 in
    (λ refused m more. never_refused m c.parse.result (reads m more) refused, λ none. absurd (none said.0 says))
