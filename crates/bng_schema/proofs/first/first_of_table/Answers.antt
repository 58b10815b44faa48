use Rattle.std.proofs.Common.{[], ◌∷◌}
use Rattle.toml.specs.View.{view}
use Rattle.bng_schema.specs.declared.keys.Key.TheVariants.{Whole}
use Rattle.bng_schema.specs.First.{NoneOf}
use Rattle.bng_schema.specs.Keys.{entries, entry_keys, table_keys, of_entries}
use Rattle.bng_schema.specs.Rules.{Breaks}
use Rattle.std.proofs.lemmas.Option.{IfSome_then}
use Rattle.bng_schema.proofs.Firsts.{first_here, first_back, if_none}
use Rattle.bng_schema.proofs.first.first_of_table.Goals as goal

pub returns-then-breaks-clause-found : goal.returns-then-breaks-clause-found
returns-then-breaks-clause-found c =
    let document = view c.args.document.now in
    first_here (Breaks document c.args.rule) (Whole c.args.table) (of_entries (entry_keys c.args.table) (entries document c.args.table)) (c.breaks.ensures.0 c.if-breaks.true)

pub returns-else-breaks-clause-found : goal.returns-else-breaks-clause-found
returns-else-breaks-clause-found c =
    let document = view c.args.document.now in
    let P = Breaks document c.args.rule in
    let rest = of_entries (entry_keys c.args.table) (entries document c.args.table) in
    let here : ¬ Breaks document c.args.rule (Whole c.args.table) = λ broken. let both = c.breaks.ensures.1 broken in let not = c.if-breaks.false in cc in
    IfSome_then c.first_of_entries.result c.first_of_entries.ensures.found (λ k h. first_back P (Whole c.args.table ∷ []) rest k (here, tt) h)

pub returns-else-breaks-clause-none : goal.returns-else-breaks-clause-none
returns-else-breaks-clause-none c =
    let document = view c.args.document.now in
    let P = Breaks document c.args.rule in
    let rest = of_entries (entry_keys c.args.table) (entries document c.args.table) in
    let here : ¬ Breaks document c.args.rule (Whole c.args.table) = λ broken. let both = c.breaks.ensures.1 broken in let not = c.if-breaks.false in cc in
    if_none c.first_of_entries.result (NoneOf P rest) (NoneOf P (table_keys document c.args.table)) (λ h. (here, h)) c.first_of_entries.ensures.none
