use Rattle.toml.specs.View.{view}
use Rattle.bng_schema.proofs.Mentions.{entry_first, entry_none, no_entry}
use Rattle.bng_schema.proofs.unknown.unknown_in_entry.Goals as goal

pub returns-in-Some-unknown_in-clause-found : goal.returns-in-Some-unknown_in-clause-found
returns-in-Some-unknown_in-clause-found c =
    entry_first (view c.args.document.now) c.args.table c.args.place c.entry_of.result c.entry_of.ensures c.in-Some.entry c.in-Some-unknown_in.name.now c.in-Some.is c.in-Some-unknown_in.ensures.found

pub returns-in-None-unknown_in-clause-none : goal.returns-in-None-unknown_in-clause-none
returns-in-None-unknown_in-clause-none c =
    entry_none (view c.args.document.now) c.args.table c.args.place c.entry_of.result c.entry_of.ensures c.in-Some.entry c.in-Some.is c.in-None-unknown_in.ensures.none

pub returns-in-None-clause-none : goal.returns-in-None-clause-none
returns-in-None-clause-none c = no_entry (view c.args.document.now) c.args.table c.args.place c.entry_of.result c.entry_of.ensures c.in-None.is
