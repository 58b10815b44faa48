use Rattle.std.proofs.Common.{List, map, subst, arith}
use Rattle.toml.specs.View.{view}
use Rattle.bng_schema.specs.declared.keys.Field.{Field}
use Rattle.bng_schema.specs.declared.keys.Key.TheVariants.{Of}
use Rattle.bng_schema.specs.First.{NoneOf, IsFirstOf}
use Rattle.bng_schema.specs.Keys.{entries, entry_keys}
use Rattle.bng_schema.specs.Rules.{Breaks}
use Rattle.bng_schema.proofs.Firsts.{first_entry, none_entries_next}
use Rattle.bng_schema.proofs.first.first_of_entries.Goals as goal

pub returns-in-Some-clause-found : goal.returns-in-Some-clause-found
returns-in-Some-clause-found c =
    let document = view c.args.document.now in
    let P = Breaks document c.args.rule in
    let count = c.entries_of-place-end.ensures in
    first_entry P (entry_keys c.args.table) c.loop-place.place (entries document c.args.table) c.in-Some.key (omega (arith, c.loop-place-test.true)) c.loop-place.invariant
    (subst (λ (fs : List Field). IsFirstOf P (map (λ f. Of f c.loop-place.place) fs) c.in-Some.key) c.fields_of-fields.ensures c.in-Some.ensures.found)

pub loop-place-preserved : goal.loop-place-preserved
loop-place-preserved c =
    let document = view c.args.document.now in
    let P = Breaks document c.args.rule in
    none_entries_next P (entry_keys c.args.table) c.loop-place.place c.loop-place.invariant
    (subst (λ (fs : List Field). NoneOf P (map (λ f. Of f c.loop-place.place) fs)) c.fields_of-fields.ensures c.in_default.ensures.none)
