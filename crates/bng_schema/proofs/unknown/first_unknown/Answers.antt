use Rattle.std.proofs.Common.{None, Some, map, flat_map}
use Rattle.toml.specs.View.{view}
use Rattle.bng_schema.specs.Keys.{tables}
use Rattle.bng_schema.specs.Checks.{mention, mention_of, mentions, names_in, table_mentions, IsUnknown}
use Rattle.bng_schema.proofs.Firsts.{first_front, first_back, first_map, none_append, none_map}
use Rattle.bng_schema.proofs.unknown.first_unknown.Goals as goal

pub returns-in-Some-clause-found : goal.returns-in-Some-clause-found
unfolding mentions
returns-in-Some-clause-found c =
    let document = view c.args.document.now in
    first_front IsUnknown (flat_map (table_mentions document) tables) (map (mention None) (names_in (Some document))) (mention_of c.in-Some.unknown) c.in-Some.ensures.found

pub returns-in-Some-unknown_in-clause-found : goal.returns-in-Some-unknown_in-clause-found
unfolding mentions
returns-in-Some-unknown_in-clause-found c =
    let document = view c.args.document.now in
    first_back IsUnknown (flat_map (table_mentions document) tables) (map (mention None) (names_in (Some document))) (mention None c.in-Some-unknown_in.name.now) c.in-None.ensures.none
    (first_map IsUnknown (mention None) (names_in (Some document)) c.in-Some-unknown_in.name.now c.in-Some-unknown_in.ensures.found)

pub returns-in-None-unknown_in-clause-none : goal.returns-in-None-unknown_in-clause-none
unfolding mentions
returns-in-None-unknown_in-clause-none c =
    let document = view c.args.document.now in
    none_append IsUnknown (flat_map (table_mentions document) tables) (map (mention None) (names_in (Some document))) c.in-None.ensures.none
    (none_map IsUnknown (mention None) (names_in (Some document)) c.in-None-unknown_in.ensures.none)
