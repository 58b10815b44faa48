use Rattle.std.proofs.Common.{List, ℕ, option_map, sym, ap, subst, ◌∙◌}
use Rattle.std.proofs.lemmas.Option.{IfSome_then}
use Rattle.toml.specs.View.{view, table_view}
use Rattle.bng_schema.specs.First.{NoneOf, IsFirstOf}
use Rattle.bng_schema.specs.Checks.{IsUnknownIn}
use Rattle.bng_schema.proofs.Firsts.{if_none}
use Rattle.bng_schema.proofs.Mentions.{names_of_table, no_names}
use Rattle.bng_schema.proofs.unknown.unknown_in.Goals as goal

pub returns-in-Some-clause-found : goal.returns-in-Some-clause-found
returns-in-Some-clause-found c =
    let d = view c.args.value.now in
    let same = names_of_table d (table_view c.in-Some.members.now) (sym c.as_table.ensures ∙ ap (option_map (λ m. table_view m.now)) c.in-Some.is) in
    IfSome_then c.unknown_member.result c.unknown_member.ensures.found (λ n h. subst (λ (ns : List (List ℕ)). IsFirstOf (IsUnknownIn c.args.of) ns n.now) (sym same) h)

pub returns-in-Some-clause-none : goal.returns-in-Some-clause-none
returns-in-Some-clause-none c =
    let d = view c.args.value.now in
    let same = names_of_table d (table_view c.in-Some.members.now) (sym c.as_table.ensures ∙ ap (option_map (λ m. table_view m.now)) c.in-Some.is) in
    if_none c.unknown_member.result _ _ (λ h. subst (λ (ns : List (List ℕ)). NoneOf (IsUnknownIn c.args.of) ns) (sym same) h) c.unknown_member.ensures.none

pub returns-in-None-clause-none : goal.returns-in-None-clause-none
returns-in-None-clause-none c =
    subst (λ (ns : List (List ℕ)). NoneOf (IsUnknownIn c.args.of) ns) (sym (no_names (view c.args.value.now) (sym c.as_table.ensures ∙ ap (option_map (λ m. table_view m.now)) c.in-None.is))) tt
