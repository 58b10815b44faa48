use Rattle.std.proofs.Common.{◌≡◌, [], ◌∷◌, ◌++◌, List, arith, sym, ap, subst, ◌∙◌, append_assoc, append-nil}
use Rattle.std.proofs.lemmas.Grind.{common_steps}
use Rattle.toml.specs.View.{members_view}
use Rattle.toml.proofs.Views.{Entry}
use Rattle.bng_schema.specs.First.{NoneOf, IsFirstOf}
use Rattle.bng_schema.specs.Checks.{member_names, IsUnknownIn}
use Rattle.bng_schema.proofs.Mentions.{member_first, member_next}
use Rattle.bng_schema.proofs.unknown.unknown_member.Goals as goal

pub returns-then-is_unknown-clause-found : goal.returns-then-is_unknown-clause-found
returns-then-is_unknown-clause-found c =
    let (done, whole, none) = c.loop-key.invariant in
    let e : Entry = (c.in-Some.key.now, c.in-Some._value.now) in
    let iter : c.loop-key.key-iterator ≡ e ∷ c.next.new.self = grind (arith, common_steps) in
    let all : c.args.members.now.entries ≡ done ++ e ∷ c.next.new.self = whole ∙ ap (λ t. done ++ t) iter in
    let unknown = c.is_unknown.ensures.0 c.if-is_unknown.true in
    subst (λ (es : List Entry). IsFirstOf (IsUnknownIn c.args.of) (member_names (members_view es)) c.as_str-name.result.now) (sym all)
    (rw c.as_str-name.ensures.value (member_first (IsUnknownIn c.args.of) done c.next.new.self e none (rw c.as_str-name.ensures.value at unknown)))

pub loop-key-preserved : goal.loop-key-preserved
loop-key-preserved c =
    let (done, whole, none) = c.loop-key.invariant in
    let e : Entry = (c.in-Some.key.now, c.in-Some._value.now) in
    let iter : c.loop-key.key-iterator ≡ e ∷ c.next.new.self = grind (arith, common_steps) in
    let all = whole ∙ ap (λ t. done ++ t) iter ∙ sym (append_assoc done (e ∷ []) c.next.new.self) in
    let known : ¬ IsUnknownIn c.args.of c.as_str-name.result.now = λ h. let both = c.is_unknown.ensures.1 h in let not = c.if-is_unknown.false in cc in
    (done ++ e ∷ [], all, member_next (IsUnknownIn c.args.of) done [] e none (rw c.as_str-name.ensures.value at known))

pub returns-clause-none : goal.returns-clause-none
returns-clause-none c =
    let (done, whole, none) = c.loop-key.invariant in
    let end : c.loop-key.key-iterator ≡ [] = grind (arith, common_steps) in
    let all : c.args.members.now.entries ≡ done = whole ∙ rw end (append-nil done) in
    subst (λ (es : List Entry). NoneOf (IsUnknownIn c.args.of) (member_names (members_view es))) (sym all) none
