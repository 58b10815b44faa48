use Rattle.std.proofs.Common.{rules, ◌≡◌, ◌<◌, ◌≤◌, ℕ, List, map, length, slice_get, Some, sym, ap, ◌∙◌, refl, arith}
use Rattle.std.proofs.lemmas.Option.{slice_get_within, slice_get_read}
use Rattle.std.proofs.lemmas.List.{length-map}
use mathlib.Core.Logic.{dite}
use native.Mathlib.Decide.{ℕ_discrete}
use Rattle.bng_profile.proofs.Places.{some_same, at_map, first_place, no_place}
use Rattle.bng_profile.proofs.profiles.place_of.Goals as goal

pub loop-place-preserved : goal.loop-place-preserved
loop-place-preserved c k low e = let i : ℕ = c.loop-place.place in let item = c.index-names-place.result in
    let within : c.loop-place.place < length c.args.names.now = search rules in
    let at : slice_get c.args.names.now c.loop-place.place ≡ Some c.index-names-place.result = slice_get_read c.args.names.now (length c.args.names.now) c.loop-place.place c.index-names-place.result refl within c.index-names-place.is in
    dite (ℕ_discrete k i)
    (λ same. let same_name : c.index-names-place.result.items ≡ c.args.name.now = some_same c.index-names-place.result.items c.args.name.now (sym (at_map (λ n. n.items) c.args.names.now i item at) ∙ (ap (λ z. slice_get (map (λ n. n.items) c.args.names.now) z) (sym same) ∙ e)) in
    let yes = c.is_named.ensures.1 same_name in let no = c.if-is_named.false in search rules)
    (λ other. c.loop-place.invariant k (omega arith) e)

pub returns-clause-unknown : goal.returns-clause-unknown
returns-clause-unknown c k e = let low = slice_get_within (map (λ n. n.items) c.args.names.now) k c.args.name.now e in let long : length (map (λ n. n.items) c.args.names.now) ≡ length c.args.names.now = length-map c.args.names.now (λ n. n.items) in
    let done : length c.args.names.now ≤ c.loop-place.place = search rules in c.loop-place.invariant k (omega arith) e

pub returns-then-is_named-clause-place : goal.returns-then-is_named-clause-place
returns-then-is_named-clause-place c = let i : ℕ = c.loop-place.place in let item = c.index-names-place.result in
    let within : c.loop-place.place < length c.args.names.now = search rules in
    let at : slice_get c.args.names.now c.loop-place.place ≡ Some c.index-names-place.result = slice_get_read c.args.names.now (length c.args.names.now) c.loop-place.place c.index-names-place.result refl within c.index-names-place.is in
    let same : c.index-names-place.result.items ≡ c.args.name.now = search rules in
    sym (first_place (map (λ n. n.items) c.args.names.now) c.args.name.now i c.loop-place.invariant (at_map (λ n. n.items) c.args.names.now i item at ∙ ap (λ (n : List ℕ). Some n) same))

pub returns-clause-place : goal.returns-clause-place
returns-clause-place c = sym (no_place (map (λ n. n.items) c.args.names.now) c.args.name.now (returns-clause-unknown c))
