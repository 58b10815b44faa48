use Rattle.std.proofs.Common.{◌≡◌, ℕ, List, [], ◌∷◌, length, map, sym, ap, subst, ◌∙◌, arith}
use Rattle.std.specs.List.{All}
use Rattle.std.proofs.lemmas.List.{with_items_is}
use Rattle.bng_engine.specs.Terms.{Stop}
use Rattle.bng_engine.proofs.Walks.{Walked, same_at, walk_none, walk_more, walk_all}
use Rattle.bng_steps.specs.Protocol.{stop_of}
use Rattle.bng_desk.specs.declared.line.CircuitLine.{CircuitLine}
use Rattle.bng_desk.specs.Model.{line_after}
use Rattle.bng_desk.specs.Taking.{TakesIn}
use Rattle.bng_desk.proofs.Lines.{IsAfter, all_after}
use Rattle.bng_desk.proofs.accounts.add_carried.Goals as goal

-- the line that stands in the loop's place where there is none
abbrev no_line : CircuitLine
no_line = record { session = record { 0 = 0 }; address = record { 0 = 0 }; stopped = record { input = 0; output = 0 } }

pub loop-line-init : goal.loop-line-init
loop-line-init c = walk_none (IsAfter (stop_of c.args.ended.now ∷ [])) c.deref_mut-line-items.result.now

pub add_to-requires : goal.add_to-requires
add_to-requires c =
    let stops : List Stop = stop_of c.args.ended.now ∷ [] in
    let olds = c.deref_mut-line-items.result.now in
    let i = c.loop-line.line-index in
    let all : All (TakesIn stops) olds = subst (λ (ls : List CircuitLine). All (TakesIn stops) ls) (sym c.deref_mut-line-items.ensures.value) c.requires in
    subst (λ (l : CircuitLine). TakesIn stops l) (sym (same_at olds c.loop-line.line-items i no_line c.loop-line.invariant.rest)) (all i no_line c.loop-line-test.true)

pub loop-line-preserved : goal.loop-line-preserved
loop-line-preserved c =
    walk_more (IsAfter (stop_of c.args.ended.now ∷ [])) c.deref_mut-line-items.result.now c.loop-line.line-items c.loop-line.line-index no_line c.add_to.new.line c.loop-line-test.true c.loop-line.invariant c.add_to.ensures

pub returns : goal.returns
returns c =
    let stops : List Stop = stop_of c.args.ended.now ∷ [] in
    let olds = c.deref_mut-line-items.result.now in
    let items = c.loop-line.line-items in
    let all : c.loop-line.line-index ≡ length olds = omega arith in
    let walked : Walked (IsAfter stops) olds items (length olds) = subst (λ (k : ℕ). Walked (IsAfter stops) olds items k) all c.loop-line.invariant in
    with_items_is c.args.lines.now items (omega (arith, c.loop-line.auto.line-items, c.deref_mut-line-items.ensures.len))
    ∙ all_after stops olds items (walk_all (IsAfter stops) olds items c.loop-line.auto.line-items walked)
    ∙ ap (map (line_after stops)) c.deref_mut-line-items.ensures.value
