use Rattle.std.proofs.Common.{rules, ◌≡◌, ℕ, ◌<◌, List, [], ◌∷◌, ◌++◌, length, take, get_or, append-nil, append_assoc, refl, sym, ap, subst, ◌∙◌, arith}
use Rattle.std.proofs.lemmas.Fn.{filter_same}
use Rattle.std.proofs.lemmas.List.{length-append, with_items_is}
use Rattle.std.specs.List.{filter}
use Rattle.std.specs.Vec.{with_items}
use Rattle.std.proofs.Math.Seq.{take-length}
use Rattle.bng_base.specs.declared.item.Item.{Item}
use Rattle.bng_engine.proofs.Walks.{Walked, same_at, walk_all, walk_more, walk_none}
use Rattle.bng_desk.specs.Items.{is_from_outside, kept_of}
use Rattle.bng_desk.specs.Round.{refused_of}
use Rattle.bng_desk.proofs.Staying.{IsParted, kept_next, kept_room, refused_same}
use Rattle.bng_desk.proofs.holding.part.Goals as goal

pub loop-item-init : goal.loop-item-init
loop-item-init c = record { walked = walk_none IsParted _; kept = sym (append-nil _); room = refl }

pub keep_one-requires : goal.keep_one-requires
keep_one-requires c =
    let l = c.loop-item in
    let olds = c.deref_mut-item-items.result.now in
    let i = l.item-index in
    let d = c.item-item.result in
    let lt : i < length olds = omega (arith, c.loop-item-test.true) in
    omega (
      arith,
      c.requires.room,
      ap (λ (is : List Item). length (kept_of is)) c.deref_mut-item-items.ensures.value,
      ap (λ (is : List Item). length is) l.invariant.kept,
      length-append c.args.kept.now.items (kept_of (take i olds)),
      kept_room olds i d lt,
      ap (λ (x : Item). length (kept_of (x ∷ []))) (same_at olds l.item-items i d l.invariant.walked.rest),
      l.invariant.room,
    )

pub loop-item-preserved : goal.loop-item-preserved
loop-item-preserved c =
    let l = c.loop-item in
    let olds = c.deref_mut-item-items.result.now in
    let i = l.item-index in
    let d = c.item-item.result in
    let lt : i < length olds = omega (arith, c.loop-item-test.true) in
    let was = c.args.kept.now.items in
    record {
      walked = walk_more IsParted olds l.item-items i d c.keep_one.new.item lt l.invariant.walked c.keep_one.ensures.others;
      kept = c.keep_one.ensures.kept ∙ ap (λ (is : List Item). is ++ kept_of (get_or l.item-items i d ∷ [])) l.invariant.kept
          ∙ ap (λ (x : Item). was ++ kept_of (take i olds) ++ kept_of (x ∷ [])) (same_at olds l.item-items i d l.invariant.walked.rest)
          ∙ append_assoc was (kept_of (take i olds)) (kept_of (get_or olds i d ∷ []))
          ∙ ap (λ (is : List Item). was ++ is) (sym (kept_next olds i d lt));
      room = c.keep_one.ensures.capacity ∙ l.invariant.room;
    }

pub returns-clause-kept : goal.returns-clause-kept
returns-clause-kept c =
    let l = c.loop-item in
    let olds = c.deref_mut-item-items.result.now in
    l.invariant.kept ∙ ap (λ (is : List Item). c.args.kept.now.items ++ kept_of is) (ap (λ (n : ℕ). take n olds) (omega arith) ∙ take-length olds ∙ c.deref_mut-item-items.ensures.value)

pub returns-clause-refused : goal.returns-clause-refused
returns-clause-refused c =
    let l = c.loop-item in
    let olds = c.deref_mut-item-items.result.now in
    let all = walk_all IsParted olds l.item-items (omega arith) (subst (λ (n : ℕ). Walked IsParted olds l.item-items n) (omega arith) l.invariant.walked) in
    let left : c.retain.new.self.items ≡ filter (λ (i : Item). is_from_outside i.kind) (with_items c.args.items l.item-items).items = filter_same _ _ _ (λ x b f' k. search rules) _ _ c.retain.ensures.filtered in
    left ∙ ap refused_of (with_items_is c.args.items l.item-items (omega (arith, l.auto.item-items, c.deref_mut-item-items.ensures.len, c.args.items.ok.0))) ∙ refused_same olds l.item-items all ∙ ap refused_of c.deref_mut-item-items.ensures.value
