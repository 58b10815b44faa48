use Rattle.std.proofs.Common.{◌≡◌, ◌+◌, ℕ, List, [], ◌∷◌, ◌++◌, length, sym, ap, subst, ◌∙◌, length-append, arith}
use Rattle.bng_base.specs.declared.item.Entry.{Entry}
use Rattle.bng_spell.specs.Kept.{IsEntry}
use Rattle.bng_spell.specs.Lines.{entry_line}
use Rattle.bng_spell.specs.Many.{AreLines, AreJournalsFrom}
use Rattle.bng_spell.proofs.Rounds.{journals_push}
use Rattle.bng_spell.proofs.round.journals.Goals as goal

pub loop-shard-preserved : goal.loop-shard-preserved
loop-shard-preserved c =
    let whole = c.args.whole.now in
    let journals : List (List Entry) = c.loop-shard.journals.items in
    let journal : List Entry = c.in_ok-journal.journal.items in
    let next = c.loop-shard.next in
    let after = c.in_ok-journal.after in
    let count = c.loop-shard.invariant.0.0 in
    let items = c.in_ok-push.ensures.items ∙ ap (λ (j : List Entry). journals ++ j ∷ []) c.of.ensures in
    let lines : AreLines (IsEntry c.args.moment) (entry_line c.loop-shard.shard) whole next journal after = c.in_ok-journal.ensures in
    let here : c.loop-shard.shard ≡ 0 + length journals = omega (arith, count) in (
      (
        omega (arith, ap length items, length-append journals (journal ∷ []), count),
        subst (λ (js : List (List Entry)). AreJournalsFrom c.args.moment 0 whole c.args.at js after) (sym items)
            (journals_push c.args.moment 0 whole c.args.at next after journals journal c.loop-shard.invariant.0.1
            (subst (λ (k : ℕ). AreLines (IsEntry c.args.moment) (entry_line k) whole next journal after) here lines)),
      ),
      lines.stand.within,
    )
