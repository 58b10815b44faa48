use Rattle.std.proofs.Common.{◌≤◌, ◌^◌, List, [], ◌∷◌, sym, ap, subst, ◌∙◌}
use Rattle.std.proofs.Math.ListN.{set}
use Rattle.bng_engine.specs.Calls.{SayMore}
use Rattle.bng_engine.specs.Lists.{AnyOf}
use Rattle.bng_engine.specs.Quantities.{in_book}
use Rattle.bng_steps.specs.declared.terms.TermRow.{TermRow}
use Rattle.bng_steps.specs.TermRows.{HasSerial, IsPlaceOf, rows_in, tenures_in}
use Rattle.bng_steps.specs.Sums.{IsMore}
use Rattle.bng_steps.proofs.RowSums.{key_at_place, one_row, owned_serial, row_low, rows_get, tenures_set, with_book}
use Rattle.bng_steps.proofs.term_rows.carry.Goals as goal

pub unreachable-requires : goal.unreachable-requires
unreachable-requires c = c.in_default.ensures.none (subst (AnyOf (HasSerial c.args.charge.term.serial)) (sym c.deref.ensures.value) (owned_serial c.args.charge c.args.rows.now.items c.requires.own))

pub carry_in-requires : goal.carry_in-requires
carry_in-requires c =
    let rows = c.args.rows.now.items in
    let i = c.in-Some.place in
    let d = c.index_mut.result.now in
    let there = subst (λ (rs : List TermRow). IsPlaceOf c.args.charge.term.serial rs i) c.deref.ensures.value c.in-Some.ensures.there in
    record { low = λ q input. subst (λ (r : TermRow). in_book q input r.carried ≤ 2 ^ 63) (sym c.index_mut.ensures.value) (row_low (2 ^ 63) q input rows i d there.0 c.requires.low) }

pub returns-clause-rows : goal.returns-clause-rows
returns-clause-rows c out charged sent =
    let rows = c.args.rows.now.items in
    let i = c.in-Some.place in
    let d = c.index_mut.result.now in
    let b = c.carry_in.new.row.carried in
    let there = subst (λ (rs : List TermRow). IsPlaceOf c.args.charge.term.serial rs i) c.deref.ensures.value c.in-Some.ensures.there in
    let key = ap (λ x. x.key) (rows_get rows i d) ∙ key_at_place c.args.charge rows i d c.requires.rising c.requires.own there in
    let is = c.carry_in.ensures.row ∙ ap (λ (r : TermRow). with_book r b) c.index_mut.ensures.value in
    let more = subst (λ (r : TermRow). IsMore r.carried c.args.charge.input c.args.charge.octets b) c.index_mut.ensures.value c.carry_in.ensures.book in
    subst (λ (r : TermRow). SayMore (rows_in rows) (out ∷ []) (rows_in (set rows i r))) (sym is) (one_row rows i d b c.args.charge out there.0 key charged sent more)

pub returns-clause-tenures : goal.returns-clause-tenures
returns-clause-tenures c =
    let rows = c.args.rows.now.items in
    let i = c.in-Some.place in
    let d = c.index_mut.result.now in
    let b = c.carry_in.new.row.carried in
    let is = c.carry_in.ensures.row ∙ ap (λ (r : TermRow). with_book r b) c.index_mut.ensures.value in
    ap (λ (r : TermRow). tenures_in (set rows i r)) is ∙ tenures_set rows i d b
