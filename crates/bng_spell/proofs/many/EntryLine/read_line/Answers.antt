use Rattle.std.proofs.Common.{ℕ, ◌<◌, ◌^◌, refl, sym, subst, ◌∙◌}
use Rattle.std.specs.Prelude.{codes}
use Rattle.bng_base.specs.declared.item.Entry.{Entry}
use Rattle.bng_spell.specs.Lines.{entry_line}
use Rattle.bng_spell.specs.Standing.{Stands}
use Rattle.bng_spell.proofs.LineCodes.{entry_is}
use Rattle.bng_spell.proofs.FieldReading.{behind, short_fits, long_fits, below_short, first_number, line_stands}
use Rattle.bng_spell.proofs.many.EntryLine.read_line.Goals as goal

pub returns-in_err-fields-clause-none : goal.returns-in_err-fields-clause-none
returns-in_err-fields-clause-none c = rw c.from_residual-in_err-fields.ensures (λ e rest f q.
    let i = e.item in
    let g = f.item in
    c.in_err-fields.ensures.none (
      record { 0 = record { 0 = c.args.within.shard } },
      (
        record { 0 = record { 0 = e.seat } },
        (
          record { 0 = record { 0 = e.place } },
          (
            record { 0 = i.kind },
            (i.from, (record { 0 = i.cut }, (record { 0 = record { 0 = i.target } }, (record { 0 = record { 0 = i.ask } }, (record { 0 = record { 0 = i.random } }, (record { 0 = i.frame }, e.claim)))))),
          ),
        ),
      ),
    )
    rest (
      (long_fits c.args.within.shard (subst (λ (n : ℕ). n < 2 ^ 64) c.own_shard-wanted.ensures.is c.own_shard-wanted.ensures.small), refl),
      (
        (short_fits e.seat f.seat, refl),
        (
          (short_fits e.place f.place, refl),
          (
            (g.kind, refl),
            (g.from, ((tt, refl), ((short_fits i.target g.target, refl), ((long_fits i.ask g.ask, refl), (((g.random, g.sixteen), refl), ((g.frame, refl), f.claim)))))),
          ),
        ),
      ),
    )
    (behind c.args.whole.now (codes "entry ") _ c.args.at c.in_ok-at.at c.in_ok-at.ensures.found (q ∙ entry_is c.args.within.shard e rest)))

pub returns-then-shard-wanted-clause-none : goal.returns-then-shard-wanted-clause-none
returns-then-shard-wanted-clause-none c = λ e rest f q.
    let small = subst (λ (n : ℕ). n < 2 ^ 64) c.own_shard-wanted.ensures.is c.own_shard-wanted.ensures.small in
    let there = behind c.args.whole.now (codes "entry ") _ c.args.at c.in_ok-at.at c.in_ok-at.ensures.found (q ∙ entry_is c.args.within.shard e rest) in
    let same = first_number c.in_ok-fields.fields.0.0.0 c.args.within.shard _ _ _ _ _ c.in_ok-fields.ensures.found.0.0.0.1 small c.in_ok-fields.ensures.found.1.is there in
    c.if-shard-wanted.true (same ∙ sym c.own_shard-wanted.ensures.is)

pub returns-clause-found : goal.returns-clause-found
returns-clause-found c =
    let x = c.in_ok-fields.fields in
    let f = c.in_ok-fields.ensures.found.0 in
    let y = x.1.1.1 in
    let i = f.1.1.1 in
    let e : Entry = record {
      seat = x.1.0.0.0;
      place = x.1.1.0.0.0;
      moment = c.args.within.moment;
      item = record { kind = y.0.0; from = y.1.0; frame = y.1.1.1.1.1.1.0.0; cut = y.1.1.0.0; random = y.1.1.1.1.1.0.0.0; target = y.1.1.1.0.0.0; ask = y.1.1.1.1.0.0.0 };
      claim = y.1.1.1.1.1.1.1;
    } in
    let line = line_stands c.args.whole.now (codes "entry ") _ (entry_line x.0.0.0 e) c.args.at c.in_ok-at.at c.in_ok-fields.next (entry_is x.0.0.0 e) c.in_ok-at.ensures.found c.in_ok-fields.ensures.found.1 in (
      record {
        seat = below_short x.1.0.0.0 f.1.0.0.0;
        place = below_short x.1.1.0.0.0 f.1.1.0.0.0;
        at = refl;
        item = record {
          kind = i.0.0;
          from = i.1.0;
          target = below_short y.1.1.1.0.0.0 i.1.1.1.0.0.0;
          ask = i.1.1.1.1.0.0.1;
          random = i.1.1.1.1.1.0.0.0;
          sixteen = i.1.1.1.1.1.0.0.1;
          frame = i.1.1.1.1.1.1.0.0;
        };
        claim = i.1.1.1.1.1.1.1;
      },
      subst (λ (k : ℕ). Stands c.args.whole.now c.args.at (entry_line k e) c.in_ok-fields.next) (c.if-shard-wanted.false ∙ c.own_shard-wanted.ensures.is) line,
    )
