use Rattle.std.proofs.Common.{refl, ◌∙◌}
use Rattle.std.specs.Prelude.{codes}
use Rattle.bng_base.specs.declared.item.Loose.{Loose}
use Rattle.bng_spell.specs.Lines.{loose_line}
use Rattle.bng_spell.proofs.LineCodes.{loose_is}
use Rattle.bng_spell.proofs.FieldReading.{behind, short_fits, long_fits, below_short, line_stands}
use Rattle.bng_spell.proofs.many.LooseLine.read_line.Goals as goal

pub returns-in_err-fields-clause-none : goal.returns-in_err-fields-clause-none
returns-in_err-fields-clause-none c = rw c.from_residual-in_err-fields.ensures (λ l rest f q.
    let i = l.item in
    let g = f.item in
    c.in_err-fields.ensures.none (
      record { 0 = record { 0 = l.seat } },
      (
        record { 0 = record { 0 = l.place } },
        (
          record { 0 = i.kind },
          (i.from, (record { 0 = i.cut }, (record { 0 = record { 0 = i.target } }, (record { 0 = record { 0 = i.ask } }, (record { 0 = record { 0 = i.random } }, (record { 0 = i.frame }, record { 0 = l.fate })))))),
        ),
      ),
    )
    rest (
      (short_fits l.seat f.seat, refl),
      (
        (short_fits l.place f.place, refl),
        (
          (g.kind, refl),
          (g.from, ((tt, refl), ((short_fits i.target g.target, refl), ((long_fits i.ask g.ask, refl), (((g.random, g.sixteen), refl), ((g.frame, refl), (tt, refl))))))),
        ),
      ),
    )
    (behind c.args.whole.now (codes "loose ") _ c.args.at c.in_ok-at.at c.in_ok-at.ensures.found (q ∙ loose_is l rest)))

pub returns-clause-found : goal.returns-clause-found
returns-clause-found c =
    let x = c.in_ok-fields.fields in
    let f = c.in_ok-fields.ensures.found.0 in
    let y = x.1.1 in
    let i = f.1.1 in
    let l : Loose = record {
      seat = x.0.0.0;
      place = x.1.0.0.0;
      item = record { kind = y.0.0; from = y.1.0; frame = y.1.1.1.1.1.1.0.0; cut = y.1.1.0.0; random = y.1.1.1.1.1.0.0.0; target = y.1.1.1.0.0.0; ask = y.1.1.1.1.0.0.0 };
      fate = y.1.1.1.1.1.1.1.0;
    } in (
      record {
        seat = below_short x.0.0.0 f.0.0.0;
        place = below_short x.1.0.0.0 f.1.0.0.0;
        item = record {
          kind = i.0.0;
          from = i.1.0;
          target = below_short y.1.1.1.0.0.0 i.1.1.1.0.0.0;
          ask = i.1.1.1.1.0.0.1;
          random = i.1.1.1.1.1.0.0.0;
          sixteen = i.1.1.1.1.1.0.0.1;
          frame = i.1.1.1.1.1.1.0.0;
        };
      },
      line_stands c.args.whole.now (codes "loose ") _ (loose_line l) c.args.at c.in_ok-at.at c.in_ok-fields.next (loose_is l) c.in_ok-at.ensures.found c.in_ok-fields.ensures.found.1,
    )
