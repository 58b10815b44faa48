use Rattle.std.proofs.Common.{refl, ◌∙◌}
use Rattle.std.specs.Prelude.{codes}
use Rattle.bng_base.specs.declared.item.Item.{Item}
use Rattle.bng_spell.specs.Lines.{refused_line}
use Rattle.bng_spell.proofs.LineCodes.{refused_is}
use Rattle.bng_spell.proofs.FieldReading.{behind, short_fits, long_fits, below_short, line_stands}
use Rattle.bng_spell.proofs.many.ItemLine.read_line.Goals as goal

pub returns-in_err-fields-clause-none : goal.returns-in_err-fields-clause-none
returns-in_err-fields-clause-none c = rw c.from_residual-in_err-fields.ensures (λ i rest g q.
    c.in_err-fields.ensures.none (
      record { 0 = i.kind },
      (i.from, (record { 0 = i.cut }, (record { 0 = record { 0 = i.target } }, (record { 0 = record { 0 = i.ask } }, (record { 0 = record { 0 = i.random } }, record { 0 = i.frame }))))),
    )
    rest
    ((g.kind, refl), (g.from, ((tt, refl), ((short_fits i.target g.target, refl), ((long_fits i.ask g.ask, refl), (((g.random, g.sixteen), refl), (g.frame, refl)))))))
    (behind c.args.whole.now (codes "refused ") _ c.args.at c.in_ok-at.at c.in_ok-at.ensures.found (q ∙ refused_is i rest)))

pub returns-clause-found : goal.returns-clause-found
returns-clause-found c =
    let y = c.in_ok-fields.fields in
    let i = c.in_ok-fields.ensures.found.0 in
    let l : Item = record { kind = y.0.0; from = y.1.0; frame = y.1.1.1.1.1.1.0; cut = y.1.1.0.0; random = y.1.1.1.1.1.0.0.0; target = y.1.1.1.0.0.0; ask = y.1.1.1.1.0.0.0 } in (
      record {
        kind = i.0.0;
        from = i.1.0;
        target = below_short y.1.1.1.0.0.0 i.1.1.1.0.0.0;
        ask = i.1.1.1.1.0.0.1;
        random = i.1.1.1.1.1.0.0.0;
        sixteen = i.1.1.1.1.1.0.0.1;
        frame = i.1.1.1.1.1.1.0;
      },
      line_stands c.args.whole.now (codes "refused ") _ (refused_line l) c.args.at c.in_ok-at.at c.in_ok-fields.next (refused_is l) c.in_ok-at.ensures.found c.in_ok-fields.ensures.found.1,
    )
