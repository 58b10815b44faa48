use Rattle.std.proofs.Common.{None, refl, ◌∙◌}
use Rattle.std.specs.Prelude.{codes}
use Rattle.bng_base.specs.declared.item.OutRecord.{OutRecord}
use Rattle.bng_spell.specs.Lines.{out_line}
use Rattle.bng_spell.proofs.LineCodes.{out_is}
use Rattle.bng_spell.proofs.FieldReading.{behind, short_fits, below_short, line_stands}
use Rattle.bng_spell.proofs.many.OutRecordLine.read_line.Goals as goal

pub returns-in_err-fields-clause-none : goal.returns-in_err-fields-clause-none
returns-in_err-fields-clause-none c = rw c.from_residual-in_err-fields.ensures (λ o rest f q.
    c.in_err-fields.ensures.none (
      record { 0 = record { 0 = o.shard } },
      (record { 0 = record { 0 = o.seat } }, (record { 0 = record { 0 = o.place } }, (record { 0 = o.role }, (o.to, (record { 0 = o.sent }, record { 0 = o.frame }))))),
    )
    rest (
      (short_fits o.shard f.shard, refl),
      ((short_fits o.seat f.seat, refl), ((short_fits o.place f.place, refl), ((f.role, refl), (f.to, ((tt, refl), ((f.octets, f.most), refl)))))),
    )
    (behind c.args.whole.now (codes "out ") _ c.args.at c.in_ok-at.at c.in_ok-at.ensures.found (q ∙ out_is o rest)))

pub returns-clause-found : goal.returns-clause-found
returns-clause-found c =
    let x = c.in_ok-fields.fields in
    let f = c.in_ok-fields.ensures.found.0 in
    let o : OutRecord = record {
      shard = x.0.0.0;
      seat = x.1.0.0.0;
      place = x.1.1.0.0.0;
      role = x.1.1.1.0.0;
      to = x.1.1.1.1.0;
      frame = x.1.1.1.1.1.1.0;
      charge = None;
      sent = x.1.1.1.1.1.0.0;
    } in (
      record {
        shard = below_short x.0.0.0 f.0.0.0;
        seat = below_short x.1.0.0.0 f.1.0.0.0;
        place = below_short x.1.1.0.0.0 f.1.1.0.0.0;
        role = f.1.1.1.0.0;
        to = f.1.1.1.1.0;
        octets = f.1.1.1.1.1.1.0.0;
        most = f.1.1.1.1.1.1.0.1;
        uncharged = refl;
      },
      line_stands c.args.whole.now (codes "out ") _ (out_line o) c.args.at c.in_ok-at.at c.in_ok-fields.next (out_is o) c.in_ok-at.ensures.found c.in_ok-fields.ensures.found.1,
    )
