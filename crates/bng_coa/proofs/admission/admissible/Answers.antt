use Rattle.std.proofs.Common.{rules, List, refl, sym, ap, ◌∙◌}
use Rattle.std.specs.List.{list_any}
use Rattle.bng_radius_wire.specs.declared.views.Attribute.{Attribute}
use Rattle.bng_radius_wire.specs.Attributes.{fields}
use Rattle.bng_radius_wire.specs.Grammar.{Packet, whole}
use Rattle.bng_coa.specs.Admission.{is_stale, IsRequestIn}
use Rattle.bng_coa.proofs.admission.admissible.Goals as goal

pub returns-in-WrongDigest-clause-err : goal.returns-in-WrongDigest-clause-err
returns-in-WrongDigest-clause-err c =
    let p : Packet = whole c.in-Ok.packet in
    let reads : IsRequestIn p c.args.bytes.now = search rules in
    (p, reads, (c.in-WrongDigest.ensures.wrong p c.in-Ok.ensures.found).0 refl)

pub returns-then-are_stale-clause-err : goal.returns-then-are_stale-clause-err
returns-then-are_stale-clause-err c =
    let p : Packet = whole c.in-Ok.packet in
    let reads : IsRequestIn p c.args.bytes.now = search rules in (
      p,
      reads,
      (c.in-Right.ensures.right p c.in-Ok.ensures.found).0 refl,
      ap (λ (xs : List Attribute). list_any (is_stale c.args.wall) (fields xs)) (sym c.as_slice.ensures.value) ∙ sym c.are_stale.ensures ∙ c.if-are_stale.true,
    )

pub returns-clause-ok : goal.returns-clause-ok
returns-clause-ok c =
    let p : Packet = whole c.in-Ok.packet in
    let reads : IsRequestIn p c.args.bytes.now = search rules in (
      p,
      record {
        request = reads;
        signed = (c.in-Right.ensures.right p c.in-Ok.ensures.found).0 refl;
        current = ap (λ (xs : List Attribute). list_any (is_stale c.args.wall) (fields xs)) (sym c.as_slice.ensures.value) ∙ sym c.are_stale.ensures ∙ c.if-are_stale.false;
      },
      refl,
    )
