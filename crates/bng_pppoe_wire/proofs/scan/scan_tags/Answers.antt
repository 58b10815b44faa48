use Rattle.bng_pppoe_wire.specs.View.{tag_of}
use Rattle.bng_pppoe_wire.specs.declared.scan.Scan.{Scan}
use Rattle.std.proofs.Common.{sym, subst}
use Rattle.bng_pppoe_wire.proofs.Scanning.{Scanned, one_scanned, scanned_bound, no_tags}
use Rattle.bng_pppoe_wire.proofs.scan.scan_tags.Goals as goal

pub with-scan-requires-clause-tags : goal.with-scan-requires-clause-tags
with-scan-requires-clause-tags c = (scanned_bound c.args.payload.now c.loop-tag.rest.now c.loop-tag.scan c.loop-tag.invariant c.requires).0

pub with-scan-requires-clause-services : goal.with-scan-requires-clause-services
with-scan-requires-clause-services c = (scanned_bound c.args.payload.now c.loop-tag.rest.now c.loop-tag.scan c.loop-tag.invariant c.requires).1

pub loop-tag-preserved : goal.loop-tag-preserved
loop-tag-preserved c =
    subst (λ (s : Scan). Scanned c.args.payload.now c.in-One.next.now s) (sym c.with-scan.ensures)
    (one_scanned c.args.payload.now c.loop-tag.rest.now c.in-One.next.now c.loop-tag.scan (tag_of c.in-One.tag) c.in-One.ensures c.loop-tag.invariant)

pub returns-in-Nothing : goal.returns-in-Nothing
returns-in-Nothing c =
    no_tags c.args.payload.now c.loop-tag.rest.now c.loop-tag.invariant.seen c.loop-tag.invariant.parts c.in-Nothing.ensures.0 c.in-Nothing.ensures.1
