use Rattle.std.proofs.Common.{rules, ap, subst, sym, ◌∙◌}
use Rattle.std.specs.List.{AllByRecursion}
use Rattle.bng_base.proofs.PieceLaws.{AllByRecursion-push}
use Rattle.bng_radius_wire.specs.Attributes.{Fits, text, field, fields}
use Rattle.bng_radius_wire.proofs.Progress.{fields-push}
use Rattle.bng_wire_tests.proofs.radius_wire.writes.copies.Goals as goal

pub loop-preserved : goal.loop-preserved
loop-preserved c = record {
  size = search rules;
  fit = subst (AllByRecursion Fits) (sym (ap fields c.push.ensures.items ∙ fields-push c.loop.list.items c.args.attribute.now)) (AllByRecursion-push Fits text (fields c.loop.list.items) (field c.args.attribute.now) c.loop.invariant.fit c.requires.fits);
}
