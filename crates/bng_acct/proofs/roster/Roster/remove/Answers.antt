use Rattle.std.proofs.Common.{subst, ◌∙◌, arith}
use Rattle.bng_acct.specs.Roster.{Terms, Removes}
use Rattle.bng_acct.proofs.Sides.{edited_removes}
use Rattle.bng_acct.proofs.roster.Roster.remove.Goals as goal

pub invariant_of-self : goal.invariant_of-self
invariant_of-self c =
    let inv = c.self.invariant in
    record {
      rises = (edited_removes c.self.inside.tree.held c.remove.new.self.held c.args.term inv.rises c.remove.ensures.edits).rises;
      left = omega (arith, c.remove.ensures.spares, inv.left);
      boxes = c.remove.ensures.room ∙ inv.boxes;
      few = inv.few;
    }

pub returns-clause-removes : goal.returns-clause-removes
returns-clause-removes c =
    subst (λ (v : Terms). Removes v.held c.remove.new.self.held c.args.term) c.self.view_is (edited_removes c.self.inside.tree.held c.remove.new.self.held c.args.term c.self.invariant.rises c.remove.ensures.edits)
