use Rattle.std.proofs.Common.{length, ap, sym, subst, ◌∙◌, arith}
use Rattle.bng_acct.specs.Roster.{Terms, of_term, Puts}
use Rattle.bng_acct.proofs.Sides.{edited_puts}
use Rattle.bng_acct.proofs.roster.Roster.put.Goals as goal

pub put-requires : goal.put-requires
put-requires c =
    let inv = c.self.invariant in
    record {
      rises = inv.rises;
      few = omega (arith, inv.left, inv.few);
      spare = λ none.
          let room = c.requires (ap (λ (v : Terms). of_term c.args.held.term v.held) (sym c.self.view_is) ∙ none) in
          omega (arith, room, inv.left, ap (λ (v : Terms). length v.held) c.self.view_is, ap (λ (v : Terms). v.room) c.self.view_is);
    }

pub invariant_of-self : goal.invariant_of-self
invariant_of-self c =
    let inv = c.self.invariant in
    record {
      rises = (edited_puts c.self.inside.tree.held c.put.new.self.held c.args.held inv.rises c.put.ensures.edits).rises;
      left = omega (arith, c.put.ensures.spares, inv.left);
      boxes = c.put.ensures.room ∙ inv.boxes;
      few = inv.few;
    }

pub returns-clause-puts : goal.returns-clause-puts
returns-clause-puts c =
    subst (λ (v : Terms). Puts v.held c.put.new.self.held c.args.held) c.self.view_is (edited_puts c.self.inside.tree.held c.put.new.self.held c.args.held c.self.invariant.rises c.put.ensures.edits)
