use Rattle.std.proofs.Common.{[], ◌∷◌, sym, subst, refl, arith}
use Rattle.bng_radius_wire.specs.Attributes.{Field}
use Rattle.bng_acct.specs.Request.{AreClasses}
use Rattle.bng_radius_tests.proofs.billing.facts.Goals as goal

pub returns-clause-classes : goal.returns-clause-classes
returns-clause-classes c =
    let one : Field = record { kind = 25; value = 97 ∷ [] } in
    let two : Field = record { kind = 25; value = 98 ∷ 99 ∷ [] } in (
      one ∷ two ∷ [],
      subst (AreClasses (one ∷ two ∷ [])) (sym c.classes.ensures)
          (record { whole = record { fit = (omega arith, (omega arith, tt)); spelled = refl }; classes_all = (refl, (refl, tt)); few = omega arith }),
    )
