use Rattle.std.proofs.Common.{◌≡◌, refl, sym, subst}
use Rattle.bng_base.specs.declared.item.ItemKind.{ItemKind}
use Rattle.bng_shard.specs.Handling.{is_limited}
use Rattle.bng_steps.specs.declared.wish.Wish.TheVariants.{Nothing}
use Rattle.bng_steps.specs.Wished.{WishesFor}
use Rattle.bng_shard_tests.proofs.shard.terms.handing.ended.Goals as goal

pub step_with-consumed-requires-clause-answered : goal.step_with-consumed-requires-clause-answered
step_with-consumed-requires-clause-answered c =
    let v = c.prepare.new.self in
    record {
      wish = Nothing;
      is_wished = subst (λ (k : ItemKind). WishesFor k v.state.rules v.state.slots (record c.item-end.result { target = 1 }) (is_limited v) Nothing) (sym c.item-end.ensures.kind) refl;
      answers = refl;
    }
