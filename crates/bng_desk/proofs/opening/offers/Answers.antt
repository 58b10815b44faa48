use Rattle.std.proofs.Common.{ℕ, List, map, refl, ap, arith}
use Rattle.arrayvec.specs.ArrayVec.{ArrayVec}
use Rattle.bng_desk.proofs.Outfit.{offers_next}
use Rattle.bng_desk.proofs.opening.offers.Goals as goal

pub loop-place-preserved : goal.loop-place-preserved
loop-place-preserved c =
    let was = c.loop-place.invariant in
    record {
      offers = offers_next c.args.name.now.items c.args.services.now.items c.args.key c.args.access.now c.loop-place.place _ _ c.loop-place.offers.items c.push_reserved.new.self.items c.loop-place-test.true was.offers c.push_reserved.ensures.items
          (record { number_is = refl; mac = refl; key_is = refl; name_is = ap (λ (s : ArrayVec ℕ). s.items) c.copied.ensures; services_are = ap (λ (ss : List (ArrayVec ℕ)). map (λ (s : ArrayVec ℕ). s.items) ss) c.all_copied.ensures });
      count = omega (arith, c.push_reserved.ensures.len, was.count);
      room = omega (arith, c.push_reserved.ensures.capacity, was.room);
    }
