use Rattle.bng_shard.specs.Fits.{Fits}
use Rattle.std.proofs.Common.{ap, arith, length, subst, sym}
use Rattle.bng_shard.proofs.shard.Shard.drain.Goals as goal

pub invariant_of-self : goal.invariant_of-self
invariant_of-self c =
    let was : Fits c.deref_mut-body.result.now = subst Fits (sym c.deref_mut-body.ensures.value) c.self.invariant in
    record {
      numbered = was.numbered;
      numbered_news = was.numbered_news;
      apart = was.apart;
      tied = was.tied;
      left = λ some. absurd (omega (arith, some));
      numbers = was.numbers;
      placed = was.placed;
      few_pools = was.few_pools;
      auth = was.auth;
      offers = was.offers;
      few_profiles = was.few_profiles;
      named = was.named;
      booked = was.booked;
      journal_room = omega (arith, ap length c.handed_out-journal.ensures.none);
      outs_room = λ some. absurd (omega (arith, some));
      terms_room = omega arith;
      changed_room = omega (arith, was.changed_room);
    }
