use Rattle.std.proofs.Common.{◌≡◌, ◌∙◌, Some, false, sym, ap, subst, arith, List, length}
use Rattle.bng_base.specs.declared.address.SessionNo.{SessionNo}
use Rattle.bng_sessions.specs.Sessions.{NoneShares, Sessions, value_at, without}
use Rattle.bng_steps.specs.declared.session.Session.{Session}
use Rattle.bng_steps.specs.Indexed.{address_of}
use Rattle.bng_steps.specs.Listing.{passing_in, without_listed}
use Rattle.bng_steps.specs.Serving.{AreApart, AreLeased, AreOwn, AreOfShard, AreLeaving, AreAsking, AreYoung, asks, is_young}
use Rattle.bng_steps.specs.State.{leaves}
use Rattle.bng_steps.proofs.Listing.{counted_take, listed_take, taken_none}
use Rattle.bng_steps.proofs.Serves.{leased_take, alone_take, apart_take, of_shard_take, own_take, stay_there}
use Rattle.bng_steps.proofs.Values.{same_some}
use Rattle.bng_steps.proofs.served.Served.take.Goals as goal

pub invariant_of-self : goal.invariant_of-self
invariant_of-self g c =
    let s = (g.S.Store.sessions c.self.inside.sessions) in
    let n = c.args.number.0 in
    let is = c.self.invariant in
    let x = stay_there (value_at s n) (rw (← c.self.view_is) at c.requires) in
    let after = sym c.remove.ensures.after in
    let y = c.in-Some.session in
    let here : value_at s n ≡ Some y = sym c.in-Some.ensures.value in
    let stays : leaves y ≡ false = ap leaves (same_some y x.0 (sym here ∙ x.1)) ∙ x.2 in
    let own : y.number.0 ≡ n = is.own n y here in
    let there : value_at s y.number.0 ≡ Some y = ap (value_at s) own ∙ here in
    let numbers = c.self.inside.asking.items in
    let ended = c.self.inside.leaving.items in
    let same : without_listed leaves y ended ≡ ended = taken_none leaves y ended stays in
    let gone : (g.S.Store.sessions c.remove.new.self) ≡ without s y.number.0 = c.remove.ensures.after ∙ ap (without s) (sym own) in
    let wide = is.asking_room in
    let same_room = c.unlist.ensures.capacity in
    let youths = c.self.inside.young.items in
    let young_wide = is.young_room in
    let young_same = c.unlist_young.ensures.capacity in
    record {
      own = subst AreOwn after (own_take s n is.own);
      of_shard = subst AreOfShard after (of_shard_take s n is.of_shard);
      apart = λ unique. subst AreApart after (apart_take s n (is.apart unique));
      leased = subst AreLeased after (leased_take s n is.leased);
      leaving = subst (λ (ns : List SessionNo). AreLeaving (g.S.Store.sessions c.remove.new.self) ns) same
          (subst (λ (t : Sessions Session). AreLeaving t (without_listed leaves y ended)) (sym gone) (listed_take leaves s y ended is.leaving there));
      counted = ap (passing_in leaves) gone ∙ counted_take leaves s y ended is.leaving there is.counted ∙ ap (λ (ns : List SessionNo). length ns) same;
      room = is.room;
      asking = subst (λ (ns : List SessionNo). AreAsking (g.S.Store.sessions c.remove.new.self) ns) (sym c.unlist.ensures.items)
          (subst (λ (t : Sessions Session). AreAsking t (without_listed asks y numbers)) (sym gone) (listed_take asks s y numbers is.asking there));
      asking_counted = ap (passing_in asks) gone ∙ counted_take asks s y numbers is.asking there is.asking_counted ∙ ap (λ (ns : List SessionNo). length ns) (sym c.unlist.ensures.items);
      asking_room = omega (arith, wide, same_room);
      young = subst (λ (ns : List SessionNo). AreYoung (g.S.Store.sessions c.remove.new.self) ns) (sym c.unlist_young.ensures.items)
          (subst (λ (t : Sessions Session). AreYoung t (without_listed is_young y youths)) (sym gone) (listed_take is_young s y youths is.young there));
      young_counted = ap (passing_in is_young) gone ∙ counted_take is_young s y youths is.young there is.young_counted ∙ ap (λ (ns : List SessionNo). length ns) (sym c.unlist_young.ensures.items);
      young_room = omega (arith, young_wide, young_same);
      passed = is.passed;
      passed_low = is.passed_low;
      metered = is.metered;
    }

pub returns-clause-apart : goal.returns-clause-apart
returns-clause-apart g c unique =
    let s = (g.S.Store.sessions c.self.inside.sessions) in
    subst (λ (t : Sessions Session). NoneShares address_of t c.in-Some.session) (sym c.remove.ensures.after)
    (alone_take s c.args.number.0 c.in-Some.session (c.self.invariant.apart unique) (sym c.in-Some.ensures.value))

pub returns-clause-leased : goal.returns-clause-leased
returns-clause-leased g c = c.self.invariant.leased c.args.number.0 c.in-Some.session (sym c.in-Some.ensures.value)
