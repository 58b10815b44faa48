use Rattle.std.proofs.Common.{◌≡◌, ◌∙◌, List, length, sym, ap, subst, refl, arith}
use Rattle.bng_base.specs.declared.address.SessionNo.{SessionNo}
use Rattle.bng_sessions.specs.Sessions.{Sessions, with_value}
use Rattle.bng_steps.specs.declared.session.Session.{Session}
use Rattle.bng_steps.specs.Listing.{passing_in, with_listed}
use Rattle.bng_steps.specs.Serving.{AreApart, AreLeased, AreOwn, AreOfShard, AreLeaving, AreAsking, AreYoung, asks, is_young}
use Rattle.bng_steps.specs.State.{leaves}
use Rattle.bng_steps.proofs.Listing.{counted_put, listed_put, passing_most}
use Rattle.bng_steps.proofs.Serves.{apart_put, circuit_alone, leased_put, of_shard_put, own_put, term_alone}
use Rattle.bng_steps.proofs.served.Served.put.Goals as goal

pub list_leaving-requires : goal.list_leaving-requires
list_leaving-requires g c =
    let most = passing_most leaves (g.S.Store.sessions c.self.inside.sessions) c.self.invariant.of_shard in
    let count = c.self.invariant.counted in
    let room = c.self.invariant.room in
    omega (arith, most, count, room)

pub list-requires : goal.list-requires
list-requires g c =
    let most = passing_most asks (g.S.Store.sessions c.self.inside.sessions) c.self.invariant.of_shard in
    let count = c.self.invariant.asking_counted in
    let room = c.self.invariant.asking_room in
    omega (arith, most, count, room)

pub list_young-requires : goal.list_young-requires
list_young-requires g c =
    let most = passing_most is_young (g.S.Store.sessions c.self.inside.sessions) c.self.invariant.of_shard in
    let count = c.self.invariant.young_counted in
    let room = c.self.invariant.young_room in
    omega (arith, most, count, room)

pub put-requires-clause-circuit : goal.put-requires-clause-circuit
put-requires-clause-circuit g c = circuit_alone (g.S.Store.sessions c.self.inside.sessions) c.args.session c.self.invariant.own (rw (← c.self.view_is) at c.requires.vacant)

pub put-requires-clause-address : goal.put-requires-clause-address
put-requires-clause-address g c = rw (← c.self.view_is) at c.requires.apart

pub put-requires-clause-term : goal.put-requires-clause-term
put-requires-clause-term g c = term_alone (g.S.Store.sessions c.self.inside.sessions) c.args.session c.self.invariant.own (rw (← c.self.view_is) at c.requires.vacant)

pub invariant_of-self : goal.invariant_of-self
invariant_of-self g c =
    let s = (g.S.Store.sessions c.self.inside.sessions) in
    let is = c.self.invariant in
    let x = c.args.session in
    let n = c.args.session.number.0 in
    let vacant = rw (← c.self.view_is) at c.requires.vacant in
    let number = rw (← c.self.view_is) at c.requires.number in
    let apart = rw (← c.self.view_is) at c.requires.apart in
    let put : (g.S.Store.sessions c.put.new.self) ≡ with_value s n x = c.put.ensures in
    let ended = c.self.inside.leaving.items in
    let ended_wide = is.room in
    let ended_same = c.list_leaving.ensures.capacity in
    let numbers = c.self.inside.asking.items in
    let asking_wide = is.asking_room in
    let asking_same = c.list.ensures.capacity in
    let youths = c.self.inside.young.items in
    let young_wide = is.young_room in
    let young_same = c.list_young.ensures.capacity in
    record {
      own = subst AreOwn (sym put) (own_put s n x is.own refl);
      of_shard = subst AreOfShard (sym put) (of_shard_put s n x is.of_shard number);
      apart = λ unique. subst AreApart (sym put) (apart_put s n x (is.apart unique) (apart unique));
      leased = subst AreLeased (sym put) (leased_put s n x is.leased c.requires.leased);
      leaving = subst (λ (ns : List SessionNo). AreLeaving (g.S.Store.sessions c.put.new.self) ns) (sym c.list_leaving.ensures.items)
          (subst (λ (t : Sessions Session). AreLeaving t (with_listed leaves x ended)) (sym put) (listed_put leaves s x ended is.leaving vacant));
      counted = ap (passing_in leaves) put ∙ counted_put leaves s x ended is.leaving vacant is.counted ∙ ap (λ (ns : List SessionNo). length ns) (sym c.list_leaving.ensures.items);
      room = omega (arith, ended_wide, ended_same);
      asking = subst (λ (ns : List SessionNo). AreAsking (g.S.Store.sessions c.put.new.self) ns) (sym c.list.ensures.items)
          (subst (λ (t : Sessions Session). AreAsking t (with_listed asks x numbers)) (sym put) (listed_put asks s x numbers is.asking vacant));
      asking_counted = ap (passing_in asks) put ∙ counted_put asks s x numbers is.asking vacant is.asking_counted ∙ ap (λ (ns : List SessionNo). length ns) (sym c.list.ensures.items);
      asking_room = omega (arith, asking_wide, asking_same);
      young = subst (λ (ns : List SessionNo). AreYoung (g.S.Store.sessions c.put.new.self) ns) (sym c.list_young.ensures.items)
          (subst (λ (t : Sessions Session). AreYoung t (with_listed is_young x youths)) (sym put) (listed_put is_young s x youths is.young vacant));
      young_counted = ap (passing_in is_young) put ∙ counted_put is_young s x youths is.young vacant is.young_counted ∙ ap (λ (ns : List SessionNo). length ns) (sym c.list_young.ensures.items);
      young_room = omega (arith, young_wide, young_same);
      passed = is.passed;
      passed_low = is.passed_low;
      metered = is.metered;
    }
