use Rattle.std.proofs.Common.{◌≡◌, ◌∙◌, List, [], ◌∷◌, ◌++◌, length, sym, ap, subst, refl, arith}
use Rattle.bng_base.specs.declared.address.SessionNo.{SessionNo}
use Rattle.bng_sessions.specs.Sessions.{Sessions}
use Rattle.bng_steps.specs.declared.session.Session.{Session}
use Rattle.bng_steps.specs.Listing.{passing_in}
use Rattle.bng_steps.specs.Serving.{AreLeaving, asks, is_young}
use Rattle.bng_steps.specs.State.{State}
use Rattle.bng_steps.proofs.Circuits.{no_length}
use Rattle.bng_steps.proofs.Listing.{leaves_asks, leaves_young, listed_left, passing_settled}
use Rattle.bng_steps.proofs.Settling.{Settles, apart_left, leased_left, ended_none, leaving_none, of_shard_left, own_left, settles_all, settles_more, settles_none}
use Rattle.bng_steps.proofs.served.Served.settle.Goals as goal

pub loop-number-init : goal.loop-number-init
loop-number-init g c =
    let is = c.self.invariant in
    rw (← c.self.view_is) (record {
      settles = settles_none (g.S.Store.sessions c.self.inside.sessions) c.self.inside.leaving.items is.leaving;
      own = is.own;
      of_shard = is.of_shard;
      apart = is.apart;
      leased = is.leased;
      begun = refl;
      asked = refl;
      passed = refl;
      moments = is.passed;
      moments_low = is.passed_low;
      meters = refl;
      metered = is.metered;
      tunnels = refl;
      room = is.room;
      asking = is.asking;
      asking_counted = is.asking_counted;
      asking_room = is.asking_room;
      young = is.young;
      young_counted = is.young_counted;
      young_room = is.young_room;
    })

pub loop-number-preserved : goal.loop-number-preserved
loop-number-preserved g c =
    let s0 = c.args.self.now.sessions in
    let s = (g.S.Store.sessions c.loop-number.self-inside.sessions) in
    let numbers = c.pop.new.self.items in
    let was = c.loop-number.invariant in
    let h : Settles s0 s (numbers ++ c.in-Some.number ∷ []) = subst (λ (ns : List SessionNo). Settles s0 s ns) c.in-Some.ensures.items was.settles in
    let room = was.room in
    let same_room = c.pop.ensures.capacity in
    record {
      settles = subst (λ (t : Sessions Session). Settles s0 t numbers) (sym c.remove.ensures.after) (settles_more s0 s numbers c.in-Some.number h);
      own = was.own;
      of_shard = was.of_shard;
      apart = was.apart;
      leased = was.leased;
      begun = was.begun;
      asked = was.asked;
      passed = was.passed;
      moments = was.moments;
      moments_low = was.moments_low;
      meters = was.meters;
      metered = was.metered;
      tunnels = was.tunnels;
      room = omega (arith, room, same_room);
      asking = was.asking;
      asking_counted = was.asking_counted;
      asking_room = was.asking_room;
      young = was.young;
      young_counted = was.young_counted;
      young_room = was.young_room;
    }

pub invariant_of-self : goal.invariant_of-self
invariant_of-self g c =
    let s0 = c.args.self.now.sessions in
    let s = (g.S.Store.sessions c.loop-number.self-inside.sessions) in
    let was = c.loop-number.invariant in
    let zero_before = c.in_default.ensures.cases.0 in
    let before : length c.loop-number.self-inside.leaving.items ≡ 0 = omega (arith, zero_before) in
    let zero_after = c.in_default.ensures.cases.1 in
    let after : length c.pop.new.self.items ≡ 0 = omega (arith, zero_after) in
    let gone = no_length c.pop.new.self.items after in
    let h : Settles s0 s [] = subst (λ (ns : List SessionNo). Settles s0 s ns) (no_length c.loop-number.self-inside.leaving.items before) was.settles in
    let room = was.room in
    let same_room = c.pop.ensures.capacity in
    record {
      own = own_left s0 s h was.own;
      of_shard = of_shard_left s0 s h was.of_shard;
      apart = λ unique. apart_left s0 s h (was.apart unique);
      leased = leased_left s0 s h was.leased;
      leaving = subst (λ (ns : List SessionNo). AreLeaving s ns) (sym gone) (leaving_none s0 s h);
      counted = ended_none s0 s h ∙ sym after;
      room = omega (arith, room, same_room);
      asking = listed_left asks leaves_asks s0 s c.loop-number.self-inside.asking.items h.left was.asking;
      asking_counted = ap (passing_in asks) (settles_all s0 s h) ∙ passing_settled asks leaves_asks s0 ∙ was.asking_counted;
      asking_room = was.asking_room;
      young = listed_left is_young leaves_young s0 s c.loop-number.self-inside.young.items h.left was.young;
      young_counted = ap (passing_in is_young) (settles_all s0 s h) ∙ passing_settled is_young leaves_young s0 ∙ was.young_counted;
      young_room = was.young_room;
      passed = was.moments;
      passed_low = was.moments_low;
      metered = was.metered;
    }

pub returns : goal.returns
returns g c =
    let s0 = c.args.self.now.sessions in
    let s = (g.S.Store.sessions c.loop-number.self-inside.sessions) in
    let was = c.loop-number.invariant in
    let zero_before = c.in_default.ensures.cases.0 in
    let before : length c.loop-number.self-inside.leaving.items ≡ 0 = omega (arith, zero_before) in
    let h : Settles s0 s [] = subst (λ (ns : List SessionNo). Settles s0 s ns) (no_length c.loop-number.self-inside.leaving.items before) was.settles in
    let all = settles_all s0 s h in
    let begun = was.begun in
    let asked = was.asked in
    let passed = was.passed in
    let meters = was.meters in
    let tunnels = was.tunnels in
    let terms = ap (λ (t : State). t.terms) c.self.view_is in
    let news = ap (λ (t : State). t.news) c.self.view_is in
    λ i. record { sessions = all i; begun = begun i; question_count = asked i; terms = terms i; news = news i; passed = passed i; meters = meters i; tunnels = tunnels i }
