use Rattle.std.proofs.Common.{[], ◌∷◌, sym, subst, arith}
use Rattle.bng_pool.specs.Plain.{PlainView}
use Rattle.bng_steps.specs.Lasting.{IsTenureOf}
use Rattle.bng_steps.specs.Protocol.{stop_of}
use Rattle.bng_shard.specs.Handling.{AreHeld}
use Rattle.bng_desk.specs.Round.{IsReturned}
use Rattle.bng_desk.specs.Taking.{far}
use Rattle.bng_desk.proofs.Booking.{leaver_says}
use Rattle.bng_desk.proofs.InAll.{room_for, within_same}
use Rattle.bng_desk.proofs.Reaping.{fewer_ended, leaves_all, left_admitted, left_once, one_less, over_settling, over_tenures, reaps_begin, reaps_on, takes_in}
use Rattle.bng_desk.proofs.Returning.{held_key}
use Rattle.bng_desk.proofs.TermsLeft.{it_was, its_classes}
use Rattle.bng_desk.proofs.stops.reap_ended.Goals as goal

pub loop-ended-init : goal.loop-ended-init
loop-ended-init c = reaps_begin c.args.moment c.args.wall c.args.shard.now c.args.pool.now c.args.accounts.now c.requires.terms c.requires.held

pub stop-requires-clause-classes : goal.stop-requires-clause-classes
stop-requires-clause-classes c =
    let s = c.loop-ended.shard.state.slots in
    let e = c.in-Some.ended in
    let told = c.in-Some.ensures.says in
    let is = it_was (IsTenureOf s.sessions.shard s.begun c.args.moment) s.terms c.reap.new.self.state.slots.terms told.0 told.2 c.loop-ended.invariant.tenures.each in
    its_classes s.sessions.shard s.begun c.args.moment told.0 e.user.items e.class.items e.began (stop_of e).key is told.1

pub stop-requires-clause-began : goal.stop-requires-clause-began
stop-requires-clause-began c =
    let s = c.loop-ended.shard.state.slots in
    let told = c.in-Some.ensures.says in
    let is = it_was (IsTenureOf s.sessions.shard s.begun c.args.moment) s.terms c.reap.new.self.state.slots.terms told.0 told.2 c.loop-ended.invariant.tenures.each in
    omega (arith, is.began, told.1.began_is)

pub stop-requires-clause-admitted : goal.stop-requires-clause-admitted
stop-requires-clause-admitted c =
    let told = c.in-Some.ensures.says in
    let (front, back, began, settling) = c.requires.settling in
    left_admitted front back began c.loop-ended.shard c.reap.new.self told.0 (stop_of c.in-Some.ended).key told.2 told.1.key c.loop-ended.accounts.billing (c.loop-ended.invariant.settling front back began settling)

pub stop-requires-clause-once : goal.stop-requires-clause-once
stop-requires-clause-once c =
    let told = c.in-Some.ensures.says in
    let (front, back, began, settling) = c.requires.settling in
    left_once front back began c.loop-ended.shard c.reap.new.self told.0 (stop_of c.in-Some.ended).key told.2 told.1.key c.loop-ended.accounts.billing c.free.ensures.agree (c.loop-ended.invariant.settling front back began settling)

pub stop-requires-clause-room : goal.stop-requires-clause-room
stop-requires-clause-room c = takes_in c.loop-ended.shard c.reap.new.self (stop_of c.in-Some.ended) c.loop-ended.accounts.lines c.in-Some.ensures.one.0 (c.loop-ended.invariant.within far c.requires.low)

pub stop-requires-clause-room_in_all : goal.stop-requires-clause-room_in_all
stop-requires-clause-room_in_all c =
    let told = c.in-Some.ensures.says in
    let w = c.loop-ended.shard in
    let w' = c.reap.new.self in
    room_for w w' (stop_of c.in-Some.ended ∷ []) c.loop-ended.accounts.stopped c.in-Some.ensures.one.0.rows (one_less w w' told.0 told.2)
    (within_same (c.args.shard.now ∷ []) (w ∷ []) c.args.accounts.now.stopped c.loop-ended.accounts.stopped c.requires.low_in_all c.loop-ended.invariant.same)

pub loop-ended-preserved : goal.loop-ended-preserved
loop-ended-preserved c =
    let e = c.in-Some.ended in
    let w = c.loop-ended.shard in
    let w' = c.reap.new.self in
    let v = c.args.shard.now in
    let told = c.in-Some.ensures.says in
    let frees = c.in-Some.ensures.one.1 in
    let was = c.loop-ended.invariant in
    let any = leaver_says w.state.slots.terms w'.state.slots.terms told.0 e.user.items e.class.items e.began (stop_of e).key told.2 told.1 in
    reaps_on c.args.moment c.args.wall v w w' (stop_of e) told.0 frees.0 c.args.pool.now c.loop-ended.pool c.reap.new.pool c.args.accounts.now c.loop-ended.accounts c.stop.new.self
    was c.in-Some.ensures.one.0 told.2 told.1.key frees.1 c.reap.ensures.rest (held_key w.number c.loop-ended.pool.table e.user.items e.class.items e.began (stop_of e).key w.state.slots.terms any was.held) c.reap.ensures.held
    (c.stop.ensures v.state.slots.terms (was.some.among e.user.items e.class.items e.began (stop_of e).key any))

pub loop-ended-smaller : goal.loop-ended-smaller
loop-ended-smaller c = fewer_ended c.loop-ended.shard c.reap.new.self (stop_of c.in-Some.ended) c.in-Some.ensures.one.0

pub returns-clause-reaps : goal.returns-clause-reaps
returns-clause-reaps c =
    let so_far = c.loop-ended.invariant in
    let last = c.in_default.ensures.none in
    record {
      stops = so_far.stops;
      reaped = leaves_all c.loop-ended.shard c.reap.new.self 0 last.0 last.2 c.args.shard.now so_far.stops so_far.some c.reap.ensures.few;
      returned = subst (λ (p : PlainView). IsReturned so_far.stops c.args.pool.now p) (sym last.1) so_far.returned;
      booked = so_far.booked;
    }

pub returns-clause-settling : goal.returns-clause-settling
returns-clause-settling c front back began settling =
    let last = c.in_default.ensures.none in
    over_settling c.loop-ended.shard c.reap.new.self 0 last.0 last.2 front back began c.loop-ended.accounts.billing (c.loop-ended.invariant.settling front back began settling)

pub returns-clause-terms : goal.returns-clause-terms
returns-clause-terms c =
    let last = c.in_default.ensures.none in
    over_tenures c.loop-ended.shard c.reap.new.self 0 last.0 last.2 c.args.moment c.loop-ended.invariant.tenures

pub returns-clause-held : goal.returns-clause-held
returns-clause-held c = c.reap.ensures.held

pub returns-clause-others : goal.returns-clause-others
returns-clause-others c n terms other held =
    subst (λ (p : PlainView). AreHeld n terms p.table) (sym c.in_default.ensures.none.1) (c.loop-ended.invariant.others n terms other held)
