use Rattle.std.proofs.Common.{[], refl, sym, subst, arith}
use Rattle.bng_base.specs.declared.item.Entry.{Entry}
use Rattle.bng_engine.specs.Views.{ShardView}
use Rattle.bng_steps.specs.Lasting.{IsTenureOf}
use Rattle.bng_steps.specs.Protocol.{ShardState, key_of}
use Rattle.bng_desk.specs.Taking.{BeginsShard}
use Rattle.bng_desk.proofs.Begun.{begins_begin, begins_on, begins_shard, begun_alone, begun_settling, fewer_new, told_admitted, told_once}
use Rattle.bng_desk.proofs.Booking.{leaver_says}
use Rattle.bng_desk.proofs.TermsLeft.{it_was, its_classes}
use Rattle.bng_desk.proofs.starts.begin.Goals as goal

pub returns-then-not-has_news-clause-begins : goal.returns-then-not-has_news-clause-begins
returns-then-not-has_news-clause-begins c =
    let v = c.args.shard.now in
    let a = c.args.accounts.now in
    begins_shard c.args.moment c.args.wall v v a a (begins_begin c.args.moment c.args.wall v a c.requires.terms) (c.if-not-has_news.ensures.none refl)

pub returns-then-not-has_news-clause-settling : goal.returns-then-not-has_news-clause-settling
returns-then-not-has_news-clause-settling c terms front back settling =
    let v = c.args.shard.now in
    let a = c.args.accounts.now in
    begun_settling c.args.moment c.args.wall v v a a (begins_begin c.args.moment c.args.wall v a c.requires.terms) (c.if-not-has_news.ensures.none refl) terms front back settling

pub loop-term-init : goal.loop-term-init
loop-term-init c = begins_begin c.args.moment c.args.wall c.args.shard.now c.args.accounts.now c.requires.terms

pub start-requires-clause-classes : goal.start-requires-clause-classes
start-requires-clause-classes c =
    let s = c.loop-term.shard.state.slots in
    let e = c.in-Some.term in
    let told = c.in-Some.ensures.some in
    let is = it_was (IsTenureOf s.sessions.shard s.begun c.args.moment) s.news c.fresh.new.self.state.slots.news told.0 told.2.leaves c.loop-term.invariant.tenures.each_new in
    its_classes s.sessions.shard s.begun c.args.moment told.0 e.user.items e.class.items e.began (key_of e) is told.1

pub start-requires-clause-began : goal.start-requires-clause-began
start-requires-clause-began c =
    let s = c.loop-term.shard.state.slots in
    let told = c.in-Some.ensures.some in
    let is = it_was (IsTenureOf s.sessions.shard s.begun c.args.moment) s.news c.fresh.new.self.state.slots.news told.0 told.2.leaves c.loop-term.invariant.tenures.each_new in
    omega (arith, is.began, told.1.began_is)

pub start-requires-clause-admitted : goal.start-requires-clause-admitted
start-requires-clause-admitted c =
    let told = c.in-Some.ensures.some in
    let (terms, settling) = c.requires.settling in
    told_admitted terms [] [] c.loop-term.shard.state.slots c.fresh.new.self.state.slots told.0 (key_of c.in-Some.term) told.2 told.1.key c.loop-term.accounts.billing
    (c.loop-term.invariant.settling terms [] [] (begun_alone terms c.args.shard.now.state.slots.news c.args.accounts.now.billing settling))

pub start-requires-clause-once : goal.start-requires-clause-once
start-requires-clause-once c =
    let told = c.in-Some.ensures.some in
    let (terms, settling) = c.requires.settling in
    told_once terms [] [] c.loop-term.shard.state.slots c.fresh.new.self.state.slots told.0 (key_of c.in-Some.term) told.2 told.1.key c.loop-term.accounts.billing
    (c.loop-term.invariant.settling terms [] [] (begun_alone terms c.args.shard.now.state.slots.news c.args.accounts.now.billing settling))

pub loop-term-preserved : goal.loop-term-preserved
loop-term-preserved c =
    let e = c.in-Some.term in
    let w = c.loop-term.shard in
    let w' = c.fresh.new.self in
    let v = c.args.shard.now in
    let told = c.in-Some.ensures.some in
    let was = c.loop-term.invariant in
    let any = leaver_says w.state.slots.news w'.state.slots.news told.0 e.user.items e.class.items e.began (key_of e) told.2.leaves told.1 in
    begins_on c.args.moment c.args.wall v w w' told.0 (key_of e) c.args.accounts.now c.loop-term.accounts c.start.new.self was told.2 told.1.key told.3
    (c.start.ensures v.state.slots.news (was.some.among e.user.items e.class.items e.began (key_of e) any))

pub loop-term-smaller : goal.loop-term-smaller
loop-term-smaller c = let told = c.in-Some.ensures.some in fewer_new c.loop-term.shard.state.slots c.fresh.new.self.state.slots told.0 told.2

pub returns-clause-begins : goal.returns-clause-begins
returns-clause-begins c =
    let v = c.args.shard.now in
    let none = c.in_default.ensures.none in
    subst (λ (x : ShardView ShardState Entry). BeginsShard v.state.slots.news c.args.moment c.args.wall v x c.args.accounts.now c.loop-term.accounts) (sym none.1)
    (begins_shard c.args.moment c.args.wall v c.loop-term.shard c.args.accounts.now c.loop-term.accounts c.loop-term.invariant none.0)

pub returns-clause-settling : goal.returns-clause-settling
returns-clause-settling c terms front back settling =
    begun_settling c.args.moment c.args.wall c.args.shard.now c.loop-term.shard c.args.accounts.now c.loop-term.accounts c.loop-term.invariant c.in_default.ensures.none.0 terms front back settling
