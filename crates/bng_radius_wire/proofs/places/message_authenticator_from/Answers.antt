use Rattle.std.proofs.Common.{◌+◌, ℕ, subst, sym, arith}
use Rattle.bng_radius_wire.proofs.Walks.{Walked, found, walk_on, walk_ends, next_size, next_there}
use Rattle.bng_radius_wire.proofs.places.message_authenticator_from.Goals as goal

pub returns-then-packet-at-eq-MESSAGE_AUTHENTICATOR-clause-found :
    goal.returns-then-packet-at-eq-MESSAGE_AUTHENTICATOR-clause-found
returns-then-packet-at-eq-MESSAGE_AUTHENTICATOR-clause-found c = λ fs h.
    found fs c.args.start c.loop-at.at c.args.packet.now (c.loop-at.invariant.walked fs h) c.loop-at-test.true c.if-packet-at-eq-MESSAGE_AUTHENTICATOR.true

pub bounds-packet-at-in-loop-at : goal.bounds-packet-at-in-loop-at
bounds-packet-at-in-loop-at c =
    let walked = c.loop-at.invariant.walked c.requires.grammar.0 c.requires.grammar.1 in
    omega (arith, next_there c.requires.grammar.0 c.args.start c.loop-at.at c.args.packet.now walked c.loop-at-test.true)

pub loop-at-smaller : goal.loop-at-smaller
loop-at-smaller c =
    let walked = c.loop-at.invariant.walked c.requires.grammar.0 c.requires.grammar.1 in
    let size = next_size c.requires.grammar.0 c.args.start c.loop-at.at c.args.packet.now walked c.loop-at-test.true in
    omega (arith, size, c.from-at.ensures)

pub loop-at-preserved : goal.loop-at-preserved
loop-at-preserved c =
    let walked = c.loop-at.invariant.walked c.requires.grammar.0 c.requires.grammar.1 in
    let size = next_size c.requires.grammar.0 c.args.start c.loop-at.at c.args.packet.now walked c.loop-at-test.true in
    let there = next_there c.requires.grammar.0 c.args.start c.loop-at.at c.args.packet.now walked c.loop-at-test.true in
    record {
      within = omega (arith, size, there, c.from-at.ensures);
      walked = λ fs h.
          subst (λ (n : ℕ). Walked fs c.args.start (c.loop-at.at + n) c.args.packet.now) (sym c.from-at.ensures)
          (walk_on fs c.args.start c.loop-at.at c.args.packet.now (c.loop-at.invariant.walked fs h) c.loop-at-test.true c.if-packet-at-eq-MESSAGE_AUTHENTICATOR.false);
    }

pub returns-clause-none : goal.returns-clause-none
returns-clause-none c = λ fs h. walk_ends fs c.args.start c.loop-at.at c.args.packet.now (c.loop-at.invariant.walked fs h) c.loop-at-test.false
