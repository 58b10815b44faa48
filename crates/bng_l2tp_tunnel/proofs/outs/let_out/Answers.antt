use Rattle.std.proofs.Common.{rules, inr, sym, ap, ◌∙◌, arith}
use Rattle.bng_l2tp_reliable.specs.ChannelState.{ChannelState}
use Rattle.bng_l2tp_reliable.specs.Calls.{next_out, after_next}
use Rattle.bng_l2tp_wire.specs.View.{payloads}
use Rattle.bng_l2tp_tunnel.specs.Outs.{after_out}
use Rattle.bng_l2tp_tunnel.proofs.Flights.{after_out-none, after_out-next, let_out-none, more_out, goes_on, full_window}
use Rattle.bng_l2tp_tunnel.proofs.Waiting.{first_waiting}
use Rattle.bng_l2tp_tunnel.proofs.outs.let_out.Goals as goal

pub loop-init : goal.loop-init
loop-init c = record {
  are = rw let_out-none (search rules);
  few = search rules;
  after = sym (after_out-none c.args.channel.now);
  sound = λ no. absurd (omega arith);
  until = inr (omega arith);
}

pub loop-preserved : goal.loop-preserved
loop-preserved c =
    let before = c.loop.invariant in
    let out = c.next.ensures.answer ∙ ap next_out before.after in
    record {
      are = more_out c.args.tunnel c.args.channel.now c.loop.counter (payloads c.loop.outs.items) (payloads c.push_some.new.outs.items) c.next.result before.are out c.push_some.ensures.outs;
      few = omega arith;
      after = c.next.ensures.after ∙ ap (λ (d : ChannelState). after_next d c.next.result) before.after ∙ ap (after_next (after_out c.loop.counter c.args.channel.now)) out ∙ sym (after_out-next c.loop.counter c.args.channel.now);
      sound = λ _. c.next.ensures.sound;
      until = goes_on c.loop.counter c.loop.channel c.next.new.self c.next.result c.next.ensures.answer c.next.ensures.after before.until;
    }

pub returns-clause-until : goal.returns-clause-until
returns-clause-until c = full_window c.loop.counter c.loop.channel (c.loop.invariant.sound (omega arith)).window c.loop-test.false c.loop.invariant.until

pub returns-clause-first : goal.returns-clause-first
returns-clause-first c = λ sound. first_waiting 8 c.args.channel.now sound.ns
