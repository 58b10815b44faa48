use Rattle.std.proofs.Common.{◌≡◌, sym, subst, rules}
use Rattle.std.specs.Prelude.{◌↔◌}
use Rattle.std.specs.List.{AllPairs, Any}
use Rattle.bng_l2tp_reliable.specs.declared.answers.Due.{Due}
use Rattle.bng_l2tp_reliable.specs.declared.answers.Due.TheVariants.{GiveUp}
use Rattle.bng_l2tp_reliable.specs.ChannelState.{ChannelState}
use Rattle.bng_l2tp_reliable.specs.Timers.{due_of}
use Rattle.bng_l2tp_reliable.specs.Flight.{IsOlder, IsUnanswered}
use Rattle.bng_l2tp_reliable.proofs.Sends.{channel_given_up}
use Rattle.bng_l2tp_reliable.proofs.channel.Channel.due_at.Goals as goal

pub returns-clause-give_up : goal.returns-clause-give_up
returns-clause-give_up c =
    let P : ChannelState → Type 0 = λ s. AllPairs IsOlder s.sends in
    let Q : Due → Type 0 = λ due. (due ≡ GiveUp) ↔ Any (IsUnanswered c.args.now) c.args.self.now.sends in
    let is : c.or_else.result ≡ due_of c.args.self.now c.args.now = search rules in
    subst Q (sym is) (channel_given_up c.args.self.now c.args.now (subst P c.self.view_is c.self.invariant.1))
