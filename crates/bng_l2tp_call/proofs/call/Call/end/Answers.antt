use Rattle.std.proofs.Common.{rules, ◌≡◌, ℕ, List, sym, ap, subst}
use Rattle.bng_l2tp_wire.specs.View.{Said, payloads, said}
use Rattle.bng_l2tp_call.specs.Spelling.{administrative, TellsCode}
use Rattle.bng_l2tp_call.specs.Steps.{Step, end_step}
use Rattle.bng_l2tp_call.specs.Sound.{IsSound}
use Rattle.bng_l2tp_call.proofs.Soundness.{end_sound}
use Rattle.bng_l2tp_call.proofs.Told.{same_step, end_tells, told_end}
use Rattle.bng_l2tp_call.proofs.call.Call.end.Goals as goal

pub returns-in-WaitConnect-clause-sound : goal.returns-in-WaitConnect-clause-sound
unfolding end_step
returns-in-WaitConnect-clause-sound c =
    subst (λ (x : Step). IsSound c.args.self.now x) (sym (same_step (end_step c.args.self.now) (said c.finish.result) c.finish.new.self (search rules) (search rules))) (end_sound c.args.self.now)

pub returns-in-WaitConnect-clause-told : goal.returns-in-WaitConnect-clause-told
unfolding end_step
returns-in-WaitConnect-clause-told c =
    let same : said c.finish.result ≡ (end_step c.args.self.now).said = search rules in
    let outs : payloads c.finish.result.outs.items ≡ (end_step c.args.self.now).said.outs = ap (λ (w : Said). w.outs) same in (
      λ e. subst (λ (x : List (List ℕ)). TellsCode administrative x) (sym outs) (end_tells c.args.self.now e),
      λ t. told_end c.args.self.now (subst (λ (x : List (List ℕ)). TellsCode administrative x) outs t),
    )
