use Rattle.std.proofs.Common.{ℕ, List, subst}
use Rattle.bng_gate.specs.Saying.{Says}
use Rattle.bng_gate.proofs.Sayings.{says_front, says_more}
use Rattle.bng_gate.proofs.saying.say_end.Goals as goal

pub returns-in-Failed : goal.returns-in-Failed
returns-in-Failed g c =
    says_front (g.X.Sink.told c.args.sink.now) (g.X.Sink.told c.say_text.new.sink) c.args.line.now.name.now c.args.line.now.back.now c.in-Failed.ensures

pub returns-in-Ok : goal.returns-in-Ok
returns-in-Ok g c =
    let b = g.X.Sink.told c.say_text.new.sink in
    let d = g.X.Sink.told c.say_text-in-Ok.new.sink in
    says_more (g.X.Sink.told c.args.sink.now) b d c.args.line.now.name.now c.args.line.now.back.now c.say_text-in-Ok.result c.in-Ok.ensures
    (subst (λ (text : List ℕ). Says b d text c.say_text-in-Ok.result) c.as_bytes.ensures.value c.say_text-in-Ok.ensures)
