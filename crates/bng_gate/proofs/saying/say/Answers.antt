use Rattle.std.proofs.Common.{ℕ, ◌++◌, List, subst}
use Rattle.bng_plant.specs.declared.answers.Wrote.TheVariants.{Ok, Failed}
use Rattle.bng_gate.specs.Saying.{Says}
use Rattle.bng_gate.proofs.Sayings.{says_front, says_more}
use Rattle.bng_gate.proofs.saying.say.Goals as goal

pub returns-in-Failed : goal.returns-in-Failed
returns-in-Failed g c =
    let a = g.X.Sink.told c.args.sink.now in
    let b = g.X.Sink.told c.say_text.new.sink in
    let l = c.args.line.now in
    says_front a b l.front.now (l.middle.bytes ++ (l.name.now ++ l.back.now)) (subst (λ (text : List ℕ). Says a b text Failed) c.as_bytes.ensures.value c.in-Failed.ensures)

pub returns-in-Ok : goal.returns-in-Ok
returns-in-Ok g c =
    let a = g.X.Sink.told c.args.sink.now in
    let b = g.X.Sink.told c.say_text.new.sink in
    let d = g.X.Sink.told c.say_rest.new.sink in
    let l = c.args.line.now in
    says_more a b d l.front.now (l.middle.bytes ++ (l.name.now ++ l.back.now)) c.say_rest.result (subst (λ (text : List ℕ). Says a b text Ok) c.as_bytes.ensures.value c.in-Ok.ensures) c.say_rest.ensures
