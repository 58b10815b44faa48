use Rattle.std.proofs.Common.{ℕ, ◌++◌, ap, ◌∙◌, arith}
use Rattle.bng_desk.specs.Report.{quantities}
use Rattle.bng_desk.proofs.Texts.{longer, onto}
use Rattle.bng_desk.proofs.stats.put_traffic.Goals as goal

pub put_quantities-requires : goal.put_quantities-requires
put_quantities-requires c = record { room = omega (arith, c.requires.room, c.requires.name, longer c.args.text.now.payload c.args.name.now c.put_back.new.self.payload c.put_back.ensures.payload, c.put_back.ensures.headroom) }

pub returns-clause-text : goal.returns-clause-text
returns-clause-text c =
    let t = c.put_back.new.self.payload in
    let said = c.put_quantities.ensures.text ∙ ap (λ (n : ℕ). t ++ quantities n c.from-2.result) c.from.ensures ∙ ap (λ (n : ℕ). t ++ quantities c.args.carried.input n) c.from-2.ensures in
    onto c.args.text.now.payload c.args.name.now (quantities c.args.carried.input c.args.carried.output) t c.put_quantities.new.text.payload c.put_back.ensures.payload said

pub returns-clause-few : goal.returns-clause-few
returns-clause-few c = omega (arith, c.requires.name, longer c.args.text.now.payload c.args.name.now c.put_back.new.self.payload c.put_back.ensures.payload, c.put_quantities.ensures.few)

pub returns-clause-headroom : goal.returns-clause-headroom
returns-clause-headroom c = c.put_quantities.ensures.headroom ∙ c.put_back.ensures.headroom
