use Rattle.std.proofs.Common.{ℕ, List, ap, ◌++◌, length, ◌∙◌, arith}
use Rattle.bng_desk.proofs.Texts.{longer}
use Rattle.bng_desk.proofs.stats.put_number.Goals as goal

pub put_back-requires : goal.put_back-requires
put_back-requires c = omega (arith, c.requires.room, c.format.ensures.short, ap (λ (xs : List ℕ). length xs) c.as_bytes.ensures.value)

pub returns-clause-text : goal.returns-clause-text
returns-clause-text c = c.put_back.ensures.payload ∙ ap (λ (xs : List ℕ). c.args.text.now.payload ++ xs) (c.as_bytes.ensures.value ∙ c.format.ensures.text)

pub returns-clause-few : goal.returns-clause-few
returns-clause-few c = omega (arith, longer c.args.text.now.payload c.as_bytes.result.now c.put_back.new.self.payload c.put_back.ensures.payload, c.format.ensures.short, ap (λ (xs : List ℕ). length xs) c.as_bytes.ensures.value)
