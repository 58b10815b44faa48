use Rattle.std.proofs.Common.{ℕ, List, ◌++◌, codes, ap, ◌∙◌, arith}
use Rattle.bng_desk.specs.Report.{quantities}
use Rattle.bng_desk.proofs.Texts.{longer, onto}
use Rattle.bng_desk.proofs.stats.put_profile.Goals as goal

pub put_back-requires-2 : goal.put_back-requires-2
put_back-requires-2 c = omega (arith, c.requires.room, longer c.args.text.now.payload (codes "profile ") c.put_back.new.self.payload c.put_back.ensures.payload, c.put_back.ensures.headroom)

pub put_quantities-requires : goal.put_quantities-requires
put_quantities-requires c = record {
  room = omega (
    arith,
    c.requires.room,
    longer c.args.text.now.payload (codes "profile ") c.put_back.new.self.payload c.put_back.ensures.payload,
    longer c.put_back.new.self.payload c.as_slice.result.now c.put_back-2.new.self.payload c.put_back-2.ensures.payload,
    c.put_back.ensures.headroom,
    c.put_back-2.ensures.headroom,
  );
}

pub returns-clause-text : goal.returns-clause-text
returns-clause-text c =
    let o = c.args.text.now.payload in
    let named = c.put_back-2.ensures.payload ∙ ap (λ (xs : List ℕ). c.put_back.new.self.payload ++ xs) c.as_slice.ensures.value in
    onto o (codes "profile " ++ c.args.name.now.items) (quantities c.args.input c.args.output) c.put_back-2.new.self.payload c.put_quantities.new.text.payload
    (onto o (codes "profile ") c.args.name.now.items c.put_back.new.self.payload c.put_back-2.new.self.payload c.put_back.ensures.payload named) c.put_quantities.ensures.text

pub returns-clause-few : goal.returns-clause-few
returns-clause-few c =
    omega (
      arith,
      longer c.args.text.now.payload (codes "profile ") c.put_back.new.self.payload c.put_back.ensures.payload,
      longer c.put_back.new.self.payload c.as_slice.result.now c.put_back-2.new.self.payload c.put_back-2.ensures.payload,
      c.put_quantities.ensures.few,
    )

pub returns-clause-headroom : goal.returns-clause-headroom
returns-clause-headroom c = c.put_quantities.ensures.headroom ∙ c.put_back-2.ensures.headroom ∙ c.put_back.ensures.headroom
