use Rattle.std.proofs.Common.{◌++◌, codes, ◌∙◌, arith}
use Rattle.std.specs.Fmt.{decimal}
use Rattle.bng_desk.proofs.Texts.{longer, onto}
use Rattle.bng_desk.proofs.stats.put_quantities.Goals as goal

pub put_number-requires : goal.put_number-requires
put_number-requires c = record { room = omega (arith, c.requires.room, longer c.args.text.now.payload (codes " in=") c.put_back.new.self.payload c.put_back.ensures.payload, c.put_back.ensures.headroom) }

pub put_back-requires-2 : goal.put_back-requires-2
put_back-requires-2 c = omega (arith, c.requires.room, longer c.args.text.now.payload (codes " in=") c.put_back.new.self.payload c.put_back.ensures.payload, c.put_number.ensures.few, c.put_back.ensures.headroom, c.put_number.ensures.headroom)

pub put_number-requires-2 : goal.put_number-requires-2
put_number-requires-2 c = record {
  room = omega (
    arith,
    c.requires.room,
    longer c.args.text.now.payload (codes " in=") c.put_back.new.self.payload c.put_back.ensures.payload,
    c.put_number.ensures.few,
    longer c.put_number.new.text.payload (codes " out=") c.put_back-2.new.self.payload c.put_back-2.ensures.payload,
    c.put_back.ensures.headroom,
    c.put_number.ensures.headroom,
    c.put_back-2.ensures.headroom,
  );
}

pub put_back-requires-3 : goal.put_back-requires-3
put_back-requires-3 c =
    omega (
      arith,
      c.requires.room,
      longer c.args.text.now.payload (codes " in=") c.put_back.new.self.payload c.put_back.ensures.payload,
      c.put_number.ensures.few,
      longer c.put_number.new.text.payload (codes " out=") c.put_back-2.new.self.payload c.put_back-2.ensures.payload,
      c.put_number-2.ensures.few,
      c.put_back.ensures.headroom,
      c.put_number.ensures.headroom,
      c.put_back-2.ensures.headroom,
      c.put_number-2.ensures.headroom,
    )

pub returns-clause-text : goal.returns-clause-text
returns-clause-text c =
    let o = c.args.text.now.payload in
    let a = codes " in=" in
    let b = a ++ decimal c.args.input in
    let d = b ++ codes " out=" in
    let e = d ++ decimal c.args.output in
    onto o e (codes "\n") c.put_number-2.new.text.payload c.put_back-3.new.self.payload
    (onto o d (decimal c.args.output) c.put_back-2.new.self.payload c.put_number-2.new.text.payload
    (onto o b (codes " out=") c.put_number.new.text.payload c.put_back-2.new.self.payload
    (onto o a (decimal c.args.input) c.put_back.new.self.payload c.put_number.new.text.payload c.put_back.ensures.payload c.put_number.ensures.text) c.put_back-2.ensures.payload) c.put_number-2.ensures.text) c.put_back-3.ensures.payload

pub returns-clause-few : goal.returns-clause-few
returns-clause-few c =
    omega (
      arith,
      longer c.args.text.now.payload (codes " in=") c.put_back.new.self.payload c.put_back.ensures.payload,
      c.put_number.ensures.few,
      longer c.put_number.new.text.payload (codes " out=") c.put_back-2.new.self.payload c.put_back-2.ensures.payload,
      c.put_number-2.ensures.few,
      longer c.put_number-2.new.text.payload (codes "\n") c.put_back-3.new.self.payload c.put_back-3.ensures.payload,
    )

pub returns-clause-headroom : goal.returns-clause-headroom
returns-clause-headroom c = c.put_back-3.ensures.headroom ∙ c.put_number-2.ensures.headroom ∙ c.put_back-2.ensures.headroom ∙ c.put_number.ensures.headroom ∙ c.put_back.ensures.headroom
