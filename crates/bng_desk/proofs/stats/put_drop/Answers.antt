use Rattle.std.proofs.Common.{ℕ, List, ◌++◌, codes, length, ap, ◌∙◌, arith}
use Rattle.std.specs.Fmt.{decimal}
use Rattle.bng_desk.specs.Causes.{name_at}
use Rattle.bng_desk.proofs.Texts.{longer, onto}
use Rattle.bng_desk.proofs.stats.put_drop.Goals as goal

pub put_back-requires-2 : goal.put_back-requires-2
put_back-requires-2 c =
    omega (
      arith,
      c.requires.room,
      longer c.args.text.now.payload (codes "drop ") c.put_back.new.self.payload c.put_back.ensures.payload,
      ap (λ (xs : List ℕ). length xs) (c.as_bytes.ensures.value ∙ c.name_of.ensures.name),
      c.name_of.ensures.short,
      c.put_back.ensures.headroom,
    )

pub put_back-requires-3 : goal.put_back-requires-3
put_back-requires-3 c =
    omega (
      arith,
      c.requires.room,
      longer c.args.text.now.payload (codes "drop ") c.put_back.new.self.payload c.put_back.ensures.payload,
      longer c.put_back.new.self.payload c.as_bytes.result.now c.put_back-2.new.self.payload c.put_back-2.ensures.payload,
      ap (λ (xs : List ℕ). length xs) (c.as_bytes.ensures.value ∙ c.name_of.ensures.name),
      c.name_of.ensures.short,
      c.put_back.ensures.headroom,
      c.put_back-2.ensures.headroom,
    )

pub put_number-requires : goal.put_number-requires
put_number-requires c = record {
  room = omega (
    arith,
    c.requires.room,
    longer c.args.text.now.payload (codes "drop ") c.put_back.new.self.payload c.put_back.ensures.payload,
    longer c.put_back.new.self.payload c.as_bytes.result.now c.put_back-2.new.self.payload c.put_back-2.ensures.payload,
    ap (λ (xs : List ℕ). length xs) (c.as_bytes.ensures.value ∙ c.name_of.ensures.name),
    c.name_of.ensures.short,
    longer c.put_back-2.new.self.payload (codes " ") c.put_back-3.new.self.payload c.put_back-3.ensures.payload,
    c.put_back.ensures.headroom,
    c.put_back-2.ensures.headroom,
    c.put_back-3.ensures.headroom,
  );
}

pub put_back-requires-4 : goal.put_back-requires-4
put_back-requires-4 c =
    omega (
      arith,
      c.requires.room,
      longer c.args.text.now.payload (codes "drop ") c.put_back.new.self.payload c.put_back.ensures.payload,
      longer c.put_back.new.self.payload c.as_bytes.result.now c.put_back-2.new.self.payload c.put_back-2.ensures.payload,
      ap (λ (xs : List ℕ). length xs) (c.as_bytes.ensures.value ∙ c.name_of.ensures.name),
      c.name_of.ensures.short,
      longer c.put_back-2.new.self.payload (codes " ") c.put_back-3.new.self.payload c.put_back-3.ensures.payload,
      c.put_number.ensures.few,
      c.put_back.ensures.headroom,
      c.put_back-2.ensures.headroom,
      c.put_back-3.ensures.headroom,
      c.put_number.ensures.headroom,
    )

pub returns-clause-text : goal.returns-clause-text
returns-clause-text c =
    let o = c.args.text.now.payload in
    let a = codes "drop " in
    let b = a ++ name_at c.args.number in
    let d = b ++ codes " " in
    let e = d ++ decimal c.args.items in
    let named = c.put_back-2.ensures.payload ∙ ap (λ (xs : List ℕ). c.put_back.new.self.payload ++ xs) (c.as_bytes.ensures.value ∙ c.name_of.ensures.name) in
    onto o e (codes "\n") c.put_number.new.text.payload c.put_back-4.new.self.payload
    (onto o d (decimal c.args.items) c.put_back-3.new.self.payload c.put_number.new.text.payload
    (onto o b (codes " ") c.put_back-2.new.self.payload c.put_back-3.new.self.payload
    (onto o a (name_at c.args.number) c.put_back.new.self.payload c.put_back-2.new.self.payload c.put_back.ensures.payload named) c.put_back-3.ensures.payload) (c.put_number.ensures.text ∙ ap (λ (n : ℕ). c.put_back-3.new.self.payload ++ decimal n) c.from.ensures)) c.put_back-4.ensures.payload

pub returns-clause-few : goal.returns-clause-few
returns-clause-few c =
    omega (
      arith,
      longer c.args.text.now.payload (codes "drop ") c.put_back.new.self.payload c.put_back.ensures.payload,
      longer c.put_back.new.self.payload c.as_bytes.result.now c.put_back-2.new.self.payload c.put_back-2.ensures.payload,
      ap (λ (xs : List ℕ). length xs) (c.as_bytes.ensures.value ∙ c.name_of.ensures.name),
      c.name_of.ensures.short,
      longer c.put_back-2.new.self.payload (codes " ") c.put_back-3.new.self.payload c.put_back-3.ensures.payload,
      c.put_number.ensures.few,
      longer c.put_number.new.text.payload (codes "\n") c.put_back-4.new.self.payload c.put_back-4.ensures.payload,
    )

pub returns-clause-headroom : goal.returns-clause-headroom
returns-clause-headroom c = c.put_back-4.ensures.headroom ∙ c.put_number.ensures.headroom ∙ c.put_back-3.ensures.headroom ∙ c.put_back-2.ensures.headroom ∙ c.put_back.ensures.headroom
