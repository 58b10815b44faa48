use Rattle.std.proofs.Common.{ℕ, List, ◌++◌, codes, append-nil, sym, ap, ◌∙◌, arith}
use Rattle.std.specs.Fmt.{decimal}
use Rattle.bng_desk.specs.Report.{quantities, worker_line}
use Rattle.bng_desk.proofs.Texts.{longer, onto}
use Rattle.bng_desk.proofs.stats.put_worker.Goals as goal

pub put_number-requires : goal.put_number-requires
put_number-requires c = record { room = omega (arith, c.requires.room, longer c.args.text.now.payload (codes "worker ") c.put_back.new.self.payload c.put_back.ensures.payload, c.put_back.ensures.headroom) }

pub put_quantities-requires : goal.put_quantities-requires
put_quantities-requires c = record { room = omega (arith, c.requires.room, longer c.args.text.now.payload (codes "worker ") c.put_back.new.self.payload c.put_back.ensures.payload, c.put_number.ensures.few, c.put_back.ensures.headroom, c.put_number.ensures.headroom) }

pub returns-clause-text : goal.returns-clause-text
returns-clause-text c =
    let o = c.args.text.now.payload in
    let t = c.put_number.new.text.payload in
    let said = c.put_quantities.ensures.text ∙ ap (λ (n : ℕ). t ++ quantities n c.from-2.result) c.from.ensures ∙ ap (λ (n : ℕ). t ++ quantities c.args.carried.input n) c.from-2.ensures in
    onto o (codes "worker " ++ decimal 0) (quantities c.args.carried.input c.args.carried.output) t c.put_quantities.new.text.payload
    (onto o (codes "worker ") (decimal 0) c.put_back.new.self.payload c.put_number.new.text.payload c.put_back.ensures.payload c.put_number.ensures.text) said
    ∙ ap (λ (xs : List ℕ). o ++ xs) (sym (append-nil (worker_line 0 c.args.carried)))

pub returns-clause-few : goal.returns-clause-few
returns-clause-few c = omega (arith, longer c.args.text.now.payload (codes "worker ") c.put_back.new.self.payload c.put_back.ensures.payload, c.put_number.ensures.few, c.put_quantities.ensures.few)

pub returns-clause-headroom : goal.returns-clause-headroom
returns-clause-headroom c = c.put_quantities.ensures.headroom ∙ c.put_number.ensures.headroom ∙ c.put_back.ensures.headroom
