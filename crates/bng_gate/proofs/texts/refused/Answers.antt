use Rattle.std.proofs.Common.{◌≡◌, ℕ, List, ◌++◌, codes, sym, ap, ◌∙◌, append_assoc}
use Rattle.bng_config.specs.Texts.{fault_text}
use Rattle.bng_gate.proofs.texts.refused.Goals as goal

regrouped : (a m n b t : List ℕ) → m ++ n ≡ t → a ++ (m ++ (n ++ b)) ≡ (a ++ t) ++ b
regrouped a m n b t e = ap (λ x. a ++ x) (sym (append_assoc m n b) ∙ ap (λ x. x ++ b) e) ∙ sym (append_assoc a t b)

pub returns : goal.returns
returns c =
    let told = c.fault_text-front in
    regrouped (codes "bng: config: ") told.result.front.bytes told.result.name.now (codes "\n") (fault_text c.args.fault.now) told.ensures
