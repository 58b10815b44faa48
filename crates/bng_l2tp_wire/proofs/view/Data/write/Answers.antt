use Rattle.std.proofs.Common.{◌≡◌, ◌++◌, List, ℕ, sym, ap, subst, ◌∙◌}
use Rattle.bng_base.specs.Packet.{Packet}
use Rattle.bng_l2tp_wire.specs.Messages.{IsData}
use Rattle.bng_l2tp_wire.specs.View.{data_of}
use Rattle.bng_l2tp_wire.proofs.view.Data.write.Goals as goal

pub returns-clause-again : goal.returns-clause-again
returns-clause-again c = λ _ two.
    let d = data_of c.args.self.now in
    let spelled : c.put_back.new.self.payload ≡ c.header.result ++ d.ppp = c.put_back.ensures.payload ∙ ap (λ (q : Packet). q.payload ++ d.ppp) c.set.ensures in
    subst (λ (xs : List ℕ). IsData d xs) (sym spelled) (c.header.ensures.again two)
