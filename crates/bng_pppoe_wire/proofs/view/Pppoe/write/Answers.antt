use Rattle.std.proofs.Common.{◌≡◌, List, ℕ, ◌++◌, sym, ap, subst, ◌∙◌}
use Rattle.bng_base.specs.Packet.{Packet}
use Rattle.bng_base.specs.PppoeGrammar.{IsPppoe}
use Rattle.bng_pppoe_wire.specs.View.{frame_of}
use Rattle.bng_pppoe_wire.proofs.view.Pppoe.write.Goals as goal

pub returns-clause-again : goal.returns-clause-again
returns-clause-again c = λ _ bytes h.
    let p = frame_of c.args.self.now in
    let spelled : c.put_back.new.self.payload ≡ c.header.result ++ p.payload = c.put_back.ensures.payload ∙ ap (λ (q : Packet). q.payload ++ p.payload) c.set.ensures in
    subst (λ (xs : List ℕ). IsPppoe p xs) (sym spelled) (c.header.ensures.again bytes h)
