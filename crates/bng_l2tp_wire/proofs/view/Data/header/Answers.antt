use Rattle.std.proofs.Common.{rules, ◌≡◌, ℕ, List, [], ◌∷◌, ◌++◌, get_or, sym, ap, subst, ◌∙◌}
use Rattle.byteorder.specs.Endian.{big_bytes}
use Rattle.bng_l2tp_wire.specs.Messages.{IsData, data_header}
use Rattle.bng_l2tp_wire.specs.View.{data_of}
use Rattle.bng_l2tp_wire.proofs.Spelled.{data_reads}
use Rattle.bng_l2tp_wire.proofs.view.Data.header.Goals as goal

pub returns-clause-again : goal.returns-clause-again
returns-clause-again c = λ two.
    let d = data_of c.args.self.now in
    let made : List ℕ → List ℕ → List ℕ = λ t s. 0 ∷ 2 ∷ get_or t 0 0 ∷ get_or t 1 0 ∷ get_or s 0 0 ∷ get_or s 1 0 ∷ 255 ∷ 3 ∷ [] in
    let spelled : made c.to_be_bytes.result c.to_be_bytes-2.result ≡ data_header d =
    ap (λ (t : List ℕ). made t c.to_be_bytes-2.result) c.to_be_bytes.ensures ∙ ap (λ (s : List ℕ). made (big_bytes 2 d.tunnel) s) c.to_be_bytes-2.ensures in
    subst (λ (h : List ℕ). IsData d (h ++ d.ppp)) (sym spelled) (data_reads d (search rules) (search rules) two)
