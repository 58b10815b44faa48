use Rattle.std.proofs.Common.{rules, ◌≡◌, ℕ, List, [], ◌∷◌, ◌++◌, length, get_or, sym, ap, subst, ◌<◌, ◌∙◌}
use Rattle.byteorder.specs.Endian.{big_bytes}
use Rattle.bng_base.specs.PppoeGrammar.{ether_type, IsPppoe}
use Rattle.bng_pppoe_wire.specs.View.{frame_of}
use Rattle.bng_pppoe_wire.proofs.Spelled.{two_macs, whole_header, laid_text}
use Rattle.bng_pppoe_wire.proofs.view.Pppoe.header.Goals as goal

pub returns-clause-spelled : goal.returns-clause-spelled
returns-clause-spelled c =
    let p = c.args.self.now in
    let d = p.dst.0 in
    let s = p.src.0 in
    let ld : length d ≡ 6 = search rules in
    let ls : length s ≡ 6 = search rules in
    let tail : List ℕ → List ℕ → List ℕ → List ℕ = λ e i n. get_or e 0 0 ∷ get_or e 1 0 ∷ 17 ∷ p.code ∷ get_or i 0 0 ∷ get_or i 1 0 ∷ get_or n 0 0 ∷ get_or n 1 0 ∷ [] in
    two_macs d s (tail c.to_be_bytes.result c.to_be_bytes-2.result c.to_be_bytes-3.result) ld ls
    ∙ ap (λ (e : List ℕ). (d ++ s) ++ tail e c.to_be_bytes-2.result c.to_be_bytes-3.result) c.to_be_bytes.ensures
    ∙ ap (λ (m : ℕ). (d ++ s) ++ tail (big_bytes 2 m) c.to_be_bytes-2.result c.to_be_bytes-3.result) c.ether_type.ensures
    ∙ ap (λ (i : List ℕ). (d ++ s) ++ tail (big_bytes 2 (ether_type p.discovery)) i c.to_be_bytes-3.result) c.to_be_bytes-2.ensures
    ∙ ap (λ (n : List ℕ). (d ++ s) ++ tail (big_bytes 2 (ether_type p.discovery)) (big_bytes 2 p.session) n) c.to_be_bytes-3.ensures
    ∙ whole_header d s (ether_type p.discovery) p.code p.session (length p.payload.now) ld ls

pub returns-clause-again : goal.returns-clause-again
returns-clause-again c = λ bytes h.
    let p = frame_of c.args.self.now in
    let ld : length p.dst.0 ≡ 6 = search rules in
    let ls : length p.src.0 ≡ 6 = search rules in
    let small : p.session < 65536 = search rules in
    subst (λ (xs : List ℕ). IsPppoe p (xs ++ p.payload)) (sym (returns-clause-spelled c)) (record { laid = laid_text p ld ls small c.requires; discovers = h.discovers; carries = h.carries })
