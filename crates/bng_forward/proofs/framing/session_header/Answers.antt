use Rattle.std.proofs.Common.{rules, ◌≡◌, ◌<◌, ℕ, List, ◌++◌, length, sym, subst}
use Rattle.bng_base.specs.PppoeGrammar.{IsLaidOut}
use Rattle.bng_pppoe_wire.proofs.Spelled.{laid_text}
use Rattle.bng_forward.specs.Framing.{session_frame}
use Rattle.bng_forward.proofs.framing.session_header.Goals as goal

pub returns-clause-laid : goal.returns-clause-laid
returns-clause-laid c =
    let p = session_frame c.args.dst c.args.src c.args.session c.args.payload.now in
    let ld : length p.dst.0 ≡ 6 = search rules in
    let ls : length p.src.0 ≡ 6 = search rules in
    let small : p.session < 65536 = search rules in
    subst (λ (header : List ℕ). IsLaidOut p (header ++ p.payload)) (sym c.header.ensures.spelled) (laid_text p ld ls small c.requires)
