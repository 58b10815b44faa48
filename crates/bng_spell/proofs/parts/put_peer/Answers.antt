use Rattle.std.proofs.Common.{ℕ, ◌++◌, ap, sym, ◌∙◌, append_assoc}
use Rattle.std.specs.Prelude.{codes}
use Rattle.std.specs.Fmt.{decimal}
use Rattle.bng_spell.specs.Fields.{address_text}
use Rattle.bng_spell.proofs.Spellings.{adds_both, adds_as}
use Rattle.bng_spell.proofs.parts.put_peer.Goals as goal

pub returns : goal.returns
returns g c =
    let front = address_text c.args.peer.ip in
    adds_as (adds_both c.put_address.ensures c.put_numbered.ensures) (sym (append_assoc front (codes ":") (decimal c.from.result)) ∙ ap (λ (n : ℕ). front ++ codes ":" ++ decimal n) c.from.ensures)
