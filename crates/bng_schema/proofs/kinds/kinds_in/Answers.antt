use Rattle.std.proofs.Common.{◌≡◌, rules, arith, get_or, sym, ap, ◌∙◌}
use Rattle.toml.specs.Data.{string}
use Rattle.toml.specs.View.{view}
use Rattle.bng_schema.specs.Forms.{kind_text}
use Rattle.bng_schema.proofs.Listing.{spells, twice, three}
use Rattle.bng_schema.proofs.kinds.kinds_in.Goals as goal

pub returns-in_err-second-in-len2-clause-none : goal.returns-in_err-second-in-len2-clause-none
returns-in_err-second-in-len2-clause-none c = rw c.from_residual-in_err-second-in-len2.ensures (λ k h.
    c.in_err-second-in-len2.ensures.none (get_or k.items 1 c.in_ok-first-in-len2.first)
    (spells kind_text c.args.list.now k.items 1 c.second-item.result c.in_ok-first-in-len2.first h.list (omega (arith, c.in-len2.len_at_least)) c.second-item.is))

pub returns-then-eq-clause-none : goal.returns-then-eq-clause-none
returns-then-eq-clause-none c k h =
    let same : c.in_ok-first-in-len2.first ≡ c.in_ok-second-in-len2.second = search (rules, c.if-eq.ensures) in
    let second : view c.second-item.result ≡ string (kind_text c.in_ok-first-in-len2.first) = c.in_ok-second-in-len2.ensures.found ∙ ap (λ x. string (kind_text x)) (sym same) in
    twice c.args.list.now c.first-item.result c.second-item.result c.in_ok-first-in-len2.first k (omega (arith, c.in-len2.len_at_least)) c.first-item.is c.second-item.is
    c.in_ok-first-in-len2.ensures.found second h

pub returns-in_default-clause-none : goal.returns-in_default-clause-none
returns-in_default-clause-none c k h = three c.args.list.now k c.in_default.len_at_least h
