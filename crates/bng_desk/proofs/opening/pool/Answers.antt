use Rattle.std.proofs.Common.{◌≡◌, List, map, sym, ap, subst, ◌∙◌}
use Rattle.std.specs.List.{All}
use Rattle.bng_base.specs.declared.book.Range.{Range}
use Rattle.bng_base.specs.declared.settings.NamedRange.{NamedRange}
use Rattle.bng_base.specs.declared.settings.Static.{Static}
use Rattle.bng_pool.specs.Plain.{PlainView}
use Rattle.bng_pool.specs.Ranges.{HasAddress}
use Rattle.bng_desk.proofs.opening.pool.Goals as goal

pub claim_all-requires-clause-within : goal.claim_all-requires-clause-within
claim_all-requires-clause-within c =
    let config = c.args.config.now in
    let ranges : c.in-Ok.pool.ranges ≡ map (λ (p : NamedRange). p.range) config.pools =
    ap (λ (v : PlainView). v.ranges) c.in-Ok.ensures ∙ c.as_slice-2.ensures.value ∙ c.in_ok-ranges.ensures ∙ ap (λ (ps : List NamedRange). map (λ (p : NamedRange). p.range) ps) c.as_slice.ensures in
    subst (λ (rs : List Range). All (λ (x : Static). HasAddress rs x.address.0) c.as_slice-3.result.now) (sym ranges)
    (subst (λ (cs : List Static). All (λ (x : Static). HasAddress (map (λ (p : NamedRange). p.range) config.pools) x.address.0) cs) (sym c.as_slice-3.ensures) c.requires.within)
