use Rattle.std.proofs.Common.{◌≡◌, ◌+◌, min, arith, subst, ◌∙◌, ap, refl}
use Rattle.toml.specs.View.{view}
use Rattle.bng_schema.proofs.Totals.{IsTotal, total_none, total_more, total_told, none_total}
use Rattle.bng_schema.proofs.ranges.are_too_many.Goals as goal

pub loop-earlier-init : goal.loop-earlier-init
loop-earlier-init c =
    total_none (view c.args.document.now) 0 c.args.range c.min-count.result refl (c.min-count.ensures ∙ ap (λ n. min n 262145) c.size_of.ensures.size)

pub loop-earlier-preserved : goal.loop-earlier-preserved
loop-earlier-preserved c =
    total_more (view c.args.document.now) c.loop-earlier.earlier (c.loop-earlier.earlier + 1) c.args.range c.in-Some.other c.loop-earlier.count c.min-count-in-Some.result refl c.loop-earlier.invariant
    c.in-Some.ensures.found (c.min-count-in-Some.ensures ∙ ap (λ n. min (c.loop-earlier.count + n) 262145) c.size_of-in-Some.ensures.size)

pub returns-in-None : goal.returns-in-None
returns-in-None c =
    (λ t. cc, λ many. absurd (none_total (view c.args.document.now) c.args.place c.loop-earlier.earlier c.args.range (omega (arith, c.loop-earlier-test.true)) c.in-None.ensures.none many))

pub returns : goal.returns
returns c =
    let document = view c.args.document.now in
    let all : c.loop-earlier.earlier ≡ c.args.place = omega (arith, c.loop-earlier-test.false) in
    let total : IsTotal document c.args.place c.args.range c.loop-earlier.count = subst (λ n. IsTotal document n c.args.range c.loop-earlier.count) all c.loop-earlier.invariant in
    total_told document c.args.place c.args.range c.loop-earlier.count total
