use Rattle.std.proofs.Common.{ℕ, ◌≡◌, ◌+◌, subst, sym, ap, ◌∙◌, arith}
use Rattle.bng_rad_client.specs.Due.{is_sought, older, IsOldestOrNone}
use Rattle.bng_rad_client.proofs.Ages.{older_more}
use Rattle.bng_rad_client.proofs.requests.oldest_of.Goals as goal

pub loop-i-preserved : goal.loop-i-preserved
loop-i-preserved c =
    let wanted = is_sought c.args.sought c.args.now in
    subst (IsOldestOrNone wanted c.args.places.now (c.loop-i.i + 1))
    (sym (c.older-best.ensures ∙ ap (older wanted c.loop-i.best c.loop-i.i) c.request_at.ensures))
    (older_more wanted c.args.places.now c.loop-i.i c.loop-i.best c.loop-i.invariant)

pub returns : goal.returns
returns c =
    let e : c.loop-i.i ≡ 256 = omega arith in
    subst (λ (n : ℕ). IsOldestOrNone (is_sought c.args.sought c.args.now) c.args.places.now n c.loop-i.best) e c.loop-i.invariant
