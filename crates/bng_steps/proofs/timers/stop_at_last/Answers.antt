use Rattle.std.proofs.Common.{[], inl, inr, refl, sym, append-nil}
use Rattle.bng_steps.proofs.timers.stop_at_last.Goals as goal

pub returns-then-none_stays-clause-stopped : goal.returns-then-none_stays-clause-stopped
returns-then-none_stays-clause-stopped g c =
    let told = c.stop_tunnels.ensures.told in
    record { more = told.more; stops = inl (c.none_stays.ensures.yes c.if-none_stays.true, told.tells); outs_are = told.outs_are }

pub returns-else-none_stays-clause-stopped : goal.returns-else-none_stays-clause-stopped
returns-else-none_stays-clause-stopped g c =
    record { more = []; stops = inr (c.none_stays.ensures.no c.if-none_stays.false, refl, refl); outs_are = sym (append-nil c.args.outs.now.items) }
