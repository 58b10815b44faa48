use Rattle.bng_config.proofs.profiles.rate_at.Goals as goal

pub burst_at-committed-requires-clause-there : goal.burst_at-committed-requires-clause-there
burst_at-committed-requires-clause-there c = (c.in-Some.ensures.there.value, c.in-Some.ensures.there.found)

pub burst_at-excess-requires-clause-there : goal.burst_at-excess-requires-clause-there
burst_at-excess-requires-clause-there c = (c.in-Some.ensures.there.value, c.in-Some.ensures.there.found)
