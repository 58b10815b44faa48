use Rattle.bng_config.proofs.profiles.burst_at.Goals as goal

pub unreachable-requires : goal.unreachable-requires
unreachable-requires c = c.requires.burst.whole c.requires.there c.in-None.ensures.absent
