use Rattle.bng_schema.proofs.ranges.range_at.Goals as goal

pub returns-in-None-address_at-clause-none : goal.returns-in-None-address_at-clause-none
returns-in-None-address_at-clause-none c r h = c.in-None-address_at.ensures.none r.last h.1

pub returns-in-None-clause-none : goal.returns-in-None-clause-none
returns-in-None-clause-none c r h = c.in-None.ensures.none r.first h.0
