use Rattle.bng_ppp.proofs.link.Link.step.Goals as goal

pub go-term_ended-requires-clause-fresh : goal.go-term_ended-requires-clause-fresh
go-term_ended-requires-clause-fresh c = c.clear.ensures c.args.self.now
