use Rattle.std.proofs.Common.{sym, ◌∙◌}
use Rattle.bng_steps.proofs.Owing.{no_answers, none_owing, not_come, once_due}
use Rattle.bng_shard.proofs.shard.Shard.may_report.Goals as goal

pub returns-else-answered-clause-awaits : goal.returns-else-answered-clause-awaits
returns-else-answered-clause-awaits c is = c.requires.awaits (no_answers c.args.self.now.state.changed (sym c.has_changed-answered.ensures.some ∙ c.if-answered.false))

pub returns-else-answered-clause-none : goal.returns-else-answered-clause-none
returns-else-answered-clause-none c is =
    let v = c.args.self.now in
    let next = c.args.reports.now.next in
    let last = c.args.reports.now.last in
    let now = c.args.now in
    let awaits = c.requires.awaits (no_answers v.state.changed (sym c.has_changed-answered.ensures.some ∙ c.if-answered.false)) in
    none_owing v.rows v.state.slots.sessions last now (λ n x there. once_due next now _ (not_come next now (sym is ∙ c.may_be_due-comes.ensures)) (awaits n x there))
