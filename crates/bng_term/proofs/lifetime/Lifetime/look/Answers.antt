use Rattle.std.proofs.Common.{rules}
use Rattle.bng_term.proofs.Looks.{goes_on, ends}
use Rattle.bng_term.proofs.lifetime.Lifetime.look.Goals as goal

pub returns-then-is_none-clause-history : goal.returns-then-is_none-clause-history
returns-then-is_none-clause-history c life lease events =
    goes_on c.args.self.now _ life lease c.args.passed c.args.now events c.cause_at-cause.result c.cause_at-cause.ensures c.if-is_none.ensures (search rules)

pub returns-else-is_none-clause-history : goal.returns-else-is_none-clause-history
returns-else-is_none-clause-history c life lease events =
    ends c.args.self.now life lease c.args.passed c.args.now events c.cause_at-cause.result c.cause_at-cause.ensures c.if-is_none.ensures
