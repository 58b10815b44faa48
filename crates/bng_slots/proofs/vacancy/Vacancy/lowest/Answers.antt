use Rattle.std.proofs.Common.{rules, sym, arith}
use Rattle.bng_slots.proofs.BitLaws.{lowest, none_free}
use Rattle.bng_slots.proofs.vacancy.Vacancy.lowest.Goals as goal

pub returns-then-place-lt-PLACES-clause-free : goal.returns-then-place-lt-PLACES-clause-free
returns-then-place-lt-PLACES-clause-free c = (lowest c.args.self.now.words c.in_ok-at.at (sym c.in_ok-at.ensures) (search rules)).free

pub returns-then-place-lt-PLACES-clause-lowest : goal.returns-then-place-lt-PLACES-clause-lowest
returns-then-place-lt-PLACES-clause-lowest c = (lowest c.args.self.now.words c.in_ok-at.at (sym c.in_ok-at.ensures) (search rules)).below

pub returns-else-place-lt-PLACES-clause-none : goal.returns-else-place-lt-PLACES-clause-none
returns-else-place-lt-PLACES-clause-none c = λ i small. (lowest c.args.self.now.words c.in_ok-at.at (sym c.in_ok-at.ensures) (search rules)).below i (omega arith)

pub returns-in_err-at-clause-none : goal.returns-in_err-at-clause-none
returns-in_err-at-clause-none c = rw c.from_residual.ensures (λ i small. none_free c.args.self.now.words (sym c.in_err-at.ensures) i)
