use Rattle.std.proofs.Common.{refl}
use Rattle.bng_schema.proofs.Tests.{any_count}
use Rattle.bng_schema.proofs.counts.is_count.Goals as goal

pub returns-in_default : goal.returns-in_default
returns-in_default c =
    (λ t. any_count c.args.form c.args.count c.in_default.not-TableList c.in_default.not-ServiceList c.in_default.not-KindList c.in_default.not-AddressList, λ h. refl)
