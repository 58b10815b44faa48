use Rattle.std.proofs.Common.{◌≡◌, length, arith}
use Rattle.bng_acct.proofs.StationId.{pairs_parted}
use Rattle.bng_acct.proofs.texts.station_id.Goals as goal

pub returns : goal.returns
returns c = let six : length c.args.mac.0 ≡ 6 = omega arith in rw c.digits_of.ensures (pairs_parted c.args.mac.0 six)
