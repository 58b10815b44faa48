use Rattle.std.proofs.Common.{sym}
use Rattle.std.proofs.lemmas.List.{take_all}
use Rattle.bng_plant.proofs.arrival.front.Goals as goal

pub returns-then-bytes-le-LONGEST-clause-octets : goal.returns-then-bytes-le-LONGEST-clause-octets
returns-then-bytes-le-LONGEST-clause-octets c = sym (take_all _ c.args.bytes.now c.if-bytes-le-LONGEST.true)
