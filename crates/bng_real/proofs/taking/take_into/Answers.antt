use Rattle.std.proofs.Common.{◌≡◌, min, take, ◌∙◌, arith}
use Rattle.bng_real.proofs.Fronts.{is_front, lent_enough, lent_front}
use Rattle.bng_real.proofs.taking.take_into.Goals as goal

pub cut_back-requires : goal.cut_back-requires
cut_back-requires g c = lent_enough _ c.lend-room.result.now c.take_one.new.room _ (omega arith) (omega arith)

-- the payload is what was received behind the headroom, and that is the datagram
pub returns-in-Datagram-clause-taken : goal.returns-in-Datagram-clause-taken
returns-in-Datagram-clause-taken g c =
    let count = c.in-Datagram.count in
    let room = c.take_one.new.room in
    let payload : c.cut_back.new.self.payload ≡ take (min count 4096) room = c.cut_back.ensures.payload ∙ lent_front count c.lend-room.result.now room _ (omega arith) (omega arith) c.min.result c.min.ensures in
    is_front count room c.cut_back.new.self.payload c.in-Datagram.from _ _ c.in-Datagram.ensures.next.0 c.in-Datagram.ensures.next.1 payload
