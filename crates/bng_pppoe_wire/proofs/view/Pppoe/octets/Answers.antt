use Rattle.std.proofs.Common.{arith}
use Rattle.bng_pppoe_wire.specs.View.{frame_of}
use Rattle.bng_pppoe_wire.proofs.Spelled.{length-pppoe_text}
use Rattle.bng_pppoe_wire.proofs.view.Pppoe.octets.Goals as goal

pub returns-clause-size : goal.returns-clause-size
returns-clause-size c =
    let p = frame_of c.args.self.now in
    omega (arith, length-pppoe_text p c.mac_octets.ensures.six c.mac_octets-2.ensures.six, c.mac_octets.ensures, c.mac_octets-2.ensures)
