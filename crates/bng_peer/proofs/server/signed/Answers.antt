-- The reply fits a frame, and is signed as it was written.
use Rattle.std.proofs.Common.{refl, arith}
use Rattle.bng_radius_wire.specs.Grammar.{whole}
use Rattle.bng_radius_wire.proofs.Spelled.{length-spelling}
use Rattle.bng_peer.proofs.server.signed.Goals as goal

pub unreachable-requires : goal.unreachable-requires
unreachable-requires c =
    omega (arith, c.in-Full.ensures.full.0 refl, length-spelling (whole c.args.reply.now) c.requires.sixteen, c.requires.short)

pub returns : goal.returns
returns c = c.sign_reply.ensures.signed (whole c.args.reply.now) (c.in-Done.ensures.reads_back refl)
