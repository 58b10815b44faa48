use Rattle.bng_radius_wire.specs.Digests.{filled}
use Rattle.bng_radius_wire.proofs.Signs.{same_packet}
use Rattle.bng_radius_wire.proofs.SignedReplies.{signed_is}
use Rattle.bng_radius_wire.proofs.signing.sign_reply.Goals as goal

pub returns-clause-signed : goal.returns-clause-signed
returns-clause-signed c = λ p is.
    (c.close.ensures.closed (filled p c.args.request.now c.args.secret.now) (c.fill.ensures.filled p is).reads).reads

pub returns-clause-checks : goal.returns-clause-checks
returns-clause-checks c = λ p is.
    signed_is p c.args.request.now c.args.secret.now (same_packet p c.requires.grammar.0 c.args.frame.now.payload c.requires.grammar.1 c.requires.grammar.2 is)
