use Rattle.bng_radius_wire.specs.Digests.{CanBeSigned}
use Rattle.bng_failover.proofs.asking.sign.Goals as goal

pub sign_request-requires-clause-grammar : goal.sign_request-requires-clause-grammar
sign_request-requires-clause-grammar c =
    let p = c.requires.grammar.0 in
    let can : CanBeSigned (record p { id = c.args.id }) = record { one = c.requires.grammar.2.one; sized = c.requires.grammar.2.sized } in
    (record p { id = c.args.id }, c.number.ensures.reads p c.requires.grammar.1, can)

pub returns-clause-signed : goal.returns-clause-signed
returns-clause-signed c = λ p is.
    c.sign_request.ensures.signed (record p { id = c.args.id }) (c.number.ensures.reads p is)
