use Rattle.std.proofs.Common.{arith, ◌∙◌, ap, length}
use Rattle.bng_base.specs.Packet.{Packet as Bytes}
use Rattle.bng_acct.proofs.Requests.{request}
use Rattle.bng_acct.proofs.record.write.Goals as goal

pub returns : goal.returns
returns c =
    let r = c.args.report.now in
    let classes = c.requires.classes in
    request c.args.rules.now r c.put_front.new.into.payload c.put_rest.new.into.payload c.put_length.new.into classes.0 classes.1
    (rw c.set.ensures at (c.put_front.ensures.goes_on classes.0 classes.1)) c.put_rest.ensures.goes_on (omega (arith, ap (λ (f : Bytes). length f.payload) c.set.ensures))
    c.put_length.ensures.payload (c.put_length.ensures.headroom ∙ c.put_rest.ensures.headroom)
