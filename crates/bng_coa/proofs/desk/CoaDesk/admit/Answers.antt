use Rattle.std.proofs.Common.{rules, arith, subst, sym}
use Rattle.std.proofs.lemmas.List.{length-take-le}
use Rattle.bng_radius_wire.specs.Grammar.{AreOctets, length_in}
use Rattle.bng_coa.specs.declared.request.RequestKey.{RequestKey}
use Rattle.bng_coa.specs.State.{State}
use Rattle.bng_coa.specs.Requests.{key_of}
use Rattle.bng_coa.specs.Admission.{TakesIn, Keeps}
use Rattle.bng_coa.proofs.Keeping.{keeps_of}
use Rattle.bng_coa.proofs.Staying.{new_numbered, new_counted}
use Rattle.bng_coa.proofs.Signing.{reads_packet, signed_sized}
use Rattle.bng_coa.proofs.desk.CoaDesk.admit.Goals as goal

pub take_in-requires-clause-answerable : goal.take_in-requires-clause-answerable
take_in-requires-clause-answerable c =
    let bytes = c.args.bytes.now in
    let small : AreOctets bytes = λ i. let byte = c.type_inv.bytes i in search rules in
    let p = c.in-Ok.ensures.ok.0 in
    let can = c.in-Ok.ensures.ok.1 in (
      p,
      record {
        packet = reads_packet p bytes small can.request.packet;
        few = can.request.few;
        sized = signed_sized p c.as_slice-2.result.now can.signed;
        size = omega (arith, length-take-le (length_in bytes) bytes can.request.packet.is_there, can.request.packet.at_most);
      },
    )

pub returns-in-Ok-clause-after : goal.returns-in-Ok-clause-after
returns-in-Ok-clause-after c =
    let old : State = record { peers = c.self.inside.peers.items; secret = c.self.inside.secret.items; requests = c.self.inside.requests } in
    let new : State = record old { requests = c.take_in.new.requests } in
    let p = c.in-Ok.ensures.ok.0 in
    let takes : TakesIn old.requests c.take_in.new.requests (key_of c.args.from p) c.args.bytes.now c.args.now c.take_in.result =
    subst (λ (k : RequestKey). TakesIn old.requests c.take_in.new.requests k c.args.bytes.now c.args.now c.take_in.result) c.in-Ok.ensures.ok.2 c.take_in.ensures.after in
    subst (λ (s : State). Keeps s new c.args.from c.args.bytes.now c.args.now c.take_in.result) c.self.view_is
    (keeps_of old c.take_in.new.requests c.args.from c.args.bytes.now c.args.now c.take_in.result p c.in-Ok.ensures.ok.1.request takes)

pub returns-in-Ok-clause-number : goal.returns-in-Ok-clause-number
returns-in-Ok-clause-number c =
    let old : State = record { peers = c.self.inside.peers.items; secret = c.self.inside.secret.items; requests = c.self.inside.requests } in
    new_numbered old (record old { requests = c.take_in.new.requests }) c.args.from c.args.bytes.now c.args.now c.take_in.result
    (subst (λ (s : State). Keeps s (record old { requests = c.take_in.new.requests }) c.args.from c.args.bytes.now c.args.now c.take_in.result) (sym c.self.view_is) (returns-in-Ok-clause-after c))

pub returns-in-Ok-clause-in_hand : goal.returns-in-Ok-clause-in_hand
returns-in-Ok-clause-in_hand c =
    let old : State = record { peers = c.self.inside.peers.items; secret = c.self.inside.secret.items; requests = c.self.inside.requests } in
    new_counted c.args.self.now (record old { requests = c.take_in.new.requests }) c.args.from c.args.bytes.now c.args.now c.take_in.result (returns-in-Ok-clause-after c)
