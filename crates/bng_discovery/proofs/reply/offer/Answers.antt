use Rattle.std.proofs.Common.{◌≡◌, ap, ◌∙◌}
use Rattle.bng_pppoe_wire.specs.declared.code.TheConstants.{PADO}
use Rattle.bng_pppoe_wire.specs.View.{tags_of}
use Rattle.bng_discovery.specs.Reply.{offer_tags}
use Rattle.bng_discovery.proofs.Fitting.{all_fit, offered_fit}
use Rattle.bng_discovery.proofs.Sending.{done_with, full_with}
use Rattle.bng_discovery.proofs.reply.offer.Goals as goal

pub put_frame-requires : goal.put_frame-requires
put_frame-requires c =
    let ts = c.requires.0 in
    let is = c.request_of.ensures ts c.requires.1 in
    let same : tags_of c.as_slice.result.now ≡ offer_tags c.args.port.now c.args.frame.now.src ts = ap tags_of c.as_slice.ensures.value ∙ c.offer_list-list.ensures.tags c.args.frame.now.src ts c.cookie_for-cookie.ensures.value is in
    all_fit c.as_slice.result.now (offer_tags c.args.port.now c.args.frame.now.src ts) same
    (offered_fit c.args.port.now c.args.frame.now.src ts c.request_of.result c.cookie_for-cookie.result is c.requires.1.fit c.offer_list-list.ensures.name c.cookie_for-cookie.ensures.value c.cookie_for-cookie.ensures.size c.offer_list-list.ensures.fit)

pub returns-clause-done : goal.returns-clause-done
returns-clause-done c = λ e ts are.
    done_with c.args.port.now c.args.frame.now.src PADO 0 (tags_of c.as_slice.result.now) (offer_tags c.args.port.now c.args.frame.now.src ts) c.put_frame.result c.put_frame.new.into
    (ap tags_of c.as_slice.ensures.value ∙ c.offer_list-list.ensures.tags c.args.frame.now.src ts c.cookie_for-cookie.ensures.value (c.request_of.ensures ts are)) c.put_frame.ensures.done e

pub returns-clause-full : goal.returns-clause-full
returns-clause-full c = λ ts are.
    full_with c.args.port.now c.args.frame.now.src PADO 0 (tags_of c.as_slice.result.now) (offer_tags c.args.port.now c.args.frame.now.src ts) c.put_frame.result
    (ap tags_of c.as_slice.ensures.value ∙ c.offer_list-list.ensures.tags c.args.frame.now.src ts c.cookie_for-cookie.ensures.value (c.request_of.ensures ts are)) c.put_frame.ensures.full
