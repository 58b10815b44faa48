use Rattle.std.proofs.Common.{◌≡◌, List, length, ap, ◌∙◌, arith}
use Rattle.bng_base.specs.PppoeGrammar.{PppoeTag, tags_text}
use Rattle.bng_pppoe_wire.specs.declared.code.TheConstants.{PADS}
use Rattle.bng_pppoe_wire.specs.View.{tags_of}
use Rattle.bng_discovery.specs.Reply.{confirm_tags}
use Rattle.bng_discovery.proofs.Fitting.{all_fit, confirm_fit}
use Rattle.bng_discovery.proofs.Sizes.{confirm_short}
use Rattle.bng_discovery.proofs.Sending.{done_with, full_with}
use Rattle.bng_discovery.proofs.reply.confirm.Goals as goal

pub put_frame-requires : goal.put_frame-requires
put_frame-requires c =
    let ts = c.requires.0 in
    let same : tags_of c.as_slice.result.now ≡ confirm_tags ts = ap tags_of c.as_slice.ensures.value ∙ c.confirm_list-list.ensures ts (c.request_of.ensures ts c.requires.1) in
    all_fit c.as_slice.result.now (confirm_tags ts) same (confirm_fit ts c.requires.1.fit)

pub returns-clause-done : goal.returns-clause-done
returns-clause-done c = λ e ts are.
    done_with c.args.port.now c.args.frame.now.src PADS c.args.session.0 (tags_of c.as_slice.result.now) (confirm_tags ts) c.put_frame.result c.put_frame.new.into
    (ap tags_of c.as_slice.ensures.value ∙ c.confirm_list-list.ensures ts (c.request_of.ensures ts are)) c.put_frame.ensures.done e

pub returns-clause-full : goal.returns-clause-full
returns-clause-full c = λ ts are.
    full_with c.args.port.now c.args.frame.now.src PADS c.args.session.0 (tags_of c.as_slice.result.now) (confirm_tags ts) c.put_frame.result
    (ap tags_of c.as_slice.ensures.value ∙ c.confirm_list-list.ensures ts (c.request_of.ensures ts are)) c.put_frame.ensures.full

pub returns-clause-sent : goal.returns-clause-sent
returns-clause-sent c = λ ts are cookie small.
    let same : tags_of c.as_slice.result.now ≡ confirm_tags ts = ap tags_of c.as_slice.ensures.value ∙ c.confirm_list-list.ensures ts (c.request_of.ensures ts are) in
    let short = confirm_short c.args.port.now c.args.frame.now.src ts c.args.frame.now.payload.now are cookie in
    c.put_frame.ensures.short (omega (arith, ap (λ (x : List PppoeTag). length (tags_text x)) same, short, small))
