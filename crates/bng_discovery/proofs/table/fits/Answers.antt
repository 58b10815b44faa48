use Rattle.std.proofs.Common.{◌≡◌, ℕ, ◌+◌, List, length, sym, ap, ◌∙◌}
use Rattle.std.specs.Prelude.{nat_le}
use Rattle.bng_base.specs.PppoeGrammar.{PppoeTag, tags_text}
use Rattle.bng_pppoe_wire.specs.View.{tags_of}
use Rattle.bng_pppoe_wire.proofs.Spelled.{length-pppoe_text}
use Rattle.bng_discovery.specs.Reply.{offer_tags, pado_of}
use Rattle.bng_discovery.proofs.Fitting.{all_fit, offered_fit}
use Rattle.bng_discovery.proofs.Short.{short_is}
use Rattle.bng_discovery.proofs.table.fits.Goals as goal

pub is_short-requires : goal.is_short-requires
is_short-requires c =
    let port = c.args.port.now in
    let host = c.args.frame.now.src in
    let ts = c.requires.0 in
    let is = c.request_of.ensures ts c.requires.1 in
    let same : tags_of c.as_slice.result.now ≡ offer_tags port host ts = ap tags_of c.as_slice.ensures.value ∙ c.offer_list-list.ensures.tags host ts c.cookie_for-cookie.ensures.value is in
    all_fit c.as_slice.result.now (offer_tags port host ts) same
    (offered_fit port host ts c.request_of.result c.cookie_for-cookie.result is c.requires.1.fit c.offer_list-list.ensures.name c.cookie_for-cookie.ensures.value c.cookie_for-cookie.ensures.size c.offer_list-list.ensures.fit)

pub returns : goal.returns
returns c = λ ts are.
    let port = c.args.port.now in
    let host = c.args.frame.now.src in
    let same : tags_of c.as_slice.result.now ≡ offer_tags port host ts = ap tags_of c.as_slice.ensures.value ∙ c.offer_list-list.ensures.tags host ts c.cookie_for-cookie.ensures.value (c.request_of.ensures ts are) in
    short_is c.is_short.result (20 + length (tags_text (tags_of c.as_slice.result.now))) c.is_short.ensures.cases
    ∙ ap (λ (n : ℕ). nat_le n 4096)
    (ap (λ (x : List PppoeTag). 20 + length (tags_text x)) same ∙ sym (length-pppoe_text (pado_of port host ts) c.is_short.ensures.to c.is_short.ensures.from))
