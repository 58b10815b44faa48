use Rattle.std.proofs.Common.{◌≡◌, ap, ◌∙◌}
use Rattle.bng_pppoe_wire.specs.declared.kind.TheConstants.{SERVICE_NAME, HOST_UNIQ, AC_COOKIE, RELAY_SESSION_ID}
use Rattle.bng_pppoe_wire.specs.View.{tags_of}
use Rattle.bng_discovery.specs.Request.{first_tag, value_of}
use Rattle.bng_discovery.proofs.request.request_of.Goals as goal

pub returns : goal.returns
returns c = λ ts are.
    let same : tags_of c.as_slice-found.result.now ≡ ts = ap tags_of c.as_slice-found.ensures.value ∙ c.tags-found.ensures.only ts are in
    record {
      service = c.value.ensures ∙ ap value_of (c.first.ensures ∙ ap (first_tag SERVICE_NAME) same);
      host_uniq = c.first-2.ensures ∙ ap (first_tag HOST_UNIQ) same;
      cookie = c.first-3.ensures ∙ ap (first_tag AC_COOKIE) same;
      relay = c.first-4.ensures ∙ ap (first_tag RELAY_SESSION_ID) same;
    }
