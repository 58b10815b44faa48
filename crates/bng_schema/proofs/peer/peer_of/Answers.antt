use Rattle.std.proofs.Common.{◌∙◌, sym, arith}
use Rattle.std.specs.Fmt.{decimal}
use Rattle.std.proofs.lemmas.Option.{MatchOption-at_none, MatchOption-at_some}
use Rattle.std.proofs.lemmas.Str.Pattern.{split_after, split_parts}
use Rattle.bng_base.specs.declared.address.Peer.{Peer}
use Rattle.bng_schema.specs.Address.{address_text, colon}
use Rattle.bng_schema.proofs.AddressTexts.{address_without, peer_parts}
use Rattle.bng_schema.proofs.peer.peer_of.Goals as goal

pub returns-in_err-address-clause-none : goal.returns-in_err-address-clause-none
returns-in_err-address-clause-none c = rw c.from_residual.ensures (λ p address low high is.
    let cut = split_after colon c.args.text.now (address_text p.ip) (decimal p.port) c.split_once.result c.split_once.ensures.cases (omega arith) (is ∙ peer_parts p) (address_without p.ip address) in
    MatchOption-at_none _ _ c.in_err-address.was cut)

pub returns-in_err-ip-clause-none : goal.returns-in_err-ip-clause-none
returns-in_err-ip-clause-none c = rw c.from_residual-in_err-ip.ensures (λ p address low high is.
    let cut = split_after colon c.args.text.now (address_text p.ip) (decimal p.port) c.split_once.result c.split_once.ensures.cases (omega arith) (is ∙ peer_parts p) (address_without p.ip address) in
    let parts = MatchOption-at_some _ _ _ c.in_ok-address.was cut in
    c.in_err-ip.ensures.none p.ip address parts.0)

pub returns-in_err-port-clause-none : goal.returns-in_err-port-clause-none
returns-in_err-port-clause-none c = rw c.from_residual-in_err-port.ensures (λ p address low high is.
    let cut = split_after colon c.args.text.now (address_text p.ip) (decimal p.port) c.split_once.result c.split_once.ensures.cases (omega arith) (is ∙ peer_parts p) (address_without p.ip address) in
    let parts = MatchOption-at_some _ _ _ c.in_ok-address.was cut in
    c.in_err-port.ensures.none p.port low high parts.1)

pub returns-clause-found : goal.returns-clause-found
returns-clause-found c =
    let cut = split_parts colon c.args.text.now c.split_once.result c.split_once.ensures.cases (omega arith) in
    let parts = MatchOption-at_some _ _ _ c.in_ok-address.was cut in
    let p : Peer = record { ip = c.in_ok-ip.ip; port = c.in_ok-port.port } in
    (parts.0 ∙ rw (c.in_ok-ip.ensures.found, c.in_ok-port.ensures.found.0) (sym (peer_parts p)), c.in_ok-port.ensures.found.1)
