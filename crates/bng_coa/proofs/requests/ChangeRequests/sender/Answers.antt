use Rattle.std.proofs.Common.{◌≡◌, Some, sym, ap, ◌∙◌}
use Rattle.std.specs.Prelude.{find}
use Rattle.std.specs.Option.{option_copied, option_map}
use Rattle.bng_coa.specs.declared.request.ChangeRequest.{ChangeRequest}
use Rattle.bng_coa.specs.Requests.{is_numbered}
use Rattle.bng_coa.proofs.Places.{found_any}
use Rattle.bng_coa.proofs.requests.ChangeRequests.sender.Goals as goal

pub returns-in-Some-clause-sender : goal.returns-in-Some-clause-sender
returns-in-Some-clause-sender c =
    let found : find (is_numbered c.args.number) c.args.self.now ≡ Some c.in-Some.request.now = sym c.numbered.ensures ∙ ap option_copied c.in-Some.is in
    sym (ap (option_map (λ (r : ChangeRequest). r.key.from)) found)

pub returns-in-Some-clause-in_hand : goal.returns-in-Some-clause-in_hand
returns-in-Some-clause-in_hand c =
    let found : find (is_numbered c.args.number) c.args.self.now ≡ Some c.in-Some.request.now = sym c.numbered.ensures ∙ ap option_copied c.in-Some.is in
    found_any (is_numbered c.args.number) c.args.self.now c.in-Some.request.now found
