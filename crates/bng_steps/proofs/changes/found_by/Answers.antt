use Rattle.std.proofs.Common.{◌∙◌, sym, ap}
use Rattle.std.specs.Prelude.{find, option_map}
use Rattle.bng_radius_wire.specs.Grammar.{whole as packet_of}
use Rattle.bng_steps.specs.Changes.{is_named_by}
use Rattle.bng_steps.specs.TermRows.{whole}
use Rattle.bng_steps.proofs.Changing.{its_meant, no_lease_meant, no_session_meant, none_meant}
use Rattle.bng_steps.proofs.changes.found_by.Goals as goal

pub returns-in_err-asked : goal.returns-in_err-asked
returns-in_err-asked g c =
    let s = whole c.args.served.now c.args.terms.now in
    c.from_residual.ensures ∙ none_meant s (find (is_named_by c.args.rules.now (packet_of c.args.request.now).attributes) s.terms) (sym c.in_err-asked.was ∙ c.named_by.ensures)

pub returns-in_err-session : goal.returns-in_err-session
returns-in_err-session g c =
    let s = whole c.args.served.now c.args.terms.now in
    c.from_residual-in_err-session.ensures
    ∙ no_session_meant s (find (is_named_by c.args.rules.now (packet_of c.args.request.now).attributes) s.terms) c.in_ok-asked.asked (sym c.in_ok-asked.was ∙ c.named_by.ensures)
    (ap (option_map (λ x. x.now)) (sym c.in_err-session.was) ∙ c.get.ensures)

pub returns-in_err-lease : goal.returns-in_err-lease
returns-in_err-lease g c =
    let s = whole c.args.served.now c.args.terms.now in
    c.from_residual-in_err-lease.ensures
    ∙ no_lease_meant s (find (is_named_by c.args.rules.now (packet_of c.args.request.now).attributes) s.terms) c.in_ok-asked.asked (sym c.in_ok-asked.was ∙ c.named_by.ensures)
    c.in_ok-session.session.now (ap (option_map (λ x. x.now)) (sym c.in_ok-session.was) ∙ c.get.ensures) (sym c.in_err-lease.was ∙ c.lease_for.ensures)

pub returns : goal.returns
returns g c =
    let s = whole c.args.served.now c.args.terms.now in
    its_meant s (find (is_named_by c.args.rules.now (packet_of c.args.request.now).attributes) s.terms) c.in_ok-asked.asked (sym c.in_ok-asked.was ∙ c.named_by.ensures)
    c.in_ok-session.session.now c.in_ok-lease.lease (ap (option_map (λ x. x.now)) (sym c.in_ok-session.was) ∙ c.get.ensures) (sym c.in_ok-lease.was ∙ c.lease_for.ensures)
