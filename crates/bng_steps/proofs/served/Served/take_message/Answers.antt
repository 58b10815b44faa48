use Rattle.std.proofs.Common.{◌≡◌, List, ap, ◌∙◌}
use Rattle.bng_base.specs.declared.settings.Lac.{Lac}
use Rattle.bng_l2tp_wire.specs.View.{control_of}
use Rattle.bng_lns.specs.Tunnels.{hear}
use Rattle.bng_steps.specs.State.{State, with_tunnels}
use Rattle.bng_steps.proofs.served.Served.take_message.Goals as goal

pub returns-clause-answer : goal.returns-clause-answer
returns-clause-answer g c =
    let name = c.args.rules.now.link.name.items in
    let came = c.args.came.now in
    let m = control_of c.args.message.now in
    c.hear.ensures.answer
    ∙ ap (λ (lacs : List Lac). (hear name lacs c.self.inside.tunnels came m).answer) c.as_slice.ensures
    ∙ ap (λ (s : State). (hear name c.args.rules.now.lacs s.tunnels came m).answer) c.self.view_is

pub returns-clause-after : goal.returns-clause-after
returns-clause-after g c =
    let name = c.args.rules.now.link.name.items in
    let came = c.args.came.now in
    let m = control_of c.args.message.now in
    let after : c.hear.new.self ≡ (hear name c.args.rules.now.lacs c.args.self.now.tunnels came m).after =
    c.hear.ensures.after
    ∙ ap (λ (lacs : List Lac). (hear name lacs c.self.inside.tunnels came m).after) c.as_slice.ensures
    ∙ ap (λ (s : State). (hear name c.args.rules.now.lacs s.tunnels came m).after) c.self.view_is in
    let was = c.self.view_is in
    λ i. with_tunnels (was i) (after i)
