use Rattle.std.proofs.Common.{Option, sym, ap, ◌∙◌, arith}
use Rattle.bng_base.specs.declared.settings.Lac.{Lac}
use Rattle.bng_l2tp_wire.specs.View.{control_of}
use Rattle.bng_lns.specs.Tunnels.{Outcome, requested}
use Rattle.bng_lns.proofs.Hearing.{heard_request}
use Rattle.bng_lns.proofs.tunnels.Tunnels.hear.Goals as goal

pub returns-clause-answer : goal.returns-clause-answer
returns-clause-answer c =
    let name = c.args.name.now.items in
    let m = control_of c.args.message.now in
    c.hear_request.ensures.answer ∙ ap (λ (lac : Option Lac). (requested name lac c.args.self.now c.args.came.now m).answer) c.lac_of.ensures
    ∙ ap (λ (o : Outcome). o.answer) (sym (heard_request name c.args.lacs.now c.args.self.now c.args.came.now m (omega (arith, c.if-message-ne0.false)) (sym c.is_request.ensures ∙ c.if-not-is_request.false)))

pub returns-clause-after : goal.returns-clause-after
returns-clause-after c =
    let name = c.args.name.now.items in
    let m = control_of c.args.message.now in
    c.hear_request.ensures.after ∙ ap (λ (lac : Option Lac). (requested name lac c.args.self.now c.args.came.now m).after) c.lac_of.ensures
    ∙ ap (λ (o : Outcome). o.after) (sym (heard_request name c.args.lacs.now c.args.self.now c.args.came.now m (omega (arith, c.if-message-ne0.false)) (sym c.is_request.ensures ∙ c.if-not-is_request.false)))
