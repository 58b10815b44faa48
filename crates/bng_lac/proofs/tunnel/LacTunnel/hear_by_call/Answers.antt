use Rattle.std.proofs.Common.{◌≡◌, ℕ, Option, Some, IsSome, inr, refl, sym, ap, subst, ◌∙◌}
use Rattle.bng_l2tp_wire.specs.View.{avps_of, octets_of}
use Rattle.bng_lac.specs.declared.call.LacCall.{LacCall}
use Rattle.bng_lac.specs.Calls.{call_of}
use Rattle.bng_lac.specs.CallSteps.{CallStep, call_step}
use Rattle.bng_lac.proofs.CallsKept.{call_keeps}
use Rattle.bng_lac.proofs.tunnel.LacTunnel.hear_by_call.Goals as goal

pub put-requires : goal.put-requires
put-requires c =
    let after = c.in-Some-after.after in
    let secret = octets_of c.self.inside.rules.secret in
    let avps = avps_of c.args.avps.now in
    let step : (call_step secret c.in-Some.call avps).after ≡ Some after = ap (λ (s : CallStep). s.after) (sym c.tell-told.ensures.step) ∙ c.in-Some-after.is in
    let same = call_keeps secret c.in-Some.call avps after step ∙ c.in-Some.ensures.session in
    let P : Option LacCall → Type 0 = λ o. IsSome o in
    let Q : ℕ → Type 0 = λ n. IsSome (call_of n c.self.inside.calls) in
    inr (subst Q (sym same) (subst P c.in-Some.ensures.answer refl))
