use Rattle.std.proofs.Common.{◌≡◌, ◌<◌, Some, length, slice_get, refl, sym, ap, subst, ◌∙◌, arith}
use Rattle.std.specs.Prelude.{position, IsSome}
use Rattle.std.specs.List.{AllByRecursion}
use Rattle.std.proofs.lemmas.List.Quantifiers.{position-Some}
use Rattle.std.proofs.lemmas.Option.{slice_get_read}
use Rattle.bng_l2tp_wire.specs.View.{control_of, Said, said}
use Rattle.bng_l2tp_tunnel.specs.Sound.{IsSpelled}
use Rattle.bng_l2tp_tunnel.specs.Steps.{Step}
use Rattle.bng_l2tp_tunnel.specs.TunnelState.{TunnelState}
use Rattle.bng_l2tp_call.specs.Steps.{Step as CallStep}
use Rattle.bng_l2tp_call.proofs.Table.{hears_is}
use Rattle.bng_lns.specs.Places.{number_at, is_numbered, place_of, IsPlace}
use Rattle.bng_lns.specs.Tunnels.{TunnelsState, tunnel_at, with_step}
use Rattle.bng_lns.specs.Exchange.{answered_by, exchanged}
use Rattle.bng_lns.proofs.Exchanging.{answered_some, answered_few, answered_spelled, as_exchanged, call_texts}
use Rattle.bng_lns.proofs.Finding.{found_passes, none_found}
use Rattle.bng_lns.proofs.Keeping.{place_in, kept_set, same_tunnel, tunnel_stepped, none_stands}
use Rattle.bng_lns.proofs.Payloads.{length-payloads}
use Rattle.bng_lns.proofs.tunnels.Tunnels.answer_at.Goals as goal
use Rattle.bng_lns.proofs.tunnels.Tunnels.answer_at.Goals.{After-index_mut}

-- where the tunnel stands
at_place : (c : After-index_mut) → position (is_numbered c.args.number.0) c.self.inside.places.items ≡ Some c.in-Some.at
at_place c = ap (position (is_numbered c.args.number.0)) (sym c.as_slice.ensures.value) ∙ sym c.in-Some.ensures

there : (c : After-index_mut) → slice_get c.self.inside.places.items c.in-Some.at ≡ Some c.index_mut.result.now
there c =
    let within = (position-Some (is_numbered c.args.number.0) c.self.inside.places.items c.in-Some.at c.index_mut.result.now (at_place c)).0 in
    slice_get_read c.self.inside.places.items (length c.self.inside.places.items) c.in-Some.at c.index_mut.result.now refl within c.index_mut.ensures.value

its_place : (c : After-index_mut) → IsPlace (number_at c.self.inside.shard c.in-Some.at) c.index_mut.result.now
its_place c = place_in c.self.inside.shard _ c.self.inside.places.items c.self.invariant c.in-Some.at c.index_mut.result.now (there c)

pub unreachable-requires : goal.unreachable-requires
unreachable-requires c =
    let test = is_numbered c.args.number.0 in
    let t : TunnelsState = record { shard = c.self.inside.shard; places = c.self.inside.places.items } in
    let none = none_found test t.places (ap (position test) (sym c.as_slice.ensures.value) ∙ sym c.numbered_place.ensures ∙ c.in_default.is) in
    none_stands t c.args.number.0 none (subst (λ (s : TunnelsState). IsSome (tunnel_at s c.args.number.0)) (sym c.self.view_is) c.requires.stands)

pub answer_in-requires-clause-tunnel : goal.answer_in-requires-clause-tunnel
answer_in-requires-clause-tunnel c = (its_place (goal.at.answer_in-requires-clause-tunnel c).After-index_mut).sound

pub answer_in-requires-clause-few : goal.answer_in-requires-clause-few
answer_in-requires-clause-few c = omega (arith, length-payloads c.args.step.now.outs.items, c.requires.few)

pub answer_in-requires-clause-texts : goal.answer_in-requires-clause-texts
answer_in-requires-clause-texts c = call_texts _ _ c.on_message-told.ensures.sound.outs

pub invariant_of-self : goal.invariant_of-self
invariant_of-self c =
    let d = (goal.at.invariant_of-self c).After-index_mut in
    kept_set c.self.inside.shard _ c.self.inside.places.items c.self.invariant c.in-Some.at c.answer_in.new.place (c.answer_in.ensures.kept (number_at c.self.inside.shard c.in-Some.at) (its_place d))

pub returns-clause-said : goal.returns-clause-said
returns-clause-said c = λ x e.
    let d = (goal.at.returns-clause-said c).After-index_mut in
    let t : TunnelsState = record { shard = c.self.inside.shard; places = c.self.inside.places.items } in
    let heard = said c.args.step.now in
    let told = said c.on_message-told.result in
    let m = control_of c.args.message.now in
    let same = same_tunnel t c.args.number.0 c.in-Some.at c.index_mut.result.now (at_place d) (there d) x (ap (λ (s : TunnelsState). tunnel_at s c.args.number.0) c.self.view_is ∙ e) in
    c.answer_in.ensures.said
    ∙ ap (λ (y : TunnelState). (answered_by y heard told c.args.now told.outs).said) same
    ∙ ap (λ (s : Step). s.said) (as_exchanged x heard c.args.call.now m c.args.now told c.on_message-told.new.self c.on_message-told.ensures.steps)

pub returns-clause-after : goal.returns-clause-after
returns-clause-after c = λ x e.
    let d = (goal.at.returns-clause-after c).After-index_mut in
    let t : TunnelsState = record { shard = c.self.inside.shard; places = c.self.inside.places.items } in
    let heard = said c.args.step.now in
    let told = said c.on_message-told.result in
    let m = control_of c.args.message.now in
    let p = c.index_mut.result.now in
    let same = same_tunnel t c.args.number.0 c.in-Some.at p (at_place d) (there d) x (ap (λ (s : TunnelsState). tunnel_at s c.args.number.0) c.self.view_is ∙ e) in
    let after = (exchanged x heard c.args.call.now m c.args.now).after in
    let written = c.answer_in.ensures.after
    ∙ ap (λ (y : TunnelState). place_of c.args.now (answered_by y heard told c.args.now told.outs).after) same
    ∙ ap (λ (s : Step). place_of c.args.now s.after) (as_exchanged x heard c.args.call.now m c.args.now told c.on_message-told.new.self c.on_message-told.ensures.steps) in
    tunnel_stepped t c.args.number.0 c.in-Some.at p (at_place d) (there d) _ c.args.now after c.answer_in.new.place c.self.invariant (found_passes (is_numbered c.args.number.0) t.places c.in-Some.at p (at_place d) (there d)) written
    ∙ ap (λ (s : TunnelsState). with_step c.args.now s c.args.number.0 after) c.self.view_is

pub returns-clause-acknowledged : goal.returns-clause-acknowledged
returns-clause-acknowledged c =
    let told = said c.on_message-told.result in
    subst (λ (s : Said). 0 < length s.outs) (sym c.answer_in.ensures.said)
    (answered_some c.index_mut.result.now.tunnel (said c.args.step.now) told c.args.now told.outs)

pub returns-clause-few : goal.returns-clause-few
returns-clause-few c =
    let d = (goal.at.returns-clause-few c).After-index_mut in
    let told = said c.on_message-told.result in
    omega (arith, ap (λ (s : Said). length s.outs) c.answer_in.ensures.said, answered_few c.index_mut.result.now.tunnel (said c.args.step.now) told c.args.now told.outs (its_place d).sound c.requires.few)

pub returns-clause-spelled : goal.returns-clause-spelled
returns-clause-spelled c = λ h.
    let d = (goal.at.returns-clause-spelled c).After-index_mut in
    let told = said c.on_message-told.result in
    subst (λ (s : Said). AllByRecursion IsSpelled s.outs) (sym c.answer_in.ensures.said)
    (answered_spelled c.index_mut.result.now.tunnel (said c.args.step.now) told c.args.now told.outs (its_place d).sound (call_texts _ _ c.on_message-told.ensures.sound.outs) h)

pub returns-clause-call : goal.returns-clause-call
returns-clause-call c = ap (λ (s : CallStep). s.after) (hears_is c.args.call.now (control_of c.args.message.now) c.on_message-told.ensures.steps)
