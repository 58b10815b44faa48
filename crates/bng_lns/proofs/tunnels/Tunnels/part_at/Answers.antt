use Rattle.std.proofs.Common.{◌≡◌, Some, length, slice_get, refl, sym, ap, subst, ◌∙◌, arith}
use Rattle.std.specs.Prelude.{position, IsSome}
use Rattle.std.specs.List.{AllByRecursion}
use Rattle.std.proofs.lemmas.List.Quantifiers.{position-Some}
use Rattle.std.proofs.lemmas.Option.{slice_get_read}
use Rattle.bng_l2tp_tunnel.specs.Sound.{IsSpelled}
use Rattle.bng_l2tp_tunnel.specs.TunnelState.{TunnelState}
use Rattle.bng_l2tp_wire.specs.View.{Said, said}
use Rattle.bng_lns.specs.Places.{number_at, is_numbered, place_of, IsPlace}
use Rattle.bng_lns.specs.Tunnels.{TunnelsState, tunnel_at, with_step}
use Rattle.bng_lns.specs.Exchange.{parted_by, parted}
use Rattle.bng_lns.proofs.Exchanging.{parted_one, parted_spelled, call_texts}
use Rattle.bng_lns.proofs.Finding.{found_passes, none_found}
use Rattle.bng_lns.proofs.Keeping.{place_in, kept_set, same_tunnel, tunnel_stepped, none_stands}
use Rattle.bng_lns.proofs.tunnels.Tunnels.part_at.Goals as goal
use Rattle.bng_lns.proofs.tunnels.Tunnels.part_at.Goals.{After-index_mut}

-- where the tunnel stands
at_place : (c : After-index_mut) → position (is_numbered c.args.number.0) c.self.inside.places.items ≡ Some c.in-Some.at
at_place c = ap (position (is_numbered c.args.number.0)) (sym c.as_slice.ensures.value) ∙ sym c.in-Some.ensures

there : (c : After-index_mut) → slice_get c.self.inside.places.items c.in-Some.at ≡ Some c.index_mut.result.now
there c =
    let within = (position-Some (is_numbered c.args.number.0) c.self.inside.places.items c.in-Some.at c.index_mut.result.now (at_place c)).0 in
    slice_get_read c.self.inside.places.items (length c.self.inside.places.items) c.in-Some.at c.index_mut.result.now refl within c.index_mut.ensures.value

its_place : (c : After-index_mut) → IsPlace (number_at c.self.inside.shard c.in-Some.at) c.index_mut.result.now
its_place c = place_in c.self.inside.shard _ c.self.inside.places.items c.self.invariant c.in-Some.at c.index_mut.result.now (there c)

pub unreachable-requires : goal.unreachable-requires
unreachable-requires c =
    let test = is_numbered c.args.number.0 in
    let t : TunnelsState = record { shard = c.self.inside.shard; places = c.self.inside.places.items } in
    let none = none_found test t.places (ap (position test) (sym c.as_slice.ensures.value) ∙ sym c.numbered_place.ensures ∙ c.in_default.is) in
    none_stands t c.args.number.0 none (subst (λ (s : TunnelsState). IsSome (tunnel_at s c.args.number.0)) (sym c.self.view_is) c.requires.stands)

pub part_in-requires-clause-tunnel : goal.part_in-requires-clause-tunnel
part_in-requires-clause-tunnel c = (its_place (goal.at.part_in-requires-clause-tunnel c).After-index_mut).sound

pub part_in-requires-clause-texts : goal.part_in-requires-clause-texts
part_in-requires-clause-texts c = call_texts _ _ c.end-told.ensures.sound.outs

pub invariant_of-self : goal.invariant_of-self
invariant_of-self c =
    let d = (goal.at.invariant_of-self c).After-index_mut in
    kept_set c.self.inside.shard _ c.self.inside.places.items c.self.invariant c.in-Some.at c.part_in.new.place (c.part_in.ensures.kept (number_at c.self.inside.shard c.in-Some.at) (its_place d))

pub returns-clause-said : goal.returns-clause-said
returns-clause-said c = λ x e.
    let d = (goal.at.returns-clause-said c).After-index_mut in
    let t : TunnelsState = record { shard = c.self.inside.shard; places = c.self.inside.places.items } in
    let told = said c.end-told.result in
    let same = same_tunnel t c.args.number.0 c.in-Some.at c.index_mut.result.now (at_place d) (there d) x (ap (λ (s : TunnelsState). tunnel_at s c.args.number.0) c.self.view_is ∙ e) in
    c.part_in.ensures.said
    ∙ ap (λ (y : TunnelState). (parted_by y told c.args.now told.outs).said) same
    ∙ ap (λ (s : Said). (parted_by x s c.args.now s.outs).said) c.end-told.ensures.said

pub returns-clause-after : goal.returns-clause-after
returns-clause-after c = λ x e.
    let d = (goal.at.returns-clause-after c).After-index_mut in
    let t : TunnelsState = record { shard = c.self.inside.shard; places = c.self.inside.places.items } in
    let told = said c.end-told.result in
    let p = c.index_mut.result.now in
    let same = same_tunnel t c.args.number.0 c.in-Some.at p (at_place d) (there d) x (ap (λ (s : TunnelsState). tunnel_at s c.args.number.0) c.self.view_is ∙ e) in
    let after = (parted x c.args.call.now c.args.now).after in
    let written = c.part_in.ensures.after
    ∙ ap (λ (y : TunnelState). place_of c.args.now (parted_by y told c.args.now told.outs).after) same
    ∙ ap (λ (s : Said). place_of c.args.now (parted_by x s c.args.now s.outs).after) c.end-told.ensures.said in
    tunnel_stepped t c.args.number.0 c.in-Some.at p (at_place d) (there d) _ c.args.now after c.part_in.new.place c.self.invariant (found_passes (is_numbered c.args.number.0) t.places c.in-Some.at p (at_place d) (there d)) written
    ∙ ap (λ (s : TunnelsState). with_step c.args.now s c.args.number.0 after) c.self.view_is

pub returns-clause-one : goal.returns-clause-one
returns-clause-one c =
    let d = (goal.at.returns-clause-one c).After-index_mut in
    let told = said c.end-told.result in
    omega (arith, ap (λ (s : Said). length s.outs) c.part_in.ensures.said, parted_one c.index_mut.result.now.tunnel told c.args.now told.outs (its_place d).sound)

pub returns-clause-spelled : goal.returns-clause-spelled
returns-clause-spelled c =
    let d = (goal.at.returns-clause-spelled c).After-index_mut in
    let told = said c.end-told.result in
    subst (λ (s : Said). AllByRecursion IsSpelled s.outs) (sym c.part_in.ensures.said)
    (parted_spelled c.index_mut.result.now.tunnel told c.args.now told.outs (its_place d).sound (call_texts _ _ c.end-told.ensures.sound.outs))
