use Rattle.std.proofs.Common.{◌≡◌, Some, true, length, slice_get, refl, sym, ap, ◌∙◌, arith}
use Rattle.std.proofs.lemmas.Option.{slice_get_read}
use Rattle.bng_l2tp_tunnel.specs.Steps.{stands, stop_step}
use Rattle.bng_lns.specs.declared.place.TunnelPlace.{TunnelPlace}
use Rattle.bng_lns.specs.Places.{number_at, IsPlace}
use Rattle.bng_lns.specs.Tunnels.{TunnelsState}
use Rattle.bng_lns.specs.Timed.{Telling, Timed, stopped}
use Rattle.bng_lns.proofs.Keeping.{place_in, kept_set}
use Rattle.bng_lns.proofs.Timing.{stopped_if, stepped_there}
use Rattle.bng_lns.proofs.tunnels.Tunnels.stop.Goals as goal
use Rattle.bng_lns.proofs.tunnels.Tunnels.stop.Goals.{After-stop_in}

-- the place that is looked at, and written
seen : (c : After-stop_in) → slice_get c.self.inside.places.items c.args.at ≡ Some c.index.result.now
seen c = slice_get_read c.self.inside.places.items (length c.self.inside.places.items) c.args.at c.index.result.now refl (omega (arith, c.if-at-len.false)) c.index.ensures

there : (c : After-stop_in) → slice_get c.self.inside.places.items c.args.at ≡ Some c.index_mut.result.now
there c = slice_get_read c.self.inside.places.items (length c.self.inside.places.items) c.args.at c.index_mut.result.now refl (omega (arith, c.if-at-len.false)) c.index_mut.ensures.value

same : (c : After-stop_in) → c.index_mut.result.now ≡ c.index.result.now
same c = let a = seen c in let b = there c in cc

passes : (c : After-stop_in) → stands c.index_mut.result.now.tunnel.phase ≡ true
passes c = ap (λ (p : TunnelPlace). stands p.tunnel.phase) (same c) ∙ sym c.is_standing.ensures ∙ c.if-not-is_standing.false

its_place : (c : After-stop_in) → IsPlace (number_at c.self.inside.shard c.args.at) c.index_mut.result.now
its_place c = place_in c.self.inside.shard _ c.self.inside.places.items c.self.invariant c.args.at c.index_mut.result.now (there c)

pub invariant_of-self : goal.invariant_of-self
invariant_of-self c =
    let d = (goal.at.invariant_of-self c).After-stop_in in
    kept_set c.self.inside.shard _ c.self.inside.places.items c.self.invariant c.args.at c.stop_in.new.place (c.stop_in.ensures.kept (number_at c.self.inside.shard c.args.at) (its_place d))

pub returns-clause-told : goal.returns-clause-told
returns-clause-told c =
    let d = (goal.at.returns-clause-told c).After-stop_in in
    let t : TunnelsState = record { shard = c.self.inside.shard; places = c.self.inside.places.items } in
    let done = stopped_if t c.args.now c.args.at c.index_mut.result.now (there d) true (passes d) in
    ap (λ (x : Telling). Some x) c.stop_in.ensures.told ∙ ap (λ (r : Timed). r.told) (sym done) ∙ ap (λ (s : TunnelsState). (stopped c.args.now s c.args.at).told) c.self.view_is

pub returns-clause-after : goal.returns-clause-after
returns-clause-after c =
    let d = (goal.at.returns-clause-after c).After-stop_in in
    let t : TunnelsState = record { shard = c.self.inside.shard; places = c.self.inside.places.items } in
    let p = c.index_mut.result.now in
    let done = stopped_if t c.args.now c.args.at p (there d) true (passes d) in
    stepped_there t c.args.now c.args.at p (there d) (number_at c.self.inside.shard 0) c.stop_in.new.place (stop_step p.tunnel c.args.now).after c.self.invariant.are (passes d) c.stop_in.ensures.after
    ∙ ap (λ (r : Timed). r.after) (sym done) ∙ ap (λ (s : TunnelsState). (stopped c.args.now s c.args.at).after) c.self.view_is

pub returns-clause-spelled : goal.returns-clause-spelled
returns-clause-spelled c = c.stop_in.ensures.spelled (its_place (goal.at.returns-clause-spelled c).After-stop_in).sound

pub returns-clause-one : goal.returns-clause-one
returns-clause-one c = c.stop_in.ensures.one (its_place (goal.at.returns-clause-one c).After-stop_in).sound
