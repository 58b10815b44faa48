use Rattle.std.proofs.Common.{◌≡◌, Some, length, slice_get, refl, sym, ap, ◌∙◌, arith}
use Rattle.std.proofs.lemmas.Option.{slice_get_read}
use Rattle.bng_l2tp_wire.specs.View.{control_of}
use Rattle.bng_lns.specs.Places.{number_at}
use Rattle.bng_lns.specs.Tunnels.{TunnelsState, answer_of, number_of, heard_by}
use Rattle.bng_lns.proofs.Hearing.{heard_answer, heard_after, heard_taken}
use Rattle.bng_lns.proofs.Keeping.{place_in, kept_set}
use Rattle.bng_lns.proofs.tunnels.Tunnels.hear_at.Goals as goal
use Rattle.bng_lns.proofs.tunnels.Tunnels.hear_at.Goals.{After-hear_in}

-- the place that is looked at
there : (c : After-hear_in) → slice_get c.self.inside.places.items c.args.at ≡ Some c.index_mut.result.now
there c = slice_get_read c.self.inside.places.items (length c.self.inside.places.items) c.args.at c.index_mut.result.now refl (omega (arith, c.requires.within, ap (λ (t : TunnelsState). length t.places) c.self.view_is)) c.index_mut.ensures.value

pub invariant_of-self : goal.invariant_of-self
invariant_of-self c =
    let is = place_in c.self.inside.shard _ c.self.inside.places.items c.self.invariant c.args.at c.index_mut.result.now (there (goal.at.invariant_of-self c).After-hear_in) in
    kept_set c.self.inside.shard _ c.self.inside.places.items c.self.invariant c.args.at c.hear_in.new.place (c.hear_in.ensures.kept (number_at c.self.inside.shard c.args.at) is)

pub returns-clause-answer : goal.returns-clause-answer
returns-clause-answer c =
    let t : TunnelsState = record { shard = c.self.inside.shard; places = c.self.inside.places.items } in
    heard_answer t c.args.came.now (control_of c.args.message.now) c.args.at c.index_mut.result.now (there (goal.at.returns-clause-answer c).After-hear_in) (answer_of c.hear_in.result) c.hear_in.ensures.answer
    ∙ ap (λ (s : TunnelsState). (heard_by s c.args.came.now (control_of c.args.message.now) (slice_get s.places c.args.at)).answer) c.self.view_is

pub returns-clause-after : goal.returns-clause-after
returns-clause-after c =
    let t : TunnelsState = record { shard = c.self.inside.shard; places = c.self.inside.places.items } in
    let stood = c.requires.stands c.index_mut.result.now (ap (λ (s : TunnelsState). slice_get s.places c.args.at) (sym c.self.view_is) ∙ there (goal.at.returns-clause-after c).After-hear_in) in
    heard_after t c.args.came.now (control_of c.args.message.now) c.args.at c.index_mut.result.now (there (goal.at.returns-clause-after c).After-hear_in) (number_at c.self.inside.shard 0) c.hear_in.new.place c.self.invariant.are stood c.hear_in.ensures.after
    ∙ ap (λ (s : TunnelsState). (heard_by s c.args.came.now (control_of c.args.message.now) (slice_get s.places c.args.at)).after) c.self.view_is

pub returns-clause-taken : goal.returns-clause-taken
returns-clause-taken c =
    let t : TunnelsState = record { shard = c.self.inside.shard; places = c.self.inside.places.items } in
    let is = place_in c.self.inside.shard _ c.self.inside.places.items c.self.invariant c.args.at c.index_mut.result.now (there (goal.at.returns-clause-taken c).After-hear_in) in
    let kept = c.hear_in.ensures.kept (number_at c.self.inside.shard c.args.at) is in
    heard_taken t c.args.came.now (control_of c.args.message.now) c.args.at c.index_mut.result.now (there (goal.at.returns-clause-taken c).After-hear_in) (answer_of c.hear_in.result) c.hear_in.new.place
    (c.hear_in.ensures.spelled is.sound) c.hear_in.ensures.few c.hear_in.ensures.room c.hear_in.ensures.stands
    (ap number_of c.hear_in.ensures.answer ∙ is.number_is ∙ sym kept.number_is)
