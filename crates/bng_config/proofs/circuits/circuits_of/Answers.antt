use Rattle.std.proofs.Common.{◌≡◌, [], ◌∷◌, ◌++◌, length, length-append, sym, ap, subst, ◌∙◌, arith}
use Rattle.toml.specs.View.{view}
use Rattle.bng_schema.specs.Forms.{EachPlace}
use Rattle.bng_schema.proofs.Places.{each_push}
use Rattle.bng_config.specs.Configuration.{IsCircuit}
use Rattle.bng_config.proofs.circuits.circuits_of.Goals as goal

pub loop-place-preserved : goal.loop-place-preserved
loop-place-preserved c =
    let document = view c.args.document.now in
    let done = c.loop-place.invariant.done in
    let last = c.circuit_at-circuit.result in
    let items : c.push.new.self.items ≡ c.loop-place.circuits.items ++ last ∷ [] = c.in_ok-push.ensures.items in
    record {
      done = ap length items ∙ length-append c.loop-place.circuits.items (last ∷ []) ∙ omega arith;
      are = subst (EachPlace (IsCircuit document c.args.profiles.now)) (sym items) (each_push (IsCircuit document c.args.profiles.now) c.loop-place.circuits.items c.loop-place.place last done c.loop-place.invariant.are c.circuit_at-circuit.ensures);
    }
