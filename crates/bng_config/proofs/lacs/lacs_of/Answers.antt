use Rattle.std.proofs.Common.{◌≡◌, [], ◌∷◌, ◌++◌, length, length-append, sym, ap, subst, ◌∙◌, arith}
use Rattle.toml.specs.View.{view}
use Rattle.bng_schema.specs.Forms.{EachPlace}
use Rattle.bng_schema.proofs.Places.{each_push}
use Rattle.bng_config.specs.Configuration.{IsLacAt}
use Rattle.bng_config.proofs.lacs.lacs_of.Goals as goal

pub loop-place-preserved : goal.loop-place-preserved
loop-place-preserved c =
    let document = view c.args.document.now in
    let done = c.loop-place.invariant.done in
    let last = c.lac_at-lac.result in
    let items : c.push.new.self.items ≡ c.loop-place.lacs.items ++ last ∷ [] = c.in_ok-push.ensures.items in
    record {
      done = ap length items ∙ length-append c.loop-place.lacs.items (last ∷ []) ∙ omega arith;
      are = subst (EachPlace (IsLacAt document)) (sym items) (each_push (IsLacAt document) c.loop-place.lacs.items c.loop-place.place last done c.loop-place.invariant.are c.lac_at-lac.ensures);
    }
