use Rattle.std.proofs.Common.{◌≡◌, [], ◌∷◌, ◌++◌, length, length-append, sym, ap, subst, ◌∙◌, arith}
use Rattle.toml.specs.View.{view}
use Rattle.bng_schema.specs.Forms.{EachPlace}
use Rattle.bng_schema.proofs.Places.{each_push}
use Rattle.bng_config.specs.Configuration.{IsProfile}
use Rattle.bng_config.proofs.profiles.listed.Goals as goal

pub loop-place-preserved : goal.loop-place-preserved
loop-place-preserved c =
    let document = view c.args.document.now in
    let done = c.loop-place.invariant.done in
    let last = c.profile_at-profile.result in
    let items : c.push.new.self.items ≡ c.loop-place.profiles.items ++ last ∷ [] = c.in_ok-push.ensures.items in
    record {
      done = ap length items ∙ length-append c.loop-place.profiles.items (last ∷ []) ∙ omega arith;
      are = subst (EachPlace (IsProfile document)) (sym items) (each_push (IsProfile document) c.loop-place.profiles.items c.loop-place.place last done c.loop-place.invariant.are c.profile_at-profile.ensures);
    }
