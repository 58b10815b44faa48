use Rattle.std.proofs.Common.{ℕ, List, inl, inr, refl, sym, subst, arith}
use Rattle.toml.specs.View.{view}
use Rattle.bng_schema.specs.declared.keys.Field.TheVariants.{StaticProfile}
use Rattle.bng_schema.specs.declared.keys.Key.TheVariants.{Of}
use Rattle.bng_schema.specs.declared.keys.Form.TheVariants.{AnyText}
use Rattle.bng_schema.specs.Repeats.{HasText}
use Rattle.bng_config.proofs.Absent.{text_absent}
use Rattle.bng_config.proofs.Held.{sound_as}
use Rattle.bng_config.proofs.Names.{few, unnamed}
use Rattle.bng_config.proofs.circuits.profile_of.Goals as goal

pub unreachable-requires : goal.unreachable-requires
unreachable-requires c =
    let document = view c.args.document.now in
    let at = subst (λ (text : List ℕ). HasText document (Of StaticProfile c.args.place) text) (sym c.as_bytes.ensures.value) c.in-Some.ensures.found in
    unnamed document c.requires.sound c.args.profiles.now c.as_bytes.result.now c.in-None-place_of.ensures.none c.requires.profiles c.args.place c.requires.there at

pub returns-in-None : goal.returns-in-None
returns-in-None c =
    let document = view c.args.document.now in
    let sound = sound_as document c.requires.sound StaticProfile c.args.place AnyText c.requires.there refl in
    inl (text_absent document (Of StaticProfile c.args.place) sound c.in-None.ensures.none, refl)

pub returns-in-Some-place_of : goal.returns-in-Some-place_of
returns-in-Some-place_of c =
    let document = view c.args.document.now in
    let at = subst (λ (text : List ℕ). HasText document (Of StaticProfile c.args.place) text) (sym c.as_bytes.ensures.value) c.in-Some.ensures.found in
    inr (c.as_bytes.result.now, at, c.in-Some-place_of.ensures.found)

pub overflow_cast-result : goal.overflow_cast-result
overflow_cast-result c =
    let within = c.in-Some-place_of.ensures.found.within in
    let sixteen = few (view c.args.document.now) c.requires.sound c.args.profiles.now c.requires.profiles in
    omega arith
