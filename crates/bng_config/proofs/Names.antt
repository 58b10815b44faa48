-- The profiles by their names.
use Rattle.std.proofs.Common.{◌≢◌, ℕ, ◌<◌, ◌≤◌, List, length, get_or, sym, ap, ◌∙◌, arith, inl, inr}
use Rattle.toml.specs.Data.{Data}
use Rattle.std.proofs.lemmas.Option.{same_Some}
use Rattle.bng_base.specs.declared.book.Profile.{Profile}
use Rattle.bng_schema.specs.declared.keys.Table.TheVariants.{Static as Circuits}
use Rattle.bng_schema.specs.declared.keys.Field.TheVariants.{StaticProfile}
use Rattle.bng_schema.specs.declared.keys.Key.TheVariants.{Of}
use Rattle.bng_schema.specs.declared.rule.Rule.TheVariants.{C14}
use Rattle.bng_schema.specs.Keys.{entries}
use Rattle.bng_schema.specs.Repeats.{HasText}
use Rattle.bng_schema.specs.Circuits.{IsProfileName}
use Rattle.bng_schema.specs.Checks.{IsSound}
use Rattle.bng_schema.proofs.Sound.{sound_field}
use Rattle.bng_schema.proofs.Spellings.{string_once}
use Rattle.bng_config.specs.Configuration.{AreProfiles, default_profile}
use Rattle.bng_config.proofs.Held.{few_profiles}

module _ (document : Data) (sound : IsSound document) (profiles : List Profile) where
  -- there are no more of them than places
  pub few : AreProfiles document profiles → length profiles ≤ 16
  few (inl (none, one)) = let long = ap length one in omega arith
  few (inr (some, are)) =
      let long = are.all in
      let most = few_profiles document sound in
      omega arith

  pub some : AreProfiles document profiles → 1 ≤ length profiles
  some (inl (none, one)) = let long = ap length one in omega arith
  some (inr (there, are)) = let long = are.all in omega arith

  module _ (name : List ℕ) (none : (i : ℕ) (d : Profile) → i < length profiles → (get_or profiles i d).name.items ≢ name) where
    nameless : AreProfiles document profiles → IsProfileName document name → ⊥
    nameless (inl (empty, one)) (inl (i, less, at)) = omega arith
    nameless (inl (empty, one)) (inr (same, is)) =
        let long = ap length one in
        none 0 default_profile (omega arith) (ap (λ (ps : List Profile). (get_or ps 0 default_profile).name.items) one ∙ sym is)
    nameless (inr (there, are)) (inl (i, less, at)) =
        let long = are.all in
        let here = (are.are i default_profile (omega arith)).name in
        none i default_profile (omega arith) (string_once _ _ (sym here.is.text ∙ same_Some _ _ (sym here.found ∙ at)))
    nameless (inr (there, are)) (inr (empty, is)) = omega arith

    -- a circuit names none that there is not
    pub unnamed : AreProfiles document profiles → (place : ℕ) → place < entries document Circuits → HasText document (Of StaticProfile place) name → ⊥
    unnamed are place less at = sound_field document sound C14 StaticProfile place less (name, at, nameless are)
