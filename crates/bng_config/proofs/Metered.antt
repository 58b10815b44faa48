-- The profiles of a document that breaks no rule.
use Rattle.std.proofs.Common.{◌≡◌, ◌≢◌, ℕ, zero, suc, ◌<◌, ◌≤◌, pos, List, [], ◌∷◌, length, get_or, Option, Some, None, IfSome, codes, refl, sym, ap, subst, ◌∙◌, arith, inl, inr, ◌⊎◌}
use Rattle.std.specs.List.{All, AllPairs}
use Rattle.std.proofs.lemmas.List.Elements.{All-from_recursion}
use Rattle.toml.specs.Data.{Data, integer}
use Rattle.bng_base.specs.declared.book.Profile.{Profile}
use Rattle.bng_base.specs.declared.book.Rate.{Rate}
use Rattle.bng_schema.specs.declared.keys.Table.TheVariants.{Profile as Profiles}
use Rattle.bng_schema.specs.declared.keys.Field.{Field}
use Rattle.bng_schema.specs.declared.keys.Field.TheVariants.{ProfileName, ProfileUpCir, ProfileUpCbs, ProfileUpEbs, ProfileDownCir, ProfileDownCbs, ProfileDownEbs}
use Rattle.bng_schema.specs.declared.keys.Key.TheVariants.{Of}
use Rattle.bng_schema.specs.declared.rule.Rule.TheVariants.{C10, C12}
use Rattle.bng_schema.specs.Names.{IsLabelName, IsLabelOctet}
use Rattle.bng_schema.specs.Keys.{entries}
use Rattle.bng_schema.specs.Forms.{StandsAt, IsLabel}
use Rattle.bng_schema.specs.Repeats.{HasText}
use Rattle.bng_schema.specs.Rates.{IsZero, HasNoBurst}
use Rattle.bng_schema.specs.Checks.{IsSound}
use Rattle.bng_schema.proofs.Sound.{sound_field}
use Rattle.bng_config.specs.Rules.{IsMetered, HasRates}
use Rattle.bng_config.specs.Configuration.{AreProfiles, AreEntries, IsRate, IsProfile, default_profile}

letter : (octet : ℕ) → 97 ≤ octet → octet ≤ 122 → IsLabelOctet octet
letter octet low high = inl (low, high)

default_name : IsLabelName default_profile.name.items
default_name = record {
  some = omega arith;
  short = omega arith;
  octets = All-from_recursion IsLabelOctet (codes "default") (
    letter 100 (omega arith) (omega arith),
    (
      letter 101 (omega arith) (omega arith),
      (
        letter 102 (omega arith) (omega arith),
        (
          letter 97 (omega arith) (omega arith),
          (
            letter 117 (omega arith) (omega arith),
            (
              letter 108 (omega arith) (omega arith),
              (letter 116 (omega arith) (omega arith), tt),
            ),
          ),
        ),
      ),
    ),
  );
}

default_named : All (λ (p : Profile). IsLabelName p.name.items) (default_profile ∷ [])
default_named zero d less = default_name
default_named (suc i) d less = absurd (omega arith)

default_alone : AllPairs (λ (a b : Profile). a.name.items ≢ b.name.items) (default_profile ∷ [])
default_alone i j d less long = absurd (omega arith)

default_rates : All HasRates (default_profile ∷ [])
default_rates zero d less = record { up = tt; down = tt }
default_rates (suc i) d less = absurd (omega arith)

-- one of the bursts is not 0
burst : (committed excess : ℕ) → (committed ≡ 0 → excess ≡ 0 → ⊥) → (1 ≤ committed) ⊎ (1 ≤ excess)
burst zero zero both = absurd (both refl refl)
burst zero (suc n) both = inr (omega arith)
burst (suc n) excess both = inl (omega arith)

module _ (document : Data) (place : ℕ) (cir cbs ebs : Field) where
  zero_at : (f : Field) (n : ℕ) {P : Data → Type 0} → (s : StandsAt document (Of f place) P) → s.value ≡ integer (pos n) → n ≡ 0 → IsZero document f place
  zero_at f n s is none = s.found ∙ ap Some (is ∙ ap (λ m. integer (pos m)) none)

  metered : (o : Option Rate) → IsRate document place cir cbs ebs o → ¬ HasNoBurst document place cbs ebs → IfSome o IsMetered
  metered None is some = tt
  metered (Some r) is some = record {
    some_rate = is.cir.is.low;
    low_rate = is.cir.is.high;
    committed = is.cbs.is.high;
    excess = is.ebs.is.high;
    burst = burst r.cbs r.ebs (λ c e. some (zero_at cbs r.cbs is.cbs is.cbs.is.number c, zero_at ebs r.ebs is.ebs is.ebs.is.number e));
  }

-- the name of what stands at the key of a name
pub name_text : {document : Data} {f : Field} {place : ℕ} (p : Profile) → StandsAt document (Of f place) (λ d. IsLabel d p.name) → HasText document (Of f place) p.name.items
name_text p s = s.found ∙ ap Some s.is.text

module _ (document : Data) (sound : IsSound document) (profiles : List Profile) where
  module _ (of : AreEntries document Profiles (IsProfile document) profiles) where
    within : (i : ℕ) → i < length profiles → i < entries document Profiles
    within i less = subst (λ n. i < n) of.all less

    rates_of : All HasRates profiles
    rates_of i d less =
        let is = of.are i d less in
        record {
          up = metered document i ProfileUpCir ProfileUpCbs ProfileUpEbs (get_or profiles i d).up is.up (λ none. sound_field document sound C12 ProfileUpCbs i (within i less) (inr none));
          down = metered document i ProfileDownCir ProfileDownCbs ProfileDownEbs (get_or profiles i d).down is.down (λ none. sound_field document sound C12 ProfileDownCbs i (within i less) (inr none));
        }

    names_of : All (λ (p : Profile). IsLabelName p.name.items) profiles
    names_of i d less = (of.are i d less).name.is.is

    names_differ : AllPairs (λ (a b : Profile). a.name.items ≢ b.name.items) profiles
    names_differ i j d less long same =
        let here = name_text (get_or profiles j d) (of.are j d long).name in
        let there = name_text (get_or profiles i d) (of.are i d (omega arith)).name in
        sound_field document sound C10 ProfileName j (within j long)
        ((get_or profiles j d).name.items, here, (i, less, subst (λ t. HasText document (Of ProfileName i) t) same there))

  pub profile_names : AreProfiles document profiles → All (λ (p : Profile). IsLabelName p.name.items) profiles
  profile_names (inl (none, one)) = subst (λ (ps : List Profile). All (λ p. IsLabelName p.name.items) ps) (sym one) default_named
  profile_names (inr (some, of)) = names_of of

  pub different_profiles : AreProfiles document profiles → AllPairs (λ (a b : Profile). a.name.items ≢ b.name.items) profiles
  different_profiles (inl (none, one)) = subst (λ (ps : List Profile). AllPairs (λ a b. a.name.items ≢ b.name.items) ps) (sym one) default_alone
  different_profiles (inr (some, of)) = names_differ of

  pub all_metered : AreProfiles document profiles → All HasRates profiles
  all_metered (inl (none, one)) = subst (All HasRates) (sym one) default_rates
  all_metered (inr (some, of)) = rates_of of
