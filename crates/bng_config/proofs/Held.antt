-- The keys of a document that breaks no rule.
use Rattle.std.proofs.Common.{◌≡◌, ℕ, ◌<◌, ◌≤◌, true, false, Option, Some, None, IsTrue, refl, arith, inl, inr, ◌⊎◌}
use Rattle.toml.specs.Data.{Data}
use Rattle.bng_schema.specs.declared.keys.Table.{Table}
use Rattle.bng_schema.specs.declared.keys.Table.TheVariants.{Gateway, Core, Control, Access, Radius, Lac, Pool, Profile, Static}
use Rattle.bng_schema.specs.declared.keys.Field.{Field}
use Rattle.bng_schema.specs.declared.keys.Field.TheVariants.{ProfileUpCir, ProfileUpCbs, ProfileUpEbs, ProfileDownCir, ProfileDownCbs, ProfileDownEbs}
use Rattle.bng_schema.specs.declared.keys.Key.TheVariants.{Whole, Of}
use Rattle.bng_schema.specs.declared.keys.Form.{Form}
use Rattle.bng_schema.specs.declared.keys.Form.TheVariants.{TableList, Number}
use Rattle.bng_schema.specs.declared.rule.Rule.TheVariants.{C4, C12}
use Rattle.bng_schema.specs.Keys.{field_row, table_row, path_of, value_at, entry_count, entries}
use Rattle.bng_schema.specs.Checks.{IsSound}
use Rattle.bng_schema.proofs.Sound.{sound_whole, sound_field}
use Rattle.bng_config.specs.Sound.{IsSoundAs, IsThereAs, IsDirection}
use Rattle.bng_config.proofs.Absent.{array_bounds}

-- a table that is no list has an entry where something stands there
one_entry : (o : Option Data) → (o ≡ None → ⊥) → 0 < entry_count false o
one_entry None some = absurd (some refl)
one_entry (Some d) some = omega arith

pub no_entry : (o : Option Data) → entry_count false o ≡ 0 → o ≡ None
no_entry None none = refl
no_entry (Some d) none = absurd (omega arith)

module _ (document : Data) (sound : IsSound document) where
  -- the keys of an entry, and a table as a whole
  pub sound_as : (f : Field) (place : ℕ) (form : Form) → place < entries document (field_row f).table → (field_row f).form ≡ form → IsSoundAs document (Of f place) form
  sound_as f place form less is = record { is = is; kept = λ r. sound_field document sound r f place less }

  pub there_as : (f : Field) (place : ℕ) (form : Form) → place < entries document (field_row f).table → IsTrue (field_row f).needed → (field_row f).form ≡ form → IsThereAs document (Of f place) form
  there_as f place form less needed is = record { needed = needed; sound = sound_as f place form less is }

  whole_as : (t : Table) (form : Form) → (table_row t).form ≡ form → IsSoundAs document (Whole t) form
  whole_as t form is = record { is = is; kept = λ r. sound_whole document sound r t }

  -- the tables that there must be
  pub gateway_there : 0 < entries document Gateway
  gateway_there = one_entry (value_at (path_of (Whole Gateway)) document) (λ e. sound_whole document sound C4 Gateway (refl, e))

  pub core_there : 0 < entries document Core
  core_there = one_entry (value_at (path_of (Whole Core)) document) (λ e. sound_whole document sound C4 Core (refl, e))

  pub control_there : 0 < entries document Control
  control_there = one_entry (value_at (path_of (Whole Control)) document) (λ e. sound_whole document sound C4 Control (refl, e))

  pub radius_there : 0 < entries document Radius
  radius_there = one_entry (value_at (path_of (Whole Radius)) document) (λ e. sound_whole document sound C4 Radius (refl, e))

  -- the lists, as long as they may be
  between : (t : Table) (least most : ℕ) → IsSoundAs document (Whole t) (TableList least most) → (o : Option Data) → value_at (path_of (Whole t)) document ≡ o → (o ≡ None → ⊥) ⊎ (least ≡ 0)
      → (least ≤ entry_count true o) × (entry_count true o ≤ most)
  between t least most h None at (inl some) = absurd (some refl)
  between t least most h None at (inr none) = (omega arith, omega arith)
  between t least most h (Some d) at some = array_bounds document (Whole t) least most h d at

  pub ports_between : (1 ≤ entries document Access) × (entries document Access ≤ 16)
  ports_between = between Access 1 16 (whole_as Access (TableList 1 16) refl) (value_at (path_of (Whole Access)) document) refl (inl (λ e. sound_whole document sound C4 Access (refl, e)))

  pub pools_between : (1 ≤ entries document Pool) × (entries document Pool ≤ 16)
  pools_between = between Pool 1 16 (whole_as Pool (TableList 1 16) refl) (value_at (path_of (Whole Pool)) document) refl (inl (λ e. sound_whole document sound C4 Pool (refl, e)))

  pub few_lacs : entries document Lac ≤ 16
  few_lacs = (between Lac 0 16 (whole_as Lac (TableList 0 16) refl) (value_at (path_of (Whole Lac)) document) refl (inr refl)).1

  pub few_profiles : entries document Profile ≤ 16
  few_profiles = (between Profile 0 16 (whole_as Profile (TableList 0 16) refl) (value_at (path_of (Whole Profile)) document) refl (inr refl)).1

  pub few_circuits : entries document Static ≤ 1024
  few_circuits = (between Static 0 1024 (whole_as Static (TableList 0 1024) refl) (value_at (path_of (Whole Static)) document) refl (inr refl)).1

  -- the two directions of a profile
  module _ (place : ℕ) (less : place < entries document Profile) where
    pub up_whole : IsDirection document place ProfileUpCir ProfileUpCbs ProfileUpEbs
    up_whole = record {
      cir = sound_as ProfileUpCir place (Number 1 1000000000000) less refl;
      cbs = record {
        sound = sound_as ProfileUpCbs place (Number 0 4294967295) less refl;
        whole = λ there absent. sound_field document sound C12 ProfileUpCbs place less (inl (absent, inl there));
      };
      ebs = record {
        sound = sound_as ProfileUpEbs place (Number 0 4294967295) less refl;
        whole = λ there absent. sound_field document sound C12 ProfileUpEbs place less (absent, inl there);
      };
    }

    pub down_whole : IsDirection document place ProfileDownCir ProfileDownCbs ProfileDownEbs
    down_whole = record {
      cir = sound_as ProfileDownCir place (Number 1 1000000000000) less refl;
      cbs = record {
        sound = sound_as ProfileDownCbs place (Number 0 4294967295) less refl;
        whole = λ there absent. sound_field document sound C12 ProfileDownCbs place less (inl (absent, inl there));
      };
      ebs = record {
        sound = sound_as ProfileDownEbs place (Number 0 4294967295) less refl;
        whole = λ there absent. sound_field document sound C12 ProfileDownEbs place less (absent, inl there);
      };
    }
