-- Tests of a value, and what they say of the document.
use Rattle.std.proofs.Common.{◌≡◌, ◌≢◌, ℕ, ℤ, pos, ◌≤◌, Bool, true, false, not, List, Option, Some, None, is_some, option_map, Bor, ◌↔◌, IsTrue, IfSome, IfNone, refl, sym, ap, subst, ◌∙◌}
use Rattle.std.proofs.lemmas.Option.{same_Some}
use Rattle.toml.specs.Data.{Data, Items, string, integer, float, boolean, datetime, array, table, as_str, as_integer, as_array}
use Rattle.toml.specs.View.{view}
use Rattle.toml.specs.declared.value.Value.{Value}
use Rattle.bng_schema.specs.declared.keys.Key.{Key}
use Rattle.bng_schema.specs.declared.keys.Form.{Form}
use Rattle.bng_schema.specs.declared.keys.Form.TheVariants.{TableList, PrintableText, LabelText, OctetText, Number, PortNumber, SessionNumber, ServiceList, KindList, AddressList}
use Rattle.bng_schema.specs.Names.{IsSessionOf}
use Rattle.bng_schema.specs.Keys.{row, path_of, value_at, item_count}
use Rattle.bng_schema.specs.Forms.{StandsAt, IsText, IsInteger, IsArray, IsWithin, IsOfShards, IsInRange, HasNumberOutside, HasWrongText, HasBadText}
use Rattle.bng_schema.specs.Rules.{IsMissing, IsCount, HasWrongCount, HasWrongKinds}
use Rattle.bng_schema.proofs.Finding.{seen, unseen, array_of}

-- what is not so
pub not_so : (b : Bool) (A : Type 0) → (IsTrue b ↔ A) → (IsTrue (not b) ↔ (A → ⊥))
not_so true A h = (λ t a. cc, λ no. absurd (no (h.0 refl)))
not_so false A h = (λ t a. let b = h.1 a in cc, λ no. refl)

-- a reading that gives something where there is something
module _ {A : Type 0} (P : A → Type 0) where
  pub read_some : (o : Option A) (b : Bool) → b ≡ is_some o → IfSome o P → IfNone o ((x : A) → ¬ P x) → (IsTrue b ↔ ((x : A) × P x))
  read_some (Some x) b e found none = (λ t. (x, found), λ h. e)
  read_some None b e found none = (λ t. cc, λ h. absurd (none h.0 h.1))

  pub read_none : (o : Option A) (b : Bool) → is_some o ≡ not b → IfSome o P → IfNone o ((x : A) → ¬ P x) → (IsTrue b ↔ ((x : A) → ¬ P x))
  read_none (Some x) true e found none = let no : ⊥ = cc in absurd no
  read_none (Some x) false e found none = (λ t y p. cc, λ h. absurd (h x found))
  read_none None true e found none = (λ t. none, λ h. refl)
  read_none None false e found none = let no : ⊥ = cc in absurd no

-- the types of values
pub text_type : (d : Data) (b : Bool) → b ≡ is_some (as_str d) → (IsTrue b ↔ IsText d)
text_type (string s) b e = (λ t. record { text = s; is = refl }, λ h. e)
text_type (integer z) b e = (λ t. cc, λ h. let is = h.is in cc)
text_type (float x) b e = (λ t. cc, λ h. let is = h.is in cc)
text_type (boolean c) b e = (λ t. cc, λ h. let is = h.is in cc)
text_type (datetime m) b e = (λ t. cc, λ h. let is = h.is in cc)
text_type (array ds) b e = (λ t. cc, λ h. let is = h.is in cc)
text_type (table ms) b e = (λ t. cc, λ h. let is = h.is in cc)

pub integer_type : (d : Data) (b : Bool) → b ≡ is_some (as_integer d) → (IsTrue b ↔ IsInteger d)
integer_type (string s) b e = (λ t. cc, λ h. let is = h.is in cc)
integer_type (integer z) b e = (λ t. record { number = z; is = refl }, λ h. e)
integer_type (float x) b e = (λ t. cc, λ h. let is = h.is in cc)
integer_type (boolean c) b e = (λ t. cc, λ h. let is = h.is in cc)
integer_type (datetime m) b e = (λ t. cc, λ h. let is = h.is in cc)
integer_type (array ds) b e = (λ t. cc, λ h. let is = h.is in cc)
integer_type (table ms) b e = (λ t. cc, λ h. let is = h.is in cc)

pub array_type : (d : Data) (b : Bool) → b ≡ is_some (as_array d) → (IsTrue b ↔ IsArray d)
array_type (string s) b e = (λ t. cc, λ h. let is = h.is in cc)
array_type (integer z) b e = (λ t. cc, λ h. let is = h.is in cc)
array_type (float x) b e = (λ t. cc, λ h. let is = h.is in cc)
array_type (boolean c) b e = (λ t. cc, λ h. let is = h.is in cc)
array_type (datetime m) b e = (λ t. cc, λ h. let is = h.is in cc)
array_type (array ds) b e = (λ t. record { items = ds; is = refl }, λ h. e)
array_type (table ms) b e = (λ t. cc, λ h. let is = h.is in cc)

pub string_of : (d : Data) (s : List ℕ) → as_str d ≡ Some s → d ≡ string s
string_of (string t) s e = cc
string_of (integer z) s e = cc
string_of (float x) s e = cc
string_of (boolean c) s e = cc
string_of (datetime m) s e = cc
string_of (array ds) s e = cc
string_of (table ms) s e = cc

pub integer_of : (d : Data) (z : ℤ) → as_integer d ≡ Some z → d ≡ integer z
integer_of (string s) z e = cc
integer_of (integer n) z e = cc
integer_of (float x) z e = cc
integer_of (boolean c) z e = cc
integer_of (datetime m) z e = cc
integer_of (array ds) z e = cc
integer_of (table ms) z e = cc

-- numbers
pub is_within : (least most : ℕ) (number : ℤ) (o : Option ℕ) (b : Bool) → b ≡ is_some o → IfSome o (λ n. (number ≡ pos n) × (least ≤ n) × (n ≤ most))
    → IfNone o ((n : ℕ) → least ≤ n → n ≤ most → number ≢ pos n) → (IsTrue b ↔ IsWithin least most number)
is_within least most number (Some n) b e found none = (λ t. record { natural = n; is = found.0; low = found.1; high = found.2 }, λ h. e)
is_within least most number None b e found none = (λ t. cc, λ h. absurd (none h.natural h.low h.high h.is))

pub is_of_shards : (shards : ℕ) (number : ℤ) (o : Option ℕ) (b : Bool) → b ≡ is_some o → IfSome o (λ n. (number ≡ pos n) × IsSessionOf shards n)
    → IfNone o ((n : ℕ) → IsSessionOf shards n → number ≢ pos n) → (IsTrue b ↔ IsOfShards shards number)
is_of_shards shards number (Some n) b e found none = (λ t. record { natural = n; is = found.0; session = found.1 }, λ h. e)
is_of_shards shards number None b e found none = (λ t. cc, λ h. absurd (none h.natural h.session h.is))

pub number_outside : (document : Data) (form : Form) (d : Data) (z : ℤ) (b : Bool) → as_integer d ≡ Some z → (IsTrue b ↔ IsInRange document form z)
    → (IsTrue (not b) ↔ HasNumberOutside document form d)
number_outside document form d z b is h =
    let whole = integer_of d z is in
    let no = not_so b (IsInRange document form z) h in (
      λ t. record { number = z; is = whole; outside = no.0 t },
      λ w. let both = sym whole ∙ w.is in
          let same : z ≡ w.number = cc in
          no.1 (λ within. w.outside (subst (IsInRange document form) same within)),
    )

pub no_number : (document : Data) (form : Form) (d : Data) → as_integer d ≡ None → (IsTrue false ↔ HasNumberOutside document form d)
no_number document form d none = (λ t. cc, λ w. let both = sym none ∙ ap as_integer w.is in cc)

-- texts
module _ (P : List ℕ → Type 0) (d : Data) where
  pub wrong_text : (s : List ℕ) (b : Bool) → as_str d ≡ Some s → (IsTrue b ↔ P s) → (IsTrue (not b) ↔ HasWrongText P d)
  wrong_text s b is h =
      let whole = string_of d s is in
      let no = not_so b (P s) h in (
        λ t. record { text = s; is = whole; wrong = no.0 t },
        λ w. let both = sym whole ∙ w.is in
            let same : s ≡ w.text = cc in
            no.1 (λ right. w.wrong (subst P same right)),
      )

  pub no_text : as_str d ≡ None → (IsTrue false ↔ HasWrongText P d)
  no_text none = (λ t. cc, λ w. let both = sym none ∙ ap as_str w.is in cc)

-- counts
pub wrong_count : (form : Form) (d : Data) (items : Items) (n : ℕ) (b : Bool) → as_array d ≡ Some items → item_count items ≡ n → (IsTrue b ↔ IsCount form n)
    → (IsTrue (not b) ↔ HasWrongCount form d)
wrong_count form d items n b is count h =
    let whole = array_of d items is in
    let no = not_so b (IsCount form n) h in (
      λ t. record { items = items; is = whole; wrong = λ right. no.0 t (subst (IsCount form) count right) },
      λ w. let both = sym whole ∙ w.is in
          let same : items ≡ w.items = cc in
          no.1 (λ right. w.wrong (subst (IsCount form) (sym count ∙ ap item_count same) right)),
    )

pub no_count_wrong : (form : Form) (d : Data) → as_array d ≡ None → (IsTrue false ↔ HasWrongCount form d)
no_count_wrong form d none = (λ t. cc, λ w. let both = sym none ∙ ap as_array w.is in cc)

-- what stands at a key
module _ (document : Data) (key : Key) (P : Data → Type 0) (r : Option (Bor Value)) (found : option_map (λ v. view v.now) r ≡ value_at (path_of key) document) where
  pub stands : (v : Bor Value) (b : Bool) → r ≡ Some v → (IsTrue b ↔ P (view v.now)) → (IsTrue b ↔ StandsAt document key P)
  stands v b is h =
      let there = seen r v (value_at (path_of key) document) is found in (
        λ t. record { value = view v.now; found = there; is = h.0 t },
        λ s. h.1 (subst P (same_Some s.value (view v.now) (sym s.found ∙ there)) s.is),
      )

  pub stands_none : r ≡ None → (IsTrue false ↔ StandsAt document key P)
  stands_none is = (λ t. cc, λ s. let both = sym (unseen r (value_at (path_of key) document) is found) ∙ s.found in cc)

-- a key that must be there, and is not
module _ (document : Data) (key : Key) (r : Option (Bor Value)) (found : option_map (λ v. view v.now) r ≡ value_at (path_of key) document) where
  pub missing : (b : Bool) → r ≡ None → b ≡ (row key).needed → (IsTrue b ↔ IsMissing document key)
  missing b is same = (λ t. (sym same ∙ t, unseen r (value_at (path_of key) document) is found), λ h. same ∙ h.0)

  pub not_missing : (v : Bor Value) → r ≡ Some v → (IsTrue false ↔ IsMissing document key)
  not_missing v is = (λ t. cc, λ h. let both = sym h.1 ∙ seen r v (value_at (path_of key) document) is found in cc)

-- forms of which a rule says nothing
pub any_number : (document : Data) (form : Form) (z : ℤ) → ((least most : ℕ) → form ≢ Number least most) → form ≢ PortNumber → form ≢ SessionNumber → IsInRange document form z
any_number document (Number least most) z a b c = absurd (a least most refl)
any_number document PortNumber z a b c = absurd (b refl)
any_number document SessionNumber z a b c = absurd (c refl)
any_number document form z a b c = tt

pub any_text : (form : Form) (d : Data) → form ≢ PrintableText → form ≢ LabelText → ((most : ℕ) → form ≢ OctetText most) → form ≢ ServiceList → HasBadText form d → ⊥
any_text PrintableText d a b c e h = a refl
any_text LabelText d a b c e h = b refl
any_text (OctetText most) d a b c e h = c most refl
any_text ServiceList d a b c e h = e refl
any_text form d a b c e h = h

pub any_count : (form : Form) (n : ℕ) → ((least most : ℕ) → form ≢ TableList least most) → form ≢ ServiceList → form ≢ KindList → ((least most : ℕ) → form ≢ AddressList least most) → IsCount form n
any_count (TableList least most) n a b c e = absurd (a least most refl)
any_count ServiceList n a b c e = absurd (b refl)
any_count KindList n a b c e = absurd (c refl)
any_count (AddressList least most) n a b c e = absurd (e least most refl)
any_count form n a b c e = tt

pub any_kinds : (form : Form) (d : Data) → form ≢ KindList → HasWrongKinds form d → ⊥
any_kinds KindList d another h = another refl
any_kinds form d another h = h
