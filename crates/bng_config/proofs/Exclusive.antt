-- A text is a configuration or has one fault, and never both.
use Rattle.std.proofs.Common.{◌≡◌, ℕ, ◌≤◌, List, length, Some, String, BTreeMap, Global, refl, sym, ap, subst, ◌∙◌, arith}
use Rattle.std.specs.Prelude.{IsUtf8}
use Rattle.std.proofs.lemmas.Option.{same_Some}
use Rattle.toml.specs.Data.{Data, Members, table}
use Rattle.toml.specs.Parse.{parse_document}
use Rattle.toml.specs.View.{view, table_view}
use Rattle.toml.specs.declared.value.Value.{Value, Table}
use Rattle.toml.proofs.Views.{view-Table}
use Rattle.bng_schema.specs.declared.keys.Key.{Key}
use Rattle.bng_schema.specs.declared.rule.Rule.{Rule}
use Rattle.bng_schema.specs.Checks.{IsUnknown, IsBroken, mentions, checks}
use Rattle.bng_schema.specs.Texts.{unknown_text}
use Rattle.bng_schema.proofs.Firsts.{first_once, first_not_none}
use Rattle.bng_config.specs.declared.config.Config.{Config}
use Rattle.bng_config.specs.declared.fault.Fault.{Fault}
use Rattle.bng_config.specs.declared.fault.Fault.TheVariants.{TooLong, NotToml, Unknown, Broken}
use Rattle.bng_config.specs.Configuration.{Configures, IsDocument, IsRead, HasDocument, HasFault, IsUnknownName, IsFirstFault, longest_text}

pub one_document : (text : List ℕ) (a b : Members) → IsDocument text a → IsDocument text b → a ≡ b
one_document text a b p q = same_Some a b (sym p.parsed ∙ q.parsed)

-- what holds of two documents of a text holds of one
both_hold : (text : List ℕ) (P Q : Data → Type 0) → HasDocument text P → HasDocument text Q → (members : Members) × P (table members) × Q (table members)
both_hold text P Q p q =
    let same = one_document text p.members q.members p.document q.document in
    (q.members, subst (λ ms. P (table ms)) same p.holds, q.holds)

as_document : (text : List ℕ) (c : Config) → IsRead text c → HasDocument text (λ d. Configures d c)
as_document text c h = record { members = h.members; short = h.short; document = h.document; holds = h.configures }

module _ (document : Data) where
  one_name : (m n : List ℕ) → IsUnknownName document m → IsUnknownName document n → m ≡ n
  one_name m n p q =
      p.written ∙ ap unknown_text (first_once IsUnknown (mentions document) p.mention q.mention p.first q.first) ∙ sym q.written

  one_first : (r s : Rule) (k l : Key) → IsFirstFault document r k → IsFirstFault document s l → Broken r k ≡ Broken s l
  one_first r s k l p q =
      let make : Rule × Key → Fault = λ c. Broken c.0 c.1 in
      ap make (first_once (IsBroken document) (checks document) (r, k) (s, l) p.first q.first)

  known_or_not : (n : List ℕ) (r : Rule) (k : Key) → IsUnknownName document n → IsFirstFault document r k → ⊥
  known_or_not n r k p q = first_not_none IsUnknown (mentions document) p.mention p.first q.known

  no_name : (n : List ℕ) (c : Config) → IsUnknownName document n → Configures document c → ⊥
  no_name n c p q = first_not_none IsUnknown (mentions document) p.mention p.first q.known

  no_first : (r : Rule) (k : Key) (c : Config) → IsFirstFault document r k → Configures document c → ⊥
  no_first r k c p q = first_not_none (IsBroken document) (checks document) (r, k) p.first q.sound

pub no_fault : (text : List ℕ) (c : Config) (f : Fault) → IsRead text c → HasFault text f → ⊥
no_fault text c TooLong h bad = let short = h.short in omega arith
no_fault text c NotToml h bad = bad.none h.members h.document
no_fault text c (Unknown n) h bad =
    let both = both_hold text (λ d. IsUnknownName d n) (λ d. Configures d c) bad (as_document text c h) in
    no_name (table both.0) n c both.1 both.2
no_fault text c (Broken r k) h bad =
    let both = both_hold text (λ d. IsFirstFault d r k) (λ d. Configures d c) bad (as_document text c h) in
    no_first (table both.0) r k c both.1 both.2

pub one_fault : (text : List ℕ) (f g : Fault) → HasFault text f → HasFault text g → f ≡ g
one_fault text TooLong TooLong p q = refl
one_fault text TooLong NotToml p q = let short = q.short in absurd (omega arith)
one_fault text TooLong (Unknown n) p q = let short = q.short in absurd (omega arith)
one_fault text TooLong (Broken r k) p q = let short = q.short in absurd (omega arith)
one_fault text NotToml TooLong p q = let short = p.short in absurd (omega arith)
one_fault text NotToml NotToml p q = refl
one_fault text NotToml (Unknown n) p q = absurd (p.none q.members q.document)
one_fault text NotToml (Broken r k) p q = absurd (p.none q.members q.document)
one_fault text (Unknown m) TooLong p q = let short = p.short in absurd (omega arith)
one_fault text (Unknown m) NotToml p q = absurd (q.none p.members p.document)
one_fault text (Unknown m) (Unknown n) p q =
    let both = both_hold text (λ d. IsUnknownName d m) (λ d. IsUnknownName d n) p q in
    ap Unknown (one_name (table both.0) m n both.1 both.2)
one_fault text (Unknown m) (Broken r k) p q =
    let both = both_hold text (λ d. IsUnknownName d m) (λ d. IsFirstFault d r k) p q in
    absurd (known_or_not (table both.0) m r k both.1 both.2)
one_fault text (Broken r k) TooLong p q = let short = p.short in absurd (omega arith)
one_fault text (Broken r k) NotToml p q = absurd (q.none p.members p.document)
one_fault text (Broken r k) (Unknown n) p q =
    let both = both_hold text (λ d. IsFirstFault d r k) (λ d. IsUnknownName d n) p q in
    absurd (known_or_not (table both.0) n r k both.2 both.1)
one_fault text (Broken r k) (Broken s l) p q =
    let both = both_hold text (λ d. IsFirstFault d r k) (λ d. IsFirstFault d s l) p q in
    one_first (table both.0) r s k l both.1 both.2

-- what is read of a table, and its first fault
module _ (text : List ℕ) (t : BTreeMap (String Global) Value) (short : length text ≤ longest_text) (is : IsUtf8 text × (parse_document text ≡ Some (table_view t))) where
  document : IsDocument text (table_view t)
  document = record { utf8 = is.0; parsed = is.1 }

  pub read_of : (c : Config) → Configures (view (Table t)) c → IsRead text c
  read_of c h =
      record { members = table_view t; short = short; document = document; configures = subst (λ d. Configures d c) (view-Table t) h }

  pub name_of : (n : List ℕ) → IsUnknownName (view (Table t)) n → HasFault text (Unknown n)
  name_of n h =
      record { members = table_view t; short = short; document = document; holds = subst (λ d. IsUnknownName d n) (view-Table t) h }

  pub fault_of : (r : Rule) (k : Key) → IsFirstFault (view (Table t)) r k → HasFault text (Broken r k)
  fault_of r k h =
      record { members = table_view t; short = short; document = document; holds = subst (λ d. IsFirstFault d r k) (view-Table t) h }
