-- What the reading of a table says of the text.
use Rattle.std.proofs.Common.{◌≡◌, ℕ, ◌≤◌, List, length, Some, Result, Ok, Err, IfOk, IfErr, IsErrAnd, BTreeMap, String, Global, inl, inr, refl, ap, subst}
use Rattle.std.specs.Prelude.{IsUtf8}
use Rattle.toml.specs.Parse.{parse_document}
use Rattle.toml.specs.View.{view, table_view}
use Rattle.toml.specs.declared.value.Value.{Value, Table}
use Rattle.bng_config.specs.declared.config.Config.{Config}
use Rattle.bng_config.specs.declared.fault.Fault.{Fault}
use Rattle.bng_config.specs.declared.fault.Fault.TheVariants.{TooLong, NotToml, Unknown, Broken}
use Rattle.bng_config.specs.declared.fault.ConfigError.{ConfigError}
use Rattle.bng_config.specs.declared.fault.ConfigError.TheVariants.{Refused, OutOfMemory}
use Rattle.bng_config.specs.Rules.{KeepsRules}
use Rattle.bng_config.specs.Configuration.{Configures, IsToldOf, IsFaultOrMemory, IsRead, HasFault, longest_text}
use Rattle.bng_config.proofs.Exclusive.{no_fault, one_fault, read_of, name_of, fault_of}
use Rattle.bng_config.proofs.OneReading.{one_reading}
use Rattle.bng_config.proofs.Kept.{read_keeps}

module _ (text : List ℕ) (t : BTreeMap (String Global) Value) (short : length text ≤ longest_text) (is : IsUtf8 text × (parse_document text ≡ Some (table_view t))) where
  pub answer_keeps : (r : Result Config ConfigError) → IfOk r (λ c. Configures (view (Table t)) c) → IfOk r (λ c. KeepsRules c)
  answer_keeps (Ok c) found = read_keeps text c (read_of text t short is c found)
  answer_keeps (Err e) found = tt

  pub answer_same : (r : Result Config ConfigError) → IfOk r (λ c. Configures (view (Table t)) c) → (c : Config) → IsRead text c → IfOk r (λ answer. answer ≡ c)
  answer_same (Ok answer) found c read = one_reading text answer c (read_of text t short is answer found) read
  answer_same (Err e) found c read = tt

  -- the fault that is told is the text's
  has_told : (fault : Fault) → IsToldOf (view (Table t)) (Refused fault) → HasFault text fault
  has_told TooLong told = absurd told
  has_told NotToml told = absurd told
  has_told (Unknown n) told = name_of text t short is n told
  has_told (Broken r k) told = fault_of text t short is r k told

  told_memory : (e : ConfigError) → IsToldOf (view (Table t)) e → (c : Config) → IsRead text c → e ≡ OutOfMemory
  told_memory (Refused fault) told c read = absurd (no_fault text c fault read (has_told fault told))
  told_memory OutOfMemory told c read = refl

  pub answer_read : (r : Result Config ConfigError) → IfErr r (IsToldOf (view (Table t))) → (c : Config) → IsRead text c → IfErr r (λ e. e ≡ OutOfMemory)
  answer_read (Ok answer) told c read = tt
  answer_read (Err e) told c read = told_memory e told c read

  told_or_memory : (e : ConfigError) → IsToldOf (view (Table t)) e → (fault : Fault) → HasFault text fault → IsFaultOrMemory fault e
  told_or_memory (Refused told_fault) told fault has = inl (ap Refused (one_fault text told_fault fault (has_told told_fault told) has))
  told_or_memory OutOfMemory told fault has = inr refl

  told_fault : (e : ConfigError) → IsToldOf (view (Table t)) e → (fault : Fault) → e ≡ Refused fault → HasFault text fault
  told_fault (Refused first) told fault e =
      let same : first ≡ fault = cc in
      subst (HasFault text) same (has_told first told)
  told_fault OutOfMemory told fault e = cc

  pub answer_refused : (r : Result Config ConfigError) → IfErr r (IsToldOf (view (Table t))) → IfErr r (λ e. (fault : Fault) → e ≡ Refused fault → HasFault text fault)
  answer_refused (Ok c) told = tt
  answer_refused (Err e) told = told_fault e told

  pub answer_faulty : (r : Result Config ConfigError) → IfOk r (λ c. Configures (view (Table t)) c) → IfErr r (IsToldOf (view (Table t)))
      → (fault : Fault) → HasFault text fault → IsErrAnd r (IsFaultOrMemory fault)
  answer_faulty (Ok c) found told fault has = no_fault text c fault (read_of text t short is c found) has
  answer_faulty (Err e) found told fault has = told_or_memory e told fault has
