-- What a shard keeps beside its sessions, when a session comes and when one goes.
use Rattle.std.proofs.Common.{◌≡◌, ◌≢◌, ℕ, Bool, true, false, not, Option, Some, None, is_some, option_and_then, inl, inr, refl, sym, ap, subst, ◌∙◌}
use Rattle.std.proofs.lemmas.Bool.{cases_eq, false≢true}
use Rattle.bng_base.specs.declared.address.Ip4.{Ip4}
use Rattle.bng_base.specs.declared.address.SessionNo.{SessionNo}
use Rattle.bng_base.specs.declared.circuit.Circuit.{Circuit}
use Rattle.bng_base.specs.declared.circuit.Circuit.TheVariants.{Pppoe, L2tp}
use Rattle.bng_base.specs.declared.circuit.TermId.{TermId}
use Rattle.bng_sessions.specs.Sessions.{Sessions, IsNumberOf, NoneShares, read_at, value_at, with_value, without}
use Rattle.bng_sessions.proofs.SessionLaws.{value_at-with_value, value_at-with_other, value_at-without, value_at-without_other}
use Rattle.bng_steps.specs.declared.session.Lease.{Lease}
use Rattle.bng_steps.specs.declared.session.Service.{Service}
use Rattle.bng_steps.specs.declared.session.Service.TheVariants.{Provisioned, Linked}
use Rattle.bng_steps.specs.declared.session.Session.{Session}
use Rattle.bng_steps.specs.Indexed.{address_of, term_of}
use Rattle.bng_steps.specs.Serving.{AreApart, AreLeased, AreOwn, AreOfShard, KeepsLease}
use Rattle.bng_steps.specs.declared.way.Way.{Way}
use Rattle.bng_steps.specs.declared.way.Way.TheVariants.{Port, Call}
use Rattle.bng_steps.specs.State.{circuit_in, circuit_of, leaves, leaves_in, lives_in}
use Rattle.bng_steps.specs.Tenures.{kept_lease}
use Rattle.bng_steps.specs.Timers.{does_live, does_stay}
use Rattle.bng_steps.proofs.Earliest.{read_there}
use Rattle.bng_steps.proofs.Values.{same_some, none_some}

not_ended : (b : Bool) → not b ≡ true → b ≡ false
not_ended true h = absurd (false≢true h)
not_ended false h = refl

pub live_there : (o : Option Session) → does_live o ≡ true → (x : Session) × (o ≡ Some x) × (lives_in x.service ≡ true)
live_there None h = absurd (false≢true h)
live_there (Some x) h = (x, refl, h)

pub stay_there : (o : Option Session) → does_stay o ≡ true → (x : Session) × (o ≡ Some x) × (leaves x ≡ false)
stay_there None h = absurd (false≢true h)
stay_there (Some x) h = (x, refl, not_ended (leaves x) h)

-- a session that lives stays
stays_in : (v : Service) (x : Session) → x.service ≡ v → lives_in v ≡ true → not (leaves x) ≡ true
stays_in (Provisioned p) x is h = absurd (false≢true h)
stays_in (Linked m) x is h = ap (λ (v : Service). not (leaves_in v)) is ∙ h

pub live_stays : (o : Option Session) → does_live o ≡ true → does_stay o ≡ true
live_stays None h = h
live_stays (Some x) h = stays_in x.service x refl h

abbrev session_in : Circuit → ℕ
session_in (Pppoe port mac session) = session.0
session_in (L2tp peer tunnel session) = session.0

its_session : (way : Way) (n : SessionNo) → session_in (circuit_in way n) ≡ n.0
its_session (Port port mac) n = refl
its_session (Call c) n = refl

term_session : (o : Option Lease) (x : Session) (t : TermId) → x.lease ≡ o → term_of x ≡ Some t → t.session ≡ x.number
term_session None x t is e = absurd (none_some t (sym (ap (λ (l : Option Lease). term_of (record x { lease = l })) is) ∙ e))
term_session (Some lease) x t is e =
    sym (ap (λ (k : TermId). k.session) (same_some (record { session = x.number; serial = lease.serial }) t (sym (ap (λ (l : Option Lease). term_of (record x { lease = l })) is) ∙ e)))

-- What a session that comes has that none has, as each stands under its own number.
module _ (s : Sessions Session) (x : Session) (own : AreOwn s) (vacant : value_at s x.number.0 ≡ None) where
  -- one that is there has another number
  other_there : (n : ℕ) (y : Session) → value_at s n ≡ Some y → y.number.0 ≡ x.number.0 → ⊥
  other_there n y is same = none_some y (sym vacant ∙ ap (λ (k : ℕ). value_at s k) (sym same ∙ own n y is) ∙ is)

  pub circuit_alone : NoneShares (λ (y : Session). Some (circuit_of y)) s x
  circuit_alone n c mine has =
      let y = read_there (λ (z : Session). Some (circuit_of z)) (value_at s n) c has in
      other_there n y.0 y.1 (sym (its_session y.0.way y.0.number) ∙ ap session_in (same_some (circuit_of y.0) c y.2 ∙ sym (same_some (circuit_of x) c mine)) ∙ its_session x.way x.number)

  pub term_alone : NoneShares term_of s x
  term_alone n t mine has =
      let y = read_there term_of (value_at s n) t has in
      other_there n y.0 y.1 (ap (λ (k : SessionNo). k.0) (sym (term_session y.0.lease y.0 t refl y.2) ∙ term_session x.lease x t refl mine))

-- without a lease there is none over a step
pub none_kept : (cause : Option ℕ) → kept_lease cause None ≡ None
none_kept None = refl
none_kept (Some cause) = refl

-- a session that has no address shares none
pub nothing_shared : (s : Sessions Session) (x : Session) → address_of x ≡ None → NoneShares address_of s x
nothing_shared s x none n a mine has = none_some a (sym none ∙ mine)

-- one has the address of another
pub shares_as : (s : Sessions Session) (x y : Session) → address_of y ≡ address_of x → NoneShares address_of s x → NoneShares address_of s y
shares_as s x y same alone n a mine = alone n a (sym same ∙ mine)

module _ (s : Sessions Session) (n : ℕ) where
  there : (x : Session) (m : ℕ) → m ≡ n → value_at (with_value s n x) m ≡ Some x
  there x m same = ap (λ (k : ℕ). value_at (with_value s n x) k) same ∙ value_at-with_value s n x

  gone : (m : ℕ) → m ≡ n → value_at (without s n) m ≡ None
  gone m same = ap (λ (k : ℕ). value_at (without s n) k) same ∙ value_at-without s n

  pub own_put : (x : Session) → AreOwn s → x.number.0 ≡ n → AreOwn (with_value s n x)
  own_put x own is m y e = elim (cases_eq m n) [
    | inl same ↦ ap (λ (z : Session). z.number.0) (same_some y x (sym e ∙ there x m same)) ∙ is ∙ sym same
    | inr differ ↦ own m y (sym (value_at-with_other s n x m differ) ∙ e)
  ]

  pub of_shard_put : (x : Session) → AreOfShard s → IsNumberOf s.shard n → AreOfShard (with_value s n x)
  of_shard_put x own is m some = elim (cases_eq m n) [
    | inl same ↦ subst (IsNumberOf s.shard) (sym same) is
    | inr differ ↦ own m (sym (ap is_some (value_at-with_other s n x m differ)) ∙ some)
  ]

  pub own_take : AreOwn s → AreOwn (without s n)
  own_take own m y e = elim (cases_eq m n) [
    | inl same ↦ absurd (none_some y (sym (gone m same) ∙ e))
    | inr differ ↦ own m y (sym (value_at-without_other s n m differ) ∙ e)
  ]

  pub of_shard_take : AreOfShard s → AreOfShard (without s n)
  of_shard_take own m some = elim (cases_eq m n) [
    | inl same ↦ absurd (false≢true (sym (ap is_some (gone m same)) ∙ some))
    | inr differ ↦ own m (sym (ap is_some (value_at-without_other s n m differ)) ∙ some)
  ]

  -- Leases: each session has a link on which its term is live
  pub leased_put : (x : Session) → AreLeased s → KeepsLease x.service x.lease → AreLeased (with_value s n x)
  leased_put x leased keeps m y e = elim (cases_eq m n) [
    | inl same ↦ subst (λ (z : Session). KeepsLease z.service z.lease) (same_some x y (sym (there x m same) ∙ e)) keeps
    | inr differ ↦ leased m y (sym (value_at-with_other s n x m differ) ∙ e)
  ]

  pub leased_take : AreLeased s → AreLeased (without s n)
  leased_take leased m y e = elim (cases_eq m n) [
    | inl same ↦ absurd (none_some y (sym (gone m same) ∙ e))
    | inr differ ↦ leased m y (sym (value_at-without_other s n m differ) ∙ e)
  ]

  -- Addresses ---------------------------------------------------------------------------------------------------------

  read_here : (x : Session) (m : ℕ) → m ≡ n → read_at address_of (with_value s n x) m ≡ address_of x
  read_here x m same = ap (option_and_then address_of) (there x m same)

  read_other : (x : Session) (m : ℕ) → m ≢ n → read_at address_of (with_value s n x) m ≡ read_at address_of s m
  read_other x m differ = ap (option_and_then address_of) (value_at-with_other s n x m differ)

  read_before : (m : ℕ) (a : Ip4) → read_at address_of (without s n) m ≡ Some a → read_at address_of s m ≡ Some a
  read_before m a e = elim (cases_eq m n) [
    | inl same ↦ absurd (none_some a (sym (ap (option_and_then address_of) (gone m same)) ∙ e))
    | inr differ ↦ sym (ap (option_and_then address_of) (value_at-without_other s n m differ)) ∙ e
  ]

  pub apart_put : (x : Session) → AreApart s → NoneShares address_of s x → AreApart (with_value s n x)
  apart_put x apart alone m k a em ek = elim (cases_eq m n) [
    | inl m_is ↦ elim (cases_eq k n) [
      | inl k_is ↦ m_is ∙ sym k_is
      | inr differ ↦ absurd (alone k a (sym (read_here x m m_is) ∙ em) (sym (read_other x k differ) ∙ ek))
    ]
    | inr m_not ↦ elim (cases_eq k n) [
      | inl k_is ↦ absurd (alone m a (sym (read_here x k k_is) ∙ ek) (sym (read_other x m m_not) ∙ em))
      | inr k_not ↦ apart m k a (sym (read_other x m m_not) ∙ em) (sym (read_other x k k_not) ∙ ek)
    ]
  ]

  pub apart_take : AreApart s → AreApart (without s n)
  apart_take apart m k a em ek = apart m k a (read_before m a em) (read_before k a ek)

  -- a session that goes shares no address with those that stay
  pub alone_take : (x : Session) → AreApart s → value_at s n ≡ Some x → NoneShares address_of (without s n) x
  alone_take x apart here m a mine has =
      let same : m ≡ n = apart m n a (read_before m a has) (ap (option_and_then address_of) here ∙ mine) in
      none_some a (sym (ap (option_and_then address_of) (gone m same)) ∙ has)
