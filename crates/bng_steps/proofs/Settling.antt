-- The sessions that have ended leave one after another.
use Rattle.std.proofs.Common.{◌≡◌, ◌⊎◌, ℕ, Bool, true, false, not, cond, List, [], ◌∷◌, ◌++◌, Option, Some, None, is_some, option_and_then, Contains, inl, inr, refl, sym, ap, subst, ◌∙◌, arith}
use Rattle.std.proofs.lemmas.Bool.{cases_eq, false≢true}
use Rattle.std.proofs.lemmas.List.Elements.{Contains-push, Contains-push_cases, Contains-append_left}
use Rattle.bng_base.specs.declared.address.Ip4.{Ip4}
use Rattle.bng_base.specs.declared.address.SessionNo.{SessionNo}
use Rattle.bng_sessions.specs.Sessions.{Sessions, read_at, value_at, without}
use Rattle.bng_sessions.specs.Listed.{values}
use Rattle.bng_sessions.proofs.SessionLaws.{value_at-without, value_at-without_other}
use Rattle.bng_steps.specs.declared.session.Session.{Session}
use Rattle.bng_steps.specs.Indexed.{address_of}
use Rattle.bng_steps.specs.Listing.{does_pass, passing_in}
use Rattle.bng_steps.specs.Serving.{AreApart, AreLeased, AreOwn, AreOfShard, AreLeaving}
use Rattle.bng_steps.specs.State.{leaves}
use Rattle.bng_steps.proofs.Earliest.{read_there}
use Rattle.bng_steps.proofs.Listing.{listed_passes, listed_there}
use Rattle.bng_steps.proofs.Values.{kept, none_kept, none_some, numbered, same_sessions, sum_nothing, value_at-kept}

abbrev does_leave : Option Session → Bool
does_leave o = does_pass leaves o

-- Of the sessions s0 those are left that have not ended, and some that have, whose numbers are in the list.
pub record Settles (s0 s : Sessions Session) (numbers : List SessionNo) : Type 0 where
  pub shard : s.shard ≡ s0.shard
  pub left : (n : ℕ) → (value_at s n ≡ value_at s0 n) ⊎ ((value_at s n ≡ None) × (does_pass leaves (value_at s0 n) ≡ true))
  pub listed : (n : SessionNo) → Contains numbers n → does_pass leaves (value_at s0 n.0) ≡ true
  pub all : (n : SessionNo) → does_pass leaves (value_at s n.0) ≡ true → Contains numbers n

some_there : {A : Type 0} (o : Option A) → is_some o ≡ true → (a : A) × (o ≡ Some a)
some_there None h = absurd (false≢true h)
some_there (Some a) h = (a, refl)

same_session_number : (a b : SessionNo) → a.0 ≡ b.0 → a ≡ b
same_session_number a b e = λ i. record { 0 = e i }

pub settles_none : (s : Sessions Session) (numbers : List SessionNo) → AreLeaving s numbers → Settles s s numbers
settles_none s numbers h = record {
  shard = refl;
  left = λ n. inl refl;
  listed = listed_passes leaves s numbers h;
  all = λ n d.
      let k = listed_there n.0 numbers (h n.0 ∙ ap {B = ℕ} (λ (b : Bool). cond b 1 0) d) in
      subst (Contains numbers) (same_session_number k.0 n k.2) k.1;
}

module _ (s0 s : Sessions Session) (numbers : List SessionNo) (q : SessionNo) (h : Settles s0 s (numbers ++ q ∷ [])) where
  without_left : (n : ℕ) → (value_at (without s q.0) n ≡ value_at s0 n) ⊎ ((value_at (without s q.0) n ≡ None) × (does_leave (value_at s0 n) ≡ true))
  without_left n = elim (cases_eq n q.0) [
    | inl same ↦
        let gone : value_at (without s q.0) n ≡ None = ap (λ (k : ℕ). value_at (without s q.0) k) same ∙ value_at-without s q.0 in
        let ends : does_leave (value_at s0 n) ≡ true = ap (λ (k : ℕ). does_leave (value_at s0 k)) same ∙ h.listed q (Contains-push numbers q) in
        inr (gone, ends)
    | inr differ ↦
        let other = value_at-without_other s q.0 n differ in
        elim (h.left n) [
          | inl same ↦ inl (other ∙ same)
          | inr none ↦ inr (other ∙ none.0, none.1)
        ]
  ]

  without_all : (n : SessionNo) → does_leave (value_at (without s q.0) n.0) ≡ true → Contains numbers n
  without_all n ends = elim (cases_eq n.0 q.0) [
    | inl same ↦ absurd (false≢true (sym (ap (λ (k : ℕ). does_leave (value_at (without s q.0) k)) same ∙ ap does_leave (value_at-without s q.0)) ∙ ends))
    | inr differ ↦ elim (Contains-push_cases numbers q n (h.all n (sym (ap does_leave (value_at-without_other s q.0 n.0 differ)) ∙ ends))) [
      | inl old ↦ old
      | inr e ↦ absurd (differ (sym (ap (λ (k : SessionNo). k.0) e)))
    ]
  ]

  -- one more has left
  pub settles_more : Settles s0 (without s q.0) numbers
  settles_more = record {
    shard = h.shard;
    left = without_left;
    listed = λ n c. h.listed n (Contains-append_left numbers (q ∷ []) n c);
    all = without_all;
  }

module _ (s0 s : Sessions Session) (h : Settles s0 s []) where
  none_listed : (n : SessionNo) → Contains {X = SessionNo} [] n → ⊥
  none_listed n (k, l, is) = omega arith

  none_leaves : (n : ℕ) → does_leave (value_at s n) ≡ true → ⊥
  none_leaves n ends = none_listed (record { 0 = n }) (h.all (record { 0 = n }) ends)

  stays : (n : ℕ) (x : Session) → value_at s n ≡ Some x → leaves x ≡ false
  stays n x here =
      elim (leaves x) as (λ b. leaves x ≡ b → b ≡ false) [
        | true ↦ λ e. absurd (none_leaves n (ap does_leave here ∙ e))
        | false ↦ λ e. refl
      ] refl

  each : (n : ℕ) → value_at s n ≡ value_at (kept (λ (x : Session). not (leaves x)) s0) n
  each n = elim (h.left n) [
    | inl same ↦
        elim (value_at s n) as (λ o. value_at s n ≡ o → value_at s n ≡ value_at (kept (λ (x : Session). not (leaves x)) s0) n) [
          | None ↦ λ e. e ∙ sym (none_kept (λ (x : Session). not (leaves x)) s0 n (λ x is. absurd (none_some x (sym e ∙ same ∙ is))))
          | Some x ↦ λ e. e ∙ sym (value_at-kept (λ (x : Session). not (leaves x)) s0 n x (sym same ∙ e) (ap not (stays n x e)))
        ] refl
    | inr none ↦ none.0 ∙ sym (none_kept (λ (x : Session). not (leaves x)) s0 n (λ x is. ap not (sym (ap does_leave is) ∙ none.1)))
  ]

  -- those are left that have not ended
  pub settles_all : s ≡ kept (λ (x : Session). not (leaves x)) s0
  settles_all = same_sessions s (kept (λ (x : Session). not (leaves x)) s0) h.shard each

  -- what is left was there before
  left_was : (n : ℕ) (x : Session) → value_at s n ≡ Some x → value_at s0 n ≡ Some x
  left_was n x is = elim (h.left n) [
    | inl same ↦ sym same ∙ is
    | inr none ↦ absurd (none_some x (sym none.0 ∙ is))
  ]

  pub own_left : AreOwn s0 → AreOwn s
  own_left own n x is = own n x (left_was n x is)

  pub of_shard_left : AreOfShard s0 → AreOfShard s
  of_shard_left own n some =
      let x = some_there (value_at s n) some in
      let is = own n (ap is_some (left_was n x.0 x.1)) in
      let shard = h.shard in
      (omega (arith, is.0, shard), omega (arith, is.1, shard))

  pub leased_left : AreLeased s0 → AreLeased s
  leased_left leased n x is = leased n x (left_was n x is)

  pub apart_left : AreApart s0 → AreApart s
  apart_left apart m n a em en = apart m n a (was m a em) (was n a en)
    where
      was : (k : ℕ) (b : Ip4) → read_at address_of s k ≡ Some b → read_at address_of s0 k ≡ Some b
      was k b e =
          let x = read_there address_of (value_at s k) b e in
          ap (option_and_then address_of) (left_was k x.0 x.1) ∙ x.2

  pub leaving_none : AreLeaving s []
  leaving_none n =
      elim (does_leave (value_at s n)) as (λ b. does_leave (value_at s n) ≡ b → ◌≡◌ {A = ℕ} 0 (cond b 1 0)) [
        | true ↦ λ e. absurd (none_leaves n e)
        | false ↦ λ e. refl
      ] refl

  pub ended_none : passing_in leaves s ≡ 0
  ended_none = sum_nothing (λ (x : Session). cond (leaves x) 1 0) (values s) (λ x c. let n = numbered s x c in ap {B = ℕ} (λ (b : Bool). cond b 1 0) (stays n.0 x n.1))
