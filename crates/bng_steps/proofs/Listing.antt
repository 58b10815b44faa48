-- The list of the sessions that pass a test, when one comes and when one goes, and the lowest one on it.
use Rattle.std.proofs.Common.{◌≡◌, ◌≢◌, ◌⊎◌, ℕ, suc, ◌+◌, ◌≤◌, ◌==◌, Bool, true, false, not, cond, ◌&&◌, List, [], ◌∷◌, ◌++◌, Option, Some, None, is_some, Contains, filter, find, sum_by, count_by, length, length-append, inl, inr, refl, sym, ap, ◌∙◌, arith}
use Rattle.std.proofs.lemmas.Bool.{cases_eq, eqb-true, eq-eqb, ne_eqb, false≢true}
use Rattle.std.proofs.lemmas.List.Elements.{All-contains, filter_passes}
use Rattle.std.proofs.lemmas.List.Filters.{length-filter_both, sum_by-filter_both}
use Rattle.std.proofs.lemmas.List.Sums.{length-filter, sum_by-cons, sum_by_push}
use Rattle.bng_base.specs.declared.address.SessionNo.{SessionNo}
use Rattle.bng_ppp.specs.LinkState.{is_open}
use Rattle.bng_sessions.specs.Sessions.{Sessions, value_at, with_value, without}
use Rattle.bng_sessions.specs.Listed.{values}
use Rattle.bng_sessions.proofs.SessionLaws.{value_at-with_value, value_at-with_other, value_at-without, value_at-without_other, sum-with_value, sum-without}
use Rattle.bng_steps.specs.declared.session.Service.{Service}
use Rattle.bng_steps.specs.declared.session.Service.TheVariants.{Provisioned, Linked}
use Rattle.bng_steps.specs.declared.session.Session.{Session}
use Rattle.bng_steps.specs.Listing.{AreListed, IsLowestPassing, does_pass, passing_in, with_listed, without_listed}
use Rattle.bng_steps.specs.Questions.{open_in}
use Rattle.bng_steps.specs.Serving.{AreOfShard, asks, is_young, is_young_in}
use Rattle.bng_steps.specs.State.{is_port, leaves, leaves_in}
use Rattle.bng_steps.proofs.Values.{find_first, find_none, kept, sum_holds, sum_most, sum_nothing, values-kept}

not_true : (b : Bool) → not b ≡ true → b ≡ false
not_true true h = absurd (false≢true h)
not_true false h = refl

-- how often a number is listed
abbrev times : ℕ → List SessionNo → ℕ
times n numbers = count_by (λ (m : SessionNo). m.0 == n) numbers

times_none : (n : ℕ) (numbers : List SessionNo) → times n (filter (λ (m : SessionNo). not (m.0 == n)) numbers) ≡ 0
times_none n numbers =
    let stay = filter_passes (λ (m : SessionNo). not (m.0 == n)) numbers in
    sum_nothing (λ (m : SessionNo). cond (m.0 == n) 1 0) (filter (λ (m : SessionNo). not (m.0 == n)) numbers) (λ m c.
    ap {B = ℕ} (λ (b : Bool). cond b 1 0) (not_true (m.0 == n) (All-contains (λ (k : SessionNo). not (k.0 == n) ≡ true) (filter (λ (k : SessionNo). not (k.0 == n)) numbers) m stay c)))

times_others : (k n : ℕ) (numbers : List SessionNo) → k ≢ n → times k (filter (λ (m : SessionNo). not (m.0 == n)) numbers) ≡ times k numbers
times_others k n [] differ = refl
times_others k n (x ∷ xs) differ =
    let rest = times_others k n xs differ in
    let all = sum_by-cons (λ (m : SessionNo). cond (m.0 == k) 1 0) x xs in
    let kept_all = sum_by-cons (λ (m : SessionNo). cond (m.0 == k) 1 0) x (filter (λ (m : SessionNo). not (m.0 == n)) xs) in
    elim (x.0 == n) as (λ b. (x.0 == n) ≡ b → times k (cond (not b) (x ∷ filter (λ (m : SessionNo). not (m.0 == n)) xs) (filter (λ (m : SessionNo). not (m.0 == n)) xs)) ≡ times k (x ∷ xs)) [
      | true ↦ λ e.
          let other = ap {B = ℕ} (λ (b : Bool). cond b 1 0) (ne_eqb x.0 k (λ f. differ (sym f ∙ eqb-true x.0 n e))) in
          omega (arith, rest, all, other)
      | false ↦ λ e. omega (arith, rest, all, kept_all)
    ] refl

-- those that are left, and those that go
fewer : (n : ℕ) (numbers : List SessionNo) → length (filter (λ (m : SessionNo). not (m.0 == n)) numbers) + times n numbers ≡ length numbers
fewer n numbers =
    let both = length-filter_both (λ (m : SessionNo). m.0 == n) (λ (m : SessionNo). not (m.0 == n)) (λ _. refl) numbers in
    let gone = length-filter (λ (m : SessionNo). m.0 == n) numbers in
    omega (arith, both, gone)

-- a number that is listed stands in the list
pub listed_there : (n : ℕ) (numbers : List SessionNo) → times n numbers ≡ 1 → (k : SessionNo) × (Contains numbers k) × (k.0 ≡ n)
listed_there n [] one = absurd (omega (arith, one))
listed_there n (x ∷ xs) one =
    let all = sum_by-cons (λ (m : SessionNo). cond (m.0 == n) 1 0) x xs in
    elim (x.0 == n) as (λ b. (x.0 == n) ≡ b → (k : SessionNo) × (Contains (x ∷ xs) k) × (k.0 ≡ n)) [
      | true ↦ λ e. (x, (0, omega arith, refl), eqb-true x.0 n e)
      | false ↦ λ e.
          let none = ap {B = ℕ} (λ (b : Bool). cond b 1 0) e in
          let rest = listed_there n xs (omega (arith, all, none, one)) in
          (rest.0, (suc rest.1.0, omega (arith, rest.1.1), rest.1.2), rest.2)
    ] refl

-- and is that of a session that passes
pub listed_passes : (test : Session → Bool) (s : Sessions Session) (numbers : List SessionNo) → AreListed test s numbers → (n : SessionNo) → Contains numbers n → does_pass test (value_at s n.0) ≡ true
listed_passes test s numbers h n c =
    let one = sum_holds (λ (m : SessionNo). cond (m.0 == n.0) 1 0) numbers n c in
    let here = ap {B = ℕ} (λ (b : Bool). cond b 1 0) (eq-eqb n.0 n.0 refl) in
    let is = h n.0 in
    elim (does_pass test (value_at s n.0)) as (λ b. does_pass test (value_at s n.0) ≡ b → b ≡ true) [
      | true ↦ λ e. refl
      | false ↦ λ e. let none = ap {B = ℕ} (λ (b : Bool). cond b 1 0) e in absurd (omega (arith, one, here, is, none))
    ] refl

pushed : (b : Bool) (k : ℕ) (m : SessionNo) (numbers : List SessionNo) → times k (cond b (numbers ++ m ∷ []) numbers) ≡ times k numbers + cond b (cond (m.0 == k) 1 0) 0
pushed true k m numbers = sum_by_push (λ (n : SessionNo). cond (n.0 == k) 1 0) numbers m
pushed false k m numbers = omega arith

pushed_length : (b : Bool) (m : SessionNo) (numbers : List SessionNo) → length (cond b (numbers ++ m ∷ []) numbers) ≡ length numbers + cond b 1 0
pushed_length true m numbers = length-append numbers (m ∷ [])
pushed_length false m numbers = omega arith

taken_other : (b : Bool) (k n : ℕ) (numbers : List SessionNo) → k ≢ n → times k (cond b (filter (λ (m : SessionNo). not (m.0 == n)) numbers) numbers) ≡ times k numbers
taken_other true k n numbers differ = times_others k n numbers differ
taken_other false k n numbers differ = refl

taken_this : (b : Bool) (n : ℕ) (numbers : List SessionNo) → times n numbers ≡ cond b 1 0 → times n (cond b (filter (λ (m : SessionNo). not (m.0 == n)) numbers) numbers) ≡ 0
taken_this true n numbers one = times_none n numbers
taken_this false n numbers none = none

taken_length : (b : Bool) (n : ℕ) (numbers : List SessionNo) → times n numbers ≡ cond b 1 0 → length (cond b (filter (λ (m : SessionNo). not (m.0 == n)) numbers) numbers) + cond b 1 0 ≡ length numbers
taken_length true n numbers one = let all = fewer n numbers in omega (arith, all, one)
taken_length false n numbers none = omega arith

-- the list stays as it is where one goes that fails
pub taken_none : (test : Session → Bool) (x : Session) (numbers : List SessionNo) → test x ≡ false → without_listed test x numbers ≡ numbers
taken_none test x numbers fails = ap {B = List SessionNo} (λ (b : Bool). cond b (filter (λ (m : SessionNo). not (m.0 == x.number.0)) numbers) numbers) fails

bit_few : (b : Bool) → cond b 1 0 ≤ 1
bit_few true = omega arith
bit_few false = omega arith

no_bit : (b : Bool) → ◌≡◌ {A = ℕ} (cond b 0 0) 0
no_bit true = refl
no_bit false = refl

module _ (test : Session → Bool) where
  pub passing_most : (s : Sessions Session) → AreOfShard s → passing_in test s ≤ 1022
  passing_most s own = sum_most (λ (y : Session). cond (test y) 1 0) s (λ y. bit_few (test y)) own

module _ (test : Session → Bool) (s : Sessions Session) (x : Session) (numbers : List SessionNo) (h : AreListed test s numbers) where
  -- a session comes
  pub listed_put : value_at s x.number.0 ≡ None → AreListed test (with_value s x.number.0 x) (with_listed test x numbers)
  listed_put vacant k = elim (cases_eq k x.number.0) [
    | inl same ↦
        let before : times k numbers ≡ 0 = h k ∙ ap {B = ℕ} (λ (b : Bool). cond b 1 0) (ap (λ (n : ℕ). does_pass test (value_at s n)) same ∙ ap (does_pass test) vacant) in
        let after : cond (does_pass test (value_at (with_value s x.number.0 x) k)) 1 0 ≡ cond (test x) 1 0 =
        ap {B = ℕ} (λ (b : Bool). cond b 1 0) (ap (λ (n : ℕ). does_pass test (value_at (with_value s x.number.0 x) n)) same ∙ ap (does_pass test) (value_at-with_value s x.number.0 x)) in
        let all = pushed (test x) k x.number numbers in
        let this : cond (test x) (cond (x.number.0 == k) 1 0) 0 ≡ cond (test x) 1 0 =
        ap {B = ℕ} (λ (b : Bool). cond (test x) (cond b 1 0) 0) (eq-eqb x.number.0 k (sym same)) in
        omega (arith, before, after, all, this)
    | inr differ ↦
        let other = ap {B = ℕ} (λ (b : Bool). cond b 1 0) (ap (does_pass test) (value_at-with_other s x.number.0 x k differ)) in
        let all = pushed (test x) k x.number numbers in
        let none : cond (test x) (cond (x.number.0 == k) 1 0) 0 ≡ cond (test x) 0 0 =
        ap {B = ℕ} (λ (b : Bool). cond (test x) (cond b 1 0) 0) (ne_eqb x.number.0 k (λ e. differ (sym e))) in
        let zero = no_bit (test x) in
        let before = h k in
        omega (arith, other, all, none, zero, before)
  ]

  pub counted_put : value_at s x.number.0 ≡ None → passing_in test s ≡ length numbers → passing_in test (with_value s x.number.0 x) ≡ length (with_listed test x numbers)
  counted_put vacant count =
      let sums = sum-with_value s x.number.0 (λ (y : Session). cond (test y) 1 0) x vacant in
      let long = pushed_length (test x) x.number numbers in
      omega (arith, sums, long, count)

  here_times : value_at s x.number.0 ≡ Some x → times x.number.0 numbers ≡ cond (test x) 1 0
  here_times here = h x.number.0 ∙ ap {B = ℕ} (λ (b : Bool). cond b 1 0) (ap (does_pass test) here)

  -- a session goes
  pub listed_take : value_at s x.number.0 ≡ Some x → AreListed test (without s x.number.0) (without_listed test x numbers)
  listed_take here k = elim (cases_eq k x.number.0) [
    | inl same ↦
        let after : cond (does_pass test (value_at (without s x.number.0) k)) 1 0 ≡ 0 =
        ap {B = ℕ} (λ (b : Bool). cond b 1 0) (ap (λ (n : ℕ). does_pass test (value_at (without s x.number.0) n)) same ∙ ap (does_pass test) (value_at-without s x.number.0)) in
        ap (λ (n : ℕ). times n (without_listed test x numbers)) same ∙ taken_this (test x) x.number.0 numbers (here_times here) ∙ sym after
    | inr differ ↦
        let other = ap {B = ℕ} (λ (b : Bool). cond b 1 0) (ap (does_pass test) (value_at-without_other s x.number.0 k differ)) in
        taken_other (test x) k x.number.0 numbers differ ∙ h k ∙ sym other
  ]

  pub counted_take : value_at s x.number.0 ≡ Some x → passing_in test s ≡ length numbers → passing_in test (without s x.number.0) ≡ length (without_listed test x numbers)
  counted_take here count =
      let sums = sum-without s x.number.0 (λ (y : Session). cond (test y) 1 0) x here in
      let long = taken_length (test x) x.number.0 numbers (here_times here) in
      omega (arith, sums, long, count)

-- The settlement -------------------------------------------------------------------------------------------------------

-- a session that has ended asks nothing
ended_asks : (v : Service) → leaves_in v ≡ true → is_some (open_in v) ≡ false
ended_asks (Provisioned p) h = refl
ended_asks (Linked m) h = ap (λ (b : Bool). is_some (cond (not b && is_open m.link.auth) m.question None)) h

pub leaves_asks : (x : Session) → leaves x ≡ true → asks x ≡ false
leaves_asks x h = ended_asks x.service h

-- and is not young
ended_young : (v : Service) → leaves_in v ≡ true → is_young_in v ≡ false
ended_young (Provisioned p) h = refl
ended_young (Linked m) h = ap (λ (b : Bool). not b && not m.link.lcp.kept.was_opened) h

not_young : (b : Bool) → (b && false) ≡ false
not_young true = refl
not_young false = refl

pub leaves_young : (x : Session) → leaves x ≡ true → is_young x ≡ false
leaves_young x h = ap (λ (b : Bool). is_port x.way && b) (ended_young x.service h) ∙ not_young (is_port x.way)

module _ (test : Session → Bool) (ended : (x : Session) → leaves x ≡ true → test x ≡ false) where
  gone_fails : (o : Option Session) → does_pass leaves o ≡ true → does_pass test o ≡ false
  gone_fails None h = refl
  gone_fails (Some x) h = ended x h

  -- some sessions that have ended are gone
  pub listed_left : (s0 s : Sessions Session) (numbers : List SessionNo) → ((n : ℕ) → (value_at s n ≡ value_at s0 n) ⊎ ((value_at s n ≡ None) × (does_pass leaves (value_at s0 n) ≡ true))) → AreListed test s0 numbers → AreListed test s numbers
  listed_left s0 s numbers left h k = elim (left k) [
    | inl same ↦ h k ∙ ap {B = ℕ} (λ (b : Bool). cond b 1 0) (sym (ap (does_pass test) same))
    | inr gone ↦ h k ∙ ap {B = ℕ} (λ (b : Bool). cond b 1 0) (gone_fails (value_at s0 k) gone.1 ∙ sym (ap (does_pass test) gone.0))
  ]

  -- all of them are
  pub passing_settled : (s : Sessions Session) → passing_in test (kept (λ (x : Session). not (leaves x)) s) ≡ passing_in test s
  passing_settled s =
      let bit : Session → ℕ = λ x. cond (test x) 1 0 in
      let both = sum_by-filter_both leaves (λ (x : Session). not (leaves x)) (λ _. refl) bit (values s) in
      let ends = filter_passes leaves (values s) in
      let none = sum_nothing bit (filter leaves (values s)) (λ x c.
      ap {B = ℕ} (λ (b : Bool). cond b 1 0) (ended x (All-contains (λ (y : Session). leaves y ≡ true) (filter leaves (values s)) x ends c))) in
      let stay = ap (sum_by bit) (values-kept (λ (x : Session). not (leaves x)) s) in
      omega (arith, both, none, stay)

-- The lowest one -------------------------------------------------------------------------------------------------------

fails : (b : Bool) → (b ≡ true → ⊥) → b ≡ false
fails true h = absurd (h refl)
fails false h = refl

-- those are listed that pass a test, and each that passes a finer one passes it
module _ (test finer : Session → Bool) (passes : (x : Session) → finer x ≡ true → test x ≡ true) (s : Sessions Session) (numbers : List SessionNo) (h : AreListed test s numbers) where
  pub listed_at : (n : ℕ) (x : Session) → value_at s n ≡ Some x → finer x ≡ true → (k : SessionNo) × (Contains numbers k) × (k.0 ≡ n) × (does_pass finer (value_at s k.0) ≡ true)
  listed_at n x is fine =
      let one : cond (does_pass test (value_at s n)) 1 0 ≡ 1 = ap {B = ℕ} (λ (b : Bool). cond b 1 0) (ap (does_pass test) is ∙ passes x fine) in
      let k = listed_there n numbers (h n ∙ one) in
      (k.0, k.1, k.2, ap (does_pass finer) (ap (value_at s) k.2 ∙ is) ∙ fine)

  pub lowest_is : (n : SessionNo) → IsLowestPassing finer s numbers (Some n) → find finer (values s) ≡ value_at s n.0
  lowest_is n lowest =
      elim (value_at s n.0) as (λ o. value_at s n.0 ≡ o → does_pass finer o ≡ true → find finer (values s) ≡ o) [
        | None ↦ λ is fine. absurd (false≢true fine)
        | Some x ↦ λ is fine. find_first finer s n.0 x is fine (λ m y l at. fails (finer y) (λ f.
            let k = listed_at m y at f in
            let le = All-contains (λ (j : SessionNo). does_pass finer (value_at s j.0) ≡ true → n.0 ≤ j.0) numbers k.0 lowest.1 k.1 k.3 in
            let same = k.2 in
            omega (arith, l, le, same)))
      ] refl lowest.0

  pub none_is : IsLowestPassing finer s numbers None → find finer (values s) ≡ None
  none_is none = find_none finer s (λ m y at. fails (finer y) (λ f.
      let k = listed_at m y at f in
      false≢true (sym (All-contains (λ (j : SessionNo). does_pass finer (value_at s j.0) ≡ false) numbers k.0 none k.1) ∙ k.3)))
