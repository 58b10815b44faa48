-- The earliest deadline of a shard's sessions.
use Rattle.std.proofs.Common.{◌≡◌, ◌⊎◌, ℕ, zero, suc, ◌<◌, ◌≤◌, min, List, [], ◌∷◌, Option, Some, None, Contains, fold, option_and_then, inl, inr, refl, sym, ap, ◌∙◌, arith}
use Rattle.bng_ppp.specs.LcpRelation.{earliest}
use Rattle.bng_sessions.specs.Sessions.{IsEarliest, read_at, value_at}
use Rattle.bng_sessions.specs.Listed.{values}
use Rattle.bng_steps.specs.declared.session.Session.{Session}
use Rattle.bng_steps.specs.Due.{sessions_due}
use Rattle.bng_steps.specs.State.{State}
use Rattle.bng_steps.specs.Timers.{deadline_of}
use Rattle.bng_steps.proofs.Values.{none_some, numbered, same_some, stands}

-- what is read of a value
pub read_there : {V K : Type 0} (read : V → Option K) (o : Option V) (k : K) → option_and_then read o ≡ Some k → (x : V) × (o ≡ Some x) × (read x ≡ Some k)
read_there read None k e = absurd (none_some k e)
read_there read (Some x) k e = (x, refl, e)

takes : (a b : Option ℕ) (least : ℕ) → (a ≡ Some least) ⊎ (b ≡ Some least) → ((t : ℕ) → a ≡ Some t → least ≤ t) → ((t : ℕ) → b ≡ Some t → least ≤ t) → earliest a b ≡ Some least
takes None b least (inl e) la lb = absurd (none_some least e)
takes None b least (inr e) la lb = e
takes (Some x) None least (inl e) la lb = e
takes (Some x) None least (inr e) la lb = absurd (none_some least e)
takes (Some x) (Some y) least (inl e) la lb =
    let same = same_some x least e in
    let le = lb y refl in
    let both : min x y ≡ least = omega (arith, same, le) in
    ap (λ (n : ℕ). Some n) both
takes (Some x) (Some y) least (inr e) la lb =
    let same = same_some y least e in
    let le = la x refl in
    let both : min x y ≡ least = omega (arith, same, le) in
    ap (λ (n : ℕ). Some n) both

bound : (a b : Option ℕ) (least : ℕ) → ((t : ℕ) → a ≡ Some t → least ≤ t) → ((t : ℕ) → b ≡ Some t → least ≤ t) → (t : ℕ) → earliest a b ≡ Some t → least ≤ t
bound None b least la lb t e = lb t e
bound (Some x) None least la lb t e = la t e
bound (Some x) (Some y) least la lb t e =
    let same = same_some (min x y) t e in
    let left = la x refl in
    let right = lb y refl in
    omega (arith, same, left, right)

fold_least : (xs : List Session) (a : Option ℕ) (least : ℕ) → (a ≡ Some least) ⊎ ((x : Session) × (Contains xs x) × (deadline_of x ≡ Some least)) → ((t : ℕ) → a ≡ Some t → least ≤ t) → ((x : Session) (t : ℕ) → Contains xs x → deadline_of x ≡ Some t → least ≤ t) → fold (λ (b : Option ℕ) (x : Session). earliest b (deadline_of x)) a xs ≡ Some least
fold_least [] a least (inl e) la lx = e
fold_least [] a least (inr h) la lx = let c = h.1 in let l = c.1 in absurd (omega (arith, l))
fold_least (y ∷ xs) a least (inl e) la lx =
    let ly : (t : ℕ) → deadline_of y ≡ Some t → least ≤ t = λ t f. lx y t (0, omega arith, refl) f in
    fold_least xs (earliest a (deadline_of y)) least (inl (takes a (deadline_of y) least (inl e) la ly)) (bound a (deadline_of y) least la ly) (λ x t c f. lx x t (suc c.0, omega (arith, c.1), c.2) f)
fold_least (y ∷ xs) a least (inr (x, (zero, l, is), e)) la lx =
    let ly : (t : ℕ) → deadline_of y ≡ Some t → least ≤ t = λ t f. lx y t (0, omega arith, refl) f in
    let this : deadline_of y ≡ Some least = ap (λ (z : Session). deadline_of z) is ∙ e in
    fold_least xs (earliest a (deadline_of y)) least (inl (takes a (deadline_of y) least (inr this) la ly)) (bound a (deadline_of y) least la ly) (λ x t c f. lx x t (suc c.0, omega (arith, c.1), c.2) f)
fold_least (y ∷ xs) a least (inr (x, (suc k, l, is), e)) la lx =
    let ly : (t : ℕ) → deadline_of y ≡ Some t → least ≤ t = λ t f. lx y t (0, omega arith, refl) f in
    fold_least xs (earliest a (deadline_of y)) least (inr (x, (k, omega (arith, l), is), e)) (bound a (deadline_of y) least la ly) (λ x t c f. lx x t (suc c.0, omega (arith, c.1), c.2) f)

fold_none : (xs : List Session) → ((x : Session) → Contains xs x → deadline_of x ≡ None) → fold (λ (b : Option ℕ) (x : Session). earliest b (deadline_of x)) None xs ≡ None
fold_none [] none = refl
fold_none (y ∷ xs) none =
    ap (λ (o : Option ℕ). fold (λ (b : Option ℕ) (x : Session). earliest b (deadline_of x)) o xs) (none y (0, omega arith, refl))
    ∙ fold_none xs (λ x c. none x (suc c.0, omega (arith, c.1), c.2))

at_most : (moment later n m : ℕ) → (moment < later) ⊎ ((moment ≡ later) × (n ≤ m)) → moment ≤ later
at_most moment later n m (inl l) = omega (arith, l)
at_most moment later n m (inr e) = omega (arith, e.0)

module _ (s : State) where
  -- the earliest deadline is the one that a session has and before which none has one
  pub due_is : (moment n : ℕ) → IsEarliest deadline_of s.sessions moment n → sessions_due s ≡ Some moment
  due_is moment n is =
      let x = read_there deadline_of (value_at s.sessions n) moment is.has in
      fold_least (values s.sessions) None moment (inr (x.0, stands s.sessions n x.0 x.1, x.2)) (λ t e. absurd (none_some t e))
      (λ y t c e.
      let m = numbered s.sessions y c in
      at_most moment t n m.0 (is.first m.0 t (ap (option_and_then deadline_of) m.1 ∙ e)))

  pub due_none : ((n : ℕ) → read_at deadline_of s.sessions n ≡ None) → sessions_due s ≡ None
  due_none none = fold_none (values s.sessions) (λ x c. let n = numbered s.sessions x c in sym (ap (option_and_then deadline_of) n.1) ∙ none n.0)
