-- The rows of an event stand in the table, and a state and an event have one row.
use Rattle.std.proofs.Common.{◌≡◌, ℕ, zero, suc, ◌+◌, ◌*◌, ◌<◌, Bool, true, false, ◌&&◌, Some, List, [], ◌∷◌, ◌++◌, length, get_or, map, refl, sym, ap, ◌∙◌, arith, Contains, lit<, subst}
use Rattle.std.specs.List.{flat_map, list_all, slice_get}
use Rattle.std.proofs.lemmas.List.{get_or_default}
use Rattle.bng_automaton.specs.declared.state.State.{State}
use Rattle.bng_automaton.specs.declared.event.Event.{Event}
use Rattle.bng_automaton.specs.declared.event.Event.TheVariants.{Up, Down, Open, Close, ToPlus, ToMinus, RcrPlus, RcrMinus, Rca, Rcn, Rtr, Rta, Ruc, RxjPlus, RxjMinus, Rxr}
use Rattle.bng_automaton.specs.declared.action.Action.{Action}
use Rattle.bng_automaton.specs.Table.{Transition, row, rows, events, table, column}

first_of_both : (a b : Bool) → (a && b) ≡ true → a ≡ true
first_of_both true b e = refl
first_of_both false b e = e

second_of_both : (a b : Bool) → (a && b) ≡ true → b ≡ true
second_of_both true b e = e
second_of_both false b e = absurd cc

module _ {X : Type 0} where
  after : (y : X) (ys : List X) (x : X) → Contains ys x → Contains (y ∷ ys) x
  after y ys x p = (suc p.0, omega (arith, p.1), p.2)

  left : (xs ys : List X) (x : X) (k : ℕ) → k < length xs → get_or xs k x ≡ x → Contains (xs ++ ys) x
  left [] ys x k within found = absurd (omega arith)
  left (y ∷ xs) ys x zero within found = (zero, omega arith, found)
  left (y ∷ xs) ys x (suc k) within found = after y (xs ++ ys) x (left xs ys x k (omega arith) found)

  right : (xs ys : List X) (x : X) → Contains ys x → Contains (xs ++ ys) x
  right [] ys x p = p
  right (y ∷ xs) ys x p = after y (xs ++ ys) x (right xs ys x p)

  found_at : (xs : List X) (k : ℕ) (x : X) → slice_get xs k ≡ Some x → Contains xs x
  found_at [] k x e = absurd cc
  found_at (y ∷ xs) zero x e = (zero, omega arith, cc)
  found_at (y ∷ xs) (suc k) x e = after y xs x (found_at xs k x e)

  passes_at : (p : X → Bool) (xs : List X) (x : X) (k : ℕ) → list_all p xs ≡ true → k < length xs → get_or xs k x ≡ x → p x ≡ true
  passes_at p [] x k all within found = absurd (omega arith)
  passes_at p (y ∷ xs) x zero all within found = ap p (sym found) ∙ first_of_both (p y) (list_all p xs) all
  passes_at p (y ∷ xs) x (suc k) all within found =
      passes_at p xs x k (second_of_both (p y) (list_all p xs) all) (omega arith) found

  -- what a test says of each element
  pub passes : (p : X → Bool) (xs : List X) (x : X) → list_all p xs ≡ true → Contains xs x → p x ≡ true
  passes p xs x all member = passes_at p xs x member.0 all member.1 member.2

module _ {X Y : Type 0} where
  in_flat_map : (f : X → List Y) (xs : List X) (x : X) (y : Y) (k : ℕ) → k < length xs → get_or xs k x ≡ x → Contains (f x) y → Contains (flat_map f xs) y
  in_flat_map f [] x y k within found inside = absurd (omega arith)
  in_flat_map f (z ∷ xs) x y zero within found inside =
      let P : X → Type 0 = λ v. Contains (f v ++ flat_map f xs) y in
      subst P (sym found) (left (f x) (flat_map f xs) y inside.0 inside.1 inside.2)
  in_flat_map f (z ∷ xs) x y (suc k) within found inside =
      right (f z) (flat_map f xs) y (in_flat_map f xs x y k (omega arith) found inside)

-- the number of an event in the standard's table, from the first on
number : Event → ℕ
number Up = 0
number Down = 1
number Open = 2
number Close = 3
number ToPlus = 4
number ToMinus = 5
number RcrPlus = 6
number RcrMinus = 7
number Rca = 8
number Rcn = 9
number Rtr = 10
number Rta = 11
number Ruc = 12
number RxjPlus = 13
number RxjMinus = 14
number Rxr = 15

every_event : (e : Event) → Contains events e
every_event Up = (0, lit< tt, refl)
every_event Down = (1, lit< tt, refl)
every_event Open = (2, lit< tt, refl)
every_event Close = (3, lit< tt, refl)
every_event ToPlus = (4, lit< tt, refl)
every_event ToMinus = (5, lit< tt, refl)
every_event RcrPlus = (6, lit< tt, refl)
every_event RcrMinus = (7, lit< tt, refl)
every_event Rca = (8, lit< tt, refl)
every_event Rcn = (9, lit< tt, refl)
every_event Rtr = (10, lit< tt, refl)
every_event Rta = (11, lit< tt, refl)
every_event Ruc = (12, lit< tt, refl)
every_event RxjPlus = (13, lit< tt, refl)
every_event RxjMinus = (14, lit< tt, refl)
every_event Rxr = (15, lit< tt, refl)

-- a row of an event stands in the table
pub in_table : (e : Event) (k : ℕ) (t : Transition) → slice_get (rows e) k ≡ Some t → Contains table t
unfolding table
in_table e k t found = in_flat_map rows events e t (every_event e).0 (every_event e).1 (every_event e).2 (found_at (rows e) k t found)

-- the place of a row in the table
place : Transition → ℕ
unfolding number
place t = 10 * number t.event + column t.state

count_from : ℕ → List Transition → List ℕ
count_from n [] = []
count_from n (t ∷ ts) = n ∷ count_from (n + 1) ts

place-at : (ts : List Transition) (n k : ℕ) (d : Transition) → map place ts ≡ count_from n ts → k < length ts → place (get_or ts k d) ≡ n + k
unfolding count_from
place-at [] n k d e within = absurd (omega arith)
place-at (t ∷ ts) n zero d e within =
    let head : place t ≡ n = cc in
    omega (arith, head)
place-at (t ∷ ts) n (suc k) d e within =
    let tail : map place ts ≡ count_from (n + 1) ts = cc in
    omega (arith, place-at ts (n + 1) k d tail (omega arith))

places : map place table ≡ count_from 0 table
unfolding place number count_from table
places = refl

-- two rows of one state and one event are the same
pub one_row : (s : State) (e : Event) (a b : List Action) (n m : State) → Contains table (row s e a n) → Contains table (row s e b m) → (a ≡ b) × (n ≡ m)
unfolding place
one_row s e a b n m first second =
    let t : Transition = row s e a n in
    let u : Transition = row s e b m in
    let t_is : get_or table first.0 t ≡ t = first.2 in
    let u_is : get_or table second.0 u ≡ u = second.2 in
    let at_t : place t ≡ 0 + first.0 = ap place (sym t_is) ∙ place-at table 0 first.0 t places first.1 in
    let at_u : place u ≡ 0 + second.0 = ap place (sym u_is) ∙ place-at table 0 second.0 u places second.1 in
    let same : place t ≡ place u = refl in
    let k : first.0 ≡ second.0 = omega (arith, at_t, at_u, same) in
    let rows_are : t ≡ u = sym t_is ∙ get_or_default table first.0 t u first.1 ∙ ap (λ (i : ℕ). get_or table i u) k ∙ u_is in
    (ap (λ (v : Transition). v.actions) rows_are, ap (λ (v : Transition). v.next) rows_are)
