-- Places of requests of which one is written.
use Rattle.std.proofs.Common.{◌≡◌, ◌≢◌, ◌⊎◌, inl, inr, ℕ, zero, suc, ◌+◌, ◌≤◌, ◌<◌, cond, List, [], ◌∷◌, length, get_or, set, Option, Some, None, refl, sym, ap, subst, ◌∙◌, arith, ⊎_elim}
use Rattle.std.specs.Prelude.{is_some}
use Rattle.std.proofs.lemmas.List.{get_or-set_same, get_or-set_other, set-get_or, length-set}
use Rattle.std.proofs.lemmas.List.Sums.{sum_by-set}
use Rattle.bng_rad_client.specs.declared.pending.Pending.{Pending}
use Rattle.bng_rad_client.specs.declared.due.LastSend.{LastSend}
use Rattle.bng_rad_client.specs.declared.due.Sought.{Sought}
use Rattle.bng_rad_client.specs.declared.due.Sought.TheVariants.{Timeout, Resend, Endless, Any}
use Rattle.bng_rad_client.specs.Table.{request_of, taken}
use Rattle.bng_rad_client.specs.Due.{is_sought, IsOldestBelow, NoneBelow, IsOldestOrNone}
use Rattle.bng_rad_client.specs.Requests.{ComesFirst, HasLeft, HasCome}

-- what stands at a place is what was written there, or what was there
written : {A : Type 0} → (l : List A) (i j : ℕ) (x d : A) → ((j ≡ i) × (get_or (set l i x) j d ≡ x)) ⊎ (get_or (set l i x) j d ≡ get_or l j d)
written [] i j x d = inr refl
written (y ∷ l) zero zero x d = inl (refl, refl)
written (y ∷ l) zero (suc j) x d = inr refl
written (y ∷ l) (suc i) zero x d = inr refl
written (y ∷ l) (suc i) (suc j) x d = ⊎_elim (λ here. inl (ap suc here.0, here.1)) (λ other. inr other) (written l i j x d)

-- a request that stands after a place was emptied stood there before
still : (places : List (Option Pending)) (id j : ℕ) (r : Pending) → request_of (set places id None) j ≡ Some r → request_of places j ≡ Some r
still places id j r is = ⊎_elim
    (λ gone. absurd (let both : None ≡ Some r = sym gone.1 ∙ is in cc))
    (λ same. sym same ∙ is)
    (written places id j None None)

-- a request other than the one that was sent first leaves
pub left : (places : List (Option Pending)) (id : ℕ) (first : Option LastSend) → ((d : LastSend) → first ≡ Some d → d.id ≢ id)
    → IsOldestOrNone (is_sought Any 0) places 256 first → IsOldestOrNone (is_sought Any 0) (set places id None) 256 first
left places id None other so_far = λ j r below is wants. so_far j r below (still places id j r is) wants
left places id (Some d) other so_far = record {
  request = so_far.request;
  is = get_or-set_other places id d.id None None (other d refl) ∙ so_far.is;
  wants = so_far.wants;
  moment = so_far.moment;
  below = so_far.below;
  first = λ j r below is wants. so_far.first j r below (still places id j r is) wants;
}

-- so does one that was not there
pub left_none : (places : List (Option Pending)) (id : ℕ) → request_of places id ≡ None → set places id None ≡ places
left_none places id free = ap (set places id) (sym free) ∙ set-get_or places id None

module _ (places : List (Option Pending)) (id : ℕ) (made : Pending) (small : id < 256) (size : length places ≡ 256) where
  -- a request that stands after one came is that one, or stood there before
  came : (j : ℕ) (r : Pending) → request_of (set places id (Some made)) j ≡ Some r → ((j ≡ id) × (r ≡ made)) ⊎ (request_of places j ≡ Some r)
  came j r is = ⊎_elim
      (λ here. inl (here.0, (let both : Some r ≡ Some made = sym is ∙ here.1 in cc)))
      (λ same. inr (sym same ∙ is))
      (written places id j (Some made) None)

  -- it is the only one
  pub alone : NoneBelow (is_sought Any 0) places 256 → IsOldestBelow (is_sought Any 0) (set places id (Some made)) 256 (record { id = id; sent_at = made.sent_at })
  alone none = record {
    request = made;
    is = get_or-set_same places id (Some made) None (omega (arith, size));
    wants = refl;
    moment = refl;
    below = small;
    first = λ j r below is wants. ⊎_elim
        (λ here. (omega (arith, ap (λ (y : Pending). y.sent_at) here.1), λ _. omega (arith, here.0)))
        (λ same. absurd (none j r below same wants))
        (came j r is);
  }

  module _ (d : LastSend) (so_far : IsOldestBelow (is_sought Any 0) places 256 d) where
    -- the one that was sent first was sent before it
    pub later : d.id ≢ id → d.sent_at ≤ made.sent_at → (d.sent_at ≡ made.sent_at → d.id ≤ id) → IsOldestBelow (is_sought Any 0) (set places id (Some made)) 256 d
    later other before lower = record {
      request = so_far.request;
      is = get_or-set_other places id d.id (Some made) None other ∙ so_far.is;
      wants = so_far.wants;
      moment = so_far.moment;
      below = so_far.below;
      first = λ j r below is wants. ⊎_elim
          (λ here. let same = ap (λ (y : Pending). y.sent_at) here.1 in (omega (arith, before, same), λ e. let at = lower (e ∙ same) in omega (arith, at, here.0)))
          (λ same. so_far.first j r below same wants)
          (came j r is);
    }

    -- it was sent before the one that was sent first
    pub sooner : made.sent_at ≤ d.sent_at → (made.sent_at ≡ d.sent_at → id ≤ d.id) → IsOldestBelow (is_sought Any 0) (set places id (Some made)) 256 (record { id = id; sent_at = made.sent_at })
    sooner before lower = record {
      request = made;
      is = get_or-set_same places id (Some made) None (omega (arith, size));
      wants = refl;
      moment = refl;
      below = small;
      first = λ j r below is wants. ⊎_elim
          (λ here. (omega (arith, ap (λ (y : Pending). y.sent_at) here.1), λ _. omega (arith, here.0)))
          (λ same. let old = so_far.first j r below same wants in
          (omega (arith, before, old.0), λ e. let even : made.sent_at ≡ d.sent_at = omega (arith, before, old.0, e) in let at = lower even in let behind = old.1 (sym even ∙ e) in omega (arith, at, behind)))
          (came j r is);
    }

pub without : (places : List (Option Pending)) (id : ℕ) (d : LastSend) → d.id ≢ id → HasLeft (Some d) id places → IsOldestBelow (is_sought Any 0) places 256 d
without places id d other has =
    let each : (x : LastSend) → Some d ≡ Some x → x.id ≢ id = λ x is. let e : d ≡ x = cc in subst (λ (y : LastSend). y.id ≢ id) e other in
    subst (λ (ps : List (Option Pending)). IsOldestBelow (is_sought Any 0) ps 256 d) (sym has.written) (left has.before id (Some d) each has.oldest)

module _ (places : List (Option Pending)) (came : LastSend) (small : came.id < 256) (size : length places ≡ 256) where
  at : (first : Option LastSend) (has : HasCome first came places) (d : LastSend) → IsOldestBelow (is_sought Any 0) (set has.before came.id (Some has.request)) 256 d → IsOldestBelow (is_sought Any 0) places 256 d
  at first has d h = subst (λ (ps : List (Option Pending)). IsOldestBelow (is_sought Any 0) ps 256 d) (sym has.written) h

  sized : (first : Option LastSend) (has : HasCome first came places) → length has.before ≡ 256
  sized first has = sym (length-set has.before came.id (Some has.request)) ∙ ap length (sym has.written) ∙ size

  own : (first : Option LastSend) (has : HasCome first came places) → record { id = came.id; sent_at = has.request.sent_at } ≡ came
  own first has = ap (λ (n : ℕ). record { id = came.id; sent_at = n }) (sym has.moment)

  pub came_alone : HasCome None came places → IsOldestBelow (is_sought Any 0) places 256 came
  came_alone has = at None has came (subst (IsOldestBelow (is_sought Any 0) (set has.before came.id (Some has.request)) 256) (own None has) (alone has.before came.id has.request small (sized None has) has.oldest))

  pub came_later : (d : LastSend) → d.id ≢ came.id → ComesFirst d came → HasCome (Some d) came places → IsOldestBelow (is_sought Any 0) places 256 d
  came_later d other first has = at (Some d) has d (later has.before came.id has.request small (sized (Some d) has) d has.oldest other
      (omega (arith, first.moment, has.moment)) (λ e. first.lower (e ∙ sym has.moment)))

  pub came_sooner : (d : LastSend) → ComesFirst came d → HasCome (Some d) came places → IsOldestBelow (is_sought Any 0) places 256 came
  came_sooner d first has = at (Some d) has came (subst (IsOldestBelow (is_sought Any 0) (set has.before came.id (Some has.request)) 256) (own (Some d) has)
      (sooner has.before came.id has.request small (sized (Some d) has) d has.oldest
      (omega (arith, first.moment, has.moment)) (λ e. first.lower (has.moment ∙ e))))

abbrev counted : Option Pending → ℕ
counted p = cond (is_some p) 1 0

-- one fewer is taken where a request left
pub one_left : (places : List (Option Pending)) (id : ℕ) (r : Pending) → id < length places → request_of places id ≡ Some r → taken (set places id None) + 1 ≡ taken places
one_left places id r below is =
    let sums = sum_by-set counted places id None None below in
    omega (arith, sums, ap counted is)

-- one more is taken where a request came to a free identifier
pub one_came : (places : List (Option Pending)) (id : ℕ) (made : Pending) → id < length places → request_of places id ≡ None → taken (set places id (Some made)) ≡ taken places + 1
one_came places id made below is =
    let sums = sum_by-set counted places id (Some made) None below in
    omega (arith, sums, ap counted is)

-- as many are taken where a request came in the place of another
pub one_replaced : (places : List (Option Pending)) (id : ℕ) (r made : Pending) → id < length places → request_of places id ≡ Some r → taken (set places id (Some made)) ≡ taken places
one_replaced places id r made below is =
    let sums = sum_by-set counted places id (Some made) None below in
    omega (arith, sums, ap counted is)

-- where the request that was sent first is not due, none is
module _ (now : ℕ) (places : List (Option Pending)) where
  waits : (first : Option LastSend) → ((d : LastSend) → first ≡ Some d → now < d.sent_at + 3000) → IsOldestOrNone (is_sought Any 0) places 256 first
      → (j : ℕ) (r : Pending) → j < 256 → request_of places j ≡ Some r → now < r.sent_at + 3000
  waits None early so_far j r below is = absurd (so_far j r below is refl)
  waits (Some d) early so_far j r below is =
      let old = so_far.first j r below is refl in
      let soon = early d refl in
      omega (arith, soon, old.0)

  pub none_due : (sought : Sought) → sought ≢ Any → (first : Option LastSend) → ((d : LastSend) → first ≡ Some d → now < d.sent_at + 3000)
      → IsOldestOrNone (is_sought Any 0) places 256 first → NoneBelow (is_sought sought now) places 256
  none_due (Timeout tries) due first early so_far = λ j r below is wants. let soon = waits first early so_far j r below is in grind (arith, soon, wants)
  none_due (Resend tries) due first early so_far = λ j r below is wants. let soon = waits first early so_far j r below is in grind (arith, soon, wants)
  none_due Endless due first early so_far = λ j r below is wants. let soon = waits first early so_far j r below is in grind (arith, soon, wants)
  none_due Any due first early so_far = absurd (due refl)
