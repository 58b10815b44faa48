-- One more request, in a search for the one that was sent first.
use Rattle.std.proofs.Common.{◌≡◌, ℕ, ◌+◌, ◌≤◌, ◌<◌, Bool, true, false, cond, List, Option, Some, None, refl, sym, ap, subst, ⊎_elim, ◌∙◌, arith}
use Rattle.std.proofs.lemmas.Bool.{cases_lt}
use Rattle.std.proofs.lemmas.Bool.Decides.{leb_tells}
use Rattle.bng_rad_client.specs.declared.pending.Pending.{Pending}
use Rattle.bng_rad_client.specs.declared.due.LastSend.{LastSend}
use Rattle.bng_rad_client.specs.Table.{request_of}
use Rattle.bng_rad_client.specs.Due.{older, newer, IsOldestBelow, NoneBelow, IsOldestOrNone}

module _ (wanted : Pending → Bool) (places : List (Option Pending)) (n : ℕ) where
  -- the request at n is not wanted
  skipped : (best : Option LastSend) → ((r : Pending) → request_of places n ≡ Some r → wanted r ≡ true → ⊥) → IsOldestOrNone wanted places n best → IsOldestOrNone wanted places (n + 1) best
  skipped None other so_far = λ j r below is wants.
      ⊎_elim (λ lt. so_far j r lt is wants) (λ le. let e : j ≡ n = omega arith in other r (ap (request_of places) (sym e) ∙ is) wants) (cases_lt j n)
  skipped (Some d) other so_far = record {
    request = so_far.request;
    is = so_far.is;
    wants = so_far.wants;
    moment = so_far.moment;
    below = omega (arith, so_far.below);
    first = λ j r below is wants.
        ⊎_elim (λ lt. so_far.first j r lt is wants) (λ le. let e : j ≡ n = omega arith in absurd (other r (ap (request_of places) (sym e) ∙ is) wants)) (cases_lt j n);
  }

  module _ (r : Pending) (here : request_of places n ≡ Some r) (wants : wanted r ≡ true) where
    made : LastSend
    made = record { id = n; sent_at = r.sent_at }

    -- a request at n is that one
    at_n : (j : ℕ) (x : Pending) → j < n + 1 → n ≤ j → request_of places j ≡ Some x → (j ≡ n) × (x ≡ r)
    at_n j x below from is =
        let e : j ≡ n = omega arith in
        let same : Some x ≡ Some r = sym is ∙ ap (request_of places) e ∙ here in
        (e, cc)

    alone : NoneBelow wanted places n → IsOldestBelow wanted places (n + 1) made
    unfolding made
    alone none = record {
      request = r;
      is = here;
      wants = wants;
      moment = refl;
      below = omega arith;
      first = λ j x below is w. ⊎_elim
          (λ lt. absurd (none j x lt is w))
          (λ le. let at = at_n j x below le is in (omega (arith, ap (λ (y : Pending). y.sent_at) at.1), λ _. omega (arith, at.0)))
          (cases_lt j n);
    }

    kept : (b : LastSend) → IsOldestBelow wanted places n b → b.sent_at ≤ r.sent_at → IsOldestBelow wanted places (n + 1) b
    kept b so_far before = record {
      request = so_far.request;
      is = so_far.is;
      wants = so_far.wants;
      moment = so_far.moment;
      below = omega (arith, so_far.below);
      first = λ j x below is w. ⊎_elim
          (λ lt. so_far.first j x lt is w)
          (λ le. let at = at_n j x below le is in (omega (arith, before, ap (λ (y : Pending). y.sent_at) at.1), λ _. omega (arith, at.0, so_far.below)))
          (cases_lt j n);
    }

    replaced : (b : LastSend) → IsOldestBelow wanted places n b → r.sent_at < b.sent_at → IsOldestBelow wanted places (n + 1) made
    unfolding made
    replaced b so_far before = record {
      request = r;
      is = here;
      wants = wants;
      moment = refl;
      below = omega arith;
      first = λ j x below is w. ⊎_elim
          (λ lt. let old = so_far.first j x lt is w in (omega (arith, before, old.0), λ e. absurd (omega (arith, before, old.0, e))))
          (λ le. let at = at_n j x below le is in (omega (arith, ap (λ (y : Pending). y.sent_at) at.1), λ _. omega (arith, at.0)))
          (cases_lt j n);
    }

    taken_in : (best : Option LastSend) → IsOldestOrNone wanted places n best → IsOldestOrNone wanted places (n + 1) (newer best made)
    unfolding made
    taken_in None so_far = alone so_far
    taken_in (Some b) so_far = ⊎_elim
        (λ yes. subst (IsOldestOrNone wanted places (n + 1)) (ap (λ (t : Bool). cond t (Some b) (Some made)) (sym yes.0)) (kept b so_far yes.1))
        (λ no. subst (IsOldestOrNone wanted places (n + 1)) (ap (λ (t : Bool). cond t (Some b) (Some made)) (sym no.0)) (replaced b so_far no.1))
        (leb_tells b.sent_at r.sent_at)

    by_wish : (best : Option LastSend) → IsOldestOrNone wanted places n best → IsOldestOrNone wanted places (n + 1) (older wanted best n (Some r))
    unfolding made
    by_wish best so_far = subst (IsOldestOrNone wanted places (n + 1)) (ap (λ (t : Bool). cond t (newer best made) best) (sym wants)) (taken_in best so_far)

  not_wanted : (r : Pending) → request_of places n ≡ Some r → wanted r ≡ false → (best : Option LastSend) → IsOldestOrNone wanted places n best → IsOldestOrNone wanted places (n + 1) (older wanted best n (Some r))
  not_wanted r here unwanted best so_far =
      subst (IsOldestOrNone wanted places (n + 1)) (ap (λ (t : Bool). cond t (newer best (record { id = n; sent_at = r.sent_at })) best) (sym unwanted))
      (skipped best (λ x is yes. let same : Some x ≡ Some r = sym is ∙ here in let e : x ≡ r = cc in absurd (let both : true ≡ false = sym yes ∙ ap wanted e ∙ unwanted in cc)) so_far)

  by_test : (r : Pending) → request_of places n ≡ Some r → (b : Bool) → wanted r ≡ b → (best : Option LastSend) → IsOldestOrNone wanted places n best → IsOldestOrNone wanted places (n + 1) (older wanted best n (Some r))
  by_test r here true e best so_far = by_wish r here e best so_far
  by_test r here false e best so_far = not_wanted r here e best so_far

  at_place : (p : Option Pending) → request_of places n ≡ p → (best : Option LastSend) → IsOldestOrNone wanted places n best → IsOldestOrNone wanted places (n + 1) (older wanted best n p)
  at_place None e best so_far = skipped best (λ r is w. absurd (let both : None ≡ Some r = sym e ∙ is in cc)) so_far
  at_place (Some r) e best so_far = by_test r e (wanted r) refl best so_far

  pub older_more : (best : Option LastSend) → IsOldestOrNone wanted places n best → IsOldestOrNone wanted places (n + 1) (older wanted best n (request_of places n))
  older_more best so_far = at_place (request_of places n) refl best so_far
