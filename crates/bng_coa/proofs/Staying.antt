-- Requests in hand are neither forgotten nor counted twice.
use Rattle.std.proofs.Common.{◌≡◌, ℕ, zero, suc, ◌+◌, Bool, true, false, cond, ◌||◌, eqb, ltb, List, [], ◌∷◌, ◌++◌, length, take, Option, Some, None, refl, sym, ap, ◌∙◌, arith}
use Rattle.std.specs.Prelude.{slice_get, slice_set, filter, position, remove, count_by}
use Rattle.std.specs.List.{list_any}
use Rattle.std.proofs.lemmas.List.Sums.{sum_by-cons, sum_by-append}
use Rattle.std.proofs.lemmas.Bool.Decides.{Decides-eqb}
use Rattle.bng_base.specs.declared.address.Peer.{Peer}
use Rattle.bng_radius_wire.specs.Grammar.{length_in}
use Rattle.bng_coa.specs.declared.request.ChangeRequest.{ChangeRequest}
use Rattle.bng_coa.specs.declared.request.RequestStage.{RequestStage}
use Rattle.bng_coa.specs.declared.request.RequestStage.TheVariants.{InHand, Answered}
use Rattle.bng_coa.specs.declared.rules.Admitted.{Admitted}
use Rattle.bng_coa.specs.declared.rules.Admitted.TheVariants.{New, Repeat, InHand as StillInHand, Ignored}
use Rattle.bng_coa.specs.Requests.{is_in_hand, is_in_hand_at, is_answered, is_answered_at, is_numbered, is_numbered_at, is_held, is_held_at, key_of, without, with_room, admitted}
use Rattle.bng_coa.specs.Runs.{IsSettled, Event, Takes, Settles, Follows, Run, settles}
use Rattle.bng_coa.specs.Admission.{Keeps, WhenNew, more_in_hand}
use Rattle.bng_coa.specs.State.{State}
use Rattle.bng_coa.proofs.Places.{passes_at, numbered_in_hand}

-- ---- whatever is true of some element

module _ (q : ChangeRequest → Bool) where
  any_front : (xs ys : List ChangeRequest) → list_any q xs ≡ true → list_any q (xs ++ ys) ≡ true
  any_front [] ys any = absurd cc
  any_front (x ∷ xs) ys any = front (q x) (list_any q xs) (list_any q (xs ++ ys)) (λ h. any_front xs ys h) any
    where
      front : (b rest more : Bool) → (rest ≡ true → more ≡ true) → b || rest ≡ true → b || more ≡ true
      front true rest more h any = refl
      front false rest more h any = h any

  any_last : (xs : List ChangeRequest) (y : ChangeRequest) → q y ≡ true → list_any q (xs ++ y ∷ []) ≡ true
  any_last [] y is = ap (λ (b : Bool). b || false) is
  any_last (x ∷ xs) y is = ap (λ (b : Bool). q x || b) (any_last xs y is) ∙ or_true (q x)
    where
      or_true : (b : Bool) → b || true ≡ true
      or_true true = refl
      or_true false = refl

  kept_cons : (b c : Bool) (x : ChangeRequest) (rest kept : List ChangeRequest) → q x ≡ c → (c ≡ true → b ≡ true) → (list_any q rest ≡ true → list_any q kept ≡ true) → c || list_any q rest ≡ true
      → list_any q (cond b (x ∷ kept) kept) ≡ true
  kept_cons true true x rest kept e h later any = ap (λ (t : Bool). t || list_any q kept) e
  kept_cons true false x rest kept e h later any = ap (λ (t : Bool). t || list_any q kept) e ∙ later any
  kept_cons false true x rest kept e h later any = absurd (let no : false ≡ true = h refl in cc)
  kept_cons false false x rest kept e h later any = later any

  any_filter : (p : ChangeRequest → Bool) → ((r : ChangeRequest) → q r ≡ true → p r ≡ true) → (xs : List ChangeRequest) → list_any q xs ≡ true → list_any q (filter p xs) ≡ true
  any_filter p implies [] any = any
  any_filter p implies (x ∷ xs) any = kept_cons (p x) (q x) x xs (filter p xs) refl (λ h. implies x h) (λ h. any_filter p implies xs h) any

  tail_any : (b rest : Bool) → b ≡ false → b || rest ≡ true → rest ≡ true
  tail_any true rest e any = absurd (let no : true ≡ false = e in cc)
  tail_any false rest e any = any

  or_later : (b rest : Bool) → rest ≡ true → b || rest ≡ true
  or_later true rest h = refl
  or_later false rest h = h

  either_way : (b rest more : Bool) → (rest ≡ true → more ≡ true) → b || rest ≡ true → b || more ≡ true
  either_way true rest more h any = refl
  either_way false rest more h any = h any

  any_remove : (xs : List ChangeRequest) (i : ℕ) (x : ChangeRequest) → slice_get xs i ≡ Some x → q x ≡ false → list_any q xs ≡ true → list_any q (remove xs i) ≡ true
  any_remove [] i x is none any = absurd cc
  any_remove (y ∷ xs) zero x is none any = tail_any (q y) (list_any q xs) (ap q (let e : y ≡ x = cc in e) ∙ none) any
  any_remove (y ∷ xs) (suc i) x is none any = either_way (q y) (list_any q xs) (list_any q (remove xs i)) (λ h. any_remove xs i x is none h) any

  any_set : (xs : List ChangeRequest) (i : ℕ) (x y : ChangeRequest) → slice_get xs i ≡ Some x → q x ≡ false → list_any q xs ≡ true → list_any q (slice_set xs i y) ≡ true
  any_set [] i x y is none any = absurd cc
  any_set (z ∷ xs) zero x y is none any = or_later (q y) (list_any q xs) (tail_any (q z) (list_any q xs) (ap q (let e : z ≡ x = cc in e) ∙ none) any)
  any_set (z ∷ xs) (suc i) x y is none any = either_way (q z) (list_any q xs) (list_any q (slice_set xs i y)) (λ h. any_set xs i x y is none h) any

-- ---- a request in hand is held, and not answered

held_in_hand : (passed : ℕ) (s : RequestStage) → is_in_hand_at s ≡ true → is_held_at passed s ≡ true
held_in_hand passed (InHand number packet) is = refl
held_in_hand passed (Answered reply) is = absurd (let no : false ≡ true = is in cc)

answered_not : (s : RequestStage) → is_answered_at s ≡ true → is_in_hand_at s ≡ false
answered_not (InHand number packet) is = absurd (let no : false ≡ true = is in cc)
answered_not (Answered reply) is = refl

not_q : (b : Bool) → (b ≡ true → ⊥) → b ≡ false
not_q true never = absurd (never refl)
not_q false never = refl

one_number : (m n : ℕ) (s : RequestStage) → is_numbered_at m s ≡ true → is_numbered_at n s ≡ true → m ≡ n
one_number m n (InHand k packet) a b = sym ((Decides-eqb k m).0 a) ∙ (Decides-eqb k n).0 b
one_number m n (Answered reply) a b = absurd (let no : false ≡ true = a in cc)

module _ (number : ℕ) (q : ChangeRequest → Bool) (numbered : (r : ChangeRequest) → q r ≡ true → is_numbered number r ≡ true) where
  in_hand : (r : ChangeRequest) → q r ≡ true → is_in_hand r ≡ true
  in_hand r is = numbered_in_hand number r.stage (numbered r is)

  not_answered : (r : ChangeRequest) → is_answered r ≡ true → q r ≡ false
  not_answered r is = not_q (q r) (λ h. let no : true ≡ false = sym (in_hand r h) ∙ answered_not r.stage is in cc)

  any_without : (o : Option ℕ) (xs : List ChangeRequest) → position is_answered xs ≡ o → list_any q xs ≡ true → list_any q (without o xs) ≡ true
  any_without None xs e any = any
  any_without (Some i) xs e any =
      let h = passes_at is_answered xs i e in
      any_remove q xs i h.element h.is (not_answered h.element h.passes) any

  any_room : (b : Bool) (xs : List ChangeRequest) → list_any q xs ≡ true → list_any q (cond b xs (without (position is_answered xs) xs)) ≡ true
  any_room true xs any = any
  any_room false xs any = any_without (position is_answered xs) xs refl any

  other_number : (m : ℕ) (r : ChangeRequest) → is_numbered m r ≡ true → eqb m number ≡ false → q r ≡ false
  other_number m r is differs = not_q (q r) (λ h. let no : true ≡ false = sym ((Decides-eqb m number).1 (one_number m number r.stage is (numbered r h))) ∙ differs in cc)

  step_stays : (event : Event) (old new : List ChangeRequest) → settles number event ≡ false → Follows old event new → list_any q old ≡ true → list_any q new ≡ true
  step_stays (Takes key packet now n) old new other h any =
      ap (list_any q) h.list
      ∙ any_front q (with_room (filter (is_held now) old)) _
      (any_room (ltb (length (filter (is_held now) old)) 256) (filter (is_held now) old)
      (any_filter q (is_held now) (λ r is. held_in_hand _ r.stage (in_hand r is)) old any))
  step_stays (Settles n reply) old new other h any =
      ap (list_any q) h.list ∙ any_set q old h.place h.request _ h.stands (other_number n h.request h.numbered other) any

  first_other : (b rest : Bool) → b || rest ≡ false → b ≡ false
  first_other true rest e = e
  first_other false rest e = refl

  rest_other : (b rest : Bool) → b || rest ≡ false → rest ≡ false
  rest_other true rest e = absurd (let no : true ≡ false = e in cc)
  rest_other false rest e = e

  pub stays : (events : List Event) (old new : List ChangeRequest) → list_any (settles number) events ≡ false → Run old events new → list_any q old ≡ true → list_any q new ≡ true
  stays [] old new other run any = ap (list_any q) run ∙ any
  stays (event ∷ events) old new other run any =
      stays events run.0 new (rest_other (settles number event) (list_any (settles number) events) other) run.2
      (step_stays event old run.0 (first_other (settles number event) (list_any (settles number) events) other) run.1 any)

-- ---- how many are in hand

counted : (r : ChangeRequest) (rs : List ChangeRequest) → count_by is_in_hand (r ∷ rs) ≡ cond (is_in_hand r) 1 0 + count_by is_in_hand rs
counted r rs = sum_by-cons (λ x. cond (is_in_hand x) 1 0) r rs

filter_cons : (b c : Bool) (r : ChangeRequest) (rs kept : List ChangeRequest) → is_in_hand r ≡ c → (c ≡ true → b ≡ true) → count_by is_in_hand kept ≡ count_by is_in_hand rs
    → count_by is_in_hand (cond b (r ∷ kept) kept) ≡ cond c 1 0 + count_by is_in_hand rs
filter_cons true c r rs kept e h same = counted r kept ∙ ap (λ (t : Bool). cond t 1 0 + count_by is_in_hand kept) e ∙ ap (λ (n : ℕ). cond c 1 0 + n) same
filter_cons false true r rs kept e h same = absurd (let no : false ≡ true = h refl in cc)
filter_cons false false r rs kept e h same = omega (arith, same)

count_held : (now : ℕ) (rs : List ChangeRequest) → count_by is_in_hand (filter (is_held now) rs) ≡ count_by is_in_hand rs
count_held now [] = refl
count_held now (r ∷ rs) =
    filter_cons (is_held now r) (is_in_hand r) r rs (filter (is_held now) rs) refl (λ is. held_in_hand _ r.stage is) (count_held now rs) ∙ sym (counted r rs)

none_of : (r : ChangeRequest) → is_in_hand r ≡ false → ◌≡◌ {A = ℕ} (cond (is_in_hand r) 1 0) 0
none_of r e = ap (λ (t : Bool). cond t 1 0) e

count_remove : (rs : List ChangeRequest) (i : ℕ) (x : ChangeRequest) → slice_get rs i ≡ Some x → is_in_hand x ≡ false → count_by is_in_hand (remove rs i) ≡ count_by is_in_hand rs
count_remove [] i x is none = absurd cc
count_remove (r ∷ rs) zero x is none = omega (arith, counted r rs, none_of r (ap is_in_hand (let e : r ≡ x = cc in e) ∙ none))
count_remove (r ∷ rs) (suc i) x is none = omega (arith, counted r rs, counted r (remove rs i), count_remove rs i x is none)

count_without : (o : Option ℕ) (rs : List ChangeRequest) → position is_answered rs ≡ o → count_by is_in_hand (without o rs) ≡ count_by is_in_hand rs
count_without None rs e = refl
count_without (Some i) rs e =
    let h = passes_at is_answered rs i e in
    count_remove rs i h.element h.is (answered_not h.element.stage h.passes)

count_room : (b : Bool) (rs : List ChangeRequest) → count_by is_in_hand (cond b rs (without (position is_answered rs) rs)) ≡ count_by is_in_hand rs
count_room true rs = refl
count_room false rs = count_without (position is_answered rs) rs refl

count_admitted : (now : ℕ) (r : ChangeRequest) (rs : List ChangeRequest) → is_in_hand r ≡ true → count_by is_in_hand (admitted now r rs) ≡ count_by is_in_hand rs + 1
count_admitted now r rs is =
    omega (
      arith,
      sum_by-append (λ x. cond (is_in_hand x) 1 0) (with_room (filter (is_held now) rs)) (r ∷ []),
      counted r [],
      ap {B = ℕ} (λ (t : Bool). cond t 1 0) is,
      count_room (ltb (length (filter (is_held now) rs)) 256) (filter (is_held now) rs),
      count_held now rs,
    )

count_set : (rs : List ChangeRequest) (i : ℕ) (x y : ChangeRequest) → slice_get rs i ≡ Some x → is_in_hand x ≡ true → is_in_hand y ≡ false → count_by is_in_hand (slice_set rs i y) + 1 ≡ count_by is_in_hand rs
count_set [] i x y is a b = absurd cc
count_set (r ∷ rs) zero x y is a b =
    let here : ◌≡◌ {A = ℕ} (cond (is_in_hand r) 1 0) 1 = ap (λ (t : Bool). cond t 1 0) (ap is_in_hand (let e : r ≡ x = cc in e) ∙ a) in
    omega (arith, counted r rs, counted y rs, none_of y b, here)
count_set (r ∷ rs) (suc i) x y is a b = omega (arith, counted r rs, counted r (slice_set rs i y), count_set rs i x y is a b)

pub count_settled : (old new : List ChangeRequest) (number : ℕ) (reply : List ℕ) → IsSettled old new number reply → count_by is_in_hand new + 1 ≡ count_by is_in_hand old
count_settled old new number reply h =
    ap (λ (rs : List ChangeRequest). count_by is_in_hand rs + 1) h.list
    ∙ count_set old h.place h.request (record { key = h.request.key; admitted_at = h.request.admitted_at; stage = Answered reply }) h.stands (numbered_in_hand number h.request.stage h.numbered) refl

-- ---- what a caller of `admit` is told

pub new_numbered : (old new : State) (from : Peer) (bytes : List ℕ) (now : ℕ) (answer : Admitted) → Keeps old new from bytes now answer → WhenNew answer (λ n. list_any (is_numbered n) new.requests ≡ true)
new_numbered old new from bytes now (New number) h = ap (list_any (is_numbered number)) h.taken.list ∙ any_last (is_numbered number) (with_room (filter (is_held now) old.requests)) (record { key = key_of from h.packet; admitted_at = now; stage = InHand number (take (length_in bytes) bytes) }) ((Decides-eqb number number).1 refl)
new_numbered old new from bytes now (Repeat frame) h = tt
new_numbered old new from bytes now StillInHand h = tt
new_numbered old new from bytes now (Ignored cause) h = tt

unchanged : (old new : State) → new ≡ old → count_by is_in_hand new.requests ≡ count_by is_in_hand old.requests + 0
unchanged old new h = omega (arith, ap (λ (s : State). count_by is_in_hand s.requests) h)

pub new_counted : (old new : State) (from : Peer) (bytes : List ℕ) (now : ℕ) (answer : Admitted) → Keeps old new from bytes now answer
    → count_by is_in_hand new.requests ≡ count_by is_in_hand old.requests + more_in_hand answer
new_counted old new from bytes now (New number) h = ap (count_by is_in_hand) h.taken.list ∙ count_admitted now _ old.requests refl
new_counted old new from bytes now (Repeat frame) h = unchanged old new h
new_counted old new from bytes now StillInHand h = unchanged old new h
new_counted old new from bytes now (Ignored cause) h = unchanged old new h
