-- The live terms that owe an Interim: the first of them, and those that are left once it is taken.
use Rattle.std.proofs.Common.{◌≡◌, ◌≢◌, ℕ, ◌+◌, ◌-◌, ◌*◌, ◌%◌, ◌<◌, ◌≤◌, Bool, true, false, not, cond, T, List, [], ◌∷◌, map, Option, Some, None, refl, sym, ap, subst, ◌∙◌, arith}
use Rattle.std.specs.Prelude.{nat_le, filter, filter_map, is_some, IfSome}
use Rattle.std.specs.List.{cons_option}
use Rattle.std.specs.Option.{option_and_then, option_map_or}
use Rattle.std.specs.Ordering.{nat_cmp, eq_by_cmp}
use Rattle.std.specs.FinMap.{entries, entries_sorted, is_sorted, get-entries}
use Rattle.std.specs.FinMap.{find as find_at}
use Rattle.std.proofs.lemmas.Bool.{false≢true}
use Rattle.std.proofs.lemmas.Bool.Decides.{nat_tests}
use Rattle.std.proofs.lemmas.List.{get_or-set_other}
use Rattle.std.proofs.lemmas.Nat.{mod-mul-add}
use Rattle.bng_base.specs.declared.address.SessionNo.{SessionNo}
use Rattle.bng_engine.specs.Views.{Row}
use Rattle.bng_sessions.specs.Sessions.{Sessions, IsNumberOf, value_at}
use Rattle.bng_sessions.specs.Listed.{values}
use Rattle.bng_steps.specs.declared.session.Session.{Session}
use Rattle.bng_steps.specs.Interims.{are_none, interim_at, interim_in, owes, reported_at, row_in, with_report}
use Rattle.bng_steps.specs.Passing.{place_in}
use Rattle.bng_steps.specs.Serving.{AreOfShard, AreOwn}
use Rattle.bng_steps.specs.State.{State}
use Rattle.bng_steps.specs.Surveying.{AreSpaced, IsFirstOwing}
use Rattle.bng_steps.proofs.Earliest.{read_there}
use Rattle.bng_steps.proofs.Values.{above, behind, first, first_found, none_some, number_same, same_some, second}

-- Values that pass a test ------------------------------------------------------------------------------------------------

module _ {V : Type 0} where
  abbrev values_of : List (ℕ × V) → List V
  values_of es = map (λ e. e.1) es

  same_filter : (p q : V → Bool) (es : List (ℕ × V)) → T (is_sorted nat_cmp es) → ((m : ℕ) (y : V) → find_at nat_cmp m es ≡ Some y → q y ≡ p y) → filter q (values_of es) ≡ filter p (values_of es)
  same_filter p q [] h same = refl
  same_filter p q (e ∷ es) h same =
      ap (λ b. cond b (e.1 ∷ filter q (values_of es)) (filter q (values_of es))) (same e.0 e.1 (first_found e es))
      ∙ ap (λ ys. cond (p e.1) (e.1 ∷ ys) ys) (same_filter p q es (second _ _ h) (λ m y f. same m y (behind e es m y (first _ _ h) f)))

  no_filter : (p : V → Bool) (es : List (ℕ × V)) → T (is_sorted nat_cmp es) → ((m : ℕ) (y : V) → find_at nat_cmp m es ≡ Some y → p y ≡ false) → filter p (values_of es) ≡ []
  no_filter p [] h fails = refl
  no_filter p (e ∷ es) h fails =
      ap (λ b. cond b (e.1 ∷ filter p (values_of es)) (filter p (values_of es))) (fails e.0 e.1 (first_found e es))
      ∙ no_filter p es (second _ _ h) (λ m y f. fails m y (behind e es m y (first _ _ h) f))

  first_filter : (p q : V → Bool) (es : List (ℕ × V)) (n : ℕ) (x : V) → T (is_sorted nat_cmp es) → find_at nat_cmp n es ≡ Some x → p x ≡ true → q x ≡ false
      → ((m : ℕ) (y : V) → m < n → find_at nat_cmp m es ≡ Some y → p y ≡ false) → ((m : ℕ) (y : V) → m ≢ n → find_at nat_cmp m es ≡ Some y → q y ≡ p y)
      → filter p (values_of es) ≡ x ∷ filter q (values_of es)
  first_filter p q [] n x h is passes fails lower others = absurd (none_some x is)
  first_filter p q (e ∷ es) n x h is passes fails lower others =
      elim (eq_by_cmp nat_cmp n e.0) as (λ b. eq_by_cmp nat_cmp n e.0 ≡ b → cond b (Some e.1) (find_at nat_cmp n es) ≡ Some x → filter p (values_of (e ∷ es)) ≡ x ∷ filter q (values_of (e ∷ es))) [
        | true ↦ λ t f.
            let at : n ≡ e.0 = number_same n e.0 t in
            let same : e.1 ≡ x = same_some e.1 x f in
            let rest = same_filter p q es (second _ _ h) (λ m y g. others m y (λ k. let over = above e.0 m y es (first _ _ h) g in omega (arith, at, k, over)) (behind e es m y (first _ _ h) g)) in
            ap (λ b. cond b (e.1 ∷ filter p (values_of es)) (filter p (values_of es))) (ap p same ∙ passes)
            ∙ ap (λ v. v ∷ filter p (values_of es)) same ∙ ap (λ ys. x ∷ ys) (sym rest)
            ∙ sym (ap (λ b. x ∷ cond b (e.1 ∷ filter q (values_of es)) (filter q (values_of es))) (ap q same ∙ fails))
        | false ↦ λ t f.
            let over = above e.0 n x es (first _ _ h) f in
            let low = lower e.0 e.1 over (first_found e es) in
            ap (λ b. cond b (e.1 ∷ filter p (values_of es)) (filter p (values_of es))) low
            ∙ first_filter p q es n x (second _ _ h) f passes fails (λ m y l g. lower m y l (behind e es m y (first _ _ h) g)) (λ m y d g. others m y d (behind e es m y (first _ _ h) g))
            ∙ sym (ap (λ b. x ∷ cond b (e.1 ∷ filter q (values_of es)) (filter q (values_of es))) (others e.0 e.1 (λ k. omega (arith, k, over)) (first_found e es) ∙ low))
      ] refl is

  -- of the values that pass one test the first is this one, which fails another; each other value passes both or fails both
  pub first_of_these : (p q : V → Bool) (s : Sessions V) (n : ℕ) (x : V) → value_at s n ≡ Some x → p x ≡ true → q x ≡ false
      → ((m : ℕ) (y : V) → m < n → value_at s m ≡ Some y → p y ≡ false) → ((m : ℕ) (y : V) → m ≢ n → value_at s m ≡ Some y → q y ≡ p y)
      → filter p (values s) ≡ x ∷ filter q (values s)
  first_of_these p q s n x is passes fails lower others =
      first_filter p q (entries s.by_number) n x (entries_sorted s.by_number) (sym (get-entries s.by_number n) ∙ is) passes fails
      (λ m y l g. lower m y l (get-entries s.by_number m ∙ g)) (λ m y d g. others m y d (get-entries s.by_number m ∙ g))

  pub none_of_these : (p : V → Bool) (s : Sessions V) → ((n : ℕ) (x : V) → value_at s n ≡ Some x → p x ≡ false) → filter p (values s) ≡ []
  none_of_these p s fails = no_filter p (entries s.by_number) (entries_sorted s.by_number) (λ m y g. fails m y (get-entries s.by_number m ∙ g))

-- Places -----------------------------------------------------------------------------------------------------------------

place_is : (shard n : ℕ) → IsNumberOf shard n → n % 1024 ≡ n - shard * 1024
place_is shard n is =
    let low = is.0 in
    let high = is.1 in
    let split : n ≡ shard * 1024 + (n - shard * 1024) = omega (arith, low) in
    ap (λ (k : ℕ). k % 1024) split ∙ mod-mul-add shard 1024 (n - shard * 1024) (omega (arith, low, high))

-- no two numbers of a shard have one place
pub places_differ : (shard m n : ℕ) → IsNumberOf shard m → IsNumberOf shard n → m ≢ n → m % 1024 ≢ n % 1024
places_differ shard m n is_m is_n differ same =
    let at_m = place_is shard m is_m in
    let at_n = place_is shard n is_n in
    let low_m = is_m.0 in
    let low_n = is_n.0 in
    differ (omega (arith, same, at_m, at_n, low_m, low_n))

-- Interims that are due --------------------------------------------------------------------------------------------------

not_yet : (now at : ℕ) → now < at → nat_le at now ≡ false
not_yet now at l = grind (arith, nat_tests)

pub later_fails : (now : ℕ) (o : Option ℕ) → IfSome o (λ at. now < at) → option_map_or (λ at. nat_le at now) o false ≡ false
later_fails now None h = refl
later_fails now (Some at) h = not_yet now at h

pub not_come : (next now : ℕ) → false ≡ nat_le next now → now < next
not_come next now e = grind (arith, nat_tests)

after_minute : (now : ℕ) (o : Option ℕ) → IfSome o (λ at. now + 60000 ≤ at) → IfSome o (λ at. now < at)
after_minute now None h = h
after_minute now (Some at) h = omega (arith, h)

pub first_part : (now until : ℕ) (o : Option ℕ) → IfSome o (λ at. (now < at) × (until ≤ at)) → IfSome o (λ at. now < at)
first_part now until None h = h
first_part now until (Some at) h = h.0

pub once_due : (next now : ℕ) (o : Option ℕ) → now < next → IfSome o (λ at. next ≤ at) → IfSome o (λ at. now < at)
once_due next now None l h = h
once_due next now (Some at) l h = omega (arith, l, h)

-- a report of one session changes nothing of the others
pub other_reported : (last : List ℕ) (now : ℕ) (n : SessionNo) (x : Session) → place_in x.number ≢ place_in n → interim_at (with_report last now n) x ≡ interim_at last x
other_reported last now n x differ = ap (λ at. interim_in at x.lease) (get_or-set_other last (place_in n) (place_in x.number) now 0 differ)

comes : (now at : ℕ) → at ≤ now → nat_le at now ≡ true
comes now at l = grind (arith, nat_tests)

-- The session at which a walk by rising number ends, where none was due before.
pub first_is : (s : State) (last : List ℕ) (now until n at low : ℕ) → AreOwn s.sessions → AreOfShard s.sessions → low ≤ s.sessions.shard * 1024 + 1
    → option_and_then (interim_at last) (value_at s.sessions n) ≡ Some at → at ≤ now → ((x : Session) → value_at s.sessions n ≡ Some x → AreSpaced x.lease)
    → ((m : ℕ) (x : Session) → low ≤ m → m < n → value_at s.sessions m ≡ Some x → IfSome (interim_at last x) (λ t. (now < t) × (until ≤ t)))
    → IsFirstOwing s last now (record { 0 = n })
first_is s last now until n at low own of_shard starts is due spaced later =
    let (x, found, moment) = read_there (interim_at last) (value_at s.sessions n) at is in
    record {
      session = x;
      found = found;
      own = ap (λ (k : ℕ). record { 0 = k }) (own n x found);
      due = ap (λ o. option_map_or (λ t. nat_le t now) o false) moment ∙ comes now at due;
      first = λ m y l there.
          let above_low = (of_shard m (ap is_some there)).0 in
          later_fails now (interim_at last y) (first_part now until _ (later m y (omega (arith, starts, above_low)) l there));
      spaced = spaced x found;
      apart = λ m y differ there same.
          places_differ s.sessions.shard m n (of_shard m (ap is_some there)) (of_shard n (ap is_some found)) differ (ap (λ (k : ℕ). k % 1024) (sym (own m y there)) ∙ same);
    }

abbrev pub owing : List Row → Sessions Session → List ℕ → ℕ → List Row
owing rows sessions last now = filter_map (row_in rows) (filter (owes last now) (values sessions))

-- where none is due
pub none_owing : (rows : List Row) (sessions : Sessions Session) (last : List ℕ) (now : ℕ) → ((n : ℕ) (x : Session) → value_at sessions n ≡ Some x → IfSome (interim_at last x) (λ at. now < at)) → owing rows sessions last now ≡ []
none_owing rows sessions last now later = ap (filter_map (row_in rows)) (none_of_these (owes last now) sessions (λ n x is. later_fails now (interim_at last x) (later n x is)))

module _ (s : State) (last : List ℕ) (now : ℕ) (n : SessionNo) (h : IsFirstOwing s last now n) (noted : reported_at (with_report last now n) n ≡ now) where
  -- the session's next Interim
  pub next_of : interim_at (with_report last now n) h.session ≡ interim_in now h.session.lease
  next_of = ap (λ (k : SessionNo). interim_in (reported_at (with_report last now n) k) h.session.lease) h.own ∙ ap (λ at. interim_in at h.session.lease) noted

  spaced : IfSome (interim_at (with_report last now n) h.session) (λ at. now + 60000 ≤ at)
  spaced = subst (λ o. IfSome o (λ at. now + 60000 ≤ at)) (sym next_of) (h.spaced now)

  -- the first that is due is that of this session, and once it is taken the others are left
  pub first_owing : (rows : List Row) (r : Row) → row_in rows h.session ≡ Some r → owing rows s.sessions last now ≡ r ∷ owing rows s.sessions (with_report last now n) now
  first_owing rows r is =
      ap (filter_map (row_in rows))
      (first_of_these (owes last now) (owes (with_report last now n) now) s.sessions n.0 h.session h.found h.due (later_fails now _ (after_minute now _ spaced)) h.first
      (λ m y differ at. ap (λ o. option_map_or (λ at. nat_le at now) o false) (other_reported last now n y (h.apart m y differ at))))
      ∙ ap (λ o. cons_option o (owing rows s.sessions (with_report last now n) now)) is

-- What was answered --------------------------------------------------------------------------------------------------------

pub no_answers : {X : Type 0} (xs : List X) → not (are_none xs) ≡ false → xs ≡ []
no_answers [] e = refl
no_answers (x ∷ xs) e = absurd (false≢true (sym e))
