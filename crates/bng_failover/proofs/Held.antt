-- Which requests are in hand where an identifier of a server changes.
use Rattle.std.proofs.Common.{◌≡◌, ◌⊎◌, inl, inr, ℕ, zero, suc, ◌+◌, Bool, true, cond, List, [], ◌∷◌, get_or, set, Option, Some, None, refl, sym, ap, ◌∙◌, arith, ⊎_elim}
use Rattle.std.specs.Prelude.{slice_get, count_by}
use Rattle.std.proofs.lemmas.List.Sums.{get_or-le-sum_by}
use Rattle.std.proofs.lemmas.Option.{slice_get_within, get_or_from_slice_get}
use Rattle.bng_rad_client.specs.declared.pending.Pending.{Pending}
use Rattle.bng_rad_client.specs.declared.rules.Owner.{Owner}
use Rattle.bng_rad_client.specs.Table.{Table, request_of}
use Rattle.bng_failover.specs.declared.server.Server.{Server}
use Rattle.bng_failover.specs.Servers.{held, held_by, is_of, request_at, with_table, without}
use Rattle.bng_failover.proofs.Changes.{written, written_or, held_within, number_set, one_at}

-- what stands at a place is what was written there, or what stands there where another thing was written
rewritten : {A : Type 0} → (l : List A) (i j : ℕ) (x z y : A) → slice_get (set l i x) j ≡ Some y → ((j ≡ i) × (y ≡ x)) ⊎ (slice_get (set l i z) j ≡ Some y)
rewritten [] i j x z y e = inr e
rewritten (a ∷ l) zero zero x z y e = inl (refl, cc)
rewritten (a ∷ l) zero (suc j) x z y e = inr e
rewritten (a ∷ l) (suc i) zero x z y e = inr e
rewritten (a ∷ l) (suc i) (suc j) x z y e = ⊎_elim (λ here. inl (ap suc here.0, here.1)) (λ other. inr other) (rewritten l i j x z y e)

rewritten_or : {A : Type 0} → (l : List A) (i j : ℕ) (x z d : A) → ((j ≡ i) × (get_or (set l i x) j d ≡ x)) ⊎ (get_or (set l i x) j d ≡ get_or (set l i z) j d)
rewritten_or [] i j x z d = inr refl
rewritten_or (y ∷ l) zero zero x z d = inl (refl, refl)
rewritten_or (y ∷ l) zero (suc j) x z d = inr refl
rewritten_or (y ∷ l) (suc i) zero x z d = inr refl
rewritten_or (y ∷ l) (suc i) (suc j) x z d = ⊎_elim (λ here. inl (ap suc here.0, here.1)) (λ other. inr other) (rewritten_or l i j x z d)

-- what was written at a place stands there
stands : {A : Type 0} → (l : List A) (i : ℕ) (x y : A) → slice_get l i ≡ Some y → slice_get (set l i x) i ≡ Some x
stands [] i x y e = absurd (let both : None ≡ Some y = e in cc)
stands (a ∷ l) zero x y e = refl
stands (a ∷ l) (suc i) x y e = stands l i x y e

-- nothing stands where none was written
none_there : (places : List (Option Pending)) (id : ℕ) → request_of (set places id None) id ≡ None
none_there [] id = refl
none_there (p ∷ places) zero = refl
none_there (p ∷ places) (suc id) = none_there places id

-- the server that holds a request
pub record IsHeld (servers : List Server) (at id : ℕ) (r : Pending) : Type 0 where
  pub server : Server
  pub is : slice_get servers at ≡ Some server
  pub request : request_of server.requests.places id ≡ Some r

pub holder : (servers : List Server) (at id : ℕ) (r : Pending) → request_at servers at id ≡ Some r → IsHeld servers at id r
holder servers at id r e = by_server (slice_get servers at) refl e
  where
    by_server : (o : Option Server) → slice_get servers at ≡ o → held_by o id ≡ Some r → IsHeld servers at id r
    by_server None is h = absurd (let both : None ≡ Some r = h in cc)
    by_server (Some s) is h = record { server = s; is = is; request = h }

pub at_holder : (servers : List Server) (at id : ℕ) (s : Server) (r : Pending) → slice_get servers at ≡ Some s → request_of s.requests.places id ≡ Some r → request_at servers at id ≡ Some r
at_holder servers at id s r is h = ap (λ (o : Option Server). held_by o id) is ∙ h

-- where none is in hand whose owner passes a test, no identifier has one
pub none_held : (test : Owner → Bool) (servers : List Server) → held test servers ≡ 0 → (at id : ℕ) (r : Pending) → request_at servers at id ≡ Some r → test r.owner ≡ true → ⊥
none_held test servers none at id r e pass =
    let h = holder servers at id r e in
    let s : Server = h.server in
    let f : Server → ℕ = λ x. count_by (is_of test) x.requests.places in
    let in_server = get_or-le-sum_by (one_at (is_of test)) s.requests.places id None (held_within s.requests.places id r h.request) in
    let one : one_at (is_of test) (request_of s.requests.places id) ≡ 1 = ap (one_at (is_of test)) h.request ∙ ap (λ (b : Bool). cond b 1 0) pass in
    let in_all = get_or-le-sum_by f servers at s (slice_get_within servers at s h.is) in
    let here : f (get_or servers at s) ≡ f s = ap f (get_or_from_slice_get servers at s s h.is) in
    absurd (omega (arith, none, in_server, one, in_all, here))

-- each request that is in hand after was in hand before, at the same server under the same identifier
abbrev pub Within : (new old : List Server) → Type 0
Within new old = (at id : ℕ) (r : Pending) → request_at new at id ≡ Some r → request_at old at id ≡ Some r

module _ (old : List Server) (at : ℕ) (s : Server) (is : slice_get old at ≡ Some s) (id : ℕ) where
  pub freed_within : Within (without old at s id) old
  freed_within a j r e =
      let h = holder (without old at s id) a j r e in
      let freed : Server = record s { requests = record s.requests { places = set s.requests.places id None } } in
      ⊎_elim
      (λ here.
      let there : request_of (set s.requests.places id None) j ≡ Some r = ap (λ (x : Server). request_of x.requests.places j) (sym here.1) ∙ h.request in
      ⊎_elim
      (λ mine. absurd (let both : None ≡ Some r = sym mine.1 ∙ there in cc))
      (λ other. at_holder old a j s r (ap (λ (k : ℕ). slice_get old k) here.0 ∙ is) (sym other ∙ there))
      (written_or s.requests.places id j None None))
      (λ same. at_holder old a j h.server r same h.request)
      (written old at a freed h.server h.is)

  -- where one identifier has a request, one fewer is in hand with it freed
  pub freed_count : (test : Owner → Bool) (r : Pending) → request_of s.requests.places id ≡ Some r → test r.owner ≡ true → held test (without old at s id) + 1 ≡ held test old
  freed_count test r mine pass =
      let table : Table = record s.requests { places = set s.requests.places id None } in
      let count = number_set old at s is (is_of test) table id None (held_within s.requests.places id r mine) refl in
      let one : one_at (is_of test) (request_of s.requests.places id) ≡ 1 = ap (one_at (is_of test)) mine ∙ ap (λ (b : Bool). cond b 1 0) pass in
      omega (arith, count, one)

  -- under the freed identifier none is in hand
  pub freed_gone : (a j : ℕ) (r : Pending) → request_at (without old at s id) a j ≡ Some r → a ≡ at → j ≡ id → ⊥
  freed_gone a j r e same_at same_id =
      let h = holder (without old at s id) a j r e in
      let freed : Server = record s { requests = record s.requests { places = set s.requests.places id None } } in
      let both : Some freed ≡ Some h.server = sym (stands old at freed s is) ∙ ap (λ (k : ℕ). slice_get (without old at s id) k) (sym same_at) ∙ h.is in
      let one : freed ≡ h.server = cc in
      let there : request_of (set s.requests.places id None) j ≡ Some r = ap (λ (x : Server). request_of x.requests.places j) one ∙ h.request in
      absurd (let both : None ≡ Some r = sym (none_there s.requests.places id) ∙ ap (λ (k : ℕ). request_of (set s.requests.places id None) k) (sym same_id) ∙ there in cc)

  -- a request in hand is the one that an identifier was given, or is in hand with that identifier freed
  pub given : (table : Table) (x : Option Pending) → table.places ≡ set s.requests.places id x → (a j : ℕ) (r : Pending) → request_at (with_table old at s table) a j ≡ Some r
      → ((a ≡ at) × (j ≡ id) × (x ≡ Some r)) ⊎ (request_at (without old at s id) a j ≡ Some r)
  given table x set_one a j r e =
      let h = holder (with_table old at s table) a j r e in
      let full : Server = record s { requests = table } in
      let freed : Server = record s { requests = record s.requests { places = set s.requests.places id None } } in
      ⊎_elim
      (λ here.
      let there : request_of (set s.requests.places id x) j ≡ Some r =
      sym (ap (λ (ps : List (Option Pending)). request_of ps j) set_one) ∙ ap (λ (y : Server). request_of y.requests.places j) (sym here.1) ∙ h.request in
      ⊎_elim
      (λ mine. inl (here.0, mine.0, sym mine.1 ∙ there))
      (λ other. inr (at_holder (without old at s id) a j freed r (ap (λ (k : ℕ). slice_get (without old at s id) k) here.0 ∙ stands old at freed s is) (sym other ∙ there)))
      (rewritten_or s.requests.places id j x None None))
      (λ same. inr (at_holder (without old at s id) a j h.server r same h.request))
      (rewritten old at a full freed h.server h.is)
