-- The servers of a lane of which one changes.
use Rattle.std.proofs.Common.{◌≡◌, ◌⊎◌, inl, inr, ℕ, zero, suc, ◌+◌, ◌<◌, Bool, cond, List, [], ◌∷◌, length, get_or, set, Option, Some, None, refl, sym, ap, subst, ◌∙◌, arith, ⊎_elim}
use Rattle.std.specs.Prelude.{is_some, slice_get, sum_by, count_by}
use Rattle.std.proofs.lemmas.List.{length-set}
use Rattle.std.proofs.lemmas.List.Sums.{sum_by-set, get_or-le-sum_by}
use Rattle.std.proofs.lemmas.Option.{slice_get_within, get_or_from_slice_get}
use Rattle.bng_base.specs.Packet.{Packet as Bytes}
use Rattle.bng_base.specs.declared.address.Peer.{Peer}
use Rattle.bng_radius_wire.specs.Grammar.{IsRadius}
use Rattle.bng_radius_wire.specs.Digests.{signed_request}
use Rattle.bng_rad_client.specs.declared.pending.Pending.{Pending}
use Rattle.bng_rad_client.specs.declared.rules.Owner.{Owner}
use Rattle.bng_rad_client.specs.Table.{Table, request_of, taken}
use Rattle.bng_failover.specs.declared.server.Server.{Server}
use Rattle.bng_failover.specs.Servers.{number, in_hand, is_of, one_of, Gains, Loses, Keeps, with_table, without, CanBeAsked, IsSoundServer, AreSound}
use Rattle.bng_failover.specs.Asking.{IsAskedAt}
use Rattle.bng_failover.specs.Due.{IsRepeatedAt}
use Rattle.bng_failover.specs.Places.{IsWithdrawnAt, IsHandedOver, HasRoomAt}
use Rattle.bng_failover.proofs.Signing.{can_again}

-- what stands at a place is what was written there, or what was there
pub written : {A : Type 0} → (l : List A) (i j : ℕ) (x y : A) → slice_get (set l i x) j ≡ Some y → ((j ≡ i) × (y ≡ x)) ⊎ (slice_get l j ≡ Some y)
written [] i j x y e = inr e
written (a ∷ l) zero zero x y e = inl (refl, cc)
written (a ∷ l) zero (suc j) x y e = inr e
written (a ∷ l) (suc i) zero x y e = inr e
written (a ∷ l) (suc i) (suc j) x y e = ⊎_elim (λ here. inl (ap suc here.0, here.1)) (λ other. inr other) (written l i j x y e)

-- the same of a place that is read with a default
pub written_or : {A : Type 0} → (l : List A) (i j : ℕ) (x d : A) → ((j ≡ i) × (get_or (set l i x) j d ≡ x)) ⊎ (get_or (set l i x) j d ≡ get_or l j d)
written_or [] i j x d = inr refl
written_or (y ∷ l) zero zero x d = inl (refl, refl)
written_or (y ∷ l) zero (suc j) x d = inr refl
written_or (y ∷ l) (suc i) zero x d = inr refl
written_or (y ∷ l) (suc i) (suc j) x d = ⊎_elim (λ here. inl (ap suc here.0, here.1)) (λ other. inr other) (written_or l i j x d)

abbrev Places : Type 0
Places = List (Option Pending)

abbrev Each : List Server → Type 0
Each servers = (at : ℕ) (s : Server) → slice_get servers at ≡ Some s → IsSoundServer s

abbrev pub one_at : (Option Pending → Bool) → Option Pending → ℕ
one_at test place = cond (test place) 1 0

module _ (old : List Server) (at : ℕ) (s : Server) (is : slice_get old at ≡ Some s) where
  -- a number of identifiers where the requests of one server change
  number_with : (test : Option Pending → Bool) (table : Table) → number test (with_table old at s table) + count_by test s.requests.places ≡ number test old + count_by test table.places
  number_with test table =
      let f : Server → ℕ = λ x. count_by test x.requests.places in
      subst (λ (x : Server). sum_by f (with_table old at s table) + f x ≡ sum_by f old + f (record s { requests = table })) (get_or_from_slice_get old at s s is)
      (sum_by-set f old at (record s { requests = table }) s (slice_get_within old at s is))

  -- where one of its identifiers changes
  pub number_set : (test : Option Pending → Bool) (table : Table) (id : ℕ) (x : Option Pending) → id < length s.requests.places → table.places ≡ set s.requests.places id x
      → number test (with_table old at s table) + one_at test (request_of s.requests.places id) ≡ number test old + one_at test x
  number_set test table id x below e =
      let set_one = sum_by-set (one_at test) s.requests.places id x None below in
      let all = number_with test table in
      let same : count_by test table.places ≡ count_by test (set s.requests.places id x) = ap (count_by test) e in
      omega (arith, set_one, all, same)

  -- each server is sound where the changed one is
  each_with : (table : Table) → Each old → IsSoundServer (record s { requests = table }) → Each (with_table old at s table)
  each_with table each sound k x e = ⊎_elim
      (λ here. subst IsSoundServer (sym here.1) sound)
      (λ there. each k x there)
      (written old at k (record s { requests = table }) x e)

  -- a server is sound where an identifier of it is freed, or has a request that can be signed
  sound_set : (table : Table) (id : ℕ) (x : Option Pending) → IsSoundServer s → ((r : Pending) → x ≡ Some r → CanBeAsked r.octets) → table.places ≡ set s.requests.places id x
      → IsSoundServer (record s { requests = table })
  sound_set table id x sound can e = record {
    size = ap (λ (ps : Places). length ps) e ∙ length-set s.requests.places id x ∙ sound.size;
    requests = λ other r there. ⊎_elim
        (λ here. can r (sym here.1 ∙ sym (ap (λ (ps : Places). request_of ps other) e) ∙ there))
        (λ same. sound.requests other r (sym same ∙ sym (ap (λ (ps : Places). request_of ps other) e) ∙ there))
        (written_or s.requests.places id other x None);
  }

-- one request more is in hand
pub record IsGrown (old new : List Server) (owner : Owner) : Type 0 where
  pub owners : Gains old new owner
  pub count : in_hand new ≡ in_hand old + 1
  pub size : length new ≡ length old
  pub each : Each new

-- one is in hand no longer
pub record IsShrunk (old new : List Server) (owner : Owner) : Type 0 where
  pub owners : Loses old new owner
  pub count : in_hand old ≡ in_hand new + 1
  pub size : length new ≡ length old
  pub each : Each new

-- as many are in hand, of the same owners
pub record IsAsMany (old new : List Server) : Type 0 where
  pub owners : Keeps old new
  pub count : in_hand new ≡ in_hand old
  pub size : length new ≡ length old
  pub each : Each new

-- where a request has an identifier, that is one of the places
pub held_within : (places : Places) (id : ℕ) (r : Pending) → request_of places id ≡ Some r → id < length places
held_within [] id r e = absurd (let both : None ≡ Some r = e in cc)
held_within (p ∷ places) zero r e = omega arith
held_within (p ∷ places) (suc id) r e = let rest = held_within places id r e in omega (arith, rest)

-- where one place of the list has a server in place of another
same_size : (old : List Server) (at : ℕ) (s : Server) (table : Table) → length (with_table old at s table) ≡ length old
same_size old at s table = length-set old at (record s { requests = table })

pub room_at : (servers : List Server) (at : ℕ) → in_hand servers < 256 → HasRoomAt servers at
room_at servers at few s is =
    let f : Server → ℕ = λ x. taken x.requests.places in
    let within = get_or-le-sum_by f servers at s (slice_get_within servers at s is) in
    let here : f (get_or servers at s) ≡ f s = ap f (get_or_from_slice_get servers at s s is) in
    omega (arith, within, here, few)

module _ (old : List Server) (each : Each old) where
  -- where one identifier of a server changes
  counted : (new : List Server) (at : ℕ) (s : Server) (is : slice_get old at ≡ Some s) (table : Table) (id : ℕ) (x : Option Pending) → new ≡ with_table old at s table
      → id < length s.requests.places → table.places ≡ set s.requests.places id x → (test : Option Pending → Bool)
      → number test new + one_at test (request_of s.requests.places id) ≡ number test old + one_at test x
  counted new at s is table id x e below set_one test =
      subst (λ (n : ℕ). n + one_at test (request_of s.requests.places id) ≡ number test old + one_at test x) (sym (ap (number test) e)) (number_set old at s is test table id x below set_one)

  sound_after : (new : List Server) (at : ℕ) (s : Server) (is : slice_get old at ≡ Some s) (table : Table) (id : ℕ) (x : Option Pending) → new ≡ with_table old at s table
      → table.places ≡ set s.requests.places id x → ((r : Pending) → x ≡ Some r → CanBeAsked r.octets) → Each new
  sound_after new at s is table id x e set_one can =
      subst Each (sym e) (each_with old at s is table each (sound_set old at s is table id x (each at s is) can set_one))

  pub grown : (new : List Server) (at : ℕ) (owner : Owner) (request secret : List ℕ) (now : ℕ) (peer : Peer) (frame : Bytes) → IsAskedAt old new at owner request secret now peer frame → IsGrown old new owner
  grown new at owner request secret now peer frame h =
      let s : Server = h.server in
      let id : ℕ = h.asks.id in
      let made : Pending = h.asks.asked.made in
      let below : id < length s.requests.places = omega (arith, (each at s h.is).size, h.asks.asked.next.place) in
      let step = counted new at s h.is h.table id (Some made) h.servers below h.asks.asked.places in
      record {
        owners = λ test.
            let mine : one_of test made.owner ≡ one_of test owner = ap (one_of test) h.asks.asked.owner_is in
            let none : one_at (is_of test) (request_of s.requests.places id) ≡ 0 = ap (one_at (is_of test)) h.asks.asked.next.free in
            omega (arith, step (is_of test), mine, none);
        count =
            let none : one_at is_some (request_of s.requests.places id) ≡ 0 = ap (one_at is_some) h.asks.asked.next.free in
            omega (arith, step is_some, none);
        size = ap length h.servers ∙ same_size old at s h.table;
        each = sound_after new at s h.is h.table id (Some made) h.servers h.asks.asked.places (λ r e.
            let one : r ≡ made = cc in
            subst (λ (x : Pending). CanBeAsked x.octets) (sym one) (record {
              packet = signed_request (record h.asks.packet { id = id }) secret;
              reads = subst (IsRadius (signed_request (record h.asks.packet { id = id }) secret)) (sym h.asks.asked.octets) h.asks.asked.reads;
              can = can_again (record h.asks.packet { id = id }) secret (record { one = h.asks.can.one; sized = h.asks.can.sized });
            }));
      }

  pub shrunk : (new : List Server) (at id : ℕ) (r : Pending) → IsWithdrawnAt old new at id (Some r) → IsShrunk old new r.owner
  shrunk new at id r h =
      let s : Server = h.server in
      let table : Table = record s.requests { places = set s.requests.places id None } in
      let below : id < length s.requests.places = held_within s.requests.places id r (sym h.request) in
      let step = counted new at s h.is table id None h.servers below refl in
      record {
        owners = λ test.
            let mine : one_at (is_of test) (request_of s.requests.places id) ≡ one_of test r.owner = ap (one_at (is_of test)) (sym h.request) in
            omega (arith, step (is_of test), mine);
        count =
            let mine : one_at is_some (request_of s.requests.places id) ≡ 1 = ap (one_at is_some) (sym h.request) in
            omega (arith, step is_some, mine);
        size = ap length h.servers ∙ same_size old at s table;
        each = sound_after new at s h.is table id None h.servers refl (λ x e. absurd cc);
      }

  pub unmoved : (new : List Server) (at id : ℕ) → id < 256 → IsWithdrawnAt old new at id None → IsAsMany old new
  unmoved new at id small h =
      let s : Server = h.server in
      let table : Table = record s.requests { places = set s.requests.places id None } in
      let below : id < length s.requests.places = omega (arith, (each at s h.is).size, small) in
      let step = counted new at s h.is table id None h.servers below refl in
      record {
        owners = λ test.
            let none : one_at (is_of test) (request_of s.requests.places id) ≡ 0 = ap (one_at (is_of test)) (sym h.request) in
            omega (arith, step (is_of test), none);
        count =
            let none : one_at is_some (request_of s.requests.places id) ≡ 0 = ap (one_at is_some) (sym h.request) in
            omega (arith, step is_some, none);
        size = ap length h.servers ∙ same_size old at s table;
        each = sound_after new at s h.is table id None h.servers refl (λ x e. absurd cc);
      }

  pub repeated : (new : List Server) (at id now : ℕ) (peer : Peer) (frame : Bytes) → IsRepeatedAt old new at id now peer frame → IsAsMany old new
  repeated new at id now peer frame h =
      let s : Server = h.server in
      let before : Pending = h.sent.before in
      let after : Pending = h.sent.after in
      let below : id < length s.requests.places = held_within s.requests.places id before h.sent.was in
      let step = counted new at s h.is h.table id (Some after) h.servers below h.sent.places in
      record {
        owners = λ test.
            let was : one_at (is_of test) (request_of s.requests.places id) ≡ one_of test before.owner = ap (one_at (is_of test)) h.sent.was in
            let same : one_of test after.owner ≡ one_of test before.owner = ap (one_of test) h.sent.owner in
            omega (arith, step (is_of test), was, same);
        count =
            let was : one_at is_some (request_of s.requests.places id) ≡ 1 = ap (one_at is_some) h.sent.was in
            omega (arith, step is_some, was);
        size = ap length h.servers ∙ same_size old at s h.table;
        each = sound_after new at s h.is h.table id (Some after) h.servers h.sent.places (λ r e.
            let one : r ≡ after = cc in
            let octets : r.octets ≡ before.octets = ap (λ (x : Pending). x.octets) one ∙ h.sent.octets in
            subst CanBeAsked (sym octets) ((each at s h.is).requests id before h.sent.was));
      }

-- a request that goes from one server to another
pub handed : (old : List Server) → AreSound old → (new : List Server) (from id to : ℕ) (secret : List ℕ) (now : ℕ) (peer : Peer) (frame : Bytes) → IsHandedOver old new from id to secret now peer frame → IsAsMany old new
handed old sound new from id to secret now peer frame h =
    let mid : List Server = without old from h.server id in
    let out = shrunk old sound.each mid from id h.request (record { server = h.server; is = h.is; request = sym h.was; servers = refl }) in
    let into = grown mid out.each new to h.request.owner h.request.octets secret now peer frame h.asked in
    record {
      owners = λ test. omega (arith, out.owners test, into.owners test);
      count = omega (arith, out.count, into.count);
      size = into.size ∙ out.size;
      each = into.each;
    }

-- as many, or one fewer, are sound
pub still_sound : (old new : List Server) → AreSound old → IsAsMany old new → AreSound new
still_sound old new sound h = record { some = omega (arith, sound.some, h.size); most = omega (arith, sound.most, h.count); each = h.each }

pub fewer_sound : (old new : List Server) (owner : Owner) → AreSound old → IsShrunk old new owner → AreSound new
fewer_sound old new owner sound h = record { some = omega (arith, sound.some, h.size); most = omega (arith, sound.most, h.count); each = h.each }

pub more_sound : (old new : List Server) (owner : Owner) → AreSound old → in_hand old < 256 → IsGrown old new owner → AreSound new
more_sound old new owner sound few h = record { some = omega (arith, sound.some, h.size); most = omega (arith, few, h.count); each = h.each }

-- a server in its own place
set_same : (old : List Server) (at : ℕ) (s : Server) → slice_get old at ≡ Some s → set old at s ≡ old
set_same [] at s is = refl
set_same (x ∷ old) zero s is = let one : x ≡ s = cc in ap (λ (y : Server). y ∷ old) (sym one)
set_same (x ∷ old) (suc at) s is = ap (λ (ys : List Server). x ∷ ys) (set_same old at s is)

pub unchanged : (old : List Server) (at : ℕ) (s : Server) → slice_get old at ≡ Some s → with_table old at s s.requests ≡ old
unchanged old at s is = set_same old at s is
