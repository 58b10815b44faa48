-- The trail of each request in hand, where a call changes one identifier of a server.
use Rattle.std.proofs.Common.{◌≡◌, ◌==◌, ◌&&◌, ℕ, Bool, true, false, cond, List, length, set, Option, Some, None, unwrap_or, refl, sym, ap, subst, ◌∙◌, ⊎_elim}
use Rattle.std.specs.Prelude.{slice_get}
use Rattle.std.specs.List.{position_from}
use Rattle.std.proofs.lemmas.Bool.{cases_eq, eq-eqb, ne_eqb}
use Rattle.bng_base.specs.Packet.{Packet as Bytes}
use Rattle.bng_base.specs.declared.address.Peer.{Peer}
use Rattle.bng_radius_wire.specs.Grammar.{Packet}
use Rattle.bng_radius_wire.specs.Digests.{is_message_authenticator, zeros, filled, filled_at, signed_reply, has_digest, signed_request}
use Rattle.bng_rad_client.specs.declared.pending.Pending.{Pending}
use Rattle.bng_rad_client.specs.declared.rules.Lane.{Lane}
use Rattle.bng_rad_client.specs.declared.rules.Owner.{Owner}
use Rattle.bng_rad_client.specs.Table.{Table}
use Rattle.bng_failover.specs.declared.server.Server.{Server}
use Rattle.bng_failover.specs.Asking.{IsAskedAt}
use Rattle.bng_failover.specs.Due.{Goes, IsRepeatedAt, IsSent, goes_to}
use Rattle.bng_failover.specs.Sends.{Trail, Trails, with_trail, identifier_of}
use Rattle.bng_failover.specs.Servers.{request_at, with_table, without}
use Rattle.bng_failover.proofs.Held.{at_holder, freed_within, freed_gone, given}

-- a signed request has its identifier
filled_id : (o : Option ℕ) (p : Packet) (authenticator secret : List ℕ) → (filled_at o p authenticator secret).id ≡ p.id
filled_id None p authenticator secret = refl
filled_id (Some i) p authenticator secret = refl

signed_id : (p : Packet) (secret : List ℕ) → (signed_request p secret).id ≡ p.id
signed_id p secret = by_code (has_digest p.code)
  where
    by_code : (b : Bool) → (cond b (signed_reply p zeros secret) (filled p p.authenticator secret)).id ≡ p.id
    by_code true = filled_id (position_from is_message_authenticator 0 p.attributes) p zeros secret
    by_code false = filled_id (position_from is_message_authenticator 0 p.attributes) p p.authenticator secret

asked_id : (old new : List Server) (at : ℕ) (owner : Owner) (request secret : List ℕ) (now : ℕ) (peer : Peer) (frame : Bytes) (h : IsAskedAt old new at owner request secret now peer frame) → identifier_of frame.payload ≡ h.asks.id
asked_id old new at owner request secret now peer frame h = sym h.asks.asked.reads.id ∙ signed_id (record h.asks.packet { id = h.asks.id }) secret

-- the trails where one is another
both_yes : (x y : Bool) → x ≡ true → y ≡ true → (x && y) ≡ true
both_yes true y e f = f
both_yes false y e f = e

second_no : (x y : Bool) → y ≡ false → (x && y) ≡ false
second_no true y e = e
second_no false y e = refl

with_here : (trails : Trails) (at id : ℕ) (t : Trail) → with_trail trails at id t at id ≡ t
with_here trails at id t = ap (λ (b : Bool). cond b t (trails at id)) (both_yes (at == at) (id == id) (eq-eqb at at refl) (eq-eqb id id refl))

with_other : (trails : Trails) (at id : ℕ) (t : Trail) (a j : ℕ) → (a ≡ at → j ≡ id → ⊥) → with_trail trails at id t a j ≡ trails a j
with_other trails at id t a j other = ap (λ (b : Bool). cond b t (trails a j)) differs
  where
    differs : ((a == at) && (j == id)) ≡ false
    differs = ⊎_elim
        (λ here. ⊎_elim (λ there. absurd (other here there)) (λ no. second_no (a == at) (j == id) (ne_eqb j id no)) (cases_eq j id))
        (λ no. ap (λ (b : Bool). b && (j == id)) (ne_eqb a at no))
        (cases_eq a at)

-- What is said of each request in hand, of the server that holds it, and of its trail; and it has its identifier.
module _ (Q : (at : ℕ) → Trail → Pending → Type 0) where
  abbrev pub Stands : Trails → (at id : ℕ) → Pending → Type 0
  Stands trails at id r = (identifier_of r.octets ≡ id) × Q at (trails at id) r

  abbrev pub Tracks : List Server → Trails → Type 0
  Tracks list trails = (at id : ℕ) (r : Pending) → request_at list at id ≡ Some r → Stands trails at id r

  -- an identifier is given a request, which has this trail
  placed : (old new : List Server) (at : ℕ) (s : Server) (is : slice_get old at ≡ Some s) (id : ℕ) (table : Table) (made : Pending) → new ≡ with_table old at s table → table.places ≡ set s.requests.places id (Some made)
      → (trails : Trails) → Tracks old trails → identifier_of made.octets ≡ id → (t : Trail) → Q at t made → (n : ℕ) → n ≡ id → Tracks new (with_trail trails at n t)
  placed old new at s is id table made e set_one trails tracks same t q n number a j r there = ⊎_elim
      (λ mine.
      let both : Some made ≡ Some r = mine.2 in
      let one : made ≡ r = cc in
      let here : with_trail trails at n t a j ≡ t =
      ap (λ (k : ℕ). with_trail trails at n t k j) mine.0 ∙ ap (λ (k : ℕ). with_trail trails at n t at k) (mine.1 ∙ sym number) ∙ with_here trails at n t
      in
      let its : Q a (with_trail trails at n t a j) r =
      subst (λ (k : ℕ). Q k (with_trail trails at n t a j) r) (sym mine.0) (subst (λ (x : Trail). Q at x r) (sym here) (subst (λ (p : Pending). Q at t p) one q))
      in
      (ap (λ (p : Pending). identifier_of p.octets) (sym one) ∙ same ∙ sym mine.1, its))
      (λ rest.
      let was = tracks a j r (freed_within old at s is id a j r rest) in
      let apart = with_other trails at n t a j (λ here there. freed_gone old at s is id a j r rest here (there ∙ number)) in
      (was.0, subst (λ (x : Trail). Q a x r) (sym apart) was.1))
      (given old at s is id table (Some made) set_one a j r (ap (λ (l : List Server). request_at l a j) (sym e) ∙ there))

  -- a server is asked
  pub comes : (old new : List Server) (at : ℕ) (owner : Owner) (request secret : List ℕ) (now : ℕ) (peer : Peer) (frame : Bytes) (h : IsAskedAt old new at owner request secret now peer frame) (trails : Trails) → Tracks old trails
      → (t : Trail) → Q at t h.asks.asked.made → Tracks new (with_trail trails at (identifier_of frame.payload) t)
  comes old new at owner request secret now peer frame h trails tracks t q =
      let number = asked_id old new at owner request secret now peer frame h in
      placed old new at h.server h.is h.asks.id h.table h.asks.asked.made h.servers h.asks.asked.places trails tracks (ap identifier_of h.asks.asked.octets ∙ number) t q (identifier_of frame.payload) number

  -- a request is sent again to its server
  pub repeats : (old new : List Server) (at id now : ℕ) (peer : Peer) (frame : Bytes) (g : IsRepeatedAt old new at id now peer frame) (trails : Trails) → Tracks old trails
      → (t : Trail) → Q at t g.sent.after → Tracks new (with_trail trails at (identifier_of frame.payload) t)
  repeats old new at id now peer frame g trails tracks t q =
      let was = tracks at id g.sent.before (at_holder old at id g.server g.sent.before g.is g.sent.was) in
      placed old new at g.server g.is id g.table g.sent.after g.servers g.sent.places trails tracks (ap identifier_of g.sent.octets ∙ was.0) t q (identifier_of frame.payload) (ap identifier_of g.sent.payload ∙ was.0)

  module _ (lane : Lane) (old new : List Server) (secret : List ℕ) (tries now : ℕ) (owner : Owner) (peer : Peer) (frame : Bytes) (h : IsSent lane old new secret tries now owner peer frame) where
    abbrev due_one : Pending
    due_one = h.first.oldest.request

    -- what is due stood so
    pub stood : (trails : Trails) → Tracks old trails → Stands trails h.at h.due.id due_one
    stood trails tracks = tracks h.at h.due.id due_one (at_holder old h.at h.due.id h.first.server due_one h.first.is h.first.oldest.is)

    module _ (t : Trail) where
      -- the request has this trail where it then is
      abbrev pub Moved : (next : Option ℕ) → Goes next old new h.at h.first.server h.due.id due_one secret now peer frame → Type 0
      Moved None g = Q h.at t g.sent.after
      Moved (Some next) g = Q next t g.asks.asked.made

      by_way : (trails : Trails) → Tracks old trails → (next : Option ℕ) (g : Goes next old new h.at h.first.server h.due.id due_one secret now peer frame) → Moved next g
          → Tracks new (with_trail trails (unwrap_or next h.at) (identifier_of frame.payload) t)
      by_way trails tracks None g q = repeats old new h.at h.due.id now peer frame g trails tracks t q
      by_way trails tracks (Some next) g q =
          comes (without old h.at h.first.server h.due.id) new next due_one.owner due_one.octets secret now peer frame g trails
          (λ a j r there. tracks a j r (freed_within old h.at h.first.server h.first.is h.due.id a j r there)) t q

      pub goes : (trails : Trails) → Tracks old trails → Moved (goes_to lane (length old) tries h.at due_one) h.goes
          → Tracks new (with_trail trails (unwrap_or (goes_to lane (length old) tries h.at due_one) h.at) (identifier_of frame.payload) t)
      goes trails tracks q = by_way trails tracks (goes_to lane (length old) tries h.at due_one) h.goes q
