-- All that was sent for a request says what was asked, call after call.
use Rattle.std.proofs.Common.{◌≡◌, ◌⊎◌, inl, inr, ℕ, zero, suc, ◌++◌, List, [], ◌∷◌, length, map, Option, Some, None, refl, sym, ap, subst, ◌∙◌, ⊎_elim}
use Rattle.std.specs.Prelude.{slice_get}
use Rattle.bng_base.specs.Chain.{Chain}
use Rattle.bng_base.specs.Packet.{Packet as Bytes}
use Rattle.bng_base.specs.declared.address.Peer.{Peer}
use Rattle.bng_radius_wire.specs.Grammar.{Packet}
use Rattle.bng_radius_wire.specs.Digests.{has_digest}
use Rattle.bng_radius_wire.proofs.Exact.{one_packet}
use Rattle.bng_rad_client.specs.declared.pending.Pending.{Pending}
use Rattle.bng_rad_client.specs.declared.rules.Lane.{Lane}
use Rattle.bng_rad_client.specs.declared.rules.Owner.{Owner}
use Rattle.bng_rad_client.specs.Table.{request_of}
use Rattle.bng_failover.specs.declared.rules.FailoverRules.{FailoverRules}
use Rattle.bng_failover.specs.declared.server.Server.{Server}
use Rattle.bng_failover.specs.Asking.{IsAskedAt}
use Rattle.bng_failover.specs.Calls.{Call, Does}
use Rattle.bng_failover.specs.Due.{Goes, IsSent, goes_to}
use Rattle.bng_failover.specs.Laws.{but_for_digest, SaysAgain, IsSameOrSays}
use Rattle.bng_failover.specs.Sends.{Sending, Trail, sending, begun, longer, IsTrailOf, trails_of}
use Rattle.bng_failover.specs.Servers.{request_at}
use Rattle.bng_failover.specs.State.{State, servers_of, IsOpened}
use Rattle.bng_failover.proofs.Saying.{asked_says, sent_says}
use Rattle.bng_failover.proofs.Trails.{Moved}
use Rattle.bng_failover.proofs.Ways.{BeginsSo, GoesOnSo, followed, peers_in}

-- what says the same as what says the same says the same
further : (a b c : List ℕ) → SaysAgain a b → SaysAgain b c → SaysAgain a c
further a b c h g =
    let one : h.packet ≡ g.was = one_packet h.packet g.was b h.is g.reads in
    let codes : g.was.code ≡ h.was.code = sym (ap (λ (p : Packet). p.code) one) ∙ h.same.code in
    record {
      was = h.was;
      reads = h.reads;
      packet = g.packet;
      is = g.is;
      same = record {
        code = g.same.code ∙ codes;
        attributes = g.same.attributes ∙ sym (ap (λ (p : Packet). map but_for_digest p.attributes) one) ∙ h.same.attributes;
        authenticator = λ plain.
            g.same.authenticator (ap has_digest codes ∙ plain) ∙ sym (ap (λ (p : Packet). p.authenticator) one) ∙ h.same.authenticator plain;
      };
    }

-- what is sent names the owner of the request and says what was asked
record Says (t : Trail) (r : Pending) : Type 0 where
  owner : (k : ℕ) (s : Sending) → slice_get t.sends k ≡ Some s → s.owner ≡ r.owner
  says : (k : ℕ) (s : Sending) → slice_get t.sends k ≡ Some s → SaysAgain t.asked s.octets
  kept : SaysAgain t.asked r.octets

abbrev SaysIt : (at : ℕ) → Trail → Pending → Type 0
SaysIt at t r = Says t r

-- one of a list that is longer by one is of the list, or is that one
in_longer : (xs : List Sending) (x : Sending) (k : ℕ) (s : Sending) → slice_get (xs ++ (x ∷ [])) k ≡ Some s → (slice_get xs k ≡ Some s) ⊎ (x ≡ s)
in_longer [] x zero s e = inr (let both : Some x ≡ Some s = e in cc)
in_longer [] x (suc k) s e = absurd (let both : None ≡ Some s = e in cc)
in_longer (y ∷ xs) x zero s e = inl e
in_longer (y ∷ xs) x (suc k) s e = in_longer xs x k s e

-- a trail that goes on
says_on : (t : Trail) (r next : Pending) (x : Sending) → Says t r → next.owner ≡ r.owner → x.owner ≡ r.owner → SaysAgain t.asked x.octets → SaysAgain t.asked next.octets → Says (longer t x) next
says_on t r next x h same its say kept = record {
  owner = λ k s at. ⊎_elim
      (λ before. h.owner k s before ∙ sym same)
      (λ here. sym (ap (λ (y : Sending). y.owner) here) ∙ its ∙ sym same)
      (in_longer t.sends x k s at);
  says = λ k s at. ⊎_elim
      (λ before. h.says k s before)
      (λ here. subst (λ (y : Sending). SaysAgain t.asked y.octets) here say)
      (in_longer t.sends x k s at);
  kept = kept;
}

-- a request that is taken in
says_first : (old new : List Server) (owner : Owner) (request secret : List ℕ) (now : ℕ) (peer : Peer) (frame : Bytes) (h : IsAskedAt old new 0 owner request secret now peer frame)
    → Says (begun request (sending owner peer now frame)) h.asks.asked.made
says_first old new owner request secret now peer frame h =
    let say : SaysAgain request frame.payload = asked_says old new 0 owner request secret now peer frame h in
    let none : Trail = record { asked = request; sends = [] } in
    let kept : SaysAgain request h.asks.asked.made.octets = subst (SaysAgain request) (sym h.asks.asked.octets) say in
    says_on none h.asks.asked.made h.asks.asked.made (sending owner peer now frame)
    (record { owner = λ k s at. absurd (let both : None ≡ Some s = at in cc); says = λ k s at. absurd (let both : None ≡ Some s = at in cc); kept = kept })
    refl (sym h.asks.asked.owner_is) say kept

-- a request that is sent again
module _ (lane : Lane) (old new : List Server) (secret : List ℕ) (tries now : ℕ) (owner : Owner) (peer : Peer) (frame : Bytes) (h : IsSent lane old new secret tries now owner peer frame) (t : Trail) (was : Says t h.first.oldest.request) where
  abbrev due_one : Pending
  due_one = h.first.oldest.request

  abbrev x : Sending
  x = sending owner peer now frame

  by_octets : IsSameOrSays due_one.octets frame.payload → SaysAgain t.asked frame.payload
  by_octets (inl e) = subst (SaysAgain t.asked) (sym e) was.kept
  by_octets (inr again) = further t.asked due_one.octets frame.payload was.kept again

  frame_says : SaysAgain t.asked frame.payload
  frame_says = by_octets (sent_says lane old new secret tries now owner peer frame h)

  says_moved : (next : Option ℕ) (g : Goes next old new h.at h.first.server h.due.id due_one secret now peer frame) → Moved SaysIt lane old new secret tries now owner peer frame h (longer t x) next g
  says_moved None g =
      let both : Some g.server ≡ Some h.first.server = sym g.is ∙ h.first.is in
      let server : g.server ≡ h.first.server = cc in
      let requests : Some g.sent.before ≡ Some due_one = sym g.sent.was ∙ ap (λ (s : Server). request_of s.requests.places h.due.id) server ∙ h.first.oldest.is in
      let same : g.sent.before ≡ due_one = cc in
      let octets : g.sent.after.octets ≡ due_one.octets = g.sent.octets ∙ ap (λ (p : Pending). p.octets) same in
      says_on t due_one g.sent.after x was (g.sent.owner ∙ ap (λ (p : Pending). p.owner) same) h.owner_is frame_says (subst (SaysAgain t.asked) (sym octets) was.kept)
  says_moved (Some next) g = says_on t due_one g.asks.asked.made x was g.asks.asked.owner_is h.owner_is frame_says (subst (SaysAgain t.asked) (sym g.asks.asked.octets) frame_says)

module _ (rules : FailoverRules) (opening last : State) (calls : List Call) (lane : Lane) (opened : IsOpened rules opening) (chain : Chain Does opening calls last) where
  begins_so : BeginsSo lane (peers_in rules lane) rules.tries SaysIt
  begins_so old new c is w = says_first (servers_of old lane) (servers_of new lane) w.owner w.request old.secret w.moment w.peer w.frame w.asked

  goes_on_so : GoesOnSo lane (peers_in rules lane) rules.tries SaysIt
  goes_on_so old new c is w t was =
      says_moved lane (servers_of old lane) (servers_of new lane) old.secret old.tries w.moment w.whose.owner w.peer w.frame w.from.sent t was
      (goes_to lane (length (servers_of old lane)) old.tries w.from.sent.at w.from.sent.first.oldest.request) w.from.sent.goes

  pub each_says : (at id : ℕ) (r : Pending) → request_at (servers_of last lane) at id ≡ Some r → IsTrailOf (trails_of lane calls at id) id r
  each_says at id r there =
      let o = followed rules opening last calls lane opened chain SaysIt begins_so goes_on_so at id r there in
      record { owner = o.1.owner; says = o.1.says; kept = o.1.kept; identifier = o.0 }
