-- The request that is due first, and where it goes.
use Rattle.std.proofs.Common.{◌≡◌, ℕ, List, Option, Some, None, refl, sym, ap, subst, ◌∙◌}
use Rattle.std.specs.Prelude.{length}
use Rattle.bng_base.specs.Packet.{Packet as Bytes}
use Rattle.bng_base.specs.declared.address.Peer.{Peer}
use Rattle.bng_rad_client.specs.declared.due.LastSend.{LastSend}
use Rattle.bng_rad_client.specs.declared.pending.Pending.{Pending}
use Rattle.bng_rad_client.specs.declared.rules.Lane.{Lane}
use Rattle.bng_rad_client.specs.declared.rules.Owner.{Owner}
use Rattle.bng_rad_client.specs.Table.{request_of}
use Rattle.bng_failover.specs.declared.server.Server.{Server}
use Rattle.bng_failover.specs.Servers.{held_by, without}
use Rattle.bng_failover.specs.Asking.{IsAskedAt}
use Rattle.bng_failover.specs.Due.{IsFirstDue, IsRepeatedAt, Goes, goes_to, IsSent, HasTimedOut, IsGivenUp}
use Rattle.bng_failover.specs.Places.{IsWithdrawnAt, IsHandedOver, GoesTo}

module _ (lane : Lane) (old new : List Server) (secret : List ℕ) (tries now at : ℕ) (due : LastSend) (first : IsFirstDue lane old tries now at due) (next : Option ℕ)
    (told : GoesTo lane old tries at due.id next) (peer : Peer) (frame : Bytes) where
  abbrev Sends : Type 0
  Sends = (x : Owner) × IsSent lane old new secret tries now x peer frame

  to : next ≡ goes_to lane (length old) tries at first.oldest.request
  to = told first.oldest.request (ap (λ (o : Option Server). held_by o due.id) first.is ∙ first.oldest.is)

  made : Goes next old new at first.server due.id first.oldest.request secret now peer frame → Sends
  made goes = (
    first.oldest.request.owner,
    record {
      at = at;
      due = due;
      first = first;
      owner_is = refl;
      goes = subst (λ (o : Option ℕ). Goes o old new at first.server due.id first.oldest.request secret now peer frame) to goes;
    },
  )

  pub sends_again : next ≡ None → IsRepeatedAt old new at due.id now peer frame → Sends
  sends_again e h = made (subst (λ (o : Option ℕ). Goes o old new at first.server due.id first.oldest.request secret now peer frame) (sym e) h)

  handed_to : (place : ℕ) → IsHandedOver old new at due.id place secret now peer frame
      → IsAskedAt (without old at first.server due.id) new place first.oldest.request.owner first.oldest.request.octets secret now peer frame
  handed_to place h =
      let both : Some h.server ≡ Some first.server = sym h.is ∙ first.is in
      let one : h.server ≡ first.server = cc in
      let requests : Some h.request ≡ Some first.oldest.request = sym h.was ∙ ap (λ (s : Server). request_of s.requests.places due.id) one ∙ first.oldest.is in
      let same : h.request ≡ first.oldest.request = cc in
      subst (λ (p : Pending). IsAskedAt (without old at first.server due.id) new place p.owner p.octets secret now peer frame) same
      (subst (λ (s : Server). IsAskedAt (without old at s due.id) new place h.request.owner h.request.octets secret now peer frame) one h.asked)

  pub hands_on : (place : ℕ) → next ≡ Some place → IsHandedOver old new at due.id place secret now peer frame → Sends
  hands_on place e h = made (subst (λ (o : Option ℕ). Goes o old new at first.server due.id first.oldest.request secret now peer frame) (sym e) (handed_to place h))

module _ (old new : List Server) (tries now at : ℕ) (due : LastSend) (first : HasTimedOut old tries now at due) where
  was_held : (r : Option Pending) → IsWithdrawnAt old new at due.id r → r ≡ Some first.oldest.request
  was_held r h =
      let both : Some h.server ≡ Some first.server = sym h.is ∙ first.is in
      let one : h.server ≡ first.server = cc in
      h.request ∙ ap (λ (s : Server). request_of s.requests.places due.id) one ∙ first.oldest.is

  pub not_none : IsWithdrawnAt old new at due.id None → ⊥
  not_none h = let both : None ≡ Some first.oldest.request = was_held None h in cc

  pub gives_up : (r : Pending) → IsWithdrawnAt old new at due.id (Some r) → IsGivenUp old new tries now r.owner
  gives_up r h =
      let both : Some h.server ≡ Some first.server = sym h.is ∙ first.is in
      let one : h.server ≡ first.server = cc in
      let requests : Some r ≡ Some first.oldest.request = was_held (Some r) h in
      let same : r ≡ first.oldest.request = cc in
      record {
        at = at;
        due = due;
        first = first;
        owner_is = ap (λ (p : Pending). p.owner) same;
        servers = h.servers ∙ ap (λ (s : Server). without old at s due.id) one;
      }
