-- What a datagram of a server is to the requests that are in hand at it.
use Rattle.std.proofs.Common.{◌≡◌, ℕ, List, Option, Some, None, refl, sym, ap, subst, ◌∙◌}
use Rattle.std.specs.Prelude.{slice_set}
use Rattle.bng_base.specs.declared.address.Peer.{Peer}
use Rattle.bng_rad_client.specs.declared.pending.Pending.{Pending}
use Rattle.bng_rad_client.specs.declared.replies.IgnoredReply.{IgnoredReply as Cause}
use Rattle.bng_rad_client.specs.declared.replies.IgnoredReply.TheVariants.{Stranger, Malformed, NotPending, WrongDigest}
use Rattle.bng_rad_client.specs.declared.replies.Replied.{Replied}
use Rattle.bng_rad_client.specs.declared.replies.Replied.TheVariants.{Matched, Ignored}
use Rattle.bng_rad_client.specs.declared.rules.Lane.{Lane}
use Rattle.bng_rad_client.specs.declared.rules.Owner.{Owner}
use Rattle.bng_rad_client.specs.Replies.{Answers}
use Rattle.bng_rad_client.specs.Table.{Table}
use Rattle.bng_failover.specs.declared.server.Server.{Server}
use Rattle.bng_failover.specs.Servers.{with_table, without}
use Rattle.bng_failover.specs.Places.{HearsAt, IsWithdrawnAt}
use Rattle.bng_failover.specs.Replies.{Hears, IsIgnored, IsMatched, IsSender}
use Rattle.bng_failover.proofs.Changes.{unchanged}

abbrev table_with : List (Option Pending) → ℕ → Table
table_with places last = record { places = places; last = last }

module _ (lane : Lane) (old new : List Server) (at : ℕ) (from : Peer) (secret bytes : List ℕ) (sender : IsSender old from at) where
  -- the server that heard is the sender
  module _ (result : Replied) (h : HearsAt lane old new at secret bytes result) where
    one : h.server ≡ sender.server
    one = let both : Some h.server ≡ Some sender.server = sym h.is ∙ sender.is in cc

    peer_is : h.server.peer ≡ from
    peer_is = ap (λ (s : Server). s.peer) one ∙ sender.sender

    answers : Answers from from lane h.server.requests.places secret bytes result
    answers = subst (λ (p : Peer). Answers p p lane h.server.requests.places secret bytes result) peer_is h.answer

  ignored : (cause : Cause) (h : HearsAt lane old new at secret bytes (Ignored cause)) → IsIgnored lane old from secret bytes cause
  ignored cause h = record { at = at; server = h.server; is = h.is; sender = peer_is (Ignored cause) h; answer = answers (Ignored cause) h }

  pub same : (cause : Cause) (h : HearsAt lane old new at secret bytes (Ignored cause)) → new ≡ old
  same cause h = h.servers ∙ ap (with_table old at h.server) h.ignored ∙ unchanged old at h.server h.is

  matched : (owner : Owner) (h : HearsAt lane old new at secret bytes (Matched owner)) → IsMatched lane old new from secret bytes owner
  matched owner h =
      let a = answers (Matched owner) h in
      let id : h.matched.packet.id ≡ a.1.0.id = h.matched.reply.packet.id ∙ sym a.1.2.reply.packet.id in
      record {
        at = at;
        server = h.server;
        is = h.is;
        sender = peer_is (Matched owner) h;
        packet = a.1.0;
        request = a.1.1;
        reply = a.1.2;
        signed = a.1.3;
        owner_is = a.1.4;
        servers = h.servers
            ∙ ap (λ (ps : List (Option Pending)). with_table old at h.server (table_with ps h.table.last)) h.matched.places
            ∙ ap (λ (n : ℕ). with_table old at h.server (table_with (slice_set h.server.requests.places h.matched.packet.id None) n)) h.last
            ∙ ap (without old at h.server) id;
      }

  pub hears : (result : Replied) → HearsAt lane old new at secret bytes result → Hears lane old new from secret bytes result
  hears (Ignored Stranger) h = absurd (answers (Ignored Stranger) h refl)
  hears (Ignored Malformed) h = (ignored Malformed h, same Malformed h)
  hears (Ignored NotPending) h = (ignored NotPending h, same NotPending h)
  hears (Ignored WrongDigest) h = (ignored WrongDigest h, same WrongDigest h)
  hears (Matched owner) h = matched owner h

  -- where a request is answered, it is one that was in hand
  pub withdrawn : (owner : Owner) (h : HearsAt lane old new at secret bytes (Matched owner)) → (id : ℕ) × (r : Pending) × IsWithdrawnAt old new at id (Some r) × (owner ≡ r.owner)
  unfolding matched
  withdrawn owner h =
      let m = matched owner h in
      (m.packet.id, m.request, record { server = h.server; is = h.is; request = sym m.reply.pending; servers = m.servers }, m.owner_is)
