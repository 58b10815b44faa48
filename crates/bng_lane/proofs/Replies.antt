-- What a datagram is to a lane.
use Rattle.std.proofs.Common.{◌≡◌, ℕ, ◌<◌, true, false, List, length, Option, Some, None, sym, ap, subst, ◌∙◌, arith}
use Rattle.std.specs.Prelude.{slice_index}
use Rattle.std.proofs.lemmas.Bool.{false≢true}
use Rattle.bng_base.specs.declared.address.Peer.{Peer}
use Rattle.bng_radius_wire.specs.Grammar.{Packet}
use Rattle.bng_radius_wire.specs.Digests.{IsSigned}
use Rattle.bng_radius_wire.proofs.Exact.{one_packet}
use Rattle.bng_rad_client.specs.declared.pending.Pending.{Pending}
use Rattle.bng_rad_client.specs.declared.rules.Lane.TheVariants.{Auth}
use Rattle.bng_rad_client.specs.declared.rules.Owner.{Owner}
use Rattle.bng_rad_client.specs.declared.rules.Owner.TheVariants.{Ask, Record}
use Rattle.bng_rad_client.specs.declared.replies.IgnoredReply.{IgnoredReply as Cause}
use Rattle.bng_rad_client.specs.declared.replies.IgnoredReply.TheVariants.{Stranger, Malformed, NotPending, WrongDigest}
use Rattle.bng_rad_client.specs.declared.replies.Replied.TheVariants.{Matched, Ignored}
use Rattle.bng_rad_client.specs.Replies.{Answers, authenticator_of}
use Rattle.bng_rad_client.specs.Table.{request_of}
use Rattle.bng_verdict.specs.declared.question.QuestionNo.{QuestionNo}
use Rattle.bng_lane.specs.Invariant.{question_of}
use Rattle.bng_lane.specs.State.{LaneState, places_of, flag_of}
use Rattle.bng_lane.specs.Replies.{Counts}

-- the owner of a request that asks this question
pub ask_of : (owner : Owner) (q : QuestionNo) → question_of owner ≡ Some q → owner ≡ Ask q.session q.ask
ask_of (Ask session ask) q e = ap owner_of e
  where
    owner_of : Option QuestionNo → Owner
    owner_of (Some x) = Ask x.session x.ask
    owner_of None = Ask session ask
ask_of (Record number) q e = absurd cc

module _ (l : LaneState) (from : Peer) (octets : List ℕ) where
  -- octets that are no packet's answer nothing
  pub short_counts_not : length octets < 20 → (q : QuestionNo) → Counts l from octets q → ⊥
  short_counts_not short q c = let is = c.reply.reply.packet in omega (arith, short, is.at_least, is.is_there)

  -- nor does what comes before its request was sent
  pub unsent_counts_not : flag_of l (slice_index octets 1) ≡ false → (q : QuestionNo) → Counts l from octets q → ⊥
  unsent_counts_not unsent q c = false≢true (sym unsent ∙ ap (flag_of l) (sym c.reply.reply.packet.id) ∙ c.sent)

  -- nor what the client passes over
  pub ignored_counts_not : (cause : Cause) → Answers l.client.auth_server from Auth (places_of l) l.client.secret octets (Ignored cause) → (q : QuestionNo) → Counts l from octets q → ⊥
  ignored_counts_not Stranger other q c = other c.server
  ignored_counts_not Malformed none q c = none.1 c.packet c.reply.reply
  ignored_counts_not NotPending (server, (p, is, free)) q c =
      let same : c.packet ≡ p = one_packet c.packet p octets c.reply.reply.packet is.packet in
      let both : None ≡ Some c.request = sym free ∙ ap (λ (x : Packet). request_of (places_of l) x.id) (sym same) ∙ c.reply.pending in
      absurd cc
  ignored_counts_not WrongDigest (server, (p, r, is, wrong)) q c =
      let same : c.packet ≡ p = one_packet c.packet p octets c.reply.reply.packet is.reply.packet in
      let both : Some c.request ≡ Some r = sym c.reply.pending ∙ ap (λ (x : Packet). request_of (places_of l) x.id) same ∙ is.pending in
      let one : c.request ≡ r = cc in
      wrong (subst (λ (x : Packet). IsSigned x (authenticator_of r) l.client.secret) same (subst (λ (x : Pending). IsSigned c.packet (authenticator_of x) l.client.secret) one c.signed))

  -- what the client matches answers the question of its request
  pub matched_counts : (owner : Owner) → Answers l.client.auth_server from Auth (places_of l) l.client.secret octets (Matched owner) → flag_of l (slice_index octets 1) ≡ true
      → (q : QuestionNo) → question_of owner ≡ Some q → Counts l from octets q
  matched_counts owner (server, (p, r, is, signed, e)) sent q asked = record {
    packet = p;
    request = r;
    reply = is;
    signed = signed;
    server = server;
    sent = ap (flag_of l) is.reply.packet.id ∙ sent;
    question = sym e ∙ ask_of owner q asked;
  }
