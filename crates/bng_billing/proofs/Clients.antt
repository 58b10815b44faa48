-- The client of accounting, whose table of Accounting-Requests alone changes.
use Rattle.std.proofs.Common.{◌≡◌, ℕ, ◌+◌, ◌<◌, Bool, true, false, leb, List, length, Option, Some, None, refl, sym, ap, subst, ◌∙◌, arith, ⊎_elim}
use Rattle.std.specs.Prelude.{◌⊎◌, slice_set, slice_index}
use Rattle.std.proofs.lemmas.Bool.Decides.{leb_tells}
use Rattle.std.proofs.lemmas.Bool.{false≢true}
use Rattle.bng_base.specs.declared.address.Peer.{Peer}
use Rattle.bng_base.specs.Packet.{Packet as Bytes}
use Rattle.bng_radius_wire.specs.Grammar.{Packet, length_in}
use Rattle.bng_radius_wire.specs.Digests.{IsSigned}
use Rattle.bng_radius_wire.proofs.Exact.{one_packet}
use Rattle.bng_rad_client.specs.declared.due.Sought.TheVariants.{Endless}
use Rattle.bng_rad_client.specs.declared.pending.Pending.{Pending}
use Rattle.bng_rad_client.specs.declared.replies.IgnoredReply.{IgnoredReply as Cause}
use Rattle.bng_rad_client.specs.declared.replies.IgnoredReply.TheVariants.{Stranger, Malformed, NotPending, WrongDigest}
use Rattle.bng_rad_client.specs.declared.replies.Replied.TheVariants.{Matched, Ignored}
use Rattle.bng_rad_client.specs.declared.rules.Lane.{Lane}
use Rattle.bng_rad_client.specs.declared.rules.Lane.TheVariants.{Auth, Acct}
use Rattle.bng_rad_client.specs.declared.rules.Owner.{Owner}
use Rattle.bng_rad_client.specs.Asking.{IsAsked}
use Rattle.bng_rad_client.specs.Due.{is_sought, OneBelow}
use Rattle.bng_rad_client.specs.DueRequests.{IsResent}
use Rattle.bng_rad_client.specs.Replies.{IsReplyOf, Answers, authenticator_of}
use Rattle.bng_rad_client.specs.State.{State as Client, ChangesTable}
use Rattle.bng_rad_client.specs.Table.{Table, request_of}
use Rattle.bng_acct.specs.Spool.{State as Spool, HandsOver}
use Rattle.bng_billing.specs.State.{BillingState, places_of, flag_of, owner_of, with_table_of}
use Rattle.bng_billing.specs.Invariant.{IsBilling}
use Rattle.bng_billing.specs.Replies.{Counts, Acknowledges, Takes, IsAcknowledged}
use Rattle.bng_billing.specs.Due.{IsResentBy, NoneToResend, is_due_again, due_count}
use Rattle.bng_billing.specs.Sending.{IsSentBy}
use Rattle.bng_billing.proofs.Places.{within, count_less, count_none, no_request}
use Rattle.bng_billing.proofs.Numbers.{some_is, none_some}
use Rattle.bng_billing.proofs.Keeping.{sends_pending, acks_keeps}

abbrev made : Table → Table → Peer → Peer → List ℕ → ℕ → Client
made auth acct auth_server acct_server secret tries = record { auth = auth; acct = acct; auth_server = auth_server; acct_server = acct_server; secret = secret; tries = tries }

-- all but the table of Accounting-Requests is as it was
pub one_table : (old new : Client) → ChangesTable old new Acct → new ≡ with_table_of old new
one_table old new kept =
    ap (λ (t : Table). made t new.acct new.auth_server new.acct_server new.secret new.tries) kept.table
    ∙ ap (λ (p : Peer). made old.auth new.acct p new.acct_server new.secret new.tries) kept.auth_server
    ∙ ap (λ (p : Peer). made old.auth new.acct old.auth_server p new.secret new.tries) kept.acct_server
    ∙ ap (λ (s : List ℕ). made old.auth new.acct old.auth_server old.acct_server s new.tries) kept.secret
    ∙ ap (made old.auth new.acct old.auth_server old.acct_server old.secret) kept.tries

abbrev table : List (Option Pending) → ℕ → Table
table places last = record { places = places; last = last }

abbrev with_places : Client → List (Option Pending) → ℕ → Client
with_places c places last = record c { acct = table places last }

-- A record is handed out ----------------------------------------------------------------------------------------------------

pub sends : (old : BillingState) (c : Client) (s : Spool) (n now id : ℕ) (request frame : Bytes) → (h : HandsOver old.spool s n request)
    → (a : IsAsked old.client.acct c.acct (owner_of n) h.holds.packet old.client.secret now id frame) → length_in frame.payload ≡ length frame.payload → ChangesTable old.client c Acct
    → IsBilling old.client old.spool → IsSentBy old now n id frame.payload (record { client = c; spool = s; sent = slice_set old.sent id false })
sends old c s n now id request frame h a unpadded kept b = record {
  request = request;
  handed = h;
  frame = frame;
  payload = refl;
  asked = a;
  pending = sends_pending old.client c old.spool s n now id request frame h a unpadded kept.secret kept.table b;
  unpadded = unpadded;
  others = ap (λ (x : Client). record { client = x; spool = s; sent = slice_set old.sent id false }) (one_table old.client c kept);
}

-- A datagram ----------------------------------------------------------------------------------------------------------------

module _ (b : BillingState) (from : Peer) (octets : List ℕ) where
  -- octets that are no packet's acknowledge nothing
  pub short_counts_not : length octets < 20 → (n : ℕ) → Counts b from octets n → ⊥
  short_counts_not short n c = let is = c.reply.reply.packet in omega (arith, short, is.at_least, is.is_there)

  -- nor does what comes before its request was sent
  pub unsent_counts_not : flag_of b (slice_index octets 1) ≡ false → (n : ℕ) → Counts b from octets n → ⊥
  unsent_counts_not unsent n c = false≢true (sym unsent ∙ ap (flag_of b) (sym c.reply.reply.packet.id) ∙ c.sent)

  -- nor what the client passes over
  pub ignored_counts_not : (cause : Cause) → Answers b.client.acct_server from Acct (places_of b) b.client.secret octets (Ignored cause) → (n : ℕ) → Counts b from octets n → ⊥
  ignored_counts_not Stranger other n c = other c.server
  ignored_counts_not Malformed none n c = none.1 c.packet c.reply.reply
  ignored_counts_not NotPending (server, (p, is, free)) n c =
      let same : c.packet ≡ p = one_packet c.packet p octets c.reply.reply.packet is.packet in
      none_some c.request (sym free ∙ ap (λ (x : Packet). request_of (places_of b) x.id) (sym same) ∙ c.reply.pending)
  ignored_counts_not WrongDigest (server, (p, r, is, wrong)) n c =
      let same : c.packet ≡ p = one_packet c.packet p octets c.reply.reply.packet is.reply.packet in
      let one : c.request ≡ r = some_is c.request r (sym c.reply.pending ∙ ap (λ (x : Packet). request_of (places_of b) x.id) same ∙ is.pending) in
      wrong (subst (λ (x : Packet). IsSigned x (authenticator_of r) b.client.secret) same (subst (λ (x : Pending). IsSigned c.packet (authenticator_of x) b.client.secret) one c.signed))

  -- what the client matches acknowledges the record of its request
  pub matched_counts : (owner : Owner) (n : ℕ) → Answers b.client.acct_server from Acct (places_of b) b.client.secret octets (Matched owner) → flag_of b (slice_index octets 1) ≡ true
      → owner ≡ owner_of n → Counts b from octets n
  matched_counts owner n (server, (p, r, is, signed, e)) sent of = record {
    packet = p;
    request = r;
    reply = is;
    signed = signed;
    server = server;
    sent = ap (flag_of b) is.reply.packet.id ∙ sent;
    record_is = sym e ∙ of;
  }

  -- and its request is out no longer
  pub matched : (c : Client) (s : Spool) (owner : Owner) (n id : ℕ) → Answers b.client.acct_server from Acct (places_of b) b.client.secret octets (Matched owner) → flag_of b (slice_index octets 1) ≡ true
      → owner ≡ owner_of n → id ≡ slice_index octets 1 → ((p : Packet) × IsReplyOf Acct p octets × (c.acct.places ≡ slice_set (places_of b) p.id None)) → c.acct.last ≡ b.client.acct.last
      → ChangesTable b.client c Acct → IsAcknowledged b.spool s n → Acknowledges b from octets n (record { client = c; spool = s; sent = slice_set b.sent id false })
  matched c s owner n id h sent of at (p, is, places) last kept k =
      let counts = matched_counts owner n h sent of in
      let same : p.id ≡ counts.packet.id = is.packet.id ∙ sym counts.reply.reply.packet.id in
      let here : id ≡ counts.packet.id = at ∙ sym counts.reply.reply.packet.id in
      record {
        counts = counts;
        acknowledged = k;
        others = ap (λ (x : Client). record { client = x; spool = s; sent = slice_set b.sent id false }) (one_table b.client c kept)
            ∙ ap (λ (ps : List (Option Pending)). record { client = with_places b.client ps c.acct.last; spool = s; sent = slice_set b.sent id false }) (places ∙ ap (λ (i : ℕ). slice_set (places_of b) i None) same)
            ∙ ap (λ (l : ℕ). record { client = with_places b.client (slice_set (places_of b) counts.packet.id None) l; spool = s; sent = slice_set b.sent id false }) last
            ∙ ap (λ (i : ℕ). record { client = with_places b.client (slice_set (places_of b) counts.packet.id None) b.client.acct.last; spool = s; sent = slice_set b.sent i false }) here;
      }

  pub none_matched : (c : Client) (cause : Cause) → Answers b.client.acct_server from Acct (places_of b) b.client.secret octets (Ignored cause) → c ≡ b.client → Takes b from octets None (record b { client = c })
  none_matched c cause h same = (ignored_counts_not cause h, ap (λ (x : Client). record b { client = x }) same)

  pub matched_keeps : (c : Client) (s : Spool) (owner : Owner) (n : ℕ) → Answers b.client.acct_server from Acct (places_of b) b.client.secret octets (Matched owner) → owner ≡ owner_of n
      → ((p : Packet) × IsReplyOf Acct p octets × (c.acct.places ≡ slice_set (places_of b) p.id None)) → ChangesTable b.client c Acct → IsAcknowledged b.spool s n → IsBilling b.client b.spool → IsBilling c s
  matched_keeps c s owner n (server, (p, r, reply, signed, e)) of (q, is, places) kept k holds =
      let same : q.id ≡ p.id = is.packet.id ∙ sym reply.reply.packet.id in
      acks_keeps b.client c b.spool s n p.id r reply.pending (sym e ∙ of) (places ∙ ap (λ (i : ℕ). slice_set (places_of b) i None) same) kept.secret kept.table k holds

-- a request that a datagram matches is a record's
pub no_question : (b : BillingState) (from : Peer) (octets : List ℕ) (owner : Owner) → IsBilling b.client b.spool → Answers b.client.acct_server from Acct (places_of b) b.client.secret octets (Matched owner)
    → (n : ℕ) × (owner ≡ owner_of n)
no_question b from octets owner holds (server, (p, r, is, signed, e)) = let o = holds.requests p.id r is.pending in (o.number, e ∙ o.owner_is)

-- A request that is due -----------------------------------------------------------------------------------------------------

no_question_due : (old new : Client) (s : Spool) (now id : ℕ) (frame : Bytes) → IsBilling old s → IsResent old new now Auth id frame → ⊥
no_question_due old new s now id frame b h = none_some h.oldest.request (sym (no_request 256 h.due.id) ∙ ap (λ (t : Table). request_of t.places h.due.id) (sym b.auth) ∙ h.oldest.is)

-- a request that is sent again is a record's
pub resent_acct : (old new : Client) (s : Spool) (now : ℕ) (lane : Lane) (id : ℕ) (frame : Bytes) → IsBilling old s → IsResent old new now lane id frame → IsResent old new now Acct id frame
resent_acct old new s now Auth id frame b h = absurd (no_question_due old new s now id frame b h)
resent_acct old new s now Acct id frame b h = h

pub resends : (old : BillingState) (c : Client) (now id : ℕ) (frame : Bytes) → ChangesTable old.client c Acct → IsResent old.client c now Acct id frame → IsResentBy old now id frame.payload (record old { client = c })
resends old c now id frame kept h = record {
  frame = frame;
  payload = refl;
  resent = h;
  others = ap (λ (x : Client). record old { client = x }) (one_table old.client c kept);
}

too_early : (now : ℕ) → leb (now + 3000) now ≡ false
too_early now = ⊎_elim (λ due. absurd (omega (arith, due.1))) (λ early. early.0) (leb_tells (now + 3000) now)

-- a request that was sent again is not due any more
pub fewer_due : (old : BillingState) (c : Client) (now id : ℕ) (frame : Bytes) → IsResent old.client c now Acct id frame → due_count (record old { client = c }) now + 1 ≡ due_count old now
fewer_due old c now id frame h =
    let f : Option Pending → Bool = is_due_again now in
    let is : request_of (places_of old) id ≡ Some h.oldest.request = ap (request_of (places_of old)) h.id_is ∙ h.oldest.is in
    let wanted : f (request_of (places_of old) id) ≡ true = ap f is ∙ h.oldest.wants in
    let not_now : f (Some h.sent.after) ≡ false = ap (λ (n : ℕ). leb (n + 3000) now) h.sent.moment ∙ too_early now in
    let counts : List (Option Pending) → ℕ = λ places. due_count (record old { client = record old.client { acct = table places 0 } }) now in
    let same : due_count (record old { client = c }) now ≡ counts (slice_set (places_of old) id (Some h.sent.after)) = ap counts h.sent.places in
    let less = count_less f (places_of old) id (Some h.sent.after) (within (places_of old) id h.oldest.request is) wanted not_now in
    omega (arith, same, less)

-- where none is due none is counted
pub none_due : (old : BillingState) (now : ℕ) → length (places_of old) ≡ 256 → NoneToResend old now → due_count old now ≡ 0
none_due old now size none = count_none (is_due_again now) (places_of old) (λ i below. at i (omega (arith, size, below)) (request_of (places_of old) i) refl)
  where
    wanted : (i : ℕ) → i < 256 → (r : Pending) → request_of (places_of old) i ≡ Some r → (b : Bool) → is_sought Endless now r ≡ b → b ≡ false
    wanted i below r is true w = absurd (none i r below is w)
    wanted i below r is false w = refl

    at : (i : ℕ) → i < 256 → (p : Option Pending) → request_of (places_of old) i ≡ p → is_due_again now (request_of (places_of old) i) ≡ false
    at i below None e = ap (is_due_again now) e
    at i below (Some r) e = ap (is_due_again now) e ∙ wanted i below r e (is_sought Endless now r) refl

-- a request whose interval has passed is an Accounting-Request
pub one_due : (c : Client) (s : Spool) (now : ℕ) → IsBilling c s → OneBelow (is_sought Endless now) c.auth.places 256 ⊎ OneBelow (is_sought Endless now) c.acct.places 256
    → OneBelow (is_sought Endless now) c.acct.places 256
one_due c s now billing one = ⊎_elim
    (λ auth. absurd (let both : None ≡ Some auth.request = sym (no_request 256 auth.id) ∙ ap (λ (t : Table). request_of t.places auth.id) (sym billing.auth) ∙ auth.is in cc))
    (λ acct. acct)
    one
