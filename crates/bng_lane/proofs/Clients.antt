-- The client of a lane, whose table alone changes.
use Rattle.std.proofs.Common.{◌≡◌, ◌≢◌, ℕ, ◌+◌, ◌<◌, Bool, true, false, ◌&&◌, leb, List, length, Option, Some, None, refl, sym, ap, subst, ◌∙◌, arith, ⊎_elim}
use Rattle.std.specs.Prelude.{◌⊎◌, slice_set, slice_index, nat_le, nat_lt}
use Rattle.std.proofs.lemmas.Bool.{and_parts}
use Rattle.std.proofs.lemmas.Bool.Decides.{leb_tells}
use Rattle.std.proofs.lemmas.List.{length-set, get_or-set_same}
use Rattle.bng_base.specs.declared.address.Peer.{Peer}
use Rattle.bng_base.specs.Packet.{Packet as Bytes}
use Rattle.bng_radius_wire.specs.Grammar.{Packet, IsRadius, length_in}
use Rattle.bng_radius_wire.specs.Digests.{filled, CanBeSigned}
use Rattle.bng_rad_client.specs.declared.due.Sought.TheVariants.{Timeout, Endless}
use Rattle.bng_rad_client.specs.declared.pending.Pending.{Pending}
use Rattle.bng_rad_client.specs.declared.replies.IgnoredReply.{IgnoredReply as Cause}
use Rattle.bng_rad_client.specs.declared.replies.Replied.TheVariants.{Matched, Ignored}
use Rattle.bng_rad_client.specs.declared.rules.Lane.{Lane}
use Rattle.bng_rad_client.specs.declared.rules.Lane.TheVariants.{Auth, Acct}
use Rattle.bng_rad_client.specs.declared.rules.Owner.{Owner}
use Rattle.bng_rad_client.specs.declared.rules.Owner.TheVariants.{Ask}
use Rattle.bng_rad_client.specs.Asking.{IsAsked}
use Rattle.bng_rad_client.specs.Due.{is_sought, NoneBelow, OneBelow}
use Rattle.bng_rad_client.specs.DueRequests.{to_resend, IsResent}
use Rattle.bng_rad_client.specs.Replies.{IsReplyOf, Answers}
use Rattle.bng_rad_client.specs.Sends.{IsGivenUp}
use Rattle.bng_rad_client.specs.State.{State, ChangesTable, IsOpened}
use Rattle.bng_rad_client.specs.Table.{Table, request_of}
use Rattle.bng_verdict.specs.declared.question.AuthAsk.{AuthAsk}
use Rattle.bng_verdict.specs.declared.question.QuestionNo.{QuestionNo}
use Rattle.bng_lane.specs.Invariant.{question_of, AreQuestions, IsLane}
use Rattle.bng_lane.specs.State.{LaneState, places_of, flag_of, without}
use Rattle.bng_lane.specs.Replies.{Takes}
use Rattle.bng_lane.specs.Due.{GivesUp, IsResentBy, NoneToResend, is_due_again, due_count}
use Rattle.bng_lane.specs.Asking.{access_request_of, IsAskedBy}
use Rattle.bng_lane.proofs.Places.{within, none_asked, more_questions, count_less, count_none, no_request}
use Rattle.bng_lane.proofs.Replies.{ask_of, matched_counts, ignored_counts_not}
use Rattle.bng_lane.proofs.Signing.{filled_size, without_padding}

abbrev made : Table → Table → Peer → Peer → List ℕ → ℕ → State
made auth acct auth_server acct_server secret tries = record { auth = auth; acct = acct; auth_server = auth_server; acct_server = acct_server; secret = secret; tries = tries }

-- all but the table of Access-Requests is as it was
pub one_table : (old new : State) → ChangesTable old new Auth → new ≡ record old { auth = new.auth }
one_table old new kept =
    ap (λ (t : Table). made new.auth t new.auth_server new.acct_server new.secret new.tries) kept.table
    ∙ ap (λ (p : Peer). made new.auth old.acct p new.acct_server new.secret new.tries) kept.auth_server
    ∙ ap (λ (p : Peer). made new.auth old.acct old.auth_server p new.secret new.tries) kept.acct_server
    ∙ ap (λ (s : List ℕ). made new.auth old.acct old.auth_server old.acct_server s new.tries) kept.secret
    ∙ ap (made new.auth old.acct old.auth_server old.acct_server old.secret) kept.tries

abbrev table : List (Option Pending) → ℕ → Table
table places last = record { places = places; last = last }

module _ (old : LaneState) (client : State) (kept : ChangesTable old.client client Auth) where
  abbrev new : LaneState
  new = record old { client = client }

  -- a request is out no longer
  one_gone : (i : ℕ) → client.auth.places ≡ slice_set (places_of old) i None → client.auth.last ≡ old.client.auth.last → new ≡ without old i
  one_gone i places last =
      ap (λ (c : State). record old { client = c }) (one_table old.client client kept)
      ∙ ap (λ (ps : List (Option Pending)). record old { client = record old.client { auth = table ps client.auth.last } }) places
      ∙ ap (λ (n : ℕ). record old { client = record old.client { auth = table (slice_set (places_of old) i None) n } }) last

  -- a datagram that the client matches
  pub matched : (from : Peer) (octets : List ℕ) (owner : Owner) (q : Option QuestionNo) → AreQuestions (places_of old) → flag_of old (slice_index octets 1) ≡ true
      → Answers old.client.auth_server from Auth (places_of old) old.client.secret octets (Matched owner)
      → ((p : Packet) × IsReplyOf Auth p octets × (client.auth.places ≡ slice_set (places_of old) p.id None)) → client.auth.last ≡ old.client.auth.last
      → q ≡ question_of owner → Takes old from octets q new
  matched from octets owner None each sent h (p, is, places) last e =
      absurd (each h.1.0.id h.1.1 h.1.2.pending (ap question_of (sym h.1.4) ∙ sym e))
  matched from octets owner (Some q) each sent h (p, is, places) last e =
      let c = matched_counts old from octets owner h sent q (sym e) in
      let id : p.id ≡ c.packet.id = is.packet.id ∙ sym c.reply.reply.packet.id in
      (c, one_gone c.packet.id (places ∙ ap (λ (i : ℕ). slice_set (places_of old) i None) id) last)

  -- a request that the client gives up
  pub timed_out : (now : ℕ) (owner : Owner) (q : Option QuestionNo) → AreQuestions (places_of old) → IsGivenUp old.client.auth client.auth (is_sought (Timeout old.client.tries) now) owner
      → q ≡ question_of owner → GivesUp old now q new
  timed_out now owner None each h e = absurd (each h.due.id h.oldest.request h.oldest.is (ap question_of (sym h.owner_is) ∙ sym e))
  timed_out now owner (Some q) each h e = (
    record { due = h.due; oldest = h.oldest; owner_is = sym (ask_of owner q (sym e)) ∙ h.owner_is; places = h.places; last = h.last },
    one_gone h.due.id h.places h.last,
  )

-- a request that is asked
pub asks : (old : LaneState) (client : State) (now : ℕ) (ask : AuthAsk) (authenticator : List ℕ) (id : ℕ) (frame : Bytes) (request : List ℕ) → ChangesTable old.client client Auth
    → IsRadius (access_request_of old ask authenticator) request → CanBeSigned (access_request_of old ask authenticator) → length (places_of old) ≡ 256
    → IsAsked old.client.auth client.auth (Ask ask.number.session ask.number.ask) (access_request_of old ask authenticator) old.client.secret now id frame
    → length frame.payload ≡ length_in request
    → IsAskedBy old now ask authenticator id frame.payload (record old { client = client; sent = slice_set old.sent id false })
asks old client now ask authenticator id frame request kept reads can size asked long = record {
  frame = frame;
  payload = refl;
  asked = asked;
  pending = ap (λ (ps : List (Option Pending)). request_of ps id) asked.places ∙ get_or-set_same (places_of old) id (Some asked.made) None (omega (arith, size, asked.next.place));
  unpadded = without_padding (access_request_of old ask authenticator) (filled (record (access_request_of old ask authenticator) { id = id }) authenticator old.client.secret) request frame.payload reads asked.reads
      (filled_size (record (access_request_of old ask authenticator) { id = id }) authenticator old.client.secret (record { one = can.one; sized = can.sized })) long;
  others = ap (λ (c : State). record old { client = c; sent = slice_set old.sent id false }) (one_table old.client client kept);
}

pub asks_lane : (old client : State) (owner : Owner) (p : Packet) (secret : List ℕ) (now id : ℕ) (frame : Bytes) → IsLane old → ChangesTable old client Auth
    → IsAsked old.auth client.auth owner p secret now id frame → question_of owner ≢ None → IsLane client
asks_lane old client owner p secret now id frame lane kept asked question = record {
  size = ap length asked.places ∙ length-set old.auth.places id (Some asked.made) ∙ lane.size;
  questions = subst AreQuestions (sym asked.places) (more_questions old.auth.places id asked.made (subst (λ (o : Owner). question_of o ≢ None) (sym asked.owner_is) question) lane.questions);
  acct = kept.table ∙ lane.acct;
}

pub opened_lane : (s : State) (auth acct : Peer) (secret : List ℕ) (tries : ℕ) → IsOpened s auth acct secret tries → IsLane s
opened_lane s auth acct secret tries h = record {
  size = ap (λ (t : Table). length t.places) h.auth_is;
  questions = subst (λ (t : Table). AreQuestions t.places) (sym h.auth_is) (none_asked 256);
  acct = h.acct_is;
}

-- a request that is sent again is a question's
no_record : (old client : State) (now id : ℕ) (frame : Bytes) → IsLane old → IsResent old client now Acct id frame → ⊥
no_record old client now id frame lane h =
    let both : None ≡ Some h.oldest.request = sym (no_request 256 h.due.id) ∙ ap (λ (t : Table). request_of t.places h.due.id) (sym lane.acct) ∙ h.oldest.is in
    cc

pub resent_auth : (old client : State) (now : ℕ) (lane : Lane) (id : ℕ) (frame : Bytes) → IsLane old → IsResent old client now lane id frame → IsResent old client now Auth id frame
resent_auth old client now Auth id frame lane h = h
resent_auth old client now Acct id frame lane h = absurd (no_record old client now id frame lane h)

pub resent_lane : (old client : State) (now id : ℕ) (frame : Bytes) → IsLane old → IsResent old client now Auth id frame → IsLane client
resent_lane old client now id frame lane h = record {
  size = ap length h.sent.places ∙ length-set old.auth.places id (Some h.sent.after) ∙ lane.size;
  questions = subst AreQuestions (sym h.sent.places) (more_questions old.auth.places id h.sent.after
      (λ e. lane.questions id h.sent.before h.sent.was (ap question_of (sym h.sent.owner) ∙ e)) lane.questions);
  acct = h.others ∙ lane.acct;
}

pub resends : (old : LaneState) (client : State) (now id : ℕ) (frame : Bytes) → ChangesTable old.client client Auth → IsResent old.client client now Auth id frame
    → IsResentBy old now id frame.payload (record old { client = client })
resends old client now id frame kept h = record {
  frame = frame;
  payload = refl;
  resent = h;
  others = ap (λ (c : State). record old { client = c }) (one_table old.client client kept);
}

too_early : (now : ℕ) (b : Bool) → (leb (now + 3000) now && b) ≡ false
too_early now b = ⊎_elim (λ due. absurd (omega (arith, due.1))) (λ early. ap (λ (t : Bool). t && b) early.0) (leb_tells (now + 3000) now)

-- a request that was sent again is not due any more
pub fewer_due : (old : LaneState) (client : State) (now id : ℕ) (frame : Bytes) → ChangesTable old.client client Auth → IsResent old.client client now Auth id frame
    → due_count (record old { client = client }) now + 1 ≡ due_count old now
fewer_due old client now id frame kept h =
    let f : Option Pending → Bool = is_due_again old now in
    let is : request_of (places_of old) id ≡ Some h.oldest.request = ap (request_of (places_of old)) h.id_is ∙ h.oldest.is in
    let wanted : f (request_of (places_of old) id) ≡ true = ap f is ∙ h.oldest.wants in
    let not_now : f (Some h.sent.after) ≡ false = ap (λ (n : ℕ). leb (n + 3000) now && nat_lt h.sent.after.sends old.client.tries) h.sent.moment ∙ too_early now (nat_lt h.sent.after.sends old.client.tries) in
    let counts : ℕ → List (Option Pending) → ℕ = λ tries places. due_count (record old { client = record old.client { auth = table places 0; tries = tries } }) now in
    let same : due_count (record old { client = client }) now ≡ due_count (record old { client = record old.client { auth = table (slice_set (places_of old) id (Some h.sent.after)) 0 } }) now =
    ap (λ (n : ℕ). counts n client.auth.places) kept.tries ∙ ap (counts old.client.tries) h.sent.places in
    let less = count_less f (places_of old) id (Some h.sent.after) (within (places_of old) id h.oldest.request is) wanted not_now in
    omega (arith, same, less)

-- where none is due none is counted
pub none_due : (old : LaneState) (now : ℕ) → length (places_of old) ≡ 256 → NoneToResend old now → due_count old now ≡ 0
none_due old now size none = count_none (is_due_again old now) (places_of old) (λ i below. at i (omega (arith, size, below)) (request_of (places_of old) i) refl)
  where
    wanted : (i : ℕ) → i < 256 → (r : Pending) → request_of (places_of old) i ≡ Some r → (b : Bool) → to_resend old.client Auth now r ≡ b → b ≡ false
    wanted i below r is true w = absurd (none i r below is w)
    wanted i below r is false w = refl

    at : (i : ℕ) → i < 256 → (p : Option Pending) → request_of (places_of old) i ≡ p → is_due_again old now (request_of (places_of old) i) ≡ false
    at i below None e = ap (is_due_again old now) e
    at i below (Some r) e = ap (is_due_again old now) e ∙ wanted i below r e (to_resend old.client Auth now r) refl

-- where the interval of no request has passed, none is to be sent again
pub none_again : (l : LaneState) (now : ℕ) → NoneBelow (is_sought Endless now) (places_of l) 256 → NoneToResend l now
none_again l now none j r below is wants = none j r below is (and_parts (leb (r.sent_at + 3000) now) (nat_lt r.sends l.client.tries) wants).0

-- and none is given up
pub none_too_often : (l : LaneState) (now : ℕ) → NoneBelow (is_sought Endless now) (places_of l) 256 → GivesUp l now None l
none_too_often l now none = (λ j r below is wants. none j r below is (and_parts (leb (r.sent_at + 3000) now) (nat_le l.client.tries r.sends) wants).0, refl)

-- a request whose interval has passed is a question's
pub one_due : (c : State) (now : ℕ) → IsLane c → OneBelow (is_sought Endless now) c.auth.places 256 ⊎ OneBelow (is_sought Endless now) c.acct.places 256
    → OneBelow (is_sought Endless now) c.auth.places 256
one_due c now lane one = ⊎_elim
    (λ auth. auth)
    (λ acct. absurd (let both : None ≡ Some acct.request = sym (no_request 256 acct.id) ∙ ap (λ (t : Table). request_of t.places acct.id) (sym lane.acct) ∙ acct.is in cc))
    one

-- nothing is given up
pub none_given_up : (old : LaneState) (client : State) (now : ℕ) → NoneBelow (is_sought (Timeout old.client.tries) now) (places_of old) 256 → client ≡ old.client
    → GivesUp old now None (record old { client = client })
none_given_up old client now none same = (none, ap (λ (c : State). record old { client = c }) same)

-- nothing is answered
pub none_answered : (old : LaneState) (client : State) (from : Peer) (octets : List ℕ) (cause : Cause) → Answers old.client.auth_server from Auth (places_of old) old.client.secret octets (Ignored cause)
    → client ≡ old.client → Takes old from octets None (record old { client = client })
none_answered old client from octets cause h same = (ignored_counts_not old from octets cause h, ap (λ (c : State). record old { client = c }) same)
