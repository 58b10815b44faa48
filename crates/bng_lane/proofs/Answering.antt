-- What replies and requests say of questions.
use Rattle.std.proofs.Common.{◌≡◌, inl, inr, ℕ, Bool, true, false, ◌||◌, List, Some, refl, sym, ap, subst, ◌∙◌}
use Rattle.std.specs.Prelude.{IsTrue, eqb}
use Rattle.std.proofs.lemmas.Bool.Decides.{Decides-eqb}
use Rattle.bng_base.specs.declared.address.Peer.{Peer}
use Rattle.bng_radius_wire.specs.Grammar.{Packet, IsRadius}
use Rattle.bng_radius_wire.specs.Digests.{filled}
use Rattle.bng_radius_wire.proofs.Exact.{one_packet}
use Rattle.bng_rad_client.specs.declared.rules.Lane.TheVariants.{Auth}
use Rattle.bng_rad_client.specs.Replies.{takes}
use Rattle.bng_rad_client.specs.Table.{request_of}
use Rattle.bng_verdict.specs.declared.question.QuestionNo.{QuestionNo}
use Rattle.bng_lane.specs.State.{LaneState, places_of}
use Rattle.bng_lane.specs.Replies.{Takes}
use Rattle.bng_lane.specs.Asking.{access_request_of}
use Rattle.bng_lane.specs.Sends.{LaneAsk, Asks}
use Rattle.bng_lane.specs.Laws.{IsAnswer, IsReplyFor, SaysItsQuestion}
use Rattle.bng_lane.proofs.Places.{emptied}
use Rattle.bng_lane.proofs.Signing.{filled_code, filled_id, filled_authenticator, filled_alike}

pub answer_of : (code : ℕ) → IsTrue (takes Auth code) → IsAnswer code
answer_of code t = by_code (eqb code 2) (eqb code 3) (eqb code 11) refl refl refl t
  where
    by_code : (a b c : Bool) → eqb code 2 ≡ a → eqb code 3 ≡ b → eqb code 11 ≡ c → IsTrue ((a || b) || c) → IsAnswer code
    by_code true b c x y z t = inl ((Decides-eqb code 2).0 x)
    by_code false true c x y z t = inr (inl ((Decides-eqb code 3).0 y))
    by_code false false true x y z t = inr (inr ((Decides-eqb code 11).0 z))
    by_code false false false x y z t = absurd cc

pub reply_for : (old new : LaneState) (from : Peer) (octets : List ℕ) (q : QuestionNo) → Takes old from octets (Some q) new → IsReplyFor old from octets q new
reply_for old new from octets q (c, after) = record {
  server = c.server;
  packet = c.packet;
  reads = c.reply.reply.packet;
  one = λ p is. one_packet p c.packet octets is c.reply.reply.packet;
  code = answer_of c.packet.code c.reply.reply.code;
  request = c.request;
  pending = c.reply.pending;
  question = c.question;
  signed = c.signed;
  gone = ap (λ (l : LaneState). request_of (places_of l) c.packet.id) after ∙ emptied (places_of old) c.packet.id;
}

pub says_question : (now : ℕ) (old new : LaneState) (a : LaneAsk) → Asks now old a new → SaysItsQuestion old a new
says_question now old new a (m, by, after) =
    let p : Packet = record (access_request_of old a.ask a.authenticator) { id = a.send.id } in
    let secret : List ℕ = old.client.secret in
    record {
      packet = filled p a.authenticator secret;
      reads = subst (IsRadius (filled p a.authenticator secret)) (sym by.payload) by.asked.reads;
      code = filled_code p a.authenticator secret;
      id = filled_id p a.authenticator secret;
      authenticator = filled_authenticator p a.authenticator secret;
      attributes = filled_alike p a.authenticator secret;
      request = by.asked.made;
      pending = ap (λ (l : LaneState). request_of (places_of l) a.send.id) after ∙ by.pending;
      octets = by.asked.octets ∙ sym by.payload;
      question = by.asked.owner_is;
    }
