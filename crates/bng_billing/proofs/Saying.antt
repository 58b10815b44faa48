-- What acknowledgements and requests say of records.
use Rattle.std.proofs.Common.{◌≡◌, ℕ, List, Some, refl, sym, ap, subst, ◌∙◌, length}
use Rattle.std.specs.Prelude.{IsTrue, eqb}
use Rattle.std.proofs.lemmas.Bool.Decides.{Decides-eqb}
use Rattle.bng_base.specs.declared.address.Peer.{Peer}
use Rattle.bng_radius_wire.specs.Digests.{IsSigned}
use Rattle.bng_radius_wire.specs.Grammar.{length_in}
use Rattle.bng_radius_wire.proofs.Exact.{one_packet}
use Rattle.bng_rad_client.specs.declared.pending.Pending.{Pending}
use Rattle.bng_rad_client.specs.declared.rules.Lane.TheVariants.{Acct}
use Rattle.bng_rad_client.specs.Replies.{takes}
use Rattle.bng_rad_client.specs.Table.{request_of}
use Rattle.bng_radius_wire.specs.Grammar.{IsRadius}
use Rattle.bng_radius_wire.specs.Digests.{signed_request}
use Rattle.bng_acct.specs.declared.facts.RecordNo.{RecordNo}
use Rattle.bng_acct.specs.Queue.{sheet_at}
use Rattle.bng_billing.specs.State.{BillingState, places_of}
use Rattle.bng_billing.specs.Invariant.{SaysRecord, IsBilling}
use Rattle.bng_billing.specs.Replies.{Takes}
use Rattle.bng_billing.specs.Due.{IsResentBy}
use Rattle.bng_billing.specs.Sending.{IsSentBy}
use Rattle.bng_billing.specs.Laws.{IsAcknowledgementOf, SaysFirst, SaysAgain}
use Rattle.bng_billing.proofs.Places.{emptied}
use Rattle.bng_billing.proofs.Numbers.{one_number}
use Rattle.bng_billing.proofs.Signing.{says_record}
use Rattle.bng_billing.proofs.Keeping.{again_is}

pub response_is : (code : ℕ) → IsTrue (takes Acct code) → code ≡ 5
response_is code t = (Decides-eqb code 5).0 t

pub acknowledgement_of : (old new : BillingState) (from : Peer) (octets : List ℕ) (n : RecordNo) → IsBilling old.client old.spool → Takes old from octets (Some n) new → IsAcknowledgementOf old from octets n.0 new
acknowledgement_of old new from octets n b a =
    let c = a.counts in
    let o = b.requests c.packet.id c.request c.reply.pending in
    let number : o.number ≡ n.0 = one_number o.number n.0 (sym o.owner_is ∙ c.record_is) in
    record {
      server = c.server;
      packet = c.packet;
      reads = c.reply.reply.packet;
      one = λ p is. one_packet p c.packet octets is c.reply.reply.packet;
      code = response_is c.packet.code c.reply.reply.code;
      request = c.request;
      pending = c.reply.pending;
      owner_is = c.record_is;
      sent = c.sent;
      sheet = o.sheet;
      is_open = ap (sheet_at old.spool.sheets) (sym number) ∙ o.is_open;
      says = o.says;
      signed = subst (λ (x : List ℕ). IsSigned c.packet x old.client.secret) (sym o.says.reads.authenticator) c.signed;
      gone = ap (λ (x : BillingState). request_of (places_of x) c.packet.id) a.others ∙ emptied (places_of old) c.packet.id;
      closed = a.acknowledged.sets.changed;
    }

pub says_first : (old new : BillingState) (now n id : ℕ) (octets : List ℕ) → IsSentBy old now n id octets new → SaysFirst old n id octets new
says_first old new now n id octets by = record {
  first = by.handed.first;
  sheet = by.handed.sheet;
  is_open = by.handed.was;
  says = says_record old.spool.rules old.client.secret by.handed.sheet.record id by.request octets by.handed.holds
      (subst (IsRadius (signed_request (record by.handed.holds.packet { id = id }) old.client.secret)) (sym by.payload) by.asked.reads) by.unpadded;
  free = by.asked.next.free;
  request = by.asked.made;
  pending = by.pending;
  octets_are = by.asked.octets ∙ sym by.payload;
  owner_is = by.asked.owner_is;
}

pub says_again : (old new : BillingState) (now id : ℕ) (octets : List ℕ) → IsBilling old.client old.spool → IsResentBy old now id octets new → SaysAgain old id octets new
says_again old new now id octets b by =
    let s = by.resent.sent in
    let o = b.requests id s.before s.was in
    let out = again_is old.client new.client old.spool id now by.frame s (ap (λ (y : BillingState). y.client.secret) by.others) (ap (λ (y : BillingState). y.client.auth) by.others) b id s.before s.was in
    let same : octets ≡ s.before.octets = by.payload ∙ s.payload in
    record {
      request = s.before;
      was = s.was;
      octets_are = same;
      number = o.number;
      owner_is = o.owner_is;
      sheet = o.sheet;
      is_open = o.is_open;
      says = subst (SaysRecord old.spool.rules old.client.secret o.sheet.record id) (sym same) o.says;
      later = out.0;
      pending = out.1;
      same_octets = out.3 ∙ sym same;
      same_owner = out.2;
    }
