-- A reply that was written, and signed after that.
use Rattle.std.proofs.Common.{◌≡◌, ◌≢◌, ℕ, ◌+◌, ◌≤◌, Bool, true, false, cond, eqb, List, [], ◌∷◌, ◌++◌, length, take, Option, Some, None, refl, sym, ap, ◌∙◌, arith, length-append}
use Rattle.std.specs.Prelude.{count_by, filter, find, option_to_list}
use Rattle.std.specs.List.{AllByRecursion}
use Rattle.std.proofs.lemmas.List.{take_all, length-take-le, set_at}
use Rattle.std.proofs.lemmas.List.Sums.{sum_by-cons, sum_by-append}
use Rattle.std.proofs.lemmas.Bool.Decides.{Decides-eqb}
use Rattle.md5.proofs.StandardFacts.{length-md5}
use Rattle.bng_digest.specs.Authentication.{hmac_md5}
use Rattle.byteorder.specs.Endian.{big_bytes}
use Rattle.bng_radius_wire.specs.Attributes.{Field, text}
use Rattle.bng_radius_wire.specs.Grammar.{AreOctets, Packet, IsRadius, length_in, attributes_text, spelling}
use Rattle.bng_radius_wire.specs.Digests.{zeros, is_message_authenticator, message_authenticator, with_message_authenticator, filled, signed_reply, HasRoom, CanBeSigned, IsSigned}
use Rattle.bng_radius_wire.specs.Places.{IsOther, FirstStandsAt}
use Rattle.bng_radius_wire.proofs.Spelled.{size_of, size_is, packet_is, spelled_packet}
use Rattle.bng_radius_wire.proofs.Signs.{filled_first, filled_none}
use Rattle.bng_coa.specs.Kinds.{has_kind, has_some}
use Rattle.bng_coa.specs.Replies.{repeated, state_of, signature, reply_with, fits, more_of, error_cause, ack_of, nak_of, reply_to}
use Rattle.bng_coa.specs.declared.rules.ChangeVerdict.{ChangeVerdict}
use Rattle.bng_coa.specs.declared.rules.ChangeVerdict.TheVariants.{Applied, Refused}
use Rattle.bng_coa.proofs.Each.{appended, by_places}
use Rattle.bng_coa.proofs.Appending.{text-append}
use Rattle.bng_coa.proofs.Drafts.{spelled_reads}

pub length-hmac : (key text : List ℕ) → length (hmac_md5 key text) ≡ 16
unfolding hmac_md5
length-hmac key text = length-md5 _

-- ---- the request that was admitted

-- what stands before the padding is the packet
pub reads_packet : (p : Packet) (bytes : List ℕ) → AreOctets bytes → IsRadius p bytes → IsRadius p (take (length_in bytes) bytes)
reads_packet p bytes small is =
    spelled_reads p (take (length_in bytes) bytes) (spelled_packet p bytes small is) (omega (arith, length-take-le (length_in bytes) bytes is.is_there, is.at_most))

-- each Message-Authenticator of a request that is signed has 16 octets
pub signed_sized : (p : Packet) (secret : List ℕ) → IsSigned p zeros secret → AllByRecursion HasRoom p.attributes
signed_sized p secret signed =
    by_places HasRoom p.attributes (λ i f is kind. ap length (signed.messages i f is kind) ∙ length-hmac secret _)

-- ---- no Message-Authenticator stands before the last attribute of a reply

other_kind : (k : ℕ) (f : Field) → k ≢ 80 → eqb f.kind k ≡ true → IsOther f
other_kind k f differs e = λ is. differs (sym ((Decides-eqb f.kind k).0 e) ∙ is)

filtered_cons : (k : ℕ) (f : Field) (fs : List Field) (b : Bool) → k ≢ 80 → eqb f.kind k ≡ b → AllByRecursion IsOther fs → AllByRecursion IsOther (cond b (f ∷ fs) fs)
filtered_cons k f fs true differs e all = (other_kind k f differs e, all)
filtered_cons k f fs false differs e all = all

filtered_others : (k : ℕ) (fs : List Field) → k ≢ 80 → AllByRecursion IsOther (filter (has_kind k) fs)
filtered_others k [] differs = tt
filtered_others k (f ∷ fs) differs = filtered_cons k f (filter (has_kind k) fs) (eqb f.kind k) differs refl (filtered_others k fs differs)

found_cons : (k : ℕ) (f : Field) (o : Option Field) (b : Bool) → k ≢ 80 → eqb f.kind k ≡ b → AllByRecursion IsOther (option_to_list o) → AllByRecursion IsOther (option_to_list (cond b (Some f) o))
found_cons k f o true differs e all = (other_kind k f differs e, tt)
found_cons k f o false differs e all = all

found_others : (k : ℕ) (fs : List Field) → k ≢ 80 → AllByRecursion IsOther (option_to_list (find (has_kind k) fs))
found_others k [] differs = tt
found_others k (f ∷ fs) differs = found_cons k f (find (has_kind k) fs) (eqb f.kind k) differs refl (found_others k fs differs)

state_others : (b : Bool) (fs : List Field) → AllByRecursion IsOther fs → AllByRecursion IsOther (cond b fs [])
state_others true fs all = all
state_others false fs all = tt

more_others : (o : Option (List ℕ)) → AllByRecursion IsOther (more_of o)
more_others None = tt
more_others (Some value) = (λ is. absurd (omega (arith, is)), tt)

front_others : (p : Packet) (o : Option (List ℕ)) → AllByRecursion IsOther (repeated p ++ more_of o)
front_others p o =
    appended IsOther (repeated p) (more_of o)
    (appended IsOther (filter (has_kind 33) p.attributes) (state_of p) (filtered_others 33 p.attributes (λ is. omega (arith, is)))
    (state_others (eqb p.code 43) (option_to_list (find (has_kind 24) p.attributes)) (found_others 24 p.attributes (λ is. omega (arith, is)))))
    (more_others o)

-- ---- a packet with one Message-Authenticator at its end, or none

none_here : (f : Field) (b : Bool) → eqb f.kind 80 ≡ b → IsOther f → ◌≡◌ {A = ℕ} (cond (is_message_authenticator f) 1 0) 0
none_here f true e other = absurd (other ((Decides-eqb f.kind 80).0 e))
none_here f false e other = ap (λ (t : Bool). cond t 1 0) e

none_counted : (fs : List Field) → AllByRecursion IsOther fs → count_by is_message_authenticator fs ≡ 0
none_counted [] all = refl
none_counted (f ∷ fs) all =
    omega (arith, sum_by-cons (λ x. cond (is_message_authenticator x) 1 0) f fs, none_here f (eqb f.kind 80) refl all.0, none_counted fs all.1)

last_counted : (b : Bool) → count_by is_message_authenticator (signature b) ≤ 1
last_counted true = omega arith
last_counted false = omega arith

roomy : (fs : List Field) → AllByRecursion IsOther fs → AllByRecursion HasRoom fs
roomy [] all = tt
roomy (f ∷ fs) all = (λ is. absurd (all.0 is), roomy fs all.1)

last_roomy : (b : Bool) → AllByRecursion HasRoom (signature b)
last_roomy true = (λ is. refl, tt)
last_roomy false = tt

-- a packet with these attributes, and a Message-Authenticator after them or not
abbrev ends_with : (code id : ℕ) → List Field → Bool → Packet
ends_with code id front b = record { code = code; id = id; authenticator = zeros; attributes = front ++ signature b }

module _ (code id : ℕ) (front : List Field) (others : AllByRecursion IsOther front) where
  can : (b : Bool) → CanBeSigned (ends_with code id front b)
  can b = record {
    one = omega (arith, sum_by-append (λ x. cond (is_message_authenticator x) 1 0) front (signature b), none_counted front others, last_counted b);
    sized = appended HasRoom front (signature b) (roomy front others) (last_roomy b);
  }

  first : FirstStandsAt (front ++ signature true) 20 (20 + length (attributes_text front))
  first = record {
    before = front;
    here = record { kind = 80; value = zeros };
    after = [];
    are = refl;
    others = others;
    kind = refl;
    place = refl;
  }

  filled_size : (b : Bool) (request secret : List ℕ) → length (attributes_text (filled (ends_with code id front b) request secret).attributes) ≡ length (attributes_text (front ++ signature b))
  unfolding first
  filled_size false request secret =
      ap (λ (q : Packet). length (attributes_text q.attributes)) (filled_none (ends_with code id front false) request secret (appended IsOther front [] others tt))
  filled_size true request secret =
      let r = ends_with code id front true in
      let value = message_authenticator r (length front) request secret in
      let made : Field = record { kind = 80; value = value } in
      ap (λ (q : Packet). length (attributes_text q.attributes)) (filled_first r (20 + length (attributes_text front)) first request secret)
      ∙ ap (λ (fs : List Field). length (attributes_text fs)) (set_at front (record { kind = 80; value = zeros }) [] made (length front) refl)
      ∙ omega (
        arith,
        ap length (text-append front (made ∷ [])),
        ap length (text-append front (signature true)),
        length-append (attributes_text front) (attributes_text (made ∷ [])),
        length-append (attributes_text front) (attributes_text (signature true)),
        length-append (text made) [],
        length-hmac secret (spelling (with_message_authenticator (record r { authenticator = request }) (length front) zeros)),
      )

pub can_be_signed : (p : Packet) (code : ℕ) (o : Option (List ℕ)) → CanBeSigned (reply_with p code (more_of o))
can_be_signed p code o = can code p.id (repeated p ++ more_of o) (front_others p o) (has_some 80 p.attributes)

pub signed_size : (p : Packet) (code : ℕ) (o : Option (List ℕ)) (request secret : List ℕ) → size_of (signed_reply (reply_with p code (more_of o)) request secret) ≡ size_of (reply_with p code (more_of o))
signed_size p code o request secret =
    ap (λ (n : ℕ). 20 + n) (filled_size code p.id (repeated p ++ more_of o) (front_others p o) (has_some 80 p.attributes) request secret)

-- the octets that were signed in place are the spelling of the signed reply
pub spelled_signed : (r s : Packet) (octets : List ℕ) → AreOctets octets → IsRadius s octets → length octets ≡ size_of r → size_of s ≡ size_of r → octets ≡ spelling s
spelled_signed r s octets small is size same =
    sym (take_all (length_in octets) octets (omega (arith, size, same, size_is s octets small is))) ∙ packet_is s octets small is

-- what is true of each reply with an Error-Cause or none is true of the reply with a verdict
module _ (p : Packet) (P : Packet → Type 0) (each : (code : ℕ) (o : Option (List ℕ)) → P (reply_with p code (more_of o))) where
  by_room : (b : Bool) (code : ℕ) (value : List ℕ) → P (cond b (reply_with p code (more_of (Some value))) (reply_with p code []))
  by_room true code value = each code (Some value)
  by_room false code value = each code None

  pub by_verdict : (verdict : ChangeVerdict) → P (reply_to p verdict)
  by_verdict Applied = each (ack_of p.code) None
  by_verdict (Refused cause) = by_room (fits (reply_with p (nak_of p.code) (error_cause cause))) (nak_of p.code) (big_bytes 4 cause)
