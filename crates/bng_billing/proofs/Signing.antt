-- The request of a record, signed.
use Rattle.std.proofs.Common.{◌≡◌, ℕ, ◌+◌, ◌-◌, Bool, false, cond, List, [], ◌∷◌, ◌++◌, length, drop, eqb, Option, Some, None, refl, sym, ap, subst, ◌∙◌, arith}
use Rattle.std.specs.List.{position_from, AllByRecursion}
use Rattle.std.proofs.lemmas.List.{length-take, length-drop}
use Rattle.bng_base.specs.Packet.{Packet as Bytes}
use Rattle.bng_base.specs.declared.circuit.Circuit.{Circuit}
use Rattle.bng_base.specs.declared.circuit.Circuit.TheVariants.{Pppoe, L2tp}
use Rattle.bng_radius_wire.specs.Attributes.{Field}
use Rattle.bng_radius_wire.specs.Grammar.{Packet, IsRadius, length_in}
use Rattle.bng_radius_wire.specs.Digests.{zeros, is_message_authenticator, response_authenticator, filled_at, has_digest, signed_request, signed_reply, filled}
use Rattle.bng_radius_wire.proofs.Spelled.{size_of}
use Rattle.bng_acct.specs.declared.facts.StatusType.{StatusType}
use Rattle.bng_acct.specs.declared.facts.StatusType.TheVariants.{Start, Interim, Stop}
use Rattle.bng_acct.specs.declared.facts.Record.{Record}
use Rattle.bng_acct.specs.declared.rules.AcctRules.{AcctRules}
use Rattle.bng_acct.specs.Attributes.{attributes, identity, station, sender, unless_start, in_stop, low_octets, usage, cause, gigawords, port, front, rest, octets as octets_of}
use Rattle.bng_acct.specs.Texts.{session_id}
use Rattle.bng_acct.specs.Request.{IsClass, HoldsRequest}
use Rattle.bng_billing.specs.Invariant.{SaysRecord}

-- no Message-Authenticator is among them
abbrev ArePlain : List Field → Type 0
ArePlain fs = AllByRecursion (λ f. is_message_authenticator f ≡ false) fs

both : (xs ys : List Field) → ArePlain xs → ArePlain ys → ArePlain (xs ++ ys)
both [] ys h k = k
both (x ∷ xs) ys h k = (h.0, both xs ys h.1 k)

none_at : (fs : List Field) (i : ℕ) → ArePlain fs → position_from is_message_authenticator i fs ≡ None
none_at [] i h = refl
none_at (f ∷ fs) i h = ap (λ (b : Bool). cond b (Some i) (position_from is_message_authenticator (i + 1) fs)) h.0 ∙ none_at fs (i + 1) h.1

plain_classes : (fs : List Field) → AllByRecursion IsClass fs → ArePlain fs
plain_classes [] h = tt
plain_classes (f ∷ fs) h = (ap (λ (k : ℕ). eqb k 80) h.0, plain_classes fs h.1)

plain_station : (x : Circuit) → ArePlain (station x)
plain_station (Pppoe port mac session) = (refl, tt)
plain_station (L2tp peer tunnel session) = tt

plain_unless : (s : StatusType) (fs : List Field) → ArePlain fs → ArePlain (unless_start s fs)
plain_unless Start fs h = tt
plain_unless Interim fs h = h
plain_unless Stop fs h = h

plain_in_stop : (s : StatusType) (fs : List Field) → ArePlain fs → ArePlain (in_stop s fs)
plain_in_stop Start fs h = tt
plain_in_stop Interim fs h = tt
plain_in_stop Stop fs h = h

-- a record has no Message-Authenticator
plain : (rules : AcctRules) (r : Record) (classes : List Field) → AllByRecursion IsClass classes → ArePlain (attributes rules r classes)
plain rules r classes are =
    let s = r.status in
    let facts = r.facts in
    let book = facts.carried in
    let with_classes = both (identity rules facts) classes (refl, (refl, (refl, (refl, (refl, (refl, tt)))))) (plain_classes classes are) in
    let with_station = both (identity rules facts ++ classes) (station facts.circuit) with_classes (plain_station facts.circuit) in
    let in_front = both (identity rules facts ++ classes ++ station facts.circuit) (sender rules s) with_station (refl, (refl, tt)) in
    let low : List Field = unless_start s (low_octets book) in
    let id : List Field = octets_of 44 (session_id rules.wall facts.term) ∷ [] in
    let used : List Field = unless_start s (usage facts r.moment) in
    let caused : List Field = in_stop s (cause r.moment) in
    let high : List Field = unless_start s (gigawords book) in
    let with_id = both low id (plain_unless s (low_octets book) (refl, (refl, tt))) (refl, tt) in
    let with_usage = both (low ++ id) used with_id (plain_unless s (usage facts r.moment) (refl, (refl, (refl, tt)))) in
    let with_cause = both (low ++ id ++ used) caused with_usage (plain_in_stop s (cause r.moment) (refl, tt)) in
    let with_gigawords = both (low ++ id ++ used ++ caused) high with_cause (plain_unless s (gigawords book) (refl, (refl, tt))) in
    let in_rest = both (low ++ id ++ used ++ caused ++ high) (port facts r.moment) with_gigawords (refl, (refl, (refl, tt))) in
    both (front rules r classes) (rest rules r) in_front in_rest

sized : (p : Packet) (octets : List ℕ) → IsRadius p octets → size_of p ≡ length_in octets
sized p octets is = omega (arith, ap length is.attributes.spelled, length-take (length_in octets - 20) (drop 20 octets), length-drop 20 octets, is.at_least, is.is_there)

-- an Accounting-Request with no Message-Authenticator has a digest for its authenticator
abbrev digested : Packet → (secret : List ℕ) → Packet
digested p secret = record p { authenticator = response_authenticator p zeros secret }

signed : (p : Packet) (secret : List ℕ) → p.code ≡ 4 → position_from is_message_authenticator 0 p.attributes ≡ None → signed_request p secret ≡ digested p secret
signed p secret code none =
    ap (λ (k : ℕ). cond (has_digest k) (signed_reply p zeros secret) (filled p p.authenticator secret)) code
    ∙ ap (λ (o : Option ℕ). digested (filled_at o p zeros secret) secret) none

module _ (rules : AcctRules) (secret : List ℕ) (r : Record) (id : ℕ) (request : Bytes) (octets : List ℕ) (h : HoldsRequest rules r request)
    (reads : IsRadius (signed_request (record h.packet { id = id }) secret) octets) where
  abbrev p : Packet
  p = record h.packet { id = id }

  is : IsRadius (digested p secret) octets
  is =
      let none : position_from is_message_authenticator 0 p.attributes ≡ None =
      ap (λ (fs : List Field). position_from is_message_authenticator 0 fs) h.is.attributes_are ∙ none_at (attributes rules r h.is.classes) 0 (plain rules r h.is.classes h.is.are.classes_all) in
      subst (λ (q : Packet). IsRadius q octets) (signed p secret h.is.code none) reads

  -- the signed request of what the frame holds says its record
  pub says_record : length_in octets ≡ length octets → SaysRecord rules secret r id octets
  says_record unpadded = record {
    packet = digested p secret;
    reads = is;
    unpadded = unpadded;
    code = h.is.code;
    id_is = refl;
    classes = h.is.classes;
    are = h.is.are;
    attributes_are = h.is.attributes_are;
    authenticator = refl;
  }

  -- and is as long as that
  pub no_padding : length octets ≡ length_in request.payload → length_in octets ≡ length octets
  no_padding long = sym (sized (digested p secret) octets is) ∙ sized h.packet request.payload h.reads ∙ sym long
