-- Packets whose digests are written over.
use Rattle.std.proofs.Common.{◌≡◌, ◌≢◌, ℕ, suc, ◌+◌, ◌-◌, ◌≤◌, Bool, true, false, cond, eqb, List, [], ◌∷◌, ◌++◌, length, take, drop, Option, Some, None, refl, sym, ap, subst, ◌∙◌, arith, length-append, append_assoc}
use Rattle.std.specs.Prelude.{slice_range}
use Rattle.std.specs.List.{AllByRecursion, position_from}
use Rattle.std.proofs.lemmas.List.{drop_at, take-append-drop, take-take, drop-append-le, length-take-le, length-drop}
use Rattle.std.proofs.Math.Seq.{take-add}
use Rattle.std.proofs.lemmas.Bool.Decides.{Decides-eqb}
use Rattle.bng_radius_wire.specs.declared.kinds.TheConstants.{MESSAGE_AUTHENTICATOR}
use Rattle.bng_radius_wire.specs.Attributes.{Field, Fits}
use Rattle.bng_radius_wire.specs.Grammar.{AreOctets, Packet, IsRadius, IsSpelled, length_in, attributes_text, spelling}
use Rattle.bng_radius_wire.specs.Digests.{with_message_authenticator, is_message_authenticator, message_authenticator, filled, filled_at, HasRoom, CanBeSigned}
use Rattle.bng_radius_wire.specs.Places.{IsOther, FirstStandsAt}
use Rattle.bng_radius_wire.specs.Signing.{IsRewritten}
use Rattle.bng_radius_wire.proofs.Spelled.{size_of, size_is, length-spelling, length_in-spelling, spelling_reads, spelled_packet, attributes_of, authenticator_at, with_parts}
use Rattle.bng_radius_wire.proofs.Exact.{one_packet}
use Rattle.bng_radius_wire.proofs.Digested.{Stands, replaced, replaced_text, replaced_size, place_there}

pub rewritten : (p q : Packet) (old new : List ℕ) → AreOctets old → IsRadius p old → length q.authenticator ≡ 16 → AllByRecursion Fits q.attributes → size_of q ≡ size_of p
    → new ≡ spelling q ++ drop (length_in old) old → IsRewritten q old new
rewritten p q old new small is long fit same e =
    let size_q : size_of q ≡ length_in old = same ∙ size_is p old small is in
    let length_q : length (spelling q) ≡ length_in old = length-spelling q long ∙ size_q in
    let fits : size_of q ≤ 4096 = subst (λ (n : ℕ). n ≤ 4096) (sym size_q) is.at_most in
    record {
      reads = subst (IsRadius q) (sym e) (spelling_reads q (drop (length_in old) old) long fit fits);
      size = ap length e ∙ sizes (spelling q) old (length_in old) length_q is.is_there;
      padding = ap (drop (length_in old)) e ∙ drop_at (spelling q) (drop (length_in old) old) (length_in old) length_q;
      same_length = ap length_in e ∙ length_in-spelling q (drop (length_in old) old) fits ∙ size_q;
    }
  where
    sizes : (front old : List ℕ) (n : ℕ) → length front ≡ n → n ≤ length old → length (front ++ drop n old) ≡ length old
    sizes front old n e le = omega (arith, length-append front (drop n old), length-drop n old)

fit_replaced : (before after : List Field) (here other : Field) → Fits other → AllByRecursion Fits (before ++ here ∷ after) → AllByRecursion Fits (before ++ other ∷ after)
fit_replaced [] after here other f fit = (f, fit.1)
fit_replaced (b ∷ before) after here other f fit = (fit.0, fit_replaced before after here other f fit.1)

regrouped : (a b c d e f : List ℕ) → ((a ++ b) ++ c) ++ d ++ (e ++ f) ≡ (a ++ (b ++ (c ++ (d ++ e)))) ++ f
regrouped a b c d e f = simp append_assoc

-- the front of a packet, up to its attributes
pub header_of : (p : Packet) (packet : List ℕ) → IsSpelled p packet → take 20 packet ≡ take 4 packet ++ p.authenticator
header_of p packet h = take-add 4 16 packet ∙ ap (λ (r : List ℕ). take 4 packet ++ r) (authenticator_at p packet h)

pub stands_first : (p : Packet) (at : ℕ) (first : FirstStandsAt p.attributes 20 at) → Stands p first.before first.after first.here at
stands_first p at first = record { are = first.are; place = first.place }

room_at : (before after : List Field) (here : Field) → AllByRecursion HasRoom (before ++ here ∷ after) → HasRoom here
room_at [] after here room = room.0
room_at (b ∷ before) after here room = room_at before after here room.1

-- the Message-Authenticator of a packet that can be signed
pub sized_first : (p : Packet) (at : ℕ) (first : FirstStandsAt p.attributes 20 at) → CanBeSigned p → length first.here.value ≡ 16
sized_first p at first can = room_at first.before first.after first.here (subst (AllByRecursion HasRoom) first.are can.sized) first.kind

pub there_first : (p : Packet) (at : ℕ) (first : FirstStandsAt p.attributes 20 at) (packet : List ℕ) → IsSpelled p packet → CanBeSigned p → at + 18 ≤ length packet
there_first p at first packet h can =
    omega (arith, place_there p first.before first.after first.here at packet (stands_first p at first) h, sized_first p at first can)

pub same_packet : (p q : Packet) (octets : List ℕ) → IsRadius q octets → CanBeSigned q → IsRadius p octets → CanBeSigned p
same_packet p q octets b can a = subst CanBeSigned (one_packet q p octets b a) can

-- octets that are a packet, and padding
module _ (p : Packet) (old : List ℕ) (small : AreOctets old) (is : IsRadius p old) where
  pub packet_of : List ℕ
  packet_of = take (length_in old) old

  pub spelled : IsSpelled p packet_of
  unfolding packet_of
  spelled = spelled_packet p old small is

  pub length-packet_of : length packet_of ≡ length_in old
  unfolding packet_of
  length-packet_of = length-take-le (length_in old) old is.is_there

  pub take_of : (n : ℕ) → n ≤ length_in old → take n old ≡ take n packet_of
  unfolding packet_of
  take_of n le = sym (take-take n (length_in old) old le)

  pub drop_of : (n : ℕ) → n ≤ length_in old → drop n old ≡ drop n packet_of ++ drop (length_in old) old
  unfolding packet_of
  drop_of n le = ap (drop n) (sym (take-append-drop (length_in old) old)) ∙ drop-append-le n packet_of (drop (length_in old) old) (subst (λ (k : ℕ). n ≤ k) (sym length-packet_of) le)

  -- another authenticator in its place
  pub with_other : (other : List ℕ) → length other ≡ 16 → IsRewritten (record p { authenticator = other }) old (take 4 old ++ other ++ drop 20 old)
  with_other other long =
      rewritten p (record p { authenticator = other }) old (take 4 old ++ other ++ drop 20 old) small is long spelled.fit refl
      (ap (λ (r : List ℕ). r ++ other ++ drop 20 old) (take_of 4 (omega (arith, is.at_least)))
      ∙ ap (λ (r : List ℕ). take 4 packet_of ++ other ++ r) (drop_of 20 is.at_least)
      ∙ ap (λ (r : List ℕ). take 4 packet_of ++ other ++ (r ++ drop (length_in old) old)) (attributes_of p packet_of spelled)
      ∙ sym (append_assoc (take 4 packet_of ++ other) (attributes_text p.attributes) (drop (length_in old) old))
      ∙ ap (λ (r : List ℕ). r ++ drop (length_in old) old) (append_assoc (take 4 packet_of) other (attributes_text p.attributes) ∙ sym (with_parts p (record p { authenticator = other }) packet_of spelled refl refl refl)))

  -- another value of the Message-Authenticator that stands at a place
  module _ (at : ℕ) (first : FirstStandsAt p.attributes 20 at) (sixteen : length first.here.value ≡ 16) where
    stands : Stands p first.before first.after first.here at
    stands = stands_first p at first

    there : at + 18 ≤ length_in old
    there = omega (arith, place_there p first.before first.after first.here at packet_of stands spelled, length-packet_of, sixteen)

    pub with_message : (value : List ℕ) → length value ≡ 16 → IsRewritten (with_message_authenticator p (length first.before) value) old (take (at + 2) old ++ value ++ drop (at + 18) old)
    with_message value long =
        let q = with_message_authenticator p (length first.before) value in
        let part = slice_range packet_of 20 (at + 2) in
        let pad = drop (length_in old) old in
        let front : take (at + 2) old ≡ (take 4 packet_of ++ p.authenticator) ++ part =
        take_of (at + 2) (omega (arith, there)) ∙ ap (λ (n : ℕ). take n packet_of) (let e : at + 2 ≡ 20 + (at + 2 - 20) = omega (arith, first.place) in e)
        ∙ take-add 20 (at + 2 - 20) packet_of ∙ ap (λ (r : List ℕ). r ++ part) (header_of p packet_of spelled) in
        let fit : AllByRecursion Fits q.attributes =
        subst (AllByRecursion Fits) (sym (replaced p first.before first.after first.here at packet_of stands spelled value)) (fit_replaced first.before first.after first.here _ (omega (arith, long)) (subst (AllByRecursion Fits) first.are spelled.fit)) in
        let size : size_of q ≡ size_of p = ap (λ (n : ℕ). 20 + n) (replaced_size p first.before first.after first.here at packet_of stands spelled value long sixteen) in
        let text_q : spelling q ≡ take 4 packet_of ++ (p.authenticator ++ (part ++ (value ++ drop (at + 18) packet_of))) =
        with_parts p q packet_of spelled refl refl size ∙ ap (λ (r : List ℕ). take 4 packet_of ++ (p.authenticator ++ r)) (replaced_text p first.before first.after first.here at packet_of stands spelled value long first.kind sixteen) in
        rewritten p q old (take (at + 2) old ++ value ++ drop (at + 18) old) small is spelled.size fit size
        (ap (λ (r : List ℕ). r ++ value ++ drop (at + 18) old) front ∙ ap (λ (r : List ℕ). ((take 4 packet_of ++ p.authenticator) ++ part) ++ value ++ r) (drop_of (at + 18) there)
        ∙ regrouped (take 4 packet_of) p.authenticator part value (drop (at + 18) packet_of) pad ∙ ap (λ (r : List ℕ). r ++ pad) (sym text_q))

-- ---- which Message-Authenticator is filled

is_one : (k : ℕ) → k ≡ MESSAGE_AUTHENTICATOR → eqb k MESSAGE_AUTHENTICATOR ≡ true
is_one k e = (Decides-eqb k MESSAGE_AUTHENTICATOR).1 e

is_none : (k : ℕ) (b : Bool) → eqb k MESSAGE_AUTHENTICATOR ≡ b → k ≢ MESSAGE_AUTHENTICATOR → eqb k MESSAGE_AUTHENTICATOR ≡ false
is_none k true e other = absurd (other ((Decides-eqb k MESSAGE_AUTHENTICATOR).0 e))
is_none k false e other = e

pub position_first : (before after : List Field) (here : Field) (i : ℕ) → AllByRecursion IsOther before → here.kind ≡ MESSAGE_AUTHENTICATOR
    → position_from is_message_authenticator i (before ++ here ∷ after) ≡ Some (i + length before)
position_first [] after here i others kind =
    ap (λ (b : Bool). cond b (Some i) (position_from is_message_authenticator (i + 1) after)) (is_one here.kind kind) ∙ ap Some (let e : i ≡ i + 0 = omega arith in e)
position_first (b ∷ before) after here i others kind =
    ap (λ (t : Bool). cond t (Some i) (position_from is_message_authenticator (i + 1) (before ++ here ∷ after))) (is_none b.kind (eqb b.kind MESSAGE_AUTHENTICATOR) refl others.0)
    ∙ position_first before after here (i + 1) others.1 kind ∙ ap Some (let e : i + 1 + length before ≡ i + suc (length before) = omega arith in e)

pub position_none : (fs : List Field) (i : ℕ) → AllByRecursion IsOther fs → position_from is_message_authenticator i fs ≡ None
position_none [] i others = refl
position_none (f ∷ fs) i others =
    ap (λ (t : Bool). cond t (Some i) (position_from is_message_authenticator (i + 1) fs)) (is_none f.kind (eqb f.kind MESSAGE_AUTHENTICATOR) refl others.0) ∙ position_none fs (i + 1) others.1

pub filled_first : (p : Packet) (at : ℕ) (first : FirstStandsAt p.attributes 20 at) (authenticator secret : List ℕ)
    → filled p authenticator secret ≡ with_message_authenticator p (length first.before) (message_authenticator p (length first.before) authenticator secret)
filled_first p at first authenticator secret =
    ap (λ (o : Option ℕ). filled_at o p authenticator secret)
    (ap (position_from is_message_authenticator 0) first.are ∙ position_first first.before first.after first.here 0 first.others first.kind ∙ ap Some (let e : 0 + length first.before ≡ length first.before = omega arith in e))

pub filled_none : (p : Packet) (authenticator secret : List ℕ) → AllByRecursion IsOther p.attributes → filled p authenticator secret ≡ p
filled_none p authenticator secret others = ap (λ (o : Option ℕ). filled_at o p authenticator secret) (position_none p.attributes 0 others)
