-- A packet and its one text.
use Rattle.std.proofs.Common.{◌≡◌, ℕ, ◌+◌, ◌*◌, ◌/◌, ◌%◌, ◌-◌, ◌<◌, ◌≤◌, List, [], ◌∷◌, ◌++◌, length, take, drop, refl, sym, ap, subst, ◌∙◌, arith, length-append, append_assoc}
use Rattle.std.specs.Prelude.{slice_range}
use Rattle.std.specs.List.{AllByRecursion}
use Rattle.std.proofs.lemmas.List.{take_at, drop_at, take-append-drop, length-take, length-take-le, length-drop}
use Rattle.std.proofs.Math.Seq.{take-add}
use Rattle.byteorder.specs.Endian.{big_bytes}
use Rattle.bng_radius_wire.specs.Attributes.{Fits, AreAttributes}
use Rattle.bng_radius_wire.specs.Grammar.{AreOctets, Packet, IsRadius, IsSpelled, length_in, attributes_text, spelling}

abbrev pub size_of : Packet → ℕ
size_of p = 20 + length (attributes_text p.attributes)

pub length-spelling : (p : Packet) → length p.authenticator ≡ 16 → length (spelling p) ≡ size_of p
unfolding spelling
length-spelling p long = omega (arith, long, length-append p.authenticator (attributes_text p.attributes))

pub length_in-spelling : (p : Packet) (pad : List ℕ) → size_of p ≤ 4096 → length_in (spelling p ++ pad) ≡ size_of p
unfolding spelling
length_in-spelling p pad small = omega arith

-- octets that are a packet's spelling and padding hold it
pub spelling_reads : (p : Packet) (pad : List ℕ) → length p.authenticator ≡ 16 → AllByRecursion Fits p.attributes → size_of p ≤ 4096 → IsRadius p (spelling p ++ pad)
unfolding spelling
spelling_reads p pad long fit small =
    let is_length : length_in (spelling p ++ pad) ≡ size_of p = omega arith in
    let front : take 16 ((p.authenticator ++ attributes_text p.attributes) ++ pad) ≡ p.authenticator =
    ap (take 16) (append_assoc p.authenticator (attributes_text p.attributes) pad) ∙ take_at p.authenticator (attributes_text p.attributes ++ pad) 16 long in
    let behind : take (size_of p - 20) (drop 16 ((p.authenticator ++ attributes_text p.attributes) ++ pad)) ≡ attributes_text p.attributes =
    ap (λ (r : List ℕ). take (size_of p - 20) (drop 16 r)) (append_assoc p.authenticator (attributes_text p.attributes) pad)
    ∙ ap (take (size_of p - 20)) (drop_at p.authenticator (attributes_text p.attributes ++ pad) 16 long)
    ∙ take_at (attributes_text p.attributes) pad (size_of p - 20) (omega arith) in
    record {
      code = refl;
      id = refl;
      at_least = omega (arith, is_length);
      at_most = omega (arith, is_length);
      is_there = omega (arith, is_length, length-spelling p long, length-append (spelling p) pad);
      authenticator = sym front;
      attributes = subst (λ (n : ℕ). AreAttributes p.attributes (slice_range (spelling p ++ pad) 20 n)) (sym is_length) (record { fit = fit; spelled = behind });
    }

same_word : (high low n : ℕ) → high < 256 → low < 256 → n ≡ high * 256 + low → big_bytes 2 n ≡ high ∷ low ∷ []
same_word high low n h l e =
    let high_is : n / 256 % 256 ≡ high = omega arith in
    let low_is : n % 256 ≡ low = omega arith in
    ap (λ (x : ℕ). x ∷ (n % 256) ∷ []) high_is ∙ ap (λ (x : ℕ). high ∷ x ∷ []) low_is

-- what octets hold before the padding is their packet's spelling
pub packet_is : (p : Packet) (octets : List ℕ) → AreOctets octets → IsRadius p octets → take (length_in octets) octets ≡ spelling p
unfolding spelling
packet_is p (code ∷ id ∷ high ∷ low ∷ rest) small h =
    let n = high * 256 + low in
    let is_length : length_in (code ∷ id ∷ high ∷ low ∷ rest) ≡ n = omega arith in
    let least : 20 ≤ n = omega (arith, h.at_least) in
    let there : n ≤ 4 + length rest = omega (arith, h.is_there) in
    let fields_are : attributes_text p.attributes ≡ take (n - 20) (drop 16 rest) = sym h.attributes.spelled ∙ ap (λ (k : ℕ). take (k - 20) (drop 16 rest)) is_length in
    let size : size_of p ≡ n = omega (arith, ap length fields_are, length-take (n - 20) (drop 16 rest), length-drop 16 rest) in
    ap (λ (k : ℕ). take k (code ∷ id ∷ high ∷ low ∷ rest)) (is_length ∙ let e : n ≡ 4 + (16 + (n - 20)) = omega arith in e)
    ∙ take-add 4 (16 + (n - 20)) (code ∷ id ∷ high ∷ low ∷ rest)
    ∙ ap (λ (r : List ℕ). code ∷ id ∷ high ∷ low ∷ r) (take-add 16 (n - 20) rest ∙ ap (λ (r : List ℕ). take 16 rest ++ r) (sym fields_are) ∙ ap (λ (r : List ℕ). r ++ attributes_text p.attributes) (sym h.authenticator))
    ∙ ap (λ (c : ℕ). c ∷ id ∷ high ∷ low ∷ (p.authenticator ++ attributes_text p.attributes)) (sym h.code)
    ∙ ap (λ (i : ℕ). p.code ∷ i ∷ high ∷ low ∷ (p.authenticator ++ attributes_text p.attributes)) (sym h.id)
    ∙ ap (λ (w : List ℕ). p.code ∷ p.id ∷ (w ++ (p.authenticator ++ attributes_text p.attributes))) (sym (same_word high low (size_of p) (small 2) (small 3) size))
packet_is p [] small h = absurd (omega (arith, h.at_least, h.is_there))
packet_is p (a ∷ []) small h = absurd (omega (arith, h.at_least, h.is_there))
packet_is p (a ∷ b ∷ []) small h = absurd (omega (arith, h.at_least, h.is_there))
packet_is p (a ∷ b ∷ c ∷ []) small h = absurd (omega (arith, h.at_least, h.is_there))

-- octets are their packet's spelling, and padding
pub octets_are : (p : Packet) (octets : List ℕ) → AreOctets octets → IsRadius p octets → octets ≡ spelling p ++ drop (length_in octets) octets
octets_are p octets small h = sym (take-append-drop (length_in octets) octets) ∙ ap (λ (r : List ℕ). r ++ drop (length_in octets) octets) (packet_is p octets small h)

-- the octets before the padding are the packet
pub spelled_packet : (p : Packet) (octets : List ℕ) → AreOctets octets → IsRadius p octets → IsSpelled p (take (length_in octets) octets)
spelled_packet p octets small h = record {
  text = packet_is p octets small h;
  size = omega (arith, ap length h.authenticator, length-take 16 (drop 4 octets), length-drop 4 octets, h.at_least, h.is_there);
  fit = h.attributes.fit;
}

-- the attributes stand behind the header
pub attributes_of : (p : Packet) (packet : List ℕ) → IsSpelled p packet → drop 20 packet ≡ attributes_text p.attributes
unfolding spelling
attributes_of p packet h = ap (drop 20) h.text ∙ drop_at p.authenticator (attributes_text p.attributes) 16 h.size

pub are_attributes : (p : Packet) (packet : List ℕ) → IsSpelled p packet → AreAttributes p.attributes (drop 20 packet)
are_attributes p packet h = record { fit = h.fit; spelled = attributes_of p packet h }

pub length_of : (p : Packet) (packet : List ℕ) → IsSpelled p packet → length packet ≡ size_of p
length_of p packet h = ap length h.text ∙ length-spelling p h.size

-- a packet of the same code, identifier and length
pub with_parts : (p q : Packet) (packet : List ℕ) → IsSpelled p packet → q.code ≡ p.code → q.id ≡ p.id → size_of q ≡ size_of p
    → spelling q ≡ take 4 packet ++ (q.authenticator ++ attributes_text q.attributes)
unfolding spelling
with_parts p q packet h code id size =
    let behind = q.authenticator ++ attributes_text q.attributes in
    ap (λ (c : ℕ). c ∷ q.id ∷ (big_bytes 2 (size_of q) ++ behind)) code
    ∙ ap (λ (i : ℕ). p.code ∷ i ∷ (big_bytes 2 (size_of q) ++ behind)) id
    ∙ ap (λ (n : ℕ). p.code ∷ p.id ∷ (big_bytes 2 n ++ behind)) size
    ∙ ap (λ (r : List ℕ). take 4 r ++ behind) (sym h.text)

pub authenticator_at : (p : Packet) (packet : List ℕ) → IsSpelled p packet → slice_range packet 4 20 ≡ p.authenticator
unfolding spelling
authenticator_at p packet h = ap (λ (r : List ℕ). take 16 (drop 4 r)) h.text ∙ take_at p.authenticator (attributes_text p.attributes) 16 h.size

pub size_is : (p : Packet) (octets : List ℕ) → AreOctets octets → IsRadius p octets → size_of p ≡ length_in octets
size_is p octets small h = sym (length_of p (take (length_in octets) octets) (spelled_packet p octets small h)) ∙ length-take-le (length_in octets) octets h.is_there
