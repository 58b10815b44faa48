-- The packet of a record.
use Rattle.std.proofs.Common.{◌≡◌, ℕ, ◌+◌, ◌≤◌, Bool, false, cond, List, [], ◌∷◌, ◌++◌, length, take, drop, eqb, sym, ap, subst, ◌∙◌, refl, arith, length-append}
use Rattle.std.specs.Prelude.{replicate, count_by}
use Rattle.std.specs.List.{AllByRecursion}
use Rattle.std.proofs.lemmas.List.{append-nil}
use Rattle.std.proofs.lemmas.Bool.{ne_eqb}
use Rattle.std.proofs.lemmas.List.Sums.{sum_by-cons}
use Rattle.byteorder.specs.Endian.{big_bytes}
use Rattle.bng_base.specs.Packet.{Packet as Bytes}
use Rattle.bng_base.specs.declared.circuit.Circuit.{Circuit}
use Rattle.bng_base.specs.declared.circuit.Circuit.TheVariants.{Pppoe, L2tp}
use Rattle.bng_radius_wire.specs.Attributes.{Field, Fits}
use Rattle.bng_radius_wire.specs.Grammar.{Packet, IsRadius, attributes_text, spelling}
use Rattle.bng_radius_wire.specs.Digests.{is_message_authenticator, HasRoom}
use Rattle.bng_radius_wire.proofs.Spelled.{spelling_reads, length-spelling}
use Rattle.bng_acct.specs.declared.facts.StatusType.{StatusType}
use Rattle.bng_acct.specs.declared.facts.StatusType.TheVariants.{Start, Interim, Stop}
use Rattle.bng_acct.specs.declared.facts.Record.{Record}
use Rattle.bng_acct.specs.declared.rules.AcctRules.{AcctRules}
use Rattle.bng_acct.specs.Attributes.{attributes, front, rest, station, unless_start, in_stop, IsPlain, GoesOn}
use Rattle.bng_acct.specs.Request.{AreClasses, HoldsRequest}
use Rattle.bng_acct.proofs.GoingOn.{both}

pub fit : (fs : List Field) → AllByRecursion IsPlain fs → AllByRecursion Fits fs
fit [] h = tt
fit (f ∷ fs) h = (h.0.fits, fit fs h.1)

no_message : (fs : List Field) → AllByRecursion IsPlain fs → count_by is_message_authenticator fs ≡ 0
no_message [] h = refl
no_message (f ∷ fs) h =
    let not_it : eqb f.kind 80 ≡ false = ne_eqb f.kind 80 h.0.other in
    sum_by-cons (λ (x : Field). cond (is_message_authenticator x) 1 0) f fs ∙ ap (λ (b : Bool). cond b 1 0 + count_by is_message_authenticator fs) not_it ∙ ap (λ (n : ℕ). 0 + n) (no_message fs h.1)

roomy : (fs : List Field) → AllByRecursion IsPlain fs → AllByRecursion HasRoom fs
roomy [] h = tt
roomy (f ∷ fs) h = (λ is. absurd (h.0.other is), roomy fs h.1)

length-station : (x : Circuit) → length (station x) ≤ 1
length-station (Pppoe port mac session) = omega arith
length-station (L2tp peer tunnel session) = omega arith

length-unless_start : (s : StatusType) (fs : List Field) → length (unless_start s fs) ≤ length fs
length-unless_start Start fs = omega arith
length-unless_start Interim fs = omega arith
length-unless_start Stop fs = omega arith

length-in_stop : (s : StatusType) (fs : List Field) → length (in_stop s fs) ≤ length fs
length-in_stop Start fs = omega arith
length-in_stop Interim fs = omega arith
length-in_stop Stop fs = omega arith

length-front : (rules : AcctRules) (r : Record) (classes : List Field) → length classes ≤ 32 → length (front rules r classes) ≤ 41
length-front rules r classes few = simp length-append (omega (arith, few, length-station r.facts.circuit))

length-rest : (rules : AcctRules) (r : Record) → length (rest rules r) ≤ 12
length-rest rules r = simp length-append (omega (arith, length-unless_start r.status, length-in_stop r.status))

-- the header of an Accounting-Request without its length
abbrev pub header : List ℕ
header = 4 ∷ 0 ∷ 0 ∷ 0 ∷ replicate 16 0

abbrev pub packet_of : AcctRules → Record → List Field → Packet
packet_of rules r classes = record { code = 4; id = 0; authenticator = replicate 16 0; attributes = attributes rules r classes }

-- octets that are a packet without its length, and then have it, are the packet's spelling
pub spells : (p : Packet) (whole : List ℕ) → whole ≡ p.code ∷ p.id ∷ 0 ∷ 0 ∷ (p.authenticator ++ attributes_text p.attributes)
    → length whole ≡ 20 + length (attributes_text p.attributes) → take 2 whole ++ big_bytes 2 (length whole) ++ drop 4 whole ≡ spelling p
unfolding spelling
spells p whole is size =
    ap (λ (n : ℕ). take 2 whole ++ big_bytes 2 n ++ drop 4 whole) size ∙ ap (λ (w : List ℕ). take 2 w ++ big_bytes 2 (20 + length (attributes_text p.attributes)) ++ drop 4 w) is

pub request : (rules : AcctRules) (r : Record) (middle whole : List ℕ) (frame : Bytes) (fs : List Field)
    → AreClasses fs r.facts.class.items → GoesOn header middle (front rules r fs) → GoesOn middle whole (rest rules r) → length whole ≤ 1024
    → frame.payload ≡ take 2 whole ++ big_bytes 2 (length whole) ++ drop 4 whole → frame.headroom ≡ 64 → HoldsRequest rules r frame
request rules r middle whole frame fs are one two small payload headroom =
    let all = both one two in
    let p = packet_of rules r fs in
    let size : length whole ≡ 20 + length (attributes_text p.attributes) = ap length all.text ∙ length-append header (attributes_text p.attributes) in
    let spelled : frame.payload ≡ spelling p = payload ∙ spells p whole all.text size in
    let reads : IsRadius p (spelling p ++ []) = spelling_reads p [] refl (fit p.attributes all.plain) (omega (arith, size, small)) in
    record {
      packet = p;
      is = record { code = refl; id = refl; authenticator = refl; classes = fs; are = are; attributes_are = refl };
      reads = subst (IsRadius p) (append-nil (spelling p) ∙ sym spelled) reads;
      can_be_signed = record { one = omega (arith, no_message p.attributes all.plain); sized = roomy p.attributes all.plain };
      few = omega (arith, length-append (front rules r fs) (rest rules r), length-front rules r fs are.few, length-rest rules r);
      small = omega (arith, ap length spelled, length-spelling p refl, size, small);
      headroom = headroom;
    }
