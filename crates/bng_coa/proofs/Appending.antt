-- A packet with one more attribute, as octets.
use Rattle.std.proofs.Common.{◌≡◌, ℕ, ◌+◌, List, [], ◌∷◌, ◌++◌, length, take, drop, sym, ap, subst, ◌∙◌, arith, length-append, append_assoc}
use Rattle.std.proofs.lemmas.List.{append-nil}
use Rattle.std.proofs.lemmas.List.Concat.{flat_map-append}
use Rattle.byteorder.specs.Endian.{big_bytes}
use Rattle.bng_radius_wire.specs.Attributes.{Field, Fits, text}
use Rattle.bng_radius_wire.specs.Grammar.{Packet, IsSpelled, attributes_text, spelling}
use Rattle.bng_radius_wire.proofs.Spelled.{size_of, length-spelling}
use Rattle.bng_coa.specs.Replies.{with_more}
use Rattle.bng_coa.proofs.Each.{appended}

pub text-append : (fs gs : List Field) → attributes_text (fs ++ gs) ≡ attributes_text fs ++ attributes_text gs
text-append fs gs = flat_map-append text fs gs

pub size-more : (p : Packet) (gs : List Field) → size_of (with_more p gs) ≡ size_of p + length (attributes_text gs)
size-more p gs = omega (arith, ap length (text-append p.attributes gs), length-append (attributes_text p.attributes) (attributes_text gs))

tail_is : (a t x v : List ℕ) → ((a ++ t) ++ x) ++ v ≡ a ++ (t ++ (x ++ v))
tail_is a t x v = simp append_assoc

-- the octets with one more attribute, and the new Length written over the old
spelled_is : (p : Packet) (f : Field) (w : List ℕ) → length p.authenticator ≡ 16
    → w ≡ (spelling p ++ (f.kind ∷ (2 + length f.value) ∷ [])) ++ f.value
    → (take 2 w ++ big_bytes 2 (length w)) ++ drop 4 w ≡ spelling (with_more p (f ∷ []))
unfolding spelling
spelled_is p f w long e =
    let x = f.kind ∷ (2 + length f.value) ∷ [] in
    let t = attributes_text p.attributes in
    let more : attributes_text (p.attributes ++ f ∷ []) ≡ t ++ (x ++ f.value) = text-append p.attributes (f ∷ []) ∙ ap (λ (r : List ℕ). t ++ r) (append-nil (text f)) in
    let size : length w ≡ size_of (with_more p (f ∷ [])) =
    omega (arith, ap length e, length-append (spelling p ++ x) f.value, length-append (spelling p) x, length-spelling p long, ap length more, length-append t (x ++ f.value)) in
    ap (λ (u : List ℕ). (take 2 u ++ big_bytes 2 (length w)) ++ drop 4 u) e
    ∙ ap (λ (n : ℕ). (p.code ∷ p.id ∷ big_bytes 2 n) ++ (((p.authenticator ++ t) ++ x) ++ f.value)) size
    ∙ ap (λ (r : List ℕ). (p.code ∷ p.id ∷ big_bytes 2 (size_of (with_more p (f ∷ [])))) ++ r) (tail_is p.authenticator t x f.value)
    ∙ ap (λ (r : List ℕ). (p.code ∷ p.id ∷ big_bytes 2 (size_of (with_more p (f ∷ [])))) ++ (p.authenticator ++ r)) (sym more)

pub more_spelled : (p : Packet) (f : Field) (old w new : List ℕ) → IsSpelled p old → Fits f
    → w ≡ (old ++ (f.kind ∷ (2 + length f.value) ∷ [])) ++ f.value
    → new ≡ (take 2 w ++ big_bytes 2 (length w)) ++ drop 4 w → IsSpelled (with_more p (f ∷ [])) new
more_spelled p f old w new h fits e is =
    let x = f.kind ∷ (2 + length f.value) ∷ [] in
    record {
      text = is ∙ spelled_is p f w h.size (e ∙ ap (λ (o : List ℕ). (o ++ x) ++ f.value) h.text);
      size = h.size;
      fit = appended Fits p.attributes (f ∷ []) h.fit (fits, tt);
    }

-- nothing more
pub none_more : (p : Packet) (octets : List ℕ) → IsSpelled p octets → IsSpelled (with_more p []) octets
none_more p octets h =
    subst (λ (fs : List Field). IsSpelled (record p { attributes = fs }) octets) (sym (append-nil p.attributes)) h
