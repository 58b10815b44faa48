-- The size of a reply, and whether there is room for it.
use Rattle.std.proofs.Common.{◌≡◌, ℕ, ◌+◌, ◌<◌, ◌≤◌, Bool, true, false, cond, ◌&&◌, eqb, List, [], ◌∷◌, ◌++◌, length, Option, Some, None, refl, sym, ap, subst, ◌∙◌, arith, length-append}
use Rattle.std.specs.Prelude.{nat_le, is_some, filter, find, option_to_list}
use Rattle.std.specs.List.{AllByRecursion}
use Rattle.std.proofs.lemmas.List.{append-nil}
use Rattle.std.proofs.lemmas.Bool.{leb-true, lt-leb, le-leb}
use mir.Val.{bool_byte}
use Rattle.bng_radius_wire.specs.Attributes.{Field, Fits}
use Rattle.bng_radius_wire.specs.Grammar.{Packet, IsRadius, IsSpelled, attributes_text, spelling}
use Rattle.bng_radius_wire.specs.Digests.{HasRoom}
use Rattle.bng_radius_wire.proofs.Spelled.{length-spelling, spelling_reads, length_of}
use Rattle.bng_coa.specs.Kinds.{has_kind, has_some}
use Rattle.bng_coa.specs.Replies.{repeated, state_of, signature, with_more, bare_reply, reply_with, fits, more_of}
use Rattle.bng_coa.proofs.Each.{appended, filtered}
use Rattle.bng_coa.proofs.Appending.{size-more}
use Rattle.bng_coa.proofs.Weights.{repeats_fewer, repeats_shorter}

pub cause_counts : (o : Option (List ℕ)) → bool_byte (is_some o) ≡ length (more_of o)
cause_counts None = refl
cause_counts (Some value) = refl

pub signature_counts : (b : Bool) → bool_byte b ≡ length (signature b)
signature_counts true = refl
signature_counts false = refl

module _ (p : Packet) (code : ℕ) (more : List Field) where
  pub count-reply : length (reply_with p code more).attributes ≡ length (repeated p) + length more + length (signature (has_some 80 p.attributes))
  count-reply = omega (arith, length-append (repeated p ++ more) (signature (has_some 80 p.attributes)), length-append (repeated p) more)

  pub size-reply : length (spelling (reply_with p code more)) ≡ length (spelling (bare_reply p code)) + length (attributes_text more) + length (attributes_text (signature (has_some 80 p.attributes)))
  size-reply =
      omega (arith, length-spelling (reply_with p code more) refl, length-spelling (bare_reply p code) refl, size-more (with_more (bare_reply p code) more) (signature (has_some 80 p.attributes)), size-more (bare_reply p code) more)

  pub fits_is : (b : Bool) (n m : ℕ) → b ≡ has_some 80 p.attributes
      → n ≡ length (repeated p) + length more + length (signature b)
      → m ≡ length (spelling (bare_reply p code)) + length (attributes_text more) + length (attributes_text (signature b))
      → fits (reply_with p code more) ≡ nat_le n 64 && nat_le m 4096
  fits_is b n m same count size =
      ap (λ (k : ℕ). nat_le k 64 && nat_le (length (spelling (reply_with p code more))) 4096) (count-reply ∙ ap (λ (t : Bool). length (repeated p) + length more + length (signature t)) (sym same) ∙ sym count)
      ∙ ap (λ (k : ℕ). nat_le n 64 && nat_le k 4096) (size-reply ∙ ap (λ (t : Bool). length (spelling (bare_reply p code)) + length (attributes_text more) + length (attributes_text (signature t))) (sym same) ∙ sym size)

  and_false : (a : Bool) → a && false ≡ false
  and_false true = refl
  and_false false = refl

  pub too_long : 4096 < length (spelling (bare_reply p code)) → fits (reply_with p code more) ≡ false
  too_long long =
      ap (λ (t : Bool). nat_le (length (reply_with p code more).attributes) 64 && t) (lt-leb (length (spelling (reply_with p code more))) 4096 (omega (arith, long, size-reply)))
      ∙ and_false (nat_le (length (reply_with p code more).attributes) 64)

and_right : (a b : Bool) → a && b ≡ true → b ≡ true
and_right true b e = e
and_right false b e = absurd (let no : false ≡ true = e in cc)

pub small_enough : (n m : ℕ) → nat_le n 64 && nat_le m 4096 ≡ true → m ≤ 4096
small_enough n m e = leb-true m 4096 (and_right (nat_le n 64) (nat_le m 4096) e)

both_true : (a b : Bool) → a ≡ true → b ≡ true → a && b ≡ true
both_true true b e f = f
both_true false b e f = absurd cc

pub spelled_reads : (p : Packet) (octets : List ℕ) → IsSpelled p octets → length octets ≤ 4096 → IsRadius p octets
spelled_reads p octets h small =
    subst (IsRadius p) (append-nil (spelling p) ∙ sym h.text) (spelling_reads p [] h.size h.fit (omega (arith, small, length_of p octets h)))

found_here : (b : Bool) (f : Field) (o : Option Field) → Fits f → AllByRecursion Fits (option_to_list o) → AllByRecursion Fits (option_to_list (cond b (Some f) o))
found_here true f o here later = (here, tt)
found_here false f o here later = later

found_fit : (fs : List Field) → AllByRecursion Fits fs → AllByRecursion Fits (option_to_list (find (has_kind 24) fs))
found_fit [] all = tt
found_fit (f ∷ fs) all = found_here (has_kind 24 f) f (find (has_kind 24) fs) all.0 (found_fit fs all.1)

state_fit : (b : Bool) (fs : List Field) → AllByRecursion Fits fs → AllByRecursion Fits (cond b fs [])
state_fit true fs all = all
state_fit false fs all = tt

-- each attribute that a reply repeats has a length of one octet
pub repeated_fit : (p : Packet) → AllByRecursion Fits p.attributes → AllByRecursion Fits (repeated p)
repeated_fit p all =
    appended Fits (filter (has_kind 33) p.attributes) (state_of p) (filtered Fits (has_kind 33) p.attributes all)
    (state_fit (eqb p.code 43) (option_to_list (find (has_kind 24) p.attributes)) (found_fit p.attributes all))

-- without an Error-Cause there is room
pub bare_fits : (p : Packet) (code : ℕ) → length p.attributes ≤ 64 → 20 + length (attributes_text p.attributes) ≤ 4096 → AllByRecursion HasRoom p.attributes → fits (reply_with p code []) ≡ true
bare_fits p code few small room =
    both_true _ _ (le-leb (length (reply_with p code []).attributes) 64 (omega (arith, few, count-reply p code [], repeats_fewer p)))
    (le-leb (length (spelling (reply_with p code []))) 4096 (omega (arith, small, size-reply p code [], length-spelling (bare_reply p code) refl, repeats_shorter p room)))
