-- How far a loop over tags has come.
use Rattle.std.proofs.Common.{◌≡◌, Bor, ℕ, ◌+◌, ◌*◌, ◌<◌, ◌≤◌, Bool, true, false, cond, Option, None, Some, List, [], ◌∷◌, ◌++◌, length, refl, sym, ap, subst, ◌∙◌, append_assoc, arith, zero-add, length-append}
use Rattle.std.specs.Prelude.{◌==◌, count_by, find}
use Rattle.std.specs.Option.{option_map}
use Rattle.std.specs.List.{flat_map, AllByRecursion}
use Rattle.std.proofs.lemmas.List.Concat.{flat_map-cons}
use Rattle.std.proofs.lemmas.List.Sums.{count_by-le-length, sum_by-append}
use Rattle.bng_base.specs.PppoeGrammar.{PppoeTag, tag_text, TagFits, IsEnd, AreTags, service_name, host_uniq}
use Rattle.bng_base.proofs.PieceLaws.{Stuck, same_split, AllByRecursion-push, flat_map-push}
use Rattle.bng_pppoe_wire.specs.declared.scan.Scan.{Scan}
use Rattle.bng_pppoe_wire.specs.declared.view.Tag.{Tag}
use Rattle.bng_pppoe_wire.specs.declared.front.Front.{Front}
use Rattle.bng_pppoe_wire.specs.declared.front.Front.TheVariants.{One, End, Nothing}
use Rattle.bng_pppoe_wire.specs.Front.{Begins, IsFront}
use Rattle.bng_pppoe_wire.specs.Scan.{scan_of, scan_with, first_host}
use Rattle.bng_pppoe_wire.proofs.TagLaws.{tag_code, end_stuck}

-- the tags that were read, and the octets after them
pub record Parts (payload rest : List ℕ) (seen : List PppoeTag) : Type 0 where
  pub fit : AllByRecursion TagFits seen
  pub spelled : payload ≡ flat_map tag_text seen ++ rest

pub one_part : (payload rest next : List ℕ) (seen : List PppoeTag) (t : PppoeTag) → Begins t next rest → Parts payload rest seen → Parts payload next (seen ++ t ∷ [])
one_part payload rest next seen t b p = record {
  fit = AllByRecursion-push TagFits tag_text seen t p.fit b.fits;
  spelled = p.spelled ∙ ap (λ (r : List ℕ). flat_map tag_text seen ++ r) b.spelled ∙ sym (flat_map-push TagFits tag_text seen t next);
}

pub no_tags : (payload rest : List ℕ) (seen : List PppoeTag) → Parts payload rest seen → (IsEnd rest → ⊥) → ((t : PppoeTag) (next : List ℕ) → Begins t next rest → ⊥) → (ts : List PppoeTag) → AreTags ts payload → ⊥
no_tags payload rest seen p no_end none ts are =
    let stuck : Stuck TagFits tag_text rest = λ t next fits e. none t next (record { fits = fits; spelled = e }) in
    let same = same_split TagFits tag_text tag_code seen ts rest are.rest p.fit are.fit stuck (end_stuck are.rest are.end) (sym p.spelled ∙ are.spelled) in
    no_end (subst IsEnd (sym same.1) are.end)

-- each tag has four octets and more
pub tags_long : (tags : List PppoeTag) → 4 * length tags ≤ length (flat_map tag_text tags)
tags_long [] = omega arith
tags_long (t ∷ tags) = omega (arith, tags_long tags, ap length (flat_map-cons tag_text t tags), length-append (tag_text t) (flat_map tag_text tags))

count_push : (p : PppoeTag → Bool) (tags : List PppoeTag) (t : PppoeTag) → count_by p (tags ++ t ∷ []) ≡ count_by p tags + cond (p t) 1 0
count_push p tags t = sum_by-append (λ (s : PppoeTag). cond (p s) 1 0) tags (t ∷ []) ∙ ap (λ (n : ℕ). count_by p tags + n) (zero-add (cond (p t) 1 0))

last_host : (t : PppoeTag) (b : Bool) → option_map (λ (s : PppoeTag). length s.value) (cond b (Some t) None) ≡ cond b (Some (length t.value)) None
last_host t true = refl
last_host t false = refl

later_host : (s t : PppoeTag) (more less : Option PppoeTag) (b : Bool) → option_map (λ (u : PppoeTag). length u.value) more ≡ first_host (option_map (λ (u : PppoeTag). length u.value) less) t
    → option_map (λ (u : PppoeTag). length u.value) (cond b (Some s) more) ≡ first_host (option_map (λ (u : PppoeTag). length u.value) (cond b (Some s) less)) t
later_host s t more less true e = refl
later_host s t more less false e = e

host_push : (tags : List PppoeTag) (t : PppoeTag)
    → option_map (λ (s : PppoeTag). length s.value) (find (λ s. s.kind == host_uniq) (tags ++ t ∷ [])) ≡ first_host (option_map (λ (s : PppoeTag). length s.value) (find (λ s. s.kind == host_uniq) tags)) t
host_push [] t = last_host t (t.kind == host_uniq)
host_push (s ∷ tags) t = later_host s t (find (λ u. u.kind == host_uniq) (tags ++ t ∷ [])) (find (λ u. u.kind == host_uniq) tags) (s.kind == host_uniq) (host_push tags t)

pub scan_push : (tags : List PppoeTag) (t : PppoeTag) → scan_with (scan_of tags) t ≡ scan_of (tags ++ t ∷ [])
scan_push tags t =
    let many : length tags + 1 ≡ length (tags ++ t ∷ []) = omega (arith, length-append tags (t ∷ [])) in
    let made : ℕ → ℕ → Option ℕ → Scan = λ n s h. record { tags = n; services = s; host = h } in
    let before = scan_of tags in
    ap (λ (n : ℕ). made n (before.services + cond (t.kind == service_name) 1 0) (first_host before.host t)) many
    ∙ ap (λ (s : ℕ). made (length (tags ++ t ∷ [])) s (first_host before.host t)) (sym (count_push (λ s. s.kind == service_name) tags t))
    ∙ ap (made (length (tags ++ t ∷ [])) (count_by (λ s. s.kind == service_name) (tags ++ t ∷ []))) (sym (host_push tags t))

pub record Scanned (payload rest : List ℕ) (scan : Scan) : Type 0 where
  pub seen : List PppoeTag
  pub parts : Parts payload rest seen
  pub is : scan ≡ scan_of seen

pub begun : (payload : List ℕ) → Scanned payload payload (scan_of [])
begun payload = record { seen = []; parts = record { fit = tt; spelled = refl }; is = refl }

pub one_scanned : (payload rest next : List ℕ) (scan : Scan) (t : PppoeTag) → Begins t next rest → Scanned payload rest scan → Scanned payload next (scan_with scan t)
one_scanned payload rest next scan t b s = record {
  seen = s.seen ++ t ∷ [];
  parts = one_part payload rest next s.seen t b s.parts;
  is = ap (λ (x : Scan). scan_with x t) s.is ∙ scan_push s.seen t;
}

-- few tags fit into a frame
pub scanned_bound : (payload rest : List ℕ) (scan : Scan) → Scanned payload rest scan → length payload < 65536 → (scan.tags < 65536) × (scan.services < 65536)
scanned_bound payload rest scan s short =
    let long = tags_long s.seen in
    let whole : length payload ≡ length (flat_map tag_text s.seen) + length rest = ap length s.parts.spelled ∙ length-append (flat_map tag_text s.seen) rest in
    let few : length s.seen < 65536 = omega (arith, long, whole, short) in
    let services = count_by-le-length (λ (t : PppoeTag). t.kind == service_name) s.seen in
    (omega (arith, few, ap (λ (x : Scan). x.tags) s.is), omega (arith, few, services, ap (λ (x : Scan). x.services) s.is))

-- the tags after those that were read
pub others : (seen ts : List PppoeTag) (rest end : List ℕ) → AllByRecursion TagFits seen → AllByRecursion TagFits ts → Stuck TagFits tag_text end
    → flat_map tag_text seen ++ rest ≡ flat_map tag_text ts ++ end → (t : PppoeTag) (next : List ℕ) → Begins t next rest → length seen < length ts
others [] [] rest end fs ft stuck e t next b = absurd (stuck t next b.fits (sym e ∙ b.spelled))
others [] (y ∷ ts) rest end fs ft stuck e t next b = omega arith
others (x ∷ seen) [] rest end fs ft stuck e t next b =
    absurd (stuck x (flat_map tag_text seen ++ rest) fs.0 (sym e ∙ ap (λ (xs : List ℕ). xs ++ rest) (flat_map-cons tag_text x seen) ∙ append_assoc (tag_text x) (flat_map tag_text seen) rest))
others (x ∷ seen) (y ∷ ts) rest end fs ft stuck e t next b =
    let left : flat_map tag_text (x ∷ seen) ++ rest ≡ tag_text x ++ (flat_map tag_text seen ++ rest) = ap (λ (xs : List ℕ). xs ++ rest) (flat_map-cons tag_text x seen) ∙ append_assoc (tag_text x) (flat_map tag_text seen) rest in
    let right : flat_map tag_text (y ∷ ts) ++ end ≡ tag_text y ++ (flat_map tag_text ts ++ end) = ap (λ (xs : List ℕ). xs ++ end) (flat_map-cons tag_text y ts) ∙ append_assoc (tag_text y) (flat_map tag_text ts) end in
    let split = tag_code.splits x y (flat_map tag_text seen ++ rest) (flat_map tag_text ts ++ end) fs.0 ft.0 (sym left ∙ e ∙ right) in
    omega (arith, others seen ts rest end fs.1 ft.1 stuck split.1 t next b)

-- a tag that was read is one of those that the octets list
pub has_room : (payload rest next : List ℕ) (seen ts : List PppoeTag) (t : PppoeTag) → Parts payload rest seen → AreTags ts payload → Begins t next rest → length seen < length ts
has_room payload rest next seen ts t p are b = others seen ts rest are.rest p.fit are.fit (end_stuck are.rest are.end) (sym p.spelled ∙ are.spelled) t next b

-- where no tag begins what is left, all tags were read
pub all_read : (payload rest : List ℕ) (seen ts : List PppoeTag) (f : Front) → IsFront f rest → ((tag : Tag) (next : Bor (List ℕ)) → f ≡ One tag next → ⊥)
    → Parts payload rest seen → AreTags ts payload → AreTags seen payload
all_read payload rest seen ts (One tag next) h not p are = absurd (not tag next refl)
all_read payload rest seen ts End h not p are = record { rest = rest; fit = p.fit; spelled = p.spelled; end = h }
all_read payload rest seen ts Nothing h not p are = absurd (no_tags payload rest seen p h.0 h.1 ts are)
