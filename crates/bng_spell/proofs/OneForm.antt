-- No text of an opening or of a round begins another.
use Rattle.std.proofs.Common.{◌≡◌, ◌≢◌, ℕ, zero, suc, ◌+◌, ◌*◌, ◌^◌, ◌<◌, ◌≤◌, List, [], ◌∷◌, ◌++◌, Bool, true, false, not, length, map, get_or, refl, sym, ap, subst, ◌∙◌, append_assoc, append-nil, arith, lit<}
use Rattle.std.specs.Prelude.{codes}
use Rattle.std.specs.Fmt.{decimal}
use Rattle.std.specs.List.{AllByRecursion, flat_map, list_all}
use Rattle.std.proofs.lemmas.Bool.{and_parts}
use Rattle.std.proofs.lemmas.List.{append_cancel_left}
use Rattle.std.proofs.lemmas.Fmt.{decimal_injective, decimal_digit, first_decimal}
use Rattle.hex.specs.Hex.{encode_lower}
use Rattle.bng_base.specs.Pieces.{IsCode}
use Rattle.bng_base.proofs.PieceLaws.{Stuck, same_split}
use Rattle.bng_base.specs.declared.item.Entry.{Entry}
use Rattle.bng_base.specs.declared.item.Item.{Item}
use Rattle.bng_base.specs.declared.item.Loose.{Loose}
use Rattle.bng_base.specs.declared.item.OutRecord.{OutRecord}
use Rattle.bng_base.specs.declared.round.RoundRecord.{RoundRecord}
use Rattle.bng_spell.specs.Fields.{numbers_text, octets_text}
use Rattle.bng_spell.specs.Lines.{head_line, entry_line, entry_lines, loose_line, refused_line, out_line}
use Rattle.bng_spell.specs.Texts.{OpeningView, opening_text, round_text, trace_text, uncharged, as_read}
use Rattle.bng_spell.specs.Kept.{IsEntry, IsLoose, IsItem, IsOut, IsKept, IsKeptOpening}
use Rattle.bng_spell.specs.Plain.{is_plain, is_separator, ArePlain}
use Rattle.bng_spell.specs.Codes.{some_suc}
use Rattle.bng_spell.specs.FieldNames.{decimal_plain}
use Rattle.bng_spell.proofs.LineCodes.{Code, both, number, digits, octets, entry_once, loose_once, refused_once, out_once}

head_same : (a b : ℕ) (xs ys : List ℕ) → a ∷ xs ≡ b ∷ ys → a ≡ b
head_same a b xs ys e = cc

tail_same : (a b : ℕ) (xs ys : List ℕ) → a ∷ xs ≡ b ∷ ys → xs ≡ ys
tail_same a b xs ys e = cc

more_same : (a b : ℕ) (xs ys : List ℕ) → a ≡ b → xs ≡ ys → a ∷ xs ≡ b ∷ ys
more_same a b xs ys e h = cc

not_plain : (a c : ℕ) → is_separator a ≡ true → is_plain c ≡ true → a ≡ c → ⊥
not_plain a c s p e = clash (is_separator c) (subst (λ (x : ℕ). is_separator x ≡ true) e s) p
  where
    clash : (b : Bool) → b ≡ true → not b ≡ true → ⊥
    clash true p q = cc
    clash false p q = cc

-- two fields and the separators behind them
pub either_once : (f g : List ℕ) (a b : ℕ) (x y : List ℕ) → ArePlain f → ArePlain g → is_separator a ≡ true → is_separator b ≡ true → f ++ a ∷ x ≡ g ++ b ∷ y → (f ≡ g) × (a ≡ b) × (x ≡ y)
either_once [] [] a b x y p q s t e = (refl, head_same a b x y e, tail_same a b x y e)
either_once [] (c ∷ g) a b x y p q s t e =
    let parts = and_parts (is_plain c) (list_all is_plain g) q in
    absurd (not_plain a c s parts.0 (head_same a c x (g ++ b ∷ y) e))
either_once (c ∷ f) [] a b x y p q s t e =
    let parts = and_parts (is_plain c) (list_all is_plain f) p in
    absurd (not_plain b c t parts.0 (sym (head_same c b (f ++ a ∷ x) y e)))
either_once (c ∷ f) (d ∷ g) a b x y p q s t e =
    let pf = and_parts (is_plain c) (list_all is_plain f) p in
    let pg = and_parts (is_plain d) (list_all is_plain g) q in
    let rest = either_once f g a b x y pf.1 pg.1 s t (tail_same c d (f ++ a ∷ x) (g ++ b ∷ y) e) in
    (more_same c d f g (head_same c d (f ++ a ∷ x) (g ++ b ∷ y) e) rest.0, rest.1, rest.2)

-- numbers, a comma before each, and the line's end
abbrev tail : List ℕ → List ℕ → List ℕ
tail [] x = 10 ∷ x
tail (n ∷ ns) x = 44 ∷ (decimal n ++ tail ns x)

tail_is : (ns x : List ℕ) → (flat_map (λ (m : ℕ). codes "," ++ decimal m) ns ++ 10 ∷ []) ++ x ≡ tail ns x
tail_is [] x = refl
tail_is (n ∷ ns) x =
    ap (λ (t : List ℕ). 44 ∷ t)
    (ap (λ (t : List ℕ). t ++ x) (append_assoc (decimal n) (flat_map (λ (m : ℕ). codes "," ++ decimal m) ns) (10 ∷ []))
    ∙ append_assoc (decimal n) (flat_map (λ (m : ℕ). codes "," ++ decimal m) ns ++ 10 ∷ []) x
    ∙ ap (λ (t : List ℕ). decimal n ++ t) (tail_is ns x))

-- what the tail begins with
abbrev tail_head : List ℕ → ℕ
tail_head [] = 10
tail_head (n ∷ ns) = 44

abbrev tail_more : List ℕ → List ℕ → List ℕ
tail_more [] x = x
tail_more (n ∷ ns) x = decimal n ++ tail ns x

tail_parts : (ns x : List ℕ) → tail ns x ≡ tail_head ns ∷ tail_more ns x
tail_parts [] x = refl
tail_parts (n ∷ ns) x = refl

tail_head_parts : (ns : List ℕ) → is_separator (tail_head ns) ≡ true
tail_head_parts [] = refl
tail_head_parts (n ∷ ns) = refl

abbrev pub AreNumbers : List ℕ → Type 0
AreNumbers ns = AllByRecursion (λ (n : ℕ). n < 2 ^ 32) ns

wide : (n : ℕ) → n < 2 ^ 32 → n < 2 ^ 64
wide n h = omega arith

-- a number and what follows it up to the line's end
number_tail_once : (m n : ℕ) (ms ns x y : List ℕ) → m < 2 ^ 32 → n < 2 ^ 32 → decimal m ++ tail ms x ≡ decimal n ++ tail ns y → (m ≡ n) × (tail ms x ≡ tail ns y)
number_tail_once m n ms ns x y f g e =
    let parted = sym (ap (λ (t : List ℕ). decimal m ++ t) (tail_parts ms x)) ∙ e ∙ ap (λ (t : List ℕ). decimal n ++ t) (tail_parts ns y) in
    let r = either_once (decimal m) (decimal n) (tail_head ms) (tail_head ns) (tail_more ms x) (tail_more ns y) (decimal_plain m (wide m f)) (decimal_plain n (wide n g)) (tail_head_parts ms)
    (tail_head_parts ns) parted in
    (decimal_injective m n (wide m f) (wide n g) r.0, tail_parts ms x ∙ more_same (tail_head ms) (tail_head ns) (tail_more ms x) (tail_more ns y) r.1 r.2 ∙ sym (tail_parts ns y))

cons_same : (a b : ℕ) (xs ys : List ℕ) → a ≡ b → xs ≡ ys → a ∷ xs ≡ b ∷ ys
cons_same a b xs ys e h = cc

tail_once : (ms ns x y : List ℕ) → AreNumbers ms → AreNumbers ns → tail ms x ≡ tail ns y → (ms ≡ ns) × (x ≡ y)
tail_once [] [] x y f g e = (refl, tail_same 10 10 x y e)
tail_once [] (n ∷ ns) x y f g e = let h = head_same 10 44 x (decimal n ++ tail ns y) e in absurd (omega (arith, h))
tail_once (m ∷ ms) [] x y f g e = let h = head_same 44 10 (decimal m ++ tail ms x) y e in absurd (omega (arith, h))
tail_once (m ∷ ms) (n ∷ ns) x y f g e =
    let one = number_tail_once m n ms ns x y f.0 g.0 (tail_same 44 44 (decimal m ++ tail ms x) (decimal n ++ tail ns y) e) in
    let rest = tail_once ms ns x y f.1 g.1 one.1 in
    (cons_same m n ms ns one.0 rest.0, rest.1)

numbers_is : (n : ℕ) (ns x : List ℕ) → (numbers_text (n ∷ ns) ++ 10 ∷ []) ++ x ≡ decimal n ++ tail ns x
numbers_is n ns x =
    ap (λ (t : List ℕ). t ++ x) (append_assoc (decimal n) (flat_map (λ (m : ℕ). codes "," ++ decimal m) ns) (10 ∷ []))
    ∙ append_assoc (decimal n) (flat_map (λ (m : ℕ). codes "," ++ decimal m) ns ++ 10 ∷ []) x
    ∙ ap (λ (t : List ℕ). decimal n ++ t) (tail_is ns x)

-- a dash is no number
dash_no_number : (n : ℕ) (ns x y : List ℕ) → n < 2 ^ 32 → 45 ∷ 10 ∷ x ≡ decimal n ++ tail ns y → ⊥
dash_no_number n ns x y f e =
    let parted = e ∙ ap (λ (t : List ℕ). decimal n ++ t) (tail_parts ns y) in
    let r = either_once (45 ∷ []) (decimal n) 10 (tail_head ns) x (tail_more ns y) refl (decimal_plain n (wide n f)) refl (tail_head_parts ns) parted in
    no_dash n (wide n f) r.0
  where
    no_dash : (k : ℕ) → k < 2 ^ 64 → 45 ∷ [] ≡ decimal k → ⊥
    no_dash zero h e = let s = head_same 45 (48 + 0) [] [] (e ∙ decimal_digit 0 (omega arith)) in omega (arith, s)
    no_dash (suc k) h e =
        let d = first_decimal (suc k) (omega arith) h in
        let s = ap (λ (t : List ℕ). get_or t 0 0) e in
        omega (arith, s, d)

pub numbers_once : (ms ns x y : List ℕ) → AreNumbers ms → AreNumbers ns → (numbers_text ms ++ 10 ∷ []) ++ x ≡ (numbers_text ns ++ 10 ∷ []) ++ y → (ms ≡ ns) × (x ≡ y)
numbers_once [] [] x y f g e = (refl, append_cancel_left (45 ∷ 10 ∷ []) x y e)
numbers_once [] (n ∷ ns) x y f g e = absurd (dash_no_number n ns x y g.0 (e ∙ numbers_is n ns y))
numbers_once (m ∷ ms) [] x y f g e = absurd (dash_no_number m ms y x f.0 (sym e ∙ numbers_is m ms x))
numbers_once (m ∷ ms) (n ∷ ns) x y f g e =
    let one = number_tail_once m n ms ns x y f.0 g.0 (sym (numbers_is m ms x) ∙ e ∙ numbers_is n ns y) in
    let rest = tail_once ms ns x y f.1 g.1 one.1 in
    (cons_same m n ms ns one.0 rest.0, rest.1)

-- the first three octets of a text as one number
pub front : List ℕ → ℕ
front t = get_or t 0 0 * 65536 + get_or t 1 0 * 256 + get_or t 2 0

front_same : (s t : List ℕ) → s ≡ t → front s ≡ front t
front_same s t e = ap front e

-- the lines behind those of the entries
abbrev pub after_refused : List OutRecord → List ℕ → List ℕ
after_refused outs x = flat_map out_line outs ++ (codes "end\n" ++ x)

abbrev pub after_loose : List Item → List OutRecord → List ℕ → List ℕ
after_loose refused outs x = flat_map refused_line refused ++ after_refused outs x

abbrev pub after_entries : List Loose → List Item → List OutRecord → List ℕ → List ℕ
after_entries loose refused outs x = flat_map loose_line loose ++ after_loose refused outs x

abbrev pub ENTRY : ℕ
ENTRY = 6647412

abbrev pub LOOSE : ℕ
LOOSE = 7106415

abbrev pub REFUSED : ℕ
REFUSED = 7497062

abbrev pub OUT : ℕ
OUT = 7304564

abbrev pub END : ℕ
END = 6647396

front_entry : (i : ℕ) (e : Entry) (x : List ℕ) → front (entry_line i e ++ x) ≡ ENTRY
unfolding front
front_entry i e x = refl

pub front_loose : (l : Loose) (x : List ℕ) → front (loose_line l ++ x) ≡ LOOSE
unfolding front
front_loose l x = refl

pub front_refused : (i : Item) (x : List ℕ) → front (refused_line i ++ x) ≡ REFUSED
unfolding front
front_refused i x = refl

pub front_out : (o : OutRecord) (x : List ℕ) → front (out_line o ++ x) ≡ OUT
unfolding front
front_out o x = refl

pub front_end : (x : List ℕ) → front (codes "end\n" ++ x) ≡ END
unfolding front
front_end x = refl

-- which fronts the texts have that follow
pub front_after_refused : (w : ℕ) (outs : List OutRecord) (x : List ℕ) → w ≢ OUT → w ≢ END → front (after_refused outs x) ≢ w
front_after_refused w [] x o n e = n (sym e ∙ front_end x)
front_after_refused w (p ∷ outs) x o n e =
    o (sym e ∙ front_same ((out_line p ++ flat_map out_line outs) ++ (codes "end\n" ++ x)) (out_line p ++ (flat_map out_line outs ++ (codes "end\n" ++ x))) (append_assoc (out_line p) (flat_map out_line outs) (codes "end\n" ++ x))
    ∙ front_out p (flat_map out_line outs ++ (codes "end\n" ++ x)))

pub front_after_loose : (w : ℕ) (refused : List Item) (outs : List OutRecord) (x : List ℕ) → w ≢ REFUSED → w ≢ OUT → w ≢ END → front (after_loose refused outs x) ≢ w
front_after_loose w [] outs x r o n e = front_after_refused w outs x o n e
front_after_loose w (i ∷ refused) outs x r o n e =
    r (sym e ∙ front_same ((refused_line i ++ flat_map refused_line refused) ++ after_refused outs x) (refused_line i ++ (flat_map refused_line refused ++ after_refused outs x)) (append_assoc (refused_line i) (flat_map refused_line refused) (after_refused outs x))
    ∙ front_refused i (flat_map refused_line refused ++ after_refused outs x))

pub front_after_entries : (w : ℕ) (loose : List Loose) (refused : List Item) (outs : List OutRecord) (x : List ℕ) → w ≢ LOOSE → w ≢ REFUSED → w ≢ OUT → w ≢ END → front (after_entries loose refused outs x) ≢ w
front_after_entries w [] refused outs x l r o n e = front_after_loose w refused outs x r o n e
front_after_entries w (i ∷ loose) refused outs x l r o n e =
    l (sym e ∙ front_same ((loose_line i ++ flat_map loose_line loose) ++ after_loose refused outs x) (loose_line i ++ (flat_map loose_line loose ++ after_loose refused outs x)) (append_assoc (loose_line i) (flat_map loose_line loose) (after_loose refused outs x))
    ∙ front_loose i (flat_map loose_line loose ++ after_loose refused outs x))

pub differ : (a b : ℕ) → a < b → a ≢ b
differ a b h e = omega (arith, h, e)

pub differ_too : (a b : ℕ) → b < a → a ≢ b
differ_too a b h e = omega (arith, h, e)

-- lines of these fronts begin no text of another
pub stuck_by : {X : Type 0} (Fits : X → Type 0) (text : X → List ℕ) (w : ℕ) (rest : List ℕ) → ((v : X) (z : List ℕ) → front (text v ++ z) ≡ w) → front rest ≢ w → Stuck Fits text rest
stuck_by Fits text w rest fronts away v next f e = away (front_same rest (text v ++ next) e ∙ fronts v next)

pub outs_code : IsCode IsOut out_line
outs_code = record { nonempty = λ o. some_suc _; splits = out_once }

pub refused_code : IsCode IsItem refused_line
refused_code = record { nonempty = λ o. some_suc _; splits = refused_once }

pub loose_code : IsCode IsLoose loose_line
loose_code = record { nonempty = λ o. some_suc _; splits = loose_once }

pub entry_code : (moment i : ℕ) → i < 2 ^ 64 → IsCode (IsEntry moment) (entry_line i)
entry_code moment i h = record {
  nonempty = λ o. some_suc _;
  splits = λ a b x y f g e. let r = entry_once moment i i a b x y h h f g e in r.1;
}

abbrev pub AreEntries : ℕ → List (List Entry) → Type 0
AreEntries moment journals = AllByRecursion (λ (journal : List Entry). AllByRecursion (IsEntry moment) journal) journals

-- no entry of a shard stands where those of the later shards begin
pub stuck_later : (moment i j : ℕ) (journals : List (List Entry)) (rest : List ℕ) → i < j → j + length journals ≤ 2 ^ 64 → AreEntries moment journals → front rest ≢ ENTRY
    → Stuck (IsEntry moment) (entry_line i) (entry_lines j journals ++ rest)
stuck_later moment i j [] rest low high f away v next g e = away (front_same rest (entry_line i v ++ next) e ∙ front_entry i v next)
stuck_later moment i j ([] ∷ journals) rest low high f away v next g e = stuck_later moment i (j + 1) journals rest (omega arith) (omega arith) f.1 away v next g e
stuck_later moment i j ((d ∷ journal) ∷ journals) rest low high f away v next g e =
    let parted : entry_line j d ++ (flat_map (entry_line j) journal ++ (entry_lines (j + 1) journals ++ rest)) ≡ entry_line i v ++ next =
    sym (ap (λ (t : List ℕ). t ++ rest) (append_assoc (entry_line j d) (flat_map (entry_line j) journal) (entry_lines (j + 1) journals))
    ∙ append_assoc (entry_line j d) (flat_map (entry_line j) journal ++ entry_lines (j + 1) journals) rest
    ∙ ap (λ (t : List ℕ). entry_line j d ++ t) (append_assoc (flat_map (entry_line j) journal) (entry_lines (j + 1) journals) rest))
    ∙ e in
    let r = entry_once moment j i d v _ next (omega arith) (omega arith) f.0.0 g parted in
    let same = r.0 in
    omega (arith, same, low)

journal_same : (j k : List Entry) (js ks : List (List Entry)) → j ≡ k → js ≡ ks → j ∷ js ≡ k ∷ ks
journal_same j k js ks e h = cc

pub journals_once : (moment i : ℕ) (js ks : List (List Entry)) (r s : List ℕ) → i + length js ≤ 2 ^ 64 → length js ≡ length ks → AreEntries moment js → AreEntries moment ks → front r ≢ ENTRY → front s ≢ ENTRY
    → entry_lines i js ++ r ≡ entry_lines i ks ++ s → (js ≡ ks) × (r ≡ s)
journals_once moment i [] [] r s high len f g p q e = (refl, e)
journals_once moment i [] (k ∷ ks) r s high len f g p q e = absurd (omega (arith, len))
journals_once moment i (j ∷ js) [] r s high len f g p q e = absurd (omega (arith, len))
journals_once moment i (j ∷ js) (k ∷ ks) r s high len f g p q e =
    let below : i < 2 ^ 64 = omega arith in
    let lens : length js ≡ length ks = omega (arith, len) in
    let more : i + 1 + length js ≤ 2 ^ 64 = omega arith in
    let more' : i + 1 + length ks ≤ 2 ^ 64 = omega (arith, more, lens) in
    let parted = sym (append_assoc (flat_map (entry_line i) j) (entry_lines (i + 1) js) r) ∙ e ∙ append_assoc (flat_map (entry_line i) k) (entry_lines (i + 1) ks) s in
    let here = same_split (IsEntry moment) (entry_line i) (entry_code moment i below) j k (entry_lines (i + 1) js ++ r) (entry_lines (i + 1) ks ++ s) f.0 g.0
    (stuck_later moment i (i + 1) js r (omega arith) more f.1 p) (stuck_later moment i (i + 1) ks s (omega arith) more' g.1 q) parted in
    let then = journals_once moment (i + 1) js ks r s more lens f.1 g.1 p q here.1 in
    (journal_same j k js ks here.0 then.0, then.1)

-- the lines behind the entries
pub after_once : (l m : List Loose) (a b : List Item) (o p : List OutRecord) (x y : List ℕ) → AllByRecursion IsLoose l → AllByRecursion IsLoose m → AllByRecursion IsItem a → AllByRecursion IsItem b → AllByRecursion IsOut o → AllByRecursion IsOut p
    → after_entries l a o x ≡ after_entries m b p y → (l ≡ m) × ((a ≡ b) × ((o ≡ p) × (x ≡ y)))
after_once l m a b o p x y fl fm fa fb fo fp e =
    let no_loose = λ (c : List Item) (q : List OutRecord) (z : List ℕ). stuck_by IsLoose loose_line LOOSE (after_loose c q z) front_loose (front_after_loose LOOSE c q z (differ LOOSE REFUSED (lit< tt)) (differ LOOSE OUT (lit< tt)) (differ_too LOOSE END (lit< tt))) in
    let one = same_split IsLoose loose_line loose_code l m (after_loose a o x) (after_loose b p y) fl fm (no_loose a o x) (no_loose b p y) e in
    let no_refused = λ (q : List OutRecord) (z : List ℕ). stuck_by IsItem refused_line REFUSED (after_refused q z) front_refused (front_after_refused REFUSED q z (differ_too REFUSED OUT (lit< tt)) (differ_too REFUSED END (lit< tt))) in
    let two = same_split IsItem refused_line refused_code a b (after_refused o x) (after_refused p y) fa fb (no_refused o x) (no_refused p y) one.1 in
    let no_out = λ (z : List ℕ). stuck_by IsOut out_line OUT (codes "end\n" ++ z) front_out (λ h. differ END OUT (lit< tt) (sym (front_end z) ∙ h)) in
    let three = same_split IsOut out_line outs_code o p (codes "end\n" ++ x) (codes "end\n" ++ y) fo fp (no_out x) (no_out y) two.1 in
    (one.0, (two.0, (three.0, append_cancel_left (codes "end\n") x y three.1)))

abbrev pub head_code : Code (ℕ × (ℕ × ℕ))
head_code = both (number 32 refl) (both (number 32 refl) (number 32 refl))

regroup_head : (w n m s a x : List ℕ)
    → (((w ++ 32 ∷ []) ++ ((n ++ 32 ∷ []) ++ ((m ++ 32 ∷ []) ++ ((s ++ 32 ∷ []) ++ [])))) ++ (a ++ 10 ∷ [])) ++ x
    ≡ (w ++ 32 ∷ []) ++ (((n ++ 32 ∷ []) ++ ((m ++ 32 ∷ []) ++ (s ++ 32 ∷ []))) ++ ((a ++ 10 ∷ []) ++ x))
regroup_head w n m s a x = simp append_assoc

pub head_is : (r : RoundRecord) (x : List ℕ) → head_line r ++ x ≡ codes "round " ++ (head_code.text (r.number, (r.moment, r.wall)) ++ ((numbers_text r.allowances ++ 10 ∷ []) ++ x))
head_is r x = regroup_head (codes "round") (decimal r.number) (decimal r.moment) (decimal r.wall) (numbers_text r.allowances) x

regroup_body : (j l r o e x : List ℕ) → (j ++ (l ++ (r ++ (o ++ e)))) ++ x ≡ j ++ (l ++ (r ++ (o ++ (e ++ x))))
regroup_body j l r o e x = simp append_assoc

pub round_is : (r : RoundRecord) (x : List ℕ)
    → round_text r ++ x ≡ codes "round " ++ (head_code.text (r.number, (r.moment, r.wall)) ++ ((numbers_text r.allowances ++ 10 ∷ []) ++ (entry_lines 0 r.journals ++ after_entries r.loose r.refused r.outs x)))
round_is r x =
    let body = entry_lines 0 r.journals ++ (flat_map loose_line r.loose ++ (flat_map refused_line r.refused ++ (flat_map out_line r.outs ++ codes "end\n"))) in
    append_assoc (head_line r) body x
    ∙ ap (λ (t : List ℕ). head_line r ++ t) (regroup_body (entry_lines 0 r.journals) (flat_map loose_line r.loose) (flat_map refused_line r.refused) (flat_map out_line r.outs) (codes "end\n") x)
    ∙ head_is r (entry_lines 0 r.journals ++ after_entries r.loose r.refused r.outs x)

pub round_once : (r s : RoundRecord) (x y : List ℕ) → IsKept r → IsKept s → round_text r ++ x ≡ round_text s ++ y → (r ≡ s) × (x ≡ y)
round_once r s x y f g e =
    let behind = append_cancel_left (codes "round ") _ _ (sym (round_is r x) ∙ e ∙ round_is s y) in
    let head = head_code.once (r.number, (r.moment, r.wall)) (s.number, (s.moment, s.wall)) _ _ (f.number, (f.moment, f.wall)) (g.number, (g.moment, g.wall)) behind in
    let numbers = numbers_once r.allowances s.allowances _ _ f.allowances g.allowances head.1 in
    let number : r.number ≡ s.number = ap (λ (t : ℕ × (ℕ × ℕ)). t.0) head.0 in
    let moment : r.moment ≡ s.moment = ap (λ (t : ℕ × (ℕ × ℕ)). t.1.0) head.0 in
    let wall : r.wall ≡ s.wall = ap (λ (t : ℕ × (ℕ × ℕ)). t.1.1) head.0 in
    let shards : length r.journals ≡ length s.journals = f.journals ∙ ap length numbers.0 ∙ sym g.journals in
    let few : 0 + length r.journals ≤ 2 ^ 64 = few_shards r f in
    let entries = subst (λ (m : ℕ). AreEntries m s.journals) (sym moment) g.entries in
    let no_entry = λ (q : RoundRecord) (z : List ℕ). front_after_entries ENTRY q.loose q.refused q.outs z (differ ENTRY LOOSE (lit< tt)) (differ ENTRY REFUSED (lit< tt)) (differ ENTRY OUT (lit< tt)) (differ_too ENTRY END (lit< tt)) in
    let journals = journals_once r.moment 0 r.journals s.journals (after_entries r.loose r.refused r.outs x) (after_entries s.loose s.refused s.outs y) few shards f.entries entries (no_entry r x) (no_entry s y) numbers.1 in
    let rest = after_once r.loose s.loose r.refused s.refused r.outs s.outs x y f.loose g.loose f.refused g.refused f.outs g.outs journals.1 in (
      λ i. record {
        number = number i;
        moment = moment i;
        wall = wall i;
        allowances = numbers.0 i;
        journals = journals.0 i;
        loose = rest.0 i;
        outs = rest.1.1.0 i;
        refused = rest.1.0 i;
      },
      rest.1.1.1,
    )
  where
    few_shards : (q : RoundRecord) → IsKept q → 0 + length q.journals ≤ 2 ^ 64
    few_shards q h = let n = h.shards in let l = h.journals in omega (arith, n, l)

abbrev pub opening_code : Code (ℕ × (ℕ × (List ℕ × List ℕ)))
opening_code = both (number 32 refl) (both (number 32 refl) (both digits (octets 10 refl)))

regroup_opening : (w n m s a x : List ℕ) (h : List ℕ)
    → (h ++ (((w ++ 32 ∷ []) ++ ((n ++ 32 ∷ []) ++ ((m ++ 32 ∷ []) ++ ((s ++ 32 ∷ []) ++ [])))) ++ (a ++ 10 ∷ []))) ++ x
    ≡ (h ++ (w ++ 32 ∷ [])) ++ (((n ++ 32 ∷ []) ++ ((m ++ 32 ∷ []) ++ ((s ++ 32 ∷ []) ++ (a ++ 10 ∷ [])))) ++ x)
regroup_opening w n m s a x h = simp append_assoc

pub opening_is : (o : OpeningView) (x : List ℕ) → opening_text o ++ x ≡ codes "bng-trace 1\nopened " ++ (opening_code.text (o.now, (o.wall, (o.seed, o.configuration))) ++ x)
opening_is o x = regroup_opening (codes "opened") (decimal o.now) (decimal o.wall) (encode_lower o.seed) (octets_text o.configuration) x (codes "bng-trace 1\n")

pub opening_once : (o p : OpeningView) (x y : List ℕ) → IsKeptOpening o → IsKeptOpening p → opening_text o ++ x ≡ opening_text p ++ y → (o ≡ p) × (x ≡ y)
opening_once o p x y f g e =
    let behind = append_cancel_left (codes "bng-trace 1\nopened ") _ _ (sym (opening_is o x) ∙ e ∙ opening_is p y) in
    let r = opening_code.once (o.now, (o.wall, (o.seed, o.configuration))) (p.now, (p.wall, (p.seed, p.configuration))) x y
    (f.now, (f.wall, (f.seed, f.configuration))) (g.now, (g.wall, (g.seed, g.configuration))) behind in
    (λ i. record { now = (r.0 i).0; wall = (r.0 i).1.0; seed = (r.0 i).1.1.0; configuration = (r.0 i).1.1.1 }, r.1)

outs_uncharged : (outs : List OutRecord) → flat_map out_line (map uncharged outs) ≡ flat_map out_line outs
outs_uncharged [] = refl
outs_uncharged (o ∷ outs) = ap (λ (t : List ℕ). out_line o ++ t) (outs_uncharged outs)

-- whose packet an out carries is not spelled
pub charges_unspelled : (r : RoundRecord) → round_text (as_read r) ≡ round_text r
charges_unspelled r =
    ap (λ (t : List ℕ). head_line r ++ (entry_lines 0 r.journals ++ (flat_map loose_line r.loose ++ (flat_map refused_line r.refused ++ (t ++ codes "end\n")))))
    (outs_uncharged r.outs)

rounds_code : IsCode IsKept round_text
rounds_code = record { nonempty = λ r. some_suc _; splits = round_once }

nothing_stuck : Stuck IsKept round_text []
nothing_stuck r next f e = omega (arith, ap length e)

-- two traces of the same text are the same
pub trace_once : (o p : OpeningView) (rs ss : List RoundRecord) → IsKeptOpening o → IsKeptOpening p → AllByRecursion IsKept rs → AllByRecursion IsKept ss → trace_text o rs ≡ trace_text p ss
    → (o ≡ p) × (rs ≡ ss)
trace_once o p rs ss f g fr fs e =
    let head = opening_once o p (flat_map round_text rs) (flat_map round_text ss) f g e in
    let rest = same_split IsKept round_text rounds_code rs ss [] [] fr fs nothing_stuck nothing_stuck (append-nil (flat_map round_text rs) ∙ head.1 ∙ sym (append-nil (flat_map round_text ss))) in
    (head.0, rest.0)
