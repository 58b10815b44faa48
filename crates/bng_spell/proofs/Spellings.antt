-- Text after text goes through a block.
use Rattle.std.proofs.Common.{◌≡◌, ℕ, ◌+◌, ◌/◌, ◌%◌, ◌<◌, ◌≤◌, List, [], ◌∷◌, ◌++◌, Bool, true, false, length, take, drop, get_or, slice_index, refl, sym, ap, subst, ◌∙◌, append_assoc, append-nil, arith}
use Rattle.std.specs.List.{flat_map}
use Rattle.std.proofs.lemmas.Bool.{false≢true}
use Rattle.std.proofs.lemmas.List.{take-append-drop, take_all, take_more, length-take, flat_map_more}
use Rattle.hex.specs.Hex.{encode_lower, encode_with, lower_digits}
use Rattle.bng_base.specs.Causes.{Rose}
use Rattle.bng_base.specs.Told.{SinkTold, Grows}
use Rattle.bng_base.specs.declared.item.Entry.{Entry}
use Rattle.bng_base.proofs.ToldLaws.{grows_none, grows_more, rose_late}
use Rattle.bng_plant.specs.declared.answers.Wrote.{Wrote}
use Rattle.bng_plant.specs.declared.answers.Wrote.TheVariants.{Ok, Failed}
use Rattle.bng_spell.specs.Lines.{entry_line, entry_lines}
use Rattle.bng_spell.specs.Spelling.{Breaks, Spells, Pending, Holds, Adds, Closes}

clash : {P : Type 0} (b : Bool) → b ≡ false → b ≡ true → P
clash b f t = absurd (false≢true (sym f ∙ t))

-- a text that broke off is longer by what is put behind it
breaks_more : (a b : SinkTold) (s t : List ℕ) → Breaks a b s → Breaks a b (s ++ t)
breaks_more a b s t k = record {
  front = k.front;
  left = k.left ++ t;
  all = sym (append_assoc k.front k.left t) ∙ ap (λ (x : List ℕ). x ++ t) k.all;
  told = k.told;
  rose = k.rose;
}

-- nothing was put
pub adds_none : (a : SinkTold) (p : Pending) → Adds a a p p []
adds_none a p = record { adds = λ start done h. subst (λ (x : List ℕ). Holds start a p x) (sym (append-nil done)) h }

-- one text behind another
pub adds_both : {a b c : SinkTold} {p q r : Pending} {s t : List ℕ} → Adds a b p q s → Adds b c q r t → Adds a c p r (s ++ t)
adds_both {a} {b} {c} {p} {q} {r} {s} {t} f g = record {
  adds = λ start done h. subst (λ (x : List ℕ). Holds start c r x) (append_assoc done s t) (g.adds start (done ++ s) (f.adds start done h));
}

-- the same text in other words
pub adds_as : {a b : SinkTold} {p q : Pending} {s t : List ℕ} → Adds a b p q s → s ≡ t → Adds a b p q t
adds_as {a} {b} {p} {q} {s} {t} f e = subst (λ (x : List ℕ). Adds a b p q x) e f

-- a text stands behind what was pending
pub adds_pushed : (a : SinkTold) (p q : Pending) (t : List ℕ) → q.octets ≡ p.octets ++ t → q.failed ≡ p.failed → Adds a a p q t
adds_pushed a p q t e f = record {
  adds = λ start done h. record {
    later = h.later;
    going = λ whole.
        let w = h.going (sym f ∙ whole) in record {
          front = w.front;
          all = ap (λ (x : List ℕ). w.front ++ x) e ∙ sym (append_assoc w.front p.octets t) ∙ ap (λ (x : List ℕ). x ++ t) w.all;
          told = w.told;
        };
    broken = λ broken. breaks_more start a done t (h.broken (sym f ∙ broken));
  };
}

-- the sink had failed before
pub adds_late : (a : SinkTold) (p q : Pending) (t : List ℕ) → p.failed ≡ true → q.failed ≡ true → Adds a a p q t
adds_late a p q t was is = record {
  adds = λ start done h. record {
    later = h.later;
    going = λ whole. clash q.failed whole is;
    broken = λ _. breaks_more start a done t (h.broken was);
  };
}

-- what was pending was written, and then a text
pub adds_written : (a b : SinkTold) (p q : Pending) (t : List ℕ) → p.failed ≡ false → q.failed ≡ false → q.octets ≡ [] → Grows a.bytes b.bytes (p.octets ++ t) → a.faults ≤ b.faults → Adds a b p q t
adds_written a b p q t was is empty told later = record {
  adds = λ start done h. let w = h.going was in record {
    later = omega (arith, later, h.later);
    going = λ _. record {
      front = w.front ++ (p.octets ++ t);
      all = ap (λ (x : List ℕ). (w.front ++ (p.octets ++ t)) ++ x) empty ∙ append-nil (w.front ++ (p.octets ++ t)) ∙ sym (append_assoc w.front p.octets t) ∙ ap (λ (x : List ℕ). x ++ t) w.all;
      told = grows_more start.bytes a.bytes b.bytes w.front (p.octets ++ t) w.told told;
    };
    broken = λ broken. clash q.failed is broken;
  };
}

-- a front of what was pending and of a text was written, and the sink failed
pub adds_broken : (a b : SinkTold) (p q : Pending) (t : List ℕ) (n : ℕ) → p.failed ≡ false → q.failed ≡ true → Grows a.bytes b.bytes (take n (p.octets ++ t)) → a.faults ≤ b.faults → Rose a.faults b.faults → Adds a b p q t
adds_broken a b p q t n was is told later rose = record {
  adds = λ start done h.
      let w = h.going was in
      let all = p.octets ++ t in record {
        later = omega (arith, later, h.later);
        going = λ whole. clash q.failed whole is;
        broken = λ _. record {
          front = w.front ++ take n all;
          left = drop n all;
          all = append_assoc w.front (take n all) (drop n all) ∙ ap (λ (x : List ℕ). w.front ++ x) (take-append-drop n all) ∙ sym (append_assoc w.front p.octets t) ∙ ap (λ (x : List ℕ). x ++ t) w.all;
          told = grows_more start.bytes a.bytes b.bytes w.front (take n all) w.told told;
          rose = rose_late start.faults a.faults b.faults h.later rose;
        };
      };
}

-- all was written, since the sink did not fail
pub closes_ok : (a b : SinkTold) (p q : Pending) → Adds a b p q [] → q.octets ≡ [] → q.failed ≡ false → Closes a b p Ok
closes_ok a b p q f empty going = record {
  closes = λ start done h.
      let k = f.adds start done h in
      let w = k.going going in record {
        later = k.later;
        written = λ _. subst (λ (x : List ℕ). Grows start.bytes b.bytes x) (sym (append-nil w.front) ∙ ap (λ (x : List ℕ). w.front ++ x) (sym empty) ∙ w.all ∙ append-nil done) w.told;
        failed = λ e. absurd cc;
      };
}

-- the sink failed
pub closes_failed : (a b : SinkTold) (p q : Pending) → Adds a b p q [] → q.failed ≡ true → Closes a b p Failed
closes_failed a b p q f broken = record {
  closes = λ start done h.
      let k = f.adds start done h in record {
        later = k.later;
        written = λ e. absurd cc;
        failed = λ _. subst (λ (x : List ℕ). Breaks start b x) (append-nil done) (k.broken broken);
      };
}

-- a whole text from a new block on
pub spells : (a b c : SinkTold) (p q : Pending) (t : List ℕ) (answer : Wrote) → p.octets ≡ [] → p.failed ≡ false → Adds a b p q t → Closes b c q answer → Spells a c t answer
spells a b c p q t answer none going f k =
    let start : Holds a a p [] = record {
      later = omega arith;
      going = λ _. record { front = []; all = none; told = grows_none a.bytes };
      broken = λ broken. clash p.failed going broken;
    } in
    k.closes a t (f.adds a [] start)

-- the text of one more item behind those of the items so far
pub adds_turn : {X : Type 0} {a b c : SinkTold} {p q r : Pending} (f : X → List ℕ) (xs : List X) (i : ℕ) (d : X) → i < length xs → Adds a b p q (flat_map f (take i xs)) → Adds b c q r (f (get_or xs i d))
    → Adds a c p r (flat_map f (take (i + 1) xs))
adds_turn {X} {a} {b} {c} {p} {q} {r} f xs i d h so_far one =
    adds_as (adds_both so_far one) (flat_map_more f [] (take i xs) (get_or xs i d) ∙ ap (λ (ys : List X). flat_map f ys) (sym (take_more xs i d h)))

-- the text of all items
pub adds_all : {X : Type 0} {a b : SinkTold} {p q : Pending} (f : X → List ℕ) (xs : List X) (i : ℕ) → length xs ≤ i → Adds a b p q (flat_map f (take i xs)) → Adds a b p q (flat_map f xs)
adds_all {X} f xs i h all = adds_as all (ap (λ (ys : List X). flat_map f ys) (take_all i xs h))

pub encode_append : (xs ys : List ℕ) → encode_lower xs ++ encode_lower ys ≡ encode_lower (xs ++ ys)
unfolding encode_with
encode_append [] ys = refl
encode_append (x ∷ xs) ys = ap (λ (t : List ℕ). slice_index lower_digits (x / 16) ∷ (slice_index lower_digits (x % 16) ∷ t)) (encode_append xs ys)

-- the digits of some more octets
pub adds_digits : {a b c : SinkTold} {p q r : Pending} (xs : List ℕ) (i k : ℕ) (ys : List ℕ) → take k xs ≡ take i xs ++ ys → Adds a b p q (encode_lower (take i xs)) → Adds b c q r (encode_lower ys)
    → Adds a c p r (encode_lower (take k xs))
adds_digits xs i k ys e so_far more = adds_as (adds_both so_far more) (encode_append (take i xs) ys ∙ ap (λ (t : List ℕ). encode_lower t) (sym e))

journals_more : (s : ℕ) (js : List (List Entry)) (j : List Entry) → entry_lines s js ++ flat_map (entry_line (s + length js)) j ≡ entry_lines s (js ++ j ∷ [])
journals_more s [] j = let e : s + 0 ≡ s = omega arith in ap (λ (k : ℕ). flat_map (entry_line k) j) e ∙ sym (append-nil (flat_map (entry_line s) j))
journals_more s (i ∷ js) j =
    let e : s + length (i ∷ js) ≡ s + 1 + length js = omega arith in
    append_assoc (flat_map (entry_line s) i) (entry_lines (s + 1) js) (flat_map (entry_line (s + length (i ∷ js))) j)
    ∙ ap (λ (k : ℕ). flat_map (entry_line s) i ++ (entry_lines (s + 1) js ++ flat_map (entry_line k) j)) e
    ∙ ap (λ (t : List ℕ). flat_map (entry_line s) i ++ t) (journals_more (s + 1) js j)

-- the lines of one more shard
pub adds_journal : {a b c : SinkTold} {p q r : Pending} (js : List (List Entry)) (i : ℕ) (d : List Entry) → i < length js → Adds a b p q (entry_lines 0 (take i js)) → Adds b c q r (flat_map (entry_line i) (get_or js i d))
    → Adds a c p r (entry_lines 0 (take (i + 1) js))
adds_journal js i d h so_far one =
    let at : i ≡ 0 + length (take i js) = omega (arith, length-take i js) in
    adds_as (adds_both so_far one) (
    ap (λ (k : ℕ). entry_lines 0 (take i js) ++ flat_map (entry_line k) (get_or js i d)) at ∙ journals_more 0 (take i js) (get_or js i d) ∙ ap (λ (ks : List (List Entry)). entry_lines 0 ks) (sym (take_more js i d h))
    )
