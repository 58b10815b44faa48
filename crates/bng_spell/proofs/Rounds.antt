-- A round that is read is the only one that stands there.
use Rattle.std.proofs.Common.{◌≡◌, ◌≢◌, ℕ, suc, ◌+◌, ◌^◌, ◌<◌, ◌≤◌, List, [], ◌∷◌, ◌++◌, length, drop, refl, sym, ap, subst, ◌∙◌, append_assoc, arith, lit<}
use Rattle.std.specs.Prelude.{codes}
use Rattle.std.specs.Fmt.{decimal}
use Rattle.std.specs.List.{AllByRecursion, flat_map}
use Rattle.bng_base.specs.Pieces.{IsCode}
use Rattle.bng_base.proofs.PieceLaws.{Stuck, same_split}
use Rattle.bng_base.specs.declared.item.Entry.{Entry}
use Rattle.bng_base.specs.declared.item.Item.{Item}
use Rattle.bng_base.specs.declared.item.Loose.{Loose}
use Rattle.bng_base.specs.declared.item.OutRecord.{OutRecord}
use Rattle.bng_base.specs.declared.round.RoundRecord.{RoundRecord}
use Rattle.bng_spell.specs.Fields.{numbers_text}
use Rattle.bng_spell.specs.Lines.{entry_line, entry_lines, loose_line, refused_line, out_line}
use Rattle.bng_spell.specs.Texts.{round_text}
use Rattle.bng_spell.specs.Kept.{IsEntry, IsLoose, IsItem, IsOut, IsKept, AreInOrder}
use Rattle.bng_spell.specs.Standing.{Stands, Lacks}
use Rattle.bng_spell.specs.Many.{AreLines, AreJournalsFrom, AreJournals}
use Rattle.bng_spell.proofs.FieldReading.{behind}
use Rattle.bng_spell.proofs.OneForm.{AreNumbers, AreEntries, ENTRY, LOOSE, REFUSED, OUT, END, front, front_loose, front_refused, front_out, front_end, front_after_refused, front_after_loose, front_after_entries, differ, differ_too, stuck_by, after_refused, after_loose, after_entries, outs_code, refused_code, loose_code, entry_code, stuck_later, head_code, round_is, numbers_once}

-- lines that stand there, and no further one, are those of each text that stands there
pub lines_once : {X : Type 0} (Fits : X → Type 0) (text : X → List ℕ) → IsCode Fits text → (whole : List ℕ) (at next : ℕ) (lines xs : List X) (tail : List ℕ)
    → AreLines Fits text whole at lines next → AllByRecursion Fits xs → Stuck Fits text tail → drop at whole ≡ flat_map text xs ++ tail → (lines ≡ xs) × (drop next whole ≡ tail)
lines_once Fits text code whole at next lines xs tail a f s e = same_split Fits text code lines xs (drop next whole) tail a.fit f a.no_more s (sym a.stand.is ∙ e)

-- one more journal behind those of the shards before
pub journals_push : (moment shard : ℕ) (whole : List ℕ) (at mid next : ℕ) (journals : List (List Entry)) (journal : List Entry) → AreJournalsFrom moment shard whole at journals mid
    → AreLines (IsEntry moment) (entry_line (shard + length journals)) whole mid journal next → AreJournalsFrom moment shard whole at (journals ++ journal ∷ []) next
journals_push moment shard whole at mid next [] journal p a =
    let first : AreLines (IsEntry moment) (entry_line shard) whole mid journal next = subst (λ (k : ℕ). AreLines (IsEntry moment) (entry_line k) whole mid journal next) (none_more shard) a in
    (next, subst (λ (k : ℕ). AreLines (IsEntry moment) (entry_line shard) whole k journal next) (sym p) first, refl)
  where
    none_more : (k : ℕ) → k + 0 ≡ k
    none_more k = omega arith
journals_push moment shard whole at mid next (j ∷ journals) journal p a =
    (p.0, p.1, journals_push moment (shard + 1) whole p.0 mid next journals journal p.2 (subst (λ (k : ℕ). AreLines (IsEntry moment) (entry_line k) whole mid journal next) (one_more shard (length journals)) a))
  where
    one_more : (k n : ℕ) → k + suc n ≡ k + 1 + n
    one_more k n = omega arith

-- journals stand there
pub journals_stand : (moment shard : ℕ) (whole : List ℕ) (at next : ℕ) (journals : List (List Entry)) → at ≤ length whole → AreJournalsFrom moment shard whole at journals next
    → Stands whole at (entry_lines shard journals) next
journals_stand moment shard whole at next [] h p = record {
  is = ap (λ (k : ℕ). drop k whole) p;
  within = subst (λ (k : ℕ). k ≤ length whole) p h;
}
journals_stand moment shard whole at next (journal ∷ journals) h p =
    let here = p.1.stand in
    let later = journals_stand moment (shard + 1) whole p.0 next journals here.within p.2 in
    record {
      is = here.is ∙ ap (λ (t : List ℕ). flat_map (entry_line shard) journal ++ t) later.is ∙ sym (append_assoc (flat_map (entry_line shard) journal) (entry_lines (shard + 1) journals) (drop next whole));
      within = later.within;
    }

pub journals_fit : (moment shard : ℕ) (whole : List ℕ) (at next : ℕ) (journals : List (List Entry)) → AreJournalsFrom moment shard whole at journals next → AreEntries moment journals
journals_fit moment shard whole at next [] p = tt
journals_fit moment shard whole at next (journal ∷ journals) p = (p.1.fit, journals_fit moment (shard + 1) whole p.0 next journals p.2)

journal_same : (j k : List Entry) (js ks : List (List Entry)) → j ≡ k → js ≡ ks → j ∷ js ≡ k ∷ ks
journal_same j k js ks e h = cc

-- journals that stand there are those of each text that stands there
journals_from_once : (moment shard : ℕ) (whole : List ℕ) (at next : ℕ) (js ks : List (List Entry)) (tail : List ℕ) → shard + length js ≤ 2 ^ 64 → length js ≡ length ks
    → AreJournalsFrom moment shard whole at js next → AreEntries moment ks → front tail ≢ ENTRY → drop at whole ≡ entry_lines shard ks ++ tail → (js ≡ ks) × (drop next whole ≡ tail)
journals_from_once moment shard whole at next [] [] tail few len p f away e = (refl, ap (λ (k : ℕ). drop k whole) (sym p) ∙ e)
journals_from_once moment shard whole at next [] (k ∷ ks) tail few len p f away e = absurd (omega (arith, len))
journals_from_once moment shard whole at next (j ∷ js) [] tail few len p f away e = absurd (omega (arith, len))
journals_from_once moment shard whole at next (j ∷ js) (k ∷ ks) tail few len p f away e =
    let below : shard < 2 ^ 64 = omega arith in
    let lens : length js ≡ length ks = omega (arith, len) in
    let more : shard + 1 + length js ≤ 2 ^ 64 = omega arith in
    let more' : shard + 1 + length ks ≤ 2 ^ 64 = omega (arith, more, lens) in
    let here = lines_once (IsEntry moment) (entry_line shard) (entry_code moment shard below) whole at p.0 j k (entry_lines (shard + 1) ks ++ tail) p.1 f.0
    (stuck_later moment shard (shard + 1) ks tail (omega arith) more' f.1 away) (e ∙ append_assoc (flat_map (entry_line shard) k) (entry_lines (shard + 1) ks) tail) in
    let then = journals_from_once moment (shard + 1) whole p.0 next js ks tail more lens p.2 f.1 away here.1 in
    (journal_same j k js ks here.0 then.0, then.1)

-- the head of a round
pub record Head (whole : List ℕ) (at next : ℕ) (number moment wall : ℕ) (allowances : List ℕ) : Type 0 where
  pub number_fits : number < 2 ^ 64
  pub moment_fits : moment < 2 ^ 64
  pub wall_fits : wall < 2 ^ 64
  pub few : length allowances < 2 ^ 64
  pub fit : AreNumbers allowances
  pub word_end : ℕ
  pub word : Stands whole at (codes "round ") word_end
  pub numbers_at : ℕ
  pub numbers : Stands whole word_end ((decimal number ++ 32 ∷ []) ++ ((decimal moment ++ 32 ∷ []) ++ (decimal wall ++ 32 ∷ []))) numbers_at
  pub last : Stands whole numbers_at (numbers_text allowances ++ 10 ∷ []) next

-- the lines of a round before its end
pub record Body (whole : List ℕ) (at next : ℕ) (moment : ℕ) (allowances : List ℕ) (journals : List (List Entry)) (loose : List Loose) (refused : List Item) (outs : List OutRecord) : Type 0 where
  pub entries_end : ℕ
  pub entries : AreJournals moment (length allowances) whole at journals entries_end
  pub loose_end : ℕ
  pub loose_lines : AreLines IsLoose loose_line whole entries_end loose loose_end
  pub refused_end : ℕ
  pub refused_lines : AreLines IsItem refused_line whole loose_end refused refused_end
  pub out_lines : AreLines IsOut out_line whole refused_end outs next

abbrev Behind : List ℕ → ℕ → RoundRecord → List ℕ → Type 0
Behind whole next r rest = drop next whole ≡ entry_lines 0 r.journals ++ after_entries r.loose r.refused r.outs rest

-- a round does not stand where its first word does not
pub no_word : (whole : List ℕ) (at : ℕ) → ((rest : List ℕ) → drop at whole ≢ codes "round " ++ rest) → Lacks IsKept round_text whole at
no_word whole at never r rest f e = never _ (e ∙ round_is r rest)

-- where its numbers do not
pub no_fields : (whole : List ℕ) (at mid : ℕ) → Stands whole at (codes "round ") mid
    → ((n m w : ℕ) (rest : List ℕ) → n < 2 ^ 64 → m < 2 ^ 64 → w < 2 ^ 64 → drop mid whole ≢ ((decimal n ++ 32 ∷ []) ++ ((decimal m ++ 32 ∷ []) ++ (decimal w ++ 32 ∷ []))) ++ rest)
    → Lacks IsKept round_text whole at
no_fields whole at mid s never r rest f e = never r.number r.moment r.wall _ f.number f.moment f.wall (behind whole (codes "round ") _ at mid s (e ∙ round_is r rest))

-- where its allowances do not
pub no_numbers : (whole : List ℕ) (at mid next : ℕ) (n m w : ℕ) → n < 2 ^ 64 → m < 2 ^ 64 → w < 2 ^ 64 → Stands whole at (codes "round ") mid
    → Stands whole mid ((decimal n ++ 32 ∷ []) ++ ((decimal m ++ 32 ∷ []) ++ (decimal w ++ 32 ∷ []))) next
    → Lacks AreNumbers (λ (ns : List ℕ). numbers_text ns ++ 10 ∷ []) whole next → Lacks IsKept round_text whole at
no_numbers whole at mid next n m w fn fm fw s t never r rest f e =
    let fields = behind whole (codes "round ") _ at mid s (e ∙ round_is r rest) in
    let head = head_code.once (n, (m, w)) (r.number, (r.moment, r.wall)) (drop next whole) _ (fn, (fm, fw)) (f.number, (f.moment, f.wall)) (sym t.is ∙ fields) in
    never r.allowances _ f.allowances head.1

-- the head is that of each round that stands there
head_once : (whole : List ℕ) (at next : ℕ) (n m w : ℕ) (ns : List ℕ) (r : RoundRecord) (rest : List ℕ) → Head whole at next n m w ns → IsKept r → drop at whole ≡ round_text r ++ rest
    → (m ≡ r.moment) × (ns ≡ r.allowances) × Behind whole next r rest
head_once whole at next n m w ns r rest h f e =
    let fields = behind whole (codes "round ") _ at h.word_end h.word (e ∙ round_is r rest) in
    let head = head_code.once (n, (m, w)) (r.number, (r.moment, r.wall)) (drop h.numbers_at whole) _ (h.number_fits, (h.moment_fits, h.wall_fits)) (f.number, (f.moment, f.wall)) (sym h.numbers.is ∙ fields) in
    let numbers = numbers_once ns r.allowances (drop next whole) _ h.fit f.allowances (sym h.last.is ∙ head.1) in
    (ap (λ (t : ℕ × (ℕ × ℕ)). t.1.0) head.0, numbers.0, numbers.1)

-- so are its lines
body_once : (whole : List ℕ) (at next : ℕ) (m : ℕ) (ns : List ℕ) (js : List (List Entry)) (l : List Loose) (a : List Item) (o : List OutRecord) (r : RoundRecord) (rest : List ℕ)
    → Body whole at next m ns js l a o → length ns < 2 ^ 64 → m ≡ r.moment → ns ≡ r.allowances → IsKept r → Behind whole at r rest → (l ≡ r.loose) × (drop next whole ≡ codes "end\n" ++ rest)
body_once whole at next m ns js l a o r rest b few same numbers f e =
    let shards : length js ≡ length r.journals = b.entries.0 ∙ ap length numbers ∙ sym f.journals in
    let count = b.entries.0 in
    let below : 0 + length js ≤ 2 ^ 64 = omega (arith, few, count) in
    let entries = subst (λ (k : ℕ). AreEntries k r.journals) (sym same) f.entries in
    let no_entry = front_after_entries ENTRY r.loose r.refused r.outs rest (differ ENTRY LOOSE (lit< tt)) (differ ENTRY REFUSED (lit< tt)) (differ ENTRY OUT (lit< tt)) (differ_too ENTRY END (lit< tt)) in
    let first = journals_from_once m 0 whole at b.entries_end js r.journals (after_entries r.loose r.refused r.outs rest) below shards b.entries.1 entries no_entry e in
    let no_loose = stuck_by IsLoose loose_line LOOSE (after_loose r.refused r.outs rest) front_loose (front_after_loose LOOSE r.refused r.outs rest (differ LOOSE REFUSED (lit< tt)) (differ LOOSE OUT (lit< tt)) (differ_too LOOSE END (lit< tt))) in
    let second = lines_once IsLoose loose_line loose_code whole b.entries_end b.loose_end l r.loose (after_loose r.refused r.outs rest) b.loose_lines f.loose no_loose first.1 in
    let no_refused = stuck_by IsItem refused_line REFUSED (after_refused r.outs rest) front_refused (front_after_refused REFUSED r.outs rest (differ_too REFUSED OUT (lit< tt)) (differ_too REFUSED END (lit< tt))) in
    let third = lines_once IsItem refused_line refused_code whole b.loose_end b.refused_end a r.refused (after_refused r.outs rest) b.refused_lines f.refused no_refused second.1 in
    let no_out = stuck_by IsOut out_line OUT (codes "end\n" ++ rest) front_out (λ h. differ END OUT (lit< tt) (sym (front_end rest) ∙ h)) in
    let fourth = lines_once IsOut out_line outs_code whole b.refused_end next o r.outs (codes "end\n" ++ rest) b.out_lines f.outs no_out third.1 in
    (second.0, fourth.1)

-- a round does not stand where its end does not
pub no_end : (whole : List ℕ) (at mid next : ℕ) (n m w : ℕ) (ns : List ℕ) (js : List (List Entry)) (l : List Loose) (a : List Item) (o : List OutRecord) → Head whole at mid n m w ns
    → Body whole mid next m ns js l a o → ((rest : List ℕ) → drop next whole ≢ codes "end\n" ++ rest) → Lacks IsKept round_text whole at
no_end whole at mid next n m w ns js l a o h b never r rest f e =
    let head = head_once whole at mid n m w ns r rest h f e in
    let body = body_once whole mid next m ns js l a o r rest b h.few head.0 head.1 f head.2 in
    never rest body.1

-- where its loose items are not in order
pub no_order : (whole : List ℕ) (at mid next : ℕ) (n m w : ℕ) (ns : List ℕ) (js : List (List Entry)) (l : List Loose) (a : List Item) (o : List OutRecord) → Head whole at mid n m w ns
    → Body whole mid next m ns js l a o → (AreInOrder l → ⊥) → Lacks IsKept round_text whole at
no_order whole at mid next n m w ns js l a o h b never r rest f e =
    let head = head_once whole at mid n m w ns r rest h f e in
    let body = body_once whole mid next m ns js l a o r rest b h.few head.0 head.1 f head.2 in
    never (subst AreInOrder (sym body.0) f.order)

-- a round whose parts stand one behind the other stands there
pub round_stands : (r : RoundRecord) (whole : List ℕ) (at mid last next : ℕ) → Head whole at mid r.number r.moment r.wall r.allowances → mid ≤ length whole
    → Body whole mid last r.moment r.allowances r.journals r.loose r.refused r.outs → Stands whole last (codes "end\n") next → Stands whole at (round_text r) next
round_stands r whole at mid last next h within b s =
    let entries = journals_stand r.moment 0 whole mid b.entries_end r.journals within b.entries.1 in
    let behind_outs = ap (λ (t : List ℕ). flat_map out_line r.outs ++ t) s.is in
    let behind_refused = ap (λ (t : List ℕ). flat_map refused_line r.refused ++ t) (b.out_lines.stand.is ∙ behind_outs) in
    let behind_loose = ap (λ (t : List ℕ). flat_map loose_line r.loose ++ t) (b.refused_lines.stand.is ∙ behind_refused) in
    let behind_entries = ap (λ (t : List ℕ). entry_lines 0 r.journals ++ t) (b.loose_lines.stand.is ∙ behind_loose) in
    let behind_numbers = ap (λ (t : List ℕ). (numbers_text r.allowances ++ 10 ∷ []) ++ t) (entries.is ∙ behind_entries) in
    let behind_fields = ap (λ (t : List ℕ). head_code.text (r.number, (r.moment, r.wall)) ++ t) (h.last.is ∙ behind_numbers) in
    record {
      is = h.word.is ∙ ap (λ (t : List ℕ). codes "round " ++ t) (h.numbers.is ∙ behind_fields) ∙ sym (round_is r (drop next whole));
      within = s.within;
    }

pub round_fits : (r : RoundRecord) (whole : List ℕ) (at mid last : ℕ) → Head whole at mid r.number r.moment r.wall r.allowances
    → Body whole mid last r.moment r.allowances r.journals r.loose r.refused r.outs → AreInOrder r.loose → IsKept r
round_fits r whole at mid last h b order = record {
  number = h.number_fits;
  moment = h.moment_fits;
  wall = h.wall_fits;
  allowances = h.fit;
  shards = h.few;
  journals = b.entries.0;
  entries = journals_fit r.moment 0 whole mid b.entries_end r.journals b.entries.1;
  loose = b.loose_lines.fit;
  order = order;
  refused = b.refused_lines.fit;
  outs = b.out_lines.fit;
}

pub head_of : (whole : List ℕ) (at word_end numbers_at next number moment wall : ℕ) (allowances : List ℕ) → number < 2 ^ 64 → moment < 2 ^ 64 → wall < 2 ^ 64 → length allowances < 2 ^ 64
    → AreNumbers allowances → Stands whole at (codes "round ") word_end
    → Stands whole word_end ((decimal number ++ 32 ∷ []) ++ ((decimal moment ++ 32 ∷ []) ++ (decimal wall ++ 32 ∷ []))) numbers_at
    → Stands whole numbers_at (numbers_text allowances ++ 10 ∷ []) next → Head whole at next number moment wall allowances
head_of whole at word_end numbers_at next number moment wall allowances fn fm fw few fit word numbers last = record {
  number_fits = fn;
  moment_fits = fm;
  wall_fits = fw;
  few = few;
  fit = fit;
  word_end = word_end;
  word = word;
  numbers_at = numbers_at;
  numbers = numbers;
  last = last;
}

-- a round of these parts is kept and stands there
pub round_found : (r : RoundRecord) (whole : List ℕ) (at mid last next : ℕ) (ns : List ℕ) (js : List (List Entry)) (l : List Loose) (a : List Item) (o : List OutRecord) → r.allowances ≡ ns
    → r.journals ≡ js → r.loose ≡ l → r.refused ≡ a → r.outs ≡ o → Head whole at mid r.number r.moment r.wall ns → mid ≤ length whole → Body whole mid last r.moment ns js l a o → AreInOrder l
    → Stands whole last (codes "end\n") next → IsKept r × Stands whole at (round_text r) next
round_found r whole at mid last next ns js l a o en ej el ea eo h within b order s =
    let head : Head whole at mid r.number r.moment r.wall r.allowances = rw en h in
    let body : Body whole mid last r.moment r.allowances r.journals r.loose r.refused r.outs = rw (en, ej, el, ea, eo) b in
    (round_fits r whole at mid last head body (subst AreInOrder (sym el) order), round_stands r whole at mid last next head within body s)
