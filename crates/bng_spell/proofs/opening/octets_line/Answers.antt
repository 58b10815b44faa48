use Rattle.std.proofs.Common.{◌≡◌, ◌+◌, ◌<◌, ◌==◌, ℕ, List, [], length, take, ap, sym, subst, ◌∙◌}
use Rattle.std.specs.Prelude.{position}
use Rattle.std.proofs.lemmas.Bool.{false≢true}
use Rattle.std.proofs.lemmas.Bool.Decides.{Decides-eqb}
use Rattle.std.proofs.lemmas.Slice.Eq.{slice_eq-Decides}
use Rattle.hex.specs.Hex.{encode_lower}
use Rattle.bng_spell.specs.Kept.{AreOctets}
use Rattle.bng_spell.specs.Standing.{Stands}
use Rattle.bng_spell.specs.Many.{octets_line_text}
use Rattle.bng_spell.proofs.OctetLines.{no_line_end, no_octets, octets_stand, not_decoded, other_digits, octets_decoded, octets_told, some_octets, no_octets_left}
use Rattle.bng_spell.proofs.opening.octets_line.Goals as goal
use Rattle.bng_spell.proofs.opening.octets_line.Goals.{else-not-is_empty-via-then-not-is_empty+else-are_digits, else-not-is_empty-via-else-not-is_empty}

pub returns-in_default-clause-none : goal.returns-in_default-clause-none
returns-in_default-clause-none c =
    no_line_end c.args.whole.now c.args.at (sym c.in_default.is ∙ c.place_of.ensures ∙ ap (position (λ (k : ℕ). k == 10)) c.rest_of-rest.ensures)

pub returns-then-eq-clause-found : goal.returns-then-eq-clause-found
returns-then-eq-clause-found c =
    let n = c.in-Some.length in
    let some = sym c.in-Some.is ∙ c.place_of.ensures ∙ ap (position (λ (k : ℕ). k == 10)) c.rest_of-rest.ensures in
    let decides = slice_eq-Decides Decides-eqb (take n c.rest_of-rest.result.now) c.as_slice.result.now c.eq.result c.eq.ensures in
    subst (λ (o : List ℕ). AreOctets o × Stands c.args.whole.now c.args.at (octets_line_text o) (c.args.at + n + 1)) (sym c.new.ensures.items)
    (tt, octets_stand c.args.whole.now c.args.at n [] c.requires some (ap (take n) (sym c.rest_of-rest.ensures) ∙ decides.0 c.if-eq.true ∙ c.as_slice.ensures))

pub returns-then-are_digits-clause-found : goal.returns-then-are_digits-clause-found
returns-then-are_digits-clause-found c =
    let n = c.in-Some.length in
    let field = take n c.rest_of-rest.result.now in
    let octets = c.in-Ok.octets.items in
    let some = sym c.in-Some.is ∙ c.place_of.ensures ∙ ap (position (λ (k : ℕ). k == 10)) c.rest_of-rest.ensures in
    let digits = c.are_digits.ensures.0 c.if-are_digits.true ∙ ap (λ (o : List ℕ). encode_lower o) c.as_slice-then-not-is_empty.ensures.value in (
      octets_decoded field octets c.in-Ok.ensures.ok,
      octets_stand c.args.whole.now c.args.at n octets c.requires some
          (ap (take n) (sym c.rest_of-rest.ensures) ∙ octets_told field octets (some_octets octets c.is_empty.result (c.is_empty.ensures ∙ ap (λ (k : ℕ). k == 0) c.in-Ok.octets.ok.0) c.if-not-is_empty.true) digits),
    )

pub returns-else-not-is_empty-clause-none : goal.returns-else-not-is_empty-clause-none
returns-else-not-is_empty-clause-none c =
    let n = c.in-Some.length in
    let field = take n c.rest_of-rest.result.now in
    let octets = c.in-Ok.octets.items in
    let some = sym c.in-Some.is ∙ c.place_of.ensures ∙ ap (position (λ (k : ℕ). k == 10)) c.rest_of-rest.ensures in
    let decides = slice_eq-Decides Decides-eqb field c.as_slice.result.now c.eq.result c.eq.ensures in
    let never : 0 < length octets → field ≡ encode_lower octets → ⊥ =
    elim c.else-not-is_empty.branch [
      | else-not-is_empty-via-then-not-is_empty+else-are_digits w ↦
          λ h e. false≢true (sym w.if-are_digits.false ∙ w.are_digits.ensures.1 (e ∙ ap (λ (o : List ℕ). encode_lower o) (sym w.as_slice-then-not-is_empty.ensures.value)))
      | else-not-is_empty-via-else-not-is_empty w ↦ λ h e. no_octets_left octets c.is_empty.result (c.is_empty.ensures ∙ ap (λ (k : ℕ). k == 0) c.in-Ok.octets.ok.0) w.if-not-is_empty.false h
    ] in
    no_octets c.args.whole.now c.args.at n some
    (λ bytes p e.
    other_digits field octets (λ h. false≢true (sym c.if-eq.false ∙ decides.1 (h ∙ sym c.as_slice.ensures))) c.in-Ok.ensures.ok never bytes p (ap (take n) c.rest_of-rest.ensures ∙ e))

pub returns-in_default-error : goal.returns-in_default-error
returns-in_default-error c =
    let n = c.in-Some.length in
    let field = take n c.rest_of-rest.result.now in
    let some = sym c.in-Some.is ∙ c.place_of.ensures ∙ ap (position (λ (k : ℕ). k == 10)) c.rest_of-rest.ensures in
    let decides = slice_eq-Decides Decides-eqb field c.as_slice.result.now c.eq.result c.eq.ensures in
    record {
      found = tt;
      none =
          no_octets c.args.whole.now c.args.at n some
          (λ bytes p e.
          not_decoded field c.in-Err.error (λ h. false≢true (sym c.if-eq.false ∙ decides.1 (h ∙ sym c.as_slice.ensures))) c.in_default-error.not-OutOfMemory c.in-Err.ensures.err bytes p
          (ap (take n) c.rest_of-rest.ensures ∙ e));
    }
