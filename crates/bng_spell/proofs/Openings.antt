-- An opening that is read is the only one that stands there.
use Rattle.std.proofs.Common.{◌≡◌, ◌≢◌, ℕ, ◌^◌, ◌<◌, List, [], ◌∷◌, ◌++◌, drop, refl, sym, ap, ◌∙◌, append_assoc}
use Rattle.std.specs.Prelude.{codes}
use Rattle.std.specs.Fmt.{decimal}
use Rattle.hex.specs.Hex.{encode_lower}
use Rattle.bng_spell.specs.Fields.{octets_text}
use Rattle.bng_spell.specs.Texts.{OpeningView, opening_text}
use Rattle.bng_spell.specs.Kept.{AreOctets, IsKeptOpening}
use Rattle.bng_spell.specs.Standing.{Stands, Lacks}
use Rattle.bng_spell.specs.Many.{octets_line_text}
use Rattle.bng_spell.proofs.LineCodes.{Code, both, number, digits}
use Rattle.bng_spell.proofs.FieldReading.{behind}
use Rattle.bng_spell.proofs.OneForm.{opening_is}

abbrev head_code : Code (ℕ × (ℕ × List ℕ))
head_code = both (number 32 refl) (both (number 32 refl) digits)

abbrev pub head_fields : ℕ → ℕ → List ℕ → List ℕ
head_fields now wall seed = (decimal now ++ 32 ∷ []) ++ ((decimal wall ++ 32 ∷ []) ++ (encode_lower seed ++ 32 ∷ []))

regroup : (a b c d x : List ℕ) → (a ++ (b ++ (c ++ d))) ++ x ≡ (a ++ (b ++ c)) ++ (d ++ x)
regroup a b c d x = simp append_assoc

pub opening_parted : (o : OpeningView) (x : List ℕ) → opening_text o ++ x ≡ codes "bng-trace 1\nopened " ++ (head_fields o.now o.wall o.seed ++ ((octets_text o.configuration ++ 10 ∷ []) ++ x))
opening_parted o x =
    opening_is o x
    ∙ ap (λ (t : List ℕ). codes "bng-trace 1\nopened " ++ t)
    (regroup (decimal o.now ++ 32 ∷ []) (decimal o.wall ++ 32 ∷ []) (encode_lower o.seed ++ 32 ∷ []) (octets_text o.configuration ++ 10 ∷ []) x)

-- an opening does not stand where its first words do not
pub no_opening : (text : List ℕ) → ((rest : List ℕ) → drop 0 text ≢ codes "bng-trace 1\nopened " ++ rest) → Lacks IsKeptOpening opening_text text 0
no_opening text never o rest f e = never _ (e ∙ opening_parted o rest)

-- where its numbers and its seed do not
pub no_head : (text : List ℕ) (mid : ℕ) → Stands text 0 (codes "bng-trace 1\nopened ") mid
    → ((o : OpeningView) (rest : List ℕ) → IsKeptOpening o → drop mid text ≢ head_fields o.now o.wall o.seed ++ rest) → Lacks IsKeptOpening opening_text text 0
no_head text mid s never o rest f e = never o _ f (behind text (codes "bng-trace 1\nopened ") _ 0 mid s (e ∙ opening_parted o rest))

-- where its configuration does not
pub no_configuration : (text : List ℕ) (mid next : ℕ) (now wall : ℕ) (seed : List ℕ) → now < 2 ^ 64 → wall < 2 ^ 64 → AreOctets seed → Stands text 0 (codes "bng-trace 1\nopened ") mid
    → Stands text mid (head_fields now wall seed) next → Lacks AreOctets octets_line_text text next → Lacks IsKeptOpening opening_text text 0
no_configuration text mid next now wall seed fn fw fs s t never o rest f e =
    let fields = behind text (codes "bng-trace 1\nopened ") _ 0 mid s (e ∙ opening_parted o rest) in
    let head = head_code.once (now, (wall, seed)) (o.now, (o.wall, o.seed)) (drop next text) _ (fn, (fw, fs)) (f.now, (f.wall, f.seed)) (sym t.is ∙ fields) in
    never o.configuration rest f.configuration head.1

-- an opening whose parts stand one behind the other stands there
pub opening_stands : (o : OpeningView) (text : List ℕ) (mid last next : ℕ) → Stands text 0 (codes "bng-trace 1\nopened ") mid → Stands text mid (head_fields o.now o.wall o.seed) last
    → Stands text last (octets_line_text o.configuration) next → Stands text 0 (opening_text o) next
opening_stands o text mid last next p q r = record {
  is =
      p.is ∙ ap (λ (t : List ℕ). codes "bng-trace 1\nopened " ++ t) (q.is ∙ ap (λ (t : List ℕ). head_fields o.now o.wall o.seed ++ t) r.is)
      ∙ sym (opening_parted o (drop next text));
  within = r.within;
}
