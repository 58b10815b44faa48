use Rattle.std.proofs.Common.{rules, ◌≡◌, ◌<◌, length, refl, sym, subst, [], List, ◌∷◌, true≢false}
use Rattle.bng_words.specs.declared.place.Places.{Places}
use Rattle.bng_words.specs.Words.{Text, texts}
use Rattle.bng_words.specs.Line.{LinePiece}
use Rattle.bng_words.specs.Place.{Fits, place_of, without}
use Rattle.bng_words.specs.View.{piece_of}
use Rattle.bng_words.proofs.LineLaws.{next_pieces, no_pieces, no_texts, some_texts}
use Rattle.bng_words.proofs.PlaceLaws.{fits_less, fits_more, nothing_fits}
use Rattle.bng_words.proofs.line.+is_line.Goals as goal

pub returns-in_default : goal.returns-in_default
returns-in_default t c =
    let none : length c.args.words.now ≡ 0 = search rules in
    (λ f. absurd (true≢false (sym f)), λ all. absurd (c.in_default.not-Closed (nothing_fits c.args.places all.0 (texts c.args.words.now) (no_texts c.args.words.now none) all.1 all.2)))

pub returns-in_default-front : goal.returns-in_default-front
returns-in_default-front t c =
    let some : 0 < length c.args.words.now = search rules in
    (λ f. absurd (true≢false (sym f)), λ all. absurd (no_pieces (texts c.args.words.now) (some_texts c.args.words.now some) c.in_default-front.ensures.none all.0 all.1))

pub returns-in-Some-places_left : goal.returns-in-Some-places_left
returns-in-Some-places_left t c =
    let p = piece_of c.in-Some.piece in
    let left = c.in-Some-places_left.ensures in (
      λ is.
          let more = c.is_line.ensures.0 is in
          let P : Places → Type 0 = λ ps. Fits ps more.0 in
          (p ∷ more.0, (texts c.in-Some.rest.now, c.in-Some.ensures.found, more.1), fits_more c.args.places p more.0 left.0 (subst P left.1 more.2)),
      λ all.
          let next = next_pieces p (texts c.args.words.now) (texts c.in-Some.rest.now) all.0 c.in-Some.ensures.found all.1 in
          let P : List LinePiece → Type 0 = λ ps. Fits c.args.places ps in
          let Q : Places → Type 0 = λ ps. Fits ps next.0 in
          let less = fits_less c.args.places p next.0 (subst P next.1 all.2) in
          c.is_line.ensures.1 (next.0, next.2, subst Q (sym left.1) less.1),
    )

pub returns-in-None : goal.returns-in-None
returns-in-None t c = (
  λ f. absurd (true≢false (sym f)),
  λ all.
      let next = next_pieces (piece_of c.in-Some.piece) (texts c.args.words.now) (texts c.in-Some.rest.now) all.0 c.in-Some.ensures.found all.1 in
      let P : List LinePiece → Type 0 = λ ps. Fits c.args.places ps in
      absurd (c.in-None.ensures (fits_less c.args.places (piece_of c.in-Some.piece) next.0 (subst P next.1 all.2)).0),
)
