use Rattle.std.proofs.Common.{◌==◌, ℕ, drop, take, ap, sym, ◌∙◌, rules}
use Rattle.std.specs.Prelude.{IsTrue, position}
use Rattle.bng_spell.specs.Plain.{is_separator}
use Rattle.bng_spell.proofs.Reading.{until_no_stop, until_no_value, until_found}
use Rattle.bng_spell.proofs.piece.UntilPiece.read.Goals as goal

pub returns-in_err-length-clause-none : goal.returns-in_err-length-clause-none
returns-in_err-length-clause-none g c = rw c.from_residual.ensures (λ u rest f e.
    until_no_stop g.T.Token.fits g.T.Token.name g.row.STOP g.met.T.Token.plain (drop c.args.at c.args.whole.now)
    (sym c.in_err-length.was ∙ c.place_of.ensures ∙ ap (position (λ (k : ℕ). k == g.row.STOP)) c.rest_of-rest.ensures) u.0 rest f.1 f.0 e)

pub returns-in_err-value-clause-none : goal.returns-in_err-value-clause-none
returns-in_err-value-clause-none g c = rw c.from_residual-in_err-value.ensures (λ u rest f e.
    until_no_value g.T.Token.fits g.T.Token.name g.row.STOP g.met.T.Token.plain (drop c.args.at c.args.whole.now) c.in_ok-length.length
    (sym c.in_ok-length.was ∙ c.place_of.ensures ∙ ap (position (λ (k : ℕ). k == g.row.STOP)) c.rest_of-rest.ensures)
    (λ v fv same. c.in_err-value.ensures.none v fv (ap (take c.in_ok-length.length) c.rest_of-rest.ensures ∙ same)) u.0 rest f.1 f.0 e)

pub returns-clause-found : goal.returns-clause-found
returns-clause-found g c =
    let stop : IsTrue (is_separator g.row.STOP) = search (rules, c.is_separator.ensures) in (
      (c.in_ok-value.ensures.found.0, stop),
      until_found g.row.STOP (g.T.Token.name c.in_ok-value.value) c.args.whole.now c.args.at c.in_ok-length.length c.requires
          (sym c.in_ok-length.was ∙ c.place_of.ensures ∙ ap (position (λ (k : ℕ). k == g.row.STOP)) c.rest_of-rest.ensures)
          (ap (take c.in_ok-length.length) (sym c.rest_of-rest.ensures) ∙ c.in_ok-value.ensures.found.1),
    )
