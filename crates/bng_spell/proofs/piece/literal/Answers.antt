use Rattle.std.proofs.Common.{sym, ◌∙◌}
use Rattle.std.proofs.lemmas.Bool.{false≢true}
use Rattle.std.proofs.lemmas.Bool.Decides.{Decides-eqb}
use Rattle.std.proofs.lemmas.Slice.Eq.{starts_is}
use Rattle.bng_spell.proofs.Reading.{literal_found}
use Rattle.bng_spell.proofs.piece.literal.Goals as goal

pub returns-then-starts_with-clause-found : goal.returns-then-starts_with-clause-found
returns-then-starts_with-clause-found c =
    let starts = starts_is Decides-eqb c.rest_of-rest.result.now c.args.text.now c.starts_with.result c.starts_with.ensures.value in
    literal_found c.args.whole.now c.args.text.now c.rest_of-rest.result.now c.args.at c.requires c.rest_of-rest.ensures (c.starts_with.ensures.bound c.if-starts_with.true) (starts.0 c.if-starts_with.true)

pub returns-else-starts_with-clause-none : goal.returns-else-starts_with-clause-none
returns-else-starts_with-clause-none c =
    let starts = starts_is Decides-eqb c.rest_of-rest.result.now c.args.text.now c.starts_with.result c.starts_with.ensures.value in
    λ rest e. false≢true (sym c.if-starts_with.false ∙ starts.1 rest (c.rest_of-rest.ensures ∙ e))
