use Rattle.std.proofs.Common.{◌≡◌, ◌↔◌, List, [], subst, ◌∙◌, All}
use Rattle.bng_ppp_wire.specs.declared.option_table.OptionRow.{OptionRow}
use Rattle.bng_ppp_wire.specs.declared.judgement.Class.TheVariants as class
use Rattle.bng_ppp_wire.specs.declared.judgement.Judged.TheVariants as judged
use Rattle.bng_ppp_wire.specs.View.{option_of, options_of}
use Rattle.bng_ppp_wire.specs.Judgement.{class_of, added}
use Rattle.bng_ipcp.specs.Judgement.{rows_of}
use Rattle.bng_ipcp.proofs.judgement.judge.Goals as goal

pub returns-clause-ack : goal.returns-clause-ack
returns-clause-ack c =
    let n = c.args.rules.now.no_more_naks in
    let request = c.args.request.now in
    let table : c.as_slice.result.now ≡ rows_of c.args.rules.now = c.as_slice.ensures.value ∙ c.rows-rows.ensures in
    let P : List OptionRow → Type 0 = λ rows.
    (c.judge.result ≡ judged.Ack)
    ↔ (All (λ o. class_of rows n (option_of o) ≡ class.Ack) request × (added rows n (options_of request) ≡ [])) in
    subst P table c.judge.ensures.ack
