use Rattle.std.proofs.Common.{◌≡◌, List, inl, sym, ap, subst, ◌∙◌, arith, rules}
use Rattle.bng_ppp_wire.specs.declared.view.Opt.{Opt}
use Rattle.bng_ppp_wire.specs.View.{options_of, packet_of}
use Rattle.bng_lcp.specs.declared.judgement.LcpRules.{LcpRules}
use Rattle.bng_lcp.specs.Judgement.{IsJudgement, rows_of}
use Rattle.bng_ppp.specs.Automaton.{Moves}
use Rattle.bng_ppp.specs.ConfigureRequest.{rules_of, answer_of}
use Rattle.bng_ppp.specs.Judgement.{event_of}
use Rattle.bng_ppp.specs.MaximumReceiveUnit.{mru_of}
use Rattle.bng_ppp.specs.Said.{said}
use Rattle.bng_ppp.proofs.MruLaws.{mru_low}
use Rattle.bng_ppp.proofs.RejectLaws.{spellable}
use Rattle.bng_ppp.proofs.lcp_link.LcpLink.judge.Goals as goal

pub answer-requires-clause-fits : goal.answer-requires-clause-fits
answer-requires-clause-fits c = spellable (rows_of c.rules-rules.result) c.rules-rules.result.no_more_naks (options_of c.in-Ok.found.items) c.args.packet.now.body.now c.judge-judged.result (search rules) (search rules) (search rules)

pub answer-requires-clause-mru : goal.answer-requires-clause-mru
answer-requires-clause-mru c = λ acked.
    let all = c.judge-judged.ensures.ack.0 acked in
    let limit : c.rules-rules.result.limit ≡ c.args.self.now.kept.limit = ap (λ (r : LcpRules). r.limit) c.rules-rules.ensures.rules in
    let lists : c.as_slice-2.result.now ≡ c.as_slice.result.now = c.as_slice-2.ensures.value ∙ sym c.as_slice.ensures.value in
    let same : mru_of c.args.self.now.kept.limit (options_of c.as_slice-2.result.now) ≡ mru_of c.rules-rules.result.limit (options_of c.as_slice.result.now) = cc in
    omega (arith, mru_low c.rules-rules.result c.as_slice.result.now 1500 all c.rules-rules.ensures.limit, same)

pub returns-clause-judges : goal.returns-clause-judges
returns-clause-judges c =
    let j = c.judge-judged.result in
    let on_list : IsJudgement c.rules-rules.result (options_of c.in-Ok.found.items) j =
    subst (λ (os : List Opt). IsJudgement c.rules-rules.result (options_of os) j) c.as_slice.ensures.value c.judge-judged.ensures.answer in
    let is : IsJudgement (rules_of c.args.self.now c.args.random.now) (options_of c.in-Ok.found.items) j =
    subst (λ (r : LcpRules). IsJudgement r (options_of c.in-Ok.found.items) j) c.rules-rules.ensures.rules on_list in
    let moves = subst (λ (os : List Opt). Moves (event_of j) (answer_of c.args.self.now.kept (packet_of c.args.packet.now) (options_of os) j) c.args.echo c.args.now c.args.self.now (said c.answer.new.steps) c.answer.new.self) c.as_slice-2.ensures.value c.answer.ensures.moves in
    inl (options_of c.in-Ok.found.items, j, search rules, search rules, is, moves)
