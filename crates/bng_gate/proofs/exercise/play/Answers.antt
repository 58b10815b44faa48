use Rattle.std.proofs.lemmas.Result.{IfErr-weaker, IfOk-weaker}
use Rattle.bng_gate.proofs.Exercising.{keeps_rules}
use Rattle.bng_gate.proofs.Played.{played, unplayed}
use Rattle.bng_gate.proofs.exercise.play.Goals as goal

pub serve_all-requires-clause-rules : goal.serve_all-requires-clause-rules
serve_all-requires-clause-rules g c κs within = keeps_rules c.args.workers c.requires.some_worker c.requires.few_workers c.in-Ok.config c.in-Ok.ensures

pub returns-clause-played : goal.returns-clause-played
returns-clause-played g c =
    let told = g.T.Trace.told in
    IfOk-weaker c.serve_all.result _ _
    (played c.args.workers c.in-Ok.config c.in-Ok.ensures _ c.in-Ok-open.ensures.clock (told c.args.trace.now) (told c.serve_all.new.trace) c.serve_all.new.clock.last)
    c.serve_all.ensures.served

pub returns-clause-refused : goal.returns-clause-refused
returns-clause-refused g c =
    let told = g.T.Trace.told in
    IfErr-weaker c.serve_all.result _ _
    (unplayed c.args.workers c.in-Ok.config c.in-Ok.ensures _ c.in-Ok-open.ensures.clock (told c.args.trace.now) (told c.serve_all.new.trace) c.serve_all.new.clock.last)
    c.serve_all.ensures.refused
