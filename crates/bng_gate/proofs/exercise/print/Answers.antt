use Rattle.std.proofs.Common.{◌≡◌, ◌+◌, ℕ, List, sum, sym, ap, subst, ◌∙◌}
use Rattle.std.proofs.lemmas.Bool.{false≢true}
use Rattle.bng_base.specs.Told.{Grows}
use Rattle.bng_desk.specs.declared.sums.Sums.{Sums}
use Rattle.bng_desk.specs.Model.{live_terms}
use Rattle.bng_gate.specs.Exercise.{exercise_text}
use Rattle.bng_gate.specs.Saying.{FailsToSay}
use Rattle.bng_gate.specs.Serving.{is_starved}
use Rattle.bng_gate.proofs.exercise.print.Goals as goal

pub returns-in-Ok-say_text-clause-printed : goal.returns-in-Ok-say_text-clause-printed
returns-in-Ok-say_text-clause-printed g c =
    let old = g.O.Sink.told c.args.out.now in
    let new = g.O.Sink.told c.say_text.new.sink in
    let says : Sums → List ℕ = λ s. exercise_text c.args.subscribers s.terms s.total s.stops (sum s.drops) in
    record {
      unstarved = λ is. false≢true (sym c.if-has_starved.false ∙ c.has_starved.ensures ∙ ap is_starved is);
      printed = subst (λ (t : List ℕ). Grows old.bytes new.bytes t) (c.as_bytes.ensures.value ∙ c.in-Ok.ensures ∙ ap says c.sums.ensures.sums) (c.say_text.ensures.written c.in-Ok-say_text.is);
      later = c.say_text.ensures.later;
      each_term = subst (λ (s : Sums). s.terms ≡ s.stops + live_terms c.args.desk.now.shards) c.sums.ensures.sums c.sums.ensures.each_term;
    }

pub returns-clause-refused : goal.returns-clause-refused
returns-clause-refused g c =
    let old = g.O.Sink.told c.args.out.now in
    let new = g.O.Sink.told c.say_text.new.sink in
    let says : Sums → List ℕ = λ s. exercise_text c.args.subscribers s.terms s.total s.stops (sum s.drops) in
    record {
      unstarved = λ is. false≢true (sym c.if-has_starved.false ∙ c.has_starved.ensures ∙ ap is_starved is);
      fails = subst (λ (t : List ℕ). FailsToSay old new t) (c.as_bytes.ensures.value ∙ c.in-Ok.ensures ∙ ap says c.sums.ensures.sums) (c.say_text.ensures.failed c.in-Failed.is);
    }
