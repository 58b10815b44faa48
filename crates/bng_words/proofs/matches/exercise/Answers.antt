use Rattle.std.proofs.Common.{◌≡◌, ◌∙◌, Some, sym, ap, ap₂, codes}
use Rattle.std.specs.Str.Parse.{ExplainsUnsignedError, HasUnsignedDigitsIfOk, ParsesUnsigned}
use Rattle.clap.specs.Words.{found_of}
use Rattle.clap.specs.Walk.{rows_of}
use Rattle.bng_words.specs.Meaning.{exercise}
use Rattle.bng_words.proofs.MatchesLaws.{exercise_values, number_got}
use Rattle.bng_words.proofs.matches.exercise.Goals as goal

pub returns-in_default : goal.returns-in_default
returns-in_default c =
    λ m h.
    let values = exercise_values (rows_of (found_of c.args.given.now)) m h in
    let got = number_got _ (λ t r. ParsesUnsigned 64 10 t r × ExplainsUnsignedError 10 t r × HasUnsignedDigitsIfOk t r) (λ t r g. g.0) c.get_one.result (found_of c.args.given.now) (codes "subscribers") values.0 c.get_one.ensures.value values.3 in
    cc (c.in_default.is, got)

pub returns-in_default-get_one : goal.returns-in_default-get_one
returns-in_default-get_one c =
    λ m h.
    let values = exercise_values (rows_of (found_of c.args.given.now)) m h in
    let got = number_got _ (λ t r. ParsesUnsigned 64 10 t r × ExplainsUnsignedError 10 t r × HasUnsignedDigitsIfOk t r) (λ t r g. g.0) c.get_one-2.result (found_of c.args.given.now) (codes "workers") values.1 c.get_one-2.ensures.value values.4 in
    cc (c.in_default-get_one.is, got)

pub returns : goal.returns
returns c =
    λ m h.
    let values = exercise_values (rows_of (found_of c.args.given.now)) m h in
    let subscribers = number_got _ (λ t r. ParsesUnsigned 64 10 t r × ExplainsUnsignedError 10 t r × HasUnsignedDigitsIfOk t r) (λ t r g. g.0) c.get_one.result (found_of c.args.given.now) (codes "subscribers") values.0 c.get_one.ensures.value values.3 in
    let workers = number_got _ (λ t r. ParsesUnsigned 64 10 t r × ExplainsUnsignedError 10 t r × HasUnsignedDigitsIfOk t r) (λ t r g. g.0) c.get_one-2.result (found_of c.args.given.now) (codes "workers") values.1 c.get_one-2.ensures.value values.4 in
    let first : c.in-Some.subscribers ≡ values.0 = cc (c.in-Some.is, subscribers) in
    let second : c.in-Some-get_one.workers ≡ values.1 = cc (c.in-Some-get_one.is, workers) in
    ap₂ exercise first second ∙ sym values.2
