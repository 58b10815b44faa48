use Rattle.std.proofs.Common.{◌≡◌, ◌∙◌, Some, sym, ap, codes, option_map, string_bytes}
use Rattle.std.specs.Str.Parse.{ExplainsUnsignedError, HasUnsignedDigitsIfOk, ParsesUnsigned}
use Rattle.clap.specs.Words.{found_of}
use Rattle.clap.specs.Walk.{rows_of}
use Rattle.bng_words.specs.Meaning.{serve}
use Rattle.bng_words.proofs.MatchesLaws.{none_got, number_got, serve_values, some_got, text_got}
use Rattle.bng_words.proofs.matches.serve.Goals as goal

pub returns-in_default : goal.returns-in_default
returns-in_default c =
    λ m h.
    let values = serve_values (rows_of (found_of c.args.given.now)) m h in
    absurd (none_got c.get_str.result values.0 c.in_default.is (text_got c.get_str.result (found_of c.args.given.now) (codes "config") _ c.get_str.ensures values.4))

pub returns-in_default-get_one : goal.returns-in_default-get_one
returns-in_default-get_one c =
    λ m h.
    let values = serve_values (rows_of (found_of c.args.given.now)) m h in
    let got = number_got _ (λ t r. ParsesUnsigned 64 10 t r × ExplainsUnsignedError 10 t r × HasUnsignedDigitsIfOk t r) (λ t r g. g.0) c.get_one.result (found_of c.args.given.now) (codes "rounds") values.2 c.get_one.ensures.value values.6 in
    cc (c.in_default-get_one.is, got)

pub returns : goal.returns
returns c =
    λ m h.
    let values = serve_values (rows_of (found_of c.args.given.now)) m h in
    let text = some_got c.get_str.result c.in-Some.configuration values.0 c.in-Some.is (text_got c.get_str.result (found_of c.args.given.now) (codes "config") _ c.get_str.ensures values.4) in
    let configuration : string_bytes c.in_ok-configuration.configuration ≡ values.0 = c.in_ok-configuration.ensures.ok ∙ text in
    let trace : option_map (λ s. string_bytes s) c.in_ok-trace.trace ≡ values.1 =
    c.in_ok-trace.ensures.ok ∙ text_got c.get_str-2.result (found_of c.args.given.now) (codes "trace") _ c.get_str-2.ensures values.5 in
    let got = number_got _ (λ t r. ParsesUnsigned 64 10 t r × ExplainsUnsignedError 10 t r × HasUnsignedDigitsIfOk t r) (λ t r g. g.0) c.get_one.result (found_of c.args.given.now) (codes "rounds") values.2 c.get_one.ensures.value values.6 in
    let rounds : c.in-Some-get_one.rounds ≡ values.2 = cc (c.in-Some-get_one.is, got) in
    (λ i. serve (configuration i) (trace i) (rounds i)) ∙ sym values.3
