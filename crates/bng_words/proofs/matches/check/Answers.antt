use Rattle.std.proofs.Common.{◌≡◌, ◌∙◌, Some, sym, ap, codes, option_map}
use Rattle.clap.specs.Words.{found_of}
use Rattle.clap.specs.Walk.{rows_of}
use Rattle.bng_words.specs.Meaning.{check}
use Rattle.bng_words.proofs.MatchesLaws.{check_values, none_got, some_got, text_got}
use Rattle.bng_words.proofs.matches.check.Goals as goal

pub returns-in_default : goal.returns-in_default
returns-in_default c =
    λ m h.
    let values = check_values (rows_of (found_of c.args.given.now)) m h in
    absurd (none_got c.get_str.result values.0 c.in_default.is (text_got c.get_str.result (found_of c.args.given.now) (codes "config") _ c.get_str.ensures values.2))

pub returns : goal.returns
returns c =
    λ m h.
    let values = check_values (rows_of (found_of c.args.given.now)) m h in
    let text = some_got c.get_str.result c.in-Some.configuration values.0 c.in-Some.is (text_got c.get_str.result (found_of c.args.given.now) (codes "config") _ c.get_str.ensures values.2) in
    ap check (c.in_ok-configuration.ensures.ok ∙ text) ∙ sym values.1
