use Rattle.std.proofs.Common.{◌≡◌, ◌∙◌, Some, sym, ap, codes, option_map}
use Rattle.clap.specs.Words.{found_of}
use Rattle.clap.specs.Walk.{rows_of}
use Rattle.bng_words.specs.Meaning.{audit}
use Rattle.bng_words.proofs.MatchesLaws.{audit_values, none_got, some_got, text_got}
use Rattle.bng_words.proofs.matches.audit.Goals as goal

pub returns-in_default : goal.returns-in_default
returns-in_default c =
    λ m h.
    let values = audit_values (rows_of (found_of c.args.given.now)) m h in
    absurd (none_got c.get_str.result values.0 c.in_default.is (text_got c.get_str.result (found_of c.args.given.now) (codes "file") _ c.get_str.ensures values.2))

pub returns : goal.returns
returns c =
    λ m h.
    let values = audit_values (rows_of (found_of c.args.given.now)) m h in
    let text = some_got c.get_str.result c.in-Some.trace values.0 c.in-Some.is (text_got c.get_str.result (found_of c.args.given.now) (codes "file") _ c.get_str.ensures values.2) in
    ap audit (c.in_ok-trace.ensures.ok ∙ text) ∙ sym values.1
