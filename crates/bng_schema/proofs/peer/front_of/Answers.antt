use Rattle.std.proofs.Common.{◌≢◌, ◌<◌, ℕ, length, get_or, arith}
use Rattle.std.specs.Fmt.{decimal}
use Rattle.std.proofs.lemmas.Option.{MatchOption-at_none, MatchOption-at_some}
use Rattle.std.proofs.lemmas.Str.Pattern.{split_after}
use Rattle.bng_schema.specs.Address.{dot}
use Rattle.bng_schema.proofs.Decimals.{decimal_without}
use Rattle.bng_schema.proofs.peer.front_of.Goals as goal

no_dot : (n : ℕ) → n < 256 → (i : ℕ) → i < length (decimal n) → get_or (decimal n) i 0 ≢ dot
no_dot n small = decimal_without n dot (omega arith) (omega arith)

pub returns-in_err-number-clause-none : goal.returns-in_err-number-clause-none
returns-in_err-number-clause-none c = rw c.from_residual.ensures (λ n rest b.
    let r = c.split_once.result in
    let cut = split_after dot c.args.text.now (decimal n) rest r c.split_once.ensures.cases (omega arith) b.front (no_dot n b.octet) in
    MatchOption-at_none _ _ c.in_err-number.was cut)

pub returns-in_err-octet-clause-none : goal.returns-in_err-octet-clause-none
returns-in_err-octet-clause-none c = rw c.from_residual-in_err-octet.ensures (λ n rest b.
    let r = c.split_once.result in
    let cut = split_after dot c.args.text.now (decimal n) rest r c.split_once.ensures.cases (omega arith) b.front (no_dot n b.octet) in
    let parts = MatchOption-at_some _ _ _ c.in_ok-number.was cut in
    c.in_err-octet.ensures.none n b.octet parts.0)
